-- Counting by injections.
use Rattle.std.proofs.Common.{◌≡◌, ℕ, zero, suc, ◌-◌, ◌<◌, ◌≤◌, cond, ltb, ◌≢◌, ◌⊎◌, inl, inr, arith}
use Rattle.std.proofs.lemmas.Bool.{cases_lt}
use Rattle.std.proofs.lemmas.Bool.Decides.{nat_tests}

-- the numbers without p, closed up
close : ℕ → ℕ → ℕ
close p x = cond (ltb p x) (x - 1) x

close_below : (p x k : ℕ) → x ≢ p → p < suc k → x < suc k → close p x < k
unfolding close
close_below p x k ne hp hx = grind (arith, nat_tests)

close_one : (p x y : ℕ) → x ≢ p → y ≢ p → close p x ≡ close p y → x ≡ y
unfolding close
close_one p x y nx ny e = grind (arith, nat_tests)

-- n different numbers below k: n is at most k
pub pigeons : (n k : ℕ) (f : ℕ → ℕ) → ((i : ℕ) → i < n → f i < k) → ((i j : ℕ) → i < n → j < n → f i ≡ f j → i ≡ j) → n ≤ k
pigeons zero k f below one = omega arith
pigeons (suc n) zero f below one = absurd (omega (arith, below n (omega arith)))
pigeons (suc n) (suc k) f below one =
    let apart : (i : ℕ) → i < n → f i ≢ f n = λ i h e. let s : i ≡ n = one i n (omega arith) (omega arith) e in omega arith in
    let less : n ≤ k =
    pigeons n k (λ i. close (f n) (f i))
    (λ i h. close_below (f n) (f i) k (apart i h) (below n (omega arith)) (below i (omega arith)))
    (λ i j hi hj e. one i j (omega arith) (omega arith) (close_one (f n) (f i) (f j) (apart i hi) (apart j hj) e)) in
    omega arith

-- a choice for each number below n, as a function
module _ (P : ℕ → ℕ → Type 0) (n : ℕ) (c : (i : ℕ) → i < n → (j : ℕ) × P i j) where
  pick : (i : ℕ) → (i < n) ⊎ (n ≤ i) → ℕ
  pick i (inl h) = (c i h).0
  pick i (inr h) = 0

  pick_has : (i : ℕ) (d : (i < n) ⊎ (n ≤ i)) → i < n → P i (pick i d)
  unfolding pick
  pick_has i (inl h) _ = (c i h).1
  pick_has i (inr h) l = absurd (omega arith)

  pub choose : (f : ℕ → ℕ) × ((i : ℕ) → i < n → P i (f i))
  choose = (λ i. pick i (cases_lt i n), λ i h. pick_has i (cases_lt i n) h)
