-- Words of the store read against the two halves, which begin at the cells cb and ob.
use Rattle.std.proofs.Common.{◌≡◌, ℕ, ◌+◌, ◌-◌, ◌*◌, ◌<◌, ◌≤◌, true, false, cond, eqb, ltb, ◌⊎◌, List, get_or, arith}
use Rattle.ledger.proofs.Seen.{Seen, none, code, here, there, stray, View}
use Rattle.ledger.proofs.Turn.{swap}
use Rattle.machine.specs.Words.{refer, refers_into}
use Rattle.std.proofs.lemmas.Bool.Decides.{nat_tests}

unfoldable pub see : ℕ → ℕ → ℕ → ℕ → Seen
see size cb ob w =
    cond (eqb w 0) none
    (cond (ltb w 2147483648) (code w)
    (cond (refers_into cb size w) (here (w - refer cb)) (cond (refers_into ob size w) (there (w - refer ob)) (stray w))))

abbrev pub view : List ℕ → ℕ → ℕ → ℕ → View
view ws size cb ob =
    record {
      head = λ i. see size cb ob (get_or ws (2 * (cb + i)) 0);
      tail = λ i. see size cb ob (get_or ws (2 * (cb + i) + 1) 0);
      old_head = λ j. see size cb ob (get_or ws (2 * (ob + j)) 0);
      old_tail = λ j. see size cb ob (get_or ws (2 * (ob + j) + 1) 0);
    }

-- one half lies right after the other, and both lie in the store
pub record Halves (n size cb ob : ℕ) : Type 0 where
  pub apart : (ob ≡ cb + size) ⊎ (cb ≡ ob + size)
  pub cb_in : 2 * (cb + size) ≤ n
  pub ob_in : 2 * (ob + size) ≤ n

module _ (n size cb ob : ℕ) (halves : Halves n size cb ob) where
  pub see_here : (i : ℕ) → i < size → see size cb ob (refer (cb + i)) ≡ here i
  unfolding see
  see_here i h = let e : 2147483648 + (cb + i) - (2147483648 + cb) ≡ i = omega arith in grind (arith, nat_tests)

  pub see_there : (j : ℕ) → j < size → see size cb ob (refer (ob + j)) ≡ there j
  unfolding see
  see_there j h = let e : 2147483648 + (ob + j) - (2147483648 + ob) ≡ j = omega arith in grind (arith, nat_tests, halves.apart)

  pub from_here : (w i : ℕ) → see size cb ob w ≡ here i → (w ≡ refer (cb + i)) × (i < size)
  unfolding see
  from_here w i e = (grind (arith, nat_tests), grind (arith, nat_tests))

  pub from_there : (w j : ℕ) → see size cb ob w ≡ there j → (w ≡ refer (ob + j)) × (j < size)
  unfolding see
  from_there w j e = (grind (arith, nat_tests), grind (arith, nat_tests))

  pub from_none : (w : ℕ) → see size cb ob w ≡ none → w ≡ 0
  unfolding see
  from_none w e = grind (arith, nat_tests)

  pub from_code : (w c : ℕ) → see size cb ob w ≡ code c → (w ≡ c) × ((0 < c) × (c < 2147483648))
  unfolding see
  from_code w c e = (grind (arith, nat_tests), (grind (arith, nat_tests), grind (arith, nat_tests)))

  -- the tests that move makes
  pub old_refers : (w j : ℕ) → see size cb ob w ≡ there j → refers_into ob size w ≡ true
  unfolding see
  old_refers w j e = grind (arith, nat_tests)

  pub old_refers_not : (w : ℕ) → ((j : ℕ) → see size cb ob w ≡ there j → ⊥) → refers_into ob size w ≡ false
  unfolding see
  old_refers_not w never =
      let k : see size cb ob w ≡ there (w - refer ob) → ⊥ = never (w - refer ob) in
      grind (arith, nat_tests, halves.apart)

  pub refers : (w i : ℕ) → see size cb ob w ≡ here i → refers_into cb size w ≡ true
  unfolding see
  refers w i e = grind (arith, nat_tests)

  pub refers_not : (w : ℕ) → ((i : ℕ) → see size cb ob w ≡ here i → ⊥) → refers_into cb size w ≡ false
  unfolding see
  refers_not w never =
      let k : see size cb ob w ≡ here (w - refer cb) → ⊥ = never (w - refer cb) in
      grind (arith, nat_tests)

  -- seen from the other half
  pub see_swap : (w : ℕ) → see size ob cb w ≡ swap (see size cb ob w)
  unfolding see
  see_swap w = grind (arith, nat_tests, halves.apart)
