-- Copied cells are counted by the live cells they came from.
use Rattle.std.proofs.Common.{◌≡◌, ℕ, ◌+◌, ◌-◌, ◌<◌, ◌≤◌, cond, ltb, ◌≢◌, Option, sym, ap, ◌∙◌, inl, inr, arith}
use Rattle.ledger.proofs.Copy.{put_same, put_other}
use Rattle.ledger.proofs.Invariant.{Inv}
use Rattle.ledger.proofs.Pigeons.{pigeons, choose}
use Rattle.ledger.proofs.Seen.{here, View, Used}
use Rattle.ledger.specs.Ledger.{Row, put}
use Rattle.machine.specs.Heap.{Marks, used}
use Rattle.std.proofs.lemmas.Bool.{cases_eq, cases_lt}
use Rattle.std.proofs.lemmas.Bool.Decides.{nat_tests}

-- a used cell's number among the used ones
rank : Marks → ℕ → ℕ
rank p j = cond (ltb j p.copied) j (p.copied + (j - p.top))

rank_below : (p : Marks) (j : ℕ) → p.copied ≤ p.top → p.top ≤ p.size → Used p j → rank p j < used p
unfolding rank
rank_below p j bt th u = elim (cases_lt j p.top) [
  | inl h ↦ let h' : j < p.copied = u.1 h in grind (arith, nat_tests)
  | inr h ↦ let s : j < p.size = u.0 in grind (arith, nat_tests)
]

rank_one : (p : Marks) (j k : ℕ) → p.copied ≤ p.top → Used p j → Used p k → rank p j ≡ rank p k → j ≡ k
unfolding rank
rank_one p j k bt u w e = elim (cases_lt j p.top) [
  | inl h ↦
      let h' : j < p.copied = u.1 h in
      elim (cases_lt k p.top) [ inl l ↦ let l' : k < p.copied = w.1 l in grind (arith, nat_tests) | inr l ↦ grind (arith, nat_tests) ]
  | inr h ↦ elim (cases_lt k p.top) [ inl l ↦ let l' : k < p.copied = w.1 l in grind (arith, nat_tests) | inr l ↦ grind (arith, nat_tests) ]
]

module _ {X : Type 0} (meant : ℕ → Option X) (Live : ℕ → Type 0) (own old : ℕ → ℕ) (v : View) (m : Marks) (g : Row X) (inv : Inv meant Live own old v m g) where
  copied_used : (i : ℕ) → i < m.copied → Used m i
  copied_used i h = (omega (arith, inv.order.b_t, inv.order.t_h), λ _. h)

  -- Any count of the live cells, by numbers below n, counts the copied ones; and one more while one waits.
  pub copied_few : (n : ℕ) (f : ℕ → ℕ) → ((j : ℕ) → Live j → f j < n) → ((j k : ℕ) → Live j → Live k → f j ≡ f k → j ≡ k) → m.copied ≤ n
  copied_few n f below one =
      let c = choose (λ i j. Live j × (own i ≡ old j)) m.copied inv.came in
      pigeons m.copied n (λ i. f (c.0 i)) (λ i h. below (c.0 i) (c.1 i h).0)
      (λ i k hi hk e.
      let s : c.0 i ≡ c.0 k = one (c.0 i) (c.0 k) (c.1 i hi).0 (c.1 k hk).0 e in
      inv.own_one i k (copied_used i hi) (copied_used k hk) ((c.1 i hi).1 ∙ (ap old s ∙ sym (c.1 k hk).1)))

  pub waiting_fewer : (n : ℕ) (f : ℕ → ℕ) (w : ℕ) → Live w → ((i : ℕ) → v.old_head w ≡ here i → ⊥) → ((j : ℕ) → Live j → f j < n) → ((j k : ℕ) → Live j → Live k → f j ≡ f k → j ≡ k) → m.copied < n
  waiting_fewer n f w live waits below one =
      let c = choose (λ i j. Live j × (own i ≡ old j)) m.copied inv.came in
      let F : ℕ → ℕ = put c.0 m.copied w in
      let apart : (i : ℕ) → i < m.copied → c.0 i ≢ w = λ i h e. waits i (inv.meet i w (copied_used i h) live ((c.1 i h).1 ∙ ap old e)) in
      let live-F : (i : ℕ) → i < m.copied + 1 → Live (F i) =
      λ i h. elim (cases_eq i m.copied) [
        | inl e ↦ rw (e, put_same c.0 m.copied w) live
        | inr ne ↦ rw (put_other c.0 m.copied w i ne) (c.1 i (omega arith)).0
      ] in
      let one-F : (i k : ℕ) → i < m.copied + 1 → k < m.copied + 1 → F i ≡ F k → i ≡ k =
      λ i k hi hk e. elim (cases_eq i m.copied) [
        | inl ei ↦ elim (cases_eq k m.copied) [
          | inl ek ↦ ei ∙ sym ek
          | inr nk ↦ absurd (apart k (omega arith) (sym (put_other c.0 m.copied w k nk) ∙ (sym e ∙ (ap F ei ∙ put_same c.0 m.copied w))))
        ]
        | inr ni ↦ elim (cases_eq k m.copied) [
          | inl ek ↦ absurd (apart i (omega arith) (sym (put_other c.0 m.copied w i ni) ∙ (e ∙ (ap F ek ∙ put_same c.0 m.copied w))))
          | inr nk ↦
              let s : c.0 i ≡ c.0 k = sym (put_other c.0 m.copied w i ni) ∙ (e ∙ put_other c.0 m.copied w k nk) in
              inv.own_one i k (copied_used i (omega arith)) (copied_used k (omega arith)) ((c.1 i (omega arith)).1 ∙ (ap old s ∙ sym (c.1 k (omega arith)).1))
        ]
      ] in
      let most : m.copied + 1 ≤ n =
      pigeons (m.copied + 1) n (λ i. f (F i)) (λ i h. below (F i) (live-F i h))
      (λ i k hi hk e. one-F i k hi hk (one (F i) (F k) (live-F i hi) (live-F k hk) e)) in
      omega arith

-- Live cells were used at the flip, so there are no more than were used then.
pub rank_counts : (p : Marks) → p.copied ≤ p.top → p.top ≤ p.size → (f : ℕ → ℕ) × (((j : ℕ) → Used p j → f j < used p) × ((j k : ℕ) → Used p j → Used p k → f j ≡ f k → j ≡ k))
rank_counts p bt th = (rank p, (λ j u. rank_below p j bt th u, λ j k u w e. rank_one p j k bt u w e))
