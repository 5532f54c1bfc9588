-- Writing a used cell, allocating one, and counting one as scanned keep the invariant.
use Rattle.std.proofs.Common.{◌≡◌, ℕ, ◌+◌, ◌<◌, ◌≤◌, ◌≢◌, Option, sym, refl, ap, ◌∙◌, inl, inr, arith}
use Rattle.ledger.proofs.Copy.{put_same, put_other}
use Rattle.ledger.proofs.Invariant.{Inv, Ordered}
use Rattle.ledger.proofs.Seen.{here, View, Used, Clean, Never, Pair, Stands, stands_on, pair_on}
use Rattle.ledger.specs.Ledger.{Row, Entry, put}
use Rattle.machine.specs.Heap.{Marks}
use Rattle.std.proofs.lemmas.Bool.{cases_eq}

-- every word but those of the current cell p is as it was
pub record Wrote (v v' : View) (m : Marks) (p : ℕ) : Type 0 where
  pub heads : (i : ℕ) → i < m.size → i ≢ p → v'.head i ≡ v.head i
  pub tails : (i : ℕ) → i < m.size → i ≢ p → v'.tail i ≡ v.tail i
  pub old_heads : (k : ℕ) → k < m.size → v'.old_head k ≡ v.old_head k
  pub old_tails : (k : ℕ) → k < m.size → v'.old_tail k ≡ v.old_tail k

-- the ledger's row is as it was but for cell c
pub record Rewrote {X : Type 0} (g g' : Row X) (c : ℕ) : Type 0 where
  pub count : g'.count ≡ g.count
  pub heads : (k : ℕ) → k ≢ c → g'.heads k ≡ g.heads k
  pub tails : (k : ℕ) → k ≢ c → g'.tails k ≡ g.tails k

module _ {X : Type 0} (meant : ℕ → Option X) (Live : ℕ → Type 0) (own old : ℕ → ℕ) (v v' : View) (m : Marks) (g g' : Row X) (p : ℕ)
    (inv : Inv meant Live own old v m g) (inside : (k : ℕ) → Live k → k < m.size) (used : Used m p) (does : Wrote v v' m p) (row : Rewrote g g' (own p))
    (pair : Pair meant (Used m) Live own old (v'.head p) (v'.tail p) (g'.heads (own p)) (g'.tails (own p)))
    (pure : Clean m p → Pair meant (Used m) Never own old (v'.head p) (v'.tail p) (g'.heads (own p)) (g'.tails (own p))) where
  other : (i : ℕ) → Used m i → i ≢ p → own i ≢ own p
  other i u ne e = ne (inv.own_one i p u used e)

  write_cells : (i : ℕ) → Used m i → Pair meant (Used m) Live own old (v'.head i) (v'.tail i) (g'.heads (own i)) (g'.tails (own i))
  write_cells i u = elim (cases_eq i p) [
    | inl e ↦ rw e pair
    | inr ne ↦ rw (does.heads i u.0 ne, does.tails i u.0 ne, row.heads (own i) (other i u ne), row.tails (own i) (other i u ne)) (inv.cells i u)
  ]

  write_clean : (i : ℕ) → Used m i → Clean m i → Pair meant (Used m) Never own old (v'.head i) (v'.tail i) (g'.heads (own i)) (g'.tails (own i))
  write_clean i u c = elim (cases_eq i p) [
    | inl e ↦ rw e (pure (λ h. let h' : m.top ≤ i = c (omega arith) in omega arith))
    | inr ne ↦ rw (does.heads i u.0 ne, does.tails i u.0 ne, row.heads (own i) (other i u ne), row.tails (own i) (other i u ne)) (inv.clean i u c)
  ]

  write_waiting : (k : ℕ) → Live k → ((i : ℕ) → v'.old_head k ≡ here i → ⊥) → Pair meant Never Live own old (v'.old_head k) (v'.old_tail k) (g'.heads (old k)) (g'.tails (old k))
  write_waiting k lk waits =
      let same = does.old_heads k (inside k lk) in
      let apart : old k ≢ own p = λ e. waits p (same ∙ inv.meet p k used lk (sym e)) in
      rw (same, does.old_tails k (inside k lk), row.heads (old k) apart, row.tails (old k) apart) (inv.waiting k lk (λ i e. waits i (same ∙ e)))

  pub write_keeps : Inv meant Live own old v' m g'
  write_keeps =
      record {
        order = inv.order;
        cells = write_cells;
        clean = write_clean;
        forwarded = λ i k lk e. inv.forwarded i k lk (sym (does.old_heads k (inside k lk)) ∙ e);
        waiting = write_waiting;
        own_in = λ i u. rw row.count (inv.own_in i u);
        old_in = λ k lk. rw row.count (inv.old_in k lk);
        own_one = inv.own_one;
        old_one = inv.old_one;
        meet = λ i k u lk e. does.old_heads k (inside k lk) ∙ inv.meet i k u lk e;
        came = inv.came;
      }

-- the marks with one cell more allocated
pub record OneLess (m m' : Marks) : Type 0 where
  pub scanned : m'.scanned ≡ m.scanned
  pub copied : m'.copied ≡ m.copied
  pub top : m.top ≡ m'.top + 1
  pub size : m'.size ≡ m.size

-- the ledger's row with one cell more
pub record Pushed {X : Type 0} (g g' : Row X) (h t : Entry X) : Type 0 where
  pub count : g'.count ≡ g.count + 1
  pub new_head : g'.heads g.count ≡ h
  pub new_tail : g'.tails g.count ≡ t
  pub heads : (k : ℕ) → k < g.count → g'.heads k ≡ g.heads k
  pub tails : (k : ℕ) → k < g.count → g'.tails k ≡ g.tails k

module _ {X : Type 0} (meant : ℕ → Option X) (Live : ℕ → Type 0) (own old : ℕ → ℕ) (v v' : View) (m m' : Marks) (g g' : Row X) (eh et : Entry X)
    (inv : Inv meant Live own old v m g) (inside : (k : ℕ) → Live k → k < m.size) (room : m.copied < m.top) (less : OneLess m m') (does : Wrote v v' m m'.top) (row : Pushed g g' eh et)
    (new_head : Stands meant (Used m) Never own old (v'.head m'.top) eh) (new_tail : Stands meant (Used m) Never own old (v'.tail m'.top) et) where
  grant_order : Ordered m'
  grant_order = record { s_b = omega (arith, inv.order.s_b, less.scanned, less.copied); b_t = omega (arith, less.copied, less.top); t_h = omega (arith, inv.order.t_h, less.top, less.size) }

  grant_shrunk : (i : ℕ) → Used m' i → i ≢ m'.top → Used m i
  grant_shrunk i u ne = (omega (arith, less.size), λ h. let h' : i < m'.copied = u.1 (omega (arith, less.top)) in omega (arith, less.copied))

  -- the cells that were used still are, with the same owners; the new cell was not among them
  pub grant_grown : (i : ℕ) → Used m i → Used m' i × (put own m'.top g.count i ≡ own i)
  grant_grown i u =
      let ne : i ≢ m'.top = λ e. let h : i < m.copied = u.1 (omega (arith, less.top)) in omega (arith, less.top) in
      ((omega (arith, less.size), λ h. let h' : i < m.copied = u.1 (omega (arith, less.top)) in omega (arith, less.copied)), put_other own m'.top g.count i ne)

  grant_new : Pair meant (Used m') Never (put own m'.top g.count) old (v'.head m'.top) (v'.tail m'.top) (g'.heads (put own m'.top g.count m'.top)) (g'.tails (put own m'.top g.count m'.top))
  grant_new =
      rw (put_same own m'.top g.count, row.new_head, row.new_tail)
      (record { of_head = stands_on meant (v'.head m'.top) eh grant_grown (λ k n. (n, refl)) new_head; of_tail = stands_on meant (v'.tail m'.top) et grant_grown (λ k n. (n, refl)) new_tail })

  grant_cells : (i : ℕ) → Used m' i → Pair meant (Used m') Live (put own m'.top g.count) old (v'.head i) (v'.tail i) (g'.heads (put own m'.top g.count i)) (g'.tails (put own m'.top g.count i))
  grant_cells i u = elim (cases_eq i m'.top) [
    | inl e ↦ rw e (pair_on meant (λ k w. (w, refl)) (λ k n. absurd n) grant_new)
    | inr ne ↦
        let u₀ : Used m i = grant_shrunk i u ne in
        rw (does.heads i u₀.0 ne, does.tails i u₀.0 ne, put_other own m'.top g.count i ne, row.heads (own i) (inv.own_in i u₀), row.tails (own i) (inv.own_in i u₀))
        (pair_on meant grant_grown (λ k l. (l, refl)) (inv.cells i u₀))
  ]

  grant_clean : (i : ℕ) → Used m' i → Clean m' i → Pair meant (Used m') Never (put own m'.top g.count) old (v'.head i) (v'.tail i) (g'.heads (put own m'.top g.count i)) (g'.tails (put own m'.top g.count i))
  grant_clean i u c = elim (cases_eq i m'.top) [
    | inl e ↦ rw e grant_new
    | inr ne ↦
        let u₀ : Used m i = grant_shrunk i u ne in
        let c₀ : Clean m i = λ h. let h' : m'.top ≤ i = c (omega (arith, less.scanned)) in omega (arith, less.top) in
        rw (does.heads i u₀.0 ne, does.tails i u₀.0 ne, put_other own m'.top g.count i ne, row.heads (own i) (inv.own_in i u₀), row.tails (own i) (inv.own_in i u₀))
        (pair_on meant grant_grown (λ k n. (n, refl)) (inv.clean i u₀ c₀))
  ]

  grant_waiting : (k : ℕ) → Live k → ((i : ℕ) → v'.old_head k ≡ here i → ⊥) → Pair meant Never Live (put own m'.top g.count) old (v'.old_head k) (v'.old_tail k) (g'.heads (old k)) (g'.tails (old k))
  grant_waiting k lk waits =
      let same = does.old_heads k (inside k lk) in
      rw (same, does.old_tails k (inside k lk), row.heads (old k) (inv.old_in k lk), row.tails (old k) (inv.old_in k lk))
      (pair_on meant (λ i n. absurd n) (λ i l. (l, refl)) (inv.waiting k lk (λ i e. waits i (same ∙ e))))

  grant_forwarded : (i k : ℕ) → Live k → v'.old_head k ≡ here i → (i < m'.copied) × (put own m'.top g.count i ≡ old k)
  grant_forwarded i k lk e =
      let f = inv.forwarded i k lk (sym (does.old_heads k (inside k lk)) ∙ e) in
      let ne : i ≢ m'.top = λ s. omega (arith, f.0, less.top) in
      (omega (arith, f.0, less.copied), put_other own m'.top g.count i ne ∙ f.1)

  grant_own_in : (i : ℕ) → Used m' i → put own m'.top g.count i < g'.count
  grant_own_in i u = elim (cases_eq i m'.top) [
    | inl e ↦ rw (e, put_same own m'.top g.count) (omega (arith, row.count))
    | inr ne ↦ rw (put_other own m'.top g.count i ne) (omega (arith, row.count, inv.own_in i (grant_shrunk i u ne)))
  ]

  -- no used cell has the new owner
  grant_fresh : (i : ℕ) → Used m i → own i ≡ g.count → ⊥
  grant_fresh i u e = omega (arith, inv.own_in i u)

  grant_own_one : (i k : ℕ) → Used m' i → Used m' k → put own m'.top g.count i ≡ put own m'.top g.count k → i ≡ k
  grant_own_one i k u w e = grind (arith, cases_eq i m'.top, cases_eq k m'.top, put_same own m'.top g.count, put_other own m'.top g.count, inv.own_one, grant_fresh, grant_shrunk)

  grant_meet : (i k : ℕ) → Used m' i → Live k → put own m'.top g.count i ≡ old k → v'.old_head k ≡ here i
  grant_meet i k u lk e = elim (cases_eq i m'.top) [
    | inl at ↦ absurd (let o : g.count ≡ old k = sym (put_same own m'.top g.count) ∙ (ap (put own m'.top g.count) (sym at) ∙ e) in omega (arith, inv.old_in k lk))
    | inr ne ↦ does.old_heads k (inside k lk) ∙ inv.meet i k (grant_shrunk i u ne) lk (sym (put_other own m'.top g.count i ne) ∙ e)
  ]

  grant_came : (i : ℕ) → i < m'.copied → (k : ℕ) × (Live k × (put own m'.top g.count i ≡ old k))
  grant_came i h =
      let c = inv.came i (omega (arith, less.copied)) in
      let ne : i ≢ m'.top = λ s. omega (arith, less.copied, less.top) in
      (c.0, (c.1.0, put_other own m'.top g.count i ne ∙ c.1.1))

  pub grant_keeps : Inv meant Live (put own m'.top g.count) old v' m' g'
  grant_keeps =
      record {
        order = grant_order;
        cells = grant_cells;
        clean = grant_clean;
        forwarded = grant_forwarded;
        waiting = grant_waiting;
        own_in = grant_own_in;
        old_in = λ k lk. omega (arith, row.count, inv.old_in k lk);
        own_one = grant_own_one;
        old_one = inv.old_one;
        meet = grant_meet;
        came = grant_came;
      }

-- the marks with one cell more scanned
pub record OneOn (m m' : Marks) : Type 0 where
  pub scanned : m'.scanned ≡ m.scanned + 1
  pub copied : m'.copied ≡ m.copied
  pub top : m'.top ≡ m.top
  pub size : m'.size ≡ m.size

module _ {X : Type 0} (meant : ℕ → Option X) (Live : ℕ → Type 0) (own old : ℕ → ℕ) (v : View) (m m' : Marks) (g : Row X)
    (inv : Inv meant Live own old v m g) (left : m.scanned < m.copied) (on : OneOn m m')
    (pure : Pair meant (Used m) Never own old (v.head m.scanned) (v.tail m.scanned) (g.heads (own m.scanned)) (g.tails (own m.scanned))) where
  scan_back : (i : ℕ) → Used m' i → Used m i
  scan_back i u = (omega (arith, on.size), λ h. let h' : i < m'.copied = u.1 (omega (arith, on.top)) in omega (arith, on.copied))

  pub scan_same : (i : ℕ) → Used m i → Used m' i × (own i ≡ own i)
  scan_same i u = ((omega (arith, on.size), λ h. let h' : i < m.copied = u.1 (omega (arith, on.top)) in omega (arith, on.copied)), refl)

  scan_clean : (i : ℕ) → Used m' i → Clean m' i → Pair meant (Used m') Never own old (v.head i) (v.tail i) (g.heads (own i)) (g.tails (own i))
  scan_clean i u c = elim (cases_eq i m.scanned) [
    | inl e ↦ rw e (pair_on meant scan_same (λ k n. (n, refl)) pure)
    | inr ne ↦
        let c₀ : Clean m i = λ h. let h' : m'.top ≤ i = c (omega (arith, on.scanned)) in omega (arith, on.top) in
        pair_on meant scan_same (λ k n. (n, refl)) (inv.clean i (scan_back i u) c₀)
  ]

  pub scan_keeps : Inv meant Live own old v m' g
  scan_keeps =
      record {
        order = record { s_b = omega (arith, on.scanned, on.copied); b_t = omega (arith, inv.order.b_t, on.copied, on.top); t_h = omega (arith, inv.order.t_h, on.top, on.size) };
        cells = λ i u. pair_on meant scan_same (λ k l. (l, refl)) (inv.cells i (scan_back i u));
        clean = scan_clean;
        forwarded = λ i k lk e. let f = inv.forwarded i k lk e in (omega (arith, f.0, on.copied), f.1);
        waiting = inv.waiting;
        own_in = λ i u. inv.own_in i (scan_back i u);
        old_in = inv.old_in;
        own_one = λ i k u w. inv.own_one i k (scan_back i u) (scan_back k w);
        old_one = inv.old_one;
        meet = λ i k u. inv.meet i k (scan_back i u);
        came = λ i h. inv.came i (omega (arith, on.copied));
      }
