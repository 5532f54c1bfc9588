-- Copying a waiting cell keeps the invariant.
use Rattle.std.proofs.Common.{◌≡◌, ℕ, ◌+◌, ◌<◌, ◌≤◌, ◌≢◌, Option, sym, refl, ap, ◌∙◌, inl, inr, arith}
use Rattle.ledger.proofs.Invariant.{Inv, Ordered}
use Rattle.ledger.proofs.Seen.{here, View, Used, Clean, Never, Pair, pair_on}
use Rattle.ledger.specs.Ledger.{Row, put}
use Rattle.machine.specs.Heap.{Marks}
use Rattle.std.proofs.lemmas.Bool.{cases_eq, eq-eqb, ne_eqb}

pub put_same : {Y : Type 0} (f : ℕ → Y) (i : ℕ) (y : Y) → put f i y i ≡ y
put_same f i y = rw (eq-eqb i i refl)

pub put_other : {Y : Type 0} (f : ℕ → Y) (i : ℕ) (y : Y) (k : ℕ) → k ≢ i → put f i y k ≡ f k
put_other f i y k ne = rw (ne_eqb k i ne)

-- the marks with one cell more copied
pub record OneMore (m m' : Marks) : Type 0 where
  pub scanned : m'.scanned ≡ m.scanned
  pub copied : m'.copied ≡ m.copied + 1
  pub top : m'.top ≡ m.top
  pub size : m'.size ≡ m.size

-- The old cell j went as a pair to the cell at `copied`, and its old head refers there.
pub record Copied (v v' : View) (m : Marks) (j : ℕ) : Type 0 where
  pub new_head : v'.head m.copied ≡ v.old_head j
  pub new_tail : v'.tail m.copied ≡ v.old_tail j
  pub heads : (i : ℕ) → i < m.size → i ≢ m.copied → v'.head i ≡ v.head i
  pub tails : (i : ℕ) → i < m.size → i ≢ m.copied → v'.tail i ≡ v.tail i
  pub forward : v'.old_head j ≡ here m.copied
  pub old_heads : (k : ℕ) → k < m.size → k ≢ j → v'.old_head k ≡ v.old_head k
  pub old_tails : (k : ℕ) → k < m.size → v'.old_tail k ≡ v.old_tail k

module _ {X : Type 0} (meant : ℕ → Option X) (Live : ℕ → Type 0) (own old : ℕ → ℕ) (v v' : View) (m m' : Marks) (g : Row X) (j : ℕ)
    (inv : Inv meant Live own old v m g) (more : OneMore m m') (does : Copied v v' m j) (live : Live j) (inside : (k : ℕ) → Live k → k < m.size)
    (waits : (i : ℕ) → v.old_head j ≡ here i → ⊥) (room : m.copied < m.top) where
  order : Ordered m'
  order = record { s_b = omega (arith, inv.order.s_b, more.scanned, more.copied); b_t = omega (arith, more.copied, more.top); t_h = omega (arith, inv.order.t_h, more.top, more.size) }

  -- no used cell had this owner
  fresh : (i : ℕ) → Used m i → own i ≡ old j → ⊥
  fresh i u e = waits i (inv.meet i j u live e)

  shrunk : (i : ℕ) → Used m' i → i ≢ m.copied → Used m i
  shrunk i u ne = (omega (arith, more.size), λ h. let h' : i < m'.copied = u.1 (omega (arith, more.top)) in omega (arith, more.copied))

  pub grown : (i : ℕ) → Used m i → Used m' i × (put own m.copied (old j) i ≡ own i)
  grown i u =
      let ne : i ≢ m.copied = λ e. let h : i < m.copied = u.1 (omega arith) in omega arith in
      ((omega (arith, more.size), λ h. let h' : i < m.copied = u.1 (omega (arith, more.top)) in omega (arith, more.copied)), put_other own m.copied (old j) i ne)

  same_live : (k : ℕ) → Live k → Live k × (old k ≡ old k)
  same_live k l = (l, refl)

  used_small : (i : ℕ) → Used m i → i < m.size
  used_small i u = u.0

  new_pair : Pair meant (Used m') Live (put own m.copied (old j)) old (v'.head m.copied) (v'.tail m.copied) (g.heads (put own m.copied (old j) m.copied)) (g.tails (put own m.copied (old j) m.copied))
  new_pair = rw (does.new_head, does.new_tail, put_same own m.copied (old j)) (pair_on meant (λ i n. absurd n) same_live (inv.waiting j live waits))

  cells : (i : ℕ) → Used m' i → Pair meant (Used m') Live (put own m.copied (old j)) old (v'.head i) (v'.tail i) (g.heads (put own m.copied (old j) i)) (g.tails (put own m.copied (old j) i))
  cells i u = elim (cases_eq i m.copied) [
    | inl e ↦ rw e new_pair
    | inr ne ↦
        let u₀ : Used m i = shrunk i u ne in
        rw (does.heads i u₀.0 ne, does.tails i u₀.0 ne, put_other own m.copied (old j) i ne) (pair_on meant grown same_live (inv.cells i u₀))
  ]

  clean : (i : ℕ) → Used m' i → Clean m' i → Pair meant (Used m') Never (put own m.copied (old j)) old (v'.head i) (v'.tail i) (g.heads (put own m.copied (old j) i)) (g.tails (put own m.copied (old j) i))
  clean i u c =
      let ne : i ≢ m.copied = λ e. let h : m'.top ≤ i = c (omega (arith, inv.order.s_b, more.scanned)) in omega (arith, more.top) in
      let u₀ : Used m i = shrunk i u ne in
      let c₀ : Clean m i = λ h. let h' : m'.top ≤ i = c (omega (arith, more.scanned)) in omega (arith, more.top) in
      rw (does.heads i u₀.0 ne, does.tails i u₀.0 ne, put_other own m.copied (old j) i ne) (pair_on meant grown (λ k n. (n, refl)) (inv.clean i u₀ c₀))

  forwarded : (i k : ℕ) → Live k → v'.old_head k ≡ here i → (i < m'.copied) × (put own m.copied (old j) i ≡ old k)
  forwarded i k lk e = elim (cases_eq k j) [
    | inl same ↦
        let at : m.copied ≡ i = let h : here m.copied ≡ here i = sym does.forward ∙ (ap v'.old_head (sym same) ∙ e) in cc in
        (omega (arith, more.copied), ap (put own m.copied (old j)) (sym at) ∙ (put_same own m.copied (old j) ∙ ap old (sym same)))
    | inr ne ↦
        let f = inv.forwarded i k lk (sym (does.old_heads k (inside k lk) ne) ∙ e) in
        let nb : i ≢ m.copied = λ b. omega (arith, f.0) in
        (omega (arith, f.0, more.copied), put_other own m.copied (old j) i nb ∙ f.1)
  ]

  waiting : (k : ℕ) → Live k → ((i : ℕ) → v'.old_head k ≡ here i → ⊥) → Pair meant Never Live (put own m.copied (old j)) old (v'.old_head k) (v'.old_tail k) (g.heads (old k)) (g.tails (old k))
  waiting k lk waits' =
      let ne : k ≢ j = λ e. waits' m.copied (ap v'.old_head e ∙ does.forward) in
      rw (does.old_heads k (inside k lk) ne, does.old_tails k (inside k lk)) (pair_on meant (λ i n. absurd n) same_live (inv.waiting k lk (λ i e. waits' i (does.old_heads k (inside k lk) ne ∙ e))))

  own_in : (i : ℕ) → Used m' i → put own m.copied (old j) i < g.count
  own_in i u = elim (cases_eq i m.copied) [
    | inl e ↦ rw (e, put_same own m.copied (old j)) (inv.old_in j live)
    | inr ne ↦ rw (put_other own m.copied (old j) i ne) (inv.own_in i (shrunk i u ne))
  ]

  own_one : (i k : ℕ) → Used m' i → Used m' k → put own m.copied (old j) i ≡ put own m.copied (old j) k → i ≡ k
  own_one i k u w e = grind (arith, cases_eq i m.copied, cases_eq k m.copied, put_same own m.copied (old j), put_other own m.copied (old j), inv.own_one, fresh, shrunk)

  meet : (i k : ℕ) → Used m' i → Live k → put own m.copied (old j) i ≡ old k → v'.old_head k ≡ here i
  meet i k u lk e = elim (cases_eq i m.copied) [
    | inl at ↦
        let o : old j ≡ old k = sym (put_same own m.copied (old j)) ∙ (ap (put own m.copied (old j)) (sym at) ∙ e) in
        rw (sym (inv.old_one j k live lk o), at) does.forward
    | inr ne ↦
        let o : own i ≡ old k = sym (put_other own m.copied (old j) i ne) ∙ e in
        let kj : k ≢ j = λ s. fresh i (shrunk i u ne) (o ∙ ap old s) in
        does.old_heads k (inside k lk) kj ∙ inv.meet i k (shrunk i u ne) lk o
  ]

  came : (i : ℕ) → i < m'.copied → (k : ℕ) × (Live k × (put own m.copied (old j) i ≡ old k))
  came i h = elim (cases_eq i m.copied) [
    | inl e ↦ (j, (live, ap (put own m.copied (old j)) e ∙ put_same own m.copied (old j)))
    | inr ne ↦
        let c = inv.came i (omega (arith, more.copied)) in
        (c.0, (c.1.0, put_other own m.copied (old j) i ne ∙ c.1.1))
  ]

  pub copy_keeps : Inv meant Live (put own m.copied (old j)) old v' m' g
  copy_keeps =
      record {
        order = order;
        cells = cells;
        clean = clean;
        forwarded = forwarded;
        waiting = waiting;
        own_in = own_in;
        old_in = inv.old_in;
        own_one = own_one;
        old_one = inv.old_one;
        meet = meet;
        came = came;
      }
