-- With fewer cells in reach than a half has, a cons that is tried again and again is granted in time.
use Rattle.std.proofs.Common.{◌≡◌, ℕ, zero, suc, ◌+◌, ◌-◌, ◌*◌, ◌<◌, ◌≤◌, Bool, true, false, eqb, leb, Ok, Err, Option, Result, sym, refl, ap, ◌∙◌, subst, inl, inr, mod-lt, div-add-mod', arith}
use Rattle.ledger.proofs.Collect.{scan_agrees, due_over}
use Rattle.ledger.proofs.Flip.{Agrees, flip_agrees}
use Rattle.ledger.proofs.Paces.{Progress, progress, flip_held}
use Rattle.ledger.proofs.Plenty.{few_copied, flip_due_line}
use Rattle.ledger.proofs.Turns.{Rooms, has_room, is_full, is_scanning, rooms}
use Rattle.ledger.specs.Law.{again, Within}
use Rattle.ledger.specs.Ledger.{Ledger, Few}
use Rattle.machine.specs.Calls.{Call, allocated, cons_call}
use Rattle.machine.specs.Heap.{Heap, Marks, used, scan}
use Rattle.machine.specs.Machine.{Machine, flip, flip_due, flip_line, collected, with_heap, room, ceiling}
use Rattle.machine.specs.declared.faults.MemoryFault.{MemoryFault}
use Rattle.machine.specs.declared.faults.MemoryFault.TheVariants.{Scanning, Full}
use Rattle.std.proofs.lemmas.Bool.{cases_eq, lt-ltb, eq-eqb, ne_eqb}
use Rattle.std.proofs.lemmas.Bool.Decides.{nat_tests}

pub ceiling_covers : (a b : ℕ) → 0 < b → a ≤ ceiling a b * b
ceiling_covers a b h = omega (arith, div-add-mod' (a + b - 1) b, mod-lt (a + b - 1) h)

pub ceiling_some : (a b : ℕ) → 0 < b → 0 < a → 0 < ceiling a b
ceiling_some a b hb ha = elim (cases_eq (ceiling a b) 0) [ inl z ↦ let c = ceiling_covers a b hb in let c' : a ≤ 0 * b = rw z at c in absurd (omega (arith, c')) | inr ne ↦ omega arith ]

within_more : (n n' : ℕ) (m : Machine) (d a b : ℕ) → n ≤ n' → Within n m d a b → Within n' m d a b
within_more n n' m d a b le (t, w) = (t, (omega (arith, w.0), w.1))

-- what a refusal for room says of the marks
full_marks : (m : Marks) → room m ≡ Err Full → (m.scanned ≡ m.copied) × (m.top ≤ m.copied)
full_marks m e = (grind (arith, nat_tests), grind (arith, nat_tests))

scanning_marks : (m : Marks) → room m ≡ Err Scanning → m.scanned ≡ m.copied → ⊥
scanning_marks m e = grind (arith, nat_tests)

unfinished_undue : (m : Machine) → (m.heap.marks.scanned ≡ m.heap.marks.copied → ⊥) → flip_due m ≡ false
unfinished_undue m ne = let t : eqb m.heap.marks.scanned m.heap.marks.copied ≡ false = ne_eqb _ _ ne in rw t

full_due : (m : Machine) → m.heap.marks.scanned ≡ m.heap.marks.copied → m.heap.marks.top ≤ m.heap.marks.copied → m.heap.marks.top ≤ m.heap.marks.size → flip_due m ≡ true
full_due m over no_room th =
    let t : eqb m.heap.marks.scanned m.heap.marks.copied ≡ true = eq-eqb _ _ over in
    let u : leb (flip_line m) (used m.heap.marks) ≡ true = grind (arith, nat_tests) in
    rw (t, u)

module _ (d a b : ℕ) (sd : d < 16) (sa : a < 16) (sb : b < 16) where
  cons_is : (m : Machine) → m.opened ≡ true → cons_call m d a b ≡ allocated (collected m) d a b
  cons_is m e = rw (e, lt-ltb d 16 sd, lt-ltb a 16 sa, lt-ltb b 16 sb)

  -- one try: granted, or a state to go on from
  try : (m : Machine) → m.opened ≡ true → (n : ℕ) {k : Result (Unit {0}) MemoryFault} → room (collected m).heap.marks ≡ k → Rooms k → (k ≡ Err Full → Within n (collected m) d a b) → (k ≡ Err Scanning → Within n (collected m) d a b) → Within (suc n) m d a b
  unfolding again
  try m e n q has_room f g = (0, (omega arith, ap (λ (c : Call (Unit {0})). c.answer) (cons_is m e) ∙ rw q))
  try m e n q is_full f g =
      let w = f refl in
      let after : (cons_call m d a b).after ≡ collected m = ap (λ (c : Call (Unit {0})). c.after) (cons_is m e) ∙ rw q in
      (suc w.0, (omega (arith, w.1.0), subst (λ (x : Machine). (cons_call (again w.0 x d a b) d a b).answer ≡ Ok tt) (sym after) w.1.1))
  try m e n q is_scanning f g =
      let w = g refl in
      let after : (cons_call m d a b).after ≡ collected m = ap (λ (c : Call (Unit {0})). c.after) (cons_is m e) ∙ rw q in
      (suc w.0, (omega (arith, w.1.0), subst (λ (x : Machine). (cons_call (again w.0 x d a b) d a b).answer ≡ Ok tt) (sym after) w.1.1))

  -- with no flip due, a cons scans
  undue_collected : (m : Machine) → flip_due m ≡ false → collected m ≡ with_heap m (scan m.terms.pace m.heap)
  undue_collected m e = rw e

  due_collected : (m : Machine) → flip_due m ≡ true → collected m ≡ with_heap (flip m) (scan m.terms.pace (flip m).heap)
  due_collected m e = rw e

  module _ {A : Type 0} (meant : ℕ → Option A) (l : Ledger A) (q : ℕ) (few : Few q l) where
    -- one try after a flip whose ledger had few cells in reach: only an unfinished scan can refuse it
    scan_try : (m : Machine) → m.opened ≡ true → (n : ℕ) (h : Heap) → Agrees meant (Few q) (collected m) l → q < (collected m).heap.marks.size → (collected m).heap.marks.top ≡ (collected m).heap.marks.size → Progress m.terms.pace h (collected m).heap
        → ((collected m).heap.marks.scanned < (collected m).heap.marks.copied → (collected m).heap.marks.scanned ≡ h.marks.scanned + m.terms.pace → Within n (collected m) d a b) → Within (suc n) m d a b
    scan_try m o n h agrees small top p go =
        try m o n refl (rooms (collected m).heap.marks)
        (λ e. let f = full_marks (collected m).heap.marks e in absurd (omega (arith, f.1, few_copied meant q (collected m) l agrees)))
        (λ e. let ne = scanning_marks (collected m).heap.marks e in
        go (omega (arith, agrees.sound.inv.order.s_b)) (elim p.far [ inl over ↦ absurd (ne over) | inr on ↦ on ]))

    -- the scan after that flip
    second_scan : (r : ℕ) (m : Machine) → m.opened ≡ true → Agrees meant (Few q) m l → q < m.heap.marks.size → m.heap.marks.top ≡ m.heap.marks.size → m.heap.marks.scanned < m.heap.marks.copied → m.heap.marks.size ≤ m.heap.marks.scanned + r * m.terms.pace → Within r m d a b
    second_scan zero m o agrees small top busy left = absurd (omega (arith, agrees.sound.inv.order.b_t, agrees.sound.inv.order.t_h))
    second_scan (suc r) m o agrees small top busy left =
        let undue = unfinished_undue m (λ e. omega arith) in
        let is = undue_collected m undue in
        let p = progress m.terms.pace m.heap agrees.sound.inv.order.s_b in
        let p' : Progress m.terms.pace m.heap (collected m).heap = subst (λ (x : Machine). Progress m.terms.pace m.heap x.heap) (sym is) p in
        let agrees' : Agrees meant (Few q) (collected m) l = subst (λ (x : Machine). Agrees meant (Few q) x l) (sym is) (scan_agrees meant (Few q) m.terms.pace m l agrees) in
        let opened' : (collected m).opened ≡ true = ap (λ (x : Machine). x.opened) is ∙ o in
        let pace' : (collected m).terms.pace ≡ m.terms.pace = ap (λ (x : Machine). x.terms.pace) is in
        scan_try m o r m.heap agrees' (omega (arith, p'.size)) (p'.top ∙ (top ∙ sym p'.size)) p'
        (λ busy' on. second_scan r (collected m) opened' agrees' (omega (arith, p'.size)) (p'.top ∙ (top ∙ sym p'.size)) busy' (rw (pace', p'.size, on) (omega arith)))

    -- the flip that is due
    due_flip : (Q : Ledger A → Type 0) (c : ℕ) (m : Machine) → m.opened ≡ true → Agrees meant Q m l → q < m.heap.marks.size → flip_due m ≡ true → m.heap.marks.size ≤ suc c * m.terms.pace → Within (suc c) m d a b
    due_flip Q c m o agrees small due left =
        let is = due_collected m due in
        let turned = flip_agrees meant Q (Few q) m l agrees (due_over m due) few in
        let held = flip_held m in
        let p = progress m.terms.pace (flip m).heap turned.sound.inv.order.s_b in
        let p' : Progress m.terms.pace (flip m).heap (collected m).heap = subst (λ (x : Machine). Progress m.terms.pace (flip m).heap x.heap) (sym is) p in
        let agrees' : Agrees meant (Few q) (collected m) l = subst (λ (x : Machine). Agrees meant (Few q) x l) (sym is) (scan_agrees meant (Few q) m.terms.pace (flip m) l turned) in
        let opened' : (collected m).opened ≡ true = ap (λ (x : Machine). x.opened) is ∙ o in
        let pace' : (collected m).terms.pace ≡ m.terms.pace = ap (λ (x : Machine). x.terms.pace) is in
        let size' : (collected m).heap.marks.size ≡ m.heap.marks.size = p'.size ∙ held.size in
        let top' : (collected m).heap.marks.top ≡ (collected m).heap.marks.size = p'.top ∙ (held.top ∙ sym size') in
        scan_try m o c (flip m).heap agrees' (omega (arith, size')) top' p'
        (λ busy' on. second_scan c (collected m) opened' agrees' (omega (arith, size')) top' busy' (rw (pace', size', on, held.scanned) (omega arith)))

    -- the scan left over from an earlier flip
    first_scan : (Q : Ledger A → Type 0) (c r : ℕ) (m : Machine) → m.opened ≡ true → Agrees meant Q m l → q < m.heap.marks.size → m.heap.marks.scanned < m.heap.marks.copied → m.heap.marks.size ≤ m.heap.marks.scanned + r * m.terms.pace → m.heap.marks.size ≤ suc c * m.terms.pace → Within (r + suc c) m d a b
    first_scan Q c zero m o agrees small busy left enough = absurd (omega (arith, agrees.sound.inv.order.b_t, agrees.sound.inv.order.t_h))
    first_scan Q c (suc r) m o agrees small busy left enough =
        let undue = unfinished_undue m (λ e. omega arith) in
        let is = undue_collected m undue in
        let p = progress m.terms.pace m.heap agrees.sound.inv.order.s_b in
        let p' : Progress m.terms.pace m.heap (collected m).heap = subst (λ (x : Machine). Progress m.terms.pace m.heap x.heap) (sym is) p in
        let agrees' : Agrees meant Q (collected m) l = subst (λ (x : Machine). Agrees meant Q x l) (sym is) (scan_agrees meant Q m.terms.pace m l agrees) in
        let opened' : (collected m).opened ≡ true = ap (λ (x : Machine). x.opened) is ∙ o in
        let pace' : (collected m).terms.pace ≡ m.terms.pace = ap (λ (x : Machine). x.terms.pace) is in
        within_more (suc (r + suc c)) (suc r + suc c) m d a b (omega arith)
        (try m o (r + suc c) refl (rooms (collected m).heap.marks)
        (λ e. let f = full_marks (collected m).heap.marks e in
        within_more (suc c) (r + suc c) (collected m) d a b (omega arith)
        (due_flip Q c (collected m) opened' agrees' (omega (arith, p'.size)) (full_due (collected m) f.0 f.1 agrees'.sound.inv.order.t_h) (rw (pace', p'.size) enough)))
        (λ e. let ne = scanning_marks (collected m).heap.marks e in
        let on : (collected m).heap.marks.scanned ≡ m.heap.marks.scanned + m.terms.pace = elim p'.far [ inl over ↦ absurd (ne over) | inr on ↦ on ] in
        first_scan Q c r (collected m) opened' agrees' (omega (arith, p'.size)) (omega (arith, agrees'.sound.inv.order.s_b)) (rw (pace', p'.size, on) (omega arith)) (rw (pace', p'.size) enough)))

    -- from any state
    in_time : (Q : Ledger A → Type 0) (c : ℕ) (m : Machine) → m.opened ≡ true → Agrees meant Q m l → q < m.heap.marks.size → m.heap.marks.size ≤ suc c * m.terms.pace → (due : Bool) → flip_due m ≡ due → Within (suc c + suc c) m d a b
    in_time Q c m o agrees small enough true due = within_more (suc c) (suc c + suc c) m d a b (omega arith) (due_flip Q c m o agrees small due enough)
    in_time Q c m o agrees small enough false undue =
        elim (cases_eq m.heap.marks.scanned m.heap.marks.copied) [
          | inl over ↦
              let below = flip_due_line m undue over in
              let p = progress m.terms.pace m.heap agrees.sound.inv.order.s_b in
              let same : (collected m).heap.marks ≡ m.heap.marks = ap (λ (x : Machine). x.heap.marks) (undue_collected m undue) ∙ p.over over in
              within_more 1 (suc c + suc c) m d a b (omega arith)
              (try m o 0 refl (rooms (collected m).heap.marks)
              (λ e. let f = full_marks m.heap.marks (rw same at e) in absurd (omega (arith, f.1, below, agrees.sound.inv.order.t_h)))
              (λ e. absurd (scanning_marks m.heap.marks (rw same at e) over)))
          | inr ne ↦ first_scan Q c (suc c) m o agrees small (omega (arith, agrees.sound.inv.order.s_b)) (omega (arith, enough)) enough
        ]

    pub granted_in_time : (Q : Ledger A → Type 0) (m : Machine) → m.opened ≡ true → Agrees meant Q m l → q < m.heap.marks.size → 0 < m.terms.pace → Within (2 * ceiling m.heap.marks.size m.terms.pace) m d a b
    granted_in_time Q m o agrees small paces =
        let C : ℕ = ceiling m.heap.marks.size m.terms.pace in
        let covers = ceiling_covers m.heap.marks.size m.terms.pace paces in
        let some = ceiling_some m.heap.marks.size m.terms.pace paces (omega arith) in
        let back : suc (C - 1) ≡ C = omega (arith, some) in
        within_more (suc (C - 1) + suc (C - 1)) (2 * C) m d a b (omega (arith, back))
        (in_time Q (C - 1) m o agrees small (rw back covers) (flip_due m) refl)
