-- The collector never looks past its halves: words beyond the store's end change nothing.
use Rattle.std.proofs.Common.{◌≡◌, ℕ, zero, suc, ◌+◌, ◌*◌, ◌<◌, ◌≤◌, Bool, true, false, cond, ltb, List, [], ◌∷◌, ◌++◌, length, get_or, set, Some, None, Option, refl, ap, ◌∙◌, arith}
use Rattle.ledger.proofs.Invariant.{Ordered}
use Rattle.ledger.specs.Padded.{pad_heap, padded}
use Rattle.machine.specs.Heap as heap
use Rattle.machine.specs.Heap.{Heap, Step, Marks, move, move_at, move_hold, along, scan, scan_cell, scan_over, scan_words, trade, with_words, raise_scanned}
use Rattle.machine.specs.Machine.{Machine, flip, flip_due, collected, with_heap, move_registers, move_holds}
use Rattle.machine.specs.Words.{refer, refers_into, cell_of, put_cell, cell_at}
use Rattle.std.proofs.lemmas.List.{length-set}
use Rattle.std.proofs.lemmas.Bool.{eqb-false}
use Rattle.std.proofs.lemmas.Bool.Decides.{nat_tests}

pub get_or_pad : (ws ex : List ℕ) (p : ℕ) → p < length ws → get_or (ws ++ ex) p 0 ≡ get_or ws p 0
get_or_pad [] ex p h = absurd (omega arith)
get_or_pad (w ∷ ws) ex zero h = refl
get_or_pad (w ∷ ws) ex (suc p) h = get_or_pad ws ex p (omega arith)

pub set_pad : (ws ex : List ℕ) (p x : ℕ) → p < length ws → set (ws ++ ex) p x ≡ set ws p x ++ ex
set_pad [] ex p x h = absurd (omega arith)
set_pad (w ∷ ws) ex zero x h = refl
set_pad (w ∷ ws) ex (suc p) x h = ap (λ l. w ∷ l) (set_pad ws ex p x (omega arith))

-- a heap that lies in its store, with its marks in order
pub record Tidy (h : Heap) : Type 0 where
  pub big : 4 * h.marks.size ≤ length h.words
  pub order : Ordered h.marks

abbrev pub pad_step : {Y : Type 0} → Step Y → List ℕ → Step Y
pad_step s ex = record { after = pad_heap s.after ex; value = s.value }

-- a reference into a half leads to a cell of it
into_bound : (base size w : ℕ) → refers_into base size w ≡ true → cell_of w < base + size
into_bound base size w e = grind (arith, nat_tests)

pub bases : (size : ℕ) (upper : Bool) → (cond upper size 0 + size ≤ 2 * size) × (cond upper 0 size + size ≤ 2 * size)
bases size true = (omega arith, omega arith)
bases size false = (omega arith, omega arith)

module _ (h : Heap) (tidy : Tidy h) (ex : List ℕ) where
  copy_pads : (c : ℕ) → c < 2 * h.marks.size → ltb h.marks.copied h.marks.top ≡ true → heap.copy_cell (pad_heap h ex) c ≡ pad_step (heap.copy_cell h c) ex
  copy_pads c small room =
      let b = bases h.marks.size h.upper in
      let free : h.marks.copied < h.marks.top = grind (arith, nat_tests) in
      let n : ℕ = heap.here h + h.marks.copied in
      let inside : heap.here h + h.marks.copied < 2 * h.marks.size = omega (arith, b.0, tidy.order.t_h) in
      let p₀ : 2 * c < length h.words = omega (arith, tidy.big) in
      let p₁ : 2 * c + 1 < length h.words = omega (arith, tidy.big) in
      let q₀ : 2 * (heap.here h + h.marks.copied) < length h.words = omega (arith, tidy.big) in
      let q₁ : 2 * (heap.here h + h.marks.copied) + 1 < length (set h.words (2 * (heap.here h + h.marks.copied)) (get_or h.words (2 * c) 0)) = omega (arith, tidy.big, length-set h.words (2 * (heap.here h + h.marks.copied)) (get_or h.words (2 * c) 0)) in
      let p₂ : 2 * c < length (put_cell h.words (heap.here h + h.marks.copied) (cell_at h.words c)) = omega (arith, p₀, length-set h.words (2 * (heap.here h + h.marks.copied)) (get_or h.words (2 * c) 0), length-set (set h.words (2 * (heap.here h + h.marks.copied)) (get_or h.words (2 * c) 0)) (2 * (heap.here h + h.marks.copied) + 1) (get_or h.words (2 * c + 1) 0)) in
      rw (get_or_pad h.words ex (2 * c) p₀, get_or_pad h.words ex (2 * c + 1) p₁, set_pad h.words ex (2 * (heap.here h + h.marks.copied)) (get_or h.words (2 * c) 0) q₀, set_pad (set h.words (2 * (heap.here h + h.marks.copied)) (get_or h.words (2 * c) 0)) ex (2 * (heap.here h + h.marks.copied) + 1) (get_or h.words (2 * c + 1) 0) q₁, set_pad (put_cell h.words (heap.here h + h.marks.copied) (cell_at h.words c)) ex (2 * c) (refer (heap.here h + h.marks.copied)) p₂)

  follow_by : (w : ℕ) → cell_of w < 2 * h.marks.size → (fwd room : Bool) → refers_into (heap.here h) h.marks.size (get_or h.words (2 * cell_of w) 0) ≡ fwd → ltb h.marks.copied h.marks.top ≡ room
      → cond fwd (heap.still (pad_heap h ex) (get_or h.words (2 * cell_of w) 0)) (cond room (heap.copy_cell (pad_heap h ex) (cell_of w)) (heap.still (pad_heap h ex) w))
      ≡ pad_step (cond fwd (heap.still h (get_or h.words (2 * cell_of w) 0)) (cond room (heap.copy_cell h (cell_of w)) (heap.still h w))) ex
  follow_by w small true room e f = refl
  follow_by w small false true e f = copy_pads (cell_of w) small f
  follow_by w small false false e f = refl

  follow_of : (w x : ℕ) → cell_of w < 2 * h.marks.size → x ≡ get_or h.words (2 * cell_of w) 0
      → cond (refers_into (heap.here h) h.marks.size x) (heap.still (pad_heap h ex) x) (cond (ltb h.marks.copied h.marks.top) (heap.copy_cell (pad_heap h ex) (cell_of w)) (heap.still (pad_heap h ex) w)) ≡ pad_step (heap.follow h w) ex
  follow_of w x small q = rw q (follow_by w small _ _ refl refl)

  follow_pads : (w : ℕ) → cell_of w < 2 * h.marks.size → heap.follow (pad_heap h ex) w ≡ pad_step (heap.follow h w) ex
  follow_pads w small =
      let p₀ : 2 * cell_of w < length h.words = omega (arith, tidy.big) in
      follow_of w (get_or (h.words ++ ex) (2 * cell_of w) 0) small (get_or_pad h.words ex (2 * cell_of w) p₀)

  move_by : (w : ℕ) (old : Bool) → refers_into (heap.there h) h.marks.size w ≡ old → cond old (heap.follow (pad_heap h ex) w) (heap.still (pad_heap h ex) w) ≡ pad_step (cond old (heap.follow h w) (heap.still h w)) ex
  move_by w true e = let b = bases h.marks.size h.upper in follow_pads w (omega (arith, into_bound (heap.there h) h.marks.size w e, b.1))
  move_by w false e = refl

  pub move_pads : (w : ℕ) → move (pad_heap h ex) w ≡ pad_step (move h w) ex
  unfolding move
  move_pads w = move_by w (refers_into (heap.there h) h.marks.size w) refl

-- a step that at most copies leaves the heap tidy
pub move_tidy : (h : Heap) (w : ℕ) → Tidy h → Tidy (move h w).after
unfolding move
move_tidy h w t =
    let b = t.big in
    let s = t.order.s_b in
    let r = t.order.b_t in
    let e = t.order.t_h in
    record { big = grind (arith, nat_tests, length-set); order = record { s_b = grind (arith, nat_tests); b_t = grind (arith, nat_tests); t_h = grind (arith, nat_tests) } }

move_long : (h : Heap) (w : ℕ) → length (move h w).after.words ≡ length h.words
unfolding move
move_long h w = grind (arith, nat_tests, length-set)

-- what a step moved, written back at a place
abbrev written : Step ℕ → ℕ → Step ℕ
written s p = record { after = with_words s.after (set s.after.words p s.value); value = s.value }

written_pads : (s : Step ℕ) (p : ℕ) (ex : List ℕ) → p < length s.after.words → written (pad_step s ex) p ≡ pad_step (written s p) ex
written_pads s p ex inside = rw (set_pad s.after.words ex p s.value inside)

pub move_at_pads : (h : Heap) → Tidy h → (ex : List ℕ) (p : ℕ) → p < length h.words → move_at (pad_heap h ex) p ≡ pad_step (move_at h p) ex
move_at_pads h tidy ex p inside =
    ap (λ (s : Step ℕ). written s p) (ap (move (pad_heap h ex)) (get_or_pad h.words ex p inside) ∙ move_pads h tidy ex (get_or h.words p 0))
    ∙ written_pads (move h (get_or h.words p 0)) p ex (omega (arith, move_long h (get_or h.words p 0)))

move_at_long : (h : Heap) (p : ℕ) → length (move_at h p).after.words ≡ length h.words
move_at_long h p = length-set (move h (get_or h.words p 0)).after.words p (move h (get_or h.words p 0)).value ∙ move_long h (get_or h.words p 0)

pub move_at_tidy : (h : Heap) (p : ℕ) → Tidy h → Tidy (move_at h p).after
move_at_tidy h p t = let m = move_tidy h (get_or h.words p 0) t in record { big = omega (arith, m.big, length-set (move h (get_or h.words p 0)).after.words p (move h (get_or h.words p 0)).value); order = m.order }

-- scanning
module _ (ex : List ℕ) where
  scan_words_pads : (h : Heap) → Tidy h → (c : ℕ) → 2 * c + 1 < length h.words → scan_words (pad_heap h ex) c ≡ pad_heap (scan_words h c) ex
  scan_words_pads h tidy c inside =
      let h₁ : Heap = (move_at h (2 * c)).after in
      ap (λ (s : Step ℕ). (move_at s.after (2 * c + 1)).after) (move_at_pads h tidy ex (2 * c) (omega arith))
      ∙ ap (λ (s : Step ℕ). s.after) (move_at_pads (move_at h (2 * c)).after (move_at_tidy h (2 * c) tidy) ex (2 * c + 1) (omega (arith, move_at_long h (2 * c))))

  scan_words_tidy : (h : Heap) → Tidy h → (c : ℕ) → Tidy (scan_words h c)
  scan_words_tidy h t c = move_at_tidy (move_at h (2 * c)).after (2 * c + 1) (move_at_tidy h (2 * c) t)

  scan_cell_pads : (h : Heap) → Tidy h → h.marks.scanned < h.marks.size → scan_cell (pad_heap h ex) ≡ pad_heap (scan_cell h) ex
  scan_cell_pads h tidy small =
      let b = bases h.marks.size h.upper in
      ap (λ (x : Heap). heap.with_marks x (raise_scanned x.marks)) (scan_words_pads h tidy (heap.here h + h.marks.scanned) (omega (arith, b.0, tidy.big)))

  scan_cell_tidy : (h : Heap) → Tidy h → Tidy (scan_cell h)
  scan_cell_tidy h t =
      let s = scan_words_tidy h t (heap.here h + h.marks.scanned) in
      let a = s.order.s_b in
      let b = s.order.b_t in
      let c = s.order.t_h in
      let d = s.big in
      record { big = grind (arith, nat_tests); order = record { s_b = grind (arith, nat_tests); b_t = grind (arith, nat_tests); t_h = grind (arith, nat_tests) } }

  scan_by : (n : ℕ) (h : Heap) (over : Bool) → scan_over h.marks ≡ over → Tidy h → (Tidy (scan_cell h) → scan n (pad_heap (scan_cell h) ex) ≡ pad_heap (scan n (scan_cell h)) ex) → cond over (pad_heap h ex) (scan n (scan_cell (pad_heap h ex))) ≡ pad_heap (cond over h (scan n (scan_cell h))) ex
  scan_by n h true e t rest = refl
  scan_by n h false e t rest =
      let ne : h.marks.scanned ≡ h.marks.copied → ⊥ = eqb-false _ _ e in
      ap (scan n) (scan_cell_pads h t (omega (arith, t.order.s_b, t.order.b_t, t.order.t_h))) ∙ rest (scan_cell_tidy h t)

  pub scan_pads : (n : ℕ) (h : Heap) → Tidy h → scan n (pad_heap h ex) ≡ pad_heap (scan n h) ex
  unfolding scan
  scan_pads zero h t = refl
  scan_pads (suc n) h t = scan_by n h (scan_over h.marks) refl t (λ t'. scan_pads n (scan_cell h) t')

  -- lists of roots
  abbrev first_then : {Y : Type 0} → (Heap → Y → Step Y) → Step Y → List Y → Step (List Y)
  first_then step s ys = record { after = (along step s.after ys).after; value = s.value ∷ (along step s.after ys).value }

  along_cons : {Y : Type 0} (step : Heap → Y → Step Y) (h : Heap) (y : Y) (ys : List Y) → step (pad_heap h ex) y ≡ pad_step (step h y) ex → along step (pad_heap (step h y).after ex) ys ≡ pad_step (along step (step h y).after ys) ex → first_then step (step (pad_heap h ex) y) ys ≡ pad_step (first_then step (step h y) ys) ex
  along_cons step h y ys e f = ap (λ s. first_then step s ys) e ∙ ap (λ r. record { after = r.after; value = (step h y).value ∷ r.value }) f

  along_pads : {Y : Type 0} (step : Heap → Y → Step Y) → ((h : Heap) (y : Y) → Tidy h → step (pad_heap h ex) y ≡ pad_step (step h y) ex) → ((h : Heap) (y : Y) → Tidy h → Tidy (step h y).after) → (h : Heap) (ys : List Y) → Tidy h → along step (pad_heap h ex) ys ≡ pad_step (along step h ys) ex
  unfolding along
  along_pads step one keeps h [] t = refl
  along_pads step one keeps h (y ∷ ys) t = along_cons step h y ys (one h y t) (along_pads step one keeps (step h y).after ys (keeps h y t))

  along_tidy : {Y : Type 0} (step : Heap → Y → Step Y) → ((h : Heap) (y : Y) → Tidy h → Tidy (step h y).after) → (h : Heap) (ys : List Y) → Tidy h → Tidy (along step h ys).after
  unfolding along
  along_tidy step keeps h [] t = t
  along_tidy step keeps h (y ∷ ys) t = along_tidy step keeps (step h y).after ys (keeps h y t)

  move_hold_pads : (h : Heap) (o : Option ℕ) → Tidy h → move_hold (pad_heap h ex) o ≡ pad_step (move_hold h o) ex
  move_hold_pads h None t = refl
  move_hold_pads h (Some w) t = ap (λ (s : Step ℕ). record { after = s.after; value = Some s.value }) (move_pads h t ex w)

  move_hold_tidy : (h : Heap) (o : Option ℕ) → Tidy h → Tidy (move_hold h o).after
  move_hold_tidy h None t = t
  move_hold_tidy h (Some w) t = move_tidy h w t

  trade_tidy : (h : Heap) → Tidy h → Tidy (trade h)
  trade_tidy h t = record { big = t.big; order = record { s_b = omega arith; b_t = omega arith; t_h = omega arith } }

  abbrev with_moved_registers : Machine → Step (List ℕ) → Machine
  with_moved_registers m s = record { heap = s.after; roots = record { registers = s.value; holds = m.roots.holds }; terms = m.terms; opened = m.opened }

  abbrev with_moved_holds : Machine → Step (List (Option ℕ)) → Machine
  with_moved_holds m s = record { heap = s.after; roots = record { registers = m.roots.registers; holds = s.value }; terms = m.terms; opened = m.opened }

  registers_pads : (m : Machine) → Tidy m.heap → move_registers (padded m ex) ≡ padded (move_registers m) ex
  registers_pads m t = ap (with_moved_registers m) (along_pads move (λ h w x. move_pads h x ex w) (λ h w x. move_tidy h w x) m.heap m.roots.registers t)

  holds_pads : (m : Machine) → Tidy m.heap → move_holds (padded m ex) ≡ padded (move_holds m) ex
  holds_pads m t = ap (with_moved_holds m) (along_pads move_hold move_hold_pads move_hold_tidy m.heap m.roots.holds t)

  flip_pads : (m : Machine) → Tidy m.heap → flip (padded m ex) ≡ padded (flip m) ex
  flip_pads m t =
      let t₁ = trade_tidy m.heap t in
      ap move_holds (registers_pads (with_heap m (trade m.heap)) t₁)
      ∙ holds_pads (move_registers (with_heap m (trade m.heap))) (along_tidy move (λ h w x. move_tidy h w x) (trade m.heap) m.roots.registers t₁)

  flip_tidy : (m : Machine) → Tidy m.heap → Tidy (flip m).heap
  flip_tidy m t = along_tidy move_hold move_hold_tidy (move_registers (with_heap m (trade m.heap))).heap m.roots.holds (along_tidy move (λ h w x. move_tidy h w x) (trade m.heap) m.roots.registers (trade_tidy m.heap t))

  due_pads : (m : Machine) (due : Bool) → Tidy m.heap → cond due (flip (padded m ex)) (padded m ex) ≡ padded (cond due (flip m) m) ex
  due_pads m true t = flip_pads m t
  due_pads m false t = refl

  due_tidy : (m : Machine) (due : Bool) → Tidy m.heap → Tidy (cond due (flip m) m).heap
  due_tidy m true t = flip_tidy m t
  due_tidy m false t = t

  pub collected_pads : (m : Machine) → Tidy m.heap → collected (padded m ex) ≡ padded (collected m) ex
  collected_pads m t =
      ap (λ (x : Machine). with_heap x (scan m.terms.pace x.heap)) (due_pads m (flip_due m) t)
      ∙ ap (with_heap (cond (flip_due m) (flip m) m)) (scan_pads m.terms.pace (cond (flip_due m) (flip m) m).heap (due_tidy m (flip_due m) t))
