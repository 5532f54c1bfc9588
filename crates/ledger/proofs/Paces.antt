-- How far a scan gets, and the marks that a flip leaves.
use Rattle.std.proofs.Common.{◌≡◌, ℕ, zero, suc, ◌+◌, ◌<◌, ◌≤◌, Bool, true, false, cond, ltb, ◌⊎◌, List, [], ◌∷◌, Some, None, Option, refl, ap, ◌∙◌, inl, inr, arith}
use Rattle.machine.specs.Heap as heap
use Rattle.machine.specs.Heap.{Heap, Step, Marks, move, move_at, move_hold, along, scan, scan_cell, scan_over, trade, used}
use Rattle.machine.specs.Machine.{Machine, flip, move_registers, with_heap}
use Rattle.std.proofs.lemmas.Bool.{eqb-true, eqb-false, lt-ltb}
use Rattle.std.proofs.lemmas.Bool.Decides.{nat_tests}

-- a step that at most copies
pub record Held (h h' : Heap) : Type 0 where
  pub scanned : h'.marks.scanned ≡ h.marks.scanned
  pub top : h'.marks.top ≡ h.marks.top
  pub prior : h'.marks.prior ≡ h.marks.prior
  pub size : h'.marks.size ≡ h.marks.size
  pub copied : h.marks.copied ≤ h'.marks.copied

held_not : (h : Heap) → Held h h
held_not h = record { scanned = refl; top = refl; prior = refl; size = refl; copied = omega arith }

held_on : (h h₁ h₂ : Heap) → Held h h₁ → Held h₁ h₂ → Held h h₂
held_on h h₁ h₂ a b = record { scanned = b.scanned ∙ a.scanned; top = b.top ∙ a.top; prior = b.prior ∙ a.prior; size = b.size ∙ a.size; copied = omega (arith, a.copied, b.copied) }

move_held : (h : Heap) (w : ℕ) → Held h (move h w).after
unfolding move
move_held h w = record { scanned = grind (arith, nat_tests); top = grind (arith, nat_tests); prior = grind (arith, nat_tests); size = grind (arith, nat_tests); copied = grind (arith, nat_tests) }

move_hold_held : (h : Heap) (o : Option ℕ) → Held h (move_hold h o).after
move_hold_held h None = held_not h
move_hold_held h (Some w) = move_held h w

move_at_held : (h : Heap) (p : ℕ) → Held h (move_at h p).after
move_at_held h p = let m = move_held h _ in record { scanned = m.scanned; top = m.top; prior = m.prior; size = m.size; copied = m.copied }

along_held : {Y : Type 0} (step : Heap → Y → Step Y) → ((h : Heap) (y : Y) → Held h (step h y).after) → (h : Heap) (ys : List Y) → Held h (along step h ys).after
unfolding along
along_held step one h [] = held_not h
along_held step one h (y ∷ ys) = held_on h (step h y).after _ (one h y) (along_held step one (step h y).after ys)

-- a flip begins with nothing scanned and nothing allocated
pub flip_held : (m : Machine) → Held (trade m.heap) (flip m).heap
flip_held m = held_on (trade m.heap) _ _ (along_held move move_held (trade m.heap) m.roots.registers) (along_held move_hold move_hold_held (move_registers (with_heap m (trade m.heap))).heap m.roots.holds)

-- After a scan of at most n cells: it is over, or n cells more are scanned.
pub record Progress (n : ℕ) (h h' : Heap) : Type 0 where
  pub top : h'.marks.top ≡ h.marks.top
  pub prior : h'.marks.prior ≡ h.marks.prior
  pub size : h'.marks.size ≡ h.marks.size
  pub copied : h.marks.copied ≤ h'.marks.copied
  pub far : (h'.marks.scanned ≡ h'.marks.copied) ⊎ (h'.marks.scanned ≡ h.marks.scanned + n)
  -- a scan that was over leaves the marks alone
  pub over : h.marks.scanned ≡ h.marks.copied → h'.marks ≡ h.marks

scan_cell_raises : (h : Heap) → h.marks.scanned < h.marks.copied → ((scan_cell h).marks.scanned ≡ h.marks.scanned + 1) × ((scan_cell h).marks.top ≡ h.marks.top) × ((scan_cell h).marks.prior ≡ h.marks.prior) × ((scan_cell h).marks.size ≡ h.marks.size) × (h.marks.copied ≤ (scan_cell h).marks.copied)
scan_cell_raises h left =
    let a = held_on h _ _ (move_at_held h _) (move_at_held _ _) in
    let test : ltb (heap.scan_words h (heap.here h + h.marks.scanned)).marks.scanned (heap.scan_words h (heap.here h + h.marks.scanned)).marks.copied ≡ true = lt-ltb _ _ (omega (arith, a.scanned, a.copied)) in
    rw test (ap (λ n. n + 1) a.scanned, a.top, a.prior, a.size, a.copied)

progress_by : (n : ℕ) (h : Heap) (over : Bool) → scan_over h.marks ≡ over → h.marks.scanned ≤ h.marks.copied → (h.marks.scanned < h.marks.copied → Progress n (scan_cell h) (scan n (scan_cell h))) → Progress (suc n) h (cond over h (scan n (scan_cell h)))
progress_by n h true q order rest = record { top = refl; prior = refl; size = refl; copied = omega arith; far = inl (eqb-true _ _ q); over = λ _. refl }
progress_by n h false q order rest =
    let ne : h.marks.scanned ≡ h.marks.copied → ⊥ = eqb-false _ _ q in
    let left : h.marks.scanned < h.marks.copied = omega arith in
    let c = scan_cell_raises h left in
    let r = rest left in
    record {
      top = r.top ∙ c.1;
      prior = r.prior ∙ c.2;
      size = r.size ∙ c.3;
      copied = omega (arith, r.copied, c.4);
      far = elim r.far [ inl done ↦ inl done | inr more ↦ inr (omega (arith, c.0)) ];
      over = λ e. absurd (ne e);
    }

pub progress : (n : ℕ) (h : Heap) → h.marks.scanned ≤ h.marks.copied → Progress n h (scan n h)
unfolding scan
progress zero h order = record { top = refl; prior = refl; size = refl; copied = omega arith; far = inr (omega arith); over = λ _. refl }
progress (suc n) h order = progress_by n h (scan_over h.marks) refl order (λ left. let c = scan_cell_raises h left in progress n (scan_cell h) (omega (arith, c.0, c.4)))
