-- How far the collector's steps raise the marks.
use Rattle.std.proofs.Common.{◌≡◌, ℕ, zero, suc, ◌+◌, ◌*◌, ◌≤◌, Bool, true, false, cond, not, List, [], ◌∷◌, length, Some, None, Option, refl, ◌∙◌, arith}
use Rattle.machine.specs.Heap.{Heap, Step, move, move_at, move_hold, scan_cell, scan, along, trade}
use Rattle.machine.specs.Machine.{Machine, collected, flip, flip_due, move_registers, with_heap}
use Rattle.machine.specs.Work.{rise, copies, scans, ConsWork}
use Rattle.std.proofs.lemmas.Bool.Decides.{nat_tests}

-- In the same half, at most so many cells more were scanned and copied.
pub record Grows (scanned copied : ℕ) (h h' : Heap) : Type 0 where
  pub half : h'.upper ≡ h.upper
  pub more_scanned : h'.marks.scanned ≤ h.marks.scanned + scanned
  pub more_copied : h'.marks.copied ≤ h.marks.copied + copied

pub grows_not : (h : Heap) → Grows 0 0 h h
grows_not h = record { half = refl; more_scanned = omega arith; more_copied = omega arith }

pub grows_on : (s c s' c' : ℕ) (h h' h'' : Heap) → Grows s c h h' → Grows s' c' h' h'' → Grows (s + s') (c + c') h h''
grows_on s c s' c' h h' h'' p q =
    record {
      half = q.half ∙ p.half;
      more_scanned = omega (arith, p.more_scanned, q.more_scanned);
      more_copied = omega (arith, p.more_copied, q.more_copied);
    }

pub move_grows : (h : Heap) (w : ℕ) → Grows 0 1 h (move h w).after
unfolding move
move_grows h w =
    record { half = grind (arith, nat_tests); more_scanned = grind (arith, nat_tests); more_copied = grind (arith, nat_tests) }

pub move_hold_grows : (h : Heap) (o : Option ℕ) → Grows 0 1 h (move_hold h o).after
move_hold_grows h None = record { half = refl; more_scanned = omega arith; more_copied = omega arith }
move_hold_grows h (Some w) = move_grows h w

pub move_at_grows : (h : Heap) (p : ℕ) → Grows 0 1 h (move_at h p).after
move_at_grows h p = let m = move_grows h _ in record { half = m.half; more_scanned = m.more_scanned; more_copied = m.more_copied }

-- a scanned cell has two words
scan_cell_grows : (h : Heap) → Grows 1 2 h (scan_cell h)
scan_cell_grows h =
    let m = grows_on 0 1 0 1 _ _ _ (move_at_grows h _) (move_at_grows _ _) in
    record { half = m.half; more_scanned = grind (arith, nat_tests, m.more_scanned); more_copied = grind (arith, nat_tests, m.more_copied) }

scan_by : (n : ℕ) (h h' : Heap) (over : Bool) → Grows n (2 * n) (scan_cell h) h' → Grows (suc n) (2 * suc n) h (cond over h h')
scan_by n h h' true later = record { half = refl; more_scanned = omega arith; more_copied = omega arith }
scan_by n h h' false later =
    let m = scan_cell_grows h in
    record {
      half = later.half ∙ m.half;
      more_scanned = omega (arith, m.more_scanned, later.more_scanned);
      more_copied = omega (arith, m.more_copied, later.more_copied);
    }

pub scan_grows : (n : ℕ) (h : Heap) → Grows n (2 * n) h (scan n h)
unfolding scan
scan_grows zero h = record { half = refl; more_scanned = omega arith; more_copied = omega arith }
scan_grows (suc n) h = scan_by n h _ _ (scan_grows n (scan_cell h))

-- each element of a list moves at most one cell
pub along_grows : {X : Type 0} (step : Heap → X → Step X) → ((h : Heap) (x : X) → Grows 0 1 h (step h x).after) → (h : Heap) (xs : List X) → Grows 0 (length xs) h (along step h xs).after
unfolding along
along_grows step one h [] = record { half = refl; more_scanned = omega arith; more_copied = omega arith }
along_grows step one h (x ∷ xs) =
    let m = one h x in
    let later = along_grows step one (step h x).after xs in
    record {
      half = later.half ∙ m.half;
      more_scanned = omega (arith, m.more_scanned, later.more_scanned);
      more_copied = omega (arith, m.more_copied, later.more_copied);
    }

rise_same : (u u' : Bool) (n n' k : ℕ) → u' ≡ u → n' ≤ n + k → rise u u' n n' ≤ k
rise_same true true n n' k e h = omega arith
rise_same false false n n' k e h = omega arith
rise_same true false n n' k e h = let z : ◌≡◌ {A = ℕ} 0 1 = cc in omega arith
rise_same false true n n' k e h = let z : ◌≡◌ {A = ℕ} 0 1 = cc in omega arith

rise_turned : (u u' : Bool) (n n' k : ℕ) → u' ≡ not u → n' ≤ k → rise u u' n n' ≤ k
rise_turned true true n n' k e h = let z : ◌≡◌ {A = ℕ} 0 1 = cc in omega arith
rise_turned false false n n' k e h = let z : ◌≡◌ {A = ℕ} 0 1 = cc in omega arith
rise_turned true false n n' k e h = h
rise_turned false true n n' k e h = h

-- at a flip both counts begin again, and each root moves at most one cell
flip_grows : (m : Machine) → length m.roots.registers ≡ 16 → length m.roots.holds ≡ 8 → Grows 0 24 (trade m.heap) (flip m).heap
flip_grows m sixteen eight =
    let a = along_grows move move_grows (trade m.heap) m.roots.registers in
    let b = along_grows move_hold move_hold_grows (move_registers (with_heap m (trade m.heap))).heap m.roots.holds in
    record {
      half = b.half ∙ a.half;
      more_scanned = omega (arith, a.more_scanned, b.more_scanned);
      more_copied = omega (arith, a.more_copied, b.more_copied);
    }

-- the collector's share of a cons, whether or not it flips
shared : (m : Machine) (due : Bool) → length m.roots.registers ≡ 16 → length m.roots.holds ≡ 8 → ConsWork m (with_heap m (scan m.terms.pace (cond due (flip m) m).heap))
shared m true sixteen eight =
    let a = flip_grows m sixteen eight in
    let b = scan_grows m.terms.pace (flip m).heap in (
      rise_turned m.heap.upper _ _ _ _ (b.half ∙ a.half) (omega (arith, a.more_scanned, b.more_scanned)),
      rise_turned m.heap.upper _ _ _ _ (b.half ∙ a.half) (omega (arith, a.more_copied, b.more_copied)),
    )
shared m false sixteen eight =
    let b = scan_grows m.terms.pace m.heap in (
      rise_same m.heap.upper _ _ _ _ b.half (omega (arith, b.more_scanned)),
      rise_same m.heap.upper _ _ _ _ b.half (omega (arith, b.more_copied)),
    )

pub collected_works : (m : Machine) → length m.roots.registers ≡ 16 → length m.roots.holds ≡ 8 → ConsWork m (collected m)
collected_works m sixteen eight = shared m (flip_due m) sixteen eight

pub fetched_works : (h h' : Heap) → Grows 0 1 h h' → (scans h h' ≡ 0) × (copies h h' ≤ 1)
fetched_works h h' g =
    let s : scans h h' ≤ 0 = rise_same h.upper _ _ _ _ g.half (omega (arith, g.more_scanned)) in
    (omega (arith, s), rise_same h.upper _ _ _ _ g.half (omega (arith, g.more_copied)))
