-- One turn of a scan, and its two ends.
use Rattle.std.proofs.Common.{◌≡◌, ℕ, zero, suc, true, false, refl}
use Rattle.machine.specs.Heap.{Heap, scan, scan_cell, scan_over}

pub scan_none : (n : ℕ) (h : Heap) → n ≡ 0 → scan n h ≡ h
unfolding scan
scan_none n h e = rw e

pub scan-over : (n : ℕ) (h : Heap) → scan_over h.marks ≡ true → scan n h ≡ h
unfolding scan
scan-over zero h over = refl
scan-over (suc n) h over = rw over

pub scan_more : (n m : ℕ) (h : Heap) → n ≡ suc m → scan_over h.marks ≡ false → scan n h ≡ scan m (scan_cell h)
unfolding scan
scan_more n m h e more = rw (e, more)
