-- Move by its cases, and the turns of a scan.
use Rattle.std.proofs.Common.{◌≡◌, ℕ, refl}
use Rattle.machine.specs.Heap.{Heap, move, move_cases}

pub moves_by_cases : (h : Heap) (w : ℕ) → move h w ≡ move_cases h w
unfolding move
moves_by_cases h w = refl
