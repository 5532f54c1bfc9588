use Rattle.machine.proofs.worked.worked_values.Goals as goal
use Rattle.machine.specs.Heap.{move, scan, along}
use Rattle.machine.specs.Worked.{pushes, pushed}
use Rattle.std.proofs.Common.{refl}

pub returns : goal.returns
unfolding move scan along pushes pushed
returns c = record { openings = (refl, refl, refl, refl); pushes = (refl, refl) }
