-- What a feed tells of a list: how many atoms, and whether it ended.
use Rattle.std.specs.Prelude.{ℕ, Bool, Ok, Err, Result}
use Rattle.controller.specs.Endings.{is_ended}
use Rattle.controller.specs.declared.lists.fed.Fed.{Fed}
use Rattle.machine.specs.declared.faults.MemoryFault.{MemoryFault}

abbrev pub told_of : {A : Type 0} → Result (Fed A) MemoryFault → Result (ℕ × Bool) MemoryFault
told_of (Ok fed) = Ok (fed.count, is_ended fed.ending)
told_of (Err fault) = Err fault
