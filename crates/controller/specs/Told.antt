-- What the controller prints of a feed's end, of a build and of the room there was.
use Rattle.std.specs.Prelude.{ℕ, List, ◌++◌, Ok, Err, Result, codes, decimal}
use Rattle.controller.specs.declared.ending.Ending.{Ending}
use Rattle.controller.specs.declared.ending.Ending.TheVariants.{Ended, GoesOn}
use Rattle.controller.specs.declared.room.Room.{Room}
use Rattle.machine.specs.declared.faults.MemoryFault.{MemoryFault}
use Rattle.machine.specs.declared.faults.MemoryFault.TheVariants.{Scanning, Full}

abbrev pub ending_text : Ending → List ℕ
ending_text Ended = codes "the list ended"
ending_text GoesOn = codes "the list goes on"

abbrev pub room_text : Room → List ℕ
room_text room = decimal room.granted ++ (codes " conses granted, " ++ (decimal room.refused ++ codes " refused for room"))

-- only a refusal for room says more
abbrev refused_text : MemoryFault → List ℕ
refused_text Full = codes "refused, the memory is full"
refused_text Scanning = codes "refused, the memory is still scanning"
refused_text other = codes "refused"

abbrev pub outcome_text : Result (Unit {0}) MemoryFault → List ℕ
outcome_text (Ok u) = codes "built"
outcome_text (Err fault) = refused_text fault
