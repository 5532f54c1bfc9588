-- What each refusal of a list memory names: number, layer and place under each case.
use Rattle.std.specs.Prelude.{ℕ}
use Rattle.atom.specs.Refused.{kind_report}
use Rattle.fault.specs.declared.Layer.TheVariants.{Memory}
use Rattle.fault.specs.declared.Report.{Report}
use Rattle.machine.specs.declared.faults.MemoryFault.{MemoryFault}
use Rattle.machine.specs.declared.faults.MemoryFault.TheVariants.{Shut, AlreadyOpen, HalfSize, Pace, Limit, NoRegister, NotCell, Kind, Scanning, Full, NoHold, HoldTaken, NotHeld, NotAtom}

abbrev pub of_memory : ℕ → ℕ → Report
of_memory number place = record { number = number; layer = Memory; place = place }

abbrev pub memory_report : MemoryFault → Report
memory_report Shut = of_memory 1 0
memory_report AlreadyOpen = of_memory 2 0
memory_report HalfSize = of_memory 3 0
memory_report Pace = of_memory 4 0
memory_report Limit = of_memory 5 0
memory_report (NoRegister r) = of_memory 6 r
memory_report (NotCell r) = of_memory 7 r
-- the kind's number and place, with the kind's fault inside
memory_report (Kind k) = of_memory (kind_report k).number (kind_report k).place
memory_report Scanning = of_memory 9 0
memory_report Full = of_memory 10 0
memory_report (NoHold p) = of_memory 11 p
memory_report (HoldTaken p) = of_memory 12 p
memory_report (NotHeld p) = of_memory 13 p
memory_report (NotAtom n) = of_memory 15 n
