-- What each refusal of the console names, and its text.
use Rattle.std.specs.Prelude.{ℕ, List, ◌++◌, codes, decimal}
use Rattle.answer.specs.declared.faults.ConsoleFault.TheVariants.{Column, Memory}
use Rattle.answer.specs.declared.faults.ConsoleFault.{ConsoleFault}
use Rattle.fault.specs.declared.Layer.TheVariants.{Console}
use Rattle.fault.specs.declared.Report.{Report}
use Rattle.machine.specs.Refusals.{memory_report}

-- number, layer and place; the memory's fault is inside whole, and gives its number and place
abbrev pub console_report : ConsoleFault → Report
console_report (Column column) = record { number = 16; layer = Console; place = column }
console_report (Memory m) = record { number = (memory_report m).number; layer = Console; place = (memory_report m).place }

abbrev pub fault_text : ConsoleFault → List ℕ
fault_text (Column column) = codes "refused " ++ (decimal 16 ++ (codes " " ++ decimal column))
fault_text (Memory m) = codes "refused " ++ decimal (memory_report m).number
