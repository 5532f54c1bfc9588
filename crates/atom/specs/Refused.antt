-- What a kind's refusal names.
use Rattle.atom.specs.declared.faults.KindFault.{KindFault}
use Rattle.atom.specs.declared.faults.KindFault.TheVariants.{OutOfRange}
use Rattle.fault.specs.declared.Layer.TheVariants.{Kind}
use Rattle.fault.specs.declared.Report.{Report}

-- number, layer and place of each case
abbrev pub kind_report : KindFault → Report
kind_report OutOfRange = record { number = 8; layer = Kind; place = 0 }
