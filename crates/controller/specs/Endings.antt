-- Whether a list ended.
use Rattle.std.specs.Prelude.{Bool, true, false}
use Rattle.controller.specs.declared.ending.Ending.{Ending}
use Rattle.controller.specs.declared.ending.Ending.TheVariants.{Ended, GoesOn}

abbrev pub is_ended : Ending → Bool
is_ended Ended = true
is_ended GoesOn = false
