-- The collector's state read as the plain values that its steps are defined on.
use Rattle.std.specs.Prelude.{ℕ, Bool, true, false, List}
use Rattle.machine.specs.Machine.{Machine}
use Rattle.machine.specs.Machine as whole
use Rattle.semispace.specs.declared.half.Half.TheVariants.{Lower, Upper}
use Rattle.semispace.specs.declared.half.Half.{Half}
use Rattle.semispace.specs.declared.roots.Roots.{Roots}
use Rattle.semispace.specs.declared.state.State.{State}

abbrev pub is_upper : Half → Bool
is_upper Lower = false
is_upper Upper = true

abbrev pub roots_of : Roots → whole.Roots
roots_of r = record { registers = r.registers; holds = r.holds }

-- the store's words beside all that is kept
abbrev pub machine_of : List ℕ → State → Machine
machine_of ws s =
    record { heap = record { words = ws; upper = is_upper s.half; marks = s.marks }; roots = roots_of s.roots; terms = s.terms; opened = s.opened }
