-- The registers of a call are known unless one above 15 is found.
use Rattle.std.proofs.Common.{◌≡◌, ℕ, leb, List, [], ◌∷◌, Some, None, Ok, Err, Option, Result, refl, arith}
use Rattle.machine.specs.Calls.{known}
use Rattle.machine.specs.declared.faults.MemoryFault.{MemoryFault}
use Rattle.machine.specs.declared.faults.MemoryFault.TheVariants.{NoRegister}
use Rattle.std.proofs.lemmas.Bool.Decides.{nat_tests}
use Rattle.std.specs.List.{find}

abbrev pub unless_found : Option ℕ → Result (Unit {0}) MemoryFault
unless_found None = Ok tt
unless_found (Some r) = Err (NoRegister r)

pub known_unless_found : (rs : List ℕ) → unless_found (find (λ r. leb 16 r) rs) ≡ known rs
known_unless_found [] = refl
known_unless_found (r ∷ rs) = let later = known_unless_found rs in grind (arith, nat_tests)
