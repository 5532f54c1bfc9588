-- Worked openings, and a worked run: a list that outgrows the limit it was opened with.
use Rattle.std.specs.Prelude.{◌≡◌, ℕ, zero, suc, List, [], ◌∷◌, replicate, Ok, Err, Result}
use Rattle.atom.specs.Axes.{axis_code}
use Rattle.atom.specs.declared.axis.AxisWord.TheVariants.{T}
use Rattle.machine.specs.Calls.{open_call, set_call, cons_call, clear_call}
use Rattle.machine.specs.Machine.{Machine, shut_machine}
use Rattle.machine.specs.Refusals.{memory_report}
use Rattle.machine.specs.declared.faults.MemoryFault.{MemoryFault}

-- a call's outcome as a number: its refusal's, or 0 where it was granted
abbrev pub outcome : Result (Unit {0}) MemoryFault → ℕ
outcome (Ok u) = 0
outcome (Err fault) = (memory_report fault).number

-- opening over a store of n words
abbrev pub opening : ℕ → ℕ → ℕ → ℕ
opening n pace limit = outcome (open_call (shut_machine (replicate n 0)) pace limit 1).answer

-- with pace 1 and limit 1, then with pace 2 and limit 2
abbrev pub OpeningValues : Type 0
OpeningValues = (opening 12 1 1 ≡ 0) × (opening 11 1 1 ≡ 3) × (opening 16 2 2 ≡ 0) × (opening 12 2 2 ≡ 5)

-- 16 words, pace 1, limit 1, and T3 in register 0
abbrev pub worked : Machine
worked = (set_call (open_call (shut_machine (replicate 16 0)) 1 1 1).after 0 (axis_code (T 3))).after

-- the outcomes of `cons 1 0 1` called n times, and the machine then
unfoldable pub pushes : ℕ → Machine → List ℕ
pushes zero m = []
pushes (suc n) m = outcome (cons_call m 1 0 1).answer ∷ pushes n (cons_call m 1 0 1).after

unfoldable pub pushed : ℕ → Machine → Machine
pushed zero m = m
pushed (suc n) m = pushed n (cons_call m 1 0 1).after

-- four grants, then no room; once the list is let go, a cons is granted
abbrev pub PushValues : Type 0
PushValues =
    (pushes 10 worked ≡ 0 ∷ 0 ∷ 0 ∷ 0 ∷ 9 ∷ 10 ∷ 9 ∷ 9 ∷ 9 ∷ 10 ∷ [])
    × (outcome (cons_call (clear_call (pushed 10 worked) 1).after 1 0 1).answer ≡ 0)
