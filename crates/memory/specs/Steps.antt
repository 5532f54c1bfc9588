-- One step of a feed's walk: the next atom of the list in r, or none at its end.
use Rattle.std.specs.Prelude.{◌≡◌, ℕ, cond, Some, None, Ok, Option, ◌==◌}
use Rattle.machine.specs.Calls.{Call, refused, fetched}
use Rattle.machine.specs.Feed.{head_moved, head_of}
use Rattle.machine.specs.Machine.{Machine, register}
use Rattle.machine.specs.Words.{is_reference}
use Rattle.machine.specs.declared.faults.MemoryFault.TheVariants.{NotCell, NotAtom}
use Rattle.machine.specs.declared.side.Side.TheVariants.{Tail}

-- with the head moved: r goes on to the tail past an atom, and anything else is refused
abbrev pub past : {A : Type 0} → Option A → Machine → ℕ → ℕ → Call (Option A)
past None m r n = refused m (NotAtom n)
past (Some a) m r n = record { after = fetched Tail m r r; answer = Ok (Some a) }

abbrev pub next_call : {A : Type 0} → (ℕ → Option A) → Machine → ℕ → ℕ → Call (Option A)
next_call meant m r n =
    cond (register m r == 0) (record { after = m; answer = Ok None })
    (cond (is_reference (register m r)) (past (meant (head_of m r)) (head_moved m r) r n) (refused m (NotCell n)))

-- what a walk leaves alone
abbrev pub SameHolds : Machine → Machine → Type 0
SameHolds m m' = (m'.roots.holds ≡ m.roots.holds) × (m'.terms ≡ m.terms) × (m'.opened ≡ m.opened)
