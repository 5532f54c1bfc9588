-- A list set aside: what the caller gets.
use Rattle.std.specs.Prelude.{◌≡◌, ℕ, false, Some, None, Ok, Err, Option, Result}
use Rattle.machine.specs.Calls.{Call, refused, look_call}
use Rattle.machine.specs.Holds.{Pass, hold_call}
use Rattle.machine.specs.Machine.{Machine}
use Rattle.machine.specs.declared.faults.MemoryFault.{MemoryFault}
use Rattle.machine.specs.declared.sight.Sight.{Sight}
use Rattle.machine.specs.declared.sight.Sight.TheVariants.{Nil, Cell, Atom}
use Rattle.memory.specs.Tokens.{pass_of}
use Rattle.memory.specs.declared.token.Token.{Token}

-- the token that went up, as its pass
abbrev pub passed_up : Result (Option Token) MemoryFault → Result (Option Pass) MemoryFault
passed_up (Ok (Some token)) = Ok (Some (pass_of token))
passed_up (Ok None) = Ok None
passed_up (Err fault) = Err fault

-- and it is not yet spent
abbrev pub UnspentUp : Result (Option Token) MemoryFault → Type 0
UnspentUp (Ok (Some token)) = token.spent ≡ false
UnspentUp (Ok None) = Unit {0}
UnspentUp (Err fault) = Unit {0}

abbrev pub perhaps : Result Pass MemoryFault → Result (Option Pass) MemoryFault
perhaps (Ok pass) = Ok (Some pass)
perhaps (Err fault) = Err fault

-- only a cell is held
abbrev pub aside_for : {A : Type 0} → Result (Sight A) MemoryFault → Machine → ℕ → ℕ → Call (Option Pass)
aside_for (Ok Cell) m r p = record { after = (hold_call m r p).after; answer = perhaps (hold_call m r p).answer }
aside_for (Ok Nil) m r p = record { after = m; answer = Ok None }
aside_for (Ok (Atom a)) m r p = record { after = m; answer = Ok None }
aside_for (Err fault) m r p = refused m fault

abbrev pub aside_call : {A : Type 0} → (ℕ → Option A) → Machine → ℕ → ℕ → Call (Option Pass)
aside_call meant m r p = aside_for (look_call meant m r).answer m r p
