-- Tokens and the passes they stand for.
use Rattle.machine.specs.Holds.{Pass, KeptPass, hold_at}
use Rattle.machine.specs.Machine.{Machine}
use Rattle.machine.specs.declared.faults.MemoryFault.{MemoryFault}
use Rattle.memory.specs.declared.token.Kept.{Kept}
use Rattle.memory.specs.declared.token.Token.{Token}
use Rattle.std.specs.Prelude.{◌≡◌, true, false, is_some, Ok, Err, Result}

abbrev pub pass_of : Token → Pass
pass_of token = record { number = token.number; place = token.place }

abbrev pub passed : Result Token MemoryFault → Result Pass MemoryFault
passed (Ok token) = Ok (pass_of token)
passed (Err fault) = Err fault

-- a token that is handed out is not yet spent
abbrev pub Unspent : Result Token MemoryFault → Type 0
Unspent (Ok token) = token.spent ≡ false
Unspent (Err fault) = Unit {0}

-- a refused back hands back the very token it was given
abbrev pub kept : Token → Result (Unit {0}) KeptPass → Result (Unit {0}) Kept
kept token (Ok u) = Ok u
kept token (Err refusal) = Err (record { fault = refusal.fault; token = token })

-- the memory is open, the token is its own, and the place is taken
abbrev pub Held : Machine → Token → Type 0
Held m token =
    (m.opened ≡ true) × (token.number ≡ m.terms.number) × (is_some (hold_at m token.place) ≡ true)
