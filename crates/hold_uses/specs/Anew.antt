-- A place taken twice, and given back each time.
use Rattle.std.specs.Prelude.{ℕ, Some, None, Ok, Err, Option, Result}
use Rattle.hold_uses.specs.declared.anew.Stopped.{Stopped}
use Rattle.machine.specs.Holds.{Pass, KeptPass, hold_call, back_call}
use Rattle.machine.specs.Machine.{Machine}
use Rattle.machine.specs.declared.faults.MemoryFault.{MemoryFault}
use Rattle.memory.specs.Tokens.{pass_of}
use Rattle.memory.specs.declared.token.Token.{Token}

-- a refusal, and the pass that is still out
pub record StoppedPass : Type 0 where
  pub fault : MemoryFault
  pub pass : Option Pass

-- what a run of calls leaves and answers
pub record Run (R : Type 0) : Type 0 where
  pub after : Machine
  pub answer : Result R StoppedPass

abbrev pub none_out : Result Pass MemoryFault → Result Pass StoppedPass
none_out (Ok pass) = Ok pass
none_out (Err fault) = Err (record { fault = fault; pass = None })

abbrev pub one_out : Result (Unit {0}) KeptPass → Result (Unit {0}) StoppedPass
one_out (Ok u) = Ok u
one_out (Err kept) = Err (record { fault = kept.fault; pass = Some kept.pass })

unfoldable pub taking : Machine → ℕ → ℕ → Run Pass
taking m r p = record { after = (hold_call m r p).after; answer = none_out (hold_call m r p).answer }

unfoldable pub giving : Machine → ℕ → Pass → Run (Unit {0})
giving m d pass = record { after = (back_call m d pass).after; answer = one_out (back_call m d pass).answer }

abbrev pub onward : {R Q : Type 0} → Machine → Result R StoppedPass → (Machine → R → Run Q) → Run Q
onward m (Ok x) go = go m x
onward m (Err stop) go = record { after = m; answer = Err stop }

-- r is held at p, and the place's word goes to d
abbrev pub round : Machine → ℕ → ℕ → ℕ → Run (Unit {0})
round m r p d = onward (taking m r p).after (taking m r p).answer (λ m' pass. giving m' d pass)

-- and anew, to e
abbrev pub twice : Machine → ℕ → ℕ → ℕ → ℕ → Run (Unit {0})
twice m r p d e = onward (round m r p d).after (round m r p d).answer (λ m' u. round m' r p e)

-- tokens as their passes
abbrev pub pass_out : Option Token → Option Pass
pass_out (Some token) = Some (pass_of token)
pass_out None = None

abbrev pub stopped_of : Stopped → StoppedPass
stopped_of stop = record { fault = stop.fault; pass = pass_out stop.token }

abbrev pub given : Result (Unit {0}) Stopped → Result (Unit {0}) StoppedPass
given (Ok u) = Ok u
given (Err stop) = Err (stopped_of stop)
