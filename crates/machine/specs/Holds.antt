-- Hold and back: a word set aside at a hold place, against a pass.
use Rattle.std.specs.Prelude.{ℕ, cond, [], ◌∷◌, Some, None, Ok, Err, Option, Result, ◌==◌, nat_lt, slice_index_or, slice_set}
use Rattle.machine.specs.Calls.{Call, unless, admitted}
use Rattle.machine.specs.Machine.{Machine, register, with_register}
use Rattle.machine.specs.declared.faults.MemoryFault.{MemoryFault}
use Rattle.machine.specs.declared.faults.MemoryFault.TheVariants.{NoHold, HoldTaken, NotHeld}

abbrev pub with_hold : Machine → ℕ → Option ℕ → Machine
with_hold m p hold =
    record {
      heap = m.heap;
      roots = record { registers = m.roots.registers; holds = slice_set m.roots.holds p hold };
      terms = m.terms;
      opened = m.opened;
    }

abbrev pub hold_at : Machine → ℕ → Option ℕ
hold_at m p = slice_index_or m.roots.holds p None

-- what a token says: whose it is, and which place it is for
pub record Pass : Type 0 where
  pub number : ℕ
  pub place : ℕ

-- a refusal of back, with the pass that was not taken
pub record KeptPass : Type 0 where
  pub fault : MemoryFault
  pub pass : Pass

-- A taken place may have nil and is still taken.
abbrev pub vacant : Option ℕ → ℕ → Result (Unit {0}) MemoryFault
vacant None p = Ok tt
vacant (Some w) p = Err (HoldTaken p)

abbrev pub may_hold : Machine → ℕ → Result (Unit {0}) MemoryFault
may_hold m p = cond (nat_lt p 8) (vacant (hold_at m p) p) (Err (NoHold p))

abbrev pub hold_call : Machine → ℕ → ℕ → Call Pass
hold_call m r p =
    unless (admitted m (r ∷ [])) m
    (unless (may_hold m p) m
    (record { after = with_hold m p (Some (register m r)); answer = Ok (record { number = m.terms.number; place = p }) }))

-- what back leaves and answers: every refusal hands the pass back
pub record BackCall : Type 0 where
  pub after : Machine
  pub answer : Result (Unit {0}) KeptPass

abbrev pub kept_back : Machine → MemoryFault → Pass → BackCall
kept_back m fault pass = record { after = m; answer = Err (record { fault = fault; pass = pass }) }

abbrev pub given_back : Option ℕ → Machine → ℕ → Pass → BackCall
given_back None m d pass = kept_back m (NotHeld pass.place) pass
given_back (Some w) m d pass =
    record { after = with_register (with_hold m pass.place None) d w; answer = Ok tt }

-- the pass has this memory's number, and its place is taken
abbrev pub held_for : Machine → Pass → Option ℕ
held_for m pass = cond (pass.number == m.terms.number) (hold_at m pass.place) None

abbrev pub back_unless : Result (Unit {0}) MemoryFault → Machine → ℕ → Pass → BackCall
back_unless (Err fault) m d pass = kept_back m fault pass
back_unless (Ok u) m d pass = given_back (held_for m pass) m d pass

abbrev pub back_call : Machine → ℕ → Pass → BackCall
back_call m d pass = back_unless (admitted m (d ∷ [])) m d pass
