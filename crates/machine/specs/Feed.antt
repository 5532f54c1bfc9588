-- Feed: the atoms of a list, written to the first places of a lent buffer.
use Rattle.std.specs.Prelude.{ℕ, zero, suc, ◌+◌, ◌*◌, Bool, true, cond, List, [], ◌∷◌, length, Some, None, Ok, Err, Option, Result, ◌==◌, slice_set}
use Rattle.machine.specs.Calls.{admitted, fetched}
use Rattle.machine.specs.Heap.{move_at}
use Rattle.machine.specs.Holds.{may_hold, with_hold}
use Rattle.machine.specs.Machine.{Machine, register, with_heap, with_register}
use Rattle.machine.specs.Words.{is_reference, cell_of}
use Rattle.machine.specs.declared.faults.MemoryFault.{MemoryFault}
use Rattle.machine.specs.declared.faults.MemoryFault.TheVariants.{NotCell, NotAtom}
use Rattle.machine.specs.declared.side.Side.TheVariants.{Tail}

-- the machine, the buffer and the answer: how many atoms were written, and whether the list ended
pub record Fed (A : Type 0) : Type 0 where
  pub after : Machine
  pub buffer : List A
  pub answer : Result (ℕ × Bool) MemoryFault

abbrev pub fed : {A : Type 0} → Machine → List A → Result (ℕ × Bool) MemoryFault → Fed A
fed m buffer answer = record { after = m; buffer = buffer; answer = answer }

-- the head of r's cell, moved as in car
abbrev pub head_moved : Machine → ℕ → Machine
head_moved m r = with_heap m (move_at m.heap (2 * cell_of (register m r))).after

abbrev pub head_of : Machine → ℕ → ℕ
head_of m r = (move_at m.heap (2 * cell_of (register m r))).value

-- an atom goes on with the walk; anything else is refused with how many were written
abbrev pub on_atom : {A : Type 0} → Option A → Fed A → (A → Fed A) → Fed A
on_atom None stop go = stop
on_atom (Some a) stop go = go a

-- The walk from register r, with n atoms written and room for `left` more.
unfoldable pub walk : {A : Type 0} → (ℕ → Option A) → ℕ → ℕ → ℕ → Machine → List A → Fed A
walk meant r zero n m buffer = fed m buffer (Ok (n, (register m r == 0)))
walk meant r (suc left) n m buffer =
    cond (register m r == 0) (fed m buffer (Ok (n, true)))
    (cond (is_reference (register m r))
    (on_atom (meant (head_of m r)) (fed (head_moved m r) buffer (Err (NotAtom n)))
    (λ a. walk meant r left (n + 1) (fetched Tail (head_moved m r) r r) (slice_set buffer n a)))
    (fed m buffer (Err (NotCell n))))

-- r is held at p while it walks, and is given back on every way out
abbrev pub handed_back : {A : Type 0} → ℕ → ℕ → ℕ → Fed A → Fed A
handed_back r p w walked =
    record { after = with_register (with_hold walked.after p None) r w; buffer = walked.buffer; answer = walked.answer }

abbrev pub feed_unless : {A : Type 0} → Result (Unit {0}) MemoryFault → Machine → List A → Fed A → Fed A
feed_unless (Err fault) m buffer go = fed m buffer (Err fault)
feed_unless (Ok u) m buffer go = go

abbrev pub feed_call : {A : Type 0} → (ℕ → Option A) → Machine → ℕ → ℕ → List A → Fed A
feed_call meant m r p buffer =
    feed_unless (admitted m (r ∷ [])) m buffer
    (feed_unless (may_hold m p) m buffer
    (handed_back r p (register m r) (walk meant r (length buffer) 0 (with_hold m p (Some (register m r))) buffer)))
