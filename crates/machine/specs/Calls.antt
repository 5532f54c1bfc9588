-- What each call answers and leaves, in every state, for every argument.
use Rattle.std.specs.Prelude.{ℕ, ◌+◌, ◌*◌, ◌/◌, Bool, cond, List, [], ◌∷◌, length, Ok, Err, Option, Result, ◌==◌, nat_le, nat_lt, slice_set}
use Rattle.atom.specs.declared.faults.KindFault.{KindFault}
use Rattle.machine.specs.Heap.{move_at, with_words}
use Rattle.machine.specs.Machine.{Machine, fresh_machine, with_heap, with_register, register, ceiling, collected, room, grant}
use Rattle.machine.specs.Words.{cell_of, is_reference, place_of, sight_of}
use Rattle.machine.specs.declared.faults.MemoryFault.{MemoryFault}
use Rattle.machine.specs.declared.faults.MemoryFault.TheVariants.{Shut, AlreadyOpen, HalfSize, Pace, Limit, NoRegister, NotCell, Kind}
use Rattle.machine.specs.declared.side.Side.{Side}
use Rattle.machine.specs.declared.sight.Sight.{Sight}

-- what a call leaves and what it answers
pub record Call (R : Type 0) : Type 0 where
  pub after : Machine
  pub answer : Result R MemoryFault

abbrev pub done : Machine → Call (Unit {0})
done m = record { after = m; answer = Ok tt }

abbrev pub refused : {R : Type 0} → Machine → MemoryFault → Call R
refused m fault = record { after = m; answer = Err fault }

-- a refusal found on the way leaves the machine as it then is; else the call goes on
abbrev pub unless : {R : Type 0} → Result (Unit {0}) MemoryFault → Machine → Call R → Call R
unless (Err fault) m call = refused m fault
unless (Ok u) m call = call

-- the first register above 15, as the call is written
abbrev pub known : List ℕ → Result (Unit {0}) MemoryFault
known [] = Ok tt
known (r ∷ rs) = cond (nat_lt r 16) (known rs) (Err (NoRegister r))

-- every call but open: the memory is open, and its registers are known
abbrev pub admitted : Machine → List ℕ → Result (Unit {0}) MemoryFault
admitted m rs = cond m.opened (known rs) (Err Shut)

abbrev pub needs_cell : Machine → ℕ → Result (Unit {0}) MemoryFault
needs_cell m r = cond (is_reference (register m r)) (Ok tt) (Err (NotCell r))

-- Opening: the store has two halves of 3 to 4,096 cells, the pace is from 1 to 64, and the limit
-- leaves room for what is allocated while the live cells are copied.
abbrev pub half_of : Machine → ℕ
half_of m = length m.heap.words / 4

abbrev pub well_paced : ℕ → ℕ → ℕ → Result (Unit {0}) MemoryFault
well_paced size pace limit =
    cond (limit == 0) (Err Limit) (cond (nat_le (limit + 2 * ceiling limit pace) size) (Ok tt) (Err Limit))

abbrev pub well_sized : ℕ → ℕ → ℕ → Result (Unit {0}) MemoryFault
well_sized size pace limit =
    cond (nat_lt size 3) (Err HalfSize)
    (cond (nat_lt 4096 size) (Err HalfSize)
    (cond (pace == 0) (Err Pace) (cond (nat_lt 64 pace) (Err Pace) (well_paced size pace limit))))

abbrev pub may_open : Machine → ℕ → ℕ → Result (Unit {0}) MemoryFault
may_open m pace limit = cond m.opened (Err AlreadyOpen) (well_sized (half_of m) pace limit)

abbrev pub open_call : Machine → ℕ → ℕ → ℕ → Call (Unit {0})
open_call m pace limit number =
    unless (may_open m pace limit) m
    (done (fresh_machine m.heap.words (half_of m) (record { pace = pace; limit = limit; number = number })))

-- Cons collects first, so a and b are read after they were moved, and a refusal for room keeps what was collected.
abbrev pub allocated : Machine → ℕ → ℕ → ℕ → Call (Unit {0})
allocated m d a b = unless (room m.heap.marks) m (done (grant m d a b))

abbrev pub cons_call : Machine → ℕ → ℕ → ℕ → Call (Unit {0})
cons_call m d a b = unless (admitted m (d ∷ a ∷ b ∷ [])) m (allocated (collected m) d a b)

-- Car and cdr: the word is moved, written back and put into d.
abbrev pub fetched : Side → Machine → ℕ → ℕ → Machine
fetched side m d r =
    with_register (with_heap m (move_at m.heap (place_of side (cell_of (register m r)))).after) d
    (move_at m.heap (place_of side (cell_of (register m r)))).value

abbrev pub fetch_call : Side → Machine → ℕ → ℕ → Call (Unit {0})
fetch_call side m d r =
    unless (admitted m (d ∷ r ∷ [])) m (unless (needs_cell m r) m (done (fetched side m d r)))

-- Rplaca and rplacd: the word of v is put into r's cell.
abbrev pub replaced : Side → Machine → ℕ → ℕ → Machine
replaced side m r v =
    with_heap m (with_words m.heap (slice_set m.heap.words (place_of side (cell_of (register m r))) (register m v)))

abbrev pub replace_call : Side → Machine → ℕ → ℕ → Call (Unit {0})
replace_call side m r v =
    unless (admitted m (r ∷ v ∷ [])) m (unless (needs_cell m r) m (done (replaced side m r v)))

-- Set: the atom's code, as its kind gives it, or the kind's refusal.
abbrev pub put_code : Machine → ℕ → Result ℕ KindFault → Call (Unit {0})
put_code m d (Ok code) = done (with_register m d code)
put_code m d (Err fault) = refused m (Kind fault)

abbrev pub set_call : Machine → ℕ → Result ℕ KindFault → Call (Unit {0})
set_call m d coded = unless (admitted m (d ∷ [])) m (put_code m d coded)

abbrev pub load_call : Machine → ℕ → ℕ → Call (Unit {0})
load_call m d r = unless (admitted m (d ∷ r ∷ [])) m (done (with_register m d (register m r)))

abbrev pub clear_call : Machine → ℕ → Call (Unit {0})
clear_call m d = unless (admitted m (d ∷ [])) m (done (with_register m d 0))

-- Look and same only answer.
abbrev pub look_call : {A : Type 0} → (ℕ → Option A) → Machine → ℕ → Call (Sight A)
look_call meant m r =
    unless (admitted m (r ∷ [])) m (record { after = m; answer = Ok (sight_of meant (register m r)) })

abbrev pub same_call : Machine → ℕ → ℕ → Call Bool
same_call m a b =
    unless (admitted m (a ∷ b ∷ [])) m (record { after = m; answer = Ok (register m a == register m b) })
