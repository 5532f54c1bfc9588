-- The whole state of a list memory as plain values, and what a cons does before it may allocate.
use Rattle.std.specs.Prelude.{ℕ, ◌+◌, ◌-◌, ◌/◌, Bool, true, false, cond, List, replicate, None, Ok, Err, Option, Result, nat_le, nat_lt, slice_index, slice_set}
use Rattle.machine.specs.Heap.{Heap, Marks, empty_marks, used, scan_over, here, lower_top, move, move_hold, along, scan, trade}
use Rattle.machine.specs.Words.{refer, put_cell}
use Rattle.machine.specs.declared.faults.MemoryFault.{MemoryFault}
use Rattle.machine.specs.declared.faults.MemoryFault.TheVariants.{Scanning, Full}

-- Where every walk begins: 16 registers, each with a word, and 8 hold places, each free or taken with a word.
pub record Roots : Type 0 where
  pub registers : List ℕ
  pub holds : List (Option ℕ)

abbrev pub empty_roots : Roots
empty_roots = record { registers = replicate 16 0; holds = replicate 8 None }

-- What was agreed at opening: how many cells a cons scans at most, how many cells may be in reach, and the number of the memory.
pub record Terms : Type 0 where
  pub pace : ℕ
  pub limit : ℕ
  pub number : ℕ

pub record Machine : Type 0 where
  pub heap : Heap
  pub roots : Roots
  pub terms : Terms
  pub opened : Bool

abbrev pub with_heap : Machine → Heap → Machine
with_heap m h = record { heap = h; roots = m.roots; terms = m.terms; opened = m.opened }

abbrev pub register : Machine → ℕ → ℕ
register m r = slice_index m.roots.registers r

abbrev pub with_register : Machine → ℕ → ℕ → Machine
with_register m d w =
    record {
      heap = m.heap;
      roots = record { registers = slice_set m.roots.registers d w; holds = m.roots.holds };
      terms = m.terms;
      opened = m.opened;
    }

-- A memory as it is made over a store, shut. Its terms and marks mean nothing before it is opened.
abbrev pub shut_machine : List ℕ → Machine
shut_machine ws =
    record {
      heap = record { words = ws; upper = false; marks = empty_marks 0 0 };
      roots = empty_roots;
      terms = record { pace = 1; limit = 0; number = 0 };
      opened = false;
    }

-- A memory as it is after opening, over halves of `size` cells; the store's words are as they were.
abbrev pub fresh_machine : List ℕ → ℕ → Terms → Machine
fresh_machine ws size terms =
    record {
      heap = record { words = ws; upper = false; marks = empty_marks size 0 };
      roots = empty_roots;
      terms = terms;
      opened = true;
    }

-- a divided by b, rounded up
abbrev pub ceiling : ℕ → ℕ → ℕ
ceiling a b = (a + b - 1) / b

-- how many used cells make a flip due
abbrev pub flip_line : Machine → ℕ
flip_line m = m.heap.marks.size - ceiling m.terms.limit m.terms.pace

abbrev pub flip_due : Machine → Bool
flip_due m = cond (scan_over m.heap.marks) (nat_le (flip_line m) (used m.heap.marks)) false

-- Every register is moved, rising, and then every taken hold.
abbrev pub move_registers : Machine → Machine
move_registers m =
    record {
      heap = (along move m.heap m.roots.registers).after;
      roots = record { registers = (along move m.heap m.roots.registers).value; holds = m.roots.holds };
      terms = m.terms;
      opened = m.opened;
    }

abbrev pub move_holds : Machine → Machine
move_holds m =
    record {
      heap = (along move_hold m.heap m.roots.holds).after;
      roots = record { registers = m.roots.registers; holds = (along move_hold m.heap m.roots.holds).value };
      terms = m.terms;
      opened = m.opened;
    }

abbrev pub flip : Machine → Machine
flip m = move_holds (move_registers (with_heap m (trade m.heap)))

abbrev pub flip_if_due : Machine → Machine
flip_if_due m = cond (flip_due m) (flip m) m

-- The collector's share of a cons: a flip if one is due, then a scan of at most `pace` cells.
abbrev pub collected : Machine → Machine
collected m = with_heap (flip_if_due m) (scan m.terms.pace (flip_if_due m).heap)

-- With the scan over there is room below the allocated cells or none at all. While it goes on, the cells
-- that are still to be copied have a claim, and `prior` says how many there can be.
abbrev pub room : Marks → Result (Unit {0}) MemoryFault
room m =
    cond (scan_over m)
    (cond (nat_lt m.copied m.top) (Ok tt) (Err Full))
    (cond (nat_lt m.prior m.top) (Ok tt) (Err Scanning))

-- A cell more from the top, with a pair of words.
abbrev pub new_cell : Machine → ℕ
new_cell m = here m.heap + (lower_top m.heap.marks).top

abbrev pub allocate : Machine → ℕ × ℕ → Machine
allocate m pair =
    with_heap m
    (record { words = put_cell m.heap.words (new_cell m) pair; upper = m.heap.upper; marks = lower_top m.heap.marks })

-- The new cell has the words of a and b, and register d refers to it.
abbrev pub grant : Machine → ℕ → ℕ → ℕ → Machine
grant m d a b = with_register (allocate m (register m a, register m b)) d (refer (new_cell m))
