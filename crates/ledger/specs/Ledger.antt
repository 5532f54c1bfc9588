-- The ledger: a list memory that never moves a cell and never uses one twice.
use Rattle.std.specs.Prelude.{◌≡◌, ℕ, ◌+◌, ◌<◌, ◌≤◌, cond, List, length, Some, Option, ◌==◌, slice_index}
use Rattle.machine.specs.declared.side.Side.{Side}
use Rattle.machine.specs.declared.side.Side.TheVariants.{Head, Tail}

-- what a ledger has where the memory has a word
pub data Entry (X : Type 0) : Type 0 where
  nil : Entry X
  atom : X → Entry X
  cell : ℕ → Entry X

-- an endless row of cells, of which the first `count` are used
pub record Row (X : Type 0) : Type 0 where
  pub heads : ℕ → Entry X
  pub tails : ℕ → Entry X
  pub count : ℕ

-- 16 registers and 8 hold places, each free or taken with an entry
pub record Ledger (X : Type 0) : Type 0 where
  pub row : Row X
  pub registers : ℕ → Entry X
  pub holds : ℕ → Option (Entry X)
  pub number : ℕ

-- a function with another value at one index
abbrev pub put : {Y : Type 0} → (ℕ → Y) → ℕ → Y → ℕ → Y
put f i y k = cond (k == i) y (f k)

-- a cell's head or tail
abbrev pub entry : {X : Type 0} → Side → Row X → ℕ → Entry X
entry Head g c = g.heads c
entry Tail g c = g.tails c

-- The cells in reach: found from registers and taken holds by heads and tails.
pub data Reach {X : Type 0} (l : Ledger X) : ℕ → Type 0 where
  of_register : (r c : ℕ) → r < 16 → l.registers r ≡ cell c → Reach l c
  of_hold : (p c : ℕ) → p < 8 → l.holds p ≡ Some (cell c) → Reach l c
  of_head : (b c : ℕ) → Reach l b → l.row.heads b ≡ cell c → Reach l c
  of_tail : (b c : ℕ) → Reach l b → l.row.tails b ≡ cell c → Reach l c

-- at most n cells are in reach: a list of that length has them all
pub record Few {X : Type 0} (n : ℕ) (l : Ledger X) : Type 0 where
  pub all : List ℕ
  pub short : length all ≤ n
  pub has : (c : ℕ) → Reach l c → (i : ℕ) × ((i < length all) × (slice_index all i ≡ c))

abbrev pub with_register : {X : Type 0} → Ledger X → ℕ → Entry X → Ledger X
with_register l d e = record { row = l.row; registers = put l.registers d e; holds = l.holds; number = l.number }

abbrev pub with_hold : {X : Type 0} → Ledger X → ℕ → Option (Entry X) → Ledger X
with_hold l p e = record { row = l.row; registers = l.registers; holds = put l.holds p e; number = l.number }

abbrev pub with_row : {X : Type 0} → Ledger X → Row X → Ledger X
with_row l g = record { row = g; registers = l.registers; holds = l.holds; number = l.number }

-- the next cell has the entries of a and b
abbrev pub pushed : {X : Type 0} → Row X → Entry X → Entry X → Row X
pushed g a b = record { heads = put g.heads g.count a; tails = put g.tails g.count b; count = g.count + 1 }

-- a cell's head or tail is another entry
abbrev pub rewritten : {X : Type 0} → Side → Row X → ℕ → Entry X → Row X
rewritten Head g c e = record { heads = put g.heads c e; tails = g.tails; count = g.count }
rewritten Tail g c e = record { heads = g.heads; tails = put g.tails c e; count = g.count }

-- a granted cons: the next cell, and its number in register d
abbrev pub booked : {X : Type 0} → Ledger X → ℕ → ℕ → ℕ → Ledger X
booked l d a b = with_register (with_row l (pushed l.row (l.registers a) (l.registers b))) d (cell l.row.count)
