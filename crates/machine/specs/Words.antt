-- Words and cells. Word 0 is nil, words from 1 to 2^31 - 1 are atom codes, and word 2^31 + c refers to cell c.
-- Cell c has its head at place 2c of the store and its tail at place 2c + 1.
use Rattle.std.specs.Prelude.{ℕ, ◌+◌, ◌-◌, ◌*◌, Bool, false, cond, List, Some, None, Option, ◌==◌, nat_le, nat_lt, slice_index, slice_set}
use Rattle.machine.specs.declared.side.Side.{Side}
use Rattle.machine.specs.declared.side.Side.TheVariants.{Head, Tail}
use Rattle.machine.specs.declared.sight.Sight.{Sight}
use Rattle.machine.specs.declared.sight.Sight.TheVariants.{Nil, Cell, Atom}

-- the word that refers to a cell
abbrev pub refer : ℕ → ℕ
refer c = 2147483648 + c

abbrev pub is_reference : ℕ → Bool
is_reference w = nat_le 2147483648 w

-- the cell that a reference refers to
abbrev pub cell_of : ℕ → ℕ
cell_of w = w - 2147483648

-- whether a word refers to one of `size` cells from `base` on
abbrev pub refers_into : ℕ → ℕ → ℕ → Bool
refers_into base size w = cond (nat_le (refer base) w) (nat_lt w (refer (base + size))) false

-- where the store has a cell's word
abbrev pub place_of : Side → ℕ → ℕ
place_of Head c = 2 * c
place_of Tail c = 2 * c + 1

-- a cell's two words, as a pair
abbrev pub cell_at : List ℕ → ℕ → ℕ × ℕ
cell_at ws c = (slice_index ws (2 * c), slice_index ws (2 * c + 1))

abbrev pub put_cell : List ℕ → ℕ → ℕ × ℕ → List ℕ
put_cell ws c pair = slice_set (slice_set ws (2 * c) pair.0) (2 * c + 1) pair.1

-- what a word shows, for a kind that reads words by `meant`.
-- A word below 2^31 that reads as no atom shows as nil: no register of an open memory ever has one.
abbrev pub shown : {A : Type 0} → Option A → Sight A
shown (Some a) = Atom a
shown None = Nil

abbrev pub sight_of : {A : Type 0} → (ℕ → Option A) → ℕ → Sight A
sight_of meant w = cond (w == 0) Nil (cond (is_reference w) Cell (shown (meant w)))
