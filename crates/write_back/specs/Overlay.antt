-- What a layer means: the list below with all late words put over it. Place i belongs to entry i mod 8.
use Rattle.std.specs.Prelude.{ℕ, ◌%◌, cond, List, map, length, Some, None, Option, ◌==◌, slice_index, slice_index_or}
use Rattle.std.specs.List.{range_with_len}
use Rattle.write_back.specs.declared.entries.Late.{Late}

-- the word that an entry has for a place
abbrev pub word_in : Option Late → ℕ → Option ℕ
word_in None place = None
word_in (Some late) place = cond (late.place == place) (Some late.word) None

-- a late word, if there is one, over the word below
abbrev pub over : Option ℕ → ℕ → ℕ
over None below = below
over (Some late) below = late

abbrev pub word_at : List ℕ → List (Option Late) → ℕ → ℕ
word_at ws entries place = over (word_in (slice_index_or entries (place % 8) None) place) (slice_index ws place)

unfoldable pub overlaid : List ℕ → List (Option Late) → List ℕ
overlaid ws entries = map (word_at ws entries) (range_with_len 0 (length ws))
