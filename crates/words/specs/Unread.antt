-- What is left of a line: its words with their columns, and where it ends.
use Rattle.std.specs.Prelude.{ℕ, ◌+◌, ◌-◌, List, [], ◌∷◌, length, Some, None, Option}
use Rattle.words.specs.Pieces.{words_of}
use Rattle.words.specs.Tokens.{Sort, sort_of}

-- words one space apart, the first of them at a column
unfoldable pub placed : ℕ → List (List ℕ) → List (ℕ × Sort)
placed column [] = []
placed column (w ∷ ws) = (column, sort_of w) ∷ placed (column + length w + 1) ws

-- the words that are left, and the column one past the end of the line
pub record Unread : Type 0 where
  pub words : List (ℕ × Sort)
  pub end : ℕ

-- the words of what is left of a line, where its end has a column
abbrev pub words_in : ℕ → Option (List ℕ) → List (ℕ × Sort)
words_in end None = []
words_in end (Some text) = placed (end - length text) (words_of text)
