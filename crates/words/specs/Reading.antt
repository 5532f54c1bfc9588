-- Words read one after another.
use Rattle.std.specs.Prelude.{◌≡◌, ℕ, ◌+◌, List, [], ◌∷◌, length, Some, None, Option}
use Rattle.words.specs.Pieces.{words_of}
use Rattle.words.specs.Tokens.{Sort, sort_in}
use Rattle.words.specs.Unread.{Unread, placed}
use Rattle.words.specs.declared.reader.Placed.{Placed}

-- a whole line, not yet read
abbrev pub unread : List ℕ → Unread
unread line = record { words = placed 1 (words_of line); end = length line + 1 }

-- the words that were left before one was taken, by what was taken and what is left
abbrev pub untaken : Option Placed → List (ℕ × Sort) → List (ℕ × Sort)
untaken None ws = []
untaken (Some p) ws = (p.column, sort_in p.token) ∷ ws

abbrev pub rest : List (ℕ × Sort) → List (ℕ × Sort)
rest [] = []
rest (w ∷ ws) = ws

-- the first of the words that are left is taken, if there is one
pub record WordsGive (old : Unread) (word : Option Placed) (new : Unread) : Type 0 where
  pub taken : old.words ≡ untaken word new.words
  pub left : new.words ≡ rest old.words
  pub end : new.end ≡ old.end
