-- What two banks of words mean: their words in turn, as far as the shorter bank goes.
use Rattle.std.specs.Prelude.{ℕ, ◌/◌, ◌%◌, cond, List, [], ◌∷◌, ◌==◌, slice_set}

unfoldable pub interleaved : List ℕ → List ℕ → List ℕ
interleaved [] odd = []
interleaved (x ∷ even) [] = []
interleaved (x ∷ even) (y ∷ odd) = x ∷ y ∷ interleaved even odd

-- each bank after a word is put at a place
abbrev pub even_after : List ℕ → ℕ → ℕ → List ℕ
even_after even place word = cond (place % 2 == 0) (slice_set even (place / 2) word) even

abbrev pub odd_after : List ℕ → ℕ → ℕ → List ℕ
odd_after odd place word = cond (place % 2 == 0) odd (slice_set odd (place / 2) word)
