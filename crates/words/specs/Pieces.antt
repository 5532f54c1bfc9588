-- A text cut at every byte of one value.
use Rattle.std.specs.Prelude.{ℕ, ◌+◌, cond, not, List, [], ◌∷◌, length, drop, Some, None, Option, ◌==◌, nat_lt}
use Rattle.std.specs.List.{prefix_len}

-- how many bytes stand before the first `end`
abbrev pub before : ℕ → List ℕ → ℕ
before end bs = prefix_len (λ b. not (b == end)) bs

-- what stands after the first `end`, if there is one
abbrev pub beyond : ℕ → List ℕ → Option (List ℕ)
beyond end bs = cond (nat_lt (before end bs) (length bs)) (Some (drop (before end bs + 1) bs)) None

-- a byte put before the first piece
abbrev pub onto : ℕ → List (List ℕ) → List (List ℕ)
onto b [] = (b ∷ []) ∷ []
onto b (w ∷ ws) = (b ∷ w) ∷ ws

-- the pieces between the bytes `end`, where `last` is what comes of the end of the text
unfoldable pub pieces : List (List ℕ) → ℕ → List ℕ → List (List ℕ)
pieces last end [] = last
pieces last end (b ∷ bs) = cond (b == end) ([] ∷ pieces last end bs) (onto b (pieces last end bs))

-- words end at each space and at the line's end, so the last may be empty
abbrev pub words_of : List ℕ → List (List ℕ)
words_of line = pieces ([] ∷ []) 32 line

-- lines end at each line feed; a last one without it is a line if not empty
abbrev pub lines_of : List ℕ → List (List ℕ)
lines_of text = pieces [] 10 text
