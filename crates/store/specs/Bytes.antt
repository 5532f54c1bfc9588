-- What a row of bytes means: four bytes a word, most significant first. Up to three bytes left over mean nothing.
use Rattle.std.specs.Prelude.{ℕ, ◌+◌, ◌*◌, List, [], ◌∷◌}

abbrev pub word_of : ℕ → ℕ → ℕ → ℕ → ℕ
word_of a b c d = a * 16777216 + b * 65536 + c * 256 + d

unfoldable pub byte_words : List ℕ → List ℕ
byte_words [] = []
byte_words (a ∷ []) = []
byte_words (a ∷ b ∷ []) = []
byte_words (a ∷ b ∷ c ∷ []) = []
byte_words (a ∷ b ∷ c ∷ d ∷ bytes) = word_of a b c d ∷ byte_words bytes
