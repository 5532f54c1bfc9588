-- Bytes cut into whole words: each chunk of four bytes is one word of the list.
use Rattle.std.proofs.Common.{◌≡◌, ℕ, suc, ◌/◌, ◌^◌, ◌<◌, List, [], ◌∷◌, length, map, set, refl, ap, ap₂, ◌∙◌, arith}
use Rattle.std.proofs.lemmas.List.{map-set}
use Rattle.std.proofs.lemmas.Nat.{from_be_bytes-to_be_bytes_4}
use Rattle.std.specs.Int.{from_be_bytes, to_be_bytes, w32}
use Rattle.std.specs.Simd.{first_chunks}
use Rattle.store.specs.Bytes.{byte_words, word_of}

pub length-byte_words : (bytes : List ℕ) → length (byte_words bytes) ≡ length bytes / 4
unfolding byte_words
length-byte_words [] = refl
length-byte_words (a ∷ []) = refl
length-byte_words (a ∷ b ∷ []) = refl
length-byte_words (a ∷ b ∷ c ∷ []) = refl
length-byte_words (a ∷ b ∷ c ∷ d ∷ bytes) = omega (arith, length-byte_words bytes)

four : (a b c d : ℕ) → from_be_bytes w32 (a ∷ b ∷ c ∷ d ∷ []) ≡ word_of a b c d
four a b c d = omega arith

pub words_of_chunks : (bytes : List ℕ) → map (from_be_bytes w32) (first_chunks 4 (length bytes / 4) bytes) ≡ byte_words bytes
unfolding byte_words
words_of_chunks [] = refl
words_of_chunks (a ∷ []) = refl
words_of_chunks (a ∷ b ∷ []) = refl
words_of_chunks (a ∷ b ∷ c ∷ []) = refl
words_of_chunks (a ∷ b ∷ c ∷ d ∷ bytes) =
    let e : length (a ∷ b ∷ c ∷ d ∷ bytes) / 4 ≡ suc (length bytes / 4) = omega arith in
    rw e (ap₂ ◌∷◌ (four a b c d) (words_of_chunks bytes))

pub set_chunk : (chunks : List (List ℕ)) (k w : ℕ) →
    w < 2 ^ 32 → map (from_be_bytes w32) (set chunks k (to_be_bytes w32 w)) ≡ set (map (from_be_bytes w32) chunks) k w
set_chunk chunks k w lt =
    map-set (from_be_bytes w32) chunks k (to_be_bytes w32 w)
    ∙ ap (set (map (from_be_bytes w32) chunks) k) (from_be_bytes-to_be_bytes_4 w lt)

pub ruleset whole_words = (words_of_chunks, length-byte_words)
