-- What a word is, by its first byte.
use Rattle.std.specs.Prelude.{ℕ, Bool, cond, ◌&&◌, List, length, drop, Some, None, Option, ◌==◌, nat_le, slice_index}
use Rattle.words.specs.Numbers.{is_digit}
use Rattle.words.specs.declared.token.Letter.TheVariants.{X, Y, Z, D, T}
use Rattle.words.specs.declared.token.Letter.{Letter}
use Rattle.words.specs.declared.token.Token.TheVariants as t
use Rattle.words.specs.declared.token.Token.{Token}

-- the letter that a byte writes: 88, 89, 90, 68 and 84 are the bytes of X, Y, Z, D and T
abbrev pub letter_of : ℕ → Option Letter
letter_of b =
    cond (b == 88) (Some X)
    (cond (b == 89) (Some Y)
    (cond (b == 90) (Some Z)
    (cond (b == 68) (Some D)
    (cond (b == 84) (Some T)
    None))))

-- a word that begins with a digit, one that begins with the letter of an axis word, or another
pub data Sort : Type 0 where
  number : List ℕ → Sort
  atom : Letter → List ℕ → Sort
  name : List ℕ → Sort

-- whether a word begins with a byte
abbrev pub begins : List ℕ → ℕ → Bool
begins w b = nat_le 1 (length w) && slice_index w 0 == b

-- the sort of a word, by its first byte
abbrev pub sort_of : List ℕ → Sort
sort_of w =
    cond (nat_le 1 (length w) && is_digit (slice_index w 0)) (number w)
    (cond (begins w 88) (atom X (drop 1 w))
    (cond (begins w 89) (atom Y (drop 1 w))
    (cond (begins w 90) (atom Z (drop 1 w))
    (cond (begins w 68) (atom D (drop 1 w))
    (cond (begins w 84) (atom T (drop 1 w))
    (name w))))))

-- the sort that a token stands for
abbrev pub sort_in : Token → Sort
sort_in (t.Number w) = number w.now
sort_in (t.Atom letter w) = atom letter w.now
sort_in (t.Name w) = name w.now
