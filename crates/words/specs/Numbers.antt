-- Numbers of one to eight decimal digits.
use Rattle.std.specs.Prelude.{ℕ, ◌+◌, ◌-◌, ◌*◌, Bool, cond, ◌&&◌, List, [], ◌∷◌, length, Some, None, Option, nat_le}

-- from the byte of 0 to the byte of 9
abbrev pub is_digit : ℕ → Bool
is_digit b = nat_le 48 b && nat_le b 57

-- the number that goes on with these digits after `n`
abbrev pub read_on : ℕ → List ℕ → Option ℕ
read_on n [] = Some n
read_on n (b ∷ bs) = cond (is_digit b) (read_on (n * 10 + (b - 48)) bs) None

-- the number that a word of one to eight digits writes
abbrev pub number_of : List ℕ → Option ℕ
number_of w = cond (nat_le 1 (length w) && nat_le (length w) 8) (read_on 0 w) None
