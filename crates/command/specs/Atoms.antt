-- Axis words as the console writes them: a letter and a number, with a minus allowed after X, Y and Z.
use Rattle.std.specs.Prelude.{ℕ, cond, List, drop, ℤ, pos, neg_ℤ, Some, None, Option}
use Rattle.atom.specs.declared.axis.AxisWord.TheVariants as a
use Rattle.atom.specs.declared.axis.AxisWord.{AxisWord}
use Rattle.words.specs.Numbers.{number_of}
use Rattle.words.specs.Tokens.{begins}
use Rattle.words.specs.declared.token.Letter.TheVariants.{X, Y, Z, D, T}
use Rattle.words.specs.declared.token.Letter.{Letter}

abbrev pub mapped : {V W : Type 0} → (V → W) → Option V → Option W
mapped f (Some v) = Some (f v)
mapped f None = None

-- 45 is the minus
abbrev pub signed_of : List ℕ → Option ℤ
signed_of w =
    cond (begins w 45)
    (mapped (λ n. neg_ℤ (pos n)) (number_of (drop 1 w)))
    (mapped (λ n. pos n) (number_of w))

abbrev pub atom_of : Letter → List ℕ → Option AxisWord
atom_of X w = mapped a.X (signed_of w)
atom_of Y w = mapped a.Y (signed_of w)
atom_of Z w = mapped a.Z (signed_of w)
atom_of D w = mapped a.D (number_of w)
atom_of T w = mapped a.T (number_of w)
