-- The text of an axis word: its letter and its number, with a minus if it is negative.
use Rattle.std.specs.Prelude.{ℕ, List, ◌++◌, codes, decimal}
use Rattle.atom.specs.declared.axis.AxisWord.TheVariants.{X, Y, Z, D, T}
use Rattle.atom.specs.declared.axis.AxisWord.{AxisWord}
use Rattle.std.specs.Fmt.{signed_decimal}

abbrev pub axis_text : AxisWord → List ℕ
axis_text (X target) = codes "X" ++ signed_decimal target
axis_text (Y target) = codes "Y" ++ signed_decimal target
axis_text (Z target) = codes "Z" ++ signed_decimal target
axis_text (D milliseconds) = codes "D" ++ decimal milliseconds
axis_text (T tool) = codes "T" ++ decimal tool
