-- A piece cut from what follows it.
use Rattle.std.proofs.Common.{◌≡◌, ℕ, true, false, eqb, List, [], ◌∷◌, ◌++◌, ap, ◌∙◌, arith}
use Rattle.language.specs.Laws.{lacks}
use Rattle.std.proofs.lemmas.Bool.Decides.{nat_tests}
use Rattle.words.proofs.Pieces.{other_goes_on}
use Rattle.words.specs.Pieces.{onto, pieces}

-- without an `end` in it, it goes on to the first one after it
pub piece_goes_on : (last : List (List ℕ)) (end : ℕ) (w rest : List ℕ) (ws : List (List ℕ)) → lacks end w ≡ true
    → pieces last end rest ≡ [] ∷ ws → pieces last end (w ++ rest) ≡ w ∷ ws
piece_goes_on last end [] rest ws h e = e
piece_goes_on last end (b ∷ bs) rest ws h e =
    let other : eqb b end ≡ false = grind (arith, nat_tests) in
    let more : lacks end bs ≡ true = grind (arith, nat_tests) in
    other_goes_on last end b (bs ++ rest) other ∙ ap (onto b) (piece_goes_on last end bs rest ws more e)
