-- Lines, each ended by a line feed, cut again.
use Rattle.std.proofs.Common.{◌≡◌, ℕ, true, List, [], ◌∷◌, refl, ap, ◌∙◌}
use Rattle.language.proofs.Pieces.{piece_goes_on}
use Rattle.language.specs.Laws.{ended, lacks}
use Rattle.std.specs.List.{AllByRecursion}
use Rattle.words.proofs.Pieces.{end_cuts}
use Rattle.words.specs.Pieces.{lines_of, pieces}

pub lines_cut_again : (ls : List (List ℕ)) → AllByRecursion (λ l. lacks 10 l ≡ true) ls → lines_of (ended ls) ≡ ls
unfolding ended pieces
lines_cut_again [] h = refl
lines_cut_again (l ∷ ls) h =
    piece_goes_on [] 10 l (10 ∷ ended ls) (lines_of (ended ls)) h.0 (end_cuts [] 10 10 (ended ls) refl)
    ∙ ap (λ ks. l ∷ ks) (lines_cut_again ls h.1)
