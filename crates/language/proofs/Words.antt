-- The words of a line, put together again.
use Rattle.std.proofs.Common.{◌≡◌, ℕ, false, eqb, List, [], ◌∷◌, sym, refl, ap, ◌∙◌, inl, inr, arith}
use Rattle.language.proofs.Pieces.{piece_goes_on}
use Rattle.language.specs.Laws.{spaced_out, rejoined, Spaceless}
use Rattle.std.proofs.lemmas.Bool.{cases_Bool}
use Rattle.std.specs.List.{AllByRecursion}
use Rattle.words.proofs.Pieces.{end_cuts, other_goes_on}
use Rattle.words.specs.Pieces.{onto, pieces, words_of}
use Rattle.std.proofs.lemmas.Bool.Decides.{nat_tests}

-- a line has at least one word, so a space before the first is a space before all
space_before-onto : (b : ℕ) (ws : List (List ℕ)) → spaced_out (onto b ws) ≡ 32 ∷ rejoined (onto b ws)
unfolding spaced_out rejoined
space_before-onto b [] = refl
space_before-onto b (w ∷ ws) = refl

space_before_words : (line : List ℕ) → spaced_out (words_of line) ≡ 32 ∷ rejoined (words_of line)
unfolding spaced_out rejoined pieces
space_before_words [] = refl
space_before_words (b ∷ bs) =
    elim (cases_Bool (eqb b 32)) [
      | inl e ↦ rw (end_cuts ([] ∷ []) 32 b bs e) refl
      | inr e ↦ rw (other_goes_on ([] ∷ []) 32 b bs e) (space_before-onto b (words_of bs))
    ]

rejoined-onto : (b : ℕ) (ws : List (List ℕ)) → rejoined (onto b ws) ≡ b ∷ rejoined ws
unfolding spaced_out rejoined
rejoined-onto b [] = refl
rejoined-onto b (w ∷ ws) = refl

pub words_make_the_line : (line : List ℕ) → rejoined (words_of line) ≡ line
unfolding rejoined spaced_out pieces
words_make_the_line [] = refl
words_make_the_line (b ∷ bs) =
    elim (cases_Bool (eqb b 32)) [
      | inl e ↦
          let space : b ≡ 32 = grind (arith, nat_tests) in
          rw (end_cuts ([] ∷ []) 32 b bs e) (space_before_words bs ∙ ap (λ l. 32 ∷ l) (words_make_the_line bs) ∙ ap (λ c. c ∷ bs) (sym space))
      | inr e ↦ rw (other_goes_on ([] ∷ []) 32 b bs e) (rejoined-onto b (words_of bs) ∙ ap (λ l. b ∷ l) (words_make_the_line bs))
    ]

onto_spaceless : (b : ℕ) (ws : List (List ℕ)) → eqb b 32 ≡ false → AllByRecursion Spaceless ws → AllByRecursion Spaceless (onto b ws)
onto_spaceless b [] e h = (rw e refl, tt)
onto_spaceless b (w ∷ ws) e h = (rw e h.0, h.1)

pub words_have_no_space : (line : List ℕ) → AllByRecursion Spaceless (words_of line)
unfolding pieces
words_have_no_space [] = (refl, tt)
words_have_no_space (b ∷ bs) =
    elim (cases_Bool (eqb b 32)) [
      | inl e ↦ rw (end_cuts ([] ∷ []) 32 b bs e) (refl, words_have_no_space bs)
      | inr e ↦ rw (other_goes_on ([] ∷ []) 32 b bs e) (onto_spaceless b (words_of bs) e (words_have_no_space bs))
    ]

spaces_cut_again : (ws : List (List ℕ)) → AllByRecursion Spaceless ws → words_of (spaced_out ws) ≡ [] ∷ ws
unfolding spaced_out pieces
spaces_cut_again [] h = refl
spaces_cut_again (w ∷ ws) h =
    ap (λ vs. [] ∷ vs) (piece_goes_on ([] ∷ []) 32 w (spaced_out ws) ws h.0 (spaces_cut_again ws h.1))

pub words_cut_again : (w : List ℕ) (ws : List (List ℕ)) → AllByRecursion Spaceless (w ∷ ws) → words_of (rejoined (w ∷ ws)) ≡ w ∷ ws
unfolding rejoined
words_cut_again w ws h = piece_goes_on ([] ∷ []) 32 w (spaced_out ws) ws h.0 (spaces_cut_again ws h.1)
