-- The first piece of a text, and those after it.
use Rattle.std.proofs.Common.{Bor, option_map, position, not, ◌==◌, ◌≡◌, ℕ, suc, ◌+◌, ◌<◌, ◌≤◌, true, false, eqb, ltb, List, [], ◌∷◌, length, take, drop, Some, None, Option, refl, ap, ◌∙◌, inl, inr, one-add, add-one, arith}
use Rattle.std.proofs.lemmas.Bool.{cases_Bool, cases_lt}
use Rattle.std.proofs.lemmas.Bool.Decides.{nat_tests}
use Rattle.std.proofs.lemmas.List.{take_all}
use Rattle.std.proofs.lemmas.List.Sums.{prefix_len-le-length}
use Rattle.std.specs.Option.{unwrap_or}
use Rattle.words.specs.Pieces.{before, beyond, lines_of, onto, pieces, words_of}

pub before_within : (end : ℕ) (bs : List ℕ) → before end bs ≤ length bs
before_within end bs = prefix_len-le-length (λ b. not (b == end)) bs

pub found_or_end : (end : ℕ) (bs : List ℕ) → unwrap_or (position (λ b. b == end) bs) (length bs) ≡ before end bs
found_or_end end bs = grind (arith, nat_tests, before_within)

module _ (last : List (List ℕ)) (end b : ℕ) (bs : List ℕ) where
  pub end_cuts : eqb b end ≡ true → pieces last end (b ∷ bs) ≡ [] ∷ pieces last end bs
  unfolding pieces
  end_cuts e = rw e

  pub other_goes_on : eqb b end ≡ false → pieces last end (b ∷ bs) ≡ onto b (pieces last end bs)
  unfolding pieces
  other_goes_on e = rw e

  pub none_before_end : eqb b end ≡ true → before end (b ∷ bs) ≡ 0
  none_before_end e = rw e

  pub one_more_before : eqb b end ≡ false → before end (b ∷ bs) ≡ suc (before end bs)
  one_more_before e = rw e (one-add (before end bs))

-- where an `end` stands in it, the first piece ends there
pub first_piece : (last : List (List ℕ)) (end : ℕ) (bs : List ℕ) → before end bs < length bs
    → pieces last end bs ≡ take (before end bs) bs ∷ pieces last end (drop (suc (before end bs)) bs)
first_piece last end [] h = absurd (omega arith)
first_piece last end (b ∷ bs) h =
    elim (cases_Bool (eqb b end)) [
      | inl e ↦ rw (none_before_end last end b bs e) (end_cuts last end b bs e)
      | inr e ↦
          let n : before end (b ∷ bs) ≡ suc (before end bs) = one_more_before last end b bs e in
          let within : before end bs < length bs = omega arith in
          rw n (other_goes_on last end b bs e ∙ ap (onto b) (first_piece last end bs within))
    ]

-- the pieces after a first one
abbrev pub pieces_after : List (List ℕ) → ℕ → Option (List ℕ) → List (List ℕ)
pieces_after last end None = []
pieces_after last end (Some bs) = pieces last end bs

-- where the end of a text makes no piece of its own after a byte
module _ (last : List (List ℕ)) (end : ℕ) (joins : (b : ℕ) → onto b last ≡ (b ∷ []) ∷ []) where
  -- without an `end` all is one piece
  onto_last_piece : (b : ℕ) (bs : List ℕ) → length bs ≤ before end bs → onto b (pieces last end bs) ≡ (b ∷ bs) ∷ []
  unfolding pieces
  onto_last_piece b [] h = joins b
  onto_last_piece b (c ∷ bs) h =
      elim (cases_Bool (eqb c end)) [
        | inl e ↦ absurd (omega (arith, none_before_end last end c bs e))
        | inr e ↦
            let within : length bs ≤ before end bs = omega (arith, one_more_before last end c bs e) in
            ap (onto b) (other_goes_on last end c bs e ∙ onto_last_piece c bs within)
      ]

  last_piece : (bs : List ℕ) → 0 < length bs → length bs ≤ before end bs → pieces last end bs ≡ bs ∷ []
  last_piece [] some h = absurd (omega arith)
  last_piece (b ∷ bs) some h =
      elim (cases_Bool (eqb b end)) [
        | inl e ↦ absurd (omega (arith, none_before_end last end b bs e))
        | inr e ↦ other_goes_on last end b bs e ∙ onto_last_piece b bs (omega (arith, one_more_before last end b bs e))
      ]

  pub pieces_cut : (bs : List ℕ) → 0 < length bs → pieces last end bs ≡ take (before end bs) bs ∷ pieces_after last end (beyond end bs)
  pieces_cut bs some =
      elim (cases_lt (before end bs) (length bs)) [
        | inl more ↦
            let test : ltb (before end bs) (length bs) ≡ true = grind (arith, nat_tests) in
            rw (test, add-one) (first_piece last end bs more)
        | inr none ↦
            let test : ltb (before end bs) (length bs) ≡ false = grind (arith, nat_tests) in
            rw (test, take_all (before end bs) bs none) (last_piece bs some none)
      ]

pub words_cut : (text : List ℕ) → words_of text ≡ take (before 32 text) text ∷ pieces_after ([] ∷ []) 32 (beyond 32 text)
unfolding pieces
words_cut [] = refl
words_cut (b ∷ bs) = pieces_cut ([] ∷ []) 32 (λ b. refl) (b ∷ bs) (omega arith)

pub lines_cut : (text : List ℕ) → 0 < length text → lines_of text ≡ take (before 10 text) text ∷ pieces_after [] 10 (beyond 10 text)
lines_cut text some = pieces_cut [] 10 (λ b. refl) text some

pub no_lines : (text : List ℕ) → length text ≡ 0 → lines_of text ≡ []
unfolding pieces
no_lines [] none = refl
no_lines (b ∷ bs) none = absurd (omega arith)

-- the lines after a first one are those of what is left, if any is
pub lines_after : (left : Option (Bor (List ℕ))) (empty rest : Bor (List ℕ)) → empty.now ≡ [] → rest ≡ unwrap_or left empty
    → pieces_after [] 10 (option_map (λ bs. bs.now) left) ≡ lines_of rest.now
unfolding pieces
lines_after None empty rest none e = rw (e, none) refl
lines_after (Some bs) empty rest none e = rw e refl

few_onto : (b : ℕ) (ws : List (List ℕ)) → length (onto b ws) ≤ length ws + 1
few_onto b [] = omega arith
few_onto b (w ∷ ws) = omega arith

pub few_lines : (text : List ℕ) → length (lines_of text) ≤ length text
unfolding pieces
few_lines [] = omega arith
few_lines (b ∷ bs) =
    elim (cases_Bool (eqb b 10)) [
      | inl e ↦ rw (end_cuts [] 10 b bs e) (omega (arith, few_lines bs))
      | inr e ↦ rw (other_goes_on [] 10 b bs e) (omega (arith, few_onto b (lines_of bs), few_lines bs))
    ]
