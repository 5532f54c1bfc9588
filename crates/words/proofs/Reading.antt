-- The next word of a line, and those that are left after it.
use Rattle.std.proofs.Common.{◌≡◌, ℕ, ◌+◌, ◌-◌, ◌<◌, List, ◌∷◌, length, take, drop, Some, ltb, true, false, refl, ap, inl, inr, arith}
use Rattle.std.proofs.lemmas.Bool.{cases_lt}
use Rattle.std.proofs.lemmas.Bool.Decides.{nat_tests}
use Rattle.std.proofs.lemmas.List.{length-drop, length-take-le}
use Rattle.words.proofs.Pieces.{words_cut}
use Rattle.words.specs.Pieces.{before, beyond, words_of}
use Rattle.words.specs.Tokens.{sort_of}
use Rattle.words.specs.Unread.{placed, words_in}

pub next_word : (end : ℕ) (text : List ℕ) → length text < end
    → words_in end (Some text) ≡ (end - length text, sort_of (take (before 32 text) text)) ∷ words_in end (beyond 32 text)
unfolding placed
next_word end text within =
    let n : ℕ = before 32 text in
    rw (words_cut text) (ap (λ ws. (end - length text, sort_of (take n text)) ∷ ws) (
    elim (cases_lt n (length text)) [
      | inl more ↦
          let test : ltb n (length text) ≡ true = grind (arith, nat_tests) in
          let place : end - length text + length (take n text) + 1 ≡ end - length (drop (n + 1) text) =
          omega (arith, length-drop (n + 1) text, length-take-le n text (omega arith)) in
          rw test (ap (λ column. placed column (words_of (drop (n + 1) text))) place)
      | inr none ↦
          let test : ltb n (length text) ≡ false = grind (arith, nat_tests) in
          rw test refl
    ]))
