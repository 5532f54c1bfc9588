-- The command words.
use Rattle.std.specs.Prelude.{ℕ, suc, Bool, true, cond, ◌&&◌, List, [], ◌∷◌, length, Some, None, codes, Option, ◌==◌, slice_index}
use Rattle.verb.specs.declared.Verb.TheVariants.{Open, Set, Cons, Car, Cdr, Rplaca, Rplacd, Load, Clear, Look, Same}
use Rattle.verb.specs.declared.Verb.{Verb}

-- whether the bytes of a text stand in a word from a place on
abbrev pub stand_at : ℕ → List ℕ → List ℕ → Bool
stand_at i [] w = true
stand_at i (c ∷ cs) w = slice_index w i == c && stand_at (suc i) cs w

-- whether a word is this text
abbrev pub spells : List ℕ → List ℕ → Bool
spells text w = length w == length text && stand_at 0 text w

-- the entry of a table that a word spells
abbrev pub among : {X : Type 0} → List (List ℕ × X) → List ℕ → Option X
among [] w = None
among (row ∷ rows) w = cond (spells row.0 w) (Some row.1) (among rows w)

abbrev pub verbs : List (List ℕ × Verb)
verbs =
    (codes "open", Open) ∷ (codes "set", Set) ∷ (codes "cons", Cons) ∷ (codes "car", Car) ∷ (codes "cdr", Cdr)
    ∷ (codes "rplaca", Rplaca) ∷ (codes "rplacd", Rplacd) ∷ (codes "load", Load) ∷ (codes "clear", Clear)
    ∷ (codes "look", Look) ∷ (codes "same", Same) ∷ []

abbrev pub verb_of : List ℕ → Option Verb
verb_of w = among verbs w
