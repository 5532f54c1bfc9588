-- Two banks read and written in turn: each place of the interleaved list is a slot of one bank.
use Rattle.std.proofs.Common.{◌≡◌, ℕ, zero, suc, ◌*◌, ◌/◌, ◌%◌, ◌<◌, min, List, [], ◌∷◌, length, get_or, set, sym, refl, ap, inl, inr, arith}
use Rattle.std.proofs.lemmas.Bool.{cases_eq, eq-eqb, ne_eqb}
use Rattle.std.proofs.lemmas.Bool.Decides.{nat_tests}
use Rattle.std.proofs.lemmas.List.{set_past}
use Rattle.store.specs.Banks.{interleaved, even_after, odd_after}

pub length-interleaved : (even odd : List ℕ) → length (interleaved even odd) ≡ 2 * min (length even) (length odd)
unfolding interleaved
length-interleaved [] odd = omega arith
length-interleaved (x ∷ even) [] = omega arith
length-interleaved (x ∷ even) (y ∷ odd) = omega (arith, length-interleaved even odd)

half_on : (i : ℕ) → suc (suc i) / 2 ≡ suc (i / 2)
half_on i = omega arith

pub get_or_even : (even odd : List ℕ) (i : ℕ) →
    i % 2 ≡ 0 → i / 2 < min (length even) (length odd) → get_or (interleaved even odd) i 0 ≡ get_or even (i / 2) 0
unfolding interleaved
get_or_even [] odd i e h = absurd (omega arith)
get_or_even (x ∷ even) [] i e h = absurd (omega arith)
get_or_even (x ∷ even) (y ∷ odd) zero e h = refl
get_or_even (x ∷ even) (y ∷ odd) (suc zero) e h = absurd (omega arith)
get_or_even (x ∷ even) (y ∷ odd) (suc (suc i)) e h =
    rw (half_on i) (get_or_even even odd i (omega arith) (omega arith))

pub get_or_odd : (even odd : List ℕ) (i : ℕ) →
    i % 2 ≡ 1 → i / 2 < min (length even) (length odd) → get_or (interleaved even odd) i 0 ≡ get_or odd (i / 2) 0
unfolding interleaved
get_or_odd [] odd i e h = absurd (omega arith)
get_or_odd (x ∷ even) [] i e h = absurd (omega arith)
get_or_odd (x ∷ even) (y ∷ odd) zero e h = absurd (omega arith)
get_or_odd (x ∷ even) (y ∷ odd) (suc zero) e h = refl
get_or_odd (x ∷ even) (y ∷ odd) (suc (suc i)) e h =
    rw (half_on i) (get_or_odd even odd i (omega arith) (omega arith))

pub set_even : (even odd : List ℕ) (i w : ℕ) →
    i % 2 ≡ 0 → interleaved (set even (i / 2) w) odd ≡ set (interleaved even odd) i w
unfolding interleaved
set_even [] odd i w e = refl
set_even (x ∷ even) [] zero w e = refl
set_even (x ∷ even) [] (suc zero) w e = absurd (omega arith)
set_even (x ∷ even) [] (suc (suc i)) w e = rw (half_on i) refl
set_even (x ∷ even) (y ∷ odd) zero w e = refl
set_even (x ∷ even) (y ∷ odd) (suc zero) w e = absurd (omega arith)
set_even (x ∷ even) (y ∷ odd) (suc (suc i)) w e =
    rw (half_on i) (ap (λ ws. x ∷ y ∷ ws) (set_even even odd i w (omega arith)))

pub set_odd : (even odd : List ℕ) (i w : ℕ) →
    i % 2 ≡ 1 → interleaved even (set odd (i / 2) w) ≡ set (interleaved even odd) i w
unfolding interleaved
set_odd [] odd i w e = refl
set_odd (x ∷ even) [] i w e = refl
set_odd (x ∷ even) (y ∷ odd) zero w e = absurd (omega arith)
set_odd (x ∷ even) (y ∷ odd) (suc zero) w e = refl
set_odd (x ∷ even) (y ∷ odd) (suc (suc i)) w e =
    rw (half_on i) (ap (λ ws. x ∷ y ∷ ws) (set_odd even odd i w (omega arith)))

pub set-interleaved : (even odd : List ℕ) (i w : ℕ) →
    set (interleaved even odd) i w ≡ interleaved (even_after even i w) (odd_after odd i w)
set-interleaved even odd i w =
    elim (cases_eq (i % 2) 0) [
      | inl e ↦ rw (eq-eqb (i % 2) 0 e) (sym (set_even even odd i w e))
      | inr ne ↦ rw (ne_eqb (i % 2) 0 ne) (sym (set_odd even odd i w (omega arith)))
    ]

-- a write of a place inside, which is all that a bank store makes
pub set_within : (even odd : List ℕ) (i w : ℕ) →
    i / 2 < min (length even) (length odd) → set (interleaved even odd) i w ≡ interleaved (even_after even i w) (odd_after odd i w)
set_within even odd i w h = set-interleaved even odd i w

pub ruleset turns = (length-interleaved, get_or_even, get_or_odd, nat_tests)

pub ruleset banks_after = (length-interleaved, set_within, set_past, nat_tests)
