-- A word spells a text just if it is that text.
use Rattle.std.proofs.Common.{◌≡◌, ℕ, zero, suc, ◌+◌, ◌<◌, true, List, [], ◌∷◌, length, get_or, Decides, refl, add-zero, zero-add, arith}
use Rattle.verb.specs.Verbs.{spells, stand_at}
use Rattle.std.proofs.lemmas.List.{ext_get_or}
use Rattle.std.proofs.lemmas.Bool.Decides.{nat_tests}

-- bytes that stand from a place on stand each at its own
stand_gives : (i : ℕ) (cs w : List ℕ) → stand_at i cs w ≡ true → (k : ℕ) → k < length cs → get_or w (i + k) 0 ≡ get_or cs k 0
stand_gives i [] w h k within = absurd (omega arith)
stand_gives i (c ∷ cs) w h zero within =
    let first : get_or w i 0 ≡ c = grind (arith, nat_tests) in
    rw add-zero first
stand_gives i (c ∷ cs) w h (suc k) within =
    let rest : stand_at (suc i) cs w ≡ true = grind (arith, nat_tests) in
    let place : i + suc k ≡ suc i + k = omega arith in
    rw place (stand_gives (suc i) cs w rest k (omega arith))

stand_made : (i : ℕ) (cs w : List ℕ) → ((k : ℕ) → k < length cs → get_or w (i + k) 0 ≡ get_or cs k 0) → stand_at i cs w ≡ true
stand_made i [] w h = refl
stand_made i (c ∷ cs) w h =
    let first : get_or w i 0 ≡ c = rw add-zero at (h 0 (omega arith)) in
    let rest : stand_at (suc i) cs w ≡ true =
    stand_made (suc i) cs w (λ k within. let place : suc i + k ≡ i + suc k = omega arith in rw place (h (suc k) (omega arith))) in
    grind (arith, nat_tests)

spells_itself : (text : List ℕ) → spells text text ≡ true
spells_itself text =
    let stands : stand_at 0 text text ≡ true = stand_made 0 text text (λ k within. rw zero-add refl) in
    grind (arith, nat_tests)

pub spelling_decides : (text w : List ℕ) → Decides (spells text w) (w ≡ text)
spelling_decides text w = (
  λ h.
      let size : length w ≡ length text = grind (arith, nat_tests) in
      let stands : stand_at 0 text w ≡ true = grind (arith, nat_tests) in
      ext_get_or 0 w text size (λ k within. rw zero-add at (stand_gives 0 text w stands k (omega arith))),
  λ e. rw e (spells_itself text),
)
