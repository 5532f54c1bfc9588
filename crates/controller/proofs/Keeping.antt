-- Every call that makes a list keeps the holds taken.
use Rattle.std.proofs.Common.{◌≡◌, ℕ, zero, suc, Bool, true, false, cond, List, [], ◌∷◌, get_or, is_some, Some, None, Ok, Err, Option, Result, sym, refl, subst}
use Rattle.controller.specs.Keeping.{Keeps}
use Rattle.machine.specs.Calls.{unless, admitted, done, cons_call}
use Rattle.machine.specs.Heap.{Heap, along, move_hold}
use Rattle.machine.specs.Machine.{Machine, flip, flip_due, collected, room}
use Rattle.machine.specs.declared.faults.MemoryFault.{MemoryFault}

keeps_not : (m : Machine) → Keeps m m
keeps_not m = record { opening = refl; agreed = refl; taken = λ p. refl }

moved_taken : (h : Heap) (xs : List (Option ℕ)) (p : ℕ) → is_some (get_or (along move_hold h xs).value p None) ≡ is_some (get_or xs p None)
unfolding along
moved_taken h [] p = refl
moved_taken h (None ∷ xs) zero = refl
moved_taken h (Some w ∷ xs) zero = refl
moved_taken h (x ∷ xs) (suc p) = moved_taken (move_hold h x).after xs p

flip_keeps : (m : Machine) → Keeps m (flip m)
flip_keeps m = record { opening = refl; agreed = refl; taken = λ p. moved_taken _ m.roots.holds p }

flipped_keeps : (m : Machine) (due : Bool) → Keeps m (cond due (flip m) m)
flipped_keeps m true = flip_keeps m
flipped_keeps m false = keeps_not m

collected_keeps : (m : Machine) → Keeps m (collected m)
collected_keeps m =
    let k = flipped_keeps m (flip_due m) in
    record { opening = k.opening; agreed = k.agreed; taken = k.taken }

unless_keeps : (x : Result (Unit {0}) MemoryFault) (m m₁ m₂ : Machine) → Keeps m m₁ → Keeps m m₂ → Keeps m (unless x m₁ (done m₂)).after
unless_keeps (Ok u) m m₁ m₂ k k' = k'
unless_keeps (Err f) m m₁ m₂ k k' = k

cons_by : (x y : Result (Unit {0}) MemoryFault) (m m₁ m₂ : Machine) → Keeps m m₁ → Keeps m m₂ → Keeps m (unless x m (unless y m₁ (done m₂))).after
cons_by (Ok u) y m m₁ m₂ k k' = unless_keeps y m m₁ m₂ k k'
cons_by (Err f) y m m₁ m₂ k k' = keeps_not m

cons_keeps : (m : Machine) (d a b : ℕ) → Keeps m (cons_call m d a b).after
cons_keeps m d a b =
    let k = collected_keeps m in
    cons_by (admitted m (d ∷ a ∷ b ∷ [])) (room (collected m).heap.marks) m (collected m) _ k
    (record { opening = k.opening; agreed = k.agreed; taken = k.taken })

pub cons_kept : (m m' : Machine) (d a b : ℕ) → m' ≡ (cons_call m d a b).after → Keeps m m'
cons_kept m m' d a b e = subst (Keeps m) (sym e) (cons_keeps m d a b)
