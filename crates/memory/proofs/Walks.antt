-- One turn of a walk, told by the step it takes.
use Rattle.std.proofs.Common.{◌≡◌, ℕ, zero, suc, ◌+◌, ◌-◌, ◌<◌, ◌≤◌, Bool, true, false, cond, eqb, List, set, Some, None, Ok, Err, Option, Result, sym, refl, ap, ◌∙◌, subst, arith}
use Rattle.machine.specs.Calls.{Call, refused, fetched}
use Rattle.machine.specs.Feed.{Fed, fed, on_atom, walk, head_moved, head_of}
use Rattle.machine.specs.Machine.{Machine, register}
use Rattle.machine.specs.Words.{is_reference}
use Rattle.machine.specs.declared.faults.MemoryFault.{MemoryFault}
use Rattle.machine.specs.declared.faults.MemoryFault.TheVariants.{NotCell, NotAtom}
use Rattle.machine.specs.declared.side.Side.TheVariants.{Tail}
use Rattle.memory.specs.Steps.{next_call, past, SameHolds}

module _ {A : Type 0} (meant : ℕ → Option A) (r : ℕ) where
  -- how a walk goes on after a step, with room for `left` atoms more
  abbrev onward : ℕ → ℕ → List A → Machine → Result (Option A) MemoryFault → Fed A
  onward left n buffer m (Err fault) = fed m buffer (Err fault)
  onward left n buffer m (Ok None) = fed m buffer (Ok (n, true))
  onward left n buffer m (Ok (Some a)) = walk meant r left (n + 1) m (set buffer n a)

  by_cases : (left n : ℕ) (m : Machine) (buffer : List A) (nil cell : Bool) (head : Option A) → (
      cond nil (fed m buffer (Ok (n, true)))
      (cond cell
      (on_atom head (fed (head_moved m r) buffer (Err (NotAtom n))) (λ a. walk meant r left (n + 1) (fetched Tail (head_moved m r) r r) (set buffer n a)))
      (fed m buffer (Err (NotCell n)))))
      ≡ (let step : Call (Option A) = cond nil (record { after = m; answer = Ok None }) (cond cell (past head (head_moved m r) r n) (refused m (NotCell n))) in
      onward left n buffer step.after step.answer)
  by_cases left n m buffer true cell head = refl
  by_cases left n m buffer false false head = refl
  by_cases left n m buffer false true None = refl
  by_cases left n m buffer false true (Some a) = refl

  walk-onward : (left n : ℕ) (m : Machine) (buffer : List A) → walk meant r (suc left) n m buffer ≡ onward left n buffer (next_call meant m r n).after (next_call meant m r n).answer
  unfolding walk
  walk-onward left n m buffer = by_cases left n m buffer (eqb (register m r) 0) (is_reference (register m r)) (meant (head_of m r))

  -- a turn with room for one more of `all` atoms, where the step leaves m' and answers x
  pub walk_steps : (all n : ℕ) (m m' : Machine) (buffer : List A) (x : Result (Option A) MemoryFault) → n < all → m' ≡ (next_call meant m r n).after → x ≡ (next_call meant m r n).answer → walk meant r (all - n) n m buffer ≡ onward (all - (n + 1)) n buffer m' x
  walk_steps all n m m' buffer x more after answer =
      let room : all - n ≡ suc (all - (n + 1)) = omega (arith, more) in
      ap (λ k. walk meant r k n m buffer) room
      ∙ walk-onward (all - (n + 1)) n m buffer
      ∙ ap (λ k. onward (all - (n + 1)) n buffer k (next_call meant m r n).answer) (sym after)
      ∙ ap (onward (all - (n + 1)) n buffer m') (sym answer)

  pub walk_full : (all n : ℕ) (m : Machine) (buffer : List A) → all ≤ n → walk meant r (all - n) n m buffer ≡ fed m buffer (Ok (n, eqb (register m r) 0))
  unfolding walk
  walk_full all n m buffer full = let none : all - n ≡ 0 = omega (arith, full) in rw none

  holds_by : (n : ℕ) (m : Machine) (buffer : List A) (nil cell : Bool) (head : Option A) (go : A → Fed A) → ((a : A) → SameHolds m (go a).after) → SameHolds m (cond nil (fed m buffer (Ok (n, true)))
      (cond cell (on_atom head (fed (head_moved m r) buffer (Err (NotAtom n))) go) (fed m buffer (Err (NotCell n))))).after
  holds_by n m buffer true cell head go later = (refl, refl, refl)
  holds_by n m buffer false false head go later = (refl, refl, refl)
  holds_by n m buffer false true None go later = (refl, refl, refl)
  holds_by n m buffer false true (Some a) go later = later a

  -- a walk leaves the holds, the terms and the opening alone
  pub walk_holds : (left n : ℕ) (m : Machine) (buffer : List A) → SameHolds m (walk meant r left n m buffer).after
  unfolding walk
  walk_holds zero n m buffer = (refl, refl, refl)
  walk_holds (suc left) n m buffer =
      holds_by n m buffer (eqb (register m r) 0) (is_reference (register m r)) (meant (head_of m r)) _
      (λ a. walk_holds left (n + 1) (fetched Tail (head_moved m r) r r) (set buffer n a))

  -- what is known of a walk from m that comes to machine m', buffer b and answer x
  pub record Walked (m : Machine) (w : Fed A) (m' : Machine) (b : List A) (x : Result (ℕ × Bool) MemoryFault) : Type 0 where
    pub answer : x ≡ w.answer
    pub after : m' ≡ w.after
    pub buffer : b ≡ w.buffer
    pub holds : SameHolds m m'

  pub walked : (left n : ℕ) (m m' : Machine) (buffer b : List A) (x : Result (ℕ × Bool) MemoryFault) → walk meant r left n m buffer ≡ fed m' b x → Walked m (walk meant r left n m buffer) m' b x
  walked left n m m' buffer b x e =
      record {
        answer = sym (ap (λ w. w.answer) e);
        after = sym (ap (λ w. w.after) e);
        buffer = sym (ap (λ w. w.buffer) e);
        holds = subst (SameHolds m) (ap (λ w. w.after) e) (walk_holds left n m buffer);
      }
