-- A feed fills no more than its buffer.
use Rattle.std.proofs.Common.{◌≡◌, ℕ, suc, zero, ◌+◌, ◌≤◌, Bool, true, false, cond, eqb, List, [], ◌∷◌, length, set, Some, None, Ok, Err, Option, Result, refl, arith}
use Rattle.machine.specs.Calls.{admitted, fetched}
use Rattle.machine.specs.Feed.{Fed, fed, feed_unless, feed_call, on_atom, walk, head_moved, head_of}
use Rattle.machine.specs.Holds.{may_hold, with_hold}
use Rattle.machine.specs.Machine.{Machine, register}
use Rattle.machine.specs.Words.{is_reference}
use Rattle.machine.specs.declared.faults.MemoryFault.{MemoryFault}
use Rattle.machine.specs.declared.faults.MemoryFault.TheVariants.{NotAtom, NotCell}
use Rattle.machine.specs.declared.side.Side.TheVariants.{Tail}

no_more : (n k left : ℕ) (e e' : Bool) (told : Result (ℕ × Bool) MemoryFault) → Ok (k, e) ≡ told → told ≡ Ok (n, e') → k ≤ n + left
no_more n k left e e' told is was = grind arith

turn_fits : {A : Type 0} (nil cell : Bool) (head : Option A) (m m' : Machine) (buffer : List A) (go : A → Fed A) (left n k : ℕ) (e : Bool) → ((a : A) → Ok (k, e) ≡ (go a).answer → k ≤ n + 1 + left) → Ok (k, e) ≡ (cond nil (fed m buffer (Ok (n, true))) (cond cell (on_atom head (fed m' buffer (Err (NotAtom n))) go) (fed m buffer (Err (NotCell n))))).answer → k ≤ n + suc left
turn_fits true cell head m m' buffer go left n k e later is = no_more n k (suc left) e true _ is refl
turn_fits false true (Some a) m m' buffer go left n k e later is = omega (arith, later a is)
turn_fits false true None m m' buffer go left n k e later is = cc
turn_fits false false head m m' buffer go left n k e later is = cc

walk_fits : {A : Type 0} (meant : ℕ → Option A) (r left n : ℕ) (m : Machine) (buffer : List A) (k : ℕ) (e : Bool) → Ok (k, e) ≡ (walk meant r left n m buffer).answer → k ≤ n + left
unfolding walk
walk_fits meant r zero n m buffer k e is = no_more n k 0 e _ _ is refl
walk_fits meant r (suc left) n m buffer k e is =
    turn_fits (eqb (register m r) 0) (is_reference (register m r)) (meant (head_of m r)) m (head_moved m r) buffer
    (λ a. walk meant r left (n + 1) (fetched Tail (head_moved m r) r r) (set buffer n a)) left n k e
    (λ a. walk_fits meant r left (n + 1) (fetched Tail (head_moved m r) r r) (set buffer n a) k e) is

feed_by : {A : Type 0} (x y : Result (Unit {0}) MemoryFault) (m : Machine) (buffer : List A) (go : Fed A) (k : ℕ) (e : Bool) → Ok (k, e) ≡ (feed_unless x m buffer (feed_unless y m buffer go)).answer → Ok (k, e) ≡ go.answer
feed_by (Ok u) (Ok v) m buffer go k e is = is
feed_by (Ok u) (Err f) m buffer go k e is = cc
feed_by (Err f) y m buffer go k e is = cc

pub feed_fits : {A : Type 0} (meant : ℕ → Option A) (m : Machine) (r p : ℕ) (buffer : List A) (k : ℕ) (e : Bool) → Ok (k, e) ≡ (feed_call meant m r p buffer).answer → k ≤ length buffer
feed_fits meant m r p buffer k e is =
    let fits = walk_fits meant r (length buffer) 0 (with_hold m p (Some (register m r))) buffer k e (feed_by (admitted m (r ∷ [])) (may_hold m p) m buffer _ k e is) in
    omega (arith, fits)
