-- Over a run: with at most `limit` cells in reach at every cons, none is refused for room.
use Rattle.std.proofs.Common.{◌≡◌, ℕ, ◌≤◌, Bool, true, false, cond, ltb, List, [], ◌∷◌, Ok, Err, Option, Result, sym, refl, ◌∙◌, subst, arith}
use Rattle.atom.specs.declared.faults.KindFault.{KindFault}
use Rattle.ledger.proofs.Paces.{progress, flip_held}
use Rattle.ledger.proofs.Plenty.{Fit, fit_quiet, Granted, Paced, collected_granted}
use Rattle.ledger.proofs.Running.{Lawful, Beside, pages, quiets}
use Rattle.ledger.proofs.Sound.{Quiet}
use Rattle.ledger.specs.Answers.{Told, granted}
use Rattle.ledger.specs.Law.{ConsCalled, EveryCons, AllGranted}
use Rattle.ledger.specs.Ledger.{Ledger, Few}
use Rattle.ledger.specs.Runs.{Order, cons, car, cdr, rplaca, rplacd, put, load, clear, look, same, hold, back, feed, told_by, told, turn, page, replies, tells}
use Rattle.machine.specs.Calls.{Call, unless, known, allocated, cons_call}
use Rattle.machine.specs.Machine.{Machine, Terms, flip, flip_due, collected, ceiling}
use Rattle.machine.specs.declared.faults.MemoryFault.{MemoryFault}
use Rattle.machine.specs.declared.faults.MemoryFault.TheVariants.{Shut, NoRegister}
use Rattle.std.proofs.lemmas.Bool.{lt-ltb}

abbrev reserve_of : Machine → ℕ
reserve_of m = ceiling m.terms.limit m.terms.pace

-- room is kept: the terms are paced, and the marks fit them
pub record Keeps (m : Machine) : Type 0 where
  pub paced : Paced m.terms.pace (reserve_of m) m.terms.limit m.heap.marks.size
  pub fit : Fit m.terms.pace (reserve_of m) m.heap.marks

-- the same terms and sizes
keeps_on : (m m' : Machine) → m'.terms ≡ m.terms → m'.heap.marks.size ≡ m.heap.marks.size → Keeps m → Fit m.terms.pace (reserve_of m) m'.heap.marks → Keeps m'
keeps_on m m' e s keeps fit = record { paced = rw (e, s) keeps.paced; fit = rw e fit }

size_by : (m : Machine) (due : Bool) → (cond due (flip m) m).heap.marks.size ≡ m.heap.marks.size
size_by m true = (flip_held m).size
size_by m false = refl

order_by : (m : Machine) (due : Bool) → m.heap.marks.scanned ≤ m.heap.marks.copied → (cond due (flip m) m).heap.marks.scanned ≤ (cond due (flip m) m).heap.marks.copied
order_by m true h = let f = flip_held m in omega (arith, f.scanned)
order_by m false h = h

pub collected_size : (m : Machine) → m.heap.marks.scanned ≤ m.heap.marks.copied → (collected m).heap.marks.size ≡ m.heap.marks.size
collected_size m order = (progress m.terms.pace (cond (flip_due m) (flip m) m).heap (order_by m (flip_due m) order)).size ∙ size_by m (flip_due m)

-- what a cons leaves of the marks, and that it was not refused for room
record Served (k c size : ℕ) (call : Call (Unit {0})) : Type 0 where
  told_granted : told_by call.answer ≡ granted
  fit : Fit k c call.after.heap.marks
  sized : call.after.heap.marks.size ≡ size

served_by : (k c size : ℕ) (m : Machine) (b : Bool) → b ≡ true → (r : Result (Unit {0}) MemoryFault) → told_by r ≡ granted → Fit k c m.heap.marks → m.heap.marks.size ≡ size → (call : Call (Unit {0})) → Served k c size call → Served k c size (unless (cond b r (Err Shut)) m call)
served_by k c size m true e (Err f) t fit s call served = record { told_granted = t; fit = fit; sized = s }
served_by k c size m true e (Ok u) t fit s call served = served
served_by k c size m false e r t fit s call served = let z : ◌≡◌ {A = ℕ} 0 1 = cc in absurd (omega arith)

known-told : (d a b : ℕ) (x y z : Bool) → told_by (cond x (cond y (cond z (Ok tt) (Err (NoRegister b))) (Err (NoRegister a))) (Err (NoRegister d))) ≡ granted
known-told d a b true true true = refl
known-told d a b true true false = refl
known-told d a b true false z = refl
known-told d a b false y z = refl

alloc_served : (k c size : ℕ) (m : Machine) (d a b : ℕ) → Granted k c m.heap.marks → m.heap.marks.size ≡ size → Served k c size (allocated m d a b)
alloc_served k c size m d a b g s =
    let test : ltb m.heap.marks.copied m.heap.marks.top ≡ true = lt-ltb _ _ g.free in
    rw (g.granted, test) (record { told_granted = refl; fit = g.fit; sized = s })

module _ {A : Type 0} (coded : A → Result ℕ KindFault) (meant : ℕ → Option A) (lawful : Lawful coded meant) where
  cons_served : (m : Machine) (l : Ledger A) (d a b : ℕ) → Beside meant (Few m.terms.limit) m l → Few m.terms.limit l → Keeps m → Served m.terms.pace (reserve_of m) m.heap.marks.size (cons_call m d a b)
  cons_served m l d a b s few keeps =
      served_by m.terms.pace (reserve_of m) m.heap.marks.size m m.opened s.opened (known (d ∷ a ∷ b ∷ [])) (known-told d a b (ltb d 16) (ltb a 16) (ltb b 16)) keeps.fit refl (allocated (collected m) d a b)
      (alloc_served m.terms.pace (reserve_of m) m.heap.marks.size (collected m) d a b (collected_granted meant m l s.agrees few keeps.paced keeps.fit) (collected_size m s.agrees.sound.inv.order.s_b))

  -- one call: told granted, and room is kept
  record Served' (o : Order A) (m : Machine) : Type 0 where
    told_granted : told o (turn coded meant m o).reply ≡ granted
    fit : Fit m.terms.pace (reserve_of m) (turn coded meant m o).after.heap.marks
    sized : (turn coded meant m o).after.heap.marks.size ≡ m.heap.marks.size

  quiet_served : (o : Order A) (m : Machine) → told o (turn coded meant m o).reply ≡ granted → Keeps m → Quiet m.heap.marks (turn coded meant m o).after.heap.marks → Served' o m
  quiet_served o m t keeps q = record { told_granted = t; fit = fit_quiet m.terms.pace (reserve_of m) m.heap.marks _ q keeps.fit; sized = q.size }

  serves : (m : Machine) (l : Ledger A) (o : Order A) → Beside meant (Few m.terms.limit) m l → ConsCalled coded meant (Few m.terms.limit) l o → Keeps m → Served' o m
  serves m l (cons d a b) s called keeps = let c = cons_served m l d a b s called keeps in record { told_granted = c.told_granted; fit = c.fit; sized = c.sized }
  serves m l (car d r) s called keeps = quiet_served (car d r) m refl keeps (quiets coded meant lawful (Few m.terms.limit) m l (car d r) s)
  serves m l (cdr d r) s called keeps = quiet_served (cdr d r) m refl keeps (quiets coded meant lawful (Few m.terms.limit) m l (cdr d r) s)
  serves m l (rplaca r v) s called keeps = quiet_served (rplaca r v) m refl keeps (quiets coded meant lawful (Few m.terms.limit) m l (rplaca r v) s)
  serves m l (rplacd r v) s called keeps = quiet_served (rplacd r v) m refl keeps (quiets coded meant lawful (Few m.terms.limit) m l (rplacd r v) s)
  serves m l (put d a) s called keeps = quiet_served (put d a) m refl keeps (quiets coded meant lawful (Few m.terms.limit) m l (put d a) s)
  serves m l (load d r) s called keeps = quiet_served (load d r) m refl keeps (quiets coded meant lawful (Few m.terms.limit) m l (load d r) s)
  serves m l (clear d) s called keeps = quiet_served (clear d) m refl keeps (quiets coded meant lawful (Few m.terms.limit) m l (clear d) s)
  serves m l (look r) s called keeps = quiet_served (look r) m refl keeps (quiets coded meant lawful (Few m.terms.limit) m l (look r) s)
  serves m l (same a b) s called keeps = quiet_served (same a b) m refl keeps (quiets coded meant lawful (Few m.terms.limit) m l (same a b) s)
  serves m l (hold r p) s called keeps = quiet_served (hold r p) m refl keeps (quiets coded meant lawful (Few m.terms.limit) m l (hold r p) s)
  serves m l (back d t) s called keeps = quiet_served (back d t) m refl keeps (quiets coded meant lawful (Few m.terms.limit) m l (back d t) s)
  serves m l (feed r p buffer) s called keeps = quiet_served (feed r p buffer) m refl keeps (quiets coded meant lawful (Few m.terms.limit) m l (feed r p buffer) s)

  -- the limit as the terms have it
  limit_on : (m m' : Machine) (l : Ledger A) → m'.terms ≡ m.terms → Beside meant (Few m.terms.limit) m' l → Beside meant (Few m'.terms.limit) m' l
  limit_on m m' l e s = subst (λ (t : Terms). Beside meant (Few t.limit) m' l) (sym e) s

  every_on : (m m' : Machine) (l : Ledger A) (os : List (Order A)) (ts : List Told) → m'.terms ≡ m.terms → EveryCons coded meant (Few m.terms.limit) l os ts → EveryCons coded meant (Few m'.terms.limit) l os ts
  every_on m m' l os ts e c = subst (λ (t : Terms). EveryCons coded meant (Few t.limit) l os ts) (sym e) c

  pub none_refused : (os : List (Order A)) (m : Machine) (l : Ledger A) → Beside meant (Few m.terms.limit) m l → Keeps m → EveryCons coded meant (Few m.terms.limit) l os (tells os (replies coded meant m os)) → AllGranted (tells os (replies coded meant m os))
  unfolding replies tells EveryCons AllGranted
  none_refused [] m l s keeps called = tt
  none_refused (o ∷ os) m l s keeps called =
      let p = pages coded meant lawful (Few m.terms.limit) m l o s called.0 in
      let v = serves m l o s called.0 keeps in (
        v.told_granted,
        none_refused os (turn coded meant m o).after (page coded meant (told o (turn coded meant m o).reply) l o).after
            (limit_on m (turn coded meant m o).after _ p.terms p.beside)
            (keeps_on m (turn coded meant m o).after p.terms v.sized keeps v.fit)
            (every_on m (turn coded meant m o).after _ os _ p.terms called.1),
      )
