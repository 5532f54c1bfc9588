-- Hold and back answer as the ledger does.
use Rattle.std.proofs.Common.{◌≡◌, ℕ, ◌<◌, Bool, true, false, cond, eqb, ltb, [], ◌∷◌, length, Some, None, Ok, Err, Option, Result, sym, refl, ◌∙◌, subst, inl, inr, arith}
use Rattle.ledger.proofs.Copy.{put_same, put_other}
use Rattle.ledger.proofs.Flip.{Agrees}
use Rattle.ledger.proofs.Roots.{HoldStands}
use Rattle.ledger.proofs.Seen.{Never}
use Rattle.ledger.proofs.Sound.{Quiet, quiet_not}
use Rattle.ledger.proofs.Steps.{register_agrees}
use Rattle.ledger.proofs.Turns.{Matches, admit, refuse, known_one}
use Rattle.ledger.specs.Answers.{Said, unless_denied, vacant_for, may_hold_at, hold_says, BackSaid, kept_said, giving, held_with, back_unless_denied, back_says}
use Rattle.ledger.specs.Ledger as ledger
use Rattle.ledger.specs.Ledger.{Ledger, Entry, put}
use Rattle.machine.specs.Calls.{Call, unless, known}
use Rattle.machine.specs.Holds.{Pass, with_hold, hold_at, vacant, may_hold, hold_call, BackCall, kept_back, given_back, held_for, back_unless, back_call}
use Rattle.machine.specs.Machine.{Machine, register}
use Rattle.machine.specs.declared.faults.MemoryFault.{MemoryFault}
use Rattle.machine.specs.declared.faults.MemoryFault.TheVariants.{Shut, NoHold, NotHeld}
use Rattle.std.proofs.lemmas.List.{get_or-set_same, get_or-set_other, length-set, get_or_past}
use Rattle.std.proofs.lemmas.Bool.{cases_eq, cases_lt, lt-ltb, le-ltb}

module _ {X : Type 0} (meant : ℕ → Option X) (Q : Ledger X → Type 0) (m : Machine) (l : Ledger X) (agrees : Agrees meant Q m l) where
  abbrev Held : Option ℕ → Option (Entry X) → Type 0
  Held w e = HoldStands meant agrees.o l.row Never agrees.own m.heap w e

  -- a hold place set on both sides
  abbrev pub hold_agrees : (p : ℕ) (w : Option ℕ) (e : Option (Entry X)) → p < 8 → HoldStands meant agrees.o l.row Never agrees.own m.heap w e → Agrees meant Q (with_hold m p w) (ledger.with_hold l p e)
  hold_agrees p w e small stands =
      let inside : p < length m.roots.holds = omega (arith, agrees.eight) in
      record {
        o = agrees.o;
        own = agrees.own;
        sound = agrees.sound;
        roomy = agrees.roomy;
        registers = agrees.registers;
        holds = λ k s. elim (cases_eq k p) [
          | inl q ↦ rw (q, get_or-set_same m.roots.holds p w None inside, put_same l.holds p e) stands
          | inr ne ↦ rw (get_or-set_other m.roots.holds p k w None ne, put_other l.holds p e k ne) (agrees.holds k s)
        ];
        sixteen = agrees.sixteen;
        eight = length-set m.roots.holds p w ∙ agrees.eight;
        past = agrees.past;
      }

  vacant_same : (p : ℕ) (w : Option ℕ) (e : Option (Entry X)) → Held w e → vacant w p ≡ vacant_for e p
  vacant_same p None None h = refl
  vacant_same p None (Some e) h = absurd h
  vacant_same p (Some w) None h = absurd h
  vacant_same p (Some w) (Some e) h = refl

  pub may_same : (p : ℕ) → may_hold m p ≡ may_hold_at l p
  may_same p = elim (cases_lt p 8) [
    | inl s ↦ rw (lt-ltb p 8 s) (vacant_same p (hold_at m p) (l.holds p) (agrees.holds p s))
    | inr s ↦ rw (le-ltb p 8 s)
  ]

  may_small : (p : ℕ) → may_hold m p ≡ Ok tt → p < 8
  may_small p e = elim (cases_lt p 8) [ inl s ↦ s | inr s ↦ let f : Err (NoHold p) ≡ Ok tt = rw (le-ltb p 8 s) at e in let z : ◌≡◌ {A = ℕ} 0 1 = cc in absurd (omega arith) ]

  pub go_on : {R : Type 0} (k k' : Result (Unit {0}) MemoryFault) → k ≡ k' → (call : Call R) (said : Said X R) → (k ≡ Ok tt → Matches meant Q m l call said) → Matches meant Q m l (unless k m call) (unless_denied k' l said)
  go_on (Err f) k' e call said go = rw (sym e) (refuse meant Q m l agrees f)
  go_on (Ok u) k' e call said go = rw (sym e) (go refl)

  module _ (is_open : m.opened ≡ true) (number : l.number ≡ m.terms.number) where
    pub hold_matches : (r p : ℕ) → Matches meant Q m l (hold_call m r p) (hold_says l r p)
    hold_matches r p =
        admit meant Q m l agrees m.opened is_open (known (r ∷ [])) _ _
        (λ k. go_on (may_hold m p) (may_hold_at l p) (may_same p) _ _
        (λ q. record {
          answers = rw number refl;
          agrees = hold_agrees p (Some (register m r)) (Some (l.registers r)) (may_small p q) (agrees.registers r (known_one r k));
          terms = refl;
          opened = refl;
          number = refl;
          quiet = quiet_not m.heap.marks;
        }))

-- What a memory and a ledger leave and answer to back, side by side.
pub record BackMatches {X : Type 0} (meant : ℕ → Option X) (Q : Ledger X → Type 0) (m : Machine) (l : Ledger X) (call : BackCall) (said : BackSaid X) : Type 0 where
  pub answers : call.answer ≡ said.answer
  pub agrees : Agrees meant Q call.after said.after
  pub terms : call.after.terms ≡ m.terms
  pub opened : call.after.opened ≡ m.opened
  pub number : said.after.number ≡ l.number
  pub quiet : Quiet m.heap.marks call.after.heap.marks

module _ {X : Type 0} (meant : ℕ → Option X) (Q : Ledger X → Type 0) (m : Machine) (l : Ledger X) (agrees : Agrees meant Q m l) where
  kept : (f : MemoryFault) (pass : Pass) → BackMatches meant Q m l (kept_back m f pass) (kept_said l f pass)
  kept f pass = record { answers = refl; agrees = agrees; terms = refl; opened = refl; number = refl; quiet = quiet_not m.heap.marks }

  give_by : (d : ℕ) → d < 16 → (pass : Pass) → pass.place < 8 → (w : Option ℕ) (e : Option (Entry X)) → HoldStands meant agrees.o l.row Never agrees.own m.heap w e → BackMatches meant Q m l (given_back w m d pass) (giving e l d pass)
  give_by d sd pass sp None None h = kept (NotHeld pass.place) pass
  give_by d sd pass sp None (Some e) h = absurd h
  give_by d sd pass sp (Some w) None h = absurd h
  give_by d sd pass sp (Some w) (Some e) h =
      record {
        answers = refl;
        agrees = register_agrees meant Q (with_hold m pass.place None) (ledger.with_hold l pass.place None) d w e (hold_agrees meant Q m l agrees pass.place None None sp tt) sd h;
        terms = refl;
        opened = refl;
        number = refl;
        quiet = quiet_not m.heap.marks;
      }

  -- the pass is this memory's or not, and its place is among the eight or not
  held_by : (d : ℕ) → d < 16 → (pass : Pass) (ours : Bool) → BackMatches meant Q m l (given_back (cond ours (hold_at m pass.place) None) m d pass) (giving (cond ours (cond (ltb pass.place 8) (l.holds pass.place) None) None) l d pass)
  held_by d sd pass false = kept (NotHeld pass.place) pass
  held_by d sd pass true = elim (cases_lt pass.place 8) [
    | inl s ↦ rw (lt-ltb pass.place 8 s) (give_by d sd pass s (hold_at m pass.place) (l.holds pass.place) (agrees.holds pass.place s))
    | inr s ↦
        let beyond : hold_at m pass.place ≡ None = get_or_past m.roots.holds pass.place None (omega (arith, agrees.eight)) in
        rw (le-ltb pass.place 8 s, beyond) (kept (NotHeld pass.place) pass)
  ]

  back_admit : (d : ℕ) (pass : Pass) (b : Bool) → b ≡ true → (k : Result (Unit {0}) MemoryFault) → (k ≡ Ok tt → BackMatches meant Q m l (given_back (held_for m pass) m d pass) (giving (held_with l pass) l d pass)) → BackMatches meant Q m l (back_unless (cond b k (Err Shut)) m d pass) (back_unless_denied k l d pass)
  back_admit d pass true e (Err f) go = kept f pass
  back_admit d pass true e (Ok u) go = go refl
  back_admit d pass false e k go = let z : ◌≡◌ {A = ℕ} 0 1 = cc in absurd (omega arith)

  pub back_matches : m.opened ≡ true → l.number ≡ m.terms.number → (d : ℕ) (pass : Pass) → BackMatches meant Q m l (back_call m d pass) (back_says l d pass)
  back_matches is_open number d pass =
      back_admit d pass m.opened is_open (known (d ∷ []))
      (λ k. subst (λ (n : ℕ). BackMatches meant Q m l (given_back (cond (eqb pass.number n) (hold_at m pass.place) None) m d pass) (giving (held_with l pass) l d pass)) number (held_by d (known_one d k) pass (eqb pass.number l.number)))
