-- A run of calls on a memory and on the ledger.
use Rattle.std.proofs.Common.{◌≡◌, ℕ, ◌^◌, ◌<◌, ◌≤◌, Bool, true, List, [], ◌∷◌, Some, Ok, Option, Result, sym, refl, ap, ◌∙◌, arith}
use Rattle.atom.specs.declared.faults.KindFault.{KindFault}
use Rattle.ledger.proofs.Feeding.{feed_matches}
use Rattle.ledger.proofs.Flip.{Agrees}
use Rattle.ledger.proofs.Holding.{hold_matches, back_matches}
use Rattle.ledger.proofs.Sound.{Quiet, quiet_not}
use Rattle.ledger.proofs.Turns.{Matches, cons_matches, fetch_matches, replace_matches, set_matches, load_matches, clear_matches, look_matches, same_matches}
use Rattle.ledger.specs.Answers.{Said}
use Rattle.ledger.specs.Law.{ConsCalled, EveryCons}
use Rattle.ledger.specs.Ledger.{Ledger}
use Rattle.ledger.specs.Runs.{Order, cons, car, cdr, rplaca, rplacd, put, load, clear, look, same, hold, back, feed, Reply, did, showed, judged, handed, took, wrote, Turn, told, turn, page, replies, machine_after, ledger_replies, ledger_after, tells}
use Rattle.machine.specs.Calls.{Call}
use Rattle.machine.specs.Machine.{Machine, Terms}
use Rattle.machine.specs.declared.faults.MemoryFault.{MemoryFault}
use Rattle.machine.specs.declared.side.Side.TheVariants.{Head, Tail}

-- what an atom kind promises
pub record Lawful {A : Type 0} (coded : A → Result ℕ KindFault) (meant : ℕ → Option A) : Type 0 where
  pub between : (a : A) (c : ℕ) → coded a ≡ Ok c → (1 ≤ c) × (c < 2 ^ 31)
  pub reads : (a : A) (c : ℕ) → coded a ≡ Ok c → meant c ≡ Some a
  pub only : (a : A) (c : ℕ) → meant c ≡ Some a → coded a ≡ Ok c

-- Memory and ledger side by side: both open under one number, and they agree.
pub record Beside {A : Type 0} (meant : ℕ → Option A) (Q : Ledger A → Type 0) (m : Machine) (l : Ledger A) : Type 0 where
  pub agrees : Agrees meant Q m l
  pub opened : m.opened ≡ true
  pub number : l.number ≡ m.terms.number

-- One call on both.
pub record Pages {A : Type 0} (meant : ℕ → Option A) (Q : Ledger A → Type 0) (m : Machine) (t : Turn Machine A) (p : Turn (Ledger A) A) : Type 0 where
  pub replies : t.reply ≡ p.reply
  pub beside : Beside meant Q t.after p.after
  pub terms : t.after.terms ≡ m.terms

module _ {A : Type 0} (coded : A → Result ℕ KindFault) (meant : ℕ → Option A) (lawful : Lawful coded meant) (Q : Ledger A → Type 0) where
  set_laws : (a : A) (c : ℕ) → coded a ≡ Ok c → ((1 ≤ c) × (c < 2 ^ 31)) × (meant c ≡ Some a)
  set_laws a c e = (lawful.between a c e, lawful.reads a c e)

  code_laws : (a : A) (c : ℕ) → meant c ≡ Some a → (0 < c) × (c < 2147483648)
  code_laws a c e = let b = lawful.between a c (lawful.only a c e) in (omega (arith, b.0), omega (arith, b.1))

  -- a call whose answer is wrapped in a reply
  paged : {R : Type 0} (f : Result R MemoryFault → Reply A) (m : Machine) (l : Ledger A) (call : Call R) (said : Said A R) → Beside meant Q m l → Matches meant Q m l call said → Pages meant Q m (record { after = call.after; reply = f call.answer }) (record { after = said.after; reply = f said.answer })
  paged f m l call said s c =
      record {
        replies = ap f c.answers;
        beside = record { agrees = c.agrees; opened = c.opened ∙ s.opened; number = c.number ∙ (s.number ∙ ap (λ (t : Terms). t.number) (sym c.terms)) };
        terms = c.terms;
      }

  both_wrote : {b b' : List A} {a a' : Result (ℕ × Bool) MemoryFault} → b ≡ b' → a ≡ a' → wrote b a ≡ wrote b' a'
  both_wrote p q = cc

  pub pages : (m : Machine) (l : Ledger A) (o : Order A) → Beside meant Q m l → ConsCalled coded meant Q l o → Pages meant Q m (turn coded meant m o) (page coded meant (told o (turn coded meant m o).reply) l o)
  pages m l (cons d a b) s called =
      let c = cons_matches meant Q m l s.agrees s.opened d a b called in
      record {
        replies = ap did c.answers;
        beside = record { agrees = c.agrees; opened = c.opened ∙ s.opened; number = c.number ∙ (s.number ∙ ap (λ (t : Terms). t.number) (sym c.terms)) };
        terms = c.terms;
      }
  pages m l (car d r) s called = paged did m l _ _ s (fetch_matches meant Q m l s.agrees s.opened Head d r)
  pages m l (cdr d r) s called = paged did m l _ _ s (fetch_matches meant Q m l s.agrees s.opened Tail d r)
  pages m l (rplaca r v) s called = paged did m l _ _ s (replace_matches meant Q m l s.agrees s.opened Head r v)
  pages m l (rplacd r v) s called = paged did m l _ _ s (replace_matches meant Q m l s.agrees s.opened Tail r v)
  pages m l (put d a) s called = paged did m l _ _ s (set_matches meant Q m l s.agrees s.opened coded set_laws d a)
  pages m l (load d r) s called = paged did m l _ _ s (load_matches meant Q m l s.agrees s.opened d r)
  pages m l (clear d) s called = paged did m l _ _ s (clear_matches meant Q m l s.agrees s.opened d)
  pages m l (look r) s called = record { replies = ap showed (look_matches meant Q m l s.agrees s.opened r).answers; beside = s; terms = refl }
  pages m l (same a b) s called = record { replies = ap judged (same_matches meant Q m l s.agrees s.opened coded lawful.only a b).answers; beside = s; terms = refl }
  pages m l (hold r p) s called = paged handed m l _ _ s (hold_matches meant Q m l s.agrees s.opened s.number r p)
  pages m l (back d t) s called =
      let c = back_matches meant Q m l s.agrees s.opened s.number d t in
      record {
        replies = ap took c.answers;
        beside = record { agrees = c.agrees; opened = c.opened ∙ s.opened; number = c.number ∙ (s.number ∙ ap (λ (t : Terms). t.number) (sym c.terms)) };
        terms = c.terms;
      }
  pages m l (feed r p buffer) s called =
      let c = feed_matches meant Q m l s.agrees s.opened code_laws r p buffer in
      record {
        replies = both_wrote c.buffers c.answers;
        beside = record { agrees = c.agrees; opened = c.opened ∙ s.opened; number = s.number ∙ ap (λ (t : Terms). t.number) (sym c.terms) };
        terms = c.terms;
      }

  -- how a call that is no cons leaves the marks
  abbrev pub Quiets : Machine → Order A → Type 0
  Quiets m (cons d a b) = Unit {0}
  Quiets m (car d r) = Quiet m.heap.marks (turn coded meant m (car d r)).after.heap.marks
  Quiets m (cdr d r) = Quiet m.heap.marks (turn coded meant m (cdr d r)).after.heap.marks
  Quiets m (rplaca r v) = Quiet m.heap.marks (turn coded meant m (rplaca r v)).after.heap.marks
  Quiets m (rplacd r v) = Quiet m.heap.marks (turn coded meant m (rplacd r v)).after.heap.marks
  Quiets m (put d a) = Quiet m.heap.marks (turn coded meant m (put d a)).after.heap.marks
  Quiets m (load d r) = Quiet m.heap.marks (turn coded meant m (load d r)).after.heap.marks
  Quiets m (clear d) = Quiet m.heap.marks (turn coded meant m (clear d)).after.heap.marks
  Quiets m (look r) = Quiet m.heap.marks m.heap.marks
  Quiets m (same a b) = Quiet m.heap.marks m.heap.marks
  Quiets m (hold r p) = Quiet m.heap.marks (turn coded meant m (hold r p)).after.heap.marks
  Quiets m (back d t) = Quiet m.heap.marks (turn coded meant m (back d t)).after.heap.marks
  Quiets m (feed r p buffer) = Quiet m.heap.marks (turn coded meant m (feed r p buffer)).after.heap.marks

  pub quiets : (m : Machine) (l : Ledger A) (o : Order A) → Beside meant Q m l → Quiets m o
  quiets m l (cons d a b) s = tt
  quiets m l (car d r) s = (fetch_matches meant Q m l s.agrees s.opened Head d r).quiet
  quiets m l (cdr d r) s = (fetch_matches meant Q m l s.agrees s.opened Tail d r).quiet
  quiets m l (rplaca r v) s = (replace_matches meant Q m l s.agrees s.opened Head r v).quiet
  quiets m l (rplacd r v) s = (replace_matches meant Q m l s.agrees s.opened Tail r v).quiet
  quiets m l (put d a) s = (set_matches meant Q m l s.agrees s.opened coded set_laws d a).quiet
  quiets m l (load d r) s = (load_matches meant Q m l s.agrees s.opened d r).quiet
  quiets m l (clear d) s = (clear_matches meant Q m l s.agrees s.opened d).quiet
  quiets m l (look r) s = quiet_not m.heap.marks
  quiets m l (same a b) s = quiet_not m.heap.marks
  quiets m l (hold r p) s = (hold_matches meant Q m l s.agrees s.opened s.number r p).quiet
  quiets m l (back d t) s = (back_matches meant Q m l s.agrees s.opened s.number d t).quiet
  quiets m l (feed r p buffer) s = (feed_matches meant Q m l s.agrees s.opened code_laws r p buffer).quiet

  -- a whole run on both
  pub record Runs (m : Machine) (l : Ledger A) (os : List (Order A)) : Type 0 where
    pub answers : replies coded meant m os ≡ ledger_replies coded meant l os (tells os (replies coded meant m os))
    pub beside : Beside meant Q (machine_after coded meant m os) (ledger_after coded meant l os (tells os (replies coded meant m os)))
    pub terms : (machine_after coded meant m os).terms ≡ m.terms

  -- one call, then the rest
  run_on : (m m₁ : Machine) (l l₁ : Ledger A) (r r₁ : Reply A) (os : List (Order A)) → r ≡ r₁ → m₁.terms ≡ m.terms → Runs m₁ l₁ os → (r ∷ replies coded meant m₁ os ≡ r₁ ∷ ledger_replies coded meant l₁ os (tells os (replies coded meant m₁ os)))
  run_on m m₁ l l₁ r r₁ os e t rest = cc rest.answers

  pub runs : (os : List (Order A)) (m : Machine) (l : Ledger A) → Beside meant Q m l → EveryCons coded meant Q l os (tells os (replies coded meant m os)) → Runs m l os
  unfolding replies ledger_replies machine_after ledger_after tells EveryCons
  runs [] m l s called = record { answers = refl; beside = s; terms = refl }
  runs (o ∷ os) m l s called =
      let p = pages m l o s called.0 in
      let rest = runs os (turn coded meant m o).after (page coded meant (told o (turn coded meant m o).reply) l o).after p.beside called.1 in
      record { answers = run_on m _ l _ _ _ os p.replies p.terms rest; beside = rest.beside; terms = rest.terms ∙ p.terms }
