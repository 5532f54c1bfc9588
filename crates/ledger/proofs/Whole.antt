-- The law, whole: from a granted opening, over every run.
use Rattle.std.proofs.Common.{◌≡◌, ℕ, ◌+◌, ◌-◌, ◌*◌, ◌<◌, ◌≤◌, Bool, true, false, cond, ltb, List, [], ◌∷◌, length, is_some, Some, None, Ok, Err, Option, Result, sym, refl, ap, ◌∙◌, subst, inl, inr, arith}
use Rattle.atom.specs.declared.faults.KindFault.{KindFault}
use Rattle.ledger.proofs.Flip.{Agrees}
use Rattle.ledger.proofs.NoneRefused.{Keeps, none_refused, collected_size}
use Rattle.ledger.proofs.Opening.{fresh_beside, few_blank, same_roots, root_stands, roots_taken}
use Rattle.ledger.proofs.PadCalls.{run_pads}
use Rattle.ledger.proofs.Running.{Lawful, Beside, runs, pages, quiets}
use Rattle.ledger.proofs.Seen.{Seen, none, code, here, there, stray, Used, Never, Stands}
use Rattle.ledger.proofs.Showing.{Anything, any_cons, refused_shows}
use Rattle.ledger.proofs.Sound.{seen, halves}
use Rattle.ledger.proofs.Tries.{granted_in_time, ceiling_covers, ceiling_some}
use Rattle.ledger.proofs.Words.{old_refers_not}
use Rattle.ledger.specs.Answers.{Told}
use Rattle.ledger.specs.Law.{Root, word_of, entry_of, EveryCons, Current, LedgerLaw, Within}
use Rattle.ledger.specs.Ledger.{Ledger, Entry, Few}
use Rattle.ledger.specs.Runs.{Order, cons, car, cdr, rplaca, rplacd, put, load, clear, look, same, hold, back, feed, told, turn, page, machine_after, blank}
use Rattle.machine.specs.Calls.{Call, unless, admitted, allocated, cons_call, done, may_open, half_of, open_call}
use Rattle.machine.specs.Heap as heap
use Rattle.machine.specs.Heap.{Heap, Marks}
use Rattle.machine.specs.Machine.{Machine, Terms, fresh_machine, ceiling, collected, room, grant}
use Rattle.machine.specs.Words.{refers_into}
use Rattle.machine.specs.declared.faults.MemoryFault.{MemoryFault}
use Rattle.std.proofs.lemmas.Bool.{cases_lt}
use Rattle.std.proofs.lemmas.Bool.Decides.{nat_tests as tests}

module _ {A : Type 0} (coded : A → Result ℕ KindFault) (meant : ℕ → Option A) (lawful : Lawful coded meant) where
  every_any : (os : List (Order A)) (l : Ledger A) (ts : List Told) → EveryCons coded meant (Anything coded meant lawful) l os ts
  unfolding EveryCons
  every_any [] l ts = tt
  every_any (o ∷ os) l [] = tt
  every_any (o ∷ os) l (t ∷ ts) = (any_cons coded meant lawful l o, every_any os (page coded meant t l o).after ts)

  one_code : (a : A) (c d : ℕ) → meant c ≡ Some a → meant d ≡ Some a → c ≡ d
  one_code a c d p q = let z : ◌≡◌ {A = Result ℕ KindFault} (Ok c) (Ok d) = sym (lawful.only a c p) ∙ lawful.only a d q in cc

  module _ (Q : Ledger A → Type 0) (m : Machine) (l : Ledger A) (agrees : Agrees meant Q m l) where
    -- a clean word is not an old one
    clean_word : (s : Seen) (e : Entry A) (j : ℕ) → Stands meant (Used m.heap.marks) Never agrees.own agrees.o.owner s e → s ≡ there j → ⊥
    clean_word none e j st q = let z : ◌≡◌ {A = ℕ} 0 1 = cc in omega arith
    clean_word (code n) e j st q = let z : ◌≡◌ {A = ℕ} 0 1 = cc in omega arith
    clean_word (here i) e j st q = let z : ◌≡◌ {A = ℕ} 0 1 = cc in omega arith
    clean_word (there k) e j st q = st.0
    clean_word (stray n) e j st q = st

    word_current : (w : ℕ) (e : Entry A) → Stands meant (Used m.heap.marks) Never agrees.own agrees.o.owner (seen m.heap w) e → refers_into (heap.there m.heap) m.heap.marks.size w ≡ false
    word_current w e st = old_refers_not (length m.heap.words) m.heap.marks.size (heap.here m.heap) (heap.there m.heap) (halves m.heap agrees.sound.big) w (λ j q. clean_word (seen m.heap w) e j st q)

    used_clean : (i : ℕ) → i < m.heap.marks.size → (m.heap.marks.scanned ≤ i → m.heap.marks.top ≤ i) → Used m.heap.marks i
    used_clean i small clean = (small, λ low. elim (cases_lt i m.heap.marks.scanned) [ inl s ↦ omega (arith, agrees.sound.inv.order.s_b) | inr s ↦ absurd (omega (arith, clean s)) ])

    root_current : (p : Root) (w : ℕ) (e : Option (Entry A)) → entry_of l p ≡ e → is_some (word_of m p) ≡ is_some (entry_of l p) → word_of m p ≡ Some w → refers_into (heap.there m.heap) m.heap.marks.size w ≡ false
    root_current p w (Some e) q t a = word_current w e (root_stands meant Q m l agrees p w e a q)
    root_current p w None q t a = let z : ◌≡◌ {A = ℕ} 0 1 = cc in absurd (omega arith)

    pub is_current : Current m
    is_current =
        record {
          roots = λ p w a. root_current p w (entry_of l p) refl (roots_taken meant Q m l agrees p) a;
          heads = λ i small clean. word_current _ _ (agrees.sound.inv.clean i (used_clean i small clean) clean).of_head;
          tails = λ i small clean. word_current _ _ (agrees.sound.inv.clean i (used_clean i small clean) clean).of_tail;
        }

size_lowered : (m : Marks) (b : Bool) → (cond b (record { scanned = m.scanned; copied = m.copied; top = m.top - 1; prior = m.prior; size = m.size }) m).size ≡ m.size
size_lowered m true = refl
size_lowered m false = refl

size_unless : (n : ℕ) (k : Result (Unit {0}) MemoryFault) (m : Machine) (call : Call (Unit {0})) → m.heap.marks.size ≡ n → call.after.heap.marks.size ≡ n → (unless k m call).after.heap.marks.size ≡ n
size_unless n (Err f) m call a b = a
size_unless n (Ok u) m call a b = b

cons_size : (m : Machine) (d a b : ℕ) → m.heap.marks.scanned ≤ m.heap.marks.copied → (cons_call m d a b).after.heap.marks.size ≡ m.heap.marks.size
cons_size m d a b order =
    let c = collected_size m order in
    size_unless _ (admitted m (d ∷ a ∷ b ∷ [])) m (allocated (collected m) d a b) refl
    (size_unless _ (room (collected m).heap.marks) (collected m) (done (grant (collected m) d a b)) c (size_lowered (collected m).heap.marks (ltb (collected m).heap.marks.copied (collected m).heap.marks.top) ∙ c))

-- the number of tries, by the sizes and terms of the opening
timely : (size : ℕ) (terms : Terms) (m : Machine) → m.heap.marks.size ≡ size → m.terms ≡ terms → (d a b : ℕ) → Within (2 * ceiling m.heap.marks.size m.terms.pace) m d a b → Within (2 * ceiling size terms.pace) m d a b
timely size terms m s t d a b w = rw (← s, ← t) w

module _ {A : Type 0} (coded : A → Result ℕ KindFault) (meant : ℕ → Option A) (lawful : Lawful coded meant) where
  turn_size : (m : Machine) (l : Ledger A) (o : Order A) → Beside meant (Anything coded meant lawful) m l → (turn coded meant m o).after.heap.marks.size ≡ m.heap.marks.size
  turn_size m l (cons d a b) s = cons_size m d a b s.agrees.sound.inv.order.s_b
  turn_size m l (car d r) s = (quiets coded meant lawful (Anything coded meant lawful) m l (car d r) s).size
  turn_size m l (cdr d r) s = (quiets coded meant lawful (Anything coded meant lawful) m l (cdr d r) s).size
  turn_size m l (rplaca r v) s = (quiets coded meant lawful (Anything coded meant lawful) m l (rplaca r v) s).size
  turn_size m l (rplacd r v) s = (quiets coded meant lawful (Anything coded meant lawful) m l (rplacd r v) s).size
  turn_size m l (put d a) s = (quiets coded meant lawful (Anything coded meant lawful) m l (put d a) s).size
  turn_size m l (load d r) s = (quiets coded meant lawful (Anything coded meant lawful) m l (load d r) s).size
  turn_size m l (clear d) s = (quiets coded meant lawful (Anything coded meant lawful) m l (clear d) s).size
  turn_size m l (look r) s = refl
  turn_size m l (same a b) s = refl
  turn_size m l (hold r p) s = (quiets coded meant lawful (Anything coded meant lawful) m l (hold r p) s).size
  turn_size m l (back d t) s = (quiets coded meant lawful (Anything coded meant lawful) m l (back d t) s).size
  turn_size m l (feed r p buffer) s = (quiets coded meant lawful (Anything coded meant lawful) m l (feed r p buffer) s).size

  run_size : (os : List (Order A)) (m : Machine) (l : Ledger A) → Beside meant (Anything coded meant lawful) m l → (machine_after coded meant m os).heap.marks.size ≡ m.heap.marks.size
  unfolding machine_after
  run_size [] m l s = refl
  run_size (o ∷ os) m l s =
      let g = pages coded meant lawful (Anything coded meant lawful) m l o s (any_cons coded meant lawful l o) in
      run_size os (turn coded meant m o).after (page coded meant (told o (turn coded meant m o).reply) l o).after g.beside ∙ turn_size m l o s

  -- From an opening: any words in the store, terms within the rule.
  pub whole_law : (ws : List ℕ) (size : ℕ) (terms : Terms) → 4 * size ≤ length ws → 0 < terms.pace → 0 < terms.limit → terms.limit + 2 * ceiling terms.limit terms.pace ≤ size → (os : List (Order A)) → LedgerLaw coded meant (fresh_machine ws size terms) os
  whole_law ws size terms big paces some rule os =
      let m : Machine = fresh_machine ws size terms in
      let l : Ledger A = blank terms.number in
      let any = fresh_beside meant (Anything coded meant lawful) ws size terms big tt in
      let run = runs coded meant lawful (Anything coded meant lawful) os m l any (every_any coded meant lawful os l _) in
      let keeps : Keeps (fresh_machine ws size terms) =
      record {
        paced = record { least = some; some = ceiling_some terms.limit terms.pace paces some; covers = omega (arith, ceiling_covers terms.limit terms.pace paces); roomy = omega (arith, rule) };
        fit = record { reserve = omega (arith, rule); paid = λ b. absurd (omega arith); calm = λ _. omega (arith, rule) };
      } in
      record {
        answers = run.answers;
        roots = same_roots meant (Anything coded meant lawful) _ _ run.beside.agrees (one_code coded meant lawful);
        room = λ called. none_refused coded meant lawful os m l (fresh_beside meant (Few terms.limit) ws size terms big (few_blank terms.limit terms.number)) keeps called;
        tries = λ n d a b few small sd sa sb.
            timely size terms (machine_after coded meant m os) (run_size os m l any) run.terms d a b
            (granted_in_time d a b sd sa sb meant _ n few (Anything coded meant lawful) (machine_after coded meant m os) run.beside.opened run.beside.agrees (omega (arith, run_size os m l any)) (rw run.terms paces));
        shows = λ o p path r. refused_shows coded meant lawful _ _ o run.beside r p path;
        current = is_current coded meant lawful (Anything coded meant lawful) _ _ run.beside.agrees;
        inside = record { reads_none = λ ex. (run_pads ex coded meant lawful os m l any).0; writes_none = λ ex. (run_pads ex coded meant lawful os m l any).1 };
      }

-- what a granted opening has found
open_facts : (m : Machine) (pace limit : ℕ) → may_open m pace limit ≡ Ok tt → (0 < pace) × (0 < limit) × (limit + 2 * ceiling limit pace ≤ half_of m)
open_facts m pace limit e = (grind (arith, tests), grind (arith, tests), grind (arith, tests))

open_by : (k : Result (Unit {0}) MemoryFault) (m x : Machine) → (unless k m (done x)).answer ≡ Ok tt → k ≡ Ok tt
open_by (Ok u) m x e = refl
open_by (Err f) m x e = let z : ◌≡◌ {A = ℕ} 0 1 = cc in absurd (omega arith)

pub opened_law : {A : Type 0} (coded : A → Result ℕ KindFault) (meant : ℕ → Option A) → Lawful coded meant → (m : Machine) (pace limit number : ℕ) → (open_call m pace limit number).answer ≡ Ok tt → (os : List (Order A)) → LedgerLaw coded meant (open_call m pace limit number).after os
opened_law coded meant lawful m pace limit number e os =
    let terms : Terms = record { pace = pace; limit = limit; number = number } in
    let k = open_by (may_open m pace limit) m (fresh_machine m.heap.words (half_of m) terms) e in
    let f = open_facts m pace limit k in
    let after : (open_call m pace limit number).after ≡ fresh_machine m.heap.words (half_of m) terms = ap (λ (r : Result (Unit {0}) MemoryFault). (unless r m (done (fresh_machine m.heap.words (half_of m) terms))).after) k in
    subst (λ (x : Machine). LedgerLaw coded meant x os) (sym after) (whole_law coded meant lawful m.heap.words (half_of m) terms (omega arith) f.0 f.1 f.2 os)
