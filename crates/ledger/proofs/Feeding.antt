-- Feed answers as the ledger does, and leaves what it found.
use Rattle.std.proofs.Common.{◌≡◌, ℕ, zero, suc, ◌+◌, ◌*◌, ◌<◌, Bool, true, false, cond, eqb, leb, List, [], ◌∷◌, length, get_or, set, Some, None, Ok, Err, Option, Result, sym, refl, ap, ◌∙◌, subst, inl, inr, arith}
use Rattle.ledger.proofs.Copy.{put_same, put_other}
use Rattle.ledger.proofs.Flip.{Agrees}
use Rattle.ledger.proofs.Holding.{hold_agrees, may_same}
use Rattle.ledger.proofs.Mend.{mend, Mended, here_same}
use Rattle.ledger.proofs.Roots.{WordStands, HoldStands}
use Rattle.ledger.proofs.Seen.{Used, Never}
use Rattle.ledger.proofs.Sound.{Quiet, quiet_not, quiet_on}
use Rattle.ledger.proofs.Steps.{mended_quiet, fetch_quiet, Busy, Shape, is_nil, is_atom, is_cell, shape, register_shape, register_agrees, fetch_agrees, mended_agrees, old_busy}
use Rattle.ledger.proofs.Turns.{known_one}
use Rattle.ledger.specs.Answers.{may_hold_at, FeedSaid, fed_said, ends, at_cell, at_atom, walked, feed_unless_denied, feed_says}
use Rattle.ledger.specs.Ledger as ledger
use Rattle.ledger.specs.Ledger.{Ledger, Row, Entry, nil, atom, cell, put}
use Rattle.machine.specs.Calls.{known, fetched}
use Rattle.machine.specs.Feed.{Fed, fed, head_moved, head_of, on_atom, walk, handed_back, feed_unless, feed_call}
use Rattle.machine.specs.Heap as heap
use Rattle.machine.specs.Heap.{Heap, move_at}
use Rattle.machine.specs.Holds.{with_hold, hold_at, vacant, may_hold}
use Rattle.machine.specs.Machine.{Machine, register}
use Rattle.machine.specs.Words.{is_reference, cell_of, refer}
use Rattle.machine.specs.declared.faults.MemoryFault.{MemoryFault}
use Rattle.machine.specs.declared.faults.MemoryFault.TheVariants.{Shut, NotCell, NotAtom, NoHold}
use Rattle.machine.specs.declared.side.Side.TheVariants.{Head, Tail}
use Rattle.std.proofs.lemmas.List.{get_or-set_same}
use Rattle.std.proofs.lemmas.Bool.{cases_eq, cases_lt, lt-ltb, le-ltb}
use Rattle.std.proofs.lemmas.Bool.Decides.{nat_tests}

-- A ledger that has the same everywhere agrees too.
pub agrees_same : {X : Type 0} (meant : ℕ → Option X) (Q : Ledger X → Type 0) (m : Machine) (l l' : Ledger X) → l'.row ≡ l.row → ((r : ℕ) → l'.registers r ≡ l.registers r) → ((p : ℕ) → l'.holds p ≡ l.holds p) → Agrees meant Q m l → Agrees meant Q m l'
agrees_same meant Q m l l' row registers holds agrees =
    record {
      o = agrees.o;
      own = agrees.own;
      sound = rw row agrees.sound;
      roomy = agrees.roomy;
      registers = λ r s. rw (registers r) (agrees.registers r s);
      holds = λ p s. rw (holds p) (agrees.holds p s);
      sixteen = agrees.sixteen;
      eight = agrees.eight;
      past = agrees.past;
    }

-- A walk on both sides: the ledger walks an entry e, the memory a register that stands for it.
pub record Walks {X : Type 0} (meant : ℕ → Option X) (Q : Ledger X → Type 0) (m : Machine) (l : Ledger X) (r : ℕ) (walk : Fed X) (said : FeedSaid X) : Type 0 where
  pub buffers : walk.buffer ≡ said.buffer
  pub answers : walk.answer ≡ said.answer
  pub entry : Entry X
  pub agrees : Agrees meant Q walk.after (ledger.with_register l r entry)
  pub terms : walk.after.terms ≡ m.terms
  pub opened : walk.after.opened ≡ m.opened
  pub holds : walk.after.roots.holds ≡ m.roots.holds
  pub quiet : Quiet m.heap.marks walk.after.heap.marks

module _ {X : Type 0} (meant : ℕ → Option X) (Q : Ledger X → Type 0) (l : Ledger X) (r : ℕ) (small : r < 16) where
  stop : (m : Machine) (e : Entry X) (buffer : List X) (answer : Result (ℕ × Bool) MemoryFault) (said : FeedSaid X) → Agrees meant Q m (ledger.with_register l r e) → said ≡ fed_said buffer answer → Walks meant Q m l r (fed m buffer answer) said
  stop m e buffer answer said agrees q = record { buffers = ap (λ (s : FeedSaid X). s.buffer) (sym q); answers = ap (λ (s : FeedSaid X). s.answer) (sym q); entry = e; agrees = agrees; terms = refl; opened = refl; holds = refl; quiet = quiet_not m.heap.marks }

  -- the register's shape, by the entry that is walked
  pub shape_of : (m : Machine) (e : Entry X) (agrees : Agrees meant Q m (ledger.with_register l r e)) → Shape meant agrees.own m.heap (register m r) e
  shape_of m e agrees = subst (Shape meant agrees.own m.heap (register m r)) (put_same l.registers r e) (register_shape meant Q m (ledger.with_register l r e) agrees r small)

  ends_by : (m : Machine) (e : Entry X) (own : ℕ → ℕ) → Shape meant own m.heap (register m r) e → eqb (register m r) 0 ≡ ends e
  ends_by m e own (is_nil w i) = rw (i, w)
  ends_by m e own (is_atom a i t lo hi) = let q : eqb (register m r) 0 ≡ false = grind (arith, nat_tests) in rw i q
  ends_by m e own (is_cell p u w i) = let q : eqb (register m r) 0 ≡ false = grind (arith, nat_tests) in rw i q

  -- the head of a cell, moved as in car: a word that stands for the ledger's head
  module _ (m : Machine) (e : Entry X) (agrees : Agrees meant Q m (ledger.with_register l r e)) (p : ℕ) (u : Used m.heap.marks p) (w : register m r ≡ refer (heap.here m.heap + p)) where
    pub place : 2 * cell_of (register m r) ≡ 2 * (heap.here m.heap + p)
    place = omega arith

    pub mended : Mended meant agrees.o agrees.own m.heap l.row p Head (Busy m) (move_at m.heap (2 * cell_of (register m r))).after (move_at m.heap (2 * cell_of (register m r))).value
    mended =
        subst (λ (c : ℕ). Mended meant agrees.o agrees.own m.heap l.row p Head (Busy m) (move_at m.heap c).after (move_at m.heap c).value) (sym place)
        (mend meant agrees.o agrees.own m.heap l.row p Head (Busy m) u agrees.sound (λ j s. old_busy meant Q m (ledger.with_register l r e) agrees p Head j u s))

    abbrev pub head_agrees : Agrees meant Q (head_moved m r) (ledger.with_register l r e)
    head_agrees = mended_agrees meant Q m (ledger.with_register l r e) agrees p Head (move_at m.heap (2 * cell_of (register m r))).after (move_at m.heap (2 * cell_of (register m r))).value mended

    pub head_shape : Shape meant mended.own' (head_moved m r).heap (head_of m r) (l.row.heads (agrees.own p))
    head_shape = shape meant agrees.o mended.own' (head_moved m r).heap l.row mended.sound (head_of m r) (l.row.heads (agrees.own p)) mended.stands

    -- the register as it is after the head was moved
    here_moved : register m r ≡ refer (heap.here (head_moved m r).heap + p)
    here_moved = rw (here_same m.heap (head_moved m r).heap mended.frame) w

    used_moved : Used (head_moved m r).heap.marks p
    used_moved = (mended.grown p u).0

    pub tail_agrees : Agrees meant Q (fetched Tail (head_moved m r) r r) (ledger.with_register l r (l.row.tails (agrees.own p)))
    tail_agrees =
        agrees_same meant Q (fetched Tail (head_moved m r) r r) (ledger.with_register (ledger.with_register l r e) r (l.row.tails (mended.own' p))) (ledger.with_register l r (l.row.tails (agrees.own p))) refl
        (λ k. elim (cases_eq k r) [
          | inl q ↦ rw (q, put_same l.registers r (l.row.tails (agrees.own p)), put_same (put l.registers r e) r (l.row.tails (mended.own' p))) (ap l.row.tails (sym (mended.grown p u).1))
          | inr ne ↦ put_other l.registers r (l.row.tails (agrees.own p)) k ne ∙ sym (put_other (put l.registers r e) r (l.row.tails (mended.own' p)) k ne ∙ put_other l.registers r e k ne)
        ])
        (λ k. refl)
        (fetch_agrees meant Q (head_moved m r) (ledger.with_register l r e) head_agrees Tail r r p small used_moved here_moved)

    head_quiet : Quiet m.heap.marks (head_moved m r).heap.marks
    head_quiet = mended_quiet meant Q m (ledger.with_register l r e) agrees p Head _ _ mended

    tail_quiet : Quiet m.heap.marks (fetched Tail (head_moved m r) r r).heap.marks
    tail_quiet = quiet_on _ _ _ head_quiet (fetch_quiet meant Q (head_moved m r) (ledger.with_register l r e) head_agrees Tail r r p used_moved here_moved)

  module _ (codes : (a : X) (c : ℕ) → meant c ≡ Some a → (0 < c) × (c < 2147483648)) where
    -- nil and references read as no atom
    no_atom : (c : ℕ) (o : Option X) → meant c ≡ o → (0 < c → c < 2147483648 → ⊥) → o ≡ None
    no_atom c None q no_code = refl
    no_atom c (Some a) q no_code = let k = codes a c q in absurd (no_code k.0 k.1)

    -- by what the head is
    head_by : (m m' : Machine) (n : ℕ) (buffer : List X) (w : ℕ) (h : Entry X) (own : ℕ → ℕ) (at : Heap) → Shape meant own at w h → (go : X → Fed X) (said : X → FeedSaid X) → Walks meant Q m l r (fed m' buffer (Err (NotAtom n))) (fed_said buffer (Err (NotAtom n))) → ((a : X) → Walks meant Q m l r (go a) (said a)) → Walks meant Q m l r (on_atom (meant w) (fed m' buffer (Err (NotAtom n))) go) (at_atom h (fed_said buffer (Err (NotAtom n))) said)
    head_by m m' n buffer w h own at (is_nil q i) go said bad on = rw (i, no_atom w (meant w) refl (λ lo hi. omega arith)) bad
    head_by m m' n buffer w h own at (is_atom a i t lo hi) go said bad on = rw (i, t) (on a)
    head_by m m' n buffer w h own at (is_cell p u q i) go said bad on = rw (i, no_atom w (meant w) refl (λ lo hi. omega arith)) bad

    -- one more step, by what the register is
    walk_by : (left n : ℕ) (m : Machine) (e : Entry X) (buffer : List X) (agrees : Agrees meant Q m (ledger.with_register l r e)) → Shape meant agrees.own m.heap (register m r) e
        → ((m₁ : Machine) (e₁ : Entry X) (n₁ : ℕ) (buffer₁ : List X) → Agrees meant Q m₁ (ledger.with_register l r e₁) → Walks meant Q m₁ l r (walk meant r left n₁ m₁ buffer₁) (walked l.row left n₁ e₁ buffer₁))
        → Walks meant Q m l r
        (cond (eqb (register m r) 0) (fed m buffer (Ok (n, true)))
        (cond (is_reference (register m r))
        (on_atom (meant (head_of m r)) (fed (head_moved m r) buffer (Err (NotAtom n))) (λ a. walk meant r left (n + 1) (fetched Tail (head_moved m r) r r) (set buffer n a)))
        (fed m buffer (Err (NotCell n)))))
        (at_cell e (fed_said buffer (Ok (n, true))) (fed_said buffer (Err (NotCell n)))
        (λ c. at_atom (l.row.heads c) (fed_said buffer (Err (NotAtom n))) (λ a. walked l.row left (n + 1) (l.row.tails c) (set buffer n a))))
    walk_by left n m e buffer agrees (is_nil w i) rest = rw (i, w) (stop m e buffer (Ok (n, true)) _ agrees refl)
    walk_by left n m e buffer agrees (is_atom a i t lo hi) rest =
        let not-nil : eqb (register m r) 0 ≡ false = grind (arith, nat_tests) in
        let no_cell : leb 2147483648 (register m r) ≡ false = grind (arith, nat_tests) in
        rw (i, not-nil, no_cell) (stop m e buffer (Err (NotCell n)) _ agrees refl)
    walk_by left n m e buffer agrees (is_cell p u w i) rest =
        let not-nil : eqb (register m r) 0 ≡ false = grind (arith, nat_tests) in
        let a-cell : leb 2147483648 (register m r) ≡ true = grind (arith, nat_tests) in
        rw (i, not-nil, a-cell)
        (head_by m (head_moved m r) n buffer (head_of m r) (l.row.heads (agrees.own p)) _ _ (head_shape m e agrees p u w) _ _
        (let s = stop (head_moved m r) e buffer (Err (NotAtom n)) (fed_said buffer (Err (NotAtom n))) (head_agrees m e agrees p u w) refl in
        record { buffers = s.buffers; answers = s.answers; entry = s.entry; agrees = s.agrees; terms = refl; opened = refl; holds = refl; quiet = head_quiet m e agrees p u w })
        (λ a. let s = rest (fetched Tail (head_moved m r) r r) (l.row.tails (agrees.own p)) (n + 1) (set buffer n a) (tail_agrees m e agrees p u w) in
        record { buffers = s.buffers; answers = s.answers; entry = s.entry; agrees = s.agrees; terms = s.terms; opened = s.opened; holds = s.holds; quiet = quiet_on _ _ _ (tail_quiet m e agrees p u w) s.quiet }))

    pub walk_walks : (left n : ℕ) (m : Machine) (e : Entry X) (buffer : List X) → Agrees meant Q m (ledger.with_register l r e) → Walks meant Q m l r (walk meant r left n m buffer) (walked l.row left n e buffer)
    unfolding walk walked
    walk_walks zero n m e buffer agrees = stop m e buffer (Ok (n, eqb (register m r) 0)) _ agrees (ap (λ (b : Bool). fed_said buffer (Ok (n, b))) (sym (ends_by m e agrees.own (shape_of m e agrees))))
    walk_walks (suc left) n m e buffer agrees = walk_by left n m e buffer agrees (shape_of m e agrees) (λ m₁ e₁ n₁ buffer₁ a. walk_walks left n₁ m₁ e₁ buffer₁ a)

-- What a memory and a ledger leave and answer to feed, side by side.
pub record FeedMatches {X : Type 0} (meant : ℕ → Option X) (Q : Ledger X → Type 0) (m : Machine) (l : Ledger X) (call : Fed X) (said : FeedSaid X) : Type 0 where
  pub buffers : call.buffer ≡ said.buffer
  pub answers : call.answer ≡ said.answer
  pub agrees : Agrees meant Q call.after l
  pub terms : call.after.terms ≡ m.terms
  pub opened : call.after.opened ≡ m.opened
  pub quiet : Quiet m.heap.marks call.after.heap.marks

module _ {X : Type 0} (meant : ℕ → Option X) (Q : Ledger X → Type 0) (m : Machine) (l : Ledger X) (agrees : Agrees meant Q m l) where
  feed_stops : (buffer : List X) (f : MemoryFault) → FeedMatches meant Q m l (fed m buffer (Err f)) (fed_said buffer (Err f))
  feed_stops buffer f = record { buffers = refl; answers = refl; agrees = agrees; terms = refl; opened = refl; quiet = quiet_not m.heap.marks }

  feed_admit : (buffer : List X) (b : Bool) → b ≡ true → (k : Result (Unit {0}) MemoryFault) (call : Fed X) (said : FeedSaid X) → (k ≡ Ok tt → FeedMatches meant Q m l call said) → FeedMatches meant Q m l (feed_unless (cond b k (Err Shut)) m buffer call) (feed_unless_denied k buffer said)
  feed_admit buffer true e (Err f) call said go = feed_stops buffer f
  feed_admit buffer true e (Ok u) call said go = go refl
  feed_admit buffer false e k call said go = let z : ◌≡◌ {A = ℕ} 0 1 = cc in absurd (omega arith)

  feed_may : (buffer : List X) (k k' : Result (Unit {0}) MemoryFault) → k ≡ k' → (call : Fed X) (said : FeedSaid X) → (k ≡ Ok tt → FeedMatches meant Q m l call said) → FeedMatches meant Q m l (feed_unless k m buffer call) (feed_unless_denied k' buffer said)
  feed_may buffer (Err f) k' e call said go = rw (sym e) (feed_stops buffer f)
  feed_may buffer (Ok u) k' e call said go = rw (sym e) (go refl)

  -- the place was free on both sides
  free_at : (p : ℕ) → p < 8 → (w : Option ℕ) (e : Option (Entry X)) → HoldStands meant agrees.o l.row Never agrees.own m.heap w e → vacant w p ≡ Ok tt → e ≡ None
  free_at p s None None h q = refl
  free_at p s None (Some e) h q = absurd h
  free_at p s (Some w) None h q = absurd h
  free_at p s (Some w) (Some e) h q = let z : ◌≡◌ {A = ℕ} 0 1 = cc in absurd (omega arith)

  -- r is given back from its hold
  hand_back : (r p : ℕ) → r < 16 → p < 8 → l.holds p ≡ None → (walk : Fed X) (said : FeedSaid X) → Walks meant Q (with_hold m p (Some (register m r))) (ledger.with_hold l p (Some (l.registers r))) r walk said → FeedMatches meant Q m l (handed_back r p (register m r) walk) said
  hand_back r p sr sp free walk said ws =
      let inside : p < length m.roots.holds = omega (arith, agrees.eight) in
      let here-word : hold_at walk.after p ≡ Some (register m r) = ap (λ (hs : List (Option ℕ)). get_or hs p None) ws.holds ∙ get_or-set_same m.roots.holds p (Some (register m r)) None inside in
      let there-entry : put l.holds p (Some (l.registers r)) p ≡ Some (l.registers r) = put_same l.holds p (Some (l.registers r)) in
      let stands : WordStands meant ws.agrees.o l.row Never ws.agrees.own walk.after.heap (register m r) (l.registers r) = rw (here-word, there-entry) at (ws.agrees.holds p sp) in
      let l₁ : Ledger X = ledger.with_register (ledger.with_hold l p (Some (l.registers r))) r ws.entry in
      let freed = hold_agrees meant Q walk.after l₁ ws.agrees p None None sp tt in
      let given = register_agrees meant Q (with_hold walk.after p None) (ledger.with_hold l₁ p None) r (register m r) (l.registers r) freed sr stands in
      record {
        buffers = ws.buffers;
        answers = ws.answers;
        agrees = agrees_same meant Q (handed_back r p (register m r) walk).after (ledger.with_register (ledger.with_hold l₁ p None) r (l.registers r)) l refl
            (λ k. elim (cases_eq k r) [
              | inl q ↦ ap l.registers q ∙ sym (ap (put (put l.registers r ws.entry) r (l.registers r)) q ∙ put_same (put l.registers r ws.entry) r (l.registers r))
              | inr ne ↦ sym (put_other (put l.registers r ws.entry) r (l.registers r) k ne ∙ put_other l.registers r ws.entry k ne)
            ])
            (λ k. elim (cases_eq k p) [
              | inl q ↦ ap l.holds q ∙ (free ∙ sym (ap (put (put l.holds p (Some (l.registers r))) p None) q ∙ put_same (put l.holds p (Some (l.registers r))) p None))
              | inr ne ↦ sym (put_other (put l.holds p (Some (l.registers r))) p None k ne ∙ put_other l.holds p (Some (l.registers r)) k ne)
            ])
            given;
        terms = ws.terms;
        opened = ws.opened;
        quiet = ws.quiet;
      }

  -- holding is allowed: the place is among the eight, and free on both sides
  may_free : (p : ℕ) → may_hold m p ≡ Ok tt → (p < 8) × (l.holds p ≡ None)
  may_free p e = elim (cases_lt p 8) [
    | inl s ↦ (s, free_at p s (hold_at m p) (l.holds p) (agrees.holds p s) (rw (lt-ltb p 8 s) at e))
    | inr s ↦ let f : Err (NoHold p) ≡ Ok tt = rw (le-ltb p 8 s) at e in let z : ◌≡◌ {A = ℕ} 0 1 = cc in absurd (omega arith)
  ]

  -- r held at p, and r's own entry put where it is
  pub held_start : (r p : ℕ) → r < 16 → may_hold m p ≡ Ok tt → Agrees meant Q (with_hold m p (Some (register m r))) (ledger.with_register (ledger.with_hold l p (Some (l.registers r))) r (l.registers r))
  held_start r p sr q =
      let f = may_free p q in
      agrees_same meant Q (with_hold m p (Some (register m r))) (ledger.with_hold l p (Some (l.registers r))) (ledger.with_register (ledger.with_hold l p (Some (l.registers r))) r (l.registers r)) refl
      (λ k. elim (cases_eq k r) [
        | inl s ↦ ap (put l.registers r (l.registers r)) s ∙ (put_same l.registers r (l.registers r) ∙ ap l.registers (sym s))
        | inr ne ↦ put_other l.registers r (l.registers r) k ne
      ])
      (λ k. refl) (hold_agrees meant Q m l agrees p (Some (register m r)) (Some (l.registers r)) f.0 (agrees.registers r sr))

  pub feed_matches : m.opened ≡ true → ((a : X) (c : ℕ) → meant c ≡ Some a → (0 < c) × (c < 2147483648)) → (r p : ℕ) (buffer : List X) → FeedMatches meant Q m l (feed_call meant m r p buffer) (feed_says l r p buffer)
  feed_matches is_open codes r p buffer =
      feed_admit buffer m.opened is_open (known (r ∷ [])) _ _
      (λ k. feed_may buffer (may_hold m p) (may_hold_at l p) (may_same meant Q m l agrees p) _ _
      (λ q.
      let f = may_free p q in
      let sr = known_one r k in
      hand_back r p sr f.0 f.1 _ _ (walk_walks meant Q (ledger.with_hold l p (Some (l.registers r))) r sr codes (length buffer) 0 (with_hold m p (Some (register m r))) (l.registers r) buffer (held_start r p sr q))))
