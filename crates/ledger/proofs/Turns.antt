-- Each call of the memory answers as the ledger does, and they still agree.
use Rattle.std.proofs.Common.{◌≡◌, ℕ, ◌+◌, ◌^◌, ◌<◌, ◌≤◌, Bool, true, false, cond, eqb, ltb, leb, [], ◌∷◌, Some, Ok, Err, Option, Result, sym, refl, ap, ◌∙◌, inl, inr, arith}
use Rattle.atom.specs.declared.faults.KindFault.{KindFault}
use Rattle.ledger.proofs.Collect.{collect_agrees}
use Rattle.ledger.proofs.Flip.{Agrees}
use Rattle.ledger.proofs.Roots.{WordStands}
use Rattle.ledger.proofs.Seen.{Used, Never}
use Rattle.ledger.proofs.Sound.{Quiet, quiet_not}
use Rattle.ledger.proofs.Steps.{Shape, is_nil, is_atom, is_cell, register_shape, register_agrees, fetch_agrees, fetch_quiet, replace_agrees, grant_agrees, room_free, room_busy}
use Rattle.ledger.proofs.Words.{see}
use Rattle.ledger.specs.Answers.{Told, Said, settled, denied, unless_denied, booking, cons_says, needing, fetch_says, replace_says, setting, set_says, load_says, clear_says, sighted, look_says, same_entries, same_says}
use Rattle.ledger.specs.Ledger as ledger
use Rattle.ledger.specs.Ledger.{Ledger, Entry, nil, atom, cell}
use Rattle.ledger.specs.Runs.{told_by}
use Rattle.machine.specs.Calls.{Call, done, refused, unless, known, needs_cell, allocated, cons_call, fetch_call, replace_call, put_code, set_call, load_call, clear_call, look_call, same_call}
use Rattle.machine.specs.Heap as heap
use Rattle.machine.specs.Heap.{Heap, Marks, scan_over}
use Rattle.machine.specs.Machine.{Machine, register, with_register, collected, flip, flip_due, room, grant}
use Rattle.machine.specs.Words.{refer, sight_of}
use Rattle.machine.specs.declared.faults.MemoryFault.{MemoryFault}
use Rattle.machine.specs.declared.faults.MemoryFault.TheVariants.{Shut, NotCell, Kind, Scanning, Full}
use Rattle.machine.specs.declared.side.Side.{Side}
use Rattle.std.proofs.lemmas.Bool.{cases_eq, eq-eqb, ne_eqb}
use Rattle.std.proofs.lemmas.Bool.Decides.{nat_tests}

pub record Matches {X : Type 0} (meant : ℕ → Option X) (Q : Ledger X → Type 0) (m : Machine) (l : Ledger X) {R : Type 0} (call : Call R) (said : Said X R) : Type 0 where
  pub answers : call.answer ≡ said.answer
  pub agrees : Agrees meant Q call.after said.after
  pub terms : call.after.terms ≡ m.terms
  pub opened : call.after.opened ≡ m.opened
  pub number : said.after.number ≡ l.number
  pub quiet : Quiet m.heap.marks call.after.heap.marks

-- the same of a cons, which may flip and scan
pub record ConsMatches {X : Type 0} (meant : ℕ → Option X) (Q : Ledger X → Type 0) (m : Machine) (l : Ledger X) (call : Call (Unit {0})) (said : Said X (Unit {0})) : Type 0 where
  pub answers : call.answer ≡ said.answer
  pub agrees : Agrees meant Q call.after said.after
  pub terms : call.after.terms ≡ m.terms
  pub opened : call.after.opened ≡ m.opened
  pub number : said.after.number ≡ l.number

pub known_one : (r : ℕ) → known (r ∷ []) ≡ Ok tt → r < 16
known_one r e = grind (arith, nat_tests)

pub known_two : (a b : ℕ) → known (a ∷ b ∷ []) ≡ Ok tt → (a < 16) × (b < 16)
known_two a b e = (grind (arith, nat_tests), grind (arith, nat_tests))

pub known_three : (a b c : ℕ) → known (a ∷ b ∷ c ∷ []) ≡ Ok tt → (a < 16) × (b < 16) × (c < 16)
known_three a b c e = (grind (arith, nat_tests), grind (arith, nat_tests), grind (arith, nat_tests))

-- what the test for room can answer
pub data Rooms : Result (Unit {0}) MemoryFault → Type 0 where
  has_room : Rooms (Ok tt)
  is_full : Rooms (Err Full)
  is_scanning : Rooms (Err Scanning)

abbrev room_by : Bool → Bool → Bool → Result (Unit {0}) MemoryFault
room_by a b c = cond a (cond b (Ok tt) (Err Full)) (cond c (Ok tt) (Err Scanning))

room_by_lem : (a b c : Bool) → Rooms (room_by a b c)
room_by_lem true true c = has_room
room_by_lem true false c = is_full
room_by_lem false b true = has_room
room_by_lem false b false = is_scanning

pub rooms : (m : Marks) → Rooms (room m)
rooms m = room_by_lem (scan_over m) (ltb m.copied m.top) (ltb m.prior m.top)

due_terms : (m : Machine) (due : Bool) → (cond due (flip m) m).terms ≡ m.terms
due_terms m true = refl
due_terms m false = refl

due_opened : (m : Machine) (due : Bool) → (cond due (flip m) m).opened ≡ m.opened
due_opened m true = refl
due_opened m false = refl

module _ {X : Type 0} (meant : ℕ → Option X) (Q : Ledger X → Type 0) (m : Machine) (l : Ledger X) (agrees : Agrees meant Q m l) where
  -- a refusal on both sides
  pub refuse : {R : Type 0} (f : MemoryFault) → Matches meant Q m l {R = R} (refused m f) (denied l f)
  refuse f = record { answers = refl; agrees = agrees; terms = refl; opened = refl; number = refl; quiet = quiet_not m.heap.marks }

  -- the registers are known or not, alike on both sides
  pub admit : {R : Type 0} (b : Bool) → b ≡ true → (k : Result (Unit {0}) MemoryFault) (call : Call R) (said : Said X R) → (k ≡ Ok tt → Matches meant Q m l call said) → Matches meant Q m l (unless (cond b k (Err Shut)) m call) (unless_denied k l said)
  admit true e (Err f) call said go = refuse f
  admit true e (Ok tt) call said go = go refl
  admit false e k call said go = let z : ◌≡◌ {A = ℕ} 0 1 = cc in absurd (omega arith)

  -- what a register is decides whether a call that needs a cell goes on
  need_by : (r : ℕ) (e : Entry X) → Shape meant agrees.own m.heap (register m r) e → (call : Call (Unit {0})) (said : ℕ → Said X (Unit {0})) → ((p : ℕ) → Used m.heap.marks p → register m r ≡ refer (heap.here m.heap + p) → Matches meant Q m l call (said (agrees.own p))) → Matches meant Q m l (unless (needs_cell m r) m call) (needing l r e said)
  need_by r e (is_nil w i) call said go = rw (i, w) (refuse (NotCell r))
  need_by r e (is_atom a i t lo hi) call said go = let no_cell : leb 2147483648 (register m r) ≡ false = grind (arith, nat_tests) in rw (i, no_cell) (refuse (NotCell r))
  need_by r e (is_cell p u w i) call said go = let a-cell : leb 2147483648 (register m r) ≡ true = grind (arith, nat_tests) in rw (i, a-cell) (go p u w)

  abbrev Stood : ℕ → Entry X → Type 0
  Stood w e = WordStands meant agrees.o l.row Never agrees.own m.heap w e

  -- a clean word goes into a register on both sides
  put_matches : (d w : ℕ) (e : Entry X) → d < 16 → Stood w e → Matches meant Q m l (done (with_register m d w)) (settled (ledger.with_register l d e))
  put_matches d w e sd st = record { answers = refl; agrees = register_agrees meant Q m l d w e agrees sd st; terms = refl; opened = refl; number = refl; quiet = quiet_not m.heap.marks }

  nil_stands : Stood 0 nil
  unfolding see
  nil_stands = refl

  code_stands : (c : ℕ) (a : X) → 1 ≤ c → c < 2 ^ 31 → meant c ≡ Some a → Stood c (atom a)
  unfolding see
  code_stands c a lo hi t =
      let not-nil : eqb c 0 ≡ false = grind (arith, nat_tests) in
      let low : ltb c 2147483648 ≡ true = grind (arith, nat_tests) in
      rw (not-nil, low) (a, (refl, t))

  module _ (is_open : m.opened ≡ true) where
    pub fetch_matches : (side : Side) (d r : ℕ) → Matches meant Q m l (fetch_call side m d r) (fetch_says side l d r)
    fetch_matches side d r =
        admit m.opened is_open (known (d ∷ r ∷ [])) _ _ (λ k. let s = known_two d r k in need_by r (l.registers r) (register_shape meant Q m l agrees r s.1) _ _ (λ p u w. record { answers = refl; agrees = fetch_agrees meant Q m l agrees side d r p s.0 u w; terms = refl; opened = refl; number = refl; quiet = fetch_quiet meant Q m l agrees side d r p u w }))

    pub replace_matches : (side : Side) (r v : ℕ) → Matches meant Q m l (replace_call side m r v) (replace_says side l r v)
    replace_matches side r v =
        admit m.opened is_open (known (r ∷ v ∷ [])) _ _ (λ k. let s = known_two r v k in need_by r (l.registers r) (register_shape meant Q m l agrees r s.0) _ _ (λ p u w. record { answers = refl; agrees = replace_agrees meant Q m l agrees side r v p s.1 u w; terms = refl; opened = refl; number = refl; quiet = quiet_not m.heap.marks }))

    pub load_matches : (d r : ℕ) → Matches meant Q m l (load_call m d r) (load_says l d r)
    load_matches d r = admit m.opened is_open (known (d ∷ r ∷ [])) _ _ (λ k. let s = known_two d r k in put_matches d (register m r) (l.registers r) s.0 (agrees.registers r s.1))

    pub clear_matches : (d : ℕ) → Matches meant Q m l (clear_call m d) (clear_says l d)
    clear_matches d = admit m.opened is_open (known (d ∷ [])) _ _ (λ k. put_matches d 0 nil (known_one d k) nil_stands)

    set_by : (d : ℕ) (a : X) → d < 16 → (k : Result ℕ KindFault) → ((c : ℕ) → k ≡ Ok c → ((1 ≤ c) × (c < 2 ^ 31)) × (meant c ≡ Some a)) → Matches meant Q m l (put_code m d k) (setting l d a k)
    set_by d a sd (Ok c) laws = let s = laws c refl in put_matches d c (atom a) sd (code_stands c a s.0.0 s.0.1 s.1)
    set_by d a sd (Err f) laws = refuse (Kind f)

    pub set_matches : (coded : X → Result ℕ KindFault) → ((a : X) (c : ℕ) → coded a ≡ Ok c → ((1 ≤ c) × (c < 2 ^ 31)) × (meant c ≡ Some a)) → (d : ℕ) (a : X) → Matches meant Q m l (set_call m d (coded a)) (set_says coded l d a)
    set_matches coded laws d a = admit m.opened is_open (known (d ∷ [])) _ _ (λ k. set_by d a (known_one d k) (coded a) (laws a))

    look_by : (r : ℕ) (e : Entry X) → Shape meant agrees.own m.heap (register m r) e → sight_of meant (register m r) ≡ sighted e
    look_by r e (is_nil w i) = rw (i, w)
    look_by r e (is_atom a i t lo hi) =
        let not-nil : eqb (register m r) 0 ≡ false = grind (arith, nat_tests) in
        let no_cell : leb 2147483648 (register m r) ≡ false = grind (arith, nat_tests) in
        rw (i, not-nil, no_cell, t)
    look_by r e (is_cell p u w i) =
        let not-nil : eqb (register m r) 0 ≡ false = grind (arith, nat_tests) in
        let a-cell : leb 2147483648 (register m r) ≡ true = grind (arith, nat_tests) in
        rw (i, not-nil, a-cell)

    pub look_matches : (r : ℕ) → Matches meant Q m l (look_call meant m r) (look_says l r)
    look_matches r =
        admit m.opened is_open (known (r ∷ [])) _ _
        (λ k. record { answers = ap Ok (look_by r (l.registers r) (register_shape meant Q m l agrees r (known_one r k))); agrees = agrees; terms = refl; opened = refl; number = refl; quiet = quiet_not m.heap.marks })

    -- by what the test for room answers
    alloc_by : (c : Machine) → Agrees meant Q c l → c.terms ≡ m.terms → c.opened ≡ m.opened → (d a b : ℕ) → d < 16 → a < 16 → b < 16 → {k : Result (Unit {0}) MemoryFault} → room c.heap.marks ≡ k → Rooms k → (t : Told) → t ≡ told_by (unless k c (done (grant c d a b))).answer → ConsMatches meant Q m l (unless k c (done (grant c d a b))) (booking t l d a b)
    alloc_by c ag ct co d a b sd sa sb e has_room t q =
        rw q (record { answers = refl; agrees = grant_agrees meant Q c l ag a b sa sb (room_free meant Q c l ag e) (room_busy meant Q c l ag e) d sd; terms = ct; opened = co; number = refl })
    alloc_by c ag ct co d a b sd sa sb e is_full t q = rw q (record { answers = refl; agrees = ag; terms = ct; opened = co; number = refl })
    alloc_by c ag ct co d a b sd sa sb e is_scanning t q = rw q (record { answers = refl; agrees = ag; terms = ct; opened = co; number = refl })

    -- the ledger is told what the memory answered
    cons_admit : (b : Bool) → b ≡ true → (k : Result (Unit {0}) MemoryFault) (call : Call (Unit {0})) (said : Told → Said X (Unit {0})) → (k ≡ Ok tt → ConsMatches meant Q m l call (said (told_by call.answer))) → ConsMatches meant Q m l (unless (cond b k (Err Shut)) m call) (unless_denied k l (said (told_by (unless (cond b k (Err Shut)) m call).answer)))
    cons_admit true e (Err f) call said go = record { answers = refl; agrees = agrees; terms = refl; opened = refl; number = refl }
    cons_admit true e (Ok u) call said go = go refl
    cons_admit false e k call said go = let z : ◌≡◌ {A = ℕ} 0 1 = cc in absurd (omega arith)

    pub cons_matches : (d a b : ℕ) → Q l → ConsMatches meant Q m l (cons_call m d a b) (cons_says (told_by (cons_call m d a b).answer) l d a b)
    cons_matches d a b now =
        cons_admit m.opened is_open (known (d ∷ a ∷ b ∷ [])) (allocated (collected m) d a b) (λ t. booking t l d a b)
        (λ k. let s = known_three d a b k in
        alloc_by (collected m) (collect_agrees meant Q m l agrees now) (due_terms m (flip_due m)) (due_opened m (flip_due m)) d a b s.0 s.1 s.2 refl (rooms (collected m).heap.marks) _ refl)

    module _ (coded : X → Result ℕ KindFault) (codes : (a : X) (c : ℕ) → meant c ≡ Some a → coded a ≡ Ok c) where
      same_by : (w w' : ℕ) (e e' : Entry X) → Shape meant agrees.own m.heap w e → Shape meant agrees.own m.heap w' e' → eqb w w' ≡ same_entries coded e e'
      same_by w w' e e' (is_nil k i) (is_nil k' i') = rw (i, i', k, k')
      same_by w w' e e' (is_nil k i) (is_atom a' i' t' lo' hi') = let no_eq : eqb w w' ≡ false = grind (arith, nat_tests) in rw (i, i') no_eq
      same_by w w' e e' (is_nil k i) (is_cell p' u' k' i') = let no_eq : eqb w w' ≡ false = grind (arith, nat_tests) in rw (i, i') no_eq
      same_by w w' e e' (is_atom a i t lo hi) (is_nil k' i') = let no_eq : eqb w w' ≡ false = grind (arith, nat_tests) in rw (i, i') no_eq
      same_by w w' e e' (is_atom a i t lo hi) (is_atom a' i' t' lo' hi') = rw (i, i', codes a w t, codes a' w' t')
      same_by w w' e e' (is_atom a i t lo hi) (is_cell p' u' k' i') = let no_eq : eqb w w' ≡ false = grind (arith, nat_tests) in rw (i, i') no_eq
      same_by w w' e e' (is_cell p u k i) (is_nil k' i') = let no_eq : eqb w w' ≡ false = grind (arith, nat_tests) in rw (i, i') no_eq
      same_by w w' e e' (is_cell p u k i) (is_atom a' i' t' lo' hi') = let no_eq : eqb w w' ≡ false = grind (arith, nat_tests) in rw (i, i') no_eq
      same_by w w' e e' (is_cell p u k i) (is_cell p' u' k' i') =
          let one : agrees.own p ≡ agrees.own p' → p ≡ p' = agrees.sound.inv.own_one p p' u u' in
          let eq : eqb w w' ≡ eqb (agrees.own p) (agrees.own p') =
          elim (cases_eq p p') [
            | inl s ↦ rw (k, k', s) (eq-eqb _ _ refl ∙ sym (eq-eqb _ _ refl))
            | inr ne ↦ ne_eqb w w' (λ q. ne (omega arith)) ∙ sym (ne_eqb _ _ (λ q. ne (one q)))
          ] in
          rw (i, i') eq

      pub same_matches : (a b : ℕ) → Matches meant Q m l (same_call m a b) (same_says coded l a b)
      same_matches a b =
          admit m.opened is_open (known (a ∷ b ∷ [])) _ _
          (λ k. let s = known_two a b k in
          record {
            answers = ap Ok (same_by (register m a) (register m b) (l.registers a) (l.registers b) (register_shape meant Q m l agrees a s.0) (register_shape meant Q m l agrees b s.1));
            agrees = agrees;
            terms = refl;
            opened = refl;
            number = refl;
            quiet = quiet_not m.heap.marks;
          })
