-- No call of a run looks past the store's end.
use Rattle.std.proofs.Common.{◌≡◌, ℕ, zero, suc, ◌+◌, ◌-◌, ◌*◌, ◌<◌, Bool, true, false, cond, eqb, ltb, leb, List, [], ◌∷◌, ◌++◌, length, set, Some, None, Ok, Err, Option, Result, refl, ap, ◌∙◌, arith}
use Rattle.atom.specs.declared.faults.KindFault.{KindFault}
use Rattle.ledger.proofs.Collect.{collect_agrees}
use Rattle.ledger.proofs.Feeding.{held_start, shape_of, mended, head_agrees, tail_agrees}
use Rattle.ledger.proofs.Flip.{Agrees}
use Rattle.ledger.proofs.Pads.{Tidy, set_pad, move_at_pads, collected_pads, bases, pad_step}
use Rattle.ledger.proofs.Running.{Lawful, Beside, pages}
use Rattle.ledger.proofs.Seen.{Used}
use Rattle.ledger.proofs.Showing.{Anything, any_cons}
use Rattle.ledger.proofs.Steps.{Shape, is_nil, is_atom, is_cell, register_shape, room_free}
use Rattle.ledger.proofs.Turns.{known_one, known_two}
use Rattle.ledger.specs.Ledger as ledger
use Rattle.ledger.specs.Ledger.{Ledger, Entry}
use Rattle.ledger.specs.Padded.{pad_heap, padded}
use Rattle.ledger.specs.Runs.{Order, cons, car, cdr, rplaca, rplacd, put, load, clear, look, same, hold, back, feed, Reply, did, showed, judged, handed, took, wrote, Turn, told, turn, page, replies, machine_after}
use Rattle.machine.specs.Calls.{Call, look_call, same_call, unless, known, admitted, needs_cell, allocated, cons_call, fetched, fetch_call, replaced, replace_call, done, put_code}
use Rattle.machine.specs.Feed.{Fed, fed, head_moved, head_of, on_atom, walk, handed_back, feed_unless, feed_call}
use Rattle.machine.specs.Heap as heap
use Rattle.machine.specs.Heap.{Heap, Step, move_at, with_words, lower_top}
use Rattle.machine.specs.Holds.{Pass, with_hold, may_hold, BackCall, back_unless, given_back, held_for}
use Rattle.machine.specs.Machine.{Machine, register, with_register, with_heap, collected, room, grant}
use Rattle.machine.specs.Words.{is_reference, sight_of, refer, cell_of, place_of, put_cell}
use Rattle.machine.specs.declared.faults.MemoryFault.{MemoryFault}
use Rattle.machine.specs.declared.faults.MemoryFault.TheVariants.{NotCell, NotAtom}
use Rattle.machine.specs.declared.side.Side.{Side}
use Rattle.machine.specs.declared.sight.Sight.{Sight}
use Rattle.machine.specs.declared.side.Side.TheVariants.{Head, Tail}
use Rattle.std.proofs.lemmas.List.{length-set}
use Rattle.std.proofs.lemmas.Bool.{lt-ltb}
use Rattle.std.proofs.lemmas.Bool.Decides.{nat_tests}

module _ (ex : List ℕ) where
  abbrev pad_call : {R : Type 0} → Call R → Call R
  pad_call call = record { after = padded call.after ex; answer = call.answer }

  unless_pads : {R : Type 0} (k : Result (Unit {0}) MemoryFault) (m : Machine) (call call' : Call R) → (k ≡ Ok tt → call' ≡ pad_call call) → unless k (padded m ex) call' ≡ pad_call (unless k m call)
  unless_pads (Err f) m call call' go = refl
  unless_pads (Ok u) m call call' go = go refl

  -- an answer that the words do not touch
  look_by : {R : Type 0} (k : Result (Unit {0}) MemoryFault) (m : Machine) (x : R) → (unless k (padded m ex) (record { after = padded m ex; answer = Ok x })).answer ≡ (unless k m (record { after = m; answer = Ok x })).answer
  look_by (Err f) m x = refl
  look_by (Ok u) m x = refl

  put_cell_pads : (ws : List ℕ) (c : ℕ) (pair : ℕ × ℕ) → 2 * c + 1 < length ws → put_cell (ws ++ ex) c pair ≡ put_cell ws c pair ++ ex
  put_cell_pads ws c pair inside =
      ap (λ (l : List ℕ). set l (2 * c + 1) pair.1) (set_pad ws ex (2 * c) pair.0 (omega arith))
      ∙ set_pad (set ws (2 * c) pair.0) ex (2 * c + 1) pair.1 (omega (arith, length-set ws (2 * c) pair.0))

  grant_pads : (m : Machine) → Tidy m.heap → m.heap.marks.copied < m.heap.marks.top → (d a b : ℕ) → grant (padded m ex) d a b ≡ padded (grant m d a b) ex
  grant_pads m t free d a b =
      let test : ltb m.heap.marks.copied m.heap.marks.top ≡ true = lt-ltb _ _ free in
      let base = bases m.heap.marks.size m.heap.upper in
      let put_in = put_cell_pads m.heap.words (heap.here m.heap + (m.heap.marks.top - 1)) (register m a, register m b) (omega (arith, base.0, t.big, t.order.t_h)) in
      rw (test, put_in)

  alloc_pads : (m : Machine) → Tidy m.heap → (room m.heap.marks ≡ Ok tt → m.heap.marks.copied < m.heap.marks.top) → (d a b : ℕ) → allocated (padded m ex) d a b ≡ pad_call (allocated m d a b)
  alloc_pads m t free d a b = unless_pads (room m.heap.marks) m (done (grant m d a b)) (done (grant (padded m ex) d a b)) (λ k. ap done (grant_pads m t (free k) d a b))

  place_bound : (side : Side) (c n : ℕ) → 2 * c + 1 < n → place_of side c < n
  place_bound Head c n h = omega arith
  place_bound Tail c n h = omega arith

  fetched_pads : (side : Side) (m : Machine) (d r : ℕ) → Tidy m.heap → 2 * cell_of (register m r) + 1 < length m.heap.words → fetched side (padded m ex) d r ≡ padded (fetched side m d r) ex
  fetched_pads side m d r t inside =
      ap (λ (s : Step ℕ). with_register (with_heap m s.after) d s.value) (move_at_pads m.heap t ex (place_of side (cell_of (register m r))) (place_bound side (cell_of (register m r)) (length m.heap.words) inside))

  replaced_pads : (side : Side) (m : Machine) (r v : ℕ) → 2 * cell_of (register m r) + 1 < length m.heap.words → replaced side (padded m ex) r v ≡ padded (replaced side m r v) ex
  replaced_pads side m r v inside =
      ap (λ (ws : List ℕ). with_heap m (with_words m.heap ws)) (set_pad m.heap.words ex (place_of side (cell_of (register m r))) (register m v) (place_bound side (cell_of (register m r)) (length m.heap.words) inside))

  module _ {A : Type 0} (meant : ℕ → Option A) (Q : Ledger A → Type 0) where
    tidy_of : (m : Machine) (l : Ledger A) → Agrees meant Q m l → Tidy m.heap
    tidy_of m l agrees = record { big = agrees.sound.big; order = agrees.sound.inv.order }

    cell_inside : (m : Machine) (p : ℕ) → Tidy m.heap → Used m.heap.marks p → (r : ℕ) → register m r ≡ refer (heap.here m.heap + p) → 2 * cell_of (register m r) + 1 < length m.heap.words
    cell_inside m p t u r w = let b = bases m.heap.marks.size m.heap.upper in omega (arith, b.0, u.0, t.big)

    need_by : (m : Machine) (l : Ledger A) (agrees : Agrees meant Q m l) (r : ℕ) (e : Entry A) → Shape meant agrees.own m.heap (register m r) e → needs_cell m r ≡ Ok tt → 2 * cell_of (register m r) + 1 < length m.heap.words
    need_by m l agrees r e (is_nil w i) k = let f : Err (NotCell r) ≡ Ok tt = rw w at k in let z : ◌≡◌ {A = ℕ} 0 1 = cc in absurd (omega arith)
    need_by m l agrees r e (is_atom a i t lo hi) k =
        let no_cell : leb 2147483648 (register m r) ≡ false = grind (arith, nat_tests) in
        let f : Err (NotCell r) ≡ Ok tt = rw no_cell at k in
        let z : ◌≡◌ {A = ℕ} 0 1 = cc in absurd (omega arith)
    need_by m l agrees r e (is_cell p u w i) k = cell_inside m p (tidy_of m l agrees) u r w

    module _ (m : Machine) (l : Ledger A) (agrees : Agrees meant Q m l) (is_open : m.opened ≡ true) where
      admitted-known : (rs : List ℕ) → admitted m rs ≡ Ok tt → known rs ≡ Ok tt
      admitted-known rs e = rw is_open at e

      cons_pads : Q l → (d a b : ℕ) → cons_call (padded m ex) d a b ≡ pad_call (cons_call m d a b)
      cons_pads now d a b =
          let after = collect_agrees meant Q m l agrees now in
          unless_pads (admitted m (d ∷ a ∷ b ∷ [])) m (allocated (collected m) d a b) (allocated (collected (padded m ex)) d a b)
          (λ k. ap (λ (x : Machine). allocated x d a b) (collected_pads ex m (tidy_of m l agrees)) ∙ alloc_pads (collected m) (tidy_of (collected m) l after) (room_free meant Q (collected m) l after) d a b)

      fetch_pads : (side : Side) (d r : ℕ) → fetch_call side (padded m ex) d r ≡ pad_call (fetch_call side m d r)
      fetch_pads side d r =
          unless_pads (admitted m (d ∷ r ∷ [])) m (unless (needs_cell m r) m (done (fetched side m d r))) (unless (needs_cell m r) (padded m ex) (done (fetched side (padded m ex) d r)))
          (λ k. unless_pads (needs_cell m r) m (done (fetched side m d r)) (done (fetched side (padded m ex) d r))
          (λ n. ap done (fetched_pads side m d r (tidy_of m l agrees) (need_by m l agrees r (l.registers r) (register_shape meant Q m l agrees r (known_two d r (admitted-known (d ∷ r ∷ []) k)).1) n))))

      replace_pads : (side : Side) (r v : ℕ) → replace_call side (padded m ex) r v ≡ pad_call (replace_call side m r v)
      replace_pads side r v =
          unless_pads (admitted m (r ∷ v ∷ [])) m (unless (needs_cell m r) m (done (replaced side m r v))) (unless (needs_cell m r) (padded m ex) (done (replaced side (padded m ex) r v)))
          (λ k. unless_pads (needs_cell m r) m (done (replaced side m r v)) (done (replaced side (padded m ex) r v))
          (λ n. ap done (replaced_pads side m r v (need_by m l agrees r (l.registers r) (register_shape meant Q m l agrees r (known_two r v (admitted-known (r ∷ v ∷ []) k)).0) n))))

    -- feed
    abbrev pad_fed : Fed A → Fed A
    pad_fed f = record { after = padded f.after ex; buffer = f.buffer; answer = f.answer }

    on_atom_pads : (o : Option A) (stop stop' : Fed A) (go go' : A → Fed A) → stop' ≡ pad_fed stop → ((a : A) → go' a ≡ pad_fed (go a)) → on_atom o stop' go' ≡ pad_fed (on_atom o stop go)
    on_atom_pads None stop stop' go go' s g = s
    on_atom_pads (Some a) stop stop' go go' s g = g a

    module _ (l : Ledger A) (r : ℕ) (small : r < 16) where
      -- a cell: its head is moved, and then its tail
      walk_cell : (left n : ℕ) (m : Machine) (e : Entry A) (buffer : List A) (agrees : Agrees meant Q m (ledger.with_register l r e)) (p : ℕ) (u : Used m.heap.marks p) (w : register m r ≡ refer (heap.here m.heap + p))
          → ((m₁ : Machine) (e₁ : Entry A) (n₁ : ℕ) (buffer₁ : List A) → Agrees meant Q m₁ (ledger.with_register l r e₁) → walk meant r left n₁ (padded m₁ ex) buffer₁ ≡ pad_fed (walk meant r left n₁ m₁ buffer₁))
          → on_atom (meant (head_of (padded m ex) r)) (fed (head_moved (padded m ex) r) buffer (Err (NotAtom n))) (λ a. walk meant r left (n + 1) (fetched Tail (head_moved (padded m ex) r) r r) (set buffer n a))
          ≡ pad_fed (on_atom (meant (head_of m r)) (fed (head_moved m r) buffer (Err (NotAtom n))) (λ a. walk meant r left (n + 1) (fetched Tail (head_moved m r) r r) (set buffer n a)))
      walk_cell left n m e buffer agrees p u w rest =
          let t = tidy_of m (ledger.with_register l r e) agrees in
          let inside = cell_inside m p t u r w in
          let moved : move_at (pad_heap m.heap ex) (2 * cell_of (register m r)) ≡ pad_step (move_at m.heap (2 * cell_of (register m r))) ex = move_at_pads m.heap t ex (2 * cell_of (register m r)) (omega (arith, inside)) in
          let same_head : head_of (padded m ex) r ≡ head_of m r = ap (λ (s : Step ℕ). s.value) moved in
          let same-moved : head_moved (padded m ex) r ≡ padded (head_moved m r) ex = ap (λ (s : Step ℕ). with_heap m s.after) moved in
          let long : length (head_moved m r).heap.words ≡ length m.heap.words = (mended meant Q l r small m e agrees p u w).frame.long in
          let tail-moved : fetched Tail (head_moved (padded m ex) r) r r ≡ padded (fetched Tail (head_moved m r) r r) ex =
          ap (λ (x : Machine). fetched Tail x r r) same-moved ∙ fetched_pads Tail (head_moved m r) r r (tidy_of (head_moved m r) (ledger.with_register l r e) (head_agrees meant Q l r small m e agrees p u w)) (omega (arith, inside, long)) in
          ap (λ (x : ℕ). on_atom (meant x) (fed (head_moved (padded m ex) r) buffer (Err (NotAtom n))) (λ a. walk meant r left (n + 1) (fetched Tail (head_moved (padded m ex) r) r r) (set buffer n a))) same_head
          ∙ on_atom_pads (meant (head_of m r)) (fed (head_moved m r) buffer (Err (NotAtom n))) _ (λ a. walk meant r left (n + 1) (fetched Tail (head_moved m r) r r) (set buffer n a)) _
          (ap (λ (x : Machine). fed x buffer (Err (NotAtom n))) same-moved)
          (λ a. ap (λ (x : Machine). walk meant r left (n + 1) x (set buffer n a)) tail-moved ∙ rest (fetched Tail (head_moved m r) r r) (l.row.tails (agrees.own p)) (n + 1) (set buffer n a) (tail_agrees meant Q l r small m e agrees p u w))

      walk_step : (left n : ℕ) (m : Machine) (e : Entry A) (buffer : List A) (agrees : Agrees meant Q m (ledger.with_register l r e)) → Shape meant agrees.own m.heap (register m r) e
          → ((m₁ : Machine) (e₁ : Entry A) (n₁ : ℕ) (buffer₁ : List A) → Agrees meant Q m₁ (ledger.with_register l r e₁) → walk meant r left n₁ (padded m₁ ex) buffer₁ ≡ pad_fed (walk meant r left n₁ m₁ buffer₁))
          → cond (eqb (register m r) 0) (fed (padded m ex) buffer (Ok (n, true)))
          (cond (is_reference (register m r))
          (on_atom (meant (head_of (padded m ex) r)) (fed (head_moved (padded m ex) r) buffer (Err (NotAtom n))) (λ a. walk meant r left (n + 1) (fetched Tail (head_moved (padded m ex) r) r r) (set buffer n a)))
          (fed (padded m ex) buffer (Err (NotCell n))))
          ≡ pad_fed
          (cond (eqb (register m r) 0) (fed m buffer (Ok (n, true)))
          (cond (is_reference (register m r))
          (on_atom (meant (head_of m r)) (fed (head_moved m r) buffer (Err (NotAtom n))) (λ a. walk meant r left (n + 1) (fetched Tail (head_moved m r) r r) (set buffer n a)))
          (fed m buffer (Err (NotCell n)))))
      walk_step left n m e buffer agrees (is_nil w i) rest = rw w
      walk_step left n m e buffer agrees (is_atom a i t lo hi) rest =
          let not-nil : eqb (register m r) 0 ≡ false = grind (arith, nat_tests) in
          let no_cell : leb 2147483648 (register m r) ≡ false = grind (arith, nat_tests) in
          rw (not-nil, no_cell)
      walk_step left n m e buffer agrees (is_cell p u w i) rest =
          let not-nil : eqb (register m r) 0 ≡ false = grind (arith, nat_tests) in
          let a-cell : leb 2147483648 (register m r) ≡ true = grind (arith, nat_tests) in
          rw (not-nil, a-cell) (walk_cell left n m e buffer agrees p u w rest)

      walk_pads : (left n : ℕ) (m : Machine) (e : Entry A) (buffer : List A) → Agrees meant Q m (ledger.with_register l r e) → walk meant r left n (padded m ex) buffer ≡ pad_fed (walk meant r left n m buffer)
      unfolding walk
      walk_pads zero n m e buffer agrees = refl
      walk_pads (suc left) n m e buffer agrees = walk_step left n m e buffer agrees (shape_of meant Q l r small m e agrees) (λ m₁ e₁ n₁ buffer₁ a. walk_pads left n₁ m₁ e₁ buffer₁ a)

    feed_unless_lem : (k : Result (Unit {0}) MemoryFault) (m : Machine) (buffer : List A) (go go' : Fed A) → (k ≡ Ok tt → go' ≡ pad_fed go) → feed_unless k (padded m ex) buffer go' ≡ pad_fed (feed_unless k m buffer go)
    feed_unless_lem (Err f) m buffer go go' on = refl
    feed_unless_lem (Ok u) m buffer go go' on = on refl

    feed_pads : (m : Machine) (l : Ledger A) → Agrees meant Q m l → m.opened ≡ true → (r p : ℕ) (buffer : List A) → feed_call meant (padded m ex) r p buffer ≡ pad_fed (feed_call meant m r p buffer)
    feed_pads m l agrees is_open r p buffer =
        feed_unless_lem (admitted m (r ∷ [])) m buffer _ _
        (λ k. feed_unless_lem (may_hold m p) m buffer _ _
        (λ q.
        let sr = known_one r (admitted-known m l agrees is_open (r ∷ []) k) in
        ap (handed_back r p (register m r))
        (walk_pads (ledger.with_hold l p (Some (l.registers r))) r sr (length buffer) 0 (with_hold m p (Some (register m r))) (l.registers r) buffer (held_start meant Q m l agrees r p sr q))))

    abbrev pad_back : BackCall → BackCall
    pad_back c = record { after = padded c.after ex; answer = c.answer }

    give_pads : (w : Option ℕ) (m : Machine) (d : ℕ) (pass : Pass) → given_back w (padded m ex) d pass ≡ pad_back (given_back w m d pass)
    give_pads None m d pass = refl
    give_pads (Some w) m d pass = refl

    back_by : (k : Result (Unit {0}) MemoryFault) (m : Machine) (d : ℕ) (pass : Pass) → back_unless k (padded m ex) d pass ≡ pad_back (back_unless k m d pass)
    back_by (Err f) m d pass = refl
    back_by (Ok u) m d pass = give_pads (held_for m pass) m d pass

    set_by : (m : Machine) (d : ℕ) (k : Result ℕ KindFault) → put_code (padded m ex) d k ≡ pad_call (put_code m d k)
    set_by m d (Ok c) = refl
    set_by m d (Err f) = refl

  -- look and same read no cell
  look_pads : {A : Type 0} (meant : ℕ → Option A) (m : Machine) (r : ℕ) → ◌≡◌ {A = Turn Machine A} (record { after = padded m ex; reply = showed (look_call meant (padded m ex) r).answer }) (record { after = padded m ex; reply = showed (look_call meant m r).answer })
  look_pads meant m r = ap (λ (x : Result (Sight _) MemoryFault). record { after = padded m ex; reply = showed x }) (look_by (admitted m (r ∷ [])) m (sight_of meant (register m r)))

  same_pads : {A : Type 0} (m : Machine) (a b : ℕ) → ◌≡◌ {A = Turn Machine A} (record { after = padded m ex; reply = judged (same_call (padded m ex) a b).answer }) (record { after = padded m ex; reply = judged (same_call m a b).answer })
  same_pads m a b = ap (λ (x : Result Bool MemoryFault). record { after = padded m ex; reply = judged x }) (look_by (admitted m (a ∷ b ∷ [])) m (eqb (register m a) (register m b)))

  abbrev holding : Machine → ℕ → ℕ → Call Pass
  holding m r p = unless (may_hold m p) m (record { after = with_hold m p (Some (register m r)); answer = Ok (record { number = m.terms.number; place = p }) })

  abbrev pad_turn : {A : Type 0} → Turn Machine A → Turn Machine A
  pad_turn t = record { after = padded t.after ex; reply = t.reply }

  module _ {A : Type 0} (coded : A → Result ℕ KindFault) (meant : ℕ → Option A) (lawful : Lawful coded meant) where
    as_turn : {R : Type 0} (f : Result R MemoryFault → Reply A) (call call' : Call R) → call' ≡ pad_call call → ◌≡◌ {A = Turn Machine A} (record { after = call'.after; reply = f call'.answer }) (pad_turn (record { after = call.after; reply = f call.answer }))
    as_turn f call call' e = ap (λ c. record { after = c.after; reply = f c.answer }) e

    turn_pads : (m : Machine) (l : Ledger A) (o : Order A) → Beside meant (Anything coded meant lawful) m l → turn coded meant (padded m ex) o ≡ pad_turn (turn coded meant m o)
    turn_pads m l (cons d a b) s = as_turn did _ _ (cons_pads meant (Anything coded meant lawful) m l s.agrees s.opened tt d a b)
    turn_pads m l (car d r) s = as_turn did _ _ (fetch_pads meant (Anything coded meant lawful) m l s.agrees s.opened Head d r)
    turn_pads m l (cdr d r) s = as_turn did _ _ (fetch_pads meant (Anything coded meant lawful) m l s.agrees s.opened Tail d r)
    turn_pads m l (rplaca r v) s = as_turn did _ _ (replace_pads meant (Anything coded meant lawful) m l s.agrees s.opened Head r v)
    turn_pads m l (rplacd r v) s = as_turn did _ _ (replace_pads meant (Anything coded meant lawful) m l s.agrees s.opened Tail r v)
    turn_pads m l (put d a) s = as_turn did _ _ (unless_pads (admitted m (d ∷ [])) m (put_code m d (coded a)) (put_code (padded m ex) d (coded a)) (λ k. set_by meant (Anything coded meant lawful) m d (coded a)))
    turn_pads m l (load d r) s = as_turn did _ _ (unless_pads (admitted m (d ∷ r ∷ [])) m (done (with_register m d (register m r))) (done (with_register (padded m ex) d (register m r))) (λ k. refl))
    turn_pads m l (clear d) s = as_turn did _ _ (unless_pads (admitted m (d ∷ [])) m (done (with_register m d 0)) (done (with_register (padded m ex) d 0)) (λ k. refl))
    turn_pads m l (look r) s = look_pads meant m r
    turn_pads m l (same a b) s = same_pads m a b
    turn_pads m l (hold r p) s = as_turn handed _ _ (unless_pads (admitted m (r ∷ [])) m (holding m r p) (holding (padded m ex) r p) (λ k. unless_pads (may_hold m p) m _ _ (λ q. refl)))
    turn_pads m l (back d t) s = ap (λ (c : BackCall). record { after = c.after; reply = took c.answer }) (back_by meant (Anything coded meant lawful) (admitted m (d ∷ [])) m d t)
    turn_pads m l (feed r p buffer) s = ap (λ (f : Fed A). record { after = f.after; reply = wrote f.buffer f.answer }) (feed_pads meant (Anything coded meant lawful) m l s.agrees s.opened r p buffer)

    pub run_pads : (os : List (Order A)) (m : Machine) (l : Ledger A) → Beside meant (Anything coded meant lawful) m l → (replies coded meant (padded m ex) os ≡ replies coded meant m os) × (machine_after coded meant (padded m ex) os ≡ padded (machine_after coded meant m os) ex)
    unfolding replies machine_after
    run_pads [] m l s = (refl, refl)
    run_pads (o ∷ os) m l s =
        let e = turn_pads m l o s in
        let g = pages coded meant lawful (Anything coded meant lawful) m l o s (any_cons coded meant lawful l o) in
        let rest = run_pads os (turn coded meant m o).after (page coded meant (told o (turn coded meant m o).reply) l o).after g.beside in (
          ap (λ (t : Turn Machine A). t.reply ∷ replies coded meant t.after os) e ∙ ap (λ rs. (turn coded meant m o).reply ∷ rs) rest.0,
          ap (λ (t : Turn Machine A). machine_after coded meant t.after os) e ∙ rest.1,
        )
