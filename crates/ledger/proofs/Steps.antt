-- What the calls do to a memory and a ledger that agree.
use Rattle.std.proofs.Common.{◌≡◌, ℕ, ◌+◌, ◌-◌, ◌<◌, ◌≤◌, true, ltb, length, get_or, set, Some, None, Ok, Option, sym, refl, ap, ◌∙◌, subst, inl, inr, arith}
use Rattle.ledger.proofs.Cells.{Wrote, OneLess, Pushed, Rewrote, grant_keeps, grant_grown}
use Rattle.ledger.proofs.Copy.{put_same, put_other}
use Rattle.ledger.proofs.Flip.{Agrees}
use Rattle.ledger.proofs.Mend.{Mended, mend, put_keeps}
use Rattle.ledger.proofs.Room.{copied_few, rank_counts}
use Rattle.ledger.proofs.Roots.{Went, WordStands, HoldStands, word_on, hold_on}
use Rattle.ledger.proofs.Seen.{Seen, none, code, here, there, stray, Used, Clean, Never, Stands, stands_on}
use Rattle.ledger.proofs.Sides.{other, part, of_pair}
use Rattle.ledger.proofs.Sound.{view_of, seen, Past, Live, Sound, halves, live_inside, Quiet}
use Rattle.ledger.proofs.Words.{see_here, from_here, from_none, from_code}
use Rattle.ledger.proofs.Writes.{put_cell_head, put_cell_tail, put_cell_wrote}
use Rattle.ledger.specs.Ledger as ledger
use Rattle.ledger.specs.Ledger.{Row, Ledger, Entry, nil, atom, cell, put, entry, pushed, rewritten, booked, with_row}
use Rattle.machine.specs.Calls.{fetched, replaced}
use Rattle.machine.specs.Heap as heap
use Rattle.machine.specs.Heap.{Heap, Marks, used, scan_over, lower_top, move_at, with_words}
use Rattle.machine.specs.Machine.{Machine, register, with_register, with_heap, grant, room}
use Rattle.machine.specs.Words.{refer, cell_of, place_of, put_cell}
use Rattle.machine.specs.declared.side.Side.{Side}
use Rattle.machine.specs.declared.side.Side.TheVariants.{Head, Tail}
use Rattle.std.proofs.lemmas.List.{get_or-set_same, get_or-set_other, length-set}
use Rattle.std.proofs.lemmas.Bool.{cases_eq, cases_lt, lt-ltb}
use Rattle.std.proofs.lemmas.Bool.Decides.{nat_tests}

-- cells are left to scan
abbrev pub Busy : Machine → Type 0
Busy m = m.heap.marks.scanned < m.heap.marks.copied

module _ {X : Type 0} (meant : ℕ → Option X) (Q : Ledger X → Type 0) where
  -- a clean word put into a register, and its entry into the ledger's
  pub register_agrees : (m : Machine) (l : Ledger X) (d w : ℕ) (e : Entry X) (agrees : Agrees meant Q m l) → d < 16 → WordStands meant agrees.o l.row Never agrees.own m.heap w e → Agrees meant Q (with_register m d w) (ledger.with_register l d e)
  register_agrees m l d w e agrees small stands =
      let inside : d < length m.roots.registers = omega (arith, agrees.sixteen) in
      record {
        o = agrees.o;
        own = agrees.own;
        sound = agrees.sound;
        roomy = agrees.roomy;
        registers = λ r s. elim (cases_eq r d) [
          | inl q ↦ rw (q, get_or-set_same m.roots.registers d w 0 inside, put_same l.registers d e) stands
          | inr ne ↦ rw (get_or-set_other m.roots.registers d r w 0 ne, put_other l.registers d e r ne) (agrees.registers r s)
        ];
        holds = agrees.holds;
        sixteen = length-set m.roots.registers d w ∙ agrees.sixteen;
        eight = agrees.eight;
        past = agrees.past;
      }

  -- the heap after a word of a used cell was mended
  abbrev mended_went : (m : Machine) (l : Ledger X) (agrees : Agrees meant Q m l) (p : ℕ) (side : Side) (h' : Heap) (w' : ℕ) (a : Mended meant agrees.o agrees.own m.heap l.row p side (Busy m) h' w') → Went meant agrees.o agrees.own m.heap l.row h'
  mended_went m l agrees p side h' w' a = record { own' = a.own'; sound = a.sound; grown = a.grown; frame = a.frame }

  abbrev pub mended_agrees : (m : Machine) (l : Ledger X) (agrees : Agrees meant Q m l) (p : ℕ) (side : Side) (h' : Heap) (w' : ℕ) (a : Mended meant agrees.o agrees.own m.heap l.row p side (Busy m) h' w') → Agrees meant Q (with_heap m h') l
  mended_agrees m l agrees p side h' w' a =
      let went = mended_went m l agrees p side h' w' a in
      record {
        o = agrees.o;
        own = a.own';
        sound = a.sound;
        roomy = λ b. elim a.either [
          | inl same ↦ omega (arith, agrees.roomy (omega (arith, a.frame.scanned)), a.frame.prior, a.frame.top)
          | inr busy ↦ omega (arith, agrees.roomy busy, a.frame.prior, a.frame.top)
        ];
        registers = λ r s. word_on meant agrees.o l.row Never agrees.own m.heap h' went (get_or m.roots.registers r 0) (l.registers r) (agrees.registers r s);
        holds = λ p s. hold_on meant agrees.o l.row Never agrees.own m.heap h' went (get_or m.roots.holds p None) (l.holds p) (agrees.holds p s);
        sixteen = agrees.sixteen;
        eight = agrees.eight;
        past = agrees.past;
      }

  pub mended_quiet : (m : Machine) (l : Ledger X) (agrees : Agrees meant Q m l) (p : ℕ) (side : Side) (h' : Heap) (w' : ℕ) → Mended meant agrees.o agrees.own m.heap l.row p side (Busy m) h' w' → Quiet m.heap.marks h'.marks
  mended_quiet m l agrees p side h' w' a =
      record {
        scanned = a.frame.scanned;
        top = a.frame.top;
        prior = a.frame.prior;
        size = a.frame.size;
        either = elim a.either [ inl same ↦ inl same | inr busy ↦ inr (busy, a.frame.copied) ];
      }

  -- an old word in a used cell: the scan is unfinished
  pub old_busy : (m : Machine) (l : Ledger X) (agrees : Agrees meant Q m l) (p : ℕ) (side : Side) (j : ℕ) → Used m.heap.marks p → part side (view_of m.heap) p ≡ there j → (m.heap.marks.prior ≤ m.heap.marks.top) × Busy m
  old_busy m l agrees p side j u q =
      let dirty : Clean m.heap.marks p → ⊥ =
      λ c. let s : Stands meant (Used m.heap.marks) Never agrees.own agrees.o.owner (part side (view_of m.heap) p) (entry side l.row (agrees.own p)) = of_pair side (view_of m.heap) p l.row (agrees.own p) (agrees.sound.inv.clean p u c) in
      let t : Never j × (entry side l.row (agrees.own p) ≡ cell (agrees.o.owner j)) = rw q at s in
      t.0 in
      elim (cases_lt p m.heap.marks.scanned) [
        | inl below ↦ absurd (dirty (λ h. absurd (omega arith)))
        | inr above ↦ elim (cases_lt p m.heap.marks.top) [
          | inl low ↦ let busy : Busy m = omega (arith, u.1 low) in (agrees.roomy busy, busy)
          | inr high ↦ absurd (dirty (λ h. high))
        ]
      ]

-- What a clean word is, and the entry with it.
pub data Shape {X : Type 0} (meant : ℕ → Option X) (own : ℕ → ℕ) (h : Heap) (w : ℕ) (e : Entry X) : Type 0 where
  is_nil : w ≡ 0 → e ≡ nil → Shape meant own h w e
  is_atom : (a : X) → e ≡ atom a → meant w ≡ Some a → 0 < w → w < 2147483648 → Shape meant own h w e
  is_cell : (p : ℕ) → Used h.marks p → w ≡ refer (heap.here h + p) → e ≡ cell (own p) → Shape meant own h w e

module _ {X : Type 0} (meant : ℕ → Option X) (o : Past X) (own : ℕ → ℕ) (h : Heap) (g : Row X) (sound : Sound meant o own h g) where
  shape_by : (s : Seen) (w : ℕ) (e : Entry X) → seen h w ≡ s → Stands meant (Used h.marks) Never own o.owner s e → Shape meant own h w e
  shape_by none w e q st = is_nil (from_none (length h.words) _ _ _ (halves h sound.big) w q) st
  shape_by (code c) w e q st =
      let f = from_code (length h.words) _ _ _ (halves h sound.big) w c q in
      is_atom st.0 st.1.0 (ap meant f.0 ∙ st.1.1) (omega (arith, f.0, f.1.0)) (omega (arith, f.0, f.1.1))
  shape_by (here p) w e q st = is_cell p st.0 (from_here (length h.words) _ _ _ (halves h sound.big) w p q).0 st.1
  shape_by (there j) w e q st = absurd st.0
  shape_by (stray n) w e q st = absurd st

  pub shape : (w : ℕ) (e : Entry X) → WordStands meant o g Never own h w e → Shape meant own h w e
  shape w e st = shape_by (seen h w) w e refl st

module _ {X : Type 0} (meant : ℕ → Option X) (Q : Ledger X → Type 0) (m : Machine) (l : Ledger X) (agrees : Agrees meant Q m l) where
  pub register_shape : (r : ℕ) → r < 16 → Shape meant agrees.own m.heap (register m r) (l.registers r)
  register_shape r s = shape meant agrees.o agrees.own m.heap l.row agrees.sound (register m r) (l.registers r) (agrees.registers r s)

  -- car and cdr
  pub fetch_agrees : (side : Side) (d r p : ℕ) → d < 16 → Used m.heap.marks p → register m r ≡ refer (heap.here m.heap + p) → Agrees meant Q (fetched side m d r) (ledger.with_register l d (entry side l.row (agrees.own p)))
  fetch_agrees side d r p small u q =
      let at : cell_of (register m r) ≡ heap.here m.heap + p = omega arith in
      let a = mend meant agrees.o agrees.own m.heap l.row p side (Busy m) u agrees.sound (λ j s. old_busy meant Q m l agrees p side j u s) in
      let h' : Heap = (move_at m.heap (place_of side (heap.here m.heap + p))).after in
      let w' : ℕ = (move_at m.heap (place_of side (heap.here m.heap + p))).value in
      subst (λ (c : ℕ). Agrees meant Q (with_register (with_heap m (move_at m.heap (place_of side c)).after) d (move_at m.heap (place_of side c)).value) (ledger.with_register l d (entry side l.row (agrees.own p)))) (sym at)
      (register_agrees meant Q (with_heap m h') l d w' (entry side l.row (agrees.own p)) (mended_agrees meant Q m l agrees p side h' w' a) small a.stands)

  pub fetch_quiet : (side : Side) (d r p : ℕ) → Used m.heap.marks p → register m r ≡ refer (heap.here m.heap + p) → Quiet m.heap.marks (fetched side m d r).heap.marks
  fetch_quiet side d r p u q =
      let at : cell_of (register m r) ≡ heap.here m.heap + p = omega arith in
      subst (λ (c : ℕ). Quiet m.heap.marks (move_at m.heap (place_of side c)).after.marks) (sym at)
      (mended_quiet meant Q m l agrees p side _ _ (mend meant agrees.o agrees.own m.heap l.row p side (Busy m) u agrees.sound (λ j s. old_busy meant Q m l agrees p side j u s)))

  -- the ledger's row with one entry rewritten
  row_rewrote : (side : Side) (c : ℕ) (e : Entry X) → Rewrote l.row (rewritten side l.row c e) c
  row_rewrote Head c e = record { count = refl; heads = λ k n. put_other l.row.heads c e k n; tails = λ k n. refl }
  row_rewrote Tail c e = record { count = refl; heads = λ k n. refl; tails = λ k n. put_other l.row.tails c e k n }

  row_other : (side : Side) (c : ℕ) (e : Entry X) → entry (other side) (rewritten side l.row c e) c ≡ entry (other side) l.row c
  row_other Head c e = refl
  row_other Tail c e = refl

  row_same : (side : Side) (c : ℕ) (e : Entry X) → entry side (rewritten side l.row c e) c ≡ e
  row_same Head c e = put_same l.row.heads c e
  row_same Tail c e = put_same l.row.tails c e

  -- rplaca and rplacd
  pub replace_agrees : (side : Side) (r v p : ℕ) → v < 16 → Used m.heap.marks p → register m r ≡ refer (heap.here m.heap + p) → Agrees meant Q (replaced side m r v) (with_row l (rewritten side l.row (agrees.own p) (l.registers v)))
  replace_agrees side r v p small u q =
      let at : cell_of (register m r) ≡ heap.here m.heap + p = omega arith in
      let c : ℕ = agrees.own p in
      let stands : Stands meant (Used m.heap.marks) Never agrees.own agrees.o.owner (seen m.heap (register m v)) (entry side (rewritten side l.row c (l.registers v)) c) = rw (row_same side c (l.registers v)) (agrees.registers v small) in
      subst (λ (k : ℕ). Agrees meant Q (with_heap m (with_words m.heap (set m.heap.words (place_of side k) (register m v)))) (with_row l (rewritten side l.row c (l.registers v)))) (sym at)
      (record {
        o = agrees.o;
        own = agrees.own;
        sound = put_keeps meant agrees.o agrees.own m.heap l.row (rewritten side l.row c (l.registers v)) p side (register m v) agrees.sound u (row_rewrote side c (l.registers v)) (row_other side c (l.registers v)) stands;
        roomy = agrees.roomy;
        registers = agrees.registers;
        holds = agrees.holds;
        sixteen = agrees.sixteen;
        eight = agrees.eight;
        past = agrees.past;
      })

-- the heap with one cell more, from the top
abbrev pub taller : Heap → ℕ × ℕ → Heap
taller h pair =
    record {
      words = put_cell h.words (heap.here h + (h.marks.top - 1)) pair;
      upper = h.upper;
      marks = record { scanned = h.marks.scanned; copied = h.marks.copied; top = h.marks.top - 1; prior = h.marks.prior; size = h.marks.size };
    }

grant_taller : (m : Machine) (d a b : ℕ) → ltb m.heap.marks.copied m.heap.marks.top ≡ true → grant m d a b ≡ with_register (with_heap m (taller m.heap (register m a, register m b))) d (refer (heap.here m.heap + (m.heap.marks.top - 1)))
grant_taller m d a b e = rw e

module _ {X : Type 0} (meant : ℕ → Option X) (Q : Ledger X → Type 0) (m : Machine) (l : Ledger X) (agrees : Agrees meant Q m l) (a b : ℕ) (sa : a < 16) (sb : b < 16)
    (free : m.heap.marks.copied < m.heap.marks.top) (busy : m.heap.marks.scanned < m.heap.marks.copied → m.heap.marks.prior < m.heap.marks.top) where
  small : m.heap.marks.top - 1 < m.heap.marks.size
  small = omega (arith, agrees.sound.inv.order.t_h)

  less : OneLess m.heap.marks (taller m.heap (register m a, register m b)).marks
  less = record { scanned = refl; copied = refl; top = omega arith; size = refl }

  row : Pushed l.row (pushed l.row (l.registers a) (l.registers b)) (l.registers a) (l.registers b)
  row =
      record {
        count = refl;
        new_head = put_same l.row.heads l.row.count (l.registers a);
        new_tail = put_same l.row.tails l.row.count (l.registers b);
        heads = λ k s. put_other l.row.heads l.row.count (l.registers a) k (λ e. omega arith);
        tails = λ k s. put_other l.row.tails l.row.count (l.registers b) k (λ e. omega arith);
      }

  new_head : Stands meant (Used m.heap.marks) Never agrees.own agrees.o.owner ((view_of (taller m.heap (register m a, register m b))).head (m.heap.marks.top - 1)) (l.registers a)
  new_head = rw (put_cell_head m.heap.words m.heap.marks.size (heap.here m.heap) (heap.there m.heap) (halves m.heap agrees.sound.big) m.heap.marks refl (m.heap.marks.top - 1) (register m a, register m b) small) (agrees.registers a sa)

  new_tail : Stands meant (Used m.heap.marks) Never agrees.own agrees.o.owner ((view_of (taller m.heap (register m a, register m b))).tail (m.heap.marks.top - 1)) (l.registers b)
  new_tail = rw (put_cell_tail m.heap.words m.heap.marks.size (heap.here m.heap) (heap.there m.heap) (halves m.heap agrees.sound.big) m.heap.marks refl (m.heap.marks.top - 1) (register m a, register m b) small) (agrees.registers b sb)

  does : Wrote (view_of m.heap) (view_of (taller m.heap (register m a, register m b))) m.heap.marks (m.heap.marks.top - 1)
  does = put_cell_wrote m.heap.words m.heap.marks.size (heap.here m.heap) (heap.there m.heap) (halves m.heap agrees.sound.big) m.heap.marks refl (m.heap.marks.top - 1) (register m a, register m b) small

  wider : (i : ℕ) → Used m.heap.marks i → Used (taller m.heap (register m a, register m b)).marks i × (put agrees.own (m.heap.marks.top - 1) l.row.count i ≡ agrees.own i)
  wider = grant_grown meant (Live agrees.o) agrees.own agrees.o.owner (view_of m.heap) (view_of (taller m.heap (register m a, register m b))) m.heap.marks (taller m.heap (register m a, register m b)).marks l.row (pushed l.row (l.registers a) (l.registers b)) (l.registers a) (l.registers b)
      agrees.sound.inv (live_inside meant agrees.o agrees.own m.heap l.row agrees.sound) free less does row new_head new_tail

  word_wider : (w : ℕ) (e : Entry X) → WordStands meant agrees.o l.row Never agrees.own m.heap w e → WordStands meant agrees.o (pushed l.row (l.registers a) (l.registers b)) Never (put agrees.own (m.heap.marks.top - 1) l.row.count) (taller m.heap (register m a, register m b)) w e
  word_wider w e s = stands_on meant (seen m.heap w) e wider (λ j n. (n, refl)) s

  hold_wider : (w : Option ℕ) (e : Option (Entry X)) → HoldStands meant agrees.o l.row Never agrees.own m.heap w e → HoldStands meant agrees.o (pushed l.row (l.registers a) (l.registers b)) Never (put agrees.own (m.heap.marks.top - 1) l.row.count) (taller m.heap (register m a, register m b)) w e
  hold_wider None None s = s
  hold_wider None (Some e) s = s
  hold_wider (Some w) None s = s
  hold_wider (Some w) (Some e) s = word_wider w e s

  abbrev taller_agrees : Agrees meant Q (with_heap m (taller m.heap (register m a, register m b))) (with_row l (pushed l.row (l.registers a) (l.registers b)))
  taller_agrees =
      record {
        o = agrees.o;
        own = put agrees.own (m.heap.marks.top - 1) l.row.count;
        sound = record {
          big = simp length-set agrees.sound.big;
          inv = grant_keeps meant (Live agrees.o) agrees.own agrees.o.owner (view_of m.heap) (view_of (taller m.heap (register m a, register m b))) m.heap.marks (taller m.heap (register m a, register m b)).marks l.row (pushed l.row (l.registers a) (l.registers b)) (l.registers a) (l.registers b)
              agrees.sound.inv (live_inside meant agrees.o agrees.own m.heap l.row agrees.sound) free less does row new_head new_tail;
          prior = agrees.sound.prior;
          past_size = agrees.sound.past_size;
          past_order = agrees.sound.past_order;
        };
        roomy = λ s. omega (arith, busy s);
        registers = λ r s. word_wider (get_or m.roots.registers r 0) (l.registers r) (agrees.registers r s);
        holds = λ p s. hold_wider (get_or m.roots.holds p None) (l.holds p) (agrees.holds p s);
        sixteen = agrees.sixteen;
        eight = agrees.eight;
        past = agrees.past;
      }

  -- the reference to the new cell stands for the ledger's new cell
  new_stands : WordStands meant agrees.o (pushed l.row (l.registers a) (l.registers b)) Never (put agrees.own (m.heap.marks.top - 1) l.row.count) (taller m.heap (register m a, register m b)) (refer (heap.here m.heap + (m.heap.marks.top - 1))) (cell l.row.count)
  new_stands =
      rw (see_here (length m.heap.words) m.heap.marks.size (heap.here m.heap) (heap.there m.heap) (halves m.heap agrees.sound.big) (m.heap.marks.top - 1) small)
      ((small, λ s. absurd (omega arith)), ap cell (sym (put_same agrees.own (m.heap.marks.top - 1) l.row.count)))

  pub grant_agrees : (d : ℕ) → d < 16 → Agrees meant Q (grant m d a b) (booked l d a b)
  grant_agrees d sd =
      subst (λ (x : Machine). Agrees meant Q x (booked l d a b)) (sym (grant_taller m d a b (lt-ltb _ _ free)))
      (register_agrees meant Q (with_heap m (taller m.heap (register m a, register m b))) (with_row l (pushed l.row (l.registers a) (l.registers b))) d (refer (heap.here m.heap + (m.heap.marks.top - 1))) (cell l.row.count) taller_agrees sd new_stands)

-- A cons is granted only where a cell is free.
module _ {X : Type 0} (meant : ℕ → Option X) (Q : Ledger X → Type 0) (m : Machine) (l : Ledger X) (agrees : Agrees meant Q m l) where
  pub copied_prior : m.heap.marks.copied ≤ m.heap.marks.prior
  copied_prior =
      let r = rank_counts agrees.o.marks agrees.sound.past_order.b_t agrees.sound.past_order.t_h in
      let few = copied_few meant (Live agrees.o) agrees.own agrees.o.owner (view_of m.heap) m.heap.marks l.row agrees.sound.inv (used agrees.o.marks) r.0 (λ k s. r.1.0 k s.0) (λ j k s t. r.1.1 j k s.0 t.0) in
      omega (arith, few, agrees.sound.prior)

  pub room_free : room m.heap.marks ≡ Ok tt → m.heap.marks.copied < m.heap.marks.top
  room_free e = grind (arith, nat_tests, copied_prior)

  pub room_busy : room m.heap.marks ≡ Ok tt → m.heap.marks.scanned < m.heap.marks.copied → m.heap.marks.prior < m.heap.marks.top
  room_busy e s = grind (arith, nat_tests)
