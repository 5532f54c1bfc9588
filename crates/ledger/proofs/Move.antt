-- Moving a word keeps the heap sound, and the moved word stands for the same entry.
use Rattle.std.proofs.Common.{◌≡◌, ℕ, ◌+◌, ◌*◌, ◌<◌, ◌≤◌, true, false, ltb, length, get_or, set, Option, sym, refl, ap, ◌∙◌, subst, inl, inr, arith}
use Rattle.ledger.proofs.Copy.{OneMore, put_same, copy_keeps, grown}
use Rattle.ledger.proofs.Room.{waiting_fewer, rank_counts}
use Rattle.ledger.proofs.Seen.{Seen, none, code, here, there, stray, Used, Never, Stands}
use Rattle.ledger.proofs.Sound.{view_of, seen, Past, Live, Sound, halves, live_inside, Frame, Moved}
use Rattle.ledger.proofs.Words.{see_here, from_there, old_refers, old_refers_not, refers, refers_not}
use Rattle.ledger.proofs.Writes.{copy_words_lem}
use Rattle.ledger.specs.Ledger.{Row, Entry, cell, put}
use Rattle.machine.specs.Heap as heap
use Rattle.machine.specs.Heap.{Heap, Step, Marks, move, used}
use Rattle.machine.specs.Words.{refer, cell_of, refers_into, put_cell, cell_at}
use Rattle.std.proofs.lemmas.List.{length-set}
use Rattle.std.proofs.lemmas.Bool.{lt-ltb}

-- the heap after the old cell j was copied
abbrev pub copied : Heap → ℕ → Heap
copied h j =
    record {
      words = set (put_cell h.words (heap.here h + h.marks.copied) (cell_at h.words (heap.there h + j))) (2 * (heap.there h + j)) (refer (heap.here h + h.marks.copied));
      upper = h.upper;
      marks = record { scanned = h.marks.scanned; copied = h.marks.copied + 1; top = h.marks.top; prior = h.marks.prior; size = h.marks.size };
    }

-- the three ways of a move, by the tests it makes
move_stays : (h : Heap) (w : ℕ) → refers_into (heap.there h) h.marks.size w ≡ false → move h w ≡ heap.still h w
unfolding move
move_stays h w e = rw e

move_follows : (h : Heap) (w j : ℕ) → refers_into (heap.there h) h.marks.size w ≡ true → cell_of w ≡ heap.there h + j → refers_into (heap.here h) h.marks.size (get_or h.words (2 * (heap.there h + j)) 0) ≡ true → move h w ≡ heap.still h (get_or h.words (2 * (heap.there h + j)) 0)
unfolding move
move_follows h w j e c f = rw (e, c, f)

move-copies : (h : Heap) (w j : ℕ) → refers_into (heap.there h) h.marks.size w ≡ true → cell_of w ≡ heap.there h + j → refers_into (heap.here h) h.marks.size (get_or h.words (2 * (heap.there h + j)) 0) ≡ false → ltb h.marks.copied h.marks.top ≡ true → move h w ≡ record { after = copied h j; value = refer (heap.here h + h.marks.copied) }
unfolding move
move-copies h w j e c f r = rw (e, c, f, r)

same_frame : (h : Heap) → Frame h h
same_frame h = record { upper = refl; size = refl; top = refl; prior = refl; scanned = refl; copied = omega arith; long = refl }

module _ {X : Type 0} (meant : ℕ → Option X) where
  -- a word that refers to no old cell
  pub stands_clean : (C O : ℕ → Type 0) (own old : ℕ → ℕ) (s : Seen) (e : Entry X) → ((j : ℕ) → s ≡ there j → ⊥) → Stands meant C O own old s e → Stands meant C Never own old s e
  stands_clean C O own old none e never h = h
  stands_clean C O own old (code n) e never h = h
  stands_clean C O own old (here i) e never h = h
  stands_clean C O own old (there j) e never h = absurd (never j refl)
  stands_clean C O own old (stray n) e never h = h

module _ {X : Type 0} (meant : ℕ → Option X) (o : Past X) (own : ℕ → ℕ) (h : Heap) (g : Row X) (e : Entry X) (Old : Type 0) (sound : Sound meant o own h g) where
  stay : (w : ℕ) → Stands meant (Used h.marks) Never own o.owner (seen h w) e → Moved meant o own h g e Old h w
  stay w s =
      record {
        own' = own;
        sound = sound;
        stands = s;
        grown = λ i u. (u, refl);
        heads = λ i u. refl;
        tails = λ i u. refl;
        frame = same_frame h;
        either = inl refl;
      }

  -- an old cell that was forwarded
  follows : (i j : ℕ) → Live o j → e ≡ cell (o.owner j) → (view_of h).old_head j ≡ here i → Moved meant o own h g e Old h (get_or h.words (2 * (heap.there h + j)) 0)
  follows i j live is q =
      let f = sound.inv.forwarded i j live q in
      let u : Used h.marks i = (omega (arith, f.0, sound.inv.order.b_t, sound.inv.order.t_h), λ _. f.0) in
      stay (get_or h.words (2 * (heap.there h + j)) 0) (rw q (u, is ∙ ap cell (sym f.1)))

  -- an old cell that waits has a free cell to go to
  room : (j : ℕ) → Live o j → ((i : ℕ) → (view_of h).old_head j ≡ here i → ⊥) → h.marks.prior ≤ h.marks.top → h.marks.copied < h.marks.top
  room j live waits before =
      let r = rank_counts o.marks sound.past_order.b_t sound.past_order.t_h in
      let less = waiting_fewer meant (Live o) own o.owner (view_of h) h.marks g sound.inv (used o.marks) r.0 j live waits (λ k l. r.1.0 k l.0) (λ k n l l'. r.1.1 k n l.0 l'.0) in
      omega (arith, less, sound.prior)

  copies : (j : ℕ) → Live o j → e ≡ cell (o.owner j) → ((i : ℕ) → (view_of h).old_head j ≡ here i → ⊥) → Old → h.marks.copied < h.marks.top → Moved meant o own h g e Old (copied h j) (refer (heap.here h + h.marks.copied))
  copies j live is waits aged free =
      let inside : (k : ℕ) → Live o k → k < h.marks.size = live_inside meant o own h g sound in
      let small : h.marks.copied < h.marks.size = omega (arith, sound.inv.order.t_h) in
      let does = copy_words_lem h.words h.marks.size (heap.here h) (heap.there h) (halves h sound.big) h.marks refl j (inside j live) small in
      let more : OneMore h.marks (copied h j).marks = record { scanned = refl; copied = refl; top = refl; size = refl } in
      let away : (i : ℕ) → Used h.marks i → i ≡ h.marks.copied → ⊥ = λ i u s. let k : i < h.marks.copied = u.1 (omega arith) in omega arith in
      record {
        own' = put own h.marks.copied (o.owner j);
        sound = record {
          big = simp length-set sound.big;
          inv = copy_keeps meant (Live o) own o.owner (view_of h) (view_of (copied h j)) h.marks (copied h j).marks g j sound.inv more does live inside waits free;
          prior = sound.prior;
          past_size = sound.past_size;
          past_order = sound.past_order;
        };
        stands = rw (see_here (length h.words) h.marks.size (heap.here h) (heap.there h) (halves h sound.big) h.marks.copied small)
            ((small, λ _. omega arith), is ∙ ap cell (sym (put_same own h.marks.copied (o.owner j))));
        grown = grown meant (Live o) own o.owner (view_of h) (view_of (copied h j)) h.marks (copied h j).marks g j sound.inv more does live inside waits free;
        heads = λ i u. does.heads i u.0 (away i u);
        tails = λ i u. does.tails i u.0 (away i u);
        frame = record { upper = refl; size = refl; top = refl; prior = refl; scanned = refl; copied = omega arith; long = simp length-set };
        either = inr aged;
      }

  along_of : (w : ℕ) (after : Heap) (value : ℕ) → move h w ≡ record { after = after; value = value } → Moved meant o own h g e Old after value → Moved meant o own h g e Old (move h w).after (move h w).value
  along_of w after value eq done = subst (λ (s : Step ℕ). Moved meant o own h g e Old s.after s.value) (sym eq) done

  module _ (w j : ℕ) (q : seen h w ≡ there j) (live : Live o j) (is : e ≡ cell (o.owner j)) (before : (h.marks.prior ≤ h.marks.top) × Old) where
    refers_old : refers_into (heap.there h) h.marks.size w ≡ true
    refers_old = old_refers (length h.words) h.marks.size (heap.here h) (heap.there h) (halves h sound.big) w j q

    cell_old : cell_of w ≡ heap.there h + j
    cell_old = omega (arith, (from_there (length h.words) h.marks.size (heap.here h) (heap.there h) (halves h sound.big) w j q).0)

    moves_waiting : ((i : ℕ) → (view_of h).old_head j ≡ here i → ⊥) → Moved meant o own h g e Old (move h w).after (move h w).value
    moves_waiting waits =
        let free = room j live waits before.0 in
        along_of w _ _ (move-copies h w j refers_old cell_old (refers_not (length h.words) h.marks.size (heap.here h) (heap.there h) (halves h sound.big) _ waits) (lt-ltb _ _ free))
        (copies j live is waits before.1 free)

    -- by what the old cell's head is
    moves_old : (s : Seen) → (view_of h).old_head j ≡ s → Moved meant o own h g e Old (move h w).after (move h w).value
    moves_old (here i) head =
        along_of w _ _ (move_follows h w j refers_old cell_old (refers (length h.words) h.marks.size (heap.here h) (heap.there h) (halves h sound.big) _ i head)) (follows i j live is head)
    moves_old none head = moves_waiting (λ i p. let z : ◌≡◌ {A = ℕ} 0 1 = cc in omega arith)
    moves_old (code n) head = moves_waiting (λ i p. let z : ◌≡◌ {A = ℕ} 0 1 = cc in omega arith)
    moves_old (there k) head = moves_waiting (λ i p. let z : ◌≡◌ {A = ℕ} 0 1 = cc in omega arith)
    moves_old (stray n) head = moves_waiting (λ i p. let z : ◌≡◌ {A = ℕ} 0 1 = cc in omega arith)

  moves_not : (w : ℕ) → ((j : ℕ) → seen h w ≡ there j → ⊥) → Stands meant (Used h.marks) (Live o) own o.owner (seen h w) e → Moved meant o own h g e Old (move h w).after (move h w).value
  moves_not w never s =
      along_of w _ _ (move_stays h w (old_refers_not (length h.words) h.marks.size (heap.here h) (heap.there h) (halves h sound.big) w never))
      (stay w (stands_clean meant (Used h.marks) (Live o) own o.owner (seen h w) e never s))

  moves_by : (w : ℕ) (s : Seen) → seen h w ≡ s → Stands meant (Used h.marks) (Live o) own o.owner (seen h w) e → ((j : ℕ) → seen h w ≡ there j → (h.marks.prior ≤ h.marks.top) × Old) → Moved meant o own h g e Old (move h w).after (move h w).value
  moves_by w (there j) q s before = let t : Live o j × (e ≡ cell (o.owner j)) = rw q at s in moves_old w j q t.0 t.1 (before j q) ((view_of h).old_head j) refl
  moves_by w none q s before = moves_not w (λ j p. let z : ◌≡◌ {A = ℕ} 0 1 = cc in omega arith) s
  moves_by w (code n) q s before = moves_not w (λ j p. let z : ◌≡◌ {A = ℕ} 0 1 = cc in omega arith) s
  moves_by w (here i) q s before = moves_not w (λ j p. let z : ◌≡◌ {A = ℕ} 0 1 = cc in omega arith) s
  moves_by w (stray n) q s before = moves_not w (λ j p. let z : ◌≡◌ {A = ℕ} 0 1 = cc in omega arith) s

  -- A word that may still refer to an old cell is moved, given room for the live cells wherever it does.
  pub move_keeps : (w : ℕ) → Stands meant (Used h.marks) (Live o) own o.owner (seen h w) e → ((j : ℕ) → seen h w ≡ there j → (h.marks.prior ≤ h.marks.top) × Old) → Moved meant o own h g e Old (move h w).after (move h w).value
  move_keeps w s before = moves_by w (seen h w) refl s before
