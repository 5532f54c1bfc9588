-- Moving a word of a used cell and writing it back; putting a clean word into a used cell.
use Rattle.std.proofs.Common.{◌≡◌, ℕ, ◌+◌, ◌≤◌, ◌⊎◌, get_or, set, Option, refl, ◌∙◌, subst}
use Rattle.ledger.proofs.Cells.{Wrote, Rewrote, write_keeps}
use Rattle.ledger.proofs.Move.{move_keeps}
use Rattle.ledger.proofs.Seen.{Seen, there, Used, Never, Pair, Stands, stands_on}
use Rattle.ledger.proofs.Sides.{other, part, part_seen, of_pair, pair_of, put_part, put_other_part, put_part_wrote}
use Rattle.ledger.proofs.Sound.{view_of, seen, Past, Live, Sound, halves, live_inside, Frame, Moved}
use Rattle.ledger.specs.Ledger.{Row, Entry, entry}
use Rattle.machine.specs.Heap as heap
use Rattle.machine.specs.Heap.{Heap, Marks, move, move_at, with_words}
use Rattle.machine.specs.Words.{place_of}
use Rattle.machine.specs.declared.side.Side.{Side}
use Rattle.machine.specs.declared.side.Side.TheVariants.{Head, Tail}
use Rattle.std.proofs.lemmas.List.{length-set}

-- a clean word may stand where an old one might
pub stands_weaker : {X : Type 0} (meant : ℕ → Option X) (C O : ℕ → Type 0) (own old : ℕ → ℕ) (s : Seen) (e : Entry X) → Stands meant C Never own old s e → Stands meant C O own old s e
stands_weaker meant C O own old s e = stands_on meant s e (λ i c. (c, refl)) (λ j n. absurd n)

module _ {X : Type 0} (meant : ℕ → Option X) (o : Past X) (own : ℕ → ℕ) (h : Heap) (g g' : Row X) (p : ℕ) (side : Side) (w : ℕ)
    (sound : Sound meant o own h g) (used : Used h.marks p) (row : Rewrote g g' (own p))
    (rest : entry (other side) g' (own p) ≡ entry (other side) g (own p))
    (stands : Stands meant (Used h.marks) Never own o.owner (seen h w) (entry side g' (own p))) where
  after : Heap
  after = with_words h (set h.words (place_of side (heap.here h + p)) w)

  does : Wrote (view_of h) (view_of (with_words h (set h.words (place_of side (heap.here h + p)) w))) h.marks p
  does = put_part_wrote h.words h.marks.size (heap.here h) (heap.there h) (halves h sound.big) h.marks refl p w used.0 side

  fixed : part side (view_of (with_words h (set h.words (place_of side (heap.here h + p)) w))) p ≡ seen h w
  fixed = put_part h.words h.marks.size (heap.here h) (heap.there h) (halves h sound.big) h.marks refl p w used.0 side

  kept : part (other side) (view_of (with_words h (set h.words (place_of side (heap.here h + p)) w))) p ≡ part (other side) (view_of h) p
  kept = put_other_part h.words h.marks.size (heap.here h) (heap.there h) (halves h sound.big) h.marks refl p w used.0 side

  new_pair : (O : ℕ → Type 0) → Stands meant (Used h.marks) O own o.owner (part (other side) (view_of h) p) (entry (other side) g (own p)) → Pair meant (Used h.marks) O own o.owner ((view_of (with_words h (set h.words (place_of side (heap.here h + p)) w))).head p) ((view_of (with_words h (set h.words (place_of side (heap.here h + p)) w))).tail p) (g'.heads (own p)) (g'.tails (own p))
  new_pair O s =
      pair_of side (view_of (with_words h (set h.words (place_of side (heap.here h + p)) w))) p g' (own p)
      (rw fixed (stands_weaker meant (Used h.marks) O own o.owner (seen h w) _ stands))
      (rw (kept, rest) s)

  -- A clean word is put into a used cell, and the ledger's cell has its entry.
  pub put_keeps : Sound meant o own (with_words h (set h.words (place_of side (heap.here h + p)) w)) g'
  put_keeps =
      record {
        big = simp length-set sound.big;
        inv = write_keeps meant (Live o) own o.owner (view_of h) (view_of (with_words h (set h.words (place_of side (heap.here h + p)) w))) h.marks g g' p
            sound.inv (live_inside meant o own h g sound) used does row
            (new_pair (Live o) (of_pair (other side) (view_of h) p g (own p) (sound.inv.cells p used)))
            (λ c. new_pair Never (of_pair (other side) (view_of h) p g (own p) (sound.inv.clean p used c)));
        prior = sound.prior;
        past_size = sound.past_size;
        past_order = sound.past_order;
      }

  pub put_fixes : part side (view_of (with_words h (set h.words (place_of side (heap.here h + p)) w))) p ≡ seen h w
  put_fixes = fixed

  pub put_spares : part (other side) (view_of (with_words h (set h.words (place_of side (heap.here h + p)) w))) p ≡ part (other side) (view_of h) p
  put_spares = kept

pub here_same : (h h' : Heap) → Frame h h' → heap.here h' ≡ heap.here h
here_same h h' f = rw (f.upper, f.size)

pub there_same : (h h' : Heap) → Frame h h' → heap.there h' ≡ heap.there h
there_same h h' f = rw (f.upper, f.size)

pub seen_same : (h h' : Heap) (w : ℕ) → Frame h h' → seen h' w ≡ seen h w
seen_same h h' w f = rw (here_same h h' f, there_same h h' f, f.size)

-- After a word of the used cell p was moved and written back.
pub record Mended {X : Type 0} (meant : ℕ → Option X) (o : Past X) (own : ℕ → ℕ) (h : Heap) (g : Row X) (p : ℕ) (side : Side) (Old : Type 0) (h' : Heap) (w' : ℕ) : Type 0 where
  pub own' : ℕ → ℕ
  pub sound : Sound meant o own' h' g
  pub stands : Stands meant (Used h'.marks) Never own' o.owner (seen h' w') (entry side g (own p))
  pub grown : (i : ℕ) → Used h.marks i → Used h'.marks i × (own' i ≡ own i)
  pub fixed : part side (view_of h') p ≡ seen h' w'
  pub spared : part (other side) (view_of h') p ≡ part (other side) (view_of h) p
  pub frame : Frame h h'
  pub either : (h'.marks.copied ≡ h.marks.copied) ⊎ Old

kept_part : {X : Type 0} (meant : ℕ → Option X) (o : Past X) (own : ℕ → ℕ) (h : Heap) (g : Row X) (e : Entry X) (Old : Type 0) (h' : Heap) (w' : ℕ) → Moved meant o own h g e Old h' w' → (side : Side) (p : ℕ) → Used h.marks p → part side (view_of h') p ≡ part side (view_of h) p
kept_part meant o own h g e Old h' w' m Head p u = m.heads p u
kept_part meant o own h g e Old h' w' m Tail p u = m.tails p u

module _ {X : Type 0} (meant : ℕ → Option X) (o : Past X) (own : ℕ → ℕ) (h : Heap) (g : Row X) (p : ℕ) (side : Side) (Old : Type 0) (used : Used h.marks p) where
  mend_by : (h₁ : Heap) (w₁ : ℕ) → Moved meant o own h g (entry side g (own p)) Old h₁ w₁ → Mended meant o own h g p side Old (with_words h₁ (set h₁.words (place_of side (heap.here h₁ + p)) w₁)) w₁
  mend_by h₁ w₁ m =
      let used₁ : Used h₁.marks p = (m.grown p used).0 in
      let same : m.own' p ≡ own p = (m.grown p used).1 in
      let row : Rewrote g g (m.own' p) = record { count = refl; heads = λ k n. refl; tails = λ k n. refl } in
      let stands₁ : Stands meant (Used h₁.marks) Never m.own' o.owner (seen h₁ w₁) (entry side g (m.own' p)) = rw same m.stands in
      record {
        own' = m.own';
        sound = put_keeps meant o m.own' h₁ g g p side w₁ m.sound used₁ row refl stands₁;
        stands = m.stands;
        grown = m.grown;
        fixed = put_fixes meant o m.own' h₁ g g p side w₁ m.sound used₁ row refl stands₁;
        spared = put_spares meant o m.own' h₁ g g p side w₁ m.sound used₁ row refl stands₁ ∙ kept_part meant o own h g (entry side g (own p)) Old h₁ w₁ m (other side) p used;
        frame = record {
          upper = m.frame.upper;
          size = m.frame.size;
          top = m.frame.top;
          prior = m.frame.prior;
          scanned = m.frame.scanned;
          copied = m.frame.copied;
          long = simp length-set m.frame.long;
        };
        either = m.either;
      }

  pub mend : Sound meant o own h g → ((j : ℕ) → part side (view_of h) p ≡ there j → (h.marks.prior ≤ h.marks.top) × Old) → Mended meant o own h g p side Old (move_at h (place_of side (heap.here h + p))).after (move_at h (place_of side (heap.here h + p))).value
  mend sound before =
      let w : ℕ = get_or h.words (place_of side (heap.here h + p)) 0 in
      let s : Stands meant (Used h.marks) (Live o) own o.owner (seen h w) (entry side g (own p)) = subst (λ x. Stands meant (Used h.marks) (Live o) own o.owner x (entry side g (own p))) (part_seen side h p) (of_pair side (view_of h) p g (own p) (sound.inv.cells p used)) in
      let m = move_keeps meant o own h g (entry side g (own p)) Old sound w s (λ j q. before j (part_seen side h p ∙ q)) in
      subst (λ (c : ℕ). Mended meant o own h g p side Old (with_words (move h w).after (set (move h w).after.words (place_of side (c + p)) (move h w).value)) (move h w).value) (here_same h (move h w).after m.frame) (mend_by (move h w).after (move h w).value m)
