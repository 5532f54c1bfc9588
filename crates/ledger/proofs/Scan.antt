-- Scanning keeps the heap sound.
use Rattle.std.proofs.Common.{◌≡◌, ℕ, zero, suc, ◌+◌, ◌*◌, ◌<◌, ◌≤◌, Bool, true, false, cond, ltb, length, Option, refl, ◌∙◌, subst, arith}
use Rattle.ledger.proofs.Cells.{OneOn, scan_keeps}
use Rattle.ledger.proofs.Mend.{Mended, mend, here_same, seen_same}
use Rattle.ledger.proofs.Seen.{Used, Never, Pair, Stands, stands_on}
use Rattle.ledger.proofs.Sound.{view_of, seen, Past, Live, Sound}
use Rattle.ledger.specs.Ledger.{Row}
use Rattle.machine.specs.Heap as heap
use Rattle.machine.specs.Heap.{Heap, Marks, move_at, scan, scan_cell, scan_over, scan_words, raise_scanned, with_marks}
use Rattle.machine.specs.declared.side.Side.TheVariants.{Head, Tail}
use Rattle.std.proofs.lemmas.Bool.{lt-ltb, eqb-false}

-- what a scan leaves as it was
pub record Swept (h h' : Heap) : Type 0 where
  pub upper : h'.upper ≡ h.upper
  pub size : h'.marks.size ≡ h.marks.size
  pub top : h'.marks.top ≡ h.marks.top
  pub prior : h'.marks.prior ≡ h.marks.prior
  pub long : length h'.words ≡ length h.words

pub record Scanned {X : Type 0} (meant : ℕ → Option X) (o : Past X) (own : ℕ → ℕ) (h : Heap) (g : Row X) (h' : Heap) : Type 0 where
  pub own' : ℕ → ℕ
  pub sound : Sound meant o own' h' g
  pub grown : (i : ℕ) → Used h.marks i → Used h'.marks i × (own' i ≡ own i)
  pub swept : Swept h h'
  -- a scan that is unfinished was so before
  pub busy : h'.marks.scanned < h'.marks.copied → h.marks.scanned < h.marks.copied

module _ {X : Type 0} (meant : ℕ → Option X) (o : Past X) (own : ℕ → ℕ) (h : Heap) (g : Row X) (sound : Sound meant o own h g) (left : h.marks.scanned < h.marks.copied) (before : h.marks.prior ≤ h.marks.top) where
  used_now : Used h.marks h.marks.scanned
  used_now = (omega (arith, sound.inv.order.b_t, sound.inv.order.t_h), λ _. left)

  -- the marks raised, over heaps that two mended words left
  raise : (h₁ h₂ : Heap) (w₁ w₂ : ℕ) (a : Mended meant o own h g h.marks.scanned Head (Unit {0}) h₁ w₁) (b : Mended meant o a.own' h₁ g h.marks.scanned Tail (Unit {0}) h₂ w₂) → Scanned meant o own h g (with_marks h₂ (raise_scanned h₂.marks))
  raise h₁ h₂ w₁ w₂ a b =
      let S : ℕ = h.marks.scanned in
      let s₂ : h₂.marks.scanned ≡ S = b.frame.scanned ∙ a.frame.scanned in
      let c₂ : h.marks.copied ≤ h₂.marks.copied = omega (arith, a.frame.copied, b.frame.copied) in
      let less : h₂.marks.scanned < h₂.marks.copied = omega (arith, c₂) in
      let test : ltb h₂.marks.scanned h₂.marks.copied ≡ true = lt-ltb _ _ less in
      let u₁ : Used h₁.marks S = (a.grown S used_now).0 in
      let own₁ : a.own' S ≡ own S = (a.grown S used_now).1 in
      let own₂ : b.own' S ≡ a.own' S = (b.grown S u₁).1 in
      let head : Stands meant (Used h₂.marks) Never b.own' o.owner ((view_of h₂).head S) (g.heads (b.own' S)) =
      rw (b.spared, a.fixed, ← seen_same h₁ h₂ w₁ b.frame, own₂, own₁) (stands_on meant (seen h₂ w₁) _ b.grown (λ j n. (n, refl)) (rw (seen_same h₁ h₂ w₁ b.frame) a.stands)) in
      let tail : Stands meant (Used h₂.marks) Never b.own' o.owner ((view_of h₂).tail S) (g.tails (b.own' S)) = rw (b.fixed, own₂) b.stands in
      let pure : Pair meant (Used h₂.marks) Never b.own' o.owner ((view_of h₂).head h₂.marks.scanned) ((view_of h₂).tail h₂.marks.scanned) (g.heads (b.own' h₂.marks.scanned)) (g.tails (b.own' h₂.marks.scanned)) =
      rw s₂ (record { of_head = head; of_tail = tail }) in
      let m' : Marks = record { scanned = h₂.marks.scanned + 1; copied = h₂.marks.copied; top = h₂.marks.top; prior = h₂.marks.prior; size = h₂.marks.size } in
      let on : OneOn h₂.marks m' = record { scanned = refl; copied = refl; top = refl; size = refl } in
      let done : Scanned meant o own h g (with_marks h₂ m') =
      record {
        own' = b.own';
        sound = record {
          big = b.sound.big;
          inv = scan_keeps meant (Live o) b.own' o.owner (view_of h₂) h₂.marks m' g b.sound.inv less on pure;
          prior = b.sound.prior;
          past_size = b.sound.past_size;
          past_order = b.sound.past_order;
        };
        grown = λ i u.
            let x = a.grown i u in
            let y = b.grown i x.0 in
            (y.0, y.1 ∙ x.1);
        swept = record {
          upper = b.frame.upper ∙ a.frame.upper;
          size = b.frame.size ∙ a.frame.size;
          top = b.frame.top ∙ a.frame.top;
          prior = b.frame.prior ∙ a.frame.prior;
          long = b.frame.long ∙ a.frame.long;
        };
        busy = λ _. left;
      } in
      rw test done

  pub scan_cell_keeps : Scanned meant o own h g (scan_cell h)
  scan_cell_keeps =
      let a = mend meant o own h g h.marks.scanned Head (Unit {0}) used_now sound (λ j q. (before, tt)) in
      let h₁ : Heap = (move_at h (2 * (heap.here h + h.marks.scanned))).after in
      let u₁ : Used h₁.marks h.marks.scanned = (a.grown h.marks.scanned used_now).0 in
      let b = mend meant o a.own' h₁ g h.marks.scanned Tail (Unit {0}) u₁ a.sound (λ j q. (omega (arith, a.frame.prior, a.frame.top), tt)) in
      let b' : Mended meant o a.own' h₁ g h.marks.scanned Tail (Unit {0}) (move_at h₁ (2 * (heap.here h + h.marks.scanned) + 1)).after (move_at h₁ (2 * (heap.here h + h.marks.scanned) + 1)).value =
      subst (λ (c : ℕ). Mended meant o a.own' h₁ g h.marks.scanned Tail (Unit {0}) (move_at h₁ (2 * (c + h.marks.scanned) + 1)).after (move_at h₁ (2 * (c + h.marks.scanned) + 1)).value) (here_same h h₁ a.frame) b in
      raise h₁ _ _ _ a b'

module _ {X : Type 0} (meant : ℕ → Option X) (o : Past X) where
  scanned_not : (own : ℕ → ℕ) (h : Heap) (g : Row X) → Sound meant o own h g → Scanned meant o own h g h
  scanned_not own h g sound = record { own' = own; sound = sound; grown = λ i u. (u, refl); swept = record { upper = refl; size = refl; top = refl; prior = refl; long = refl }; busy = λ b. b }

  scanned_on : (own : ℕ → ℕ) (h h₁ h₂ : Heap) (g : Row X) (a : Scanned meant o own h g h₁) → Scanned meant o a.own' h₁ g h₂ → Scanned meant o own h g h₂
  scanned_on own h h₁ h₂ g a b =
      record {
        own' = b.own';
        sound = b.sound;
        grown = λ i u. let x = a.grown i u in let y = b.grown i x.0 in (y.0, y.1 ∙ x.1);
        swept = record { upper = b.swept.upper ∙ a.swept.upper; size = b.swept.size ∙ a.swept.size; top = b.swept.top ∙ a.swept.top; prior = b.swept.prior ∙ a.swept.prior; long = b.swept.long ∙ a.swept.long };
        busy = λ b'. a.busy (b.busy b');
      }

  -- one turn, by the test; the rest is given
  scan-turn : (n : ℕ) (own : ℕ → ℕ) (h : Heap) (g : Row X) (over : Bool) → scan_over h.marks ≡ over → Sound meant o own h g → (h.marks.scanned < h.marks.copied → h.marks.prior ≤ h.marks.top) → ((own₁ : ℕ → ℕ) → Sound meant o own₁ (scan_cell h) g → (scan_cell h).marks.prior ≤ (scan_cell h).marks.top → Scanned meant o own₁ (scan_cell h) g (scan n (scan_cell h))) → Scanned meant o own h g (cond over h (scan n (scan_cell h)))
  scan-turn n own h g true q sound before rest = scanned_not own h g sound
  scan-turn n own h g false q sound before rest =
      let ne : h.marks.scanned ≡ h.marks.copied → ⊥ = eqb-false h.marks.scanned h.marks.copied q in
      let left : h.marks.scanned < h.marks.copied = omega (arith, sound.inv.order.s_b) in
      let a = scan_cell_keeps meant o own h g sound left (before left) in
      scanned_on own h (scan_cell h) _ g a (rest a.own' a.sound (omega (arith, before left, a.swept.prior, a.swept.top)))

  -- while cells are left to scan, the live cells have room
  pub scan_all : (n : ℕ) (own : ℕ → ℕ) (h : Heap) (g : Row X) → Sound meant o own h g → (h.marks.scanned < h.marks.copied → h.marks.prior ≤ h.marks.top) → Scanned meant o own h g (scan n h)
  unfolding scan
  scan_all zero own h g sound before = scanned_not own h g sound
  scan_all (suc n) own h g sound before = scan-turn n own h g (scan_over h.marks) refl sound before (λ own₁ s r. scan_all n own₁ (scan_cell h) g s (λ _. r))
