-- Moving a list of roots, one after the other.
use Rattle.std.proofs.Common.{◌≡◌, ℕ, zero, suc, ◌<◌, ◌≤◌, List, [], ◌∷◌, length, get_or, Some, None, Option, refl, ap, ◌∙◌, arith}
use Rattle.ledger.proofs.Mend.{seen_same}
use Rattle.ledger.proofs.Move.{move_keeps}
use Rattle.ledger.proofs.Seen.{Used, Never, Stands, stands_on}
use Rattle.ledger.proofs.Sound.{seen, Past, Live, Sound, Frame}
use Rattle.ledger.specs.Ledger.{Row, Entry}
use Rattle.machine.specs.Heap.{Heap, Step, move, move_hold, along}

-- the heap is sound again, and used cells have their owners as before
pub record Went {X : Type 0} (meant : ℕ → Option X) (o : Past X) (own : ℕ → ℕ) (h : Heap) (g : Row X) (h' : Heap) : Type 0 where
  pub own' : ℕ → ℕ
  pub sound : Sound meant o own' h' g
  pub grown : (i : ℕ) → Used h.marks i → Used h'.marks i × (own' i ≡ own i)
  pub frame : Frame h h'

pub frame_on : (h h₁ h₂ : Heap) → Frame h h₁ → Frame h₁ h₂ → Frame h h₂
frame_on h h₁ h₂ a b =
    record {
      upper = b.upper ∙ a.upper;
      size = b.size ∙ a.size;
      top = b.top ∙ a.top;
      prior = b.prior ∙ a.prior;
      scanned = b.scanned ∙ a.scanned;
      copied = omega (arith, a.copied, b.copied);
      long = b.long ∙ a.long;
    }

module _ {X : Type 0} (meant : ℕ → Option X) (o : Past X) (g : Row X) where
  abbrev pub went_not : (own : ℕ → ℕ) (h : Heap) → Sound meant o own h g → Went meant o own h g h
  went_not own h s = record { own' = own; sound = s; grown = λ i u. (u, refl); frame = record { upper = refl; size = refl; top = refl; prior = refl; scanned = refl; copied = omega arith; long = refl } }

  abbrev pub went_on : (own : ℕ → ℕ) (h h₁ h₂ : Heap) (a : Went meant o own h g h₁) → Went meant o a.own' h₁ g h₂ → Went meant o own h g h₂
  went_on own h h₁ h₂ a b =
      record {
        own' = b.own';
        sound = b.sound;
        grown = λ i u. let x = a.grown i u in let y = b.grown i x.0 in (y.0, y.1 ∙ x.1);
        frame = frame_on h h₁ h₂ a.frame b.frame;
      }

  -- a word, and a hold, within the old cells O: `Live o` for one that may be old, `Never` for a clean one
  abbrev pub WordStands : (ℕ → Type 0) → (ℕ → ℕ) → Heap → ℕ → Entry X → Type 0
  WordStands O own h w e = Stands meant (Used h.marks) O own o.owner (seen h w) e

  abbrev pub HoldStands : (ℕ → Type 0) → (ℕ → ℕ) → Heap → Option ℕ → Option (Entry X) → Type 0
  HoldStands O own h None None = Unit {0}
  HoldStands O own h None (Some e) = ⊥
  HoldStands O own h (Some w) None = ⊥
  HoldStands O own h (Some w) (Some e) = WordStands O own h w e

  pub word_on : (O : ℕ → Type 0) (own : ℕ → ℕ) (h h' : Heap) (a : Went meant o own h g h') (w : ℕ) (e : Entry X) → WordStands O own h w e → WordStands O a.own' h' w e
  word_on O own h h' a w e s = rw (seen_same h h' w a.frame) (stands_on meant (seen h w) e a.grown (λ j n. (n, refl)) s)

  pub hold_on : (O : ℕ → Type 0) (own : ℕ → ℕ) (h h' : Heap) (a : Went meant o own h g h') (w : Option ℕ) (e : Option (Entry X)) → HoldStands O own h w e → HoldStands O a.own' h' w e
  hold_on O own h h' a None None s = s
  hold_on O own h h' a None (Some e) s = s
  hold_on O own h h' a (Some w) None s = s
  hold_on O own h h' a (Some w) (Some e) s = word_on O own h h' a w e s

  -- one root moved
  pub record Root (Y E : Type 0) (Strong : (ℕ → ℕ) → Heap → Y → E → Type 0) (own : ℕ → ℕ) (h : Heap) (e : E) (s : Step Y) : Type 0 where
    pub went : Went meant o own h g s.after
    pub strong : Strong went.own' s.after s.value e

  pub word_root : (own : ℕ → ℕ) (h : Heap) (w : ℕ) (e : Entry X) → Sound meant o own h g → h.marks.prior ≤ h.marks.top → WordStands (Live o) own h w e → Root ℕ (Entry X) (WordStands Never) own h e (move h w)
  word_root own h w e s r stands =
      let m = move_keeps meant o own h g e (Unit {0}) s w stands (λ j q. (r, tt)) in
      record { went = record { own' = m.own'; sound = m.sound; grown = m.grown; frame = m.frame }; strong = m.stands }

  pub hold_root : (own : ℕ → ℕ) (h : Heap) (w : Option ℕ) (e : Option (Entry X)) → Sound meant o own h g → h.marks.prior ≤ h.marks.top → HoldStands (Live o) own h w e → Root (Option ℕ) (Option (Entry X)) (HoldStands Never) own h e (move_hold h w)
  hold_root own h None None s r stands = record { went = went_not own h s; strong = stands }
  hold_root own h None (Some e) s r stands = absurd stands
  hold_root own h (Some w) None s r stands = absurd stands
  hold_root own h (Some w) (Some e) s r stands = let m = word_root own h w e s r stands in record { went = m.went; strong = m.strong }

  -- all roots of a list moved
  pub record Roots (Y E : Type 0) (d : Y) (Strong : (ℕ → ℕ) → Heap → Y → E → Type 0) (own : ℕ → ℕ) (h : Heap) (n : ℕ) (es : ℕ → E) (s : Step (List Y)) : Type 0 where
    pub went : Went meant o own h g s.after
    pub strong : (i : ℕ) → i < n → Strong went.own' s.after (get_or s.value i d) (es i)
    pub sized : length s.value ≡ n

  module _ {Y E : Type 0} (d : Y) (step : Heap → Y → Step Y) (Weak Strong : (ℕ → ℕ) → Heap → Y → E → Type 0)
      (weak-on : (own : ℕ → ℕ) (h h' : Heap) (a : Went meant o own h g h') (y : Y) (e : E) → Weak own h y e → Weak a.own' h' y e)
      (strong-on : (own : ℕ → ℕ) (h h' : Heap) (a : Went meant o own h g h') (y : Y) (e : E) → Strong own h y e → Strong a.own' h' y e)
      (one : (own : ℕ → ℕ) (h : Heap) (y : Y) (e : E) → Sound meant o own h g → h.marks.prior ≤ h.marks.top → Weak own h y e → Root Y E Strong own h e (step h y)) where
    first_then : (own : ℕ → ℕ) (h : Heap) (y : Y) (ys : List Y) (es : ℕ → E) (a : Root Y E Strong own h (es 0) (step h y)) → Roots Y E d Strong a.went.own' (step h y).after (length ys) (λ i. es (suc i)) (along step (step h y).after ys) → Roots Y E d Strong own h (suc (length ys)) es (record { after = (along step (step h y).after ys).after; value = (step h y).value ∷ (along step (step h y).after ys).value })
    first_then own h y ys es a b =
        record {
          went = went_on own h (step h y).after _ a.went b.went;
          strong = elim [ zero ↦ λ l. strong-on _ _ _ b.went _ _ a.strong | suc i ↦ λ l. b.strong i (omega arith) ];
          sized = ap suc b.sized;
        }

    pub along_keeps : (ys : List Y) (es : ℕ → E) (own : ℕ → ℕ) (h : Heap) → Sound meant o own h g → h.marks.prior ≤ h.marks.top → ((i : ℕ) → i < length ys → Weak own h (get_or ys i d) (es i)) → Roots Y E d Strong own h (length ys) es (along step h ys)
    unfolding along
    along_keeps [] es own h s r weak = record { went = went_not own h s; strong = λ i l. absurd (omega arith); sized = refl }
    along_keeps (y ∷ ys) es own h s r weak =
        let a = one own h y (es 0) s r (weak 0 (omega arith)) in
        first_then own h y ys es a
        (along_keeps ys (λ i. es (suc i)) a.went.own' (step h y).after a.went.sound (omega (arith, a.went.frame.prior, a.went.frame.top))
        (λ i l. weak-on own h (step h y).after a.went (get_or ys i d) (es (suc i)) (weak (suc i) (omega arith))))
