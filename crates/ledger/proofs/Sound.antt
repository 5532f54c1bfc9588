-- A heap and a ledger's row that belong together, and what the last flip left behind.
use Rattle.std.proofs.Common.{◌≡◌, ℕ, ◌*◌, ◌<◌, ◌≤◌, Bool, true, false, cond, ◌⊎◌, length, Option, refl, ◌∙◌, inl, inr, arith}
use Rattle.ledger.proofs.Invariant.{Inv, Ordered}
use Rattle.ledger.proofs.Seen.{Seen, View, Used, Never, Stands}
use Rattle.ledger.proofs.Turn.{LiveFrom}
use Rattle.ledger.proofs.Words.{see, view, Halves}
use Rattle.ledger.specs.Ledger.{Row, Ledger, Entry, Reach}
use Rattle.machine.specs.Heap as heap
use Rattle.machine.specs.Heap.{Heap, Marks, used}

abbrev pub view_of : Heap → View
view_of h = view h.words h.marks.size (heap.here h) (heap.there h)

abbrev pub seen : Heap → ℕ → Seen
seen h w = see h.marks.size (heap.here h) (heap.there h) w

-- the owners, the marks and the ledger as the halves last traded places
pub record Past (X : Type 0) : Type 0 where
  pub owner : ℕ → ℕ
  pub marks : Marks
  pub at : Ledger X

abbrev pub Live : {X : Type 0} → Past X → ℕ → Type 0
Live o j = LiveFrom o.marks (Reach o.at) o.owner j

pub record Sound {X : Type 0} (meant : ℕ → Option X) (o : Past X) (own : ℕ → ℕ) (h : Heap) (g : Row X) : Type 0 where
  pub big : 4 * h.marks.size ≤ length h.words
  pub inv : Inv meant (Live o) own o.owner (view_of h) h.marks g
  pub prior : h.marks.prior ≡ used o.marks
  pub past_size : o.marks.size ≡ h.marks.size
  pub past_order : Ordered o.marks

halves_of : (n size : ℕ) (upper : Bool) → 4 * size ≤ n → Halves n size (cond upper size 0) (cond upper 0 size)
halves_of n size true h = record { apart = inr (omega arith); cb_in = omega arith; ob_in = omega arith }
halves_of n size false h = record { apart = inl (omega arith); cb_in = omega arith; ob_in = omega arith }

pub halves : (h : Heap) → 4 * h.marks.size ≤ length h.words → Halves (length h.words) h.marks.size (heap.here h) (heap.there h)
halves h big = halves_of (length h.words) h.marks.size h.upper big

pub live_inside : {X : Type 0} (meant : ℕ → Option X) (o : Past X) (own : ℕ → ℕ) (h : Heap) (g : Row X) → Sound meant o own h g → (k : ℕ) → Live o k → k < h.marks.size
live_inside meant o own h g s k l = omega (arith, l.0.0, s.past_size)

-- what a step of the collector leaves as it was
pub record Frame (h h' : Heap) : Type 0 where
  pub upper : h'.upper ≡ h.upper
  pub size : h'.marks.size ≡ h.marks.size
  pub top : h'.marks.top ≡ h.marks.top
  pub prior : h'.marks.prior ≡ h.marks.prior
  pub scanned : h'.marks.scanned ≡ h.marks.scanned
  pub copied : h.marks.copied ≤ h'.marks.copied
  pub long : length h'.words ≡ length h.words

-- Marks as a call that is no cons leaves them: at most more cells copied, and these only while the scan is unfinished.
pub record Quiet (m m' : Marks) : Type 0 where
  pub scanned : m'.scanned ≡ m.scanned
  pub top : m'.top ≡ m.top
  pub prior : m'.prior ≡ m.prior
  pub size : m'.size ≡ m.size
  pub either : (m'.copied ≡ m.copied) ⊎ ((m.scanned < m.copied) × (m.copied ≤ m'.copied))

pub quiet_not : (m : Marks) → Quiet m m
quiet_not m = record { scanned = refl; top = refl; prior = refl; size = refl; either = inl refl }

pub quiet_on : (a b c : Marks) → Quiet a b → Quiet b c → Quiet a c
quiet_on a b c p q =
    record {
      scanned = q.scanned ∙ p.scanned;
      top = q.top ∙ p.top;
      prior = q.prior ∙ p.prior;
      size = q.size ∙ p.size;
      either = elim p.either [
        | inl same ↦ elim q.either [ inl also ↦ inl (also ∙ same) | inr busy ↦ inr (omega (arith, busy.0, p.scanned), omega (arith, busy.1)) ]
        | inr busy ↦ elim q.either [ inl also ↦ inr (busy.0, omega (arith, busy.1)) | inr more ↦ inr (busy.0, omega (arith, busy.1, more.1)) ]
      ];
    }

-- After a move: the word is in the current half, every used cell has its words and its owner as before.
pub record Moved {X : Type 0} (meant : ℕ → Option X) (o : Past X) (own : ℕ → ℕ) (h : Heap) (g : Row X) (e : Entry X) (Old : Type 0) (h' : Heap) (w' : ℕ) : Type 0 where
  pub own' : ℕ → ℕ
  pub sound : Sound meant o own' h' g
  pub stands : Stands meant (Used h'.marks) Never own' o.owner (seen h' w') e
  pub grown : (i : ℕ) → Used h.marks i → Used h'.marks i × (own' i ≡ own i)
  pub heads : (i : ℕ) → Used h.marks i → (view_of h').head i ≡ (view_of h).head i
  pub tails : (i : ℕ) → Used h.marks i → (view_of h').tail i ≡ (view_of h).tail i
  pub frame : Frame h h'
  -- a cell was copied only where the word was old
  pub either : (h'.marks.copied ≡ h.marks.copied) ⊎ Old
