-- The two words of a cell, one argument for both.
use Rattle.std.proofs.Common.{◌≡◌, ℕ, ◌+◌, ◌<◌, List, length, get_or, set, Option, refl}
use Rattle.ledger.proofs.Cells.{Wrote}
use Rattle.ledger.proofs.Seen.{Seen, View, Pair, Stands}
use Rattle.ledger.proofs.Sound.{view_of, seen}
use Rattle.ledger.proofs.Words.{see, view, Halves}
use Rattle.ledger.proofs.Writes.{put_head, put_head_tail, put_head_wrote, put_tail, put_tail_head, put_tail_wrote}
use Rattle.ledger.specs.Ledger.{Row, entry}
use Rattle.machine.specs.Heap as heap
use Rattle.machine.specs.Heap.{Heap, Marks}
use Rattle.machine.specs.Words.{place_of}
use Rattle.machine.specs.declared.side.Side.{Side}
use Rattle.machine.specs.declared.side.Side.TheVariants.{Head, Tail}

abbrev pub other : Side → Side
other Head = Tail
other Tail = Head

abbrev pub part : Side → View → ℕ → Seen
part Head v i = v.head i
part Tail v i = v.tail i

pub part_seen : (side : Side) (h : Heap) (p : ℕ) → part side (view_of h) p ≡ seen h (get_or h.words (place_of side (heap.here h + p)) 0)
part_seen Head h p = refl
part_seen Tail h p = refl

module _ {X : Type 0} {meant : ℕ → Option X} {C O : ℕ → Type 0} {own old : ℕ → ℕ} where
  pub of_pair : (side : Side) (v : View) (p : ℕ) (g : Row X) (c : ℕ) → Pair meant C O own old (v.head p) (v.tail p) (g.heads c) (g.tails c) → Stands meant C O own old (part side v p) (entry side g c)
  of_pair Head v p g c pair = pair.of_head
  of_pair Tail v p g c pair = pair.of_tail

  pub pair_of : (side : Side) (v : View) (p : ℕ) (g : Row X) (c : ℕ) → Stands meant C O own old (part side v p) (entry side g c) → Stands meant C O own old (part (other side) v p) (entry (other side) g c) → Pair meant C O own old (v.head p) (v.tail p) (g.heads c) (g.tails c)
  pair_of Head v p g c a b = record { of_head = a; of_tail = b }
  pair_of Tail v p g c a b = record { of_head = b; of_tail = a }

module _ (ws : List ℕ) (size cb ob : ℕ) (halves : Halves (length ws) size cb ob) (m : Marks) (sized : m.size ≡ size) (p w : ℕ) (small : p < size) where
  pub put_part : (side : Side) → part side (view (set ws (place_of side (cb + p)) w) size cb ob) p ≡ see size cb ob w
  put_part Head = put_head ws size cb ob halves m sized p w small
  put_part Tail = put_tail ws size cb ob halves m sized p w small

  pub put_other_part : (side : Side) → part (other side) (view (set ws (place_of side (cb + p)) w) size cb ob) p ≡ part (other side) (view ws size cb ob) p
  put_other_part Head = put_head_tail ws size cb ob halves m sized p w small
  put_other_part Tail = put_tail_head ws size cb ob halves m sized p w small

  pub put_part_wrote : (side : Side) → Wrote (view ws size cb ob) (view (set ws (place_of side (cb + p)) w) size cb ob) m p
  put_part_wrote Head = put_head_wrote ws size cb ob halves m sized p w small
  put_part_wrote Tail = put_tail_wrote ws size cb ob halves m sized p w small
