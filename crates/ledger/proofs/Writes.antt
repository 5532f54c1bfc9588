-- What writes to the store do to a view of it.
use Rattle.std.proofs.Common.{◌≡◌, ℕ, ◌+◌, ◌*◌, ◌<◌, List, length, set, ap, ◌∙◌, arith}
use Rattle.ledger.proofs.Cells.{Wrote}
use Rattle.ledger.proofs.Copy.{Copied}
use Rattle.ledger.proofs.Words.{see, view, Halves, see_here}
use Rattle.machine.specs.Heap.{Marks}
use Rattle.machine.specs.Words.{refer, cell_at, put_cell}
use Rattle.std.proofs.lemmas.List.{get_or-set_same, get_or-set_other, length-set}

module _ (ws : List ℕ) (size cb ob : ℕ) (halves : Halves (length ws) size cb ob) (m : Marks) (sized : m.size ≡ size) where
  -- the head of the current cell p
  module _ (p w : ℕ) (small : p < size) where
    pub put_head : (view (set ws (2 * (cb + p)) w) size cb ob).head p ≡ see size cb ob w
    put_head = ap (see size cb ob) (let h : 2 * (cb + p) < length ws = omega (arith, halves.cb_in) in get_or-set_same ws (2 * (cb + p)) w 0 h)

    pub put_head_tail : (view (set ws (2 * (cb + p)) w) size cb ob).tail p ≡ (view ws size cb ob).tail p
    put_head_tail = ap (see size cb ob) (grind (arith, get_or-set_other))

    pub put_head_wrote : Wrote (view ws size cb ob) (view (set ws (2 * (cb + p)) w) size cb ob) m p
    put_head_wrote =
        record {
          heads = λ i h ne. ap (see size cb ob) (grind (arith, get_or-set_other));
          tails = λ i h ne. ap (see size cb ob) (grind (arith, get_or-set_other));
          old_heads = λ k h. ap (see size cb ob) (grind (arith, get_or-set_other, halves.apart, sized));
          old_tails = λ k h. ap (see size cb ob) (grind (arith, get_or-set_other, halves.apart, sized));
        }

    -- its tail
    pub put_tail : (view (set ws (2 * (cb + p) + 1) w) size cb ob).tail p ≡ see size cb ob w
    put_tail = ap (see size cb ob) (let h : 2 * (cb + p) + 1 < length ws = omega (arith, halves.cb_in) in get_or-set_same ws (2 * (cb + p) + 1) w 0 h)

    pub put_tail_head : (view (set ws (2 * (cb + p) + 1) w) size cb ob).head p ≡ (view ws size cb ob).head p
    put_tail_head = ap (see size cb ob) (grind (arith, get_or-set_other))

    pub put_tail_wrote : Wrote (view ws size cb ob) (view (set ws (2 * (cb + p) + 1) w) size cb ob) m p
    put_tail_wrote =
        record {
          heads = λ i h ne. ap (see size cb ob) (grind (arith, get_or-set_other));
          tails = λ i h ne. ap (see size cb ob) (grind (arith, get_or-set_other));
          old_heads = λ k h. ap (see size cb ob) (grind (arith, get_or-set_other, halves.apart, sized));
          old_tails = λ k h. ap (see size cb ob) (grind (arith, get_or-set_other, halves.apart, sized));
        }

  -- both words of the current cell p
  module _ (p : ℕ) (pair : ℕ × ℕ) (small : p < size) where
    pub put_cell_head : (view (put_cell ws (cb + p) pair) size cb ob).head p ≡ see size cb ob pair.0
    put_cell_head =
        let h : 2 * (cb + p) < length ws = omega (arith, halves.cb_in) in
        ap (see size cb ob) (grind (arith, get_or-set_same, get_or-set_other, length-set))

    pub put_cell_tail : (view (put_cell ws (cb + p) pair) size cb ob).tail p ≡ see size cb ob pair.1
    put_cell_tail =
        let h : 2 * (cb + p) + 1 < length ws = omega (arith, halves.cb_in) in
        ap (see size cb ob) (grind (arith, get_or-set_same, get_or-set_other, length-set))

    pub put_cell_wrote : Wrote (view ws size cb ob) (view (put_cell ws (cb + p) pair) size cb ob) m p
    put_cell_wrote =
        record {
          heads = λ i h ne. ap (see size cb ob) (grind (arith, get_or-set_other));
          tails = λ i h ne. ap (see size cb ob) (grind (arith, get_or-set_other));
          old_heads = λ k h. ap (see size cb ob) (grind (arith, get_or-set_other, halves.apart, sized));
          old_tails = λ k h. ap (see size cb ob) (grind (arith, get_or-set_other, halves.apart, sized));
        }

  -- the copy of an old cell
  module _ (j : ℕ) (inside : j < size) (room : m.copied < size) where
    abbrev pub copy_words : List ℕ
    copy_words = set (put_cell ws (cb + m.copied) (cell_at ws (ob + j))) (2 * (ob + j)) (refer (cb + m.copied))

    pub copy_words_lem : Copied (view ws size cb ob) (view copy_words size cb ob) m j
    copy_words_lem =
        let a : 2 * (cb + m.copied) < length ws = omega (arith, halves.cb_in) in
        let b : 2 * (cb + m.copied) + 1 < length ws = omega (arith, halves.cb_in) in
        let c : 2 * (ob + j) < length ws = omega (arith, halves.ob_in) in
        record {
          new_head = ap (see size cb ob) (grind (arith, get_or-set_same, get_or-set_other, length-set, halves.apart));
          new_tail = ap (see size cb ob) (grind (arith, get_or-set_same, get_or-set_other, length-set, halves.apart));
          heads = λ i h ne. ap (see size cb ob) (grind (arith, get_or-set_other, halves.apart, sized));
          tails = λ i h ne. ap (see size cb ob) (grind (arith, get_or-set_other, halves.apart, sized));
          forward = ap (see size cb ob) (grind (arith, get_or-set_same, length-set)) ∙ see_here (length ws) size cb ob halves m.copied room;
          old_heads = λ k h ne. ap (see size cb ob) (grind (arith, get_or-set_other, halves.apart, sized));
          old_tails = λ k h. ap (see size cb ob) (grind (arith, get_or-set_other, halves.apart, sized));
        }
