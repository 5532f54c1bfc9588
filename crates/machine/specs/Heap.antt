-- The two halves of the store, the marks in the current one, and the collector's steps on them.
use Rattle.std.specs.Prelude.{ℕ, zero, suc, ◌+◌, ◌-◌, ◌*◌, Bool, cond, not, List, [], ◌∷◌, Some, None, Option, ◌==◌, nat_lt, slice_index, slice_set}
use Rattle.machine.specs.Words.{refer, cell_of, refers_into, cell_at, put_cell}

-- Counts of cells within a half. Cells below `copied` were copied there at or since the last flip, those below
-- `scanned` have had both words moved, and those from `top` up were allocated by cons. `prior` is the number of
-- cells that were used in the other half when the halves last traded places; `size` is the cells of one half.
pub record Marks : Type 0 where
  pub scanned : ℕ
  pub copied : ℕ
  pub top : ℕ
  pub prior : ℕ
  pub size : ℕ

-- the marks of an empty half
abbrev pub empty_marks : ℕ → ℕ → Marks
empty_marks size prior = record { scanned = 0; copied = 0; top = size; prior = prior; size = size }

abbrev pub used : Marks → ℕ
used m = m.copied + (m.size - m.top)

abbrev pub scan_over : Marks → Bool
scan_over m = m.scanned == m.copied

-- one cell more was scanned, was copied, was allocated; where there is none left the marks stay
abbrev pub raise_scanned : Marks → Marks
raise_scanned m =
    cond (nat_lt m.scanned m.copied)
    (record { scanned = m.scanned + 1; copied = m.copied; top = m.top; prior = m.prior; size = m.size })
    m

abbrev pub raise_copied : Marks → Marks
raise_copied m =
    cond (nat_lt m.copied m.top)
    (record { scanned = m.scanned; copied = m.copied + 1; top = m.top; prior = m.prior; size = m.size })
    m

abbrev pub lower_top : Marks → Marks
lower_top m =
    cond (nat_lt m.copied m.top)
    (record { scanned = m.scanned; copied = m.copied; top = m.top - 1; prior = m.prior; size = m.size })
    m

-- the store's words, whether half 1 is the current one, and the marks
pub record Heap : Type 0 where
  pub words : List ℕ
  pub upper : Bool
  pub marks : Marks

abbrev pub with_words : Heap → List ℕ → Heap
with_words h ws = record { words = ws; upper = h.upper; marks = h.marks }

abbrev pub with_marks : Heap → Marks → Heap
with_marks h m = record { words = h.words; upper = h.upper; marks = m }

-- the first cell of the current half, and of the other one
abbrev pub here : Heap → ℕ
here h = cond h.upper h.marks.size 0

abbrev pub there : Heap → ℕ
there h = cond h.upper 0 h.marks.size

-- a heap, and what came of it
pub record Step (X : Type 0) : Type 0 where
  pub after : Heap
  pub value : X

abbrev pub still : {X : Type 0} → Heap → X → Step X
still h x = record { after = h; value = x }

-- A cell of the other half goes as a pair to the cell at `copied`, and its old head becomes a reference to it.
abbrev pub copy_cell : Heap → ℕ → Step ℕ
copy_cell h c =
    record {
      after = record {
        words = slice_set (put_cell h.words (here h + h.marks.copied) (cell_at h.words c)) (2 * c) (refer (here h + h.marks.copied));
        upper = h.upper;
        marks = raise_copied h.marks;
      };
      value = refer (here h + h.marks.copied);
    }

-- An old cell whose head refers into the current half is forwarded there; any other is copied.
-- In a half with no room left the word stays: no run from an opening comes to that.
abbrev pub follow : Heap → ℕ → Step ℕ
follow h w =
    cond (refers_into (here h) h.marks.size (slice_index h.words (2 * cell_of w)))
    (still h (slice_index h.words (2 * cell_of w)))
    (cond (nat_lt h.marks.copied h.marks.top) (copy_cell h (cell_of w)) (still h w))

-- A word that refers into the other half is followed; any other stays.
abbrev pub move_cases : Heap → ℕ → Step ℕ
move_cases h w = cond (refers_into (there h) h.marks.size w) (follow h w) (still h w)

unfoldable pub move : Heap → ℕ → Step ℕ
move h w = move_cases h w

-- The word at a place is moved and written back.
abbrev pub move_at : Heap → ℕ → Step ℕ
move_at h place =
    record {
      after = with_words (move h (slice_index h.words place)).after (slice_set (move h (slice_index h.words place)).after.words place (move h (slice_index h.words place)).value);
      value = (move h (slice_index h.words place)).value;
    }

-- The head, then the tail of the first cell not yet scanned.
abbrev pub scan_words : Heap → ℕ → Heap
scan_words h c = (move_at (move_at h (2 * c)).after (2 * c + 1)).after

abbrev pub scan_cell : Heap → Heap
scan_cell h =
    with_marks (scan_words h (here h + h.marks.scanned)) (raise_scanned (scan_words h (here h + h.marks.scanned)).marks)

-- at most n cells, while there is one to scan
unfoldable pub scan : ℕ → Heap → Heap
scan zero h = h
scan (suc n) h = cond (scan_over h.marks) h (scan n (scan_cell h))

-- The halves trade places.
abbrev pub trade : Heap → Heap
trade h = record { words = h.words; upper = not h.upper; marks = empty_marks h.marks.size (used h.marks) }

-- each element of a list in turn, rising
unfoldable pub along : {X : Type 0} → (Heap → X → Step X) → Heap → List X → Step (List X)
along step h [] = still h []
along step h (x ∷ xs) =
    record {
      after = (along step (step h x).after xs).after;
      value = (step h x).value ∷ (along step (step h x).after xs).value;
    }

-- a taken hold's word is moved, a free hold stays free
abbrev pub move_hold : Heap → Option ℕ → Step (Option ℕ)
move_hold h None = still h None
move_hold h (Some w) = record { after = (move h w).after; value = Some (move h w).value }
