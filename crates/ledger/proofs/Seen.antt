-- The halves of a heap read as words that say which half they refer to, and when such a word stands for a ledger's entry.
use Rattle.std.proofs.Common.{◌≡◌, ℕ, ◌<◌, ◌≤◌, Some, Option, sym, ap, ◌∙◌}
use Rattle.ledger.specs.Ledger.{Entry, nil, atom, cell}
use Rattle.machine.specs.Heap.{Marks}

-- a word by what it refers to: nothing, an atom, cell i of the current half, cell j of the other half, or no cell at all
pub data Seen : Type 0 where
  none : Seen
  code : ℕ → Seen
  here : ℕ → Seen
  there : ℕ → Seen
  stray : ℕ → Seen

-- heads and tails of the cells of the current half, and of the other one
pub record View : Type 0 where
  pub head : ℕ → Seen
  pub tail : ℕ → Seen
  pub old_head : ℕ → Seen
  pub old_tail : ℕ → Seen

-- copied or allocated
abbrev pub Used : Marks → ℕ → Type 0
Used m i = (i < m.size) × (i < m.top → i < m.copied)

-- scanned or allocated
abbrev pub Clean : Marks → ℕ → Type 0
Clean m i = m.scanned ≤ i → m.top ≤ i

abbrev pub Never : ℕ → Type 0
Never i = ⊥

module _ {X : Type 0} (meant : ℕ → Option X) where
  -- A word stands for an entry, with current cells within C owned by `own` and old cells within O by `old`.
  abbrev pub Stands : (ℕ → Type 0) → (ℕ → Type 0) → (ℕ → ℕ) → (ℕ → ℕ) → Seen → Entry X → Type 0
  Stands C O own old none e = e ≡ nil
  Stands C O own old (code n) e = (a : X) × ((e ≡ atom a) × (meant n ≡ Some a))
  Stands C O own old (here i) e = C i × (e ≡ cell (own i))
  Stands C O own old (there j) e = O j × (e ≡ cell (old j))
  Stands C O own old (stray n) e = ⊥

  -- both words of a cell
  pub record Pair (C O : ℕ → Type 0) (own old : ℕ → ℕ) (h t : Seen) (eh et : Entry X) : Type 0 where
    pub of_head : Stands C O own old h eh
    pub of_tail : Stands C O own old t et

  -- A word still stands for its entry where more cells count and their owners are the same.
  pub stands_on : {C C' O O' : ℕ → Type 0} {own own' old old' : ℕ → ℕ} (s : Seen) (e : Entry X) → ((i : ℕ) → C i → C' i × (own' i ≡ own i)) → ((j : ℕ) → O j → O' j × (old' j ≡ old j)) → Stands C O own old s e → Stands C' O' own' old' s e
  stands_on none e f g h = h
  stands_on (code n) e f g h = h
  stands_on (here i) e f g h = ((f i h.0).0, h.1 ∙ sym (ap cell (f i h.0).1))
  stands_on (there j) e f g h = ((g j h.0).0, h.1 ∙ sym (ap cell (g j h.0).1))
  stands_on (stray n) e f g h = h

  pub pair_on : {C C' O O' : ℕ → Type 0} {own own' old old' : ℕ → ℕ} {h t : Seen} {eh et : Entry X} → ((i : ℕ) → C i → C' i × (own' i ≡ own i)) → ((j : ℕ) → O j → O' j × (old' j ≡ old j)) → Pair C O own old h t eh et → Pair C' O' own' old' h t eh et
  pair_on {h = h} {t = t} f g p = record { of_head = stands_on h _ f g p.of_head; of_tail = stands_on t _ f g p.of_tail }
