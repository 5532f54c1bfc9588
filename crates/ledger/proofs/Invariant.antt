-- What holds of a view of the heap and the ledger's row, whatever was called so far.
-- `own` and `old` give the ledger's cell for each used cell of the current half and for each live cell of the other:
-- one that was used and in reach when the halves last traded places.
use Rattle.std.proofs.Common.{◌≡◌, ℕ, ◌<◌, ◌≤◌, Option}
use Rattle.ledger.proofs.Seen.{here, View, Used, Clean, Never, Pair}
use Rattle.ledger.specs.Ledger.{Row}
use Rattle.machine.specs.Heap.{Marks}

pub record Ordered (m : Marks) : Type 0 where
  pub s_b : m.scanned ≤ m.copied
  pub b_t : m.copied ≤ m.top
  pub t_h : m.top ≤ m.size

pub record Inv {X : Type 0} (meant : ℕ → Option X) (Live : ℕ → Type 0) (own old : ℕ → ℕ) (v : View) (m : Marks) (g : Row X) : Type 0 where
  pub order : Ordered m
  -- every used cell's words stand for what the ledger has in its owner; a scanned or allocated cell has no old word
  pub cells : (i : ℕ) → Used m i → Pair meant (Used m) Live own old (v.head i) (v.tail i) (g.heads (own i)) (g.tails (own i))
  pub clean : (i : ℕ) → Used m i → Clean m i → Pair meant (Used m) Never own old (v.head i) (v.tail i) (g.heads (own i)) (g.tails (own i))
  -- a live cell was forwarded to its copy, or waits with its words as they were
  pub forwarded : (i j : ℕ) → Live j → v.old_head j ≡ here i → (i < m.copied) × (own i ≡ old j)
  pub waiting : (j : ℕ) → Live j → ((i : ℕ) → v.old_head j ≡ here i → ⊥) → Pair meant Never Live own old (v.old_head j) (v.old_tail j) (g.heads (old j)) (g.tails (old j))
  -- owners are cells of the ledger, each cell has one, and a copy and its original have the same
  pub own_in : (i : ℕ) → Used m i → own i < g.count
  pub old_in : (j : ℕ) → Live j → old j < g.count
  pub own_one : (i k : ℕ) → Used m i → Used m k → own i ≡ own k → i ≡ k
  pub old_one : (j k : ℕ) → Live j → Live k → old j ≡ old k → j ≡ k
  pub meet : (i j : ℕ) → Used m i → Live j → own i ≡ old j → v.old_head j ≡ here i
  -- each copied cell was live
  pub came : (i : ℕ) → i < m.copied → (j : ℕ) × (Live j × (own i ≡ old j))
