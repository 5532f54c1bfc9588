-- A memory over a store with more words at its end.
use Rattle.std.specs.Prelude.{◌≡◌, ℕ, List, ◌++◌, Option, Result}
use Rattle.atom.specs.declared.faults.KindFault.{KindFault}
use Rattle.ledger.specs.Runs.{Order, replies, machine_after}
use Rattle.machine.specs.Heap.{Heap, with_words}
use Rattle.machine.specs.Machine.{Machine, with_heap}

abbrev pub pad_heap : Heap → List ℕ → Heap
pad_heap h beyond = with_words h (h.words ++ beyond)

abbrev pub padded : Machine → List ℕ → Machine
padded m beyond = with_heap m (pad_heap m.heap beyond)

-- Whatever words lie past the store's end, no run is changed by them or changes them.
pub record WithinStore {A : Type 0} (coded : A → Result ℕ KindFault) (meant : ℕ → Option A) (m : Machine) (os : List (Order A)) : Type 0 where
  pub reads_none : (beyond : List ℕ) → replies coded meant (padded m beyond) os ≡ replies coded meant m os
  pub writes_none : (beyond : List ℕ) → machine_after coded meant (padded m beyond) os ≡ padded (machine_after coded meant m os) beyond
