-- The law of a list memory: whatever is called, it answers as the ledger does.
use Rattle.std.specs.Prelude.{◌≡◌, ℕ, zero, suc, ◌+◌, ◌*◌, ◌<◌, ◌≤◌, Bool, true, false, cond, List, [], ◌∷◌, is_some, Some, None, Ok, Err, Option, Result, nat_lt, slice_index}
use Rattle.atom.specs.declared.faults.KindFault.{KindFault}
use Rattle.ledger.specs.Answers.{Told, granted}
use Rattle.ledger.specs.Ledger.{Ledger, Entry, Few}
use Rattle.ledger.specs.Padded.{WithinStore}
use Rattle.ledger.specs.Runs as order
use Rattle.ledger.specs.Runs.{Order, Reply, turn, page, replies, machine_after, ledger_replies, ledger_after, tells, blank}
use Rattle.machine.specs.Calls.{Call, cons_call, fetch_call, look_call}
use Rattle.machine.specs.Heap as heap
use Rattle.machine.specs.Holds.{hold_at}
use Rattle.machine.specs.Machine as machine
use Rattle.machine.specs.Machine.{Machine, ceiling}
use Rattle.machine.specs.Words.{refers_into}
use Rattle.machine.specs.declared.faults.MemoryFault.{MemoryFault}
use Rattle.machine.specs.declared.side.Side.{Side}
use Rattle.machine.specs.declared.sight.Sight.{Sight}

-- where a walk begins
pub data Root : Type 0 where
  register : ℕ → Root
  hold : ℕ → Root

-- what the memory and the ledger have there; a free hold has nothing
abbrev pub word_of : Machine → Root → Option ℕ
word_of m (register r) = cond (nat_lt r 16) (Some (machine.register m r)) None
word_of m (hold p) = cond (nat_lt p 8) (hold_at m p) None

abbrev pub entry_of : {A : Type 0} → Ledger A → Root → Option (Entry A)
entry_of l (register r) = cond (nat_lt r 16) (Some (l.registers r)) None
entry_of l (hold p) = cond (nat_lt p 8) (l.holds p) None

-- Two roots have equal words exactly if the ledger has nil, the same atom or the same cell in both.
pub record SameRoots {A : Type 0} (m : Machine) (l : Ledger A) : Type 0 where
  pub taken : (p : Root) → is_some (word_of m p) ≡ is_some (entry_of l p)
  pub same_entry : (p q : Root) (w : ℕ) (e e' : Entry A) → word_of m p ≡ Some w → word_of m q ≡ Some w → entry_of l p ≡ Some e → entry_of l q ≡ Some e' → e ≡ e'
  pub same_word : (p q : Root) (w w' : ℕ) (e : Entry A) → word_of m p ≡ Some w → word_of m q ≡ Some w' → entry_of l p ≡ Some e → entry_of l q ≡ Some e → w ≡ w'

module _ {A : Type 0} (coded : A → Result ℕ KindFault) (meant : ℕ → Option A) where
  -- Q holds of the ledger whenever a cons is called
  abbrev pub ConsCalled : (Ledger A → Type 0) → Ledger A → Order A → Type 0
  ConsCalled Q l (order.cons d a b) = Q l
  ConsCalled Q l (order.car d r) = Unit {0}
  ConsCalled Q l (order.cdr d r) = Unit {0}
  ConsCalled Q l (order.rplaca r v) = Unit {0}
  ConsCalled Q l (order.rplacd r v) = Unit {0}
  ConsCalled Q l (order.put d a) = Unit {0}
  ConsCalled Q l (order.load d r) = Unit {0}
  ConsCalled Q l (order.clear d) = Unit {0}
  ConsCalled Q l (order.look r) = Unit {0}
  ConsCalled Q l (order.same a b) = Unit {0}
  ConsCalled Q l (order.hold r p) = Unit {0}
  ConsCalled Q l (order.back d t) = Unit {0}
  ConsCalled Q l (order.feed r p buffer) = Unit {0}

  unfoldable pub EveryCons : (Ledger A → Type 0) → Ledger A → List (Order A) → List Told → Type 0
  EveryCons Q l [] ts = Unit {0}
  EveryCons Q l (o ∷ os) [] = Unit {0}
  EveryCons Q l (o ∷ os) (t ∷ ts) = ConsCalled Q l o × EveryCons Q (page coded meant t l o).after os ts

-- no cons was refused for room
unfoldable pub AllGranted : List Told → Type 0
AllGranted [] = Unit {0}
AllGranted (t ∷ ts) = (t ≡ granted) × AllGranted ts

-- the same cons called n times with nothing between
unfoldable pub again : ℕ → Machine → ℕ → ℕ → ℕ → Machine
again zero m d a b = m
again (suc n) m d a b = again n (cons_call m d a b).after d a b

-- one of the first `tries` of these calls is granted
abbrev pub Within : ℕ → Machine → ℕ → ℕ → ℕ → Type 0
Within tries m d a b = (n : ℕ) × ((n < tries) × ((cons_call (again n m d a b) d a b).answer ≡ Ok tt))

-- What a root shows: what look answers after each walk from it by car and cdr. The walk goes in register 0, on a copy of the machine.
-- a call that was refused ends the walk
abbrev pub following : {R : Type 0} → Result (Unit {0}) MemoryFault → Result R MemoryFault → Result R MemoryFault
following (Ok u) go = go
following (Err fault) go = Err fault

module _ {A : Type 0} (meant : ℕ → Option A) where
  abbrev pub onward : Call (Unit {0}) → (Machine → Result (Sight A) MemoryFault) → Result (Sight A) MemoryFault
  onward call go = following call.answer (go call.after)

  unfoldable pub walk_shows : Machine → List Side → Result (Sight A) MemoryFault
  walk_shows m [] = (look_call meant m 0).answer
  walk_shows m (side ∷ path) = onward (fetch_call side m 0 0) (λ m'. walk_shows m' path)

  abbrev pub word_shows : Machine → List Side → Option ℕ → Option (Result (Sight A) MemoryFault)
  word_shows m path None = None
  word_shows m path (Some w) = Some (walk_shows (machine.with_register m 0 w) path)

  abbrev pub root_shows : Machine → Root → List Side → Option (Result (Sight A) MemoryFault)
  root_shows m root path = word_shows m path (word_of m root)

-- whether a reply is a refusal
abbrev pub failed : {R F : Type 0} → Result R F → Bool
failed (Ok r) = false
failed (Err f) = true

abbrev pub refusal : {A : Type 0} → Reply A → Bool
refusal (order.did answer) = failed answer
refusal (order.showed answer) = failed answer
refusal (order.judged answer) = failed answer
refusal (order.handed answer) = failed answer
refusal (order.took answer) = failed answer
refusal (order.wrote buffer answer) = failed answer

-- Every root, and every cell that was scanned or allocated, refers to the current half only:
-- a move that found its half full would have left a word that does not.
pub record Current (m : Machine) : Type 0 where
  pub roots : (p : Root) (w : ℕ) → word_of m p ≡ Some w → refers_into (heap.there m.heap) m.heap.marks.size w ≡ false
  pub heads : (i : ℕ) → i < m.heap.marks.size → (m.heap.marks.scanned ≤ i → m.heap.marks.top ≤ i) → refers_into (heap.there m.heap) m.heap.marks.size (slice_index m.heap.words (2 * (heap.here m.heap + i))) ≡ false
  pub tails : (i : ℕ) → i < m.heap.marks.size → (m.heap.marks.scanned ≤ i → m.heap.marks.top ≤ i) → refers_into (heap.there m.heap) m.heap.marks.size (slice_index m.heap.words (2 * (heap.here m.heap + i) + 1)) ≡ false

-- What holds after any list of orders, from a memory m as it was opened.
module _ {A : Type 0} (coded : A → Result ℕ KindFault) (meant : ℕ → Option A) where
  -- the ledger beside the run
  abbrev pub told_in : Machine → List (Order A) → List Told
  told_in m os = tells os (replies coded meant m os)

  abbrev pub ledger_of : Machine → List (Order A) → Ledger A
  ledger_of m os = ledger_after coded meant (blank m.terms.number) os (told_in m os)

  pub record LedgerLaw (m : Machine) (os : List (Order A)) : Type 0 where
    -- every answer so far was the ledger's
    pub answers : replies coded meant m os ≡ ledger_replies coded meant (blank m.terms.number) os (told_in m os)
    -- the same holds are taken, and roots are equal exactly where the ledger's are
    pub roots : SameRoots (machine_after coded meant m os) (ledger_of m os)
    -- if no cons so far was called with more than `limit` cells in reach, none was refused for room
    pub room : EveryCons coded meant (Few m.terms.limit) (blank m.terms.number) os (told_in m os) → AllGranted (told_in m os)
    -- with fewer than H cells in reach, any one cons called again and again is granted at call 2⌈H/k⌉ at the latest
    pub tries : (n d a b : ℕ) → Few n (ledger_of m os) → n < m.heap.marks.size → d < 16 → a < 16 → b < 16 → Within (2 * ceiling m.heap.marks.size m.terms.pace) (machine_after coded meant m os) d a b
    -- a refused call leaves what every root shows
    pub shows : (o : Order A) (p : Root) (path : List Side) → refusal (turn coded meant (machine_after coded meant m os) o).reply ≡ true → root_shows meant (turn coded meant (machine_after coded meant m os) o).after p path ≡ root_shows meant (machine_after coded meant m os) p path
    -- no word of the half that was left stays where a move put it
    pub current : Current (machine_after coded meant m os)
    -- words past the end of the store have no effect and are left alone
    pub inside : WithinStore coded meant m os
