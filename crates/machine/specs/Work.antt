-- How much a call collects, told by the marks before and after it. A copy raises the one mark by one and a scanned
-- cell the other; where the halves traded places, both counts began again at 0.
use Rattle.std.specs.Prelude.{◌≡◌, ℕ, ◌+◌, ◌-◌, ◌*◌, ◌≤◌, Bool, true, false}
use Rattle.machine.specs.Heap.{Heap}
use Rattle.machine.specs.Machine.{Machine}

-- the rise of a count from one state to the next, given which half was current in each
abbrev pub rise : Bool → Bool → ℕ → ℕ → ℕ
rise true true n n' = n' - n
rise false false n n' = n' - n
rise true false n n' = n'
rise false true n n' = n'

abbrev pub copies : Heap → Heap → ℕ
copies h h' = rise h.upper h'.upper h.marks.copied h'.marks.copied

abbrev pub scans : Heap → Heap → ℕ
scans h h' = rise h.upper h'.upper h.marks.scanned h'.marks.scanned

-- a cons: 16 registers and 8 holds at a flip, and two words for each scanned cell
abbrev pub ConsWork : Machine → Machine → Type 0
ConsWork m m' =
    (scans m.heap m'.heap ≤ m.terms.pace) × (copies m.heap m'.heap ≤ 24 + 2 * m.terms.pace)

-- a car or a cdr
abbrev pub FetchWork : Machine → Machine → Type 0
FetchWork m m' = (scans m.heap m'.heap ≡ 0) × (copies m.heap m'.heap ≤ 1)

-- any other call
abbrev pub NoWork : Machine → Machine → Type 0
NoWork m m' = (scans m.heap m'.heap ≡ 0) × (copies m.heap m'.heap ≡ 0)
