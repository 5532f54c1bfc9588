-- What is true of the machine that any semispace is, whatever was called on it.
use Rattle.std.specs.Prelude.{◌≡◌, ◌≤◌, length}
use Rattle.machine.specs.Machine.{Machine}

pub record Formed (m : Machine) : Type 0 where
  pub registers : length m.roots.registers ≡ 16
  pub holds : length m.roots.holds ≡ 8
  pub scanned : m.heap.marks.scanned ≤ m.heap.marks.copied
  pub copied : m.heap.marks.copied ≤ m.heap.marks.top
  pub top : m.heap.marks.top ≤ m.heap.marks.size
  pub size : m.heap.marks.size ≤ 4096
  pub paced : 1 ≤ m.terms.pace
  pub pace : m.terms.pace ≤ 64
  pub limit : m.terms.limit ≤ 4096

-- before and after a call
abbrev pub FormedThrough : Machine → Machine → Type 0
FormedThrough before after = Formed before × Formed after
