-- What the making of lists leaves alone: whose the memory is, and which hold places are taken.
use Rattle.std.specs.Prelude.{◌≡◌, ℕ, is_some}
use Rattle.machine.specs.Holds.{hold_at}
use Rattle.machine.specs.Machine.{Machine}

-- the words that are held may move
pub record Keeps (m m' : Machine) : Type 0 where
  pub opening : m'.opened ≡ m.opened
  pub agreed : m'.terms ≡ m.terms
  pub taken : (p : ℕ) → is_some (hold_at m' p) ≡ is_some (hold_at m p)
