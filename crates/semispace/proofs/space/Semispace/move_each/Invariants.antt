use Rattle.std.proofs.Common.{◌≡◌}
use Rattle.machine.specs.Heap.{along}
use Rattle.machine.specs.Machine.{with_heap}
use Rattle.semispace.proofs.Alongs.{resumed}
use Rattle.semispace.proofs.space.Semispace.move_each.Given as goal

-- what is left to move gives the result, and only the heap was changed
abbrev pub invariant-loop-root : goal.invariant-loop-root
invariant-loop-root g l =
    (resumed g.R.Root.moved l.root-index l.self.heap l.roots ≡ along g.R.Root.moved l.initial.self.heap l.initial.roots)
    × (with_heap l.self l.initial.self.heap ≡ l.initial.self)
