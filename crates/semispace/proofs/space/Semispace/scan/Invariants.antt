use Rattle.std.proofs.Common.{◌≡◌, ◌-◌}
use Rattle.machine.specs.Heap.{scan}
use Rattle.machine.specs.Machine.{with_heap}
use Rattle.semispace.proofs.space.Semispace.scan.Given as goal

-- what is left to scan gives the result
abbrev pub invariant-loop : goal.invariant-loop
invariant-loop g l =
    with_heap l.self (scan (l.most - l.counter) l.self.heap) ≡ with_heap l.initial.self (scan l.most l.initial.self.heap)
