use Rattle.controller.proofs.lists.Lists.push.Given as goal
use Rattle.controller.specs.Keeping.{Keeps}

abbrev pub invariant-loop : goal.invariant-loop
invariant-loop g l = Keeps l.fn.self.memory l.self.memory
