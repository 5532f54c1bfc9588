use Rattle.controller.proofs.lists.Lists.build.Given as goal
use Rattle.controller.specs.Keeping.{Keeps}

abbrev pub invariant-loop-atom : goal.invariant-loop-atom
invariant-loop-atom g l = Keeps l.initial.self.memory l.self.memory
