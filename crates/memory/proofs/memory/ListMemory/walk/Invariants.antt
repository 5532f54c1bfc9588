use Rattle.std.proofs.Common.{◌≡◌, ◌-◌, length}
use Rattle.machine.specs.Feed.{walk}
use Rattle.memory.proofs.memory.ListMemory.walk.Given as goal

-- the walk that is left gives the result
abbrev pub invariant-loop-n : goal.invariant-loop-n
invariant-loop-n g l =
    walk g.A.Atom.meant l.r (length l.initial.buffer) 0 l.initial.self l.initial.buffer
    ≡ walk g.A.Atom.meant l.r (length l.initial.buffer - l.n) l.n l.self l.buffer
