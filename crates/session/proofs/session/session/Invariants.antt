-- What was written, and what the lines that are left still give, make the whole transcript; the lines left lead to the same machine. The memory stays formed.
use Rattle.std.proofs.Common.{◌≡◌, ◌+◌, ◌++◌, string_bytes}
use Rattle.session.proofs.session.session.Given as goal
use Rattle.session.specs.Transcript.{transcript, machine_after}
use Rattle.semispace.specs.Formed.{Formed}
use Rattle.words.specs.Pieces.{lines_of}

abbrev pub invariant-loop-index : goal.invariant-loop-index
invariant-loop-index g l =
    (goal.iterator-loop-index g).can_next l.index-iterator
    × (goal.iterator-loop-index g).is_finite l.index-iterator
    × (string_bytes l.out ++ transcript (l.index-iterator.count + 1) l.memory l.index-iterator.iter
    ≡ transcript 1 l.initial.memory (lines_of l.text))
    × (machine_after l.memory l.index-iterator.iter
    ≡ machine_after l.initial.memory (lines_of l.text))
    × Formed l.memory
