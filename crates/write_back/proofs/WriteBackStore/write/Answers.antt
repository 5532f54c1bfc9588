-- A word kept in its entry is set in the list, and the other place's word that leaves goes down.
use Rattle.std.proofs.Common.{Some, None, rules}
use Rattle.write_back.proofs.Overlaid.{overlaid_kept}
use Rattle.write_back.proofs.WriteBackStore.write.Goals as goal

pub returns-in-Some-clause-after : goal.returns-in-Some-clause-after
returns-in-Some-clause-after g c =
    rw (c.keep.ensures.after, c.write.ensures.after, ← c.self.view_is)
    (overlaid_kept _ _ _ (Some c.in-Some.other) (search rules) c.keep.ensures.room c.in-Some.ensures.answer c.in-Some.ensures.own)

pub returns-in-None-clause-after : goal.returns-in-None-clause-after
returns-in-None-clause-after g c =
    rw (c.keep.ensures.after, ← c.self.view_is)
    (overlaid_kept _ _ _ None (search rules) c.keep.ensures.room c.in-None.ensures.answer c.in-None.ensures.own)
