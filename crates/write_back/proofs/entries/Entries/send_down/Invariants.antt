-- What stays true while the entries are sent down one by one.
use Rattle.std.proofs.Common.{◌≡◌, take}
use Rattle.write_back.proofs.entries.Entries.send_down.Given as goal
use Rattle.write_back.specs.Overlay.{overlaid}

-- the entries so far are over the list as it was
abbrev pub invariant-loop-entry : goal.invariant-loop-entry
invariant-loop-entry g l =
    g.S.Store.words l.below ≡ overlaid (g.S.Store.words l.initial.below) (take l.entry-index l.entry-items)
