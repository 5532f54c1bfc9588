use Rattle.controller.proofs.Feeding.{feed_fits}
use Rattle.controller.proofs.lists.Lists.feed.Goals as goal

pub invariant_of-result : goal.invariant_of-result
invariant_of-result g c =
    record {
      fits = feed_fits g.A.Atom.meant c.args.self.now.memory c.args.list 1 _ _ _ c.in_ok-count.ensures.answer;
    }
