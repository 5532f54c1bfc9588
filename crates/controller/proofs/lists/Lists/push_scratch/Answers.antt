use Rattle.controller.proofs.Keeping.{cons_kept}
use Rattle.controller.proofs.lists.Lists.push_scratch.Goals as goal

pub returns-clause-keeps : goal.returns-clause-keeps
returns-clause-keeps g c = cons_kept _ _ c.args.list 15 c.args.list c.cons-answer.ensures.after
