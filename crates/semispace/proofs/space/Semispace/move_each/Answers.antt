use Rattle.machine.specs.Machine.{with_heap}
use Rattle.semispace.proofs.Alongs.{resumed_on, resumed_all}
use Rattle.semispace.proofs.space.Semispace.move_each.Goals as goal
use Rattle.std.proofs.Common.{sym, ap, ◌∙◌, arith}

pub loop-root-preserved : goal.loop-root-preserved
loop-root-preserved g c = (
  resumed_on g.R.Root.moved c.loop-root.root-index _ c.loop-root.roots c.root-item.result _ _ (omega arith) (ap (λ m. m.heap) c.move_in.ensures.after) c.move_in.ensures.answer ∙ c.loop-root.invariant.0,
  ap (λ m. with_heap m c.args.self.now.heap) c.move_in.ensures.after ∙ c.loop-root.invariant.1,
)

pub returns : goal.returns
returns g c =
    let all = sym (resumed_all g.R.Root.moved c.loop-root.root-index c.loop-root.self.heap c.loop-root.roots (omega arith)) ∙ c.loop-root.invariant.0 in
    record {
      answer = ap (λ s. s.value) all;
      after = ap (λ m. with_heap m c.loop-root.self.heap) c.loop-root.invariant.1 ∙ ap (λ s. with_heap c.args.self.now s.after) all;
    }
