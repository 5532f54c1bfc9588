use Rattle.machine.proofs.Bounds.{Grows, move_at_grows, fetched_works}
use Rattle.machine.specs.Heap.{Heap, move_at}
use Rattle.semispace.proofs.space.Semispace.move_at.Goals as goal
use Rattle.semispace.specs.View.{is_upper}
use Rattle.std.proofs.Common.{◌≡◌, sym, subst, rules}

pub returns-clause-bounded : goal.returns-clause-bounded
returns-clause-bounded g c =
    let before : Heap = c.args.self.now.heap in
    let left : Heap = record { words = g.S.Store.words c.put_word.new.store; upper = is_upper c.self-2.inside.state.half; marks = c.self-2.inside.state.marks } in
    let moved : left ≡ (move_at before c.args.place).after = search rules in
    fetched_works before left (subst (Grows 0 1 before) (sym moved) (move_at_grows before c.args.place))
