-- There are as many roots as their type says.
use Rattle.machine.proofs.Bounds.{collected_works}
use Rattle.machine.specs.Machine.{Machine, collected}
use Rattle.machine.specs.Work.{ConsWork}
use Rattle.semispace.proofs.space.Semispace.collect.Goals as goal
use Rattle.std.proofs.Common.{◌≡◌, length, sym, ap, ◌∙◌, subst, rules}

pub returns-clause-bounded : goal.returns-clause-bounded
returns-clause-bounded g c =
    let before : Machine = c.args.self.now in
    let after : c.scan.new.self ≡ collected before = search rules in
    let registers : length before.roots.registers ≡ 16 = ap (λ m. length m.roots.registers) (sym c.self.view_is) ∙ c.self.inside.state.roots.sized.0 in
    let holds : length before.roots.holds ≡ 8 = ap (λ m. length m.roots.holds) (sym c.self.view_is) ∙ c.self.inside.state.roots.sized.1 in
    subst (ConsWork before) (sym after) (collected_works before registers holds)
