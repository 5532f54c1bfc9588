use Rattle.memory.proofs.Holds.{refused_token}
use Rattle.memory.specs.Tokens.{Held}
use Rattle.memory_tests.proofs.holds.tests.hold_and_offer.Goals as goal
use Rattle.std.proofs.Common.{◌<◌, rules, sym, ◌∙◌, subst}

pub restore-requires : goal.restore-requires
restore-requires g c =
    let known : c.args.r < 16 = search rules in
    let same = refused_token c.in_ok-token.token _ c.in-Err.field-0 (sym c.in-Err.is ∙ c.back.ensures.answer) in
    (known, subst (Held c.hold.new.self) (sym same) c.in_ok-token.ensures.held)
