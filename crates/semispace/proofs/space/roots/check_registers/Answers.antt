use Rattle.semispace.proofs.Registers.{unless_found, known_unless_found}
use Rattle.semispace.proofs.space.roots.check_registers.Goals as goal
use Rattle.std.proofs.Common.{leb, option_map, sym, ap, ◌∙◌, rules, tests}
use Rattle.std.proofs.lemmas.Iterator.{YieldsList-from_slice}
use Rattle.std.proofs.lemmas.Iterator.Search.{find_from_yields_List}

pub returns-in-Some : goal.returns-in-Some
returns-in-Some c =
    let found = find_from_yields_List (λ r. leb 16 r) _ _ c.find.result c.find.ensures.ran (YieldsList-from_slice c.args.registers.now cc) (λ x b q k. search (rules, tests)) in
    ap (λ o. unless_found (option_map (λ r. r.now) o)) (sym c.in-Some.is) ∙ ap unless_found found ∙ known_unless_found c.args.registers.now

pub returns-in-None : goal.returns-in-None
returns-in-None c =
    let found = find_from_yields_List (λ r. leb 16 r) _ _ c.find.result c.find.ensures.ran (YieldsList-from_slice c.args.registers.now cc) (λ x b q k. search (rules, tests)) in
    ap (λ o. unless_found (option_map (λ r. r.now) o)) (sym c.in-None.is) ∙ ap unless_found found ∙ known_unless_found c.args.registers.now
