-- The law follows from the opening's own definition and the kind's laws.
use Rattle.ledger.proofs.Whole.{opened_law}
use Rattle.ledger.specs.Law.{LedgerLaw}
use Rattle.machine.specs.Calls.{open_call}
use Rattle.machine.specs.Machine.{Machine}
use Rattle.memory.proofs.memory.ListMemory.open.Goals as goal
use Rattle.std.proofs.Common.{◌≡◌, Ok, sym, subst, rules}

pub returns-clause-law : goal.returns-clause-law
returns-clause-law g c e orders =
    let before : Machine = c.args.self.now in
    let after : c.open.new.self ≡ (open_call before c.args.pace c.args.limit c.args.number).after = search rules in
    let granted : (open_call before c.args.pace c.args.limit c.args.number).answer ≡ Ok tt = search rules in
    subst (λ (m : Machine). LedgerLaw g.A.Atom.coded g.A.Atom.meant m orders) (sym after)
    (opened_law g.A.Atom.coded g.A.Atom.meant
    (record { between = g.met.A.Atom.between; reads = g.met.A.Atom.reads; only = g.met.A.Atom.only })
    before c.args.pace c.args.limit c.args.number granted orders)
