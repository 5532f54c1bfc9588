use Rattle.std.proofs.Common.{◌≡◌, ◌+◌, ◌-◌, true, false, sym, ap, ◌∙◌, arith}
use Rattle.machine.specs.Heap.{scan, scan_over}
use Rattle.machine.specs.Machine.{with_heap}
use Rattle.semispace.proofs.Scans.{scan_none, scan-over, scan_more}
use Rattle.semispace.proofs.space.Semispace.scan.Goals as goal

pub returns-then-scan_over : goal.returns-then-scan_over
returns-then-scan_over g c =
    let over : scan_over c.loop.self.heap.marks ≡ true = sym c.scan_over.ensures ∙ c.if-scan_over.true in
    ap (with_heap c.loop.self) (sym (scan-over (c.args.most - c.loop.counter) _ over)) ∙ c.loop.invariant

pub loop-preserved : goal.loop-preserved
loop-preserved g c =
    let more : scan_over c.loop.self.heap.marks ≡ false = sym c.scan_over.ensures ∙ c.if-scan_over.false in
    ap (λ m. with_heap m (scan (c.args.most - (c.loop.counter + 1)) m.heap)) c.scan_cell.ensures
    ∙ ap (with_heap c.loop.self) (sym (scan_more (c.args.most - c.loop.counter) _ _ (omega arith) more))
    ∙ c.loop.invariant

pub returns : goal.returns
returns g c = ap (with_heap c.loop.self) (sym (scan_none (c.args.most - c.loop.counter) _ (omega arith))) ∙ c.loop.invariant
