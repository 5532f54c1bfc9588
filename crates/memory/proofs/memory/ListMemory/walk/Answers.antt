use Rattle.memory.proofs.Walks.{walk_full, walk_steps, walked}
use Rattle.memory.proofs.memory.ListMemory.walk.Goals as goal
use Rattle.std.proofs.lemmas.List.{set-get_or}
use Rattle.std.proofs.Common.{◌≡◌, eqb, length, get_or, Some, None, Ok, Err, sym, ap, ◌∙◌, arith, rules}

pub returns-in_err-atom : goal.returns-in_err-atom
returns-in_err-atom g c =
    let refused : c.from_residual.result ≡ Err c.in_err-atom.field-0.0 = search rules in
    let step = walk_steps g.A.Atom.meant c.args.r (length c.args.buffer.now) c.loop-n.n _ _ c.loop-n.buffer _ (omega arith)
    c.next.ensures.after (sym c.in_err-atom.was ∙ c.next.ensures.answer) in
    let all = walked g.A.Atom.meant c.args.r (length c.args.buffer.now) 0 _ _ c.args.buffer.now _ _ (c.loop-n.invariant ∙ step) in
    record { answer = refused ∙ all.answer; after = all.after; buffer = set-get_or c.loop-n.buffer c.loop-n.n _ ∙ all.buffer; holds = all.holds }

pub returns-in-None : goal.returns-in-None
returns-in-None g c =
    let ended : c.in_ok-atom.field-0 ≡ None = search rules in
    let step = walk_steps g.A.Atom.meant c.args.r (length c.args.buffer.now) c.loop-n.n _ _ c.loop-n.buffer _ (omega arith)
    c.next.ensures.after (sym (c.in_ok-atom.was ∙ ap Ok ended) ∙ c.next.ensures.answer) in
    let all = walked g.A.Atom.meant c.args.r (length c.args.buffer.now) 0 _ _ c.args.buffer.now _ _ (c.loop-n.invariant ∙ step) in
    record { answer = all.answer; after = all.after; buffer = set-get_or c.loop-n.buffer c.loop-n.n _ ∙ all.buffer; holds = all.holds }

pub loop-n-preserved : goal.loop-n-preserved
loop-n-preserved g c =
    let found : c.in_ok-atom.field-0 ≡ Some c.in-Some.atom = search rules in
    let step = walk_steps g.A.Atom.meant c.args.r (length c.args.buffer.now) c.loop-n.n _ _ c.loop-n.buffer _ (omega arith)
    c.next.ensures.after (sym (c.in_ok-atom.was ∙ ap Ok found) ∙ c.next.ensures.answer) in
    c.loop-n.invariant ∙ step

pub returns : goal.returns
returns g c =
    let word : c.register.result ≡ get_or c.loop-n.self.roots.registers c.args.r 0 = search rules in
    let full : length c.loop-n.buffer ≡ c.loop-n.n = omega arith in
    let step = walk_full g.A.Atom.meant c.args.r (length c.args.buffer.now) c.loop-n.n _ c.loop-n.buffer (omega arith) in
    let all = walked g.A.Atom.meant c.args.r (length c.args.buffer.now) 0 _ _ c.args.buffer.now _ _ (c.loop-n.invariant ∙ step) in
    record {
      answer = ap (λ w. Ok (length c.loop-n.buffer, eqb w 0)) word ∙ ap (λ n. Ok (n, eqb (get_or c.loop-n.self.roots.registers c.args.r 0) 0)) full ∙ all.answer;
      after = all.after;
      buffer = all.buffer;
      holds = all.holds;
    }
