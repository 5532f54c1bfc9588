-- The memory is made shut, over 64 words of zero.
use Rattle.std.proofs.Common.{◌≡◌, ℕ, replicate, IfOk, string_bytes, refl, ap, ◌∙◌, subst}
use Rattle.console.proofs.run.Goals as goal
use Rattle.machine.specs.Machine.{Machine, shut_machine}
use Rattle.session.specs.Transcript.{transcript}
use Rattle.store.specs.Banks.{interleaved}
use Rattle.words.specs.Pieces.{lines_of}

-- two banks of zero are one store of zero
zeros : interleaved (replicate 32 0) (replicate 32 0) ≡ replicate {A = ℕ} 64 0
unfolding interleaved
zeros = refl

pub returns : goal.returns
returns c =
    let fresh = c.new-memory.ensures ∙ ap shut_machine (c.new-2.ensures.answer ∙ c.new.ensures.answer ∙ zeros) in
    record {
      answer =
          subst (λ (m : Machine). IfOk c.session-transcript.result (λ s. string_bytes s ≡ transcript 1 m (lines_of c.args.text.now)))
          fresh c.session-transcript.ensures.answer;
    }
