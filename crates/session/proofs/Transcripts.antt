-- One line more of a transcript, and its end.
use Rattle.std.proofs.Common.{◌≡◌, ℕ, ◌+◌, List, [], ◌∷◌, ◌++◌, refl, append_assoc, append-nil}
use Rattle.answer.specs.Texts.{reply_text}
use Rattle.machine.specs.Machine.{Machine}
use Rattle.session.specs.Obeyed.{reaction}
use Rattle.session.specs.Transcript.{transcript, machine_after}

module _ (n : ℕ) (m : Machine) (line : List ℕ) (lines : List (List ℕ)) where
  -- what is written grows by the reply to the next line
  pub one_more_reply : (out : List ℕ)
      → (out ++ (reply_text n (reaction m line).answer ++ (10 ∷ []))) ++ transcript (n + 1) (reaction m line).after lines ≡ out ++ transcript n m (line ∷ lines)
  unfolding transcript
  one_more_reply out = rw append_assoc

  pub one_more_turn : machine_after (reaction m line).after lines ≡ machine_after m (line ∷ lines)
  unfolding machine_after
  one_more_turn = refl

-- with no line left, all is written
pub all_written : (n : ℕ) (m : Machine) (out : List ℕ) → out ++ transcript n m [] ≡ out
unfolding transcript
all_written n m out = append-nil out

pub all_done : (m : Machine) → machine_after m [] ≡ m
unfolding machine_after
all_done m = refl
