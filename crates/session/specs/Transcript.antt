-- What the console writes for the lines of a text, and the machine that they leave.
use Rattle.std.specs.Prelude.{ℕ, ◌+◌, List, [], ◌∷◌, ◌++◌}
use Rattle.answer.specs.Texts.{reply_text}
use Rattle.machine.specs.Machine.{Machine}
use Rattle.session.specs.Obeyed.{reaction}

-- a reply to each line, with its number and a line feed after it
unfoldable pub transcript : ℕ → Machine → List (List ℕ) → List ℕ
transcript n m [] = []
transcript n m (line ∷ lines) =
    (reply_text n (reaction m line).answer ++ (10 ∷ [])) ++ transcript (n + 1) (reaction m line).after lines

unfoldable pub machine_after : Machine → List (List ℕ) → Machine
machine_after m [] = m
machine_after m (line ∷ lines) = machine_after (reaction m line).after lines
