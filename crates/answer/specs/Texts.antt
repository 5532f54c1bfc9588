-- The text of an answer, and of the reply to a line.
use Rattle.std.specs.Prelude.{ℕ, true, false, List, ◌++◌, Ok, Err, codes, decimal, Result}
use Rattle.answer.specs.Refused.{fault_text}
use Rattle.answer.specs.declared.answer.Answer.TheVariants.{Done, Shown, Equal}
use Rattle.answer.specs.declared.answer.Answer.{Answer}
use Rattle.answer.specs.declared.faults.ConsoleFault.{ConsoleFault}
use Rattle.atom.specs.Shown.{axis_text}
use Rattle.atom.specs.declared.axis.AxisWord.{AxisWord}
use Rattle.machine.specs.declared.sight.Sight.TheVariants.{Nil, Cell, Atom}
use Rattle.machine.specs.declared.sight.Sight.{Sight}

abbrev pub sight_text : Sight AxisWord → List ℕ
sight_text Nil = codes "nil"
sight_text Cell = codes "cell"
sight_text (Atom atom) = axis_text atom

abbrev pub answer_text : Answer → List ℕ
answer_text Done = codes "ok"
answer_text (Shown sight) = sight_text sight
answer_text (Equal true) = codes "same"
answer_text (Equal false) = codes "other"

abbrev pub outcome_text : Result Answer ConsoleFault → List ℕ
outcome_text (Ok answer) = answer_text answer
outcome_text (Err fault) = fault_text fault

abbrev pub reply_text : ℕ → Result Answer ConsoleFault → List ℕ
reply_text line outcome = decimal line ++ (codes " " ++ outcome_text outcome)
