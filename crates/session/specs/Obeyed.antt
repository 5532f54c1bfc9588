-- What a command, and a line, does to a list memory and answers.
use Rattle.std.specs.Prelude.{ℕ, List, Ok, Err, Result}
use Rattle.answer.specs.declared.answer.Answer.TheVariants.{Done, Shown, Equal}
use Rattle.answer.specs.declared.answer.Answer.{Answer}
use Rattle.answer.specs.declared.faults.ConsoleFault.TheVariants.{Column, Memory}
use Rattle.answer.specs.declared.faults.ConsoleFault.{ConsoleFault}
use Rattle.atom.specs.Axes.{axis_code, axis_read}
use Rattle.command.specs.Commands.{parsed}
use Rattle.command.specs.declared.command.Command.TheVariants.{Open, Set, Cons, Car, Cdr, Rplaca, Rplacd, Load, Clear, Look, Same}
use Rattle.command.specs.declared.command.Command.{Command}
use Rattle.machine.specs.Calls.{Call, open_call, set_call, cons_call, fetch_call, replace_call, load_call, clear_call, look_call, same_call}
use Rattle.machine.specs.Machine.{Machine}
use Rattle.machine.specs.declared.faults.MemoryFault.{MemoryFault}
use Rattle.machine.specs.declared.side.Side.TheVariants.{Head, Tail}
use Rattle.words.specs.declared.misread.Misread.{Misread}

-- a result, as the console gives it
abbrev pub given : {R : Type 0} → (R → Answer) → Result R MemoryFault → Result Answer MemoryFault
given answer (Ok r) = Ok (answer r)
given answer (Err fault) = Err fault

abbrev pub through : {R : Type 0} → (R → Answer) → Call R → Call Answer
through answer call = record { after = call.after; answer = given answer call.answer }

-- each command is the call of its name; the console's memory has the number 1
abbrev pub obeyed : Machine → Command → Call Answer
obeyed m (Open pace limit) = through (λ _. Done) (open_call m pace limit 1)
obeyed m (Set d atom) = through (λ _. Done) (set_call m d (axis_code atom))
obeyed m (Cons d a b) = through (λ _. Done) (cons_call m d a b)
obeyed m (Car d r) = through (λ _. Done) (fetch_call Head m d r)
obeyed m (Cdr d r) = through (λ _. Done) (fetch_call Tail m d r)
obeyed m (Rplaca r v) = through (λ _. Done) (replace_call Head m r v)
obeyed m (Rplacd r v) = through (λ _. Done) (replace_call Tail m r v)
obeyed m (Load d r) = through (λ _. Done) (load_call m d r)
obeyed m (Clear d) = through (λ _. Done) (clear_call m d)
obeyed m (Look r) = through Shown (look_call axis_read m r)
obeyed m (Same a b) = through Equal (same_call m a b)

-- what a line leaves and answers
pub record Reaction : Type 0 where
  pub after : Machine
  pub answer : Result Answer ConsoleFault

abbrev pub told : Result Answer MemoryFault → Result Answer ConsoleFault
told (Ok answer) = Ok answer
told (Err fault) = Err (Memory fault)

abbrev pub reaction_to : Machine → Result Command Misread → Reaction
reaction_to m (Ok command) = record { after = (obeyed m command).after; answer = told (obeyed m command).answer }
reaction_to m (Err e) = record { after = m; answer = Err (Column e.column) }

-- a line that is not understood changes nothing
abbrev pub reaction : Machine → List ℕ → Reaction
reaction m line = reaction_to m (parsed line)
