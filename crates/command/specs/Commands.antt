-- The command that a line says.
use Rattle.std.specs.Prelude.{ℕ, cond, List, length, Err, Result, nat_lt}
use Rattle.command.specs.Operands.{Taken, as_atom, as_number, as_verb, alone, and_then, misread, one_of, take, three_of, two_of}
use Rattle.command.specs.declared.command.Command.TheVariants as c
use Rattle.command.specs.declared.command.Command.{Command}
use Rattle.verb.specs.declared.Verb.TheVariants.{Open, Set, Cons, Car, Cdr, Rplaca, Rplacd, Load, Clear, Look, Same}
use Rattle.verb.specs.declared.Verb.{Verb}
use Rattle.words.specs.Reading.{unread}
use Rattle.words.specs.Unread.{Unread}
use Rattle.words.specs.declared.misread.Misread.{Misread}

-- a command made of the words after the first
abbrev pub operands : Verb → Unread → Taken Command
operands Open line = two_of as_number as_number c.Open line
operands Set line = two_of as_number as_atom c.Set line
operands Cons line = three_of as_number as_number as_number c.Cons line
operands Car line = two_of as_number as_number c.Car line
operands Cdr line = two_of as_number as_number c.Cdr line
operands Rplaca line = two_of as_number as_number c.Rplaca line
operands Rplacd line = two_of as_number as_number c.Rplacd line
operands Load line = two_of as_number as_number c.Load line
operands Clear line = one_of as_number c.Clear line
operands Look line = one_of as_number c.Look line
operands Same line = two_of as_number as_number c.Same line

-- a command word and its operands, with nothing after them
unfoldable pub command_of : Unread → Result Command Misread
command_of line = and_then (take as_verb line) (λ verb line. and_then (operands verb line) alone)

-- a line is read word by word, unless it is above 64 bytes
abbrev pub parsed : List ℕ → Result Command Misread
parsed line = cond (nat_lt 64 (length line)) (Err (misread 65)) (command_of (unread line))
