-- The laws of the console's language.
use Rattle.std.specs.Prelude.{◌≡◌, ℕ, ◌+◌, ◌^◌, ◌<◌, Bool, true, not, ◌&&◌, List, [], ◌∷◌, ◌++◌, ℤ, pos, negsuc, Ok, codes, decimal, Decides, ◌==◌}
use Rattle.atom.specs.declared.axis.AxisWord.TheVariants.{X, Y, Z, D, T}
use Rattle.atom.specs.declared.axis.AxisWord.{AxisWord}
use Rattle.atom.specs.Shown.{axis_text}
use Rattle.command.specs.Commands.{parsed}
use Rattle.verb.specs.Verbs.{spells}
use Rattle.command.specs.declared.command.Command.TheVariants.{Open, Set, Cons, Car, Cdr, Rplaca, Rplacd, Load, Clear, Look, Same}
use Rattle.command.specs.declared.command.Command.{Command}
use Rattle.std.specs.List.{AllByRecursion}
use Rattle.words.specs.Pieces.{lines_of, words_of}

-- words with a space before each
unfoldable pub spaced_out : List (List ℕ) → List ℕ
spaced_out [] = []
spaced_out (w ∷ ws) = 32 ∷ (w ++ spaced_out ws)

-- words one space apart
unfoldable pub rejoined : List (List ℕ) → List ℕ
rejoined [] = []
rejoined (w ∷ ws) = w ++ spaced_out ws

-- whether no byte of a text has this value
abbrev pub lacks : ℕ → List ℕ → Bool
lacks c [] = true
lacks c (b ∷ bs) = not (b == c) && lacks c bs

abbrev pub Spaceless : List ℕ → Type 0
Spaceless w = lacks 32 w ≡ true

-- The words of a line hold no space and, one space apart, make the line; and no other words do.
abbrev pub WordsRejoin : Type 0
WordsRejoin =
    ((line : List ℕ) → rejoined (words_of line) ≡ line)
    × ((line : List ℕ) → AllByRecursion Spaceless (words_of line))
    × ((w : List ℕ) (ws : List (List ℕ)) → AllByRecursion Spaceless (w ∷ ws) → words_of (rejoined (w ∷ ws)) ≡ w ∷ ws)

-- lines with a line feed after each
unfoldable pub ended : List (List ℕ) → List ℕ
ended [] = []
ended (l ∷ ls) = l ++ (10 ∷ ended ls)

-- Lines without a line feed in them, ended by one each, are the lines of their text.
abbrev pub LinesReturn : Type 0
LinesReturn = (ls : List (List ℕ)) → AllByRecursion (λ l. lacks 10 l ≡ true) ls → lines_of (ended ls) ≡ ls

-- A word spells a text just if it is that text.
abbrev pub SpellingDecides : Type 0
SpellingDecides = (text w : List ℕ) → Decides (spells text w) (w ≡ text)

-- the words of a command, as one would write it
abbrev pub command_words : Command → List (List ℕ)
command_words (Open pace limit) = codes "open" ∷ decimal pace ∷ decimal limit ∷ []
command_words (Set d atom) = codes "set" ∷ decimal d ∷ axis_text atom ∷ []
command_words (Cons d a b) = codes "cons" ∷ decimal d ∷ decimal a ∷ decimal b ∷ []
command_words (Car d r) = codes "car" ∷ decimal d ∷ decimal r ∷ []
command_words (Cdr d r) = codes "cdr" ∷ decimal d ∷ decimal r ∷ []
command_words (Rplaca r v) = codes "rplaca" ∷ decimal r ∷ decimal v ∷ []
command_words (Rplacd r v) = codes "rplacd" ∷ decimal r ∷ decimal v ∷ []
command_words (Load d r) = codes "load" ∷ decimal d ∷ decimal r ∷ []
command_words (Clear d) = codes "clear" ∷ decimal d ∷ []
command_words (Look r) = codes "look" ∷ decimal r ∷ []
command_words (Same a b) = codes "same" ∷ decimal a ∷ decimal b ∷ []

-- numbers of at most eight digits, with a minus or not
abbrev pub Short : ℕ → Type 0
Short n = n < 10 ^ 8

abbrev pub ShortTarget : ℤ → Type 0
ShortTarget (pos n) = Short n
ShortTarget (negsuc n) = n + 1 < 10 ^ 8

abbrev pub ShortAtom : AxisWord → Type 0
ShortAtom (X target) = ShortTarget target
ShortAtom (Y target) = ShortTarget target
ShortAtom (Z target) = ShortTarget target
ShortAtom (D milliseconds) = Short milliseconds
ShortAtom (T tool) = Short tool

abbrev pub Writable : Command → Type 0
Writable (Open pace limit) = Short pace × Short limit
Writable (Set d atom) = Short d × ShortAtom atom
Writable (Cons d a b) = Short d × Short a × Short b
Writable (Car d r) = Short d × Short r
Writable (Cdr d r) = Short d × Short r
Writable (Rplaca r v) = Short r × Short v
Writable (Rplacd r v) = Short r × Short v
Writable (Load d r) = Short d × Short r
Writable (Clear d) = Short d
Writable (Look r) = Short r
Writable (Same a b) = Short a × Short b

-- A command is read from its own text.
abbrev pub CommandsReturn : Type 0
CommandsReturn = (command : Command) → Writable command → parsed (rejoined (command_words command)) ≡ Ok command
