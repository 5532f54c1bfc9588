-- Taking one word after another, or the column of the first that is not understood, missing or left over.
use Rattle.std.specs.Prelude.{ℕ, List, [], ◌∷◌, Some, None, Ok, Err, Option, Result}
use Rattle.atom.specs.declared.axis.AxisWord.{AxisWord}
use Rattle.command.specs.Atoms.{atom_of}
use Rattle.verb.specs.Verbs.{verb_of}
use Rattle.verb.specs.declared.Verb.{Verb}
use Rattle.words.specs.Numbers.{number_of}
use Rattle.words.specs.Tokens.{Sort, number, atom, name}
use Rattle.words.specs.Unread.{Unread}
use Rattle.words.specs.declared.misread.Misread.{Misread}

-- what a word of each sort says
abbrev pub as_verb : Sort → Option Verb
as_verb (name w) = verb_of w
as_verb (number w) = None
as_verb (atom letter w) = None

abbrev pub as_number : Sort → Option ℕ
as_number (number w) = number_of w
as_number (atom letter w) = None
as_number (name w) = None

abbrev pub as_atom : Sort → Option AxisWord
as_atom (atom letter w) = atom_of letter w
as_atom (number w) = None
as_atom (name w) = None

-- a line that is not understood at a column
abbrev pub misread : ℕ → Misread
misread column = record { column = column }

-- a value and what is left of the line, or a column
abbrev pub Taken : Type 0 → Type 0
Taken V = Result (V × Unread) Misread

abbrev pub understood : {V : Type 0} → Option V → ℕ → Unread → Taken V
understood (Some v) column left = Ok (v, left)
understood None column left = Err (misread column)

abbrev pub take_from : {V : Type 0} → (Sort → Option V) → ℕ → List (ℕ × Sort) → Taken V
take_from says end [] = Err (misread end)
take_from says end (w ∷ ws) = understood (says w.1) w.0 (record { words = ws; end = end })

-- the next word, or the end's column where none is left
abbrev pub take : {V : Type 0} → (Sort → Option V) → Unread → Taken V
take says line = take_from says line.end line.words

abbrev pub and_then : {V W : Type 0} → Taken V → (V → Unread → Result W Misread) → Result W Misread
and_then (Ok p) go = go p.0 p.1
and_then (Err e) go = Err e

abbrev pub alone_among : {V : Type 0} → V → List (ℕ × Sort) → Result V Misread
alone_among v [] = Ok v
alone_among v (w ∷ ws) = Err (misread w.0)

-- a value, if no word is left over
abbrev pub alone : {V : Type 0} → V → Unread → Result V Misread
alone v line = alone_among v line.words

-- one operand, two or three, and what is made of them
abbrev pub one_of : {A C : Type 0} → (Sort → Option A) → (A → C) → Unread → Taken C
one_of says made line = and_then (take says line) (λ a line. Ok (made a, line))

abbrev pub two_of : {A B C : Type 0} → (Sort → Option A) → (Sort → Option B) → (A → B → C) → Unread → Taken C
two_of says_first says made line = and_then (take says_first line) (λ a line. one_of says (made a) line)

abbrev pub three_of : {A B C D : Type 0} → (Sort → Option A) → (Sort → Option B) → (Sort → Option C) → (A → B → C → D) → Unread → Taken D
three_of says_first says_second says made line = and_then (take says_first line) (λ a line. two_of says_second says (made a) line)

-- what was read, with what is left of the line
abbrev pub took : {V : Type 0} → Result V Misread → Unread → Taken V
took (Ok v) left = Ok (v, left)
took (Err e) left = Err e
