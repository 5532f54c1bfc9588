-- A command is read from its own text.
use Rattle.std.proofs.Common.{◌≡◌, ℕ, ◌+◌, ◌*◌, ◌≤◌, List, [], ◌∷◌, ◌++◌, length, Ok, Option, codes, decimal, sym, refl, ap, ◌∙◌, arith, length-append}
use Rattle.command.specs.Commands.{command_of, parsed}
use Rattle.command.specs.Operands.{as_number, take, and_then, alone, understood, one_of, two_of}
use Rattle.command.specs.declared.command.Command.TheVariants.{Open, Set, Cons, Car, Cdr, Rplaca, Rplacd, Load, Clear, Look, Same}
use Rattle.command.specs.declared.command.Command.{Command}
use Rattle.language.proofs.Numbers.{Operand, Says, number_says, atom_says}
use Rattle.language.proofs.Words.{words_cut_again}
use Rattle.language.specs.Laws.{Spaceless, Writable, command_words, rejoined, spaced_out}
use Rattle.std.proofs.lemmas.Bool.{cond_above}
use Rattle.std.specs.List.{AllByRecursion}
use Rattle.words.specs.Tokens.{Sort}
use Rattle.words.specs.Unread.{Unread, placed}

-- what is left of a line: words from a column on
abbrev left : ℕ → ℕ → List (List ℕ) → Unread
left end column ws = record { words = placed column ws; end = end }

takes : {V : Type 0} {says : Sort → Option V} {w : List ℕ} {v : V} (end column : ℕ) (rest : List (List ℕ)) → Says says w v
    → take says (left end column (w ∷ rest)) ≡ Ok (v, left end (column + length w + 1) rest)
unfolding placed
takes {w = w} end column rest s = ap (λ read. understood read column (left end (column + length w + 1) rest)) s.said

one_returns : {A C : Type 0} {says : Sort → Option A} {w : List ℕ} {a : A} (end column : ℕ) (made : A → C) → Says says w a
    → one_of says made (left end column (w ∷ [])) ≡ Ok (made a, left end (column + length w + 1) [])
one_returns end column made s = ap (λ t. and_then t (λ a line. Ok (made a, line))) (takes end column [] s)

two_return : {A B C : Type 0} {says_v : Sort → Option A} {says_w : Sort → Option B} {v w : List ℕ} {a : A} {b : B} (end column : ℕ) (made : A → B → C)
    → Says says_v v a → Says says_w w b
    → two_of says_v says_w made (left end column (v ∷ w ∷ [])) ≡ Ok (made a b, left end (column + length v + 1 + length w + 1) [])
two_return {says_w = says_w} {v = v} {w = w} {a = a} end column made s t =
    ap (λ t. and_then t (λ a line. one_of says_w (made a) line)) (takes end column (w ∷ []) s) ∙ one_returns end (column + length v + 1) (made a) t

-- the text is short enough
spaced_short : (ws : List (List ℕ)) → AllByRecursion Operand ws → length (spaced_out ws) ≤ 11 * length ws
unfolding spaced_out
spaced_short [] h = omega arith
spaced_short (w ∷ ws) h =
    let more : length (spaced_out ws) ≤ 11 * length ws = spaced_short ws h.1 in
    omega (arith, h.0.small, length-append w (spaced_out ws))

all_whole : (ws : List (List ℕ)) → AllByRecursion Operand ws → AllByRecursion Spaceless ws
all_whole [] h = tt
all_whole (w ∷ ws) h = (h.0.whole, all_whole ws h.1)

-- a line of a command word and at most three operands
line_returns : (w : List ℕ) (ws : List (List ℕ)) (command : Command) → Spaceless w → length w ≤ 6 → AllByRecursion Operand ws → length ws ≤ 3
    → ((end : ℕ) → command_of (left end 1 (w ∷ ws)) ≡ Ok command)
    → parsed (rejoined (w ∷ ws)) ≡ Ok command
unfolding rejoined
line_returns w ws command whole small each few reads =
    let line : List ℕ = w ++ spaced_out ws in
    let short : length line ≤ 64 = omega (arith, length-append w (spaced_out ws), spaced_short ws each) in
    sym (cond_above 64 (length line) _ _ _ short refl)
    ∙ ap (λ vs. command_of (left (length line + 1) 1 vs)) (words_cut_again w ws (whole, all_whole ws each))
    ∙ reads (length line + 1)

-- a command word with one operand or two, once they are read as those of its command
module _ (w : List ℕ) (whole : Spaceless w) (small : length w ≤ 6) where
  with_one : {A : Type 0} {says : Sort → Option A} {v : List ℕ} {a : A} (made : A → Command) → Says says v a
      → ((end : ℕ) → command_of (left end 1 (w ∷ v ∷ [])) ≡ and_then (one_of says made (left end (1 + length w + 1) (v ∷ []))) alone)
      → parsed (rejoined (w ∷ v ∷ [])) ≡ Ok (made a)
  unfolding placed
  with_one {v = v} {a = a} made s reads =
      line_returns w (v ∷ []) (made a) whole small (s.written, tt) (omega arith)
      (λ end. reads end ∙ ap (λ t. and_then t alone) (one_returns end (1 + length w + 1) made s))

  with_two : {A B : Type 0} {says_u : Sort → Option A} {says_v : Sort → Option B} {u v : List ℕ} {a : A} {b : B} (made : A → B → Command) → Says says_u u a → Says says_v v b
      → ((end : ℕ) → command_of (left end 1 (w ∷ u ∷ v ∷ [])) ≡ and_then (two_of says_u says_v made (left end (1 + length w + 1) (u ∷ v ∷ []))) alone)
      → parsed (rejoined (w ∷ u ∷ v ∷ [])) ≡ Ok (made a b)
  unfolding placed
  with_two {u = u} {v = v} {a = a} {b = b} made s t reads =
      line_returns w (u ∷ v ∷ []) (made a b) whole small (s.written, (t.written, tt)) (omega arith)
      (λ end. reads end ∙ ap (λ t. and_then t alone) (two_return end (1 + length w + 1) made s t))

-- the one command of three operands
cons_returns : (d a b : ℕ) → Says as_number (decimal d) d → Says as_number (decimal a) a → Says as_number (decimal b) b
    → parsed (rejoined (codes "cons" ∷ decimal d ∷ decimal a ∷ decimal b ∷ [])) ≡ Ok (Cons d a b)
unfolding command_of placed
cons_returns d a b s t u =
    line_returns (codes "cons") (decimal d ∷ decimal a ∷ decimal b ∷ []) (Cons d a b) refl (omega arith) (s.written, (t.written, (u.written, tt))) (omega arith)
    (λ end.
    ap (λ t. and_then (and_then t (λ d line. two_of as_number as_number (Cons d) line)) alone) (takes end 6 (decimal a ∷ decimal b ∷ []) s)
    ∙ ap (λ t. and_then t alone) (two_return end (6 + length (decimal d) + 1) (Cons d) t u))

pub commands_return : (command : Command) → Writable command → parsed (rejoined (command_words command)) ≡ Ok command
unfolding command_of placed
commands_return (Open pace limit) h = with_two (codes "open") refl (omega arith) Open (number_says pace h.0) (number_says limit h.1) (λ end. refl)
commands_return (Set d a) h = with_two (codes "set") refl (omega arith) Set (number_says d h.0) (atom_says a h.1) (λ end. refl)
commands_return (Cons d a b) h = cons_returns d a b (number_says d h.0) (number_says a h.1) (number_says b h.2)
commands_return (Car d r) h = with_two (codes "car") refl (omega arith) Car (number_says d h.0) (number_says r h.1) (λ end. refl)
commands_return (Cdr d r) h = with_two (codes "cdr") refl (omega arith) Cdr (number_says d h.0) (number_says r h.1) (λ end. refl)
commands_return (Rplaca r v) h = with_two (codes "rplaca") refl (omega arith) Rplaca (number_says r h.0) (number_says v h.1) (λ end. refl)
commands_return (Rplacd r v) h = with_two (codes "rplacd") refl (omega arith) Rplacd (number_says r h.0) (number_says v h.1) (λ end. refl)
commands_return (Load d r) h = with_two (codes "load") refl (omega arith) Load (number_says d h.0) (number_says r h.1) (λ end. refl)
commands_return (Clear d) h = with_one (codes "clear") refl (omega arith) Clear (number_says d h) (λ end. refl)
commands_return (Look r) h = with_one (codes "look") refl (omega arith) Look (number_says r h) (λ end. refl)
commands_return (Same a b) h = with_two (codes "same") refl (omega arith) Same (number_says a h.0) (number_says b h.1) (λ end. refl)
