-- Numbers and atoms are read from their own text.
use Rattle.std.proofs.Common.{◌≡◌, ℕ, suc, ◌+◌, ◌-◌, ◌*◌, ◌<◌, ◌≤◌, true, false, ◌&&◌, eqb, leb, List, [], ◌∷◌, length, get_or, ℤ, pos, negsuc, neg_ℤ, Some, Option, decimal, refl, ap, ◌∙◌, arith, rules}
use Rattle.atom.specs.Shown.{axis_text}
use Rattle.atom.specs.declared.axis.AxisWord.TheVariants.{X, Y, Z, D, T}
use Rattle.atom.specs.declared.axis.AxisWord.{AxisWord}
use Rattle.command.specs.Atoms.{mapped, signed_of}
use Rattle.command.specs.Operands.{as_number, as_atom}
use Rattle.language.specs.Laws.{Short, ShortTarget, ShortAtom, Spaceless}
use Rattle.std.proofs.lemmas.Fmt.{digits_decimal, digits_value-decimal, decimal_nonempty, length-decimal-le}
use Rattle.std.proofs.lemmas.Str.Parse.{IsNumeralModel, numerals_by_fold, tells_all_ascii_digits}
use Rattle.std.proofs.lemmas.Bool.{and_parts}
use Rattle.std.proofs.lemmas.Bool.Decides.{nat_tests}
use Rattle.std.specs.Fmt.{signed_decimal}
use Rattle.std.specs.Str.{all_ascii_digits}
use Rattle.words.specs.Numbers.{is_digit, number_of, read_on}
use Rattle.words.specs.Tokens.{Sort, number, begins, sort_of}

-- a word that may stand in a command's text
pub record Operand (w : List ℕ) : Type 0 where
  pub whole : Spaceless w
  pub small : length w ≤ 10

-- such a word, and the value that it says
pub record Says {V : Type 0} (says : Sort → Option V) (w : List ℕ) (v : V) : Type 0 where
  pub written : Operand w
  pub said : says (sort_of w) ≡ Some v

-- digits from the left, after the number so far
abbrev onward : ℕ → List ℕ → ℕ
onward n [] = n
onward n (b ∷ bs) = onward (n * 10 + (b - 48)) bs

own : IsNumeralModel (λ ds. all_ascii_digits ds ≡ true) (onward 0)
own = numerals_by_fold _ tells_all_ascii_digits onward (search rules)

digits_apart : (b : ℕ) (bs : List ℕ) → all_ascii_digits (b ∷ bs) ≡ true → (is_digit b ≡ true) × (all_ascii_digits bs ≡ true)
digits_apart b bs h = and_parts (is_digit b) (all_ascii_digits bs) h

reads_digits : (n : ℕ) (ds : List ℕ) → all_ascii_digits ds ≡ true → read_on n ds ≡ Some (onward n ds)
reads_digits n [] h = refl
reads_digits n (b ∷ bs) h =
    rw (digits_apart b bs h).0 (reads_digits (n * 10 + (b - 48)) bs (digits_apart b bs h).1)

digits_have_no_space : (ds : List ℕ) → all_ascii_digits ds ≡ true → Spaceless ds
digits_have_no_space [] h = refl
digits_have_no_space (b ∷ bs) h =
    let digit : is_digit b ≡ true = (digits_apart b bs h).0 in
    let other : eqb b 32 ≡ false = grind (arith, nat_tests) in
    rw other (digits_have_no_space bs (digits_apart b bs h).1)

first_digit : (ds : List ℕ) → all_ascii_digits ds ≡ true → 0 < length ds → is_digit (get_or ds 0 0) ≡ true
first_digit [] h some = absurd (omega arith)
first_digit (b ∷ bs) h some = (digits_apart b bs h).0

-- what a number of one to eight digits is read as
within_eight : (w : List ℕ) → 1 ≤ length w → length w ≤ 8 → number_of w ≡ read_on 0 w
within_eight w some few = grind (arith, nat_tests)

number_sort : (w : List ℕ) → 1 ≤ length w → is_digit (get_or w 0 0) ≡ true → sort_of w ≡ number w
number_sort w some digit =
    let begun : (leb 1 (length w) && is_digit (get_or w 0 0)) ≡ true = grind (arith, nat_tests) in
    rw begun refl

module _ (n : ℕ) (short : Short n) where
  digits : all_ascii_digits (decimal n) ≡ true
  digits = digits_decimal own n (omega arith)

  some : 1 ≤ length (decimal n)
  some = decimal_nonempty n (omega arith)

  few : length (decimal n) ≤ 8
  few = length-decimal-le 8 n (omega arith) (omega arith) (omega arith)

  number_returns : number_of (decimal n) ≡ Some n
  number_returns =
      within_eight (decimal n) some few ∙ reads_digits 0 (decimal n) digits ∙ ap Some (digits_value-decimal own n (omega arith))

  number_operand : Operand (decimal n)
  number_operand = record { whole = digits_have_no_space (decimal n) digits; small = omega (arith, few) }

  pub number_says : Says as_number (decimal n) n
  number_says =
      record {
        written = number_operand;
        said = ap as_number (number_sort (decimal n) some (first_digit (decimal n) digits some)) ∙ number_returns;
      }

  not_a_minus : begins (decimal n) 45 ≡ false
  not_a_minus =
      let digit : is_digit (get_or (decimal n) 0 0) ≡ true = first_digit (decimal n) digits some in
      grind (arith, nat_tests)

begins_with : (b : ℕ) (w : List ℕ) → begins (b ∷ w) b ≡ true
begins_with b w = grind (arith, nat_tests)

signed_returns : (z : ℤ) → ShortTarget z → signed_of (signed_decimal z) ≡ Some z
signed_returns (pos n) short = rw (not_a_minus n short) (ap (mapped (λ k. pos k)) (number_returns n short))
signed_returns (negsuc n) short =
    rw (begins_with 45 (decimal (suc n))) (ap (mapped (λ k. neg_ℤ (pos k))) (number_returns (suc n) (omega arith)))

signed_spaceless : (z : ℤ) → ShortTarget z → Spaceless (signed_decimal z)
signed_spaceless (pos n) short = (number_operand n short).whole
signed_spaceless (negsuc n) short = (number_operand (suc n) (omega arith)).whole

signed_small : (z : ℤ) → ShortTarget z → length (signed_decimal z) ≤ 9
signed_small (pos n) short = omega (arith, few n short)
signed_small (negsuc n) short = let k : length (decimal (suc n)) ≤ 8 = few (suc n) (omega arith) in omega arith

-- a word of a letter and a number has the letter's sort
some_first : (w : List ℕ) → leb 1 (suc (length w)) ≡ true
some_first w = grind (arith, nat_tests)

atom_word : (a : AxisWord) → ShortAtom a → as_atom (sort_of (axis_text a)) ≡ Some a
atom_word (X target) short = rw (some_first (signed_decimal target)) (ap (mapped X) (signed_returns target short))
atom_word (Y target) short = rw (some_first (signed_decimal target)) (ap (mapped Y) (signed_returns target short))
atom_word (Z target) short = rw (some_first (signed_decimal target)) (ap (mapped Z) (signed_returns target short))
atom_word (D milliseconds) short = rw (some_first (decimal milliseconds)) (ap (mapped D) (number_returns milliseconds short))
atom_word (T tool) short = rw (some_first (decimal tool)) (ap (mapped T) (number_returns tool short))

atom_operand : (a : AxisWord) → ShortAtom a → Operand (axis_text a)
atom_operand (X target) short = record { whole = signed_spaceless target short; small = omega (arith, signed_small target short) }
atom_operand (Y target) short = record { whole = signed_spaceless target short; small = omega (arith, signed_small target short) }
atom_operand (Z target) short = record { whole = signed_spaceless target short; small = omega (arith, signed_small target short) }
atom_operand (D milliseconds) short = record { whole = (number_operand milliseconds short).whole; small = omega (arith, few milliseconds short) }
atom_operand (T tool) short = record { whole = (number_operand tool short).whole; small = omega (arith, few tool short) }

pub atom_says : (a : AxisWord) → ShortAtom a → Says as_atom (axis_text a) a
atom_says a short = record { written = atom_operand a short; said = atom_word a short }
