-- How a whole number, negative or not, lies among the words.
use Rattle.std.specs.Prelude.{ℕ, suc, ◌+◌, ◌-◌, cond, ℤ, pos, negsuc, Ok, Err, Result, nat_le, nat_lt}
use Rattle.atom.specs.declared.faults.KindFault.TheVariants.{OutOfRange}
use Rattle.atom.specs.declared.faults.KindFault.{KindFault}

-- the numbers from −half to half − 1, in order, with zero at the word `zeroth`
abbrev pub around : ℕ → ℕ → ℤ → Result ℕ KindFault
around half zeroth (pos n) = cond (nat_lt n half) (Ok (zeroth + n)) (Err OutOfRange)
around half zeroth (negsuc n) = cond (nat_lt n half) (Ok (zeroth - suc n)) (Err OutOfRange)

-- the number that lies at a word, with zero at the word `zeroth`
abbrev pub offset : ℕ → ℕ → ℤ
offset zeroth w = cond (nat_le zeroth w) (pos (w - zeroth)) (negsuc (zeroth - suc w))
