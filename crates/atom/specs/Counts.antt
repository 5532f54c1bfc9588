-- The kind count: whole numbers from −2^29 to 2^29 − 1, each at its value plus 2^30.
use Rattle.std.specs.Prelude.{◌≡◌, ℕ, ◌+◌, ◌^◌, cond, ◌&&◌, ℤ, pos, negsuc, Some, None, Ok, Err, Option, Result, nat_le, nat_lt}
use Rattle.atom.specs.Placed.{around, offset}
use Rattle.atom.specs.Refused.{kind_report}
use Rattle.atom.specs.declared.count.Count.{Count}
use Rattle.atom.specs.declared.faults.KindFault.TheVariants.{OutOfRange}
use Rattle.atom.specs.declared.faults.KindFault.{KindFault}

abbrev pub count : ℤ → Count
count v = record { value = v }

abbrev pub count_code : Count → Result ℕ KindFault
count_code c = around (2 ^ 29) (2 ^ 30) c.value

abbrev pub count_read : ℕ → Option Count
count_read w = cond (nat_le (2 ^ 29) w && nat_lt w (2 ^ 30 + 2 ^ 29)) (Some (count (offset (2 ^ 30) w))) None

-- worked values: zero, the least count, and one above the most, which is refused with 8
abbrev pub CountValues : Type 0
CountValues =
    (count_code (count (pos 0)) ≡ Ok 1073741824)
    × (count_code (count (negsuc 536870911)) ≡ Ok 536870912)
    × (count_code (count (pos 536870912)) ≡ Err OutOfRange)
    × ((kind_report OutOfRange).number ≡ 8)
