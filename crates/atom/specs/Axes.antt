-- The kind axis word: a tag times 2^24 plus a payload.
use Rattle.std.specs.Prelude.{◌≡◌, ℕ, ◌+◌, ◌*◌, ◌/◌, ◌%◌, ◌^◌, cond, ◌&&◌, ℤ, pos, negsuc, Some, None, Ok, Err, Option, Result, ◌==◌, nat_lt}
use Rattle.atom.specs.Placed.{around, offset}
use Rattle.atom.specs.declared.axis.AxisWord.TheVariants.{X, Y, Z, D, T}
use Rattle.atom.specs.declared.axis.AxisWord.{AxisWord}
use Rattle.atom.specs.declared.faults.KindFault.TheVariants.{OutOfRange}
use Rattle.atom.specs.declared.faults.KindFault.{KindFault}

-- a move to a target in micrometres: the payload is the target plus 2^23
abbrev pub move_code : ℕ → ℤ → Result ℕ KindFault
move_code tag target = around (2 ^ 23) (tag * 2 ^ 24 + 2 ^ 23) target

-- a plain number below a limit
abbrev pub plain_code : ℕ → ℕ → ℕ → Result ℕ KindFault
plain_code tag limit n = cond (nat_lt n limit) (Ok (tag * 2 ^ 24 + n)) (Err OutOfRange)

abbrev pub axis_code : AxisWord → Result ℕ KindFault
axis_code (X target) = move_code 1 target
axis_code (Y target) = move_code 2 target
axis_code (Z target) = move_code 3 target
axis_code (D milliseconds) = plain_code 4 (2 ^ 24) milliseconds
axis_code (T tool) = plain_code 5 256 tool

-- the axis word of a tag and a payload
abbrev pub axis_of : ℕ → ℕ → Option AxisWord
axis_of tag payload =
    cond (tag == 1) (Some (X (offset (2 ^ 23) payload)))
    (cond (tag == 2) (Some (Y (offset (2 ^ 23) payload)))
    (cond (tag == 3) (Some (Z (offset (2 ^ 23) payload)))
    (cond (tag == 4) (Some (D payload))
    (cond (tag == 5 && nat_lt payload 256) (Some (T payload)) None))))

abbrev pub axis_read : ℕ → Option AxisWord
axis_read w = axis_of (w / 2 ^ 24) (w % 2 ^ 24)

-- worked values: X1500, Z-1, T3, T256, and the word that T256 would have
abbrev pub AxisValues : Type 0
AxisValues =
    (axis_code (X (pos 1500)) ≡ Ok 25167324)
    × (axis_code (Z (negsuc 0)) ≡ Ok 58720255)
    × (axis_code (T 3) ≡ Ok 83886083)
    × (axis_code (T 256) ≡ Err OutOfRange)
    × (axis_read 83886336 ≡ None)
