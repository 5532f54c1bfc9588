-- The digits read so far make `value`, and with those left they make the whole number.
use Rattle.std.proofs.Common.{◌≡◌, ◌^◌, ◌<◌, drop}
use Rattle.words.proofs.number.read_digits.Given as goal
use Rattle.words.specs.Numbers.{read_on}

abbrev pub invariant-loop-byte : goal.invariant-loop-byte
invariant-loop-byte l =
    (l.value < 10 ^ l.byte-index)
    × (read_on l.value (drop l.byte-index l.digits) ≡ read_on 0 l.digits)
