use Rattle.std.proofs.Common.{◌≡◌, ◌^◌, ◌<◌, drop}
use Rattle.std.specs.Str.{all_ascii_digits}
use Rattle.words.specs.Numbers.{value, value_after}
use Rattle.words.proofs.numbers.number.Given as goal

-- the value so far goes on to the whole value over the digits that are not yet read
abbrev pub invariant-loop-digit : goal.invariant-loop-digit
invariant-loop-digit l =
    (value_after l.value (drop l.digit-index l.digits) ≡ value l.digits)
    × (all_ascii_digits (drop l.digit-index l.digits) ≡ all_ascii_digits l.digits) × (l.value < 10 ^ l.digit-index)
