use Rattle.std.proofs.Common.{◌≡◌, ◌<◌, ◌^◌, take}
use Rattle.std.specs.Str.Parse.{AllDigits, digits_value}
use Rattle.cut_measure.proofs.numbers.digits_value_of.Given as goal

abbrev pub invariant-loop-digit : goal.invariant-loop-digit
invariant-loop-digit l = AllDigits 10 (take l.digit-index l.digits) × (l.value ≡ digits_value 10 (take l.digit-index l.digits)) × (l.value < 2 ^ 32)
