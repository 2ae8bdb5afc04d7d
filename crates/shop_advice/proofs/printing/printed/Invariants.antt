use Rattle.std.proofs.Common.{◌≡◌, ◌++◌, IsUtf8, string_bytes}
use Rattle.std.specs.Str.Iter.{chars_rest}
use Rattle.shop_advice.specs.Printing.{printed}
use Rattle.shop_advice.proofs.printing.printed.Given as goal

abbrev pub invariant-loop-letter : goal.invariant-loop-letter
invariant-loop-letter l =
    IsUtf8 (chars_rest l.letter-iterator)
    × (string_bytes l.printed ++ printed l.fn.has_lines (chars_rest l.letter-iterator) ≡ printed l.fn.has_lines l.fn.text)
