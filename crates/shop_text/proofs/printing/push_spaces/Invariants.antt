use Rattle.std.proofs.Common.{◌≡◌, ◌++◌}
use Rattle.std.specs.Prelude.{replicate, string_bytes}
use Rattle.shop_text.proofs.printing.push_spaces.Given as goal

abbrev pub invariant-loop-done : goal.invariant-loop-done
invariant-loop-done l = string_bytes l.text ≡ string_bytes l.fn.text ++ replicate l._done 32
