use Rattle.std.proofs.Common.{◌≡◌, drop, map}
use Rattle.shop_words.specs.CommandLine.{bad_origin}
use Rattle.shop_words.proofs.served.first_bad.Given as goal

abbrev pub invariant-loop-text : goal.invariant-loop-text
invariant-loop-text l = bad_origin (map (λ t. t.now) (drop l.text-index l.texts)) ≡ bad_origin (map (λ t. t.now) l.texts)
