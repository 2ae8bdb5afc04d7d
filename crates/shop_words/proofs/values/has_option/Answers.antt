use Rattle.std.proofs.Common.{◌∙◌}
use Rattle.clap.specs.Words.{found_of}
use Rattle.clap.proofs.WalkLemmas.{first_value-rows}
use Rattle.shop_words.proofs.Asked.{some_mapped}
use Rattle.shop_words.proofs.values.has_option.Goals as goal

pub returns : goal.returns
returns c = c.is_some.ensures ∙ some_mapped (λ s. s.now) c.get_str.result _ (c.get_str.ensures ∙ first_value-rows (found_of c.args.matches.now) c.args.name.now)
