use Rattle.std.proofs.Common.{◌∙◌, sym}
use Rattle.clap.specs.Words.{found_of}
use Rattle.clap.proofs.WalkLemmas.{first_value-rows}
use Rattle.shop_words.proofs.mistakes.no_code.Goals as goal

pub returns-in-None : goal.returns-in-None
returns-in-None c =
    (sym (c.in_ok-text.ensures ∙ first_value-rows (found_of c.args.values.now) c.args.name.now), sym c.in-None.ensures)
