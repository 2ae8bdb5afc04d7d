use Rattle.std.proofs.Common.{◌∙◌, ap}
use Rattle.std.proofs.lemmas.Result.{IfOk-weaker}
use Rattle.shop_words.specs.declared.words.TheConstants.{WORDS}
use Rattle.shop_words.specs.CommandLine.{added_in_turn, with_word}
use Rattle.shop_words.proofs.commands.command_of.Goals as goal

pub returns : goal.returns
returns c = IfOk-weaker c.with_words.result _ _ (λ r h. h ∙ ap (λ app. added_in_turn with_word app WORDS) c.program.ensures) c.with_words.ensures
