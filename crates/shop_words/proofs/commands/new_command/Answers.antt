use Rattle.std.proofs.Common.{◌∙◌, ◌||◌, ap, ap₂}
use Rattle.clap.specs.Words.{with_rule}
use Rattle.shop_words.specs.CommandLine.{with_argument}
use Rattle.shop_words.proofs.InTurn.{next_added}
use Rattle.shop_words.proofs.commands.new_command.Goals as goal

pub loop-argument-preserved : goal.loop-argument-preserved
loop-argument-preserved c =
    let arg = c.arg_of.ensures in
    let added = c.in_ok-command.ensures in
    let is = added.shape arg.1 ∙ ap (with_rule _) arg.0 in (
      next_added with_argument _ _ c.args.arguments.now c.loop-argument.argument-index _ c.loop-argument-test.true is ∙ c.loop-argument.invariant.0,
      added.globals ∙ ap₂ (λ a b. a || b) c.loop-argument.invariant.1 arg.1,
    )
