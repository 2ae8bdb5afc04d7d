use Rattle.std.proofs.Common.{◌∙◌, ap}
use Rattle.clap.specs.Words.{App, app_of, with_subcommand}
use Rattle.shop_words.specs.CommandLine.{with_word}
use Rattle.shop_words.proofs.InTurn.{next_added}
use Rattle.shop_words.proofs.commands.with_words.Goals as goal

pub loop-word-preserved : goal.loop-word-preserved
loop-word-preserved c =
    let added = c.in_ok-added.ensures in
    let is = c.in_ok-command.ensures.shape added.1 ∙ ap (λ (a : App). with_subcommand (app_of c.loop-word.command) a.top) added.0 in
    next_added with_word _ _ c.args.words.now c.loop-word.word-index _ c.loop-word-test.true is ∙ c.loop-word.invariant
