use Rattle.std.proofs.Common.{◌≡◌, drop, false}
use Rattle.clap.specs.Words.{app_of}
use Rattle.clap.specs.declared.builder.command.Command.TheViews.{out-Command as fields_of}
use Rattle.shop_words.specs.CommandLine.{added_in_turn, command_app, with_argument}
use Rattle.shop_words.proofs.commands.new_command.Given as goal

abbrev pub invariant-loop-argument : goal.invariant-loop-argument
invariant-loop-argument l =
    (added_in_turn with_argument (app_of l.command) (drop l.argument-index l.arguments) ≡ command_app l.name l.arguments)
    × ((fields_of l.command).has_globals ≡ false)
