use Rattle.std.proofs.Common.{◌≡◌, drop}
use Rattle.clap.specs.Words.{app_of}
use Rattle.shop_words.specs.CommandLine.{added_in_turn, with_word}
use Rattle.shop_words.proofs.commands.with_words.Given as goal

abbrev pub invariant-loop-word : goal.invariant-loop-word
invariant-loop-word l = added_in_turn with_word (app_of l.command) (drop l.word-index l.words) ≡ added_in_turn with_word (app_of l.fn.program) l.words
