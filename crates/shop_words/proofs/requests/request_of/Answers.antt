use Rattle.std.proofs.Common.{◌≡◌, ◌∙◌, List, [], true, ap, map, refl, sym, subst}
use Rattle.std.specs.Prelude.{string_bytes}
use Rattle.clap.specs.Kinds.{HasKind}
use Rattle.std.proofs.lemmas.Result.{err_from_is_err_and}
use Rattle.clap.specs.Words.{App, HasMatchesOf, Text, app_of, is_simple, subcommand_of, subcommand_rows_of}
use Rattle.clap.specs.Faults.{fault_of, is_simple_and_free}
use Rattle.clap.specs.declared.builder.command.Command.{Command}
use Rattle.clap.specs.declared.parser.matches.ArgMatches.{ArgMatches}
use Rattle.clap.proofs.OnLiterals.{clap_on_literals}
use Rattle.shop_words.specs.CommandLine.{shop_app}
use Rattle.shop_words.specs.Mistakes.{IsRead}
use Rattle.shop_words.proofs.requests.request_of.Goals as goal

simple : is_simple shop_app ≡ true
unfolding clap_on_literals
simple = refl

free : is_simple_and_free shop_app ≡ true
unfolding clap_on_literals
free = refl

-- `clap` found nothing wrong with the words, and read this command from them
nothing_wrong : (command : Command) (words : List Text) → app_of command ≡ shop_app → (is_simple_and_free (app_of command) ≡ true → fault_of (app_of command) words ≡ [])
    → fault_of shop_app words ≡ []
nothing_wrong command words app kinds = ap (λ a. fault_of a words) (sym app) ∙ kinds (ap is_simple_and_free app ∙ free)

command_read : (command : Command) (words : List Text) (m : ArgMatches) → app_of command ≡ shop_app → HasMatchesOf (app_of command) words m
    → subcommand_rows_of m ≡ subcommand_of shop_app words
command_read command words m app matches = (matches (ap is_simple app ∙ simple)).1 ∙ ap (λ a. subcommand_of a words) app

pub returns-clause-ok : goal.returns-clause-ok
returns-clause-ok c =
    let command = c.in_ok-command.command in
    let words = map string_bytes c.args.words.now in
    let taken = nothing_wrong command words c.in_ok-command.ensures c.in_ok-matches.ensures.kinds in
    let read = command_read command words c.in_ok-matches.matches c.in_ok-command.ensures c.in_ok-matches.ensures.matches in
    (taken, subst (λ found. IsRead found c.in_ok-reading.reading) read c.in_ok-reading.ensures)

pub returns-in_err-matches-clause-err : goal.returns-in_err-matches-clause-err
returns-in_err-matches-clause-err c =
    let command = c.in_ok-command.command in
    let words = map string_bytes c.args.words.now in
    let app = c.in_ok-command.ensures in
    let kinds = c.in_err-matches.ensures.kinds (ap is_simple_and_free app ∙ free) in
    let p = err_from_is_err_and c.from_residual-in_err-matches.result c.from_residual-in_err-matches.ensures.1 in
    rw (p.1, p.2) (subst (λ (a : App). HasKind (fault_of a words) c.in_err-matches.field-0.0) app kinds)
