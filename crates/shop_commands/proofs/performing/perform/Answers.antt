use Rattle.std.proofs.Common.{inl, inr, map, refl, subst}
use Rattle.std.specs.Prelude.{string_bytes}
use Rattle.clap.specs.Words.{subcommand_of}
use Rattle.shop_words.specs.CommandLine.{shop_app}
use Rattle.shop_words.specs.Mistakes.{IsRead}
use Rattle.shop_words.proofs.AskedMeasures.{measured}
use Rattle.shop_commands.proofs.Concluded.{concluded}
use Rattle.shop_commands.proofs.performing.perform.Goals as goal

pub returns-in-Ok-Mistake-clause-done : goal.returns-in-Ok-Mistake-clause-done
returns-in-Ok-Mistake-clause-done g c =
    let asks = subst (IsRead (subcommand_of shop_app (map string_bytes c.args.words.now))) c.in-Ok-Mistake.field-0-is c.in-Ok-Mistake.ensures.ok.1 in
    inr (inr (c.in-Ok-Mistake.ensures.ok.0, asks.0, (c.in-Ok-Mistake.mistake, asks.1, c.report_mistake.ensures), refl))

pub do_request-outcome-requires : goal.do_request-outcome-requires
do_request-outcome-requires g c =
    let asked = subst (IsRead (subcommand_of shop_app (map string_bytes c.args.words.now))) c.in-Ok-Request.field-0-is c.in-Ok-Request.ensures.ok.1 in
    measured (subcommand_of shop_app (map string_bytes c.args.words.now)) c.in-Ok-Request.request asked

pub returns-in-Ok-Request-clause-done : goal.returns-in-Ok-Request-clause-done
returns-in-Ok-Request-clause-done g c =
    let asks = subst (IsRead (subcommand_of shop_app (map string_bytes c.args.words.now))) c.in-Ok-Request.field-0-is c.in-Ok-Request.ensures.ok.1 in
    inl (
      c.in-Ok-Request.request,
      c.in-Ok-Request.ensures.ok.0,
      asks,
      concluded c.do_request-outcome.result _ _ _ _ c.do_request-outcome.ensures.ok c.do_request-outcome.ensures.err c.conclude.ensures,
    )
