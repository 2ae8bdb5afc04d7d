use Rattle.std.proofs.Common.{◌≤◌, ◌∙◌, codes, rules, sym}
use Rattle.clap.specs.Words.{found_of, rows_of}
use Rattle.clap.proofs.WalkLemmas.{first_value-rows}
use Rattle.shop_words.specs.declared.words.TheConstants.{MAX_SIZES}
use Rattle.shop_words.specs.CommandLine.{times_given}
use Rattle.shop_words.proofs.Asked.{no_value}
use Rattle.shop_words.proofs.planned.order_plan.Goals as goal

pub returns-in_err-file : goal.returns-in_err-file
returns-in_err-file c =
    let found = found_of c.args.plan.now in
    rw c.from_residual.ensures
    (λ plan asked. no_value (codes "FILE") (rows_of found) (sym (c.in_err-file.ensures ∙ first_value-rows found (codes "FILE"))) plan.file.now asked.0)

pub returns-in_err-shop : goal.returns-in_err-shop
returns-in_err-shop c =
    let found = found_of c.args.plan.now in
    rw c.from_residual-in_err-shop.ensures
    (λ plan asked. no_value (codes "shop") (rows_of found) (sym (c.in_err-shop.ensures ∙ first_value-rows found (codes "shop"))) plan.shop.now asked.1)

pub returns-in_err-material : goal.returns-in_err-material
returns-in_err-material c =
    let found = found_of c.args.plan.now in
    rw c.from_residual-in_err-material.ensures
    (λ plan asked. no_value (codes "material") (rows_of found) (sym (c.in_err-material.ensures ∙ first_value-rows found (codes "material"))) plan.material.now asked.2)

pub returns : goal.returns
returns c =
    let found = found_of c.args.plan.now in
    let few : times_given (codes "size") (rows_of found) ≤ MAX_SIZES = search rules in (
      sym (c.in_ok-file.ensures ∙ first_value-rows found (codes "FILE")),
      sym (c.in_ok-shop.ensures ∙ first_value-rows found (codes "shop")),
      sym (c.in_ok-material.ensures ∙ first_value-rows found (codes "material")),
      c.in_ok-calls.ensures,
      c.in_ok-stages.ensures,
      c.is_whole.ensures.0 c.if-not-is_whole.false,
      sym c.has_measures.ensures ∙ c.if-has_measures.false,
      sym c.has_option.ensures ∙ c.if-not-has_option.false,
      few,
      c.requires,
    )
