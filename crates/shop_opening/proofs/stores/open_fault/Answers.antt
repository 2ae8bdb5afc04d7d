use Rattle.std.proofs.Common.{◌≡◌, ◌∙◌, refl, sym, subst}
use Rattle.sqlite.specs.declared.error.ErrorCode.{ErrorCode}
use Rattle.shop_opening.specs.Openings.{IsCodeFault}
use Rattle.shop_opening.proofs.stores.open_fault.Goals as goal

pub returns-in-SqliteFailure : goal.returns-in-SqliteFailure
returns-in-SqliteFailure c = record {
  coded = λ code is.
      let both = sym c.in-SqliteFailure.is ∙ is in
      let same : c.in-SqliteFailure.code ≡ code = cc in
      subst (λ (e : ErrorCode). IsCodeFault e c.code_fault.result) same c.code_fault.ensures;
  other = λ none. absurd (none c.in-SqliteFailure.code c.in-SqliteFailure.is);
}

pub returns-in_default : goal.returns-in_default
returns-in_default c = record { coded = λ code is. absurd (c.in_default.not-SqliteFailure code is); other = λ _. (c.other_cause.result, refl) }
