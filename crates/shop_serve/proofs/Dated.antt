-- Messages that were given the time that was read.
use Rattle.std.proofs.Common.{◌≡◌, ◌≢◌, ℕ, List, true, inl, inr, refl, sym, ap, subst}
use Rattle.std.specs.Prelude.{◌⊎◌, Option, Some, None, IfSome}
use Rattle.shop_book.specs.declared.books.Book.{Ghosts}
use Rattle.shop_request.specs.Guards.{HasVerdict}
use Rattle.shop_request.specs.Parses.{IsHeadFault, MayBeEither}
use Rattle.shop_request.specs.Requests.{ParseResult, silent, faulty, asking, ParsesTo}
use Rattle.shop_request.specs.declared.guards.Verdict.{Verdict}
use Rattle.shop_request.specs.declared.guards.Verdict.TheVariants.{Routed}
use Rattle.shop_request.proofs.Guarding.{one_verdict}
use Rattle.shop_request.proofs.Uniqueness.{one_parse}
use Rattle.shop_wire.specs.Serves.{HandlesInputAt}
use Rattle.shop_serve.specs.declared.sites.Site.{Site}
use Rattle.shop_serve.specs.Serving.{HandlesRequestAt, asks_backup}
use Rattle.shop_serve.proofs.ServedRequests.{is_for_backup}

module _ (site : Site) {B : Type 0} (book : Ghosts B) (before after : B) (at : ℕ) where
  -- a fault is no message
  no_message : (parsed : ParseResult) → IsHeadFault parsed → HandlesInputAt book before after at parsed
  no_message parsed (inl is) = subst (HandlesInputAt book before after at) (sym is) (λ clean_disk m held well_formed. tt)
  no_message parsed (inr is) = subst (HandlesInputAt book before after at) (sym is) (λ clean_disk m held well_formed. tt)

  -- neither is what asks for a backup
  pub backup_timed : (parsed : ParseResult) → asks_backup parsed ≡ true → HandlesInputAt book before after at parsed
  backup_timed silent asks = λ clean_disk m held well_formed. tt
  backup_timed (faulty f) asks = λ clean_disk m held well_formed. tt
  backup_timed (asking route text) asks = subst (λ r. HandlesInputAt book before after at (asking r text)) (sym (is_for_backup route asks)) (λ clean_disk m held well_formed. tt)

  module _ (input : List ℕ) where
    -- what was done by one parse holds of each
    pub routed_timed : (own : ParseResult) → ParsesTo input own → HandlesInputAt book before after at own → HandlesRequestAt site book before after at input
    routed_timed own parses timed goes parsed also = by (one_parse input parsed own also parses)
      where
        by : (parsed ≡ own) ⊎ (IsHeadFault parsed × IsHeadFault own × MayBeEither input) → HandlesInputAt book before after at parsed
        by (inl same) = subst (HandlesInputAt book before after at) (sym same) timed
        by (inr faults) = no_message parsed faults.0

    -- what doesn't go to its route is handled by none
    pub unrouted_timed : (r : Verdict) → HasVerdict site.guard input r → r ≢ Routed → HandlesRequestAt site book before after at input
    unrouted_timed r has other goes = absurd (other (one_verdict site.guard input r Routed has goes))

-- the time that was given was read, where it is known
pub read_timed : (site : Site) {B : Type 0} (book : Ghosts B) (before after : B) (known : Option ℕ) (at : ℕ) (input : List ℕ) → IfSome known (λ second. at ≡ second)
    → HandlesRequestAt site book before after at input → IfSome known (λ second. HandlesRequestAt site book before after second input)
read_timed site book before after None at input is timed = tt
read_timed site book before after (Some second) at input is timed = subst (λ t. HandlesRequestAt site book before after t input) is timed
