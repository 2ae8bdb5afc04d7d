use Rattle.std.proofs.Common.{◌≡◌, ℕ, inr, subst}
use Rattle.std.specs.Prelude.{IsSome}
use Rattle.std.specs.FinMap.{find}
use Rattle.shop_records.specs.Content.{message_id_cmp}
use Rattle.shop_book.proofs.keeping.last_kept.Goals as goal

pub returns-clause-kept : goal.returns-clause-kept
returns-clause-kept c =
    let same : c.in-Some.last.terminal ≡ c.args.terminal = c.if-last-terminal.false in
    inr (subst (λ (terminal : ℕ). IsSome (find message_id_cmp (record { terminal = terminal; number = c.in-Some.last.number }) c.args.kept.now.entries)) same c.in-Some.ensures.kept)
