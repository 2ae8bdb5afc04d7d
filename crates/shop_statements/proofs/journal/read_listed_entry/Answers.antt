use Rattle.std.proofs.Common.{◌≡◌, sym, ap, ◌∙◌}
use Rattle.sqlite_value.specs.Order.{column}
use Rattle.shop_statements.specs.Found.{columns_of}
use Rattle.shop_statements.proofs.EntryValues.{one_entry}
use Rattle.shop_statements.proofs.journal.read_listed_entry.Goals as goal

pub returns : goal.returns
returns c entry value is =
    let number : c.in_ok-number.number ≡ entry.number = let e = sym c.in_ok-number.ensures ∙ ap (λ row. column row 9) is in cc in
    one_entry c.in_ok-entry.entry entry (c.in_ok-entry.ensures.number ∙ number) (sym c.in_ok-entry.ensures.exact ∙ ap (columns_of 9 0) is) c.in_ok-entry.ensures.value value
