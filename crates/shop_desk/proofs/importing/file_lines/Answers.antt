use Rattle.std.proofs.Common.{sym, subst, ◌∙◌}
use Rattle.shop_files.specs.Orders.{IsOrders}
use Rattle.shop_desk.proofs.importing.file_lines.Goals as goal

pub returns-in-Err-At : goal.returns-in-Err-At
returns-in-Err-At c =
    λ lines spelled.
    let only = c.in-Err-At.ensures.only lines (subst (λ t. IsOrders t lines) (sym (c.as_bytes.ensures.value ∙ c.as_str.ensures.value)) spelled) in
    let is = c.in-Err-At.field-0-is in
    cc
