-- The account of a history.
use Rattle.std.proofs.Common.{◌≡◌, List, sym, ap, ◌∙◌, subst, arith}
use Rattle.shop_records.specs.declared.records.Part.{Part}
use Rattle.shop_records.specs.Messages.{Texts}
use Rattle.shop_records.specs.Content.{Content}
use Rattle.shop_records.specs.WellFormed.{IsWellFormed}
use Rattle.shop_machine.specs.Machine.{Effect}
use Rattle.shop_machine.specs.History.{Entry, effects_of, Gives, HasCellOf, IsOwner, EachPartOwnsItsCells, IsAccountOf, owner_of}
use Rattle.shop_machine.proofs.StaysWellFormed.{gives_well_formed}
use Rattle.shop_machine.proofs.Accounts.{Follows}
use Rattle.shop_machine.proofs.OrderedLines.{demands_are_lines}
use Rattle.shop_machine.proofs.Given.{follows}
use Rattle.shop_machine.proofs.CellCounts.{totals_counted}

-- the part of a cell is the one that has it
parts_own : (effects : List Effect) (content : Content) → Follows effects content → EachPartOwnsItsCells effects content
parts_own effects content says name part found x y holds =
    let row = says.rows name part found in
    let root : row.unit.name ≡ part.root = row.root in
    let cell = says.cells row.unit row.received x y (omega (arith, holds.left, row.across)) (omega (arith, holds.above, row.down)) in
    let same : part ≡ cell.part = cell.alone name part found (subst (λ unit. HasCellOf unit x y part) (sym root) holds) in
    (cell.owner, ap (λ unit. owner_of effects unit x y) (sym root) ∙ cell.owned, subst (λ (p : Part). IsOwner cell.owner x y p) (sym same) cell.same)

-- where each content that a history gives is well-formed
pub account_from : ((texts : Texts) (history : List Entry) (content : Content) → Gives texts history content → IsWellFormed texts content)
    → (texts : Texts) (history : List Entry) (content : Content) → Gives texts history content → IsAccountOf texts history content
account_from well_formed texts history content given =
    let is : IsWellFormed texts content = well_formed texts history content given in
    let says : Follows (effects_of history) content = follows texts (well_formed texts) history content given in
    record {
      given = given;
      owners = says.cells;
      parts = parts_own (effects_of history) content says;
      totals = totals_counted texts (effects_of history) content is says;
      adds_up = is.in_range.adds_up;
      demands = λ number demand found. (is.demands number demand found).counted;
      last_act = says.acts;
      last_demand = says.numbers;
      lines = demands_are_lines (effects_of history) content is.demands says.lines;
    }

-- the account of any history
pub account_of : (texts : Texts) (history : List Entry) (content : Content) → Gives texts history content → IsAccountOf texts history content
account_of = account_from gives_well_formed
