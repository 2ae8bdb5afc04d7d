-- The answer to a `plans` query, as JSON.
use Rattle.std.specs.Prelude.{ℕ, List, codes}
use Rattle.cut_measure.specs.Names.{Name, name_text}
use Rattle.serde_json.specs.Data.{Data, object, string, member, no_members}
use Rattle.serde_json.specs.Written.{compact_text}
use Rattle.shop_forms.specs.Fields.{text_member, number_member, flag_member}
use Rattle.shop_forms.specs.Forms.{rows_data}
use Rattle.shop_records.specs.Messages.{IsWide}
use Rattle.shop_plans.specs.declared.answers.MissingPieces.{MissingPieces}
use Rattle.shop_plans.specs.declared.answers.DemandPrice.{DemandPrice}
use Rattle.shop_plans.specs.declared.answers.ReportedPlan.{ReportedPlan}
use Rattle.shop_plans.specs.declared.answers.PlansReply.{PlansReply}

abbrev pub name_data : Name → Data
name_data name = string (name_text name)

abbrev pub missing_data : MissingPieces → Data
missing_data m = object (number_member (codes "demand") m.demand (number_member (codes "pieces") m.pieces no_members))

abbrev pub price_data : DemandPrice → Data
price_data p = object (number_member (codes "demand") p.demand (number_member (codes "worth") p.worth no_members))

abbrev pub plan_data : ReportedPlan → Data
plan_data p =
    object (number_member (codes "buy") p.buy (number_member (codes "h") p.h (member (codes "parts") (rows_data name_data p.parts)
    (text_member (codes "tree") p.tree (number_member (codes "w") p.w no_members)))))

-- an answer as an object, its keys in byte order
abbrev pub plans_data : PlansReply → Data
plans_data r =
    object (number_member (codes "bound") r.bound (number_member (codes "cost") r.cost
    (member (codes "missing") (rows_data missing_data r.missing) (text_member (codes "ok") (codes "plans")
    (member (codes "plans") (rows_data plan_data r.plans.items) (member (codes "prices") (rows_data price_data r.prices)
    (flag_member (codes "proved") r.proved (number_member (codes "rest") r.rest (flag_member (codes "short") r.short
    (number_member (codes "step") r.step no_members))))))))))

-- the text of an answer: compact JSON
unfoldable pub plans_text : PlansReply → List ℕ
plans_text r = compact_text (plans_data r)

-- each number has 64 bits
abbrev pub HasWidePieces : MissingPieces → Type 0
HasWidePieces m = IsWide m.demand × IsWide m.pieces

abbrev pub HasWideWorth : DemandPrice → Type 0
HasWideWorth p = IsWide p.demand × IsWide p.worth

abbrev pub HasWideCounts : ReportedPlan → Type 0
HasWideCounts p = IsWide p.buy × IsWide p.h × IsWide p.w
