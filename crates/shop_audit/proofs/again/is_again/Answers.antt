use Rattle.std.proofs.Common.{◌≡◌, ◌∙◌, ap, rules, subst, sym}
use Rattle.std.specs.Prelude.{Some}
use Rattle.std.specs.FinMap.{FinMap, get}
use Rattle.shop_records.specs.Content.{entry_at, kept_at, message_id_cmp}
use Rattle.shop_records.specs.declared.texts.Kept.{Kept}
use Rattle.shop_audit.proofs.again.is_again.Goals as goal

pub returns-clause-given : goal.returns-clause-given
returns-clause-given g c clean m held clean_anew w count alike there next part =
    let second = c.in_ok-kept.ensures in
    let entry = c.args.entry.now in
    let own : entry.number ≡ c.args.number = search rules in
    let entered : entry_at w c.args.number ≡ Some entry = subst (λ n. entry_at w n ≡ Some entry) own there in
    let stored : kept_at w entry.message_id ≡ Some c.in-Some.kept = ap (λ (ks : FinMap message_id_cmp Kept). get ks entry.message_id) alike ∙ sym (second.row clean m held) ∙ c.in-Some.is in
    c.does_again.ensures.given clean_anew w count next entered stored part
