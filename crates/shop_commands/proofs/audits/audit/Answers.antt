use Rattle.std.proofs.Common.{◌≡◌, subst}
use Rattle.std.specs.Prelude.{IfOk}
use Rattle.shop_records.specs.Content.{entry_count, fresh}
use Rattle.shop_forms.specs.Forms.{json_texts}
use Rattle.shop_store.proofs.InMemory.{mem_clean, mem_holds}
use Rattle.shop_audit.specs.Whole.{IsWhole}
use Rattle.shop_audit.specs.declared.audits.Verdict.TheVariants.{Whole}
use Rattle.shop_commands.proofs.Audited.{failure}
use Rattle.shop_commands.proofs.audits.audit.Goals as goal

pub audit_book-requires : goal.audit_book-requires
audit_book-requires g c = mem_holds c.args.anew.now fresh c.requires.texts c.requires.rows

pub returns-in-Ok-clause-ok : goal.returns-in-Ok-clause-ok
returns-in-Ok-clause-ok g c =
    let said = c.audit_book.ensures in
    record {
      entries = λ clean m held. subst (λ r. IfOk r (λ audit. audit.entries ≡ entry_count m)) c.in-Ok.is (said.entries clean m held);
      whole = λ clean m held. subst (λ r. IfOk r (λ audit. audit.verdict ≡ Whole → IsWhole json_texts m)) c.in-Ok.is (said.whole clean m held (mem_clean c.audit_book.new.anew));
      keeps = said.keeps;
    }

pub returns-in-Err-clause-err : goal.returns-in-Err-clause-err
returns-in-Err-clause-err g c = failure c.in-Err.fault c.from.result c.from.ensures
