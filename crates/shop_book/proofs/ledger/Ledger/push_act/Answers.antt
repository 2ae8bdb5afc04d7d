use Rattle.std.proofs.Common.{◌≡◌, ◌≤◌, ◌++◌, [], ◌∷◌, List, length, take, sym, ap, subst, ◌∙◌}
use Rattle.std.specs.Prelude.{filter}
use Rattle.shop_records.specs.declared.records.Part.{Part}
use Rattle.shop_book.specs.Ledgers.{content_in}
use Rattle.shop_book.specs.Pieces.{is_asked}
use Rattle.shop_book.proofs.ReportedPieces.{push_more, taken_few}
use Rattle.shop_book.proofs.ledger.Ledger.push_act.Goals as goal

pub loop-part-preserved : goal.loop-part-preserved
loop-part-preserved c =
    let asked = is_asked (content_in c.args.self.now) c.args.asked.now in
    let most = c.args.asked.now.most in
    let part = c.part-item.result in
    let pushed : c.push_asked.new.rows ≡ take most (c.loop-part.rows ++ filter asked (part ∷ [])) = c.in_ok-push_asked.ensures in
    record {
      few = subst (λ (rows : List Part). length rows ≤ most) (sym pushed) (taken_few most (c.loop-part.rows ++ filter asked (part ∷ [])));
      reported =
          pushed ∙ ap (λ (rows : List Part). take most (rows ++ filter asked (part ∷ []))) c.loop-part.invariant.reported
          ∙ push_more asked most c.args.rows.now c.as_slice-part-items.result.now c.loop-part.part-index part c.loop-part-test.true c.part-item.is;
    }
