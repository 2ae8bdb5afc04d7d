use Rattle.std.proofs.Common.{◌≡◌, ◌++◌, filter, length, take, drop, sym, ap, ◌∙◌, arith}
use Rattle.std.proofs.lemmas.List.{append_assoc, take-append-drop}
use Rattle.std.proofs.lemmas.List.Elements.{filter-append}
use Rattle.shop_records.specs.Lists.{is_about}
use Rattle.shop_book.specs.Ledgers.{content_in}
use Rattle.shop_store.proofs.InSteps.{take_full}
use Rattle.shop_store.proofs.stories.push_about.Goals as goal

pub returns-then-most-as_slice : goal.returns-then-most-as_slice
returns-then-most-as_slice c =
    let p = is_about (content_in c.args.ledger.now) c.args.about.now in
    let all = c.args.entries.now in
    let i = c.loop-entry.entry-index in
    let rows = c.loop-entry.rows in
    let rest = filter p (drop i all) in
    let same = ap length c.as_slice.ensures in
    let full : c.args.most ≡ length rows = omega (arith, same, c.if-most-as_slice.true, c.loop-entry.invariant.1) in
    record {
      rows = sym
          (ap (λ l. take c.args.most (c.args.rows.now ++ l)) (ap (filter p) (sym (take-append-drop i all)) ∙ filter-append p (take i all) (drop i all))
          ∙ ap (take c.args.most) (sym (append_assoc c.args.rows.now (filter p (take i all)) rest) ∙ ap (λ l. l ++ rest) (sym c.loop-entry.invariant.0))
          ∙ take_full c.args.most rows rest full);
    }
