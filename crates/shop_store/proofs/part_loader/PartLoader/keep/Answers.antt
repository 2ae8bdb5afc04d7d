use Rattle.std.proofs.Common.{[], ◌∷◌, ap, ◌∙◌}
use Rattle.shop_records.specs.Content.{with_parts}
use Rattle.shop_book.specs.Ledgers.{content_in}
use Rattle.shop_book.proofs.Loaded.{parts_in_chunks}
use Rattle.shop_store.specs.Loading.{put_part}
use Rattle.shop_store.proofs.part_loader.PartLoader.keep.Goals as goal

pub returns-clause-loading : goal.returns-clause-loading
returns-clause-loading c =
    let mid = c.flush_many.new.self in
    let m = content_in mid.ledger in
    ap (λ waiting. record m { parts = with_parts waiting m.parts }) c.in_ok-push.ensures.ok ∙ ap (λ ps. record m { parts = ps }) (parts_in_chunks mid.waiting (c.args.part.now ∷ []) m.parts) ∙ ap (put_part c.args.part.now) c.in_ok-flush_many.ensures.loading
