use Rattle.std.proofs.Common.{◌≡◌, ◌∙◌, ◌+◌, ◌<◌, ◌++◌, ◌∷◌, [], ap, drop, false, get_or, length, map, rules, take, true}
use Rattle.std.specs.List.{list_any}
use Rattle.shop_planning.specs.Stock.{are_alike, firsts, part_size, part_sizes}
use Rattle.shop_planning.proofs.Firsts.{kept, passed}
use Rattle.shop_planning.proofs.stock.part_sizes.Goals.{then-not-is_among+in_ok-push, else-not-is_among}
use Rattle.shop_planning.proofs.stock.part_sizes.Goals as goal

pub loop-i-preserved : goal.loop-i-preserved
loop-i-preserved c =
    let parts = c.args.parts.now in
    let i = c.loop-i.i in
    let part = c.index-parts-i.result in
    let within : i < length parts = search rules in
    let is : part ≡ get_or parts i part = search rules in
    elim c.if-not-is_among.branch [
      | then-not-is_among+in_ok-push w ↦
          let first : list_any (are_alike part) (take i parts) ≡ false = search rules in
          let items : c.if-not-is_among.sizes.items ≡ c.loop-i.sizes.items ++ w.part_size.result ∷ [] = rw w.sizes-is w.in_ok-push.ensures.items in
          let after = map (part_size parts) (firsts are_alike (take (i + 1) parts) (drop (i + 1) parts)) in
          ap (λ l. l ++ after) (items ∙ ap (λ s. c.loop-i.sizes.items ++ s ∷ []) w.part_size.ensures)
          ∙ kept are_alike (part_size parts) parts i part within is c.loop-i.sizes.items (part_sizes parts) first c.loop-i.invariant
      | else-not-is_among w ↦
          let again : list_any (are_alike part) (take i parts) ≡ true = search rules in
          rw w.sizes-is (passed are_alike (part_size parts) parts i part within is c.loop-i.sizes.items (part_sizes parts) again c.loop-i.invariant)
    ]
