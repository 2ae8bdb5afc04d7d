use Rattle.std.proofs.Common.{◌≡◌, ◌∙◌, ◌+◌, ◌++◌, ◌∷◌, [], ap, drop, sym, take}
use Rattle.shop_planning.specs.Entries.{entries_from, entries_of, entry_of}
use Rattle.shop_planning.proofs.EntryLists.{entry_next, entry_none}
use Rattle.shop_planning.proofs.response.entries_of.Goals.{in-Some+in_ok-entry-in-Some+in_ok-push-in-Some, in-None}
use Rattle.shop_planning.proofs.response.entries_of.Goals as goal

pub loop-i-preserved : goal.loop-i-preserved
loop-i-preserved c =
    let sizes = c.args.sizes.now in
    let ranked = c.args.ranked.now in
    let shares = c.args.shares.now in
    let i = c.loop-i.i in
    let unit = c.index-shares-i.result in
    let list = c.loop-i.list.items in
    let all = entries_of sizes ranked shares in
    elim c.match-size_at.branch [
      | in-Some+in_ok-entry-in-Some+in_ok-push-in-Some w ↦
          let made = w.in_ok-entry-in-Some.ensures ∙ ap (λ n. entry_of ranked n unit w.in-Some.stock) w.units_at-before.ensures in
          let items : c.match-size_at.list.items ≡ list ++ w.in_ok-entry-in-Some.entry ∷ [] = rw w.list-is w.in_ok-push-in-Some.ensures.items in
          ap (λ l. l ++ entries_from sizes ranked (take (i + 1) shares) (drop (i + 1) shares)) (items ∙ ap (λ e. list ++ e ∷ []) made)
          ∙ entry_next sizes ranked shares i unit c.loop-i-test.true c.index-shares-i.is w.in-Some.stock list all (sym w.in-Some.ensures.value) c.loop-i.invariant
      | in-None w ↦
          rw w.list-is (entry_none sizes ranked shares i unit c.loop-i-test.true c.index-shares-i.is list all (sym w.in-None.ensures.value) c.loop-i.invariant)
    ]
