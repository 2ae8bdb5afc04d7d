use Rattle.std.proofs.Common.{◌≡◌, ℕ, length, arith}
use Rattle.std.specs.Prelude.{All}
use Rattle.std.proofs.lemmas.Grind.{common_steps}
use Rattle.cut_sheets.proofs.SheetTables.{whole_write}
use Rattle.cut_plan.proofs.SheetPlans.{first_leaves, zero_at}
use Rattle.cut_plan.proofs.sheets.kept_leaves.Goals as goal

pub returns-clause-kept : goal.returns-clause-kept
returns-clause-kept c =
    let zeros : All (λ (a : ℕ). a ≡ 0) c.deref_mut.result.now = λ i d lt. grind (arith, common_steps) in
    let all : length c.in_ok-counts.counts.items ≡ length c.keep.new.counts = omega arith in
    let n : c.in_ok-counts.counts.len ≡ length c.keep.new.counts = omega arith in
    rw (whole_write _ _ _ n all) (
    first_leaves c.args.wants.now c.args.across c.args.down c.deref_mut.result.now c.keep.new.counts _ c.in_ok-kept.ensures.kept (omega (arith, c.in_ok-counts.ensures.len)) (zero_at c.deref_mut.result.now zeros)
    c.requires.across c.requires.down (λ i lt. c.in_ok-kept.ensures.grown i (omega arith))
    )
