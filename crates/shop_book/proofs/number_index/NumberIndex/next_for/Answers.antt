use Rattle.std.proofs.Common.{refl}
use Rattle.std.specs.Cmp.{nat_cmp_total}
use Rattle.std.specs.FinMap.{nat_cmp-IsAntisymmetric}
use Rattle.std.specs.Ordering.{nat_cmp}
use Rattle.shop_book.specs.Filing.{number_at}
use Rattle.shop_book.specs.declared.index_keys.NumberKey.{NumberKey}
use Rattle.shop_book.proofs.Filed.{passes_end, passes_hit, passes_other}
use Rattle.shop_book.proofs.number_index.NumberIndex.next_for.Goals as goal

pub returns-in_err-key : goal.returns-in_err-key
returns-in_err-key c =
    passes_end (λ (a : NumberKey). a.under) (λ (a : NumberKey). a.number) nat_cmp nat_cmp_total nat_cmp-IsAntisymmetric c.args.under (number_at c.args.under) (λ n. refl) (λ n. refl) c.args.self.now.numbers c.args.last c.after.result c.after.ensures c.from_residual.result c.from_residual.ensures c.in_err-key.ensures

pub returns-then-key-under : goal.returns-then-key-under
returns-then-key-under c =
    passes_hit (λ (a : NumberKey). a.under) (λ (a : NumberKey). a.number) nat_cmp nat_cmp_total nat_cmp-IsAntisymmetric c.args.under (number_at c.args.under) (λ n. refl) (λ n. refl) c.args.self.now.numbers c.args.last c.after.result c.after.ensures c.in_ok-key.key c.in_ok-key.ensures c.if-key-under.true

pub returns-else-key-under : goal.returns-else-key-under
returns-else-key-under c =
    passes_other (λ (a : NumberKey). a.under) (λ (a : NumberKey). a.number) nat_cmp nat_cmp_total nat_cmp-IsAntisymmetric c.args.under (number_at c.args.under) (λ n. refl) (λ n. refl) c.args.self.now.numbers c.args.last c.after.result c.after.ensures c.in_ok-key.key c.in_ok-key.ensures c.if-key-under.false
