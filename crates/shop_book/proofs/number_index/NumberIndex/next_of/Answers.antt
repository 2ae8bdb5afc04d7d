use Rattle.std.proofs.Common.{refl, sym, ◌∙◌, true≢false}
use Rattle.std.specs.Cmp.Lexicographic.{nat_list_cmp_total}
use Rattle.cut_measure.specs.Codes.{code_cmp}
use Rattle.shop_rows.specs.Keys.{codes_exact}
use Rattle.shop_book.specs.Filing.{code_at}
use Rattle.shop_book.specs.declared.index_keys.CodeKey.{CodeKey}
use Rattle.shop_book.proofs.Filed.{passes_end, passes_hit, passes_other}
use Rattle.shop_book.proofs.number_index.NumberIndex.next_of.Goals as goal

pub returns-in_err-key : goal.returns-in_err-key
returns-in_err-key c =
    passes_end (λ (a : CodeKey). a.under) (λ (a : CodeKey). a.number) code_cmp nat_list_cmp_total codes_exact c.args.under (code_at c.args.under) (λ n. refl) (λ n. refl) c.args.self.now.codes c.args.last c.after.result c.after.ensures c.from_residual.result c.from_residual.ensures c.in_err-key.ensures

pub returns-then-is : goal.returns-then-is
returns-then-is c =
    passes_hit (λ (a : CodeKey). a.under) (λ (a : CodeKey). a.number) code_cmp nat_list_cmp_total codes_exact c.args.under (code_at c.args.under) (λ n. refl) (λ n. refl) c.args.self.now.codes c.args.last c.after.result c.after.ensures c.in_ok-key.key c.in_ok-key.ensures (c.is.ensures.0 c.if-is.true)

pub returns-else-is : goal.returns-else-is
returns-else-is c =
    passes_other (λ (a : CodeKey). a.under) (λ (a : CodeKey). a.number) code_cmp nat_list_cmp_total codes_exact c.args.under (code_at c.args.under) (λ n. refl) (λ n. refl) c.args.self.now.codes c.args.last c.after.result c.after.ensures c.in_ok-key.key c.in_ok-key.ensures (λ same. true≢false (sym (c.is.ensures.1 same) ∙ c.if-is.false))
