-- When two patterns are the same.
use Rattle.std.specs.Prelude.{◌≡◌, Bool, ◌&&◌, ◌==◌}
use Rattle.std.proofs.Common.{ap, sym, ◌∙◌}
use Rattle.std.specs.Bool.{Decides, beq}
use Rattle.std.specs.Cmp.{IsPartialEquivalence, partial_equiv_from_equiv, decided, unsigned_Decides, booleans_Decides}
use Rattle.std.specs.Cmp.Lexicographic.{pointwise, pointwise_decides}
use Rattle.std.proofs.lemmas.Bool.Decides.{Decides-and, Decides-like}
use Rattle.cut_tree.specs.Tree.{Tree}
use Rattle.cut_tree.specs.Patterns.{Pattern, Mark, marks, trees, first_tree, first_tree-marks}

abbrev same_mark : Mark → Mark → Bool
same_mark m n = beq m.0 n.0 && (beq m.1.0 n.1.0 && (beq m.1.1.0 n.1.1.0 && m.1.1.1 == n.1.1.1))

-- whether two trees have the same marks, one by one
abbrev pub same_tree : Tree → Tree → Bool
same_tree t u = pointwise same_mark (marks t) (marks u)

-- whether two patterns have the same tree, sides and kerf
abbrev pub same_pattern : Pattern → Pattern → Bool
same_pattern p q = same_tree p.tree q.tree && (p.w == q.w && (p.h == q.h && p.kerf == q.kerf))

mark_decides : (m n : Mark) → Decides (same_mark m n) (m ≡ n)
mark_decides m n =
    Decides-like _ (λ p i. (p.0 i, (p.1.0 i, (p.1.1.0 i, p.1.1.1 i)))) (λ p. (ap (λ v. v.0) p, (ap (λ v. v.1.0) p, (ap (λ v. v.1.1.0) p, ap (λ v. v.1.1.1) p))))
    (Decides-and _ _ (booleans_Decides m.0 n.0)
    (Decides-and _ _ (booleans_Decides m.1.0 n.1.0) (Decides-and _ _ (booleans_Decides m.1.1.0 n.1.1.0) (unsigned_Decides m.1.1.1 n.1.1.1))))

-- trees of the same marks are one tree
one_tree : (t u : Tree) → marks t ≡ marks u → t ≡ u
one_tree t u e = sym (first_tree-marks t) ∙ ap (λ ms. first_tree (trees ms)) e ∙ first_tree-marks u

pub same_tree_decides : (t u : Tree) → Decides (same_tree t u) (t ≡ u)
same_tree_decides t u = Decides-like _ (one_tree t u) (ap marks) (pointwise_decides mark_decides (marks t) (marks u))

pub same_pattern_decides : (p q : Pattern) → Decides (same_pattern p q) (p ≡ q)
same_pattern_decides p q =
    Decides-like _ (λ e i. record { tree = e.0 i; w = e.1.0 i; h = e.1.1.0 i; kerf = e.1.1.1 i })
    (λ e. (ap (λ v. v.tree) e, (ap (λ v. v.w) e, (ap (λ v. v.h) e, ap (λ v. v.kerf) e))))
    (Decides-and _ _ (same_tree_decides p.tree q.tree) (Decides-and _ _ (unsigned_Decides p.w q.w) (Decides-and _ _ (unsigned_Decides p.h q.h) (unsigned_Decides p.kerf q.kerf))))

pub same_pattern_laws : IsPartialEquivalence same_pattern
same_pattern_laws = partial_equiv_from_equiv (decided same_pattern same_pattern_decides)
