use Rattle.std.proofs.Common.{List, ℕ, ◌+◌, sym, subst, arith}
use Rattle.cut_classes.specs.Classes.{IsInClass}
use Rattle.cut_classes.specs.Grids.{AreUsable, across_of, classes, down_of}
use Rattle.cut_classes.proofs.ceiling.ceiling_of.Goals as goal

pub returns : goal.returns
returns c = λ usable wide high.
    let g = c.args.grid.now in
    let i = c.class_of-across.ensures g.most_across (subst (λ (ps : List ℕ). AreUsable (classes ps g.most_across)) (sym c.deref.ensures.value) usable.across) (omega (arith, wide, c.w.ensures.value)) in
    let j = c.class_of-down.ensures g.most_down (subst (λ (ps : List ℕ). AreUsable (classes ps g.most_down)) (sym c.deref-2.ensures.value) usable.down) (omega (arith, high, c.h.ensures.value)) in
    record {
      i = c.class_of-across.result;
      j = c.class_of-down.result;
      in_across =
          subst (λ n. IsInClass (across_of g) (n + c.args.kerf) c.class_of-across.result) c.w.ensures.value
          (subst (λ (ps : List ℕ). IsInClass (classes ps g.most_across) (c.w.result + c.args.kerf) c.class_of-across.result) c.deref.ensures.value i);
      in_down =
          subst (λ n. IsInClass (down_of g) (n + c.args.kerf) c.class_of-down.result) c.h.ensures.value
          (subst (λ (ps : List ℕ). IsInClass (classes ps g.most_down) (c.h.result + c.args.kerf) c.class_of-down.result) c.deref-2.ensures.value j);
      read = c.worth.ensures;
    }
