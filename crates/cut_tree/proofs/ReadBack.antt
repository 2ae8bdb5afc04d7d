-- A plan's text spells its tree.
use Rattle.std.proofs.Common.{ℕ, ◌≤◌, ◌<◌, ◌-◌, List, [], ◌∷◌, ◌++◌, refl, arith}
use Rattle.cut_measure.specs.declared.sizes.Axis.TheVariants.{X, Y}
use Rattle.cut_tree.specs.declared.token.Token.{Token}
use Rattle.cut_tree.specs.Tree.{Tree, Piece, Rest, Trim, Cut, IsShaped}
use Rattle.cut_tree.specs.Patterns.{Pattern, HasDemands, IsPlan}
use Rattle.cut_tree.specs.Spelling.{tokens, text_of, AllTokens, IsSpelling}

AllTokens-append : (ts us : List Token) → AllTokens ts → AllTokens us → AllTokens (ts ++ us)
AllTokens-append [] us p q = q
AllTokens-append (t ∷ ts) us p q = (p.0, AllTokens-append ts us p.1 q)

-- the numbers of a shaped tree's cuts are within its sides
all_tokens : (t : Tree) (w h k : ℕ) → w ≤ 4294967295 → h ≤ 4294967295 → IsShaped t w h k → HasDemands t → AllTokens (tokens t)
all_tokens (Piece d b) w h k wide high shaped demands = ((demands.0, demands.1), tt)
all_tokens Rest w h k wide high shaped demands = (tt, tt)
all_tokens (Trim X a f) w h k wide high shaped demands =
    let fits : a < w = shaped.1 in ((shaped.0, omega arith), all_tokens f a h k (omega arith) high shaped.3 demands)
all_tokens (Trim Y a f) w h k wide high shaped demands =
    let fits : a < h = shaped.1 in ((shaped.0, omega arith), all_tokens f w a k wide (omega arith) shaped.3 demands)
all_tokens (Cut X a f s) w h k wide high shaped demands =
    let fits : a < w = omega (arith, shaped.1) in
    ((shaped.0, omega arith), AllTokens-append (tokens f) (tokens s) (all_tokens f a h k (omega arith) high shaped.2 demands.0) (all_tokens s (w - a - k) h k (omega arith) high shaped.3 demands.1))
all_tokens (Cut Y a f s) w h k wide high shaped demands =
    let fits : a < h = omega (arith, shaped.1) in
    ((shaped.0, omega arith), AllTokens-append (tokens f) (tokens s) (all_tokens f w a k wide (omega arith) shaped.2 demands.0) (all_tokens s w (h - a - k) k wide (omega arith) shaped.3 demands.1))

pub spells_itself : (p : Pattern) → IsPlan p → IsSpelling (text_of p.tree) p.tree p.w p.h p.kerf
spells_itself p is = record {
  shaped = is.shaped;
  numbers = all_tokens p.tree p.w p.h p.kerf (omega (arith, is.width_in_range)) (omega (arith, is.height_in_range)) is.shaped is.demands;
  text_is = refl;
}
