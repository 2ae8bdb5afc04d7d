-- The pieces of a problem as wants.
use Rattle.std.specs.Prelude.{ℕ, suc, List, [], ◌∷◌, false}
use Rattle.cut_wants.specs.declared.wants.Want.{Want}
use Rattle.shop_files.specs.declared.problems.Piece.{Piece}

-- the want for a piece: it isn't turned
abbrev pub want_of : ℕ → Piece → Want
want_of demand p = record { demand = demand; size = record { w = p.w; h = p.h }; may_turn = false; left = p.most; worth = p.worth }

-- the wants for pieces, their demands numbered from this one on
abbrev pub wants_from : ℕ → List Piece → List Want
wants_from demand [] = []
wants_from demand (p ∷ ps) = want_of demand p ∷ wants_from (suc demand) ps

-- the wants of a problem: the demand of its first piece is 1
abbrev pub wants_of : List Piece → List Want
wants_of pieces = wants_from 1 pieces
