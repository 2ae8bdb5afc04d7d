-- Rows of pieces that are reported in turn.
use Rattle.std.proofs.Common.{◌≡◌, ℕ, ◌+◌, ◌<◌, List, [], ◌∷◌, ◌++◌, length, take, get_or, Option, Some, None, refl, sym, ap, ◌∙◌}
use Rattle.std.specs.Option.{option_to_list}
use Rattle.std.specs.Prelude.{filter_map}
use Rattle.std.proofs.lemmas.List.{take_more}
use Rattle.std.proofs.lemmas.List.Elements.{filter_map-append}
use Rattle.shop_records.specs.declared.records.Part.{Part}
use Rattle.shop_records.specs.declared.pieces.PieceRow.{PieceRow}
use Rattle.shop_records.specs.Content.{Content}
use Rattle.shop_records.specs.Lists.{piece_row}

one_row : (o : Option PieceRow) → option_to_list o ≡ filter_map (λ (row : Option PieceRow). row) (o ∷ [])
one_row None = refl
one_row (Some row) = refl

-- one more is reported, where its demand is there
pub piece_more : (content : Content) (parts : List Part) (i : ℕ) (part : Part) (rows more : List PieceRow) (found : Option PieceRow) → i < length parts → part ≡ get_or parts i part
    → rows ≡ filter_map (piece_row content) (take i parts) → found ≡ piece_row content part → more ≡ rows ++ option_to_list found → more ≡ filter_map (piece_row content) (take (i + 1) parts)
piece_more content parts i part rows more found lt at before one is =
    is ∙ ap (λ rs. rs ++ option_to_list found) before
    ∙ ap (λ o. filter_map (piece_row content) (take i parts) ++ option_to_list o) one
    ∙ ap (λ rs. filter_map (piece_row content) (take i parts) ++ rs) (one_row (piece_row content part))
    ∙ sym (filter_map-append (piece_row content) (take i parts) (part ∷ []))
    ∙ ap (filter_map (piece_row content)) (ap (λ p. take i parts ++ p ∷ []) at ∙ sym (take_more parts i part lt))
