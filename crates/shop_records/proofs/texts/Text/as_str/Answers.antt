use Rattle.std.proofs.Common.{subst}
use Rattle.std.specs.Prelude.{List, ℕ, IsTrue, string_bytes}
use Rattle.std.specs.Str.{is_utf8}
use Rattle.std.proofs.lemmas.Str.{IsUtf8-string_bytes, is_utf8-from_IsUtf8}
use Rattle.shop_records.proofs.texts.Text.as_str.Goals as goal

pub returns-clause-utf8 : goal.returns-clause-utf8
returns-clause-utf8 c =
    subst (λ (bytes : List ℕ). IsTrue (is_utf8 bytes)) c.self.view_is (is_utf8-from_IsUtf8 (string_bytes c.self.inside.string) (IsUtf8-string_bytes c.self.inside.string))
