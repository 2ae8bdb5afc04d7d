-- Values as the tokens that a writer of JSON gets.
use Rattle.std.specs.Prelude.{◌≡◌, ◌++◌, List, map}
use Rattle.json.specs.Token.{Token}
use Rattle.json.specs.Tree.{json_tokens, items_tokens}
use Rattle.json.specs.Written.{Written}
use Rattle.serde_json.specs.Data.{Data}
use Rattle.serde_json.specs.View.{items_of}
use Rattle.serde_json.specs.Written.{outline, items_outline}

-- these tokens were written, and nothing else
pub record Adds (old new : Written) (ts : List Token) : Type 0 where
  pub tokens : new.tokens ≡ old.tokens ++ ts
  pub before : new.before ≡ old.before

-- a value was written
abbrev pub AddsValue : Written → Written → Data → Type 0
AddsValue old new d = Adds old new (json_tokens (outline d))

-- the tokens of a list's elements, with the closing bracket
abbrev pub elements_tokens : {T : Type 0} → (T → Data) → List T → List Token
elements_tokens said xs = items_tokens (items_outline (items_of (map said xs)))

-- all the tokens are written but for these last ones
pub record Lacks (first now : Written) (all last : List Token) : Type 0 where
  pub tokens : now.tokens ++ last ≡ first.tokens ++ all
  pub before : now.before ≡ first.before
