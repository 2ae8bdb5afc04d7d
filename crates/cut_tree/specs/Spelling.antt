-- The text of a tree: its nodes in order as tokens, with one space between them.
use Rattle.std.specs.Prelude.{ℕ, Bool, true, false, ◌≡◌, ◌+◌, ◌≤◌, ◌<◌, List, [], ◌∷◌, ◌++◌, map, length, slice_get, Option, Some, None, ◌⊎◌}
use Rattle.std.specs.List.{slice_split, join_with_byte}
use Rattle.std.specs.Prelude.{◌==◌}
use Rattle.std.specs.Fmt.{decimal}
use Rattle.cut_measure.specs.declared.ranges.TheConstants.{MAX_NUMBERS}
use Rattle.cut_tree.specs.declared.token.TheConstants.{MAX_CUTS}
use Rattle.cut_measure.specs.declared.sizes.Axis.{Axis}
use Rattle.cut_measure.specs.declared.sizes.Axis.TheVariants.{X, Y}
use Rattle.cut_tree.specs.declared.token.Token.{Token}
use Rattle.cut_tree.specs.declared.token.Token.TheVariants as token
use Rattle.cut_tree.specs.declared.token.Cause.{Cause}
use Rattle.cut_tree.specs.declared.token.Cause.TheVariants.{BadToken, TooManyCuts, OffUnit, Missing, Extra, NoMemory}
use Rattle.cut_tree.specs.Tree.{Tree, Piece, Rest, Trim, Cut, IsShaped}

-- the letter of an axis: x or y
abbrev pub axis_letter : Axis → ℕ
axis_letter X = 120
axis_letter Y = 121

-- t after the number of a turned piece
abbrev pub turn_mark : Bool → List ℕ
turn_mark true = 116 ∷ []
turn_mark false = []

-- x30 or y30 is a cut at 30, p7 a piece of demand 7, p7t a turned one, r a rest
abbrev pub token_text : Token → List ℕ
token_text (token.Cut axis place) = axis_letter axis ∷ decimal place
token_text (token.Piece demand turned) = 112 ∷ (decimal demand ++ turn_mark turned)
token_text token.Rest = 114 ∷ []

-- the numbers that a token may have
abbrev pub IsToken : Token → Type 0
IsToken (token.Cut axis place) = (1 ≤ place) × (place ≤ 4294967295)
IsToken (token.Piece demand turned) = (1 ≤ demand) × (demand ≤ MAX_NUMBERS)
IsToken token.Rest = Unit {0}

-- a node is followed by its first part, and that by its second
abbrev pub tokens : Tree → List Token
tokens (Piece demand turned) = token.Piece demand turned ∷ []
tokens Rest = token.Rest ∷ []
tokens (Trim axis place first) = token.Cut axis place ∷ tokens first
tokens (Cut axis place first second) = token.Cut axis place ∷ (tokens first ++ tokens second)

-- the text of a tree
abbrev pub text_of : Tree → List ℕ
text_of t = join_with_byte 32 (map token_text (tokens t))

-- the words of a text, between its spaces; an empty text has none
abbrev pub words : List ℕ → List (List ℕ)
words [] = []
words (c ∷ cs) = slice_split (λ b. b == 32) (c ∷ cs)

abbrev pub cuts_in : List Token → ℕ
cuts_in [] = 0
cuts_in (token.Cut axis place ∷ ts) = 1 + cuts_in ts
cuts_in (token.Piece demand turned ∷ ts) = cuts_in ts
cuts_in (token.Rest ∷ ts) = cuts_in ts

-- the tokens are those of a tree that follows the rule of cuts
abbrev pub AreTreeTokens : List Token → (w h kerf : ℕ) → Type 0
AreTreeTokens ts w h k = (t : Tree) × IsShaped t w h k × (tokens t ≡ ts)

-- such a tree's tokens begin so
abbrev pub IsPrefix : List Token → (w h kerf : ℕ) → Type 0
IsPrefix ts w h k = (t : Tree) × (more : List Token) × IsShaped t w h k × (tokens t ≡ ts ++ more)

-- they begin so, and aren't all
abbrev pub GoesOn : List Token → (w h kerf : ℕ) → Type 0
GoesOn ts w h k = (t : Tree) × (next : Token) × (more : List Token) × IsShaped t w h k × (tokens t ≡ ts ++ next ∷ more)

-- the words from `at` on begin with those of the tokens
abbrev pub SpelledAt : List (List ℕ) → ℕ → List Token → Type 0
SpelledAt ws at [] = Unit {0}
SpelledAt ws at (t ∷ ts) = (slice_get ws at ≡ Some (token_text t)) × IsToken t × SpelledAt ws (at + 1) ts

-- there is a word, and it is no token's
abbrev pub IsNoToken : Option (List ℕ) → Type 0
IsNoToken None = ⊥
IsNoToken (Some word) = (t : Token) → IsToken t → token_text t ≡ word → ⊥

-- the word is that of this cut
abbrev pub IsCut : Option (List ℕ) → Axis → ℕ → Type 0
IsCut word axis place = (word ≡ Some (token_text (token.Cut axis place))) × IsToken (token.Cut axis place)

-- What is wrong with the word after a prefix of a tree, or with its absence. So many cuts stand before the tree.
abbrev pub IsWrong : Cause → (prefix : List Token) → Option (List ℕ) → (cuts w h kerf : ℕ) → Type 0
IsWrong BadToken prefix word cuts w h k = IsNoToken word
IsWrong TooManyCuts prefix word cuts w h k = (axis : Axis) × (place : ℕ) × IsCut word axis place × (cuts + cuts_in prefix ≡ MAX_CUTS)
-- no tree goes on with the cut
IsWrong OffUnit prefix word cuts w h k =
    (axis : Axis) × (place : ℕ) × IsCut word axis place × (IsPrefix (prefix ++ token.Cut axis place ∷ []) w h k → ⊥) × (cuts + cuts_in prefix < MAX_CUTS)
IsWrong Missing prefix word cuts w h k = word ≡ None
IsWrong Extra prefix word cuts w h k = ⊥
IsWrong NoMemory prefix word cuts w h k = ⊥

-- The words from `at` on begin as a tree does, at most 255 cuts among them and before them. The next word, number n,
-- or its absence is wrong.
pub record IsFaultWithin (ws : List (List ℕ)) (at cuts w h kerf n : ℕ) (cause : Cause) : Type 0 where
  pub prefix : List Token
  pub place : at + length prefix ≡ n
  pub spelled : SpelledAt ws at prefix
  pub goes_on : GoesOn prefix w h kerf
  pub few_cuts : cuts + cuts_in prefix ≤ MAX_CUTS
  pub wrong : IsWrong cause prefix (slice_get ws n) cuts w h kerf

-- what is wrong with a word after a whole tree
abbrev pub IsWrongAfter : Cause → Option (List ℕ) → Type 0
IsWrongAfter BadToken word = IsNoToken word
IsWrongAfter Extra word = (t : Token) × IsToken t × (word ≡ Some (token_text t))
IsWrongAfter TooManyCuts word = ⊥
IsWrongAfter OffUnit word = ⊥
IsWrongAfter Missing word = ⊥
IsWrongAfter NoMemory word = ⊥

-- The words begin with a whole tree of at most 255 cuts, and one more follows, number n.
pub record IsFaultAfter (ws : List (List ℕ)) (w h kerf n : ℕ) (cause : Cause) : Type 0 where
  pub prefix : List Token
  pub place : length prefix ≡ n
  pub spelled : SpelledAt ws 0 prefix
  pub whole : AreTreeTokens prefix w h kerf
  pub few_cuts : cuts_in prefix ≤ MAX_CUTS
  pub wrong : IsWrongAfter cause (slice_get ws n)

-- the first fault of a text, if it is no tree's or memory ran out
abbrev pub IsFirstFault : List ℕ → (w h kerf n : ℕ) → Cause → Type 0
IsFirstFault text w h k n cause =
    ((n ≡ 0) × (cause ≡ NoMemory)) ⊎ IsFaultWithin (words text) 0 0 w h k n cause ⊎ IsFaultAfter (words text) w h k n cause

-- what a reader of nodes has read: a tree, which the words from `at` on spell, up to number `next`
pub record HasReadTree (ws : List (List ℕ)) (at cuts w h kerf : ℕ) (tree : Tree) (next cuts_after : ℕ) : Type 0 where
  pub shaped : IsShaped tree w h kerf
  pub spelled : SpelledAt ws at (tokens tree)
  pub upto : next ≡ at + length (tokens tree)
  pub counted : cuts_after ≡ cuts + cuts_in (tokens tree)
  pub few_cuts : cuts_after ≤ MAX_CUTS

-- the number of a byte word's token, or none is spelled so
abbrev pub IsTokenOf : Option Token → List ℕ → Type 0
IsTokenOf None word = (t : Token) → IsToken t → token_text t ≡ word → ⊥
IsTokenOf (Some t) word = IsToken t × (token_text t ≡ word)

-- what is wrong where a token is to stand
abbrev pub IsNoTokenFor : Cause → Option (List ℕ) → Type 0
IsNoTokenFor BadToken word = IsNoToken word
IsNoTokenFor Missing word = word ≡ None
IsNoTokenFor TooManyCuts word = ⊥
IsNoTokenFor OffUnit word = ⊥
IsNoTokenFor Extra word = ⊥
IsNoTokenFor NoMemory word = ⊥

-- each token's number is one that it may have
abbrev pub AllTokens : List Token → Type 0
AllTokens [] = Unit {0}
AllTokens (t ∷ ts) = IsToken t × AllTokens ts

-- the text spells the tree, which follows the rule of cuts
pub record IsSpelling (text : List ℕ) (tree : Tree) (w h kerf : ℕ) : Type 0 where
  pub shaped : IsShaped tree w h kerf
  pub numbers : AllTokens (tokens tree)
  pub text_is : text ≡ text_of tree
