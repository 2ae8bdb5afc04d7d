-- Parts that are handed out one at a time, and what they make of a visitor.
use Rattle.std.specs.Prelude.{◌≡◌, Bool, true, false, List, [], ◌∷◌, ◌++◌, IsTrue, IfOk, Result}
use Rattle.std.specs.List.{FoldsTo}
use Rattle.shop_records.specs.declared.records.Part.{Part}

module _ {V : Type 0} (looks : V → Part → Bool → V → Type 0) where
  -- these parts in turn led the visitor from old to new, each answered true
  abbrev pub GoesOn : List Part → V → V → Type 0
  GoesOn parts old new = FoldsTo (λ v part w. looks v part true w) old parts new

  -- the same, but for the last of them, which was answered false
  abbrev pub Stops : List Part → V → V → Type 0
  Stops parts old new = (before : List Part) × (last : Part) × (mid : V) × (parts ≡ before ++ last ∷ []) × GoesOn before old mid × looks mid last false new

  -- whether the visitor went on to the end of these parts, or stopped there
  abbrev pub HasSeen : List Part → Bool → V → V → Type 0
  HasSeen parts true old new = GoesOn parts old new
  HasSeen parts false old new = Stops parts old new

  -- The parts that were handed out begin the list, and are all of it where the result is true; the result says whether the
  -- visitor went on. `says` is what can be said of the list.
  pub record IsVisit {Fault : Type 0} (says : (List Part → Type 0) → Type 0) (old : V) (result : Result Bool Fault) (new : V) : Type 0 where
    pub parts : List Part
    pub on : Bool
    pub visitor : HasSeen parts on old new
    pub answer : IfOk result (λ reported. reported ≡ on)
    pub begins : says (λ list. (rest : List Part) × (list ≡ parts ++ rest) × IfOk result (λ reported. IsTrue reported → rest ≡ []))
