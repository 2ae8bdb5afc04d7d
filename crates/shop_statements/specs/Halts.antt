-- The text that stands for where the work on a job halted: the object of the keys `cuts`, `lost` and `rest` of its `break`, in
-- byte order and in compact form.
use Rattle.std.specs.Prelude.{◌≡◌, ◌<◌, ◌^◌, ℕ, Bool, true, false, List, [], ◌∷◌, ◌++◌, codes, IfSome, Option, Some, None}
use Rattle.std.specs.List.{AllByRecursion}
use Rattle.std.specs.Fmt.{decimal}
use Rattle.cut_tree.specs.declared.halts.Halt.{Halt}
use Rattle.cut_tree.specs.declared.halts.Halt.TheVariants.{First, Listed}
use Rattle.shop_records.specs.declared.records.JobHalt.{JobHalt}

abbrev pub flag_text : Bool → List ℕ
flag_text true = codes "true"
flag_text false = codes "false"

-- numbers, each behind a comma
abbrev pub more_numbers : List ℕ → List ℕ
more_numbers [] = []
more_numbers (n ∷ more) = codes "," ++ (decimal n ++ more_numbers more)

abbrev pub list_text : List ℕ → List ℕ
list_text [] = codes "[]"
list_text (n ∷ more) = codes "[" ++ (decimal n ++ (more_numbers more ++ codes "]"))

-- how many first cuts were made, or which
abbrev pub cuts_text : Halt → List ℕ
cuts_text (First cuts lost) = decimal cuts
cuts_text (Listed cuts lost) = list_text cuts

-- whether the next cut went wrong, or which one
abbrev pub lost_text : Halt → List ℕ
lost_text (First cuts lost) = flag_text lost
lost_text (Listed cuts None) = flag_text false
lost_text (Listed cuts (Some cut)) = decimal cut

-- what is left of the rectangle of the cut that went wrong, where that was reported
abbrev pub rest_text : Option ℕ → List ℕ
rest_text None = []
rest_text (Some rest) = codes ",\"rest\":" ++ decimal rest

abbrev pub halt_text : JobHalt → List ℕ
halt_text row =
    codes "{\"cuts\":" ++ (cuts_text row.halt ++ (codes ",\"lost\":" ++ (lost_text row.halt ++ (rest_text row.rest ++ codes "}"))))

-- ---- its numbers are in the ranges of their types

abbrev pub IsSmall : ℕ → Type 0
IsSmall n = n < 2 ^ 32

abbrev pub AreCutValues : Halt → Type 0
AreCutValues (First cuts lost) = IsSmall cuts
AreCutValues (Listed cuts lost) = AllByRecursion IsSmall cuts × IfSome lost IsSmall

-- So no text stands for two halts.
pub record IsHaltValue (row : JobHalt) : Type 0 where
  pub cuts : AreCutValues row.halt
  pub rest : IfSome row.rest IsSmall

-- a halt under its own job's number
abbrev pub IsOwnHalt : ℕ → JobHalt → Type 0
IsOwnHalt number row = (row.job ≡ number) × IsHaltValue row
