-- What is taken of the parts that are handed out for the rack.
use Rattle.std.specs.Prelude.{◌≡◌, [], ◌∷◌, ◌++◌, Bool, true, false}
use Rattle.shop_records.specs.declared.records.Part.{Part}
use Rattle.shop_records.specs.Content.{rack_rows}
use Rattle.shop_desk.specs.declared.racks.RackTaker.{RackTaker}

-- a part with a job's name is taken as it is reported, unless memory is wanting
abbrev pub TakesRack : RackTaker → Part → Bool → RackTaker → Type 0
TakesRack old part true new = new.parts ≡ old.parts ++ rack_rows (part ∷ [])
TakesRack old part false new = new.parts ≡ old.parts
