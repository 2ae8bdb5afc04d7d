use Rattle.std.proofs.Common.{inl, inr}
use Rattle.shop_opening.proofs.Faults.{memory_fault, used_fault, full_fault, damage_fault, other_fault}
use Rattle.shop_opening.proofs.stores.code_fault.Goals as goal

pub returns-in-OutOfMemory : goal.returns-in-OutOfMemory
returns-in-OutOfMemory c = memory_fault c.args.code c.in-OutOfMemory.is

pub returns-in-DatabaseBusy : goal.returns-in-DatabaseBusy
returns-in-DatabaseBusy c = used_fault c.args.code c.in-DatabaseBusy.is

pub returns-in-DiskFull : goal.returns-in-DiskFull
returns-in-DiskFull c = full_fault c.args.code c.in-DiskFull.is

pub returns-in-NotADatabase : goal.returns-in-NotADatabase
returns-in-NotADatabase c = damage_fault c.args.code c.damage.result (inl c.in-NotADatabase.is) c.damage.ensures

pub returns-in-DatabaseCorrupt : goal.returns-in-DatabaseCorrupt
returns-in-DatabaseCorrupt c = damage_fault c.args.code c.damage-in-DatabaseCorrupt.result (inr c.in-DatabaseCorrupt.is) c.damage-in-DatabaseCorrupt.ensures

pub returns-in_default : goal.returns-in_default
returns-in_default c =
    other_fault c.args.code c.other_cause.result c.in_default.not-OutOfMemory c.in_default.not-DatabaseBusy c.in_default.not-DiskFull c.in_default.not-NotADatabase c.in_default.not-DatabaseCorrupt
