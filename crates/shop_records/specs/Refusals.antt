-- Numbers and names of refusals.
use Rattle.std.specs.Prelude.{ℕ, List, codes}
use Rattle.shop_records.specs.declared.refusals.Refusal.{Refusal}
use Rattle.shop_records.specs.declared.refusals.Refusal.TheVariants.{BadMessage, NumberReused, NoMaterial, MaterialExists, BadMaterial, BadSize, BadCount, TooMuch, NumbersSpent, OrderExists, BadLine, NoDemand, NoOrder, BadNote, NoPart, NotStanding, NotWhole, BadTree, WrongMaterial, WrongSize, TooMany, NoJob, JobOver, BadCut, NotOver, PartsMoved, BadText, NothingFits, TableTooLarge, BadStep, BadWant, NoMemory, StoreFault}

abbrev pub refusal_number : Refusal → ℕ
refusal_number BadMessage = 10
refusal_number NumberReused = 11
refusal_number NoMaterial = 20
refusal_number MaterialExists = 21
refusal_number BadMaterial = 22
refusal_number BadSize = 30
refusal_number BadCount = 31
refusal_number TooMuch = 32
refusal_number NumbersSpent = 33
refusal_number OrderExists = 40
refusal_number BadLine = 41
refusal_number NoDemand = 42
refusal_number NoOrder = 43
refusal_number BadNote = 44
refusal_number NoPart = 50
refusal_number NotStanding = 51
refusal_number NotWhole = 52
refusal_number BadTree = 60
refusal_number WrongMaterial = 61
refusal_number WrongSize = 62
refusal_number TooMany = 63
refusal_number NoJob = 70
refusal_number JobOver = 71
refusal_number BadCut = 72
refusal_number NotOver = 73
refusal_number PartsMoved = 74
refusal_number BadText = 80
refusal_number NothingFits = 90
refusal_number TableTooLarge = 91
refusal_number BadStep = 92
refusal_number BadWant = 93
refusal_number NoMemory = 98
refusal_number StoreFault = 99

abbrev pub refusal_name : Refusal → List ℕ
refusal_name BadMessage = codes "BadMessage"
refusal_name NumberReused = codes "NumberReused"
refusal_name NoMaterial = codes "NoMaterial"
refusal_name MaterialExists = codes "MaterialExists"
refusal_name BadMaterial = codes "BadMaterial"
refusal_name BadSize = codes "BadSize"
refusal_name BadCount = codes "BadCount"
refusal_name TooMuch = codes "TooMuch"
refusal_name NumbersSpent = codes "NumbersSpent"
refusal_name OrderExists = codes "OrderExists"
refusal_name BadLine = codes "BadLine"
refusal_name NoDemand = codes "NoDemand"
refusal_name NoOrder = codes "NoOrder"
refusal_name BadNote = codes "BadNote"
refusal_name NoPart = codes "NoPart"
refusal_name NotStanding = codes "NotStanding"
refusal_name NotWhole = codes "NotWhole"
refusal_name BadTree = codes "BadTree"
refusal_name WrongMaterial = codes "WrongMaterial"
refusal_name WrongSize = codes "WrongSize"
refusal_name TooMany = codes "TooMany"
refusal_name NoJob = codes "NoJob"
refusal_name JobOver = codes "JobOver"
refusal_name BadCut = codes "BadCut"
refusal_name NotOver = codes "NotOver"
refusal_name PartsMoved = codes "PartsMoved"
refusal_name BadText = codes "BadText"
refusal_name NothingFits = codes "NothingFits"
refusal_name TableTooLarge = codes "TableTooLarge"
refusal_name BadStep = codes "BadStep"
refusal_name BadWant = codes "BadWant"
refusal_name NoMemory = codes "NoMemory"
refusal_name StoreFault = codes "StoreFault"
