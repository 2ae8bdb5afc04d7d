-- What is wrong with words that `clap` takes and that ask for nothing, and how it is reported.
use Rattle.std.specs.Prelude.{◌≡◌, ◌<◌, ◌⊎◌, ◌++◌, ℕ, List, Option, Some, None, codes, false, true, is_some, ⊤}
use Rattle.clap.specs.Words.{Row, Text, first_of}
use Rattle.cut_measure.specs.Codes.{code_of}
use Rattle.shop_words.specs.declared.mistakes.Mistake.{Mistake}
use Rattle.shop_words.specs.declared.mistakes.Mistake.TheVariants.{Material, Order, Origin, NoOrder, NoTerminal, NoNumber, NoKerf, NoStep, LoneCalls, LoneStages, NoWhole, NoShop, NoMaterial, NoSize, WithKerf, WithStep, ManySizes, LoneKeep, ManyHosts, ManyOrigins, Other}
use Rattle.shop_words.specs.declared.words.Reading.{Reading}
use Rattle.shop_words.specs.declared.words.Reading.TheVariants as reading
use Rattle.shop_words.specs.declared.words.Word.{Word}
use Rattle.shop_words.specs.declared.words.Word.TheVariants as word
use Rattle.shop_words.specs.declared.words.TheConstants.{MAX_NAMES, MAX_SIZES}
use Rattle.shop_words.specs.CommandLine.{AsksFor, AsksNothing, IsWhole, bad_origin, names_stock, texts_under, times_given, word_text}

-- this text was found, and is no code
abbrev pub IsNoCode : Option Text → Text → Type 0
IsNoCode found text = (found ≡ Some text) × (code_of text ≡ None)

-- no value was found under this name
abbrev pub IsMissing : Text → List Row → Type 0
IsMissing name rows = is_some (first_of name rows) ≡ false

-- a value was found under it
abbrev pub IsThere : Text → List Row → Type 0
IsThere name rows = is_some (first_of name rows) ≡ true

-- the words are those of an order file's plan
abbrev pub IsLinesPlan : Word → List Row → Type 0
IsLinesPlan w rows = (w ≡ word.Plan) × (names_stock rows ≡ true)

-- what is wrong with the values of a command
abbrev pub IsMistake : Word → List Row → Mistake → Type 0
IsMistake w rows (Material text) = (w ≡ word.Yield) × IsNoCode (first_of (codes "MATERIAL") rows) text.now
IsMistake w rows (Order text) = (w ≡ word.Orders) × IsNoCode (first_of (codes "order") rows) text.now
IsMistake w rows (Origin text) = (w ≡ word.Serve) × (bad_origin (texts_under (codes "origin") rows) ≡ Some text.now)
IsMistake w rows NoOrder = (w ≡ word.Orders) × IsMissing (codes "order") rows
IsMistake w rows NoTerminal = (w ≡ word.Orders) × IsMissing (codes "terminal") rows
IsMistake w rows NoNumber = (w ≡ word.Orders) × IsMissing (codes "number") rows
IsMistake w rows NoKerf = (w ≡ word.Plan) × (names_stock rows ≡ false) × IsMissing (codes "kerf") rows
IsMistake w rows NoStep = (w ≡ word.Plan) × (IsWhole rows → ⊥) × IsMissing (codes "step") rows
IsMistake w rows LoneCalls = (w ≡ word.Plan) × (IsWhole rows → ⊥) × IsThere (codes "calls") rows
IsMistake w rows LoneStages = (w ≡ word.Plan) × (IsWhole rows → ⊥) × IsThere (codes "stages") rows
IsMistake w rows NoWhole = IsLinesPlan w rows × (IsWhole rows → ⊥)
IsMistake w rows NoShop = IsLinesPlan w rows × IsMissing (codes "shop") rows
IsMistake w rows NoMaterial = IsLinesPlan w rows × IsMissing (codes "material") rows
IsMistake w rows NoSize = IsLinesPlan w rows × IsMissing (codes "size") rows
IsMistake w rows WithKerf = IsLinesPlan w rows × IsThere (codes "kerf") rows
IsMistake w rows WithStep = IsLinesPlan w rows × IsThere (codes "step") rows
IsMistake w rows ManySizes = IsLinesPlan w rows × (MAX_SIZES < times_given (codes "size") rows)
IsMistake w rows LoneKeep = (w ≡ word.Serve) × IsThere (codes "keep") rows × IsMissing (codes "backup") rows
IsMistake w rows ManyHosts = (w ≡ word.Serve) × (MAX_NAMES < times_given (codes "host") rows)
IsMistake w rows ManyOrigins = (w ≡ word.Serve) × (MAX_NAMES < times_given (codes "origin") rows)
IsMistake w rows Other = ⊤

-- what is wrong with the command that was read
abbrev pub IsMistakeOf : Option (Text × List Row) → Mistake → Type 0
IsMistakeOf found mistake =
    (mistake ≡ Other) ⊎ ((w : Word) × (rows : List Row) × (found ≡ Some (word_text w, rows)) × IsMistake w rows mistake)

-- the command that was read asks for this, or for nothing, by this mistake
abbrev pub IsRead : Option (Text × List Row) → Reading → Type 0
IsRead found (reading.Request request) = AsksFor found request
IsRead found (reading.Mistake mistake) = AsksNothing found × IsMistakeOf found mistake

-- what is reported about a mistake in the words that plan an order file
abbrev pub lines_reason : Mistake → List ℕ
lines_reason NoWhole = codes "'--whole' is missing: --whole, --shop, --material and --size stand together"
lines_reason NoShop = codes "'--shop <FILE>' is missing: --whole, --shop, --material and --size stand together"
lines_reason NoMaterial = codes "'--material <CODE>' is missing: --whole, --shop, --material and --size stand together"
lines_reason NoSize = codes "'--size <WxH>' is missing: --whole, --shop, --material and --size stand together"
lines_reason WithKerf = codes "'--kerf <N>' may not be given with '--shop', which says the kerf"
lines_reason WithStep = codes "'--step <N>' may not be given with '--shop'"
lines_reason ManySizes = codes "'--size <WxH>' may be given at most 10 times"
lines_reason _ = codes "the words ask for nothing"

-- what is reported about a mistake, but for a value that is no code or no origin
abbrev pub reason : Mistake → List ℕ
reason NoOrder = codes "'--order <CODE>' is missing: --order, --terminal and --number stand together"
reason NoTerminal = codes "'--terminal <N>' is missing: --order, --terminal and --number stand together"
reason NoNumber = codes "'--number <N>' is missing: --order, --terminal and --number stand together"
reason NoKerf = codes "'--kerf <N>' is missing: it may be left out only with '--shop'"
reason NoStep = codes "'--step <N>' is missing: it may be left out only with '--whole'"
reason LoneCalls = codes "'--calls <N>' may be given only with '--whole'"
reason LoneStages = codes "'--stages <N>' may be given only with '--whole'"
reason LoneKeep = codes "'--keep <N>' may be given only with '--backup'"
reason ManyHosts = codes "'--host <NAME>' may be given at most 10 times"
reason ManyOrigins = codes "'--origin <ORIGIN>' may be given at most 10 times"
reason mistake = lines_reason mistake

-- the text of a mistake
abbrev pub mistake_text : Mistake → List ℕ
mistake_text (Material text) =
    codes "error: invalid value '" ++ text.now ++ codes "' for '<MATERIAL>': a code is 1 to 16 of A-Z, 0-9 and -\n\nFor more information, try '--help'.\n"
mistake_text (Order text) =
    codes "error: invalid value '" ++ text.now ++ codes "' for '--order <CODE>': a code is 1 to 16 of A-Z, 0-9 and -\n\nFor more information, try '--help'.\n"
mistake_text (Origin text) =
    codes "error: invalid value '" ++ text.now
    ++ codes "' for '--origin <ORIGIN>': an origin is http:// or https://, a host and maybe a port, as https://shop.example\n\nFor more information, try '--help'.\n"
mistake_text mistake = codes "error: " ++ reason mistake ++ codes "\n\nFor more information, try '--help'.\n"
