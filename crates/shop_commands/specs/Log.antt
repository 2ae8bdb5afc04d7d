-- What a server reports of itself on standard error, and an audit or a history of how far it is.
use Rattle.std.specs.Prelude.{ℕ, Bool, List, [], ◌++◌, ◌-◌, ◌*◌, Option, Some, None, codes, decimal, if◌then◌else◌, nat_lt}
use Rattle.std.specs.Time.{instant_nanos}
use Rattle.std.specs.declared.time.Instant.{Instant}
use Rattle.shop_words.specs.declared.words.TheConstants.{VERSION}

-- what it reports when it begins, of a store that was made, and of one that was there
abbrev pub new_line : List ℕ → List ℕ
new_line store = codes "cutshop " ++ VERSION.now ++ codes ": serving " ++ store ++ codes ", a new store"

abbrev pub known_line : List ℕ → List ℕ
known_line store = codes "cutshop " ++ VERSION.now ++ codes ": serving " ++ store ++ codes ", a store that was there"

abbrev pub reported_line : List ℕ → (is_new : Bool) → List ℕ
reported_line store is_new = if is_new then new_line store else known_line store

-- how many messages are kept, where that was counted
abbrev pub kept_text : Option ℕ → List ℕ
kept_text None = []
kept_text (Some kept) = codes ", messages kept: " ++ decimal kept

-- the line with which it begins, of both
abbrev pub begin_line : List ℕ → List ℕ → List ℕ
begin_line reported kept = (reported ++ kept) ++ codes "\n"

-- the line with which it ends
abbrev pub end_line : List ℕ → List ℕ
end_line store = codes "cutshop " ++ VERSION.now ++ codes ": ended serving " ++ store ++ codes "\n"

-- how many entries of an audit or a history are done, of all
abbrev pub progress_line : (done all : ℕ) → List ℕ
progress_line done all = codes "cutshop: " ++ decimal done ++ codes " of " ++ decimal all ++ codes " entries\n"

-- what a terminal is shown before a large store is opened: its name and its size in megabytes
abbrev pub opening_line : (store : List ℕ) → (megabytes : ℕ) → List ℕ
opening_line store megabytes = codes "cutshop: opening " ++ store ++ codes ", " ++ decimal megabytes ++ codes " MB\n"

-- less than half a second went by since a line was reported
abbrev pub is_early : (reported now : Instant) → Bool
is_early reported now = nat_lt (instant_nanos now - instant_nanos reported) (500 * 1000000)
