-- Which parts a total counts.
use Rattle.std.specs.Prelude.{ℕ, ◌&&◌, ◌==◌, Bool, true, false, not}
use Rattle.shop_records.specs.declared.records.Part.{Part}
use Rattle.shop_records.specs.declared.records.Column.{Column}
use Rattle.shop_records.specs.declared.records.Column.TheVariants.{Received, Stock, Rack, Pieces, Kerf, Scrap, Returned}
use Rattle.shop_records.specs.declared.records.State.{State}
use Rattle.shop_records.specs.declared.records.State.TheVariants as state
use Rattle.shop_records.specs.declared.records.RackRow.{RackRow}
use Rattle.shop_records.specs.declared.records.StateWord.{StateWord}
use Rattle.shop_records.specs.declared.records.StateWord.TheVariants as word
use Rattle.shop_records.specs.declared.records.JobState.{JobState}
use Rattle.shop_records.specs.declared.records.JobState.TheVariants as job
use Rattle.shop_records.specs.Same.{same_name}

-- a part that was received whole
abbrev pub is_whole : Part → Bool
is_whole part = same_name part.name part.root

-- standing in the shop, reserved for a job or not
abbrev pub is_there : State → Bool
is_there state.Standing = true
is_there (state.Reserved job) = true
is_there _ = false

abbrev pub is_piece : State → Bool
is_piece (state.Piece demand) = true
is_piece _ = false

abbrev pub is_kerf : State → Bool
is_kerf state.Kerf = true
is_kerf _ = false

abbrev pub is_scrap : State → Bool
is_scrap state.Scrap = true
is_scrap _ = false

abbrev pub is_returned : State → Bool
is_returned state.Returned = true
is_returned _ = false

abbrev pub is_counted : Column → Part → Bool
is_counted Received part = is_whole part
is_counted Stock part = is_there part.state && is_whole part
is_counted Rack part = is_there part.state && not (is_whole part)
is_counted Pieces part = is_piece part.state
is_counted Kerf part = is_kerf part.state
is_counted Scrap part = is_scrap part.state
is_counted Returned part = is_returned part.state

-- a piece of this demand
abbrev pub is_piece_for : ℕ → State → Bool
is_piece_for number (state.Piece demand) = demand == number
is_piece_for number _ = false

-- standing and not reserved
abbrev pub is_free : State → Bool
is_free state.Standing = true
is_free _ = false

-- reserved for this job
abbrev pub is_reserved_for : ℕ → State → Bool
is_reserved_for number (state.Reserved job) = job == number
is_reserved_for number _ = false

abbrev pub is_waiting : JobState → Bool
is_waiting job.Waiting = true
is_waiting _ = false

-- a state without its number
abbrev pub state_word : State → StateWord
state_word state.Standing = word.Standing
state_word (state.Reserved job) = word.Reserved
state_word (state.Cut job) = word.Cut
state_word (state.Piece demand) = word.Piece
state_word state.Kerf = word.Kerf
state_word state.Scrap = word.Scrap
state_word state.Returned = word.Returned
state_word (state.Undone job) = word.Undone

-- the job of a reserved, a cut or an undone part, the demand of a piece, else 0
abbrev pub state_of : State → ℕ
state_of state.Standing = 0
state_of (state.Reserved job) = job
state_of (state.Cut job) = job
state_of (state.Piece demand) = demand
state_of state.Kerf = 0
state_of state.Scrap = 0
state_of state.Returned = 0
state_of (state.Undone job) = job

-- how a part on the rack is reported
abbrev pub rack_row : Part → RackRow
rack_row part = record { h = part.size.h; part = part.name; state = state_word part.state; w = part.size.w }
