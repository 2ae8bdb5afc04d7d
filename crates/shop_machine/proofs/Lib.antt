-- marks of parts, and sums over cells
pub mod Marks
-- what is known of a command that isn't refused
pub mod Allowed
pub mod Agreeing
-- rows that change
pub mod AddedUp
pub mod Moved
pub mod Grown
pub mod Entered
pub mod Tallied
pub mod PartStep
pub mod RecountedRows
-- laid rectangles and cells
pub mod SharedCells
pub mod Inside
pub mod Cells
pub mod PutBack
-- what a history says of the content
pub mod OrderedLines
pub mod Accounts
pub mod Steps
-- adding a material
pub mod AddingStep
-- receiving units
pub mod ReceivingDecision
pub mod ReceivingStep
pub mod ReceivingEffect
-- adding an order
pub mod OrderingDecision
pub mod OrderingStep
-- importing an order
pub mod ImportingDecision
pub mod ImportingStep
pub mod ImportingEffect
-- reserving a part
pub mod ReservingDecision
pub mod ReservingStep
pub mod ReservingEffect
-- the end of a job
pub mod EndingDecision
pub mod EndingStep
pub mod EndingEffect
-- a standing part as a whole gets another state
pub mod RetiringStep
-- undoing a job
pub mod UndoingDecision
pub mod Undoable
pub mod UndoingStep
pub mod UndoingEffect
-- amending a demand
pub mod AmendingStep
-- further lines of an order
pub mod ExtendingStep
-- what is said of an order, and who has begun a job
pub mod SayingStep
-- every command, every history and every run
pub mod StaysWellFormed
pub mod Given
pub mod CellCounts
pub mod Owners
pub mod Runs
-- entries
pub mod Newest
pub mod OneResult
pub mod Timeless
-- the definitions on small examples
pub mod OwnersBefore
pub mod Examples
pub mod FloorExamples
