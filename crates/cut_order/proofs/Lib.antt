-- one piece on a unit
pub mod SingleTrees
-- more units after others, and when nothing more can be added
pub mod GrownUnits
pub mod Answered
