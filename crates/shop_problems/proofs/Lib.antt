mod BoughtSizes
pub mod Demands
mod FlatSizes
mod JudgedLines
mod LineWants
mod Sized
