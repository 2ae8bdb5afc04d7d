pub mod Legal
pub mod Best
