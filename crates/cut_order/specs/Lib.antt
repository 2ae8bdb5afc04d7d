pub mod Stocks
pub mod Singles
pub mod Places
pub mod Answers
pub mod Searches
