pub mod CommandLine
pub mod Mistakes
