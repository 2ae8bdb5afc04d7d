mod Blocks
mod Distinct
