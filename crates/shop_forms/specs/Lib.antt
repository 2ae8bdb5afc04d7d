pub mod Fields
pub mod Forms
pub mod Tokens
pub mod Members
pub mod Reported
