pub mod FieldFacts
pub mod Lists
pub mod ListedRows
pub mod Readable
pub mod EntryRows
pub mod Back
pub mod EntriesBack
pub mod Pieces
