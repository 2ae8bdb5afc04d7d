pub mod LeafSums
pub mod NumberRows
