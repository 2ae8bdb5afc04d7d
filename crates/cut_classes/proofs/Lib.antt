pub mod LegalTrees
pub mod Points
pub mod ScaledAreas
pub mod FilledTables
pub mod FilledRows
pub mod Loops
pub mod RaisedRows
pub mod Sizes
