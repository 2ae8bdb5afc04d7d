-- trees
pub mod NodeCounts
pub mod LeafCounts
pub mod ListedLeaves
pub mod BarTrees
pub mod StepPlaces
-- reading and writing texts
pub mod CutTexts
pub mod PieceWords
pub mod FirstWords
pub mod TreePrefixes
pub mod NodeReading
pub mod WholeTexts
pub mod SpelledTexts
pub mod SpelledPlans
pub mod OneFault
pub mod ReadBack
-- laying
pub mod CellSums
pub mod CoveredCells
pub mod CellCounts
pub mod PieceRows
pub mod OneLaidList
pub mod LaidExamples
-- halts
pub mod Closed
pub mod TwoForms
pub mod Tested
