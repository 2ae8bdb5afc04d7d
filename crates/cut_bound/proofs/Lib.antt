-- of each tree a legal one within the counts, or with the picked wants' pieces alone
pub mod TrimmedTrees
pub mod PickedWants
-- sums over units, and what they are worth is paid for
pub mod UnitSums
pub mod PaidWorths
-- planned units, and legal trees of wanted leaves
pub mod PlannedUnits
pub mod ListedPlans
pub mod CheckedOrders
pub mod HeldPieces
-- multiples, the greatest of some numbers, what a bar is worth, wants at prices, and orders that have no fault
pub mod Multiples
pub mod GreatestCosts
pub mod BarRatings
pub mod PricedWants
-- wants and sheets that have a bound by classes
pub mod ClassRatings
pub mod OrderFaults
