pub mod Totals
pub mod Counted
pub mod Division
pub mod Writing
pub mod Turn
pub mod Lawful
pub mod Through
pub mod Cells
