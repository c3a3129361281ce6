-- Laws that several crates cite.
pub mod Cells
pub mod Counting
pub mod Elements
pub mod Every
pub mod Finite
pub mod Flags
pub mod FloatOrder
pub mod Fronts
pub mod Growing
pub mod Mapped
pub mod Pasting
pub mod Search
pub mod Standing
pub mod Through
pub mod Turns
pub mod Weighing
pub mod Weights
