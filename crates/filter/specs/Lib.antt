-- The optimized filter: its settings, one coordinate, the mask and a record's block.
pub mod Settings
pub mod Coordinate
pub mod Mask
pub mod Block
