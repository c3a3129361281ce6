-- The laws of a filter's block.
pub mod Block
