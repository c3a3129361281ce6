-- The table: its ranges, when it is whole, the refusals, making, and its slots.
pub mod Ranges
pub mod Wholeness
pub mod Refusals
pub mod Making
pub mod Slots
