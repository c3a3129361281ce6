-- The parts of the object record: the layout of its block, the ranges that callers show, its counters, its points, its history, and the marked example.
pub mod Layout
pub mod Ranges
pub mod Life
pub mod Points
pub mod Past
