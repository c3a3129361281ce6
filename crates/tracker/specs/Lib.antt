-- What the public calls answer.
pub mod Calls
pub mod Statements
pub mod Marked
