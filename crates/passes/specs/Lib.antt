-- What step 2 decides before it writes.
pub mod Passes
pub mod Checks
