-- What the public calls have once no refusal is due, what the cores of steps 2 and 3 return, and what their statements say to a reader.
pub mod Readiness
pub mod Listing
pub mod Determined
pub mod Tied
pub mod Marked
