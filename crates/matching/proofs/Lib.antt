-- Laws of matching, and what its loops cite.
pub mod NextPick
pub mod Taken
pub mod Laws
pub mod LentLaws
pub mod Picked
pub mod Best
pub mod Held
pub mod Left
