-- What a whole table is, in numbers, and what the functions of this crate cite.
pub mod Chain
pub mod Passing
pub mod Names
pub mod Facts
pub mod Due
pub mod MakingLaws
pub mod SlotLaws
pub mod Ranged
pub mod Moving
pub mod Reading
