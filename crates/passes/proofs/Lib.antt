-- Laws of both passes and of the lists that they leave, and what the functions cite.
pub mod CheckLaws
pub mod Filling
pub mod PassLaws
