-- Laws of step 3.
pub mod Absorbing
pub mod Composing
pub mod Dropping
pub mod Lending
pub mod Listing
pub mod Places
pub mod StepLaws
