-- Laws of step 1.
pub mod Composing
pub mod Dropping
pub mod Predicting
pub mod StepLaws
