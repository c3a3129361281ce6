-- Step 1: drop, sort out, predict.
pub mod Step
