-- Step 3: ReID and the active list; and its account.
pub mod Step
