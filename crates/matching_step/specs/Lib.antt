-- Step 2: match, hit, open; and its account.
pub mod Step
pub mod Account
