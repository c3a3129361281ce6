-- The ledger: any sequence of public calls, what each did, what demand 3 asks of it, and what the host sees.
pub mod History
pub mod Demand
pub mod Shown
pub mod Examples
