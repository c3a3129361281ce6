-- Laws of step 2.
pub mod Pairing
pub mod Deciding
pub mod PutBack
pub mod Lending
pub mod Hitting
pub mod HitLoop
pub mod Opening
pub mod Again
pub mod Chain
pub mod Readiness
pub mod Bearing
pub mod AccountLaws
pub mod PairLaws
