-- Laws of the object record whole.
pub mod AgeLaws
pub mod HitLaws
pub mod MergeLaws
pub mod ObjectLaws
