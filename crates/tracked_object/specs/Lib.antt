-- The object record whole, predicted, hit, opened and merged.
pub mod Object
