-- Laws of the parts of a record, and what their functions cite.
pub mod Bounds
pub mod LifeLaws
pub mod PastLaws
pub mod PointLaws
