-- That what a step lists stands in the list that the host lent, and that a matrix has at most 64 entries.
pub mod Listed
pub mod Few
