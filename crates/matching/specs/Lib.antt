-- Greedy matching: the picks of any matrix, the lent matrix with what counts, and who is left over.
pub mod Greedy
pub mod Lent
pub mod Unmatched
