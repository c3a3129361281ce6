-- What a turn of the loop that writes the pairs does.
pub mod Front
