-- What no module of the tracker owns: floats, lists, a fact of every element, turns of a loop, and worked examples.
pub mod Every
pub mod Float64
pub mod Lists
pub mod Turns
pub mod Worked
