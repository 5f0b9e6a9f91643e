pub mod Exact
mod Loops
mod Trees
mod Worked
