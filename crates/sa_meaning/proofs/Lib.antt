pub mod Lists
pub mod ItemsLemmas
pub mod OutputLemmas
pub mod CountsLemmas
pub mod Worked
pub mod WorkedJoins
