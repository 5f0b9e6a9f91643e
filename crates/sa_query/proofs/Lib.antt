pub mod AnswersLemmas
pub mod Worked
pub mod WorkedChoices
pub mod WorkedGroups
pub mod WorkedOrder
pub mod WorkedShop
