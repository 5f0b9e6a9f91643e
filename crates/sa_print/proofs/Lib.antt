mod Doubled
mod Lists
mod Worked
mod WorkedStatements
