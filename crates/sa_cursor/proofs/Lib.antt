mod Between
mod Equal
mod Ranges
mod Left
