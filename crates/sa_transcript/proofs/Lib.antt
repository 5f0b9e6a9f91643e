mod FirstFound
mod FloatLemmas
mod Worked
