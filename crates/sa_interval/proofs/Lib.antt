mod CutLemmas
mod PutLemmas
mod Merging
mod Meets
mod Gathering
mod Rising
