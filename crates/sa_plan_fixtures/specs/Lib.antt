pub mod OnlyTable
