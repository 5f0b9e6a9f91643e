mod Fits
mod Lists
