mod Lists
mod Reading
mod Sums
