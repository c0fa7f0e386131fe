mod Texts
mod Lists
mod Cells
mod Written
