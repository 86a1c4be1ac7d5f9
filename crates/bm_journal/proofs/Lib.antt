pub mod CountLemmas
mod Digits
mod Lines
mod Printing
mod Sums
