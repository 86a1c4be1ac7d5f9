pub mod Chain
pub mod Stacks
pub mod Housed
pub mod Numbers
pub mod Stamps
