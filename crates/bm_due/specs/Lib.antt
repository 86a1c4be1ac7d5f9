pub mod Due
pub mod Standing
pub mod Asking
pub mod Plan
pub mod Told
pub mod Worked
