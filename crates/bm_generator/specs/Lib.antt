pub mod Draws
pub mod Generated
pub mod Laws
pub mod Pieces
pub mod Texts
pub mod Worked
