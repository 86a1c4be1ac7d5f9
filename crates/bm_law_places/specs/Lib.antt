pub mod World
pub mod Place
pub mod Placed
pub mod WorkedPlaces
