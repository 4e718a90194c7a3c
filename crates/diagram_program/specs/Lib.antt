pub mod Geometry
pub mod Bytes
pub mod AllPlaces
pub mod Program
pub mod Gates
pub mod Sheet
pub mod Steps
