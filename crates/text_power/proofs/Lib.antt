mod Cuts
pub mod Each
mod Erasing
mod LinkedEnds
mod LoneCoils
mod PowerRoutes
mod RouteEnds
mod Told
