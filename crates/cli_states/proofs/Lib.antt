pub mod Allowing
mod PossibleEnds
mod RunEnds
