mod Finding
pub mod Numbers
mod Parting
mod Pruning
pub mod Telling
mod Knowledge
mod Likenings
mod FourLaws
mod LaneLaws
pub mod GroupCounts
mod AnyOrder
mod Carrying
mod Fewest
mod Counting
mod Sifting
mod Assigning
mod Deciding
pub mod Assuming
