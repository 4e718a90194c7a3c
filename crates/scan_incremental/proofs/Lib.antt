mod Frames
mod Settled
mod Actions
mod Rung
mod Evaluating
mod Giving
mod Marking
