mod Filled
mod Sure
mod LinkValues
mod GateLaws
mod Acting
mod Rungs
