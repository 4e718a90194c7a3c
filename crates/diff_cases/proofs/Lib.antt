mod Assumed
mod Contents
mod PinnedBack
mod Scanned
mod Settling
mod Stepping
mod Together
