mod Numbers
mod Faults
mod Differing
