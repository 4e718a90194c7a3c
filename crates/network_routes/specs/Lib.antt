pub mod Routes
pub mod Firsts
