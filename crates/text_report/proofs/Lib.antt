pub mod Adding
mod Reading
