pub mod Buffer
pub mod Calls
pub mod Log
pub mod Pieces
pub mod CountedReader
pub mod CountedWriter
pub mod Left
pub mod Text
