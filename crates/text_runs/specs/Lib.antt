pub mod CauseText
pub mod AddedRows
pub mod RunText
pub mod Rows
pub mod Laws
pub mod Making
