pub mod Limits
mod NearLaws
mod RunLaws
mod RowLaws
pub mod Taking
mod PartLaws
pub mod GroupRows
mod CellLaws
pub mod TermLaws
mod FormLaws
pub mod TwoFields
mod TellLaws
