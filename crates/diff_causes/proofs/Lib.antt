pub mod Assuming
pub mod Numbers
pub mod RowLaws
mod Order
pub mod GroupLaws
pub mod Walking
pub mod Partners
