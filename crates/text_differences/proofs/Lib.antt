mod RowLaws
mod GroupLaws
mod FormLaws
mod Telling
mod TellLaws
