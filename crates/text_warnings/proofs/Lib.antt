mod Below
mod Rows
mod SimilarRows
