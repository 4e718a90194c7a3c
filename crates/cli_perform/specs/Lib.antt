pub mod Performs
pub mod Advised
pub mod Assuming
pub mod Files
pub mod Coils
pub mod Telling
pub mod CoilNames
