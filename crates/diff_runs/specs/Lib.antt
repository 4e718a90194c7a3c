pub mod Beside
pub mod Assuming
pub mod Showing
pub mod Asking
pub mod Pulling
pub mod Laws
