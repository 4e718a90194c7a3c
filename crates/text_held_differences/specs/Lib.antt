pub mod HeldText
