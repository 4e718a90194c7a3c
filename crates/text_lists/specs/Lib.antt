pub mod HeldText
pub mod PossibleText
pub mod PossibleRows
pub mod ClassText
pub mod SteadyText
pub mod PairText
