mod PossibleLaws
mod Counting
mod Unsettled
mod PairRows
