mod GoingOn
pub mod FirstScans
mod Repeating
mod LaneByLane
mod FirstInLane
mod WordScans
mod WordBits
mod SeveralScans
mod ScanByScan
mod AlikeSteps
mod AlikeStarts
mod ComingAgain
mod AllKnown
mod Periods
