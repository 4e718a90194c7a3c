pub mod FindingText
