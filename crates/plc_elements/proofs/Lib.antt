mod Digits
mod Got
