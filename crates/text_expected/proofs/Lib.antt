mod Fields
mod Places
mod Regroup
