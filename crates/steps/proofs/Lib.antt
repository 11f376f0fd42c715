mod Decided
mod Front
mod Passed
