mod Chosen
mod Intervals
mod Tokens
