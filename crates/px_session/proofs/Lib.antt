mod Adding
mod Nowhere
