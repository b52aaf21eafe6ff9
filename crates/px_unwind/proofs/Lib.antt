mod Answering
mod Passing
