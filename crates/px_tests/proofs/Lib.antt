mod Heads
mod Tests
mod Words
