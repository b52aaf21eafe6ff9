mod Bottoms
mod Telling
