mod Counts
mod Lengths
