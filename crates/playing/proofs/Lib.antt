mod Lengths
mod Parts
mod Shorts
mod Fronts
