mod Nearer
mod Parts
