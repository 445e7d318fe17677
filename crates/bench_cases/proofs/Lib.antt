mod Pairs
mod Holding
