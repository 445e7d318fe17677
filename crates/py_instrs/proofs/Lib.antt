mod PairLoops
mod RootsLoop
mod Numbering
