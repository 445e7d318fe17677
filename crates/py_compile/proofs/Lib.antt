mod PlanBounds
mod Deletions
mod Compiled
mod Compiling
mod Plans
mod PlanWeights
mod Leaves
mod OnceNames
