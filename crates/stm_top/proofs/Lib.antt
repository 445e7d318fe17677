mod FullHeap
mod HandedOver
mod Taking
mod TopSteps
