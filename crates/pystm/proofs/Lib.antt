mod Known
mod Line
