mod Lasts
mod Afters
mod Loops
