mod Plain
mod Wide
