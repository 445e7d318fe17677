mod There
mod PairsLeft
