mod ByteLemmas
mod RunLemmas
mod SeenLemmas
