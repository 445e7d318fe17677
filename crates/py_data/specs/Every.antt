-- A property of each element of a list, by recursion on the list.
-- States `docs/HEAP.md`, "Records": what is said there of each value of a record is said by it.
use Rattle.std.specs.Prelude.{List, [], ◌∷◌}

-- each element has the property
abbrev pub Every : {A : Type 0} → (A → Type 0) → List A → Type 0
Every p [] = Unit {0}
Every p (x ∷ xs) = p x × Every p xs
