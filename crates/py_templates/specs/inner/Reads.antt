-- The mirror of the code: nothing public rests on it.
-- What the parts of an expression use, one after another. It belongs to `Uses`.
use Rattle.std.specs.Prelude.{List, [], ◌∷◌, ◌++◌}
use Rattle.py_tree.specs.declared.expr.Link.{Link}
use Rattle.py_tree.specs.declared.expr.Pair.{Pair}
use Rattle.py_tree.specs.declared.expr.Trailer.{Trailer}
use Rattle.py_tree.specs.declared.expr.Named.{Named}
use Rattle.py_templates.specs.Uses.{Use, Text, Inside, read, used_trailer}

abbrev pub read_links : Inside → List Link → List Use
read_links b [] = []
read_links b (l ∷ ls) = read b l.operand ++ read_links b ls

abbrev pub read_pairs : Inside → List Pair → List Use
read_pairs b [] = []
read_pairs b (p ∷ ps) = (read b p.key ++ read b p.value) ++ read_pairs b ps

abbrev pub read_trailers : Inside → List Trailer → List Use
read_trailers b [] = []
read_trailers b (t ∷ ts) = used_trailer b t ++ read_trailers b ts

abbrev pub read_named : Inside → List Named → List Use
read_named b [] = []
read_named b (k ∷ ks) = (Text k.name ∷ read b k.value) ++ read_named b ks
