-- The extents of a record, by class: they follow from its kind, its length and its rooms. An extent of class c has 2^c
-- words of 8 bytes, for c from 1 to 21. States `docs/HEAP.md`, "Extents".
use Rattle.std.specs.Prelude.{◌≡◌, ℕ, Bool, zero, suc, ◌+◌, ◌*◌, ◌/◌, ◌^◌, ◌<◌, ◌≤◌, cond, ◌&&◌, eqb, leb, length, Option, Some, None}
use Rattle.py_base.specs.declared.kind.Kind.{Kind}
use Rattle.py_base.specs.declared.kind.Kind.TheVariants.{Str, List as ListKind, Dict}
use Rattle.py_data.specs.Heap.{Rec}

-- the least class, up to k, of which an extent holds n words
abbrev pub class_from : ℕ → ℕ → ℕ
class_from zero n = 0
class_from (suc k) n = cond (leb n (2 ^ k)) (class_from k n) (suc k)

-- the least class from 1 on of which an extent holds n words; 0 for no words
unfoldable pub class_holding : ℕ → ℕ
class_holding n = cond (eqb n 0) 0 (cond (leb n 2) 1 (class_from 21 n))

-- the class of a body with room for n values, of 2 words each
abbrev pub class_of_room : ℕ → ℕ
class_of_room n = class_holding (2 * n)

abbrev pub one_if : Bool → ℕ
one_if b = cond b 1 0

-- 1 for a class from one to another
abbrev pub within : ℕ → ℕ → ℕ → ℕ
within low high c = one_if (leb low c && leb c high)

-- the class of the first body: that of the first room, or 1
abbrev pub first_class : ℕ → ℕ
first_class first = cond (eqb first 0) 1 (class_of_room first)

-- the bodies of a List or Dict: one of each class from the first one's to that of the room
abbrev pub bodies : ℕ → ℕ → ℕ → ℕ
bodies first room c = cond (eqb room 0) 0 (within (first_class first) (class_of_room room) c)

-- the body of another record
abbrev pub body : ℕ → ℕ → ℕ
body words c = cond (eqb words 0) 0 (one_if (eqb c (class_holding words)))

abbrev pub bodies_of : Rec → Kind → ℕ → ℕ
bodies_of r ListKind c = bodies r.first r.room c
bodies_of r Dict c = bodies r.first r.room c + bodies r.first r.room (c + 1)
bodies_of r Str c = body ((length r.bytes + 7) / 8) c
bodies_of r _ c = body (2 * length r.values) c

-- how many extents of a class a record has: a header, which is of class 2, and those of its body and index
unfoldable pub extents : Rec → ℕ → ℕ
extents r c = one_if (eqb c 2) + bodies_of r r.kind c

abbrev pub extents_of : Option Rec → ℕ → ℕ
extents_of None c = 0
extents_of (Some r) c = extents r c

-- the words of the extents of k classes from c on, where there are f of each class
abbrev pub words_from : ℕ → ℕ → (ℕ → ℕ) → ℕ
words_from zero c f = 0
words_from (suc k) c f = 2 ^ c * f c + words_from k (c + 1) f

-- the words of so many extents of each class
unfoldable pub words_in : (ℕ → ℕ) → ℕ
words_in f = words_from 21 1 f

-- the words of a record
abbrev pub words_at : Option Rec → ℕ
words_at o = words_in (extents_of o)

-- A record that would stand in the place of another has more extents of a class, of which one has so many words.
pub record Wants (o : Option Rec) (r : Rec) (n : ℕ) : Type 0 where
  pub class : ℕ
  pub least : 1 ≤ class
  pub most : class ≤ 21
  pub words : n ≡ 2 ^ class
  pub more : extents_of o class < extents r class
