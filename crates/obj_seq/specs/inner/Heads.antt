-- What code and proofs say to each other: nothing public rests on it.
-- What one look at a record tells of it, and what an iterator over it comes to. States `docs/LANGUAGE.md`, "Iteration".
use Rattle.std.specs.Prelude.{◌≡◌, ℕ, ◌+◌, ◌*◌, ◌/◌, ◌<◌, ◌^◌, ◌==◌, pos, not, cond, List, [], ◌∷◌, length, slice_get, Option, Some, None, IfSome, refl}
use Rattle.py_base.specs.declared.kind.Kind.{Kind}
use Rattle.py_base.specs.declared.kind.Kind.TheVariants.{Str, List as ListKind, Dict}
use Rattle.py_data.specs.declared.value.Value.{Value}
use Rattle.py_data.specs.declared.value.Value.TheVariants.{Int}
use Rattle.py_data.specs.declared.record.Head.{Head}
use Rattle.py_data.specs.declared.record.Got.{Got}
use Rattle.py_data.specs.declared.record.Got.TheVariants.{Raise}
use Rattle.py_data.specs.Fault.{size_fault}
use Rattle.py_data.specs.Row.{Row, Ret}
use Rattle.obj_seq.specs.declared.advance.Ahead.{Ahead}
use Rattle.obj_seq.specs.declared.advance.Ahead.TheVariants.{Text, Changed, Item}
use Rattle.obj_seq.specs.Iter.{pick, has_changed, is_str, go_or_end, byte_or_end}

-- the values of a record that has three
abbrev pub three_in : Head → Option (Value × Value × Value)
three_in h = cond (h.count == 3) (Some (h.first, h.second, h.third)) None

-- what an iterator at a place of a dictionary comes to, which had so many pairs
abbrev pub key_ahead : List Value → ℕ → ℕ → Ahead
key_ahead vs at count = cond (not (length vs / 2 == count)) Changed (Item (slice_get vs (2 * at)))

-- what an iterator at a place of a record comes to, which began over so many
abbrev pub ahead_of : Kind → List Value → ℕ → ℕ → Ahead
ahead_of k vs at count = cond (is_str k) Text (cond (has_changed k vs count) Changed (Item (pick k vs at)))

-- where it comes to an item, the place behind is one that an iterator may note
abbrev pub LeavesRoom : Ahead → ℕ → Type 0
LeavesRoom (Item x) at = IfSome x (λ _. at + 1 < 2 ^ 63)
LeavesRoom _ at = Unit {0}

-- what the iterator then does; the byte is that of a string
abbrev pub ahead_row : {S : Type 0} → ℕ → ℕ → Option ℕ → Ahead → Row S (Got (Option Value))
ahead_row it at byte Text = byte_or_end it at byte
ahead_row it at byte Changed = Ret (Raise size_fault)
ahead_row it at byte (Item x) = go_or_end it at x

-- at the second place of a list, of a string, and of a dictionary that has lost its pair
second_of_list : ahead_of ListKind (Int (pos 7) ∷ Int (pos 8) ∷ []) 1 2 ≡ Item (Some (Int (pos 8)))
second_of_list = refl

second_of_text : ahead_of Str [] 1 2 ≡ Text
second_of_text = refl

second_of_pairs : ahead_of Dict [] 1 1 ≡ Changed
second_of_pairs = refl
