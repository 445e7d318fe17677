-- What always holds of a store of maps is what a store tells.
use Rattle.std.proofs.Common.{◌≡◌, ℕ, Bool, true, false, ◌||◌, cond, List, [], ◌∷◌, ◌++◌, take, drop, Option, Some, None, is_some, slice_get, length, refl, sym, ◌∙◌, ap, arith, take-append-drop}
use Rattle.std.proofs.lemmas.List.{map-append}
use Rattle.py_data.specs.declared.value.Value.{Value}
use Rattle.py_data.specs.declared.value.Addr.{Addr}
use Rattle.py_data.specs.Collection.{places}
use Rattle.py_data.specs.Heap.{Rec, has_bytes}
use Rattle.py_data.specs.Sight.{mem}
use Rattle.seg_store.specs.declared.hand.Hand.{Hand}
use Rattle.seg_store.specs.Meaning.{Part, holds}
use Rattle.seg_store.specs.Store.{NoneOf, IsStored, AreStored, IsStore}
use Rattle.seg_store.specs.inner.Holding.{is_empty, IsGood}
use Rattle.seg_store.specs.inner.Tables.{part_in, IsSound}
use Rattle.seg_store.proofs.Stores.{meant}

empty_list : {T : Type 0} (xs : List T) → is_empty xs ≡ true → xs ≡ []
empty_list [] e = refl
empty_list (x ∷ xs) e = cc

list_one : (b : Bool) (vs : List Value) (bs : List ℕ) → cond b (is_empty vs) (is_empty bs) ≡ true → NoneOf b vs bs
list_one true vs bs e = empty_list vs e
list_one false vs bs e = empty_list bs e

stored : (r : Rec) → IsGood r → IsStored r
stored r g = record { values = g.values; bytes = g.bytes; one = list_one (has_bytes r.kind) r.values r.bytes g.one }

-- what always holds of one segment's part
record IsPart (p : Part) : Type 0 where
  changes : (a : ℕ) → is_some (p.changes a) ≡ holds p a
  kept : (a : ℕ) → is_some (p.kept a) ≡ (mem a p.changed || mem a p.kept_made)
  front : (more : List ℕ) × (p.made ≡ p.kept_made ++ more)
  stored_changes : AreStored p.changes
  stored_kept : AreStored p.kept

front_of : (n : ℕ) (xs : List Addr) → (more : List ℕ) × (places xs ≡ places (take n xs) ++ more)
front_of n xs = (
  places (drop n xs),
  sym (sym (map-append (λ (a : Addr). a.0) (take n xs) (drop n xs)) ∙
      ap places (take-append-drop n xs)),
)

part_is : (x : Option Hand) → IsPart (part_in x)
part_is None = record {
  changes = λ a. refl;
  kept = λ a. refl;
  front = ([], refl);
  stored_changes = record { each = λ a r e. cc };
  stored_kept = record { each = λ a r e. cc };
}
part_is (Some h) = record {
  changes = λ a. h.sound.now a;
  kept = λ a. h.sound.before a;
  front = front_of h.kept h.made;
  stored_changes = record { each = λ a r e. stored r (h.sound.good a r e) };
  stored_kept = record { each = λ a r e. stored r (h.sound.good_before a r e) };
}

none_some : (o : Option Rec) → is_some o ≡ false → o ≡ None
none_some None e = refl
none_some (Some r) e = cc

pub is_store : (os : List (Option Rec)) (hs : List Hand) → IsSound (meant os hs) (length os) → IsStore 0 (meant os hs)
is_store os hs w = record {
  some = w.some;
  few = w.few;
  room = omega arith;
  changes = λ j. (part_is (slice_get hs j)).changes;
  kept = λ j. (part_is (slice_get hs j)).kept;
  front = λ j. (part_is (slice_get hs j)).front;
  locked = w.locked;
  unused = λ j a e. none_some ((meant os hs).image a) (w.unused j a e);
  apart = w.apart;
  stored = record { each = λ a r e. stored r (w.good a r e) };
  stored_changes = λ j. (part_is (slice_get hs j)).stored_changes;
  stored_kept = λ j. (part_is (slice_get hs j)).stored_kept;
}
