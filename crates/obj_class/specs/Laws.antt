-- What is below what, which attribute comes first, which classes are exception classes, and how attributes are set and
-- deleted, and how exceptions are written, in the words in which `src/laws.rt` ensures them. States `docs/LANGUAGE.md`,
-- "Classes and instances", "Attributes" and "Exceptions".
use Rattle.std.specs.Prelude.{◌≡◌, ◌≢◌, ℕ, suc, ◌<◌, ◌≤◌, ◌==◌, true, false, codes, List, [], Some, None, option_map}
use Rattle.py_base.specs.declared.kind.Kind.TheVariants.{Class, Instance}
use Rattle.py_base.specs.Numbers.{class_count, class_number}
use Rattle.py_data.specs.declared.value.Value.{Value}
use Rattle.py_data.specs.declared.value.Addr.{Addr}
use Rattle.py_data.specs.declared.record.Got.{Got}
use Rattle.py_data.specs.declared.record.Got.TheVariants.{Is, Raise}
use Rattle.py_data.specs.declared.record.With.{With}
use Rattle.py_data.specs.declared.record.With.TheVariants.{Nothing, Text, Held}
use Rattle.py_data.specs.Closed.{BasesEnd, IsItem}
use Rattle.py_data.specs.Heap.{Heap, Rec, value_at}
use Rattle.py_data.specs.Order.{Extends}
use Rattle.py_data.specs.Sense.{Sense, Run}
use Rattle.py_data.specs.Texts.{repr, str}
use Rattle.obj_nest.specs.Text.{spelling}
use Rattle.obj_dict.specs.Dict.{set_row, del_row}
use Rattle.obj_class.specs.declared.lookup.Found.TheVariants.{Plain}
use Rattle.obj_class.specs.Bases.{ref, MOST_BASES, IsBelow, is_below}
use Rattle.obj_class.specs.Exceptions.{IsException}
use Rattle.obj_class.specs.Telling.{text_of, told_within}
use Rattle.obj_class.specs.Roots.{IsExceptionClass, IsRoots, class_place, root_class}
use Rattle.obj_class.specs.Attributes.{attribute, attribute_fault, bound, bytes_in, inherited, kept, own_dict, IsNearest}
use Rattle.obj_class.specs.AttrRows.{set_attr_row, del_attr_row}

pub record BelowLaw : Type 0 where
  -- a class is below itself
  pub same : (h : Heap) (c n : ℕ) → is_below h c (suc n) (ref c) ≡ true
  -- and below what a class is below that it is below, where the way along its bases ends
  pub then : (h : Heap) (a b c n : ℕ) → BasesEnd h n (ref a) → is_below h b n (ref a) ≡ true →
      is_below h c n (ref b) ≡ true → is_below h c n (ref a) ≡ true
  -- the test finds only what some steps along bases lead to, and all of it where the way ends within so many classes
  pub sound : (h : Heap) (base n : ℕ) (v : Value) → is_below h base n v ≡ true → IsBelow h base v
  pub complete : (h : Heap) (base n : ℕ) (v : Value) → BasesEnd h n v → IsBelow h base v → is_below h base n v ≡ true
  -- further turns change nothing there
  pub more : (h : Heap) (base n m : ℕ) (v : Value) → BasesEnd h n v → n ≤ m → is_below h base m v ≡ is_below h base n v

pub record AttributeLaw : Type 0 where
  -- an instance's own attribute comes before its class's
  pub own : (h : Heap) (roots a name : ℕ) (r : Rec) (x : Value) → h a ≡ Some r → r.kind ≡ Instance →
      kept h (value_at r.values 1) (ref name) ≡ Some x → attribute h roots (ref a) name ≡ Some (Plain x)
  pub class : (h : Heap) (roots a name : ℕ) (r : Rec) → h a ≡ Some r → r.kind ≡ Instance →
      kept h (value_at r.values 1) (ref name) ≡ None
      → attribute h roots (ref a) name ≡ option_map (bound h) (inherited h (ref name) MOST_BASES (value_at r.values 0))
  -- a class's is what it and its bases have, as it is
  pub as_is : (h : Heap) (roots a name : ℕ) (r : Rec) → h a ≡ Some r → r.kind ≡ Class →
      attribute h roots (ref a) name ≡ option_map Plain (inherited h (ref name) MOST_BASES (ref a))
  -- what is inherited is what the nearest class has that has anything, and that is found where the way along bases ends
  pub nearest : (h : Heap) (key : Value) (n : ℕ) (v x : Value) → inherited h key n v ≡ Some x → IsNearest h key v x
  pub found : (h : Heap) (key : Value) (n m : ℕ) (v x : Value) → BasesEnd h n v → n ≤ m → IsNearest h key v x →
      inherited h key m v ≡ Some x

-- a list of roots stays one
abbrev pub RootsStay : Type 0
RootsStay = (h h1 : Heap) (roots : ℕ) → Extends h h1 → IsRoots h roots → IsRoots h1 roots

-- Of the classes that every program has, all but `object` are exception classes.
pub record ExceptionsLaw : Type 0 where
  pub are : (h : Heap) (roots n : ℕ) → (r : IsRoots h roots) → 0 < n → n < class_count →
      IsExceptionClass h r.list.values (value_at r.list.values (class_place n))
  pub object : (h : Heap) (roots : ℕ) → (r : IsRoots h roots) →
      IsExceptionClass h r.list.values (root_class r.list.values (codes "object")) → ⊥

-- a name was taken out, or wasn't there
abbrev pub done_or_missing : Got Value → List ℕ → Got (Unit {0})
done_or_missing (Is x) name = Is tt
done_or_missing (Raise e) name = Raise (attribute_fault name)

-- How setting and deleting an attribute follow from the operations on dictionaries, over each view: by the laws of
-- these a name that is set again keeps its place, a new one comes last, and a deleted one is gone.
pub record OwnLaw {S X : Type 0} (u : Sense S X) : Type 0 where
  -- of an instance and a class it is the dictionary's own operation, over the same records
  pub set : (x y : Value) (name : ℕ) (d : Addr) (v w : X) (res : Got (Unit {0})) → IsItem (u.heap v) x →
      own_dict (u.heap v) x ≡ Some d → Run u (set_attr_row x name y) v res w
      → (m : X) × (u.heap m ≡ u.heap v) × Run u (set_row d.0 (ref name) y) m res w
  pub del : (x : Value) (name : ℕ) (d : Addr) (v w : X) (res : Got (Unit {0})) → IsItem (u.heap v) x →
      own_dict (u.heap v) x ≡ Some d → Run u (del_attr_row x name) v res w
      → (m : X) × (n : X) × (g : Got Value) × (u.heap m ≡ u.heap v) × Run u (del_row d.0 (ref name)) m g n ×
      (res ≡ done_or_missing g (bytes_in (u.heap n name))) × (u.heap w ≡ u.heap n)
  -- of any other value it raises AttributeError, and leaves all records
  pub set_none : (x y : Value) (name : ℕ) (v w : X) (res : Got (Unit {0})) → IsItem (u.heap v) x →
      own_dict (u.heap v) x ≡ None → Run u (set_attr_row x name y) v res w →
      (res ≡ Raise (attribute_fault (bytes_in (u.heap v name)))) × (u.heap w ≡ u.heap v)
  pub del_none : (x : Value) (name : ℕ) (v w : X) (res : Got (Unit {0})) → IsItem (u.heap v) x →
      own_dict (u.heap v) x ≡ None → Run u (del_attr_row x name) v res w →
      (res ≡ Raise (attribute_fault (bytes_in (u.heap v name)))) × (u.heap w ≡ u.heap v)

-- ---- texts of exceptions

-- what an operation has raised is told by: nothing, the bytes of its text, or the value in hand, which KeyError alone
-- tells in quotes; the value has the levels that the exception leaves
abbrev pub text_of_told : Heap → List Value → ℕ → With → Got (List ℕ)
text_of_told h vs n Nothing = Is []
text_of_told h vs n (Text t) = Is t
text_of_told h vs n (Held x) = told_within h vs 99 (n == class_number (codes "KeyError")) x

-- a text is for another class than KeyError
abbrev pub IsTold : ℕ → With → Type 0
IsTold n (Text t) = n ≢ class_number (codes "KeyError")
IsTold n w = Unit {0}

pub record TellingLaw : Type 0 where
  -- within others each value is written as `repr` writes it
  pub quoted : (h : Heap) (roots : ℕ) (x : Value) → text_of h roots x true ≡ repr spelling h x
  -- by itself what is no instance of an exception class is written as `str` writes it
  pub other : (h : Heap) (roots a : ℕ) (r : Rec) → (i : IsRoots h roots) → h a ≡ Some r →
      (r.kind ≡ Instance → IsExceptionClass h i.list.values (value_at r.values 0) → ⊥) →
      text_of h roots (ref a) false ≡ str spelling h (ref a)
  pub plain : (h : Heap) (roots : ℕ) (x : Value) → ((a : ℕ) → x ≡ ref a → ⊥) →
      text_of h roots x false ≡ str spelling h x
  -- and what an operation has raised is written as it was told
  pub raised : (h : Heap) (roots n : ℕ) (w : With) (x : Value) → (i : IsRoots h roots) → 0 < n → n < class_count →
      IsTold n w → IsException h (value_at i.list.values (class_place n)) w x →
      text_of h roots x false ≡ text_of_told h i.list.values n w
