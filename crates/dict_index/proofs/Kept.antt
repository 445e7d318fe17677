-- Keys in a heap that keeps fixed records.
use Rattle.std.proofs.Common.{◌≡◌, true, false, List, [], ◌∷◌, Option, Some, None, refl, sym, ap, ◌∙◌, subst}
use Rattle.py_data.specs.declared.value.Value.{Value}
use Rattle.py_data.specs.declared.value.Value.TheVariants.{Unset, None as NoneValue, Bool as BoolValue, Int, Ref, Builtin}
use Rattle.py_base.specs.declared.kind.Kind.{Kind}
use Rattle.py_base.specs.declared.kind.Kind.TheVariants.{Str, Tuple, List as ListKind, Dict, Cell, Function, Class, Instance, Method, Iter, Range, Lock, Thread}
use Rattle.py_data.specs.Heap.{Rec, Heap, is_tracked}
use Rattle.py_data.specs.Shape.{text_in, IsKey, KindIn, is_key_kind, ArePairs, KeysDiffer}
use Rattle.py_data.proofs.Mirror.{find_there}
use Rattle.dict_index.specs.Keys.{class_of, text_or_name}
use Rattle.dict_index.specs.Laws.{KeepsFixed, KeptLaw}
use Rattle.dict_index.proofs.Pairs.{key_of}

key_fixed : (k : Kind) → is_key_kind k ≡ true → is_tracked k ≡ false
key_fixed Str e = refl
key_fixed Function e = refl
key_fixed Class e = refl
key_fixed Instance e = refl
key_fixed Tuple e = cc
key_fixed ListKind e = cc
key_fixed Dict e = cc
key_fixed Cell e = cc
key_fixed Method e = cc
key_fixed Iter e = cc
key_fixed Range e = cc
key_fixed Lock e = cc
key_fixed Thread e = cc

-- the same record is there
record_kept : (o q : Option Rec) → KindIn o (λ k. is_key_kind k ≡ true) →
    ((r : Rec) → o ≡ Some r → is_tracked r.kind ≡ false → q ≡ Some r) → q ≡ o
record_kept None q k f = absurd k
record_kept (Some r) q k f = f r refl (key_fixed r.kind k)

pub key_kept : (h g : Heap) (v : Value) → KeepsFixed h g → IsKey h v → IsKey g v
key_kept h g Unset f k = k
key_kept h g NoneValue f k = tt
key_kept h g (BoolValue b) f k = tt
key_kept h g (Int i) f k = tt
key_kept h g (Builtin b) f k = tt
key_kept h g (Ref a) f k = subst (λ o. KindIn o (λ k. is_key_kind k ≡ true))
    (sym (record_kept (h a.0) (g a.0) k (f a.0))) k

pub class_kept : (h g : Heap) (v : Value) → KeepsFixed h g → IsKey h v → class_of g v ≡ class_of h v
class_kept h g Unset f k = refl
class_kept h g NoneValue f k = refl
class_kept h g (BoolValue b) f k = refl
class_kept h g (Int i) f k = refl
class_kept h g (Builtin b) f k = refl
class_kept h g (Ref a) f k = ap (λ o. text_or_name a.0 (text_in o)) (record_kept (h a.0) (g a.0) k (f a.0))

pub pairs_kept : (h g : Heap) (vs : List Value) → KeepsFixed h g → ArePairs h vs → KeysDiffer h vs →
    ArePairs g vs × KeysDiffer g vs
pairs_kept h g [] f p d = (tt, tt)
pairs_kept h g (x ∷ []) f p d = absurd p
pairs_kept h g (x ∷ y ∷ rest) f p d =
    let ih = pairs_kept h g rest f p.1 d.1 in
    ((key_kept h g x f p.0, ih.0), (find_there h g f 0 rest x p.1 p.0 ∙ d.0, ih.1))

pub kept_law : KeptLaw
kept_law h g vs f p d =
    let b = pairs_kept h g vs f p d in
    (b.0, b.1, λ j l. class_kept h g _ f (key_of h vs j p l))
