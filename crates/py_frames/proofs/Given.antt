-- What a step finds: a heap in order and the program's roots; and the facts that follow from it.
use Rattle.std.proofs.Common.{All, arith, ◌≡◌, ◌≢◌, ℕ, zero, suc, ◌+◌, ◌<◌, List, [], ◌∷◌, length, Option, Some, None, refl, sym, ap, subst, get_or, slice_get}
use Rattle.py_base.specs.declared.kind.Kind.{Kind}
use Rattle.py_base.specs.declared.kind.Kind.TheVariants.{Cell, Str}
use Rattle.py_data.specs.declared.value.Addr.{Addr}
use Rattle.py_data.specs.declared.value.Value.{Value}
use Rattle.py_data.specs.declared.value.Value.TheVariants.{Unset, None as NoneValue, Bool as BoolValue, Int, Ref, Builtin}
use Rattle.py_data.specs.Closed.{Refers, IsItem}
use Rattle.py_data.specs.Every.{Every}
use Rattle.py_data.specs.Heap.{Heap, Rec, is_tracked, value_at}
use Rattle.py_data.specs.Order.{AreLasting, IsOrdered, Extends}
use Rattle.py_data.specs.Shape.{RefTo, KindIn}
use Rattle.py_data.proofs.Keep.{ref_stays}
use Rattle.py_data.proofs.Looking.{some_of}
use Rattle.py_data.proofs.Same.{one_rec}
use Rattle.py_code.specs.declared.program.Program.{Program}
use Rattle.py_code.specs.declared.program.Code.{Code}
use Rattle.py_code.specs.declared.program.Root.{Root}
use Rattle.py_code.specs.Right.{AreRight, IsRightCode, IsRightProgram}
use Rattle.obj_class.specs.Bases.{ref}
use Rattle.obj_class.proofs.RootsKept.{roots_stay, fixed_stays}
use Rattle.py_frames.specs.Raising.{place_in}
use Rattle.py_frames.specs.Sound.{rules_of, AreRoots}
use Rattle.py_frames.specs.State.{no_code, code_at}

-- what a step finds
pub record Context (p : Program) (count roots : ℕ) (h : Heap) : Type 0 where
  pub order : IsOrdered (rules_of p count) h
  pub rooted : AreRoots p h count roots

-- ---- what stays

pub functions_last : (p : Program) (count : ℕ) → AreLasting (rules_of p count)
unfolding rules_of
functions_last p count = record {
  function = λ h h1 vs x f. record {
    name = f.name;
    number = f.number;
    defaults = f.defaults;
    is = f.is;
    there = f.there;
    some = f.some;
    none = f.none;
    tuple = f.tuple;
    here = fixed_stays h h1 f.defaults.0 f.tuple x f.here (ap is_tracked f.kind);
    kind = f.kind;
    few = f.few;
  };
}

pub rooted_stays : (p : Program) (count roots : ℕ) (h h1 : Heap) → Extends h h1 → AreRoots p h count roots →
    AreRoots p h1 count roots
rooted_stays p count roots h h1 x r =
    let old = r.known.list in
    let k = roots_stay h h1 roots x r.known in
    let same : old ≡ k.list = sym (one_rec (h1 roots) old k.list
    (fixed_stays h h1 roots old x r.known.here (ap is_tracked r.known.kind)) k.here) in
    record {
      known = k;
      counts = subst (λ z. value_at z.values 0 ≡ ref count) same r.counts;
      texts = λ n a b. subst (λ z. RefTo h1 Str (value_at z.values n)) same
          (ref_stays h h1 x Str (value_at old.values n) (r.texts n a b));
      cells = λ n a b. subst (λ z. RefTo h1 Cell (value_at z.values n)) same
          (ref_stays h h1 x Cell (value_at old.values n) (r.cells n a b));
      apart = λ n a b. subst (λ z. value_at z.values n ≢ ref count) same (r.apart n a b);
    }

pub context_stays : (p : Program) (count roots : ℕ) (h h1 : Heap) → Extends h h1 → IsOrdered (rules_of p count) h1 →
    Context p count roots h → Context p count roots h1
context_stays p count roots h h1 x order c =
    record { order = order; rooted = rooted_stays p count roots h h1 x c.rooted }

-- ---- references

-- the record that a reference of some kind names
pub record Named (h : Heap) (k : Kind) (v : Value) : Type 0 where
  pub rec : Rec
  pub here : h (place_in v) ≡ Some rec
  pub kind : rec.kind ≡ k
  pub is : v ≡ ref (place_in v)

pub named : (h : Heap) (k : Kind) (v : Value) → RefTo h k v → Named h k v
named h k (Ref a) i = by (h a.0) refl i
  where
    by : (o : Option Rec) → h a.0 ≡ o → KindIn o (λ q. q ≡ k) → Named h k (Ref a)
    by None e i = absurd i
    by (Some r) e i = record { rec = r; here = e; kind = i; is = refl }
named h k Unset i = absurd i
named h k NoneValue i = absurd i
named h k (BoolValue b) i = absurd i
named h k (Int n) i = absurd i
named h k (Builtin b) i = absurd i

-- a record of this kind at this address
pub at_ref : (h : Heap) (k : Kind) (a : ℕ) (r : Rec) → h a ≡ Some r → r.kind ≡ k → RefTo h k (ref a)
at_ref h k a r e i = subst (λ o. KindIn o (λ q. q ≡ k)) (sym e) i

pub ref_at : (h : Heap) (k : Kind) (v : Value) → RefTo h k v → RefTo h k (ref (place_in v))
ref_at h k v i = let n = named h k v i in subst (RefTo h k) n.is i

pub ref_item : (h : Heap) (k : Kind) (v : Value) → RefTo h k v → IsItem h v
ref_item h k v i = let n = named h k v i in
    subst (IsItem h) (sym n.is) (
      ap Rattle.std.specs.Prelude.is_some n.here,
      λ e. let z : ref (place_in v) ≡ Unset =
          e in cc,
    )

-- the record that a reference names
pub there_of : (h : Heap) (a : Addr) → IsItem h (Ref a) → (r : Rec) × (h a.0 ≡ Some r)
there_of h a i = some_of (h a.0) i.0

-- ---- lists by places

pub some_at : {A : Type 0} (xs : List A) (k : ℕ) (d x : A) → slice_get xs k ≡ Some x →
    (get_or xs k d ≡ x) × (k < length xs)
some_at [] k d x e = absurd (let q : ◌≡◌ {A = Option _} None (Some x) = e in cc)
some_at (y ∷ ys) zero d x e = ((let q : y ≡ x = cc in q), omega arith)
some_at (y ∷ ys) (suc k) d x e = let r = some_at ys k d x e in (r.0, (let l = r.1 in omega (arith, l)))

pub at_within : {A : Type 0} (xs : List A) (k : ℕ) → k < length xs → (x : A) × (slice_get xs k ≡ Some x)
at_within [] k l = absurd (omega (arith, l))
at_within (x ∷ xs) zero l = (x, refl)
at_within (x ∷ xs) (suc k) l = at_within xs k (omega (arith, l))

-- a value at a place of values that refer refers, also where there is none
pub value_refers : (h : Heap) (vs : List Value) (i : ℕ) → Every (Refers h) vs → Refers h (value_at vs i)
value_refers h [] i e = tt
value_refers h (v ∷ vs) zero e = e.0
value_refers h (v ∷ vs) (suc i) e = value_refers h vs i e.1

-- what holds of each place of a list
pub every_of : {A : Type 0} (P : A → Type 0) (xs : List A) → All P xs → Every P xs
every_of P [] a = tt
every_of P (x ∷ xs) a = (a 0 x (omega arith), every_of P xs (λ k d l. a (suc k) d (omega (arith, l))))

-- ---- the codes of a right program

right_by : (all : List Code) (rs : List Root) (m : ℕ) (cs : List Code) → AreRight all rs m cs → (n : ℕ) →
    n < length cs → IsRightCode all rs (m + n) (get_or cs n no_code)
right_by all rs m [] r n l = absurd (omega (arith, l))
right_by all rs m (c ∷ cs) r zero l = subst (λ k. IsRightCode all rs k c) (let e : m ≡ m + 0 = omega arith in e) r.0
right_by all rs m (c ∷ cs) r (suc n) l =
    let i = right_by all rs (m + 1) cs r.1 n (omega (arith, l)) in
    subst (λ k. IsRightCode all rs k (get_or cs n no_code)) (let e : m + 1 + n ≡ m + suc n = omega arith in e) i

pub right_at : (p : Program) (n : ℕ) → IsRightProgram p → n < length p.codes →
    IsRightCode p.codes p.roots n (code_at p n)
right_at p n right l = subst (λ k. IsRightCode p.codes p.roots k (code_at p n)) (let e : 0 + n ≡ n = omega arith in e)
    (right_by p.codes p.roots 0 p.codes right.each n l)
