-- Extents only become more: within a row, along steps, and along runs.
use Rattle.std.proofs.Common.{◌≡◌, ◌⊎◌, inl, inr, ℕ, zero, suc, ◌+◌, ◌*◌, ◌^◌, ◌<◌, ◌≤◌, false, true, Bool, cond, ◌&&◌, eqb, leb, List, [], ◌∷◌, length, slice_set, Some, refl, sym, ap, subst, subst₂, ◌∙◌, arith}
use Rattle.std.proofs.lemmas.Bool.{cases_Bool, eqb-true, eqb-false, leb-true, leb-false, le-leb, ne_eqb, cond-true, cond-false}
use Rattle.py_base.specs.declared.kind.Kind.{Kind}
use Rattle.py_base.specs.declared.kind.Kind.TheVariants.{Str, List as ListKind, Dict}
use Rattle.py_data.specs.declared.change.Change.{Change}
use Rattle.py_data.specs.declared.change.Change.TheVariants.{Set, Push, Cut, Pair, Unpair}
use Rattle.py_data.specs.Changes.{after, Allows}
use Rattle.py_data.specs.Heap.{Heap, Rec, put_at, with_value}
use Rattle.py_data.specs.Row.{Call, Reply, Row, Read, Find, Edit, Make, Start, Put, Take, MidLine, SetMidLine}
use Rattle.py_data.specs.Sense.{Upto}
use Rattle.py_data.specs.Sight.{Sight, Act, Does, pure, opened}
use Rattle.py_data.proofs.Grow.{kept_after}
use Rattle.py_data.proofs.Whole.{run_steps, upto_steps}
use Rattle.lock_run.specs.Prog.{Prog}
use Rattle.lock_run.specs.declared.turn.Turn.{Turn}
use Rattle.lock_run.specs.Machine.{Machine, Steps, DoesTurn, Runs}
use Rattle.seg_store.specs.Extents.{class_from, class_holding, class_of_room, first_class, one_if, within, bodies, body, bodies_of, extents, extents_of}
use Rattle.heap_bound.specs.Moments.{More}

class_top : (k n : ℕ) → class_from k n ≤ k
class_top zero n = omega arith
class_top (suc k) n = let ih : class_from k n ≤ k = class_top k n in
    elim (leb n (2 ^ k)) as (λ b. cond b (class_from k n) (suc k) ≤ suc k) [ true ↦ omega arith | false ↦ omega arith ]

class_more : (k n m : ℕ) → n ≤ m → class_from k n ≤ class_from k m
class_more zero n m l = omega arith
class_more (suc k) n m l = elim (cases_Bool (leb m (2 ^ k))) [
  | inl y ↦
      let u = leb-true m (2 ^ k) y in
      let t : leb n (2 ^ k) ≡ true = le-leb n (2 ^ k) (omega arith) in
      let a : cond (leb n (2 ^ k)) (class_from k n) (suc k) ≡ class_from k n = cond-true _ _ _ t in
      let b : cond (leb m (2 ^ k)) (class_from k m) (suc k) ≡ class_from k m = cond-true _ _ _ y in
      let ih : class_from k n ≤ class_from k m = class_more k n m l in
      omega arith
  | inr f ↦
      let b : cond (leb m (2 ^ k)) (class_from k m) (suc k) ≡ suc k = cond-false _ _ _ f in
      let t : class_from (suc k) n ≤ suc k = class_top (suc k) n in
      omega arith
]

at_least_one : (k n : ℕ) → 2 < n → 1 ≤ class_from (suc k) n
at_least_one zero n l =
    let f : leb n (2 ^ 0) ≡ false = elim (cases_Bool (leb n (2 ^ 0)))
    [ inl y ↦ (let u = leb-true n (2 ^ 0) y in absurd (omega arith)) | inr y ↦ y ] in
    let b : cond (leb n (2 ^ 0)) (class_from 0 n) 1 ≡ 1 = cond-false _ _ _ f in
    omega arith
at_least_one (suc k) n l = elim (cases_Bool (leb n (2 ^ suc k))) [
  | inl y ↦ let b : cond (leb n (2 ^ suc k)) (class_from (suc k) n) (suc (suc k)) ≡ class_from (suc k) n =
      cond-true _ _ _ y in let ih : 1 ≤ class_from (suc k) n = at_least_one k n l in omega arith
  | inr y ↦ let b : cond (leb n (2 ^ suc k)) (class_from (suc k) n) (suc (suc k)) ≡ suc (suc k) =
      cond-false _ _ _ y in omega arith
]

-- the class that holds n words, by cases
class_zero : class_holding 0 ≡ 0
unfolding class_holding
class_zero = refl

class_small : (n : ℕ) → 1 ≤ n → n ≤ 2 → class_holding n ≡ 1
unfolding class_holding
class_small n a b = cond-false (eqb n 0) 0 _ (ne_eqb n 0 (λ e. absurd (omega arith))) ∙
    cond-true (leb n 2) 1 _ (le-leb n 2 b)

class_large : (n : ℕ) → 2 < n → class_holding n ≡ class_from 21 n
unfolding class_holding
class_large n l = cond-false (eqb n 0) 0 _ (ne_eqb n 0 (λ e. absurd (omega arith))) ∙
    cond-false (leb n 2) 1 _ (elim (cases_Bool (leb n 2)) [
      | inl y ↦ (let u = leb-true n 2 y in absurd (omega arith))
      | inr y ↦ y
    ])

size : (n : ℕ) → (n ≡ 0) ⊎ (((1 ≤ n) × (n ≤ 2)) ⊎ (2 < n))
size zero = inl refl
size (suc n) = elim (cases_Bool (leb (suc n) 2)) [
  | inl y ↦ inr (inl (omega arith, leb-true (suc n) 2 y))
  | inr y ↦ inr
      (inr (leb-false (suc n) 2 y))
]

pub class_holding_more : (n m : ℕ) → n ≤ m → class_holding n ≤ class_holding m
class_holding_more n m l = elim (size n) [
  | inl z ↦ let e : class_holding n ≡ 0 = ap class_holding z ∙ class_zero in omega arith
  | inr r ↦ elim r [
    | inl s ↦
        let lo = s.0 in
        let e : class_holding n ≡ 1 = class_small n s.0 s.1 in
        elim (size m) [
          | inl z ↦ absurd (omega arith)
          | inr q ↦ elim q [
            | inl t ↦ let f : class_holding m ≡ 1 = class_small m t.0 t.1 in omega arith
            | inr t ↦ let f : class_holding m ≡ class_from 21 m = class_large m t in let o : 1 ≤ class_from 21 m =
                at_least_one 20 m t in grind (arith, e, f, o)
          ]
        ]
    | inr s ↦ subst₂ (λ a b. a ≤ b) (sym (class_large n s)) (sym (class_large m (omega arith))) (class_more 21 n m l)
  ]
]

one_more : (x y z : Bool) → (y ≡ true → z ≡ true) → one_if (x && y) ≤ one_if (x && z)
one_more false y z f = omega arith
one_more true false z f = omega arith
one_more true true z f = subst (λ b. 1 ≤ one_if b) (sym (f refl)) (omega arith)

bodies_more : (first room more c : ℕ) → room ≤ more → bodies first room c ≤ bodies first more c
bodies_more first room more c l = elim (cases_Bool (eqb room 0)) [
  | inl y ↦ subst (λ x. x ≤ bodies first more c)
      (sym (cond-true (eqb room 0) 0 (within (first_class first) (class_of_room room) c) y)) (omega arith)
  | inr n ↦
      let ne = eqb-false room 0 n in
      let n1 : eqb more 0 ≡ false = ne_eqb more 0 (λ e. ne (omega arith)) in
      subst₂ (λ a b. a ≤ b) (sym (cond-false (eqb room 0) 0 (within (first_class first) (class_of_room room) c) n))
      (sym (cond-false (eqb more 0) 0 (within (first_class first) (class_of_room more) c) n1))
      (one_more (leb (first_class first) c) (leb c (class_of_room room)) (leb c (class_of_room more))
      (λ e. let u = leb-true c (class_of_room room) e in let v =
      class_holding_more (2 * room) (2 * more) (omega arith) in
      le-leb c (class_of_room more) (wide c (class_of_room room) (class_of_room more) u v)))
]
  where
    wide : (x y z : ℕ) → x ≤ y → y ≤ z → x ≤ z
    wide x y z a b = omega arith

-- records whose extents follow from their rooms
rooms_more : (r q : Rec) (k : Kind) (c : ℕ) → (k ≡ ListKind) ⊎ (k ≡ Dict) → q.first ≡ r.first → r.room ≤ q.room →
    bodies_of r k c ≤ bodies_of q k c
rooms_more r q k c is f l = elim is [
  | inl e ↦ subst (λ z. bodies_of r z c ≤ bodies_of q z c) (sym e)
      (subst (λ x. bodies r.first r.room c ≤ bodies x q.room c) (sym f) (bodies_more r.first r.room q.room c l))
  | inr e ↦ subst (λ z. bodies_of r z c ≤ bodies_of q z c) (sym e)
      (both (bodies r.first r.room c) (bodies r.first r.room (c + 1)) (bodies q.first q.room c)
      (bodies q.first q.room (c + 1))
      (subst (λ x. bodies r.first r.room c ≤ bodies x q.room c) (sym f) (bodies_more r.first r.room q.room c l))
      (subst (λ x. bodies r.first r.room (c + 1) ≤ bodies x q.room (c + 1)) (sym f)
      (bodies_more r.first r.room q.room (c + 1) l)))
]
  where
    both : (a b x y : ℕ) → a ≤ x → b ≤ y → a + b ≤ x + y
    both a b x y l m = omega arith

pub extents_rooms : (r q : Rec) (c : ℕ) → (r.kind ≡ ListKind) ⊎ (r.kind ≡ Dict) → q.kind ≡ r.kind → q.first ≡
    r.first → r.room ≤ q.room → extents r c ≤ extents q c
unfolding extents
extents_rooms r q c is k f l = let b = rooms_more r q r.kind c is f l in
    subst (λ z. one_if (eqb c 2) + bodies_of r r.kind c ≤ one_if (eqb c 2) + bodies_of q z c) (sym k)
    (under (one_if (eqb c 2)) (bodies_of r r.kind c) (bodies_of q r.kind c) b)
  where
    under : (a x y : ℕ) → x ≤ y → a + x ≤ a + y
    under a x y l = omega arith

-- records of the same lengths and rooms
bodies_same : (r q : Rec) (k : Kind) (c : ℕ) → length q.values ≡ length r.values → q.bytes ≡ r.bytes → q.room ≡
    r.room → q.first ≡ r.first → bodies_of q k c ≡ bodies_of r k c
bodies_same r q ListKind c v b m f = ap (λ x. bodies x q.room c) f ∙ ap (λ x. bodies r.first x c) m
bodies_same r q Dict c v b m f = ap (λ x. bodies x q.room c + bodies x q.room (c + 1)) f ∙
    ap (λ x. bodies r.first x c + bodies r.first x (c + 1)) m
bodies_same r q Str c v b m f =
    ap (λ (x : List ℕ). bodies_of (record { kind = Str; values = []; bytes = x; room = 0; first = 0 }) Str c) b
bodies_same r q _ c v b m f = ap (λ n. body (2 * n) c) v

pub extents_same : (r q : Rec) (c : ℕ) → q.kind ≡ r.kind → length q.values ≡ length r.values → q.bytes ≡ r.bytes →
    q.room ≡ r.room → q.first ≡ r.first → extents r c ≤ extents q c
unfolding extents
extents_same r q c k v b m f = same_le (one_if (eqb c 2) + bodies_of r r.kind c)
    (one_if (eqb c 2) + bodies_of q q.kind c)
    (ap (λ x. one_if (eqb c 2) + x) (sym (ap (λ z. bodies_of q z c) k ∙ bodies_same r q r.kind c v b m f)))
  where
    same_le : (x y : ℕ) → x ≡ y → x ≤ y
    same_le x y e = omega arith

-- ---- changes

slice_set_length : {X : Type 0} (xs : List X) (i : ℕ) (x : X) → length (slice_set xs i x) ≡ length xs
slice_set_length [] i x = refl
slice_set_length (y ∷ ys) zero x = refl
slice_set_length (y ∷ ys) (suc i) x = ap suc (slice_set_length ys i x)

roomy_more : (x : Change) (r : Rec) (c : ℕ) → (r.kind ≡ ListKind) ⊎ (r.kind ≡ Dict) → extents r c ≤
    extents (after x r) c
roomy_more x r c is = let k = kept_after x r in extents_rooms r (after x r) c is k.kind k.first k.room

-- a change that a record allows leaves it the extents that it has
pub after_more : (x : Change) (r : Rec) → Allows x r → (c : ℕ) → extents r c ≤ extents (after x r) c
after_more (Set i v) r ok c = extents_same r (with_value i v r) c refl (slice_set_length r.values i v) refl refl refl
after_more (Push v) r ok c = roomy_more (Push v) r c (inl ok.0)
after_more (Cut n) r ok c = roomy_more (Cut n) r c (inl ok.0)
after_more (Pair key v) r ok c = roomy_more (Pair key v) r c (inr ok.0)
after_more (Unpair n) r ok c = roomy_more (Unpair n) r c (inr ok.0)

-- ---- heaps

pub more_refl : (h : Heap) → More h h
more_refl h = record { more = λ a c. omega arith }

pub more_trans : (h g f : Heap) → More h g → More g f → More h f
more_trans h g f x y = record {
  more = λ a c. wide (extents_of (h a) c) (extents_of (g a) c) (extents_of (f a) c) (x.more a c) (y.more a c);
}
  where
    wide : (x y z : ℕ) → x ≤ y → y ≤ z → x ≤ z
    wide x y z a b = omega arith

put_more : (h : Heap) (a : ℕ) (q : Rec) → ((c : ℕ) → extents_of (h a) c ≤ extents q c) → More h (put_at h a q)
put_more h a q l = record {
  more = λ b c. elim (cases_Bool (eqb b a)) [
    | inl y ↦ subst (λ o. extents_of (h b) c ≤ extents_of o c) (sym (cond-true (eqb b a) (Some q) (h b) y))
        (subst (λ z. extents_of (h z) c ≤ extents q c) (sym (eqb-true b a y)) (l c))
    | inr n ↦ subst (λ o. extents_of (h b) c ≤ extents_of o c) (sym (cond-false (eqb b a) (Some q) (h b) n))
        (omega arith)
  ];
}

same_heap : {S : Type 0} (s t : Sight S) → t.heap ≡ s.heap → More s.heap t.heap
same_heap s t e = subst (More s.heap) (sym e) (more_refl s.heap)

pub act_more : {S : Type 0} (c : Call S) (s : Sight S) (r : Reply c) (t : Sight S) → Act c s r t → More s.heap t.heap
act_more {S} (Read a) s r t d = same_heap s t (ap (λ (z : Sight S). z.heap) d.1)
act_more {S} (Find a key) s o t d = same_heap s t (ap (λ (z : Sight S). z.heap) d.4)
act_more {S} (Edit a x) s r t d = subst (λ (z : Sight S). More s.heap z.heap) (sym d.3)
    (put_more s.heap a (after x d.0) (λ c. subst (λ o. extents_of o c ≤ extents (after x d.0) c) (sym d.1)
    (after_more x d.0 d.2 c)))
act_more {S} (Make q) s n t d = subst (λ (z : Sight S). More s.heap z.heap) (sym d.1)
    (put_more s.heap n q (λ c. subst (λ o. extents_of o c ≤ extents q c) (sym d.0) (omega arith)))
act_more {S} (Start p) s r t d = same_heap s t (ap (λ (z : Sight S). z.heap) d)
act_more {S} (Put on bytes) s r t d = same_heap s t (ap (λ (z : Sight S). z.heap) d)
act_more {S} (Take most) s l t d = same_heap s t (ap (λ (z : Sight S). z.heap) d.1)
act_more {S} MidLine s mid t d = same_heap s t (ap (λ (z : Sight S). z.heap) d.1)
act_more {S} (SetMidLine mid) s r t d = same_heap s t (ap (λ (z : Sight S). z.heap) d)

-- ---- rows, steps, turns and runs

abbrev MoreAfter : {S : Type 0} → Sight S → Sight S → Type 0
MoreAfter s t = More s.heap t.heap

pub does_more : {S A : Type 0} (row : Row S A) (s t : Sight S) (y : A) → Does row s y t → More s.heap t.heap
does_more {S} row s t y d = run_steps pure MoreAfter (λ (v : Sight S). more_refl v.heap)
    (λ (v m w : Sight S). more_trans v.heap m.heap w.heap) act_more row s y t d

pub upto_more : {S A : Type 0} (row : Row S A) (s : Sight S) (left : Row S A) (place : Sight S) →
    Upto pure row s left place → More s.heap place.heap
upto_more {S} row s left place u = upto_steps pure MoreAfter (λ (v : Sight S). more_refl v.heap)
    (λ (v m w : Sight S). more_trans v.heap m.heap w.heap) act_more row s left place u

pub steps_more : {S : Type 0} (p : Prog S) (n : ℕ) (q : S) (s : Sight S) (r : S) (t : Sight S) → Steps p n q s r t →
    More s.heap t.heap
steps_more {S} p zero q s r t d = same_heap s t (ap (λ (z : Sight S). z.heap) d.1)
steps_more p (suc n) q s r t d = more_trans s.heap d.1.heap t.heap (steps_more p n q s d.0 d.1 d.2)
    (does_more (p.row d.0) d.1 t (d.3.outcome, r) d.3.does)

turn_more : {S : Type 0} (p : Prog S) (m m1 : Machine S) (t : Turn) → DoesTurn p m t m1 → More m.heap m1.heap
turn_more {S} p m m1 t d = subst (λ (z : Machine S). More m.heap z.heap) (sym d.gives)
    (steps_more p t.steps d.before (opened S m.heap m.world) d.after d.sight d.steps)

pub runs_more : {S : Type 0} (p : Prog S) (m m1 : Machine S) (ts : List Turn) → Runs p m ts m1 → More m.heap m1.heap
runs_more {S} p m m1 [] r = subst (λ (z : Machine S). More m.heap z.heap) (sym r) (more_refl m.heap)
runs_more p m m1 (t ∷ ts) r = more_trans m.heap r.0.heap m1.heap (turn_more p m r.0 t r.1) (runs_more p r.0 m1 ts r.2)
