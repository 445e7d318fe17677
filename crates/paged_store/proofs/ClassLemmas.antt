-- The class of an extent that holds so many words, and the class of a body with a room.
use Rattle.std.proofs.Common.{◌≡◌, ◌≢◌, ◌⊎◌, ℕ, zero, suc, ◌+◌, ◌*◌, ◌^◌, ◌<◌, ◌≤◌, min, max, true, false, cond, eqb, leb, refl, sym, ap, ◌∙◌, inl, inr, arith}
use Rattle.std.proofs.Math.Nat.{pow-succ', pow-le-pow_right}
use Rattle.std.proofs.lemmas.Nat.{pow_pos, pow_below}
use Rattle.std.proofs.lemmas.Bool.{cond-true, cond-false, eq-eqb}
use Rattle.std.proofs.lemmas.Bool.Decides.{eqb_tells, leb_tells}
use Rattle.py_base.specs.declared.kind.Kind.{Kind}
use Rattle.py_base.specs.declared.kind.Kind.TheVariants.{Str, Tuple, List as ListKind, Dict, Cell, Function, Class, Instance, Method, Iter, Range, Lock, Thread}
use Rattle.py_data.specs.Heap.{has_rooms, power_above, room_of}
use Rattle.seg_store.specs.Extents.{class_from, class_holding, class_of_room}
use Rattle.paged_store.specs.Words.{size_of, room_in}
use Rattle.paged_store.proofs.RecordWords.{size_of_next, room_in_zero, room_in_next}

-- ---- the least class

pub class_from_most : (k n : ℕ) → class_from k n ≤ k
class_from_most zero n = omega arith
class_from_most (suc k) n = elim (leb_tells n (2 ^ k)) [
  | inl e ↦ rw e.0 (let h : class_from k n ≤ k = class_from_most k n in omega arith)
  | inr e ↦ rw e.0 (omega arith)
]

pub class_from_holds : (k n : ℕ) → n ≤ 2 ^ k → n ≤ 2 ^ class_from k n
class_from_holds zero n h = h
class_from_holds (suc k) n h = elim (leb_tells n (2 ^ k)) [
  | inl e ↦ rw e.0 (class_from_holds k n e.1)
  | inr e ↦ rw e.0 h
]

-- the class of a power of two
pub class_from_power : (k m : ℕ) → m ≤ k → class_from k (2 ^ m) ≡ m
class_from_power zero m h = omega arith
class_from_power (suc k) m h = elim (leb_tells m k) [
  | inl e ↦ (let l : 2 ^ m ≤ 2 ^ k = pow-le-pow_right (omega arith) e.1 in
      elim (leb_tells (2 ^ m) (2 ^ k)) [
        | inl d ↦ rw d.0 (class_from_power k m e.1)
        | inr d ↦ absurd
            (let x : 2 ^ k < 2 ^ m = d.1 in omega arith)
      ])
  | inr e ↦ (let s : 2 ^ k < 2 ^ m = pow_below k m e.1 in elim (leb_tells (2 ^ m) (2 ^ k)) [
    | inl d ↦ absurd (let x : 2 ^ m ≤ 2 ^ k = d.1 in omega arith)
    | inr d ↦ rw d.0
        (let x : k < m = e.1 in omega arith)
  ])
]

-- one word has an extent of class 0
pub class_from_one : (k n : ℕ) → n ≤ 1 → class_from k n ≡ 0
class_from_one zero n h = refl
class_from_one (suc k) n h = elim (leb_tells n (2 ^ k)) [
  | inl e ↦ rw e.0 (class_from_one k n h)
  | inr e ↦ absurd (let x : 2 ^ k < n = e.1 in omega (arith, x, h, pow_pos k))
]

-- the class of so many words, by the power of two below them
pub class_from_above : (k m n : ℕ) → 2 ^ m < n → n ≤ 2 * 2 ^ m → class_from k n ≡ min (m + 1) k
class_from_above zero m n low high = omega arith
class_from_above (suc k) m n low high = elim (leb_tells n (2 ^ k)) [
  | inl e ↦ (let l : n ≤ 2 ^ k = e.1 in elim (leb_tells k m) [
    | inl d ↦ absurd (let x : 2 ^ k ≤ 2 ^ m = pow-le-pow_right (omega arith) d.1 in omega (arith, x, l, low))
    | inr d ↦ rw e.0 (let z : min (m + 1) k ≡ min (m + 1) (suc k) = omega (arith, d.1) in
        class_from_above k m n low high ∙ z)
  ])
  | inr e ↦ (let l : 2 ^ k < n = e.1 in elim (leb_tells k m) [
    | inl d ↦ rw e.0 (omega (arith, d.1))
    | inr d ↦ absurd (let x : 2 ^ suc m ≤ 2 ^ k = pow-le-pow_right (omega arith) d.1 in
        let y : 2 ^ suc m ≡ 2 * 2 ^ m = pow-succ' 2 m in omega (arith, x, y, l, high))
  ])
]

pub power_is : (k n : ℕ) → power_above k n ≡ 2 ^ class_from k n
power_is zero n = refl
power_is (suc k) n = elim (leb_tells n (2 ^ k)) [
  | inl e ↦ rw e.0 (power_is k n)
  | inr e ↦ rw e.0 refl
]

-- ---- the class that holds so many words

pub class_holding_none : class_holding 0 ≡ 0
unfolding class_holding
class_holding_none = refl

-- the class, where the least one up to 21 is c
abbrev holding : ℕ → ℕ → ℕ
holding n c = cond (eqb n 0) 0 (cond (leb n 2) 1 c)

holding_is : (n : ℕ) → class_holding n ≡ holding n (class_from 21 n)
unfolding class_holding
holding_is n = refl

holding_most : (n c : ℕ) → c ≤ 21 → holding n c ≤ 21
holding_most n c h = elim (eqb_tells n 0) [
  | inl e ↦ rw e.0 (omega arith)
  | inr e ↦ rw e.0 (elim (leb_tells n 2) [ inl d ↦ rw d.0 (omega arith) | inr d ↦ rw d.0 h ])
]

pub class_holding_most : (n : ℕ) → class_holding n ≤ 21
class_holding_most n = rw (holding_is n) (holding_most n (class_from 21 n) (class_from_most 21 n))

size_of_some : (c n : ℕ) → 2 < n → n ≤ 2 ^ c → n ≤ size_of c
size_of_some zero n h l = absurd (omega arith)
size_of_some (suc c) n h l = rw (size_of_next) l

holding_holds : (n c : ℕ) → n ≤ 2 ^ c → n ≤ size_of (holding n c)
holding_holds n c h = elim (eqb_tells n 0) [
  | inl e ↦ rw e.0 (let z : n ≡ 0 = e.1 in omega arith)
  | inr e ↦ rw e.0 (elim (leb_tells n 2) [
    | inl d ↦ rw d.0 (let z : size_of 1 ≡ 2 = size_of_next 0 in rw z d.1)
    | inr d ↦ rw d.0 (size_of_some c n d.1 h)
  ])
]

pub class_holding_holds : (n : ℕ) → n ≤ 2 ^ 21 → n ≤ size_of (class_holding n)
class_holding_holds n h = rw (holding_is n) (holding_holds n (class_from 21 n) (class_from_holds 21 n h))

-- ---- rooms

power_small : (m : ℕ) → 2 * 2 ^ m ≤ 2 → 1 ≡ m + 1
power_small zero h = refl
power_small (suc m) h = (let p : 0 < 2 ^ m = pow_pos m in let d : 2 ^ suc m ≡ 2 * 2 ^ m = pow-succ' 2 m in
    absurd (omega arith))

holding_power : (m c : ℕ) → c ≡ m + 1 → holding (2 * 2 ^ m) c ≡ m + 1
holding_power m c h =
    let p : 0 < 2 ^ m = pow_pos m in
    elim (eqb_tells (2 * 2 ^ m) 0) [
      | inl e ↦ absurd (let z : 2 * 2 ^ m ≡ 0 = e.1 in omega arith)
      | inr e ↦ rw e.0 (elim (leb_tells (2 * 2 ^ m) 2) [ inl l ↦ rw l.0 (power_small m l.1) | inr l ↦ rw l.0 h ])
    ]

pub class_of_power : (m : ℕ) → m ≤ 20 → class_of_room (2 ^ m) ≡ m + 1
class_of_power m h =
    let d : 2 ^ suc m ≡ 2 * 2 ^ m = pow-succ' 2 m in
    let c : class_from 21 (2 ^ suc m) ≡ suc m = class_from_power 21 (suc m) (omega arith) in
    holding_is (2 * 2 ^ m) ∙ holding_power m (class_from 21 (2 * 2 ^ m))
    (ap (class_from 21) (sym d) ∙ c ∙ (let z : suc m ≡ m + 1 = omega arith in z))

-- the room of a List, and of a Dict, that is made
list_room : (n : ℕ) → room_of ListKind n ≡ cond (eqb n 0) 0 (2 ^ class_from 20 n)
unfolding room_of
list_room n = ap (λ z. cond (eqb n 0) 0 z) (power_is 20 n)

dict_room : (n : ℕ) → room_of Dict n ≡ max 2 (2 ^ class_from 20 n)
unfolding room_of
dict_room n = ap (max 2) (power_is 20 n)

two_or_more : (m : ℕ) → m ≤ 20 → (j : ℕ) × (1 ≤ j) × (j ≤ 20) × (max 2 (2 ^ m) ≡ 2 ^ j)
two_or_more zero h = (1, omega arith, omega arith, refl)
two_or_more (suc m) h = (
  suc m,
  omega arith,
  h,
  (let l : 2 ^ 1 ≤ 2 ^ suc m =
      pow-le-pow_right (omega arith) {i = 1} (omega arith) in omega arith),
)

-- a Dict's room is a power of two from 2 on
pub dict_power : (n : ℕ) → (j : ℕ) × (1 ≤ j) × (j ≤ 20) × (room_of Dict n ≡ 2 ^ j)
dict_power n = let t : (j : ℕ) × (1 ≤ j) × (j ≤ 20) × (max 2 (2 ^ class_from 20 n) ≡ 2 ^ j) =
    two_or_more (class_from 20 n) (class_from_most 20 n) in (t.0, t.1, t.2, dict_room n ∙ t.3)

-- and a List's is 0 or one from 1 on
pub list_power : (n : ℕ) → (room_of ListKind n ≡ 0) ⊎ ((j : ℕ) × (j ≤ 20) × (room_of ListKind n ≡ 2 ^ j))
list_power n = elim (eqb_tells n 0) [
  | inl e ↦ inl (list_room n ∙ rw e.0 refl)
  | inr e ↦ inr (class_from 20 n, class_from_most 20 n, list_room n ∙ rw e.0 refl)
]

pub no_room : (k : Kind) (n : ℕ) → has_rooms k ≡ false → room_of k n ≡ 0
unfolding room_of
no_room Str n h = refl
no_room Tuple n h = refl
no_room Cell n h = refl
no_room Function n h = refl
no_room Class n h = refl
no_room Instance n h = refl
no_room Method n h = refl
no_room Iter n h = refl
no_room Range n h = refl
no_room Lock n h = refl
no_room Thread n h = refl
no_room ListKind n h = cc
no_room Dict n h = cc

-- the class of a room's body tells the room
power_back : (r j : ℕ) → j ≤ 20 → r ≡ 2 ^ j → room_in (class_of_room r) ≡ r
power_back r j h e = ap (λ z. room_in (class_of_room z)) e ∙ ap room_in
    (class_of_power j h ∙ (let z : j + 1 ≡ suc j = omega arith in z)) ∙ room_in_next j ∙ sym e

none_back : (r : ℕ) → r ≡ 0 → room_in (class_of_room r) ≡ r
none_back r e = ap (λ z. room_in (class_of_room z)) e ∙ ap room_in class_holding_none ∙ room_in_zero ∙ sym e

pub room_back : (k : Kind) (n : ℕ) → has_rooms k ≡ true → room_in (class_of_room (room_of k n)) ≡ room_of k n
room_back ListKind n h = elim (list_power n) [
  | inl e ↦ none_back (room_of ListKind n) e
  | inr t ↦ power_back (room_of ListKind n) t.0 t.1 t.2
]
room_back Dict n h = let t : (j : ℕ) × (1 ≤ j) × (j ≤ 20) × (room_of Dict n ≡ 2 ^ j) = dict_power n in
    power_back (room_of Dict n) t.0 t.2 t.3
room_back Str n h = cc
room_back Tuple n h = cc
room_back Cell n h = cc
room_back Function n h = cc
room_back Class n h = cc
room_back Instance n h = cc
room_back Method n h = cc
room_back Iter n h = cc
room_back Range n h = cc
room_back Lock n h = cc
room_back Thread n h = cc

-- a room has room for the values that the record is made with
pub room_holds : (k : Kind) (n : ℕ) → has_rooms k ≡ true → n ≤ 2 ^ 20 → n ≤ room_of k n
room_holds ListKind n h l = rw (list_room n) (elim (eqb_tells n 0) [
  | inl e ↦ rw e.0 (let z : n ≡ 0 = e.1 in omega arith)
  | inr e ↦ rw e.0 (class_from_holds 20 n l)
])
room_holds Dict n h l = rw (dict_room n) (let m : n ≤ 2 ^ class_from 20 n = class_from_holds 20 n l in omega arith)
room_holds Str n h l = cc
room_holds Tuple n h l = cc
room_holds Cell n h l = cc
room_holds Function n h l = cc
room_holds Class n h l = cc
room_holds Instance n h l = cc
room_holds Method n h l = cc
room_holds Iter n h l = cc
room_holds Range n h l = cc
room_holds Lock n h l = cc
room_holds Thread n h l = cc

-- a Dict's body is of class 2 or more
pub dict_class : (n : ℕ) → 2 ≤ class_of_room (room_of Dict n)
dict_class n =
    let t : (j : ℕ) × (1 ≤ j) × (j ≤ 20) × (room_of Dict n ≡ 2 ^ j) = dict_power n in
    let c : class_of_room (room_of Dict n) ≡ t.0 + 1 = ap class_of_room t.3 ∙ class_of_power t.0 t.2 in
    let l : 1 ≤ t.0 = t.1 in
    omega arith

-- the class of a body, by its room
pub class_of_room_in : (c : ℕ) → c ≤ 21 → class_of_room (room_in c) ≡ c
class_of_room_in zero h = ap class_of_room room_in_zero ∙ class_holding_none
class_of_room_in (suc c) h = ap class_of_room (room_in_next c) ∙ class_of_power c (omega arith) ∙
    (let z : c + 1 ≡ suc c = omega arith in z)

-- ---- the class that a List, and a Dict, is made with

pub list_class_none : (n : ℕ) → n ≡ 0 → class_of_room (room_of ListKind n) ≡ 0
list_class_none n e = ap class_of_room (list_room n ∙ cond-true (eqb n 0) 0 (2 ^ class_from 20 n) (eq-eqb n 0 e)) ∙
    class_holding_none

pub list_class_some : (n : ℕ) → n ≢ 0 → class_of_room (room_of ListKind n) ≡ class_from 20 n + 1
list_class_some n e = elim (eqb_tells n 0) [
  | inl y ↦ absurd (e y.1)
  | inr m ↦ ap class_of_room (list_room n ∙ cond-false (eqb n 0) 0 (2 ^ class_from 20 n) m.0)
      ∙ class_of_power (class_from 20 n) (class_from_most 20 n)
]

greater_power : (m : ℕ) → max 2 (2 ^ m) ≡ 2 ^ max m 1
greater_power zero = refl
greater_power (suc m) = (let l : 2 ^ 1 ≤ 2 ^ suc m = pow-le-pow_right (omega arith) {i = 1} (omega arith) in
    let e : max (suc m) 1 ≡ suc m = omega arith in
    let z : max 2 (2 ^ suc m) ≡ 2 ^ suc m = omega arith in z ∙ ap (λ i. 2 ^ i) (sym e))

pub dict_class_is : (n : ℕ) → class_of_room (room_of Dict n) ≡ max (class_from 20 n) 1 + 1
dict_class_is n = ap class_of_room (dict_room n ∙ greater_power (class_from 20 n))
    ∙ class_of_power (max (class_from 20 n) 1) (let m = class_from_most 20 n in omega (arith, m))
