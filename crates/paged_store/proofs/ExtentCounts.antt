-- How many extents a record has when it is made, once it has grown, and after a change in place.
use Rattle.std.proofs.Common.{◌≡◌, ◌≢◌, ℕ, ◌+◌, ◌-◌, ◌*◌, ◌/◌, ◌<◌, ◌≤◌, true, false, ◌&&◌, eqb, leb, List, [], ◌∷◌, length, refl, sym, ap, ◌∙◌, subst, inl, inr, arith, length-append}
use Rattle.std.proofs.lemmas.Bool.Decides.{eqb_tells, leb_tells}
use Rattle.std.proofs.lemmas.List.{length-set}
use Rattle.py_base.specs.declared.kind.Kind.{Kind}
use Rattle.py_base.specs.declared.kind.Kind.TheVariants.{Str, Tuple, List as ListKind, Dict, Cell, Function, Class, Instance, Method, Iter, Range, Lock, Thread}
use Rattle.py_data.specs.declared.change.Change.{Change}
use Rattle.py_data.specs.declared.change.Change.TheVariants.{Push, Pair}
use Rattle.py_data.specs.declared.record.Record.{Record}
use Rattle.py_data.specs.declared.value.Value.{Value}
use Rattle.py_data.specs.Changes.{after}
use Rattle.py_data.specs.Heap.{Rec, has_rooms, with_value, with_push, cut_to, with_pair, without_pair, room_of, length_by, new_rec}
use Rattle.py_data.specs.Made.{rec_of}
use Rattle.seg_store.specs.Extents.{class_holding, class_of_room, body, one_if, bodies, bodies_of, extents}
use Rattle.paged_store.specs.Words.{Words, class_in, index_class_in, first_in, decode, kind_by}
use Rattle.paged_store.specs.inner.Claiming.{times}
use Rattle.paged_store.specs.inner.Formed.{Formed}
use Rattle.paged_store.specs.inner.Growing.{grown_class, grown_index}
use Rattle.paged_store.specs.inner.Making.{body_class, index_class}
use Rattle.paged_store.specs.inner.Written.{made_class, made_index, next_index}
use Rattle.paged_store.proofs.RecordWords.{kind_is}
use Rattle.paged_store.proofs.ClassLemmas.{class_holding_none, dict_class}
use Rattle.paged_store.proofs.PushWords.{room_stays}
use Rattle.paged_store.proofs.GrowWords.{dict_room}
use Rattle.paged_store.proofs.ExtentLemmas.{no_body, a_body, same_body, list_extents, dict_extents, Doubles, old_class, new_class, new_some, new_low, push_doubles, pair_doubles}

-- ---- tests of classes

same_test : (x y u v : ℕ) → (x ≡ y → u ≡ v) → (u ≡ v → x ≡ y) → one_if (eqb x y) ≡ one_if (eqb u v)
same_test x y u v f g = elim (eqb_tells x y) [
  | inl e ↦ elim (eqb_tells u v) [ inl d ↦ rw (e.0, d.0) refl | inr d ↦ absurd (d.1 (f e.1)) ]
  | inr e ↦ elim (eqb_tells u v) [ inl d ↦ absurd (e.1 (g d.1)) | inr d ↦ rw (e.0, d.0) refl ]
]

not_one : (x y : ℕ) → x ≢ y → one_if (eqb x y) ≡ 0
not_one x y n = elim (eqb_tells x y) [ inl e ↦ absurd (n e.1) | inr e ↦ ap one_if e.0 ]

pub no_class : (c x : ℕ) → 1 ≤ c → x ≡ 0 → one_if (eqb c x) ≡ 0
no_class c x low z = not_one c x (λ e. omega (arith, low, z, e))

-- ---- a new record

body_counts : (words c : ℕ) → 1 ≤ c → body words c ≡ one_if (eqb c (class_holding words))
body_counts words c low = elim (eqb_tells words 0) [
  | inl e ↦ rw e.0 (sym (no_class c (class_holding words) low (ap class_holding e.1 ∙ class_holding_none)))
  | inr e ↦ rw e.0 refl
]

one_class : (k c : ℕ) → one_if (leb k c && leb c k) ≡ one_if (eqb c k)
one_class k c = elim (leb_tells k c) [
  | inl h ↦ elim (leb_tells c k) [
    | inl l ↦ elim (eqb_tells c k) [
      | inl e ↦ rw (h.0, l.0, e.0) refl
      | inr e ↦ absurd (let x = h.1 in let y = l.1 in e.1 (omega (arith, x, y)))
    ]
    | inr l ↦ other (rw (h.0, l.0) refl) (λ e. (let y = l.1 in omega (arith, e, y)))
  ]
  | inr h ↦ other (rw h.0 refl) (λ e. (let y = h.1 in omega (arith, e, y)))
]
  where
    other : one_if (leb k c && leb c k) ≡ 0 → c ≢ k → one_if (leb k c && leb c k) ≡ one_if (eqb c k)
    other z n = z ∙ sym (not_one c k n)

rooms_counts : (room c : ℕ) → 1 ≤ c → bodies room room c ≡ one_if (eqb c (class_of_room room))
rooms_counts room c low = elim (eqb_tells room 0) [
  | inl e ↦ rw e.0 (sym (no_class c (class_of_room room) low (ap class_of_room e.1 ∙ class_holding_none)))
  | inr e ↦ rw e.0 (one_class (class_of_room room) c)
]

made_counts : (k : Kind) (vs : List Value) (bs : List ℕ) (c : ℕ) → 1 ≤ c → extents (new_rec k vs bs) c ≡
    times c (2 ∷ made_class k (length_by k vs bs) ∷ made_index k (made_class k (length_by k vs bs)) ∷ [])
unfolding extents made_class
made_counts Str vs bs c low = omega (arith, body_counts ((length bs + 7) / 8) c low, no_class c 0 low refl)
made_counts ListKind vs bs c low =
    omega (arith, rooms_counts (room_of ListKind (length vs)) c low, no_class c 0 low refl)
made_counts Dict vs bs c low =
    let room : ℕ = room_of Dict (length vs) in
    let class : 2 ≤ class_of_room room = dict_class (length vs) in
    let index : one_if (eqb (c + 1) (class_of_room room)) ≡ one_if (eqb c (class_of_room room - 1)) =
    same_test (c + 1) (class_of_room room) c (class_of_room room - 1) (λ e. omega (arith, e)) (λ e.
    omega (arith, e, class)) in
    omega (arith, rooms_counts room c low, rooms_counts room (c + 1) (omega arith), index)
made_counts Tuple vs bs c low = omega (arith, body_counts (2 * length vs) c low, no_class c 0 low refl)
made_counts Cell vs bs c low = omega (arith, body_counts (2 * length vs) c low, no_class c 0 low refl)
made_counts Function vs bs c low = omega (arith, body_counts (2 * length vs) c low, no_class c 0 low refl)
made_counts Class vs bs c low = omega (arith, body_counts (2 * length vs) c low, no_class c 0 low refl)
made_counts Instance vs bs c low = omega (arith, body_counts (2 * length vs) c low, no_class c 0 low refl)
made_counts Method vs bs c low = omega (arith, body_counts (2 * length vs) c low, no_class c 0 low refl)
made_counts Iter vs bs c low = omega (arith, body_counts (2 * length vs) c low, no_class c 0 low refl)
made_counts Range vs bs c low = omega (arith, body_counts (2 * length vs) c low, no_class c 0 low refl)
made_counts Lock vs bs c low = omega (arith, body_counts (2 * length vs) c low, no_class c 0 low refl)
made_counts Thread vs bs c low = omega (arith, body_counts (2 * length vs) c low, no_class c 0 low refl)

-- it has a header, a body and an index
pub made_extents_are : (r : Record) (c : ℕ) → 1 ≤ c →
    extents (rec_of r) c ≡ times c (2 ∷ body_class r ∷ index_class r ∷ [])
made_extents_are r c low = made_counts r.kind r.values r.bytes c low

-- ---- a record that grows

module _ (r q : Rec) (c f : ℕ) (d : Doubles r q c f) where
  -- it has one body more, of the next class
  bodies_more : (i : ℕ) → 1 ≤ i → bodies q.first q.room i ≡ bodies r.first r.room i + one_if (eqb i (c + 1))
  bodies_more i low =
      let old = old_class r q c f d in
      let new = new_class r q c f d in
      elim (leb_tells i c) [
        | inl h ↦ (let y = h.1 in
            let some : r.room ≢ 0 = λ e. (let z : class_of_room r.room ≡ 0 = ap class_of_room e ∙ class_holding_none in
            omega (arith, z, y, low, old)) in
            let same : bodies r.first r.room i ≡ bodies q.first q.room i =
            rw d.same (same_body r.first r.room q.room i some (new_some r q c f d) (omega (arith, y, old))
            (omega (arith, y, new))) in
            let none : one_if (eqb i (c + 1)) ≡ 0 = not_one i (c + 1) (λ e. omega (arith, e, y)) in
            omega (arith, same, none))
        | inr h ↦ (let y = h.1 in
            let none : bodies r.first r.room i ≡ 0 = no_body r.first r.room i (omega (arith, y, old)) in
            elim (eqb_tells i (c + 1)) [
              | inl e ↦ (let z = e.1 in
                  let one : bodies q.first q.room i ≡ 1 =
                  a_body q.first q.room i (new_some r q c f d) (let m = new_low r q c f d in omega (arith, m, z))
                  (omega (arith, z, new)) in
                  let is = ap one_if e.0 in
                  omega (arith, none, one, is))
              | inr e ↦ (let n = e.1 in
                  let none_now : bodies q.first q.room i ≡ 0 =
                  no_body q.first q.room i (omega (arith, y, n, new)) in
                  let is = ap one_if e.0 in
                  omega (arith, none, none_now, is))
            ])
      ]

  pub list_gains : r.kind ≡ ListKind → (i : ℕ) → 1 ≤ i → extents q i ≡ extents r i + times i ((c + 1) ∷ 0 ∷ 0 ∷ [])
  list_gains k i low = rw (list_extents r i k, list_extents q i (d.kind ∙ k))
      (omega (arith, bodies_more i low, no_class i 0 low refl))

  -- a Dict's index is of the class that its body had
  pub dict_gains : r.kind ≡ Dict → (i : ℕ) → 1 ≤ i → extents q i ≡ extents r i + times i ((c + 1) ∷ c ∷ 0 ∷ [])
  dict_gains k i low =
      let index : one_if (eqb (i + 1) (c + 1)) ≡ one_if (eqb i c) =
      same_test (i + 1) (c + 1) i c (λ e. omega (arith, e)) (λ e. omega (arith, e)) in
      rw (dict_extents r i k, dict_extents q i (d.kind ∙ k))
      (omega (arith, bodies_more i low, bodies_more (i + 1) (omega arith), index, no_class i 0 low refl))

-- the record at an address has those more that it takes
abbrev pub GainsGrown : Words → ℕ → Change → ℕ → Type 0
GainsGrown w a change c = extents (after change (decode w a)) c ≡
    extents (decode w a) c + times c (grown_class w a ∷ grown_index w a ∷ 0 ∷ [])

pub list_grown : (w : Words) (a : ℕ) (v : Value) → Formed w a → kind_by w a ≡ ListKind → class_in (w (2 * a)) < 21 →
    length (decode w a).values ≡ (decode w a).room → (c : ℕ) → 1 ≤ c → GainsGrown w a (Push v) c
list_grown w a v f k below full c low =
    let none : grown_index w a ≡ 0 = ap (λ z. next_index z (index_class_in (w (2 * a)))) k in
    subst (λ z. extents (with_push v (decode w a)) c ≡ extents (decode w a) c + times c (grown_class w a ∷ z ∷ 0 ∷ []))
    (sym none)
    (list_gains (decode w a) (with_push v (decode w a)) (class_in (w (2 * a))) (first_in (w (2 * a)))
    (push_doubles w a v f (ap has_rooms k) below full) (kind_is w a ∙ k) c low)

pub dict_grown : (w : Words) (a : ℕ) (key v : Value) → Formed w a → kind_by w a ≡ Dict → class_in (w (2 * a)) < 21 →
    length (decode w a).values ≡ (decode w a).room → (c : ℕ) → 1 ≤ c → GainsGrown w a (Pair key v) c
dict_grown w a key v f k below full c low =
    let h : (class_in (w (2 * a)) ≡ index_class_in (w (2 * a)) + 1) × (1 ≤ index_class_in (w (2 * a))) =
    rw k at f.index in
    let same : grown_index w a ≡ class_in (w (2 * a)) =
    ap (λ z. next_index z (index_class_in (w (2 * a)))) k ∙ sym h.0 in
    subst (λ z. extents (with_pair key v (decode w a)) c ≡
    extents (decode w a) c + times c (grown_class w a ∷ z ∷ 0 ∷ [])) (sym same)
    (dict_gains (decode w a) (with_pair key v (decode w a)) (class_in (w (2 * a))) (first_in (w (2 * a)))
    (pair_doubles w a key v f (ap has_rooms k) below full (dict_room w a f k)) (kind_is w a ∙ k) c low)

-- ---- the same extents

same_bodies : (r q : Rec) (c : ℕ) → q.room ≡ r.room → q.first ≡ r.first → length q.bytes ≡ length r.bytes →
    (k : Kind) → (has_rooms k ≡ false → length q.values ≡ length r.values) → bodies_of q k c ≡ bodies_of r k c
same_bodies r q c room first bytes ListKind values = λ i. bodies (first i) (room i) c
same_bodies r q c room first bytes Dict values = λ i. bodies (first i) (room i) c + bodies (first i) (room i) (c + 1)
same_bodies r q c room first bytes Str values = ap (λ n. body ((n + 7) / 8) c) bytes
same_bodies r q c room first bytes Tuple values = ap (λ n. body (2 * n) c) (values refl)
same_bodies r q c room first bytes Cell values = ap (λ n. body (2 * n) c) (values refl)
same_bodies r q c room first bytes Function values = ap (λ n. body (2 * n) c) (values refl)
same_bodies r q c room first bytes Class values = ap (λ n. body (2 * n) c) (values refl)
same_bodies r q c room first bytes Instance values = ap (λ n. body (2 * n) c) (values refl)
same_bodies r q c room first bytes Method values = ap (λ n. body (2 * n) c) (values refl)
same_bodies r q c room first bytes Iter values = ap (λ n. body (2 * n) c) (values refl)
same_bodies r q c room first bytes Range values = ap (λ n. body (2 * n) c) (values refl)
same_bodies r q c room first bytes Lock values = ap (λ n. body (2 * n) c) (values refl)
same_bodies r q c room first bytes Thread values = ap (λ n. body (2 * n) c) (values refl)

-- two records of one kind, with the same rooms, and as many bytes, and values where there are no rooms
pub same_extents : (r q : Rec) (c : ℕ) → q.kind ≡ r.kind → q.room ≡ r.room → q.first ≡ r.first →
    length q.bytes ≡ length r.bytes → (has_rooms r.kind ≡ false → length q.values ≡ length r.values) →
    extents q c ≡ extents r c
unfolding extents
same_extents r q c kind room first bytes values =
    ap (λ (k : Kind). one_if (eqb c 2) + bodies_of q k c) kind ∙
    ap (λ n. one_if (eqb c 2) + n) (same_bodies r q c room first bytes r.kind values)

-- a record with rooms
rooms_keep : (r q : Rec) (c : ℕ) → has_rooms r.kind ≡ true → q.kind ≡ r.kind → q.room ≡ r.room → q.first ≡ r.first →
    length q.bytes ≡ length r.bytes → extents q c ≡ extents r c
rooms_keep r q c h kind room first bytes = same_extents r q c kind room first bytes (λ e. absurd (cc))

pub set_keeps : (i : ℕ) (v : Value) (r : Rec) (c : ℕ) → extents (with_value i v r) c ≡ extents r c
set_keeps i v r c = same_extents r (with_value i v r) c refl refl refl refl (λ e. length-set r.values i v)

pub push_keeps : (v : Value) (r : Rec) (c : ℕ) → has_rooms r.kind ≡ true → length r.values < r.room →
    extents (with_push v r) c ≡ extents r c
push_keeps v r c h room = rooms_keep r (with_push v r) c h refl
    (room_stays (length r.values) r.room (λ e. omega (arith, e, room))) refl refl

pub cut_keeps : (n : ℕ) (r : Rec) (c : ℕ) → has_rooms r.kind ≡ true → extents (cut_to n r) c ≡ extents r c
cut_keeps n r c h = rooms_keep r (cut_to n r) c h refl refl refl refl

pub pair_keeps : (key v : Value) (r : Rec) (c : ℕ) → has_rooms r.kind ≡ true → length r.values + 1 < r.room →
    extents (with_pair key v r) c ≡ extents r c
pair_keeps key v r c h room =
    let same = room_stays (length r.values) r.room (λ e. omega (arith, e, room)) in
    push_keeps v (with_push key r) c h (let e = length-append r.values (key ∷ []) in omega (arith, e, same, room)) ∙
    push_keeps key r c h (omega (arith, room))

pub unpair_keeps : (k : ℕ) (r : Rec) (c : ℕ) → has_rooms r.kind ≡ true → extents (without_pair k r) c ≡ extents r c
unpair_keeps k r c h = rooms_keep r (without_pair k r) c h refl refl refl refl
