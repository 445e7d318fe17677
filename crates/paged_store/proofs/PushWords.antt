-- A value, or a pair, at the end of a record that has room for it.
use Rattle.std.proofs.Common.{◌≡◌, ◌≢◌, ℕ, ◌+◌, ◌*◌, ◌<◌, ◌≤◌, true, false, [], ◌∷◌, ◌++◌, length, refl, sym, ap, ◌∙◌, inl, inr, arith, length-append}
use Rattle.std.proofs.lemmas.Bool.Decides.{eqb_tells}
use Rattle.py_base.specs.declared.kind.Kind.{Kind}
use Rattle.py_base.specs.declared.kind.Kind.TheVariants.{Str, Tuple, List as ListKind, Dict, Cell, Function, Class, Instance, Method, Iter, Range, Lock, Thread}
use Rattle.py_data.specs.declared.value.Value.{Value}
use Rattle.py_data.specs.Heap.{Rec, has_bytes, has_rooms, with_push, with_pair, room_for, doubled}
use Rattle.paged_store.specs.Words.{Words, room_in, class_in, decode, kind_by, count_by, body_size}
use Rattle.paged_store.specs.inner.Formed.{Formed, Lays, FitsValue}
use Rattle.paged_store.specs.inner.Moves.{never}
use Rattle.paged_store.specs.inner.Written.{PushesValue, PushesPair, Changed}
use Rattle.paged_store.proofs.RecordWords.{size_is, count_fits, room_is, values_length}
use Rattle.paged_store.proofs.ChangeWords.{push_in_place, pair_in_place}

pub rooms_no_bytes : (k : Kind) → has_rooms k ≡ true → has_bytes k ≡ false
rooms_no_bytes Str h = cc
rooms_no_bytes Tuple h = refl
rooms_no_bytes ListKind h = refl
rooms_no_bytes Dict h = refl
rooms_no_bytes Cell h = refl
rooms_no_bytes Function h = refl
rooms_no_bytes Class h = refl
rooms_no_bytes Instance h = refl
rooms_no_bytes Method h = refl
rooms_no_bytes Iter h = refl
rooms_no_bytes Range h = refl
rooms_no_bytes Lock h = refl
rooms_no_bytes Thread h = refl

pub room_stays : (n room : ℕ) → n ≢ room → room_for n room ≡ room
room_stays n room h = elim (eqb_tells n room) [ inl e ↦ absurd (h e.1) | inr e ↦ rw e.0 refl ]

pub room_doubles : (n room : ℕ) → n ≡ room → room_for n room ≡ doubled room
room_doubles n room h = elim (eqb_tells n room) [ inl e ↦ rw e.0 refl | inr e ↦ absurd (e.1 h) ]

-- the same words stand for the same record
pub changed_to : (own role w now : Words) (a : ℕ) (e part : ℕ → ℕ) (r q : Rec) → r ≡ q →
    Changed own role w now a e part r → Changed own role w now a e part q
changed_to own role w now a e part r q h c = record {
  means = c.means ∙ h;
  formed = c.formed;
  lays = c.lays;
  others = c.others;
}

-- ---- rooms

-- a body with two words more than the values take has room
pub has_room : (w : Words) (a : ℕ) → has_rooms (kind_by w a) ≡ true → 2 * count_by w a + 2 ≤ body_size w a →
    length (decode w a).values < (decode w a).room
has_room w a k h =
    let size : body_size w a ≡ 2 * room_in (class_in (w (2 * a))) = size_is (class_in (w (2 * a))) in
    rw (values_length w a (rooms_no_bytes (kind_by w a) k), room_is w a k) (omega arith)

-- and one that has no two words more is full
pub is_full : (w : Words) (a : ℕ) → has_rooms (kind_by w a) ≡ true → Formed w a →
    body_size w a < 2 * count_by w a + 2 → length (decode w a).values ≡ (decode w a).room
is_full w a k f h =
    let size : body_size w a ≡ 2 * room_in (class_in (w (2 * a))) = size_is (class_in (w (2 * a))) in
    let fits : 2 * count_by w a ≤ body_size w a = count_fits w a (rooms_no_bytes (kind_by w a) k) f in
    values_length w a (rooms_no_bytes (kind_by w a) k) ∙ (let e : count_by w a ≡ room_in (class_in (w (2 * a))) =
    omega arith in e) ∙ sym (room_is w a k)

-- ---- pushes

pushed_within : (r : Rec) (v : Value) → length r.values < r.room →
    record r { values = r.values ++ v ∷ [] } ≡ with_push v r
pushed_within r v h = ap {A = ℕ} {B = Rec} (λ n. record r { values = r.values ++ v ∷ []; room = n })
    (sym (room_stays (length r.values) r.room (λ e. omega arith)))

pub push_changed : (own role w now : Words) (a : ℕ) (v : Value) → Formed w a → Lays own role w a →
    has_rooms (kind_by w a) ≡ true → 2 * count_by w a + 2 ≤ body_size w a → FitsValue v → PushesValue w now a v →
    Changed own role w now a never never (with_push v (decode w a))
push_changed own role w now a v f l k room fits s =
    changed_to own role w now a never never (record (decode w a) { values = (decode w a).values ++ v ∷ [] })
    (with_push v (decode w a)) (pushed_within (decode w a) v (has_room w a k room))
    (push_in_place own role w now a v f l (rooms_no_bytes (kind_by w a) k) room fits s)

paired_within : (r : Rec) (key v : Value) → length r.values + 1 < r.room →
    record r { values = (r.values ++ key ∷ []) ++ v ∷ [] } ≡ with_pair key v r
paired_within r key v h =
    let once : r.room ≡ room_for (length r.values) r.room = sym
    (room_stays (length r.values) r.room (λ e. omega arith)) in
    let twice : r.room ≡ room_for (length (r.values ++ key ∷ [])) r.room =
    sym (room_stays (length (r.values ++ key ∷ [])) r.room
    (λ e. omega (arith, length-append r.values (key ∷ [])))) in
    ap {A = ℕ} {B = Rec} (λ n. record r { values = (r.values ++ key ∷ []) ++ v ∷ []; room = n })
    (twice ∙ ap (room_for (length (r.values ++ key ∷ []))) once)

-- a body with four words more than the values take has room for a pair
pub has_pair_room : (w : Words) (a : ℕ) → has_rooms (kind_by w a) ≡ true → 2 * count_by w a + 4 ≤ body_size w a →
    length (decode w a).values + 1 < (decode w a).room
has_pair_room w a k h =
    let size : body_size w a ≡ 2 * room_in (class_in (w (2 * a))) = size_is (class_in (w (2 * a))) in
    rw (values_length w a (rooms_no_bytes (kind_by w a) k), room_is w a k) (omega arith)

pub pair_changed : (own role w now : Words) (a : ℕ) (key v : Value) → Formed w a → Lays own role w a →
    has_rooms (kind_by w a) ≡ true → 2 * count_by w a + 4 ≤ body_size w a → FitsValue key → FitsValue v →
    PushesPair w now a key v → Changed own role w now a never never (with_pair key v (decode w a))
pair_changed own role w now a key v f l k room fits_key fits s =
    changed_to own role w now a never never (record (decode w a)
    { values = ((decode w a).values ++ key ∷ []) ++ v ∷ [] }) (with_pair key v (decode w a))
    (paired_within (decode w a) key v (has_pair_room w a k room))
    (pair_in_place own role w now a key v f l (rooms_no_bytes (kind_by w a) k) room fits_key fits s)
