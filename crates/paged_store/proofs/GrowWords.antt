-- A full record grows: its body is in another place, of the next class.
use Rattle.std.proofs.Common.{◌≡◌, ◌≢◌, ℕ, zero, suc, ◌+◌, ◌*◌, ◌^◌, ◌<◌, ◌≤◌, true, false, cond, eqb, List, [], ◌∷◌, ◌++◌, length, refl, sym, ap, ◌∙◌, inl, inr, arith, length-append}
use Rattle.std.proofs.Math.Nat.{pow-succ', pow-le-pow_right}
use Rattle.std.proofs.lemmas.Nat.{pow_pos}
use Rattle.std.proofs.lemmas.Bool.Decides.{eqb_tells, leb_tells}
use Rattle.py_base.specs.declared.kind.Kind.{Kind}
use Rattle.py_base.specs.declared.kind.Kind.TheVariants.{Str, Tuple, List as ListKind, Dict, Cell, Function, Class, Instance, Method, Iter, Range, Lock, Thread}
use Rattle.py_data.specs.declared.value.Value.{Value}
use Rattle.py_data.specs.Heap.{Rec, has_bytes, has_rooms, with_push, with_pair, room_for, doubled}
use Rattle.paged_store.specs.Words.{Words, listed, value_in, size_of, room_in, kind_in, class_in, index_class_in, first_in, decode, kind_by, count_by, body_size}
use Rattle.paged_store.specs.inner.Formed.{Formed, Lays, FitsValue, HasIndex}
use Rattle.paged_store.specs.inner.Moves.{never}
use Rattle.paged_store.specs.inner.Written.{owned_by, parted, next_index, next_head, Grows, TakesBody, PushesValue, PushesPair, Changed}
use Rattle.paged_store.proofs.HeadWords.{head_kind, head_class, head_index, head_first, head_below, first_small, formed_small}
use Rattle.paged_store.proofs.ListedLemmas.{listed_same}
use Rattle.paged_store.proofs.RecordWords.{body_from, with_classes, with_head, size_is, room_in_zero, room_in_next, count_fits, decode_values, value_same, room_is, values_length}
use Rattle.paged_store.proofs.ChangeWords.{values_words, push_in_place, pair_in_place}
use Rattle.paged_store.proofs.PushWords.{rooms_no_bytes, room_stays, room_doubles, changed_to}

-- ---- rooms

pub room_next : (c : ℕ) → room_in (suc c) ≡ doubled (room_in c)
room_next zero = rw (room_in_next, room_in_zero) refl
room_next (suc c) = rw (room_in_next, room_in_next) (let p : 0 < 2 ^ c = pow_pos c in
    elim (eqb_tells (2 ^ c) 0) [ inl e ↦ absurd (omega arith) | inr e ↦ rw e.0 (pow-succ' 2 c) ])

doubled_more : (n : ℕ) → n ≤ doubled n
doubled_more n = elim (eqb_tells n 0) [ inl e ↦ omega arith | inr e ↦ rw e.0 (omega arith) ]

-- a body of the next class has no fewer words
pub size_grows : (c n : ℕ) → n ≤ size_of c → n ≤ size_of (c + 1)
size_grows c n h =
    let e : size_of c ≡ 2 * room_in c = size_is c in
    let g : size_of (c + 1) ≡ 2 * room_in (c + 1) = size_is (c + 1) in
    let d : room_in (c + 1) ≡ doubled (room_in c) = ap room_in {x = c + 1} {y = suc c} (omega arith) ∙ room_next c in
    let m : room_in c ≤ doubled (room_in c) = doubled_more (room_in c) in
    omega arith

-- the class of a body that is full is below the greatest, where the record isn't the longest
pub class_below : (c : ℕ) → room_in c < 2 ^ 20 → c < 21
class_below zero h = omega arith
class_below (suc c) h = elim (leb_tells 20 c) [
  | inl e ↦ (let l : 2 ^ 20 ≤ 2 ^ c = pow-le-pow_right (omega arith) e.1 in let r : room_in (suc c) ≡ 2 ^ c =
      room_in_next c in absurd (omega arith))
  | inr e ↦ omega arith
]

-- ---- the header

pub index_grows : (k : Kind) (c i : ℕ) → HasIndex k c i → HasIndex k (c + 1) (next_index k i)
index_grows Dict c i h = (omega (arith, h.0), omega arith)
index_grows Str c i h = refl
index_grows Tuple c i h = refl
index_grows ListKind c i h = refl
index_grows Cell c i h = refl
index_grows Function c i h = refl
index_grows Class c i h = refl
index_grows Instance c i h = refl
index_grows Method c i h = refl
index_grows Iter c i h = refl
index_grows Range c i h = refl
index_grows Lock c i h = refl
index_grows Thread c i h = refl

pub index_bound : (k : Kind) (c i : ℕ) → HasIndex k c i → next_index k i ≤ c
index_bound Dict c i h = omega (arith, h.0)
index_bound Str c i h = omega arith
index_bound Tuple c i h = omega arith
index_bound ListKind c i h = omega arith
index_bound Cell c i h = omega arith
index_bound Function c i h = omega arith
index_bound Class c i h = omega arith
index_bound Instance c i h = omega arith
index_bound Method c i h = omega arith
index_bound Iter c i h = omega arith
index_bound Range c i h = omega arith
index_bound Lock c i h = omega arith
index_bound Thread c i h = omega arith

pub record NextHead (x : ℕ) : Type 0 where
  pub kind : kind_in (next_head x) ≡ kind_in x
  pub class : class_in (next_head x) ≡ class_in x + 1
  pub index : index_class_in (next_head x) ≡ next_index (kind_in x) (index_class_in x)
  pub first : first_in (next_head x) ≡ first_in x
  pub small : next_head x < 2 ^ 32

pub next_parts : (x : ℕ) → x < 2 ^ 32 → class_in x < 21 → next_index (kind_in x) (index_class_in x) < 256 → NextHead x
unfolding next_head
next_parts x h c i =
    let f : first_in x < 256 = first_small x h in
    record {
      kind = head_kind (kind_in x) (class_in x + 1) (next_index (kind_in x) (index_class_in x)) (first_in x);
      class = head_class (kind_in x) (class_in x + 1) (next_index (kind_in x) (index_class_in x)) (first_in x)
          (omega arith);
      index = head_index (kind_in x) (class_in x + 1) (next_index (kind_in x) (index_class_in x)) (first_in x)
          (omega arith) i;
      first = head_first (kind_in x) (class_in x + 1) (next_index (kind_in x) (index_class_in x)) (first_in x)
          (omega arith) i;
      small = head_below (kind_in x) (class_in x + 1) (next_index (kind_in x) (index_class_in x)) (first_in x)
          (omega arith) i f;
    }

pub next_of : (w : Words) (a : ℕ) → Formed w a → class_in (w (2 * a)) < 21 → NextHead (w (2 * a))
next_of w a f c =
    let b : next_index (kind_by w a) (index_class_in (w (2 * a))) ≤ class_in (w (2 * a)) =
    index_bound (kind_by w a) (class_in (w (2 * a))) (index_class_in (w (2 * a))) f.index in
    next_parts (w (2 * a)) (formed_small w a f) c (omega arith)

-- ---- growth

same_grown : (k' k : Kind) (xs ys : List Value) (c' c f' f : ℕ) → has_rooms k ≡ true → k' ≡ k → xs ≡ ys →
    room_in c' ≡ doubled (room_in c) → f' ≡ f →
    with_classes k' xs c' f' ≡ record (with_classes k ys c f) { room = doubled (with_classes k ys c f).room }
same_grown k' k xs ys c' c f' f h kind values room first =
    (λ z. record {
      kind = kind z;
      values = values z;
      bytes = [];
      room = cond (has_rooms (kind z)) (room z) 0;
      first = cond (has_rooms (kind z)) (room_in (first z)) 0;
    }) ∙
    rw h refl

module _ (own role w now : Words) (a : ℕ) (e part : ℕ → ℕ) (f : Formed w a) (l : Lays own role w a)
    (k : has_rooms (kind_by w a) ≡ true) (c : class_in (w (2 * a)) < 21) (g : Grows w now a) where
  grown_kind : kind_by now a ≡ kind_by w a
  grown_kind = ap kind_in g.first ∙ (next_of w a f c).kind

  grown_class : class_in (now (2 * a)) ≡ class_in (w (2 * a)) + 1
  grown_class = ap class_in g.first ∙ (next_of w a f c).class

  grown_index : index_class_in (now (2 * a)) ≡ next_index (kind_by w a) (index_class_in (w (2 * a)))
  grown_index = ap index_class_in g.first ∙ (next_of w a f c).index

  grown_first : first_in (now (2 * a)) ≡ first_in (w (2 * a))
  grown_first = ap first_in g.first ∙ (next_of w a f c).first

  grown_holds : 2 * count_by now a ≤ body_size now a
  grown_holds = rw (g.count, grown_class) (size_grows (class_in (w (2 * a))) (2 * count_by w a)
      (count_fits w a (rooms_no_bytes (kind_by w a) k) f))

  pub formed_grown : Formed now a
  formed_grown = record {
    class = rw grown_class (omega arith);
    first = rw (grown_class, grown_first) (omega (arith, f.first));
    index = rw (grown_kind, grown_class, grown_index) (index_grows (kind_by w a) (class_in (w (2 * a)))
        (index_class_in (w (2 * a))) f.index);
    holds = values_words (has_bytes (kind_by now a)) (count_by now a) (body_size now a)
        (rw grown_kind (rooms_no_bytes (kind_by w a) k)) grown_holds;
    even = λ s. g.even;
  }

  grown_room : room_in (class_in (now (2 * a))) ≡ doubled (room_in (class_in (w (2 * a))))
  grown_room = ap room_in grown_class ∙ ap room_in {x = class_in (w (2 * a)) + 1} {y = suc (class_in (w (2 * a)))}
      (omega arith) ∙ room_next (class_in (w (2 * a)))

  grown_values : listed (count_by now a) (value_in (body_from now a)) ≡
      listed (count_by w a) (value_in (body_from w a))
  grown_values = rw g.count (listed_same (count_by w a) (value_in (body_from now a)) (value_in (body_from w a))
      (λ i h. value_same (body_from now a) (body_from w a) i (g.words (2 * i) (omega arith))
      (g.words (2 * i + 1) (omega arith))))

  -- a record whose body has grown is the same but for its room
  pub decode_grown : decode now a ≡ record (decode w a) { room = doubled (decode w a).room }
  decode_grown =
      let n : has_bytes (kind_by w a) ≡ false = rooms_no_bytes (kind_by w a) k in
      let old : decode w a ≡ with_head (w (2 * a)) (listed (count_by w a) (value_in (body_from w a))) =
      decode_values w a n (count_fits w a n f) in
      decode_values now a (rw grown_kind n) grown_holds ∙
      same_grown (kind_by now a) (kind_by w a) (listed (count_by now a) (value_in (body_from now a)))
      (listed (count_by w a) (value_in (body_from w a))) (class_in (now (2 * a))) (class_in (w (2 * a)))
      (first_in (now (2 * a))) (first_in (w (2 * a))) k grown_kind grown_values grown_room grown_first ∙
      sym (ap (λ (r : Rec). record r { room = doubled r.room }) old)

-- ---- the places

-- a place that was a record's is in none of the extents that are taken
pub not_taken : (own w now : Words) (a : ℕ) (e part : ℕ → ℕ) (p : ℕ) → a ≢ 0 → TakesBody own w now a e part →
    own p ≡ a → e p ≡ 0
not_taken own w now a e part p some t o = elim (eqb_tells (e p) 0) [
  | inl h ↦ h.1
  | inr h ↦ absurd (some (sym o ∙ t.free p (let n : e p ≢ 0 = h.1 in omega arith)))
]

kept_at : (n x y a : ℕ) → n ≡ 0 → (x ≡ a) → (cond (eqb n 0) x a ≡ a)
kept_at n x y a h o = rw h o

kept_part : (n x y z : ℕ) → n ≡ 0 → x ≡ z → cond (eqb n 0) x y ≡ z
kept_part n x y z h o = rw h o

pub new_at : (n x a : ℕ) → 0 < n → cond (eqb n 0) x a ≡ a
new_at n x a h = elim (eqb_tells n 0) [ inl e ↦ absurd (omega arith) | inr e ↦ rw e.0 refl ]

pub new_part : (n x y z : ℕ) → 0 < n → y ≡ z → cond (eqb n 0) x y ≡ z
new_part n x y z h o = elim (eqb_tells n 0) [ inl e ↦ absurd (omega arith) | inr e ↦ rw e.0 o ]

pub lays_taken : (own role w now : Words) (a : ℕ) (e part : ℕ → ℕ) → a ≢ 0 → Lays own role w a →
    TakesBody own w now a e part → Lays (owned_by own e a) (parted role e part) now a
lays_taken own role w now a e part some l t = record {
  head = λ p i. (let z : e p ≡ 0 = not_taken own w now a e part p some t (l.head p i).0 in
      (kept_part (e p) (own p) a a z (l.head p i).0, kept_part (e p) (role p) (part p) 0 z (l.head p i).1));
  body = λ p i. (let z : (0 < e p) × (part p ≡ 2 * class_in (now (2 * a))) = t.body p i in
      (new_at (e p) (own p) a z.0, new_part (e p) (role p) (part p) (2 * class_in (now (2 * a))) z.0 z.1));
  index = λ p i. (let z : (0 < e p) × (part p ≡ 2 * index_class_in (now (2 * a)) + 1) = t.index p i in
      (new_at (e p) (own p) a z.0, new_part (e p) (role p) (part p) (2 * index_class_in (now (2 * a)) + 1) z.0 z.1));
}

pub grow_changed : (own role w now : Words) (a : ℕ) (e part : ℕ → ℕ) → a ≢ 0 → Formed w a → Lays own role w a →
    has_rooms (kind_by w a) ≡ true → class_in (w (2 * a)) < 21 → Grows w now a → TakesBody own w now a e part →
    Changed own role w now a e part (record (decode w a) { room = doubled (decode w a).room })
grow_changed own role w now a e part some f l k c g t = record {
  means = decode_grown own role w now a e part f l k c g;
  formed = formed_grown own role w now a e part f l k c g;
  lays = lays_taken own role w now a e part some l t;
  others = t.others;
}

-- ---- a change after another

-- a change with extents, and then one in place
pub changed_then : (own role w mid now : Words) (a : ℕ) (e part : ℕ → ℕ) (r q : Rec) →
    Changed own role w mid a e part r → Changed (owned_by own e a) (parted role e part) mid now a never never q →
    Changed own role w now a e part q
changed_then own role w mid now a e part r q c d = record {
  means = d.means;
  formed = d.formed;
  lays = d.lays;
  others = λ p o z. d.others p (λ h. o (sym (kept_part (e p) (own p) a (own p) z refl) ∙ h)) refl ∙ c.others p o z;
}

-- ---- a full record grows, and then has a value or a pair more

pub doubled_above : (n : ℕ) → n < doubled n
doubled_above n = elim (eqb_tells n 0) [
  | inl e ↦ rw e.1 (omega arith)
  | inr e ↦ rw e.0
      (let z : n ≢ 0 = e.1 in omega arith)
]

pub doubled_far : (n : ℕ) → 2 ≤ n → n + 2 ≤ doubled n
doubled_far n h = elim (eqb_tells n 0) [
  | inl e ↦ absurd (let z : n ≡ 0 = e.1 in omega arith)
  | inr e ↦ rw e.0
      (omega arith)
]

pub grown_then_pushed : (r : Rec) (v : Value) → length r.values ≡ r.room →
    record r { values = r.values ++ v ∷ []; room = doubled r.room } ≡ with_push v r
grown_then_pushed r v h = ap {A = ℕ} {B = Rec} (λ n. record r { values = r.values ++ v ∷ []; room = n })
    (sym (room_doubles (length r.values) r.room h))

pub grown_then_paired : (r : Rec) (key v : Value) → length r.values ≡ r.room → 2 ≤ r.room →
    record r { values = (r.values ++ key ∷ []) ++ v ∷ []; room = doubled r.room } ≡ with_pair key v r
grown_then_paired r key v h some =
    let far : r.room + 2 ≤ doubled r.room = doubled_far r.room some in
    let once : doubled r.room ≡ room_for (length r.values) r.room = sym (room_doubles (length r.values) r.room h) in
    let twice : doubled r.room ≡ room_for (length (r.values ++ key ∷ [])) (doubled r.room) =
    sym (room_stays (length (r.values ++ key ∷ [])) (doubled r.room)
    (λ e. omega (arith, length-append r.values (key ∷ [])))) in
    ap {A = ℕ} {B = Rec} (λ n. record r { values = (r.values ++ key ∷ []) ++ v ∷ []; room = n })
    (twice ∙ ap (room_for (length (r.values ++ key ∷ []))) once)

-- a Dict has room for a pair at least
pub dict_room : (w : Words) (a : ℕ) → Formed w a → kind_by w a ≡ Dict → 2 ≤ (decode w a).room
dict_room w a f k =
    let h : (class_in (w (2 * a)) ≡ index_class_in (w (2 * a)) + 1) × (1 ≤ index_class_in (w (2 * a))) =
    rw k at f.index in
    rw (room_is w a (rw k refl)) (at_least (class_in (w (2 * a)))
    (let x : class_in (w (2 * a)) ≡ index_class_in (w (2 * a)) + 1 = h.0 in
    let y : 1 ≤ index_class_in (w (2 * a)) = h.1 in omega arith))
  where
    at_least : (c : ℕ) → 2 ≤ c → 2 ≤ room_in c
    at_least zero h = absurd (omega arith)
    at_least (suc c) h = rw (room_in_next c) (pow-le-pow_right (omega arith) {i = 1} (omega arith))

module _ (own role w mid now : Words) (a : ℕ) (e part : ℕ → ℕ) (some : a ≢ 0) (f : Formed w a)
    (l : Lays own role w a) (k : has_rooms (kind_by w a) ≡ true)
    (full : length (decode w a).values ≡ (decode w a).room) (c : class_in (w (2 * a)) < 21) (g : Grows w mid a)
    (t : TakesBody own w mid a e part) where
  one : Changed own role w mid a e part (record (decode w a) { room = doubled (decode w a).room })
  one = grow_changed own role w mid a e part some f l k c g t

  no_text : has_bytes (kind_by mid a) ≡ false
  no_text = rw (grown_kind own role w mid a e part f l k c g) (rooms_no_bytes (kind_by w a) k)

  mid_count : count_by mid a ≡ (decode w a).room
  mid_count = g.count ∙ sym (values_length w a (rooms_no_bytes (kind_by w a) k)) ∙ full

  mid_size : body_size mid a ≡ 2 * doubled (decode w a).room
  mid_size = size_is (class_in (mid (2 * a))) ∙ ap (λ n. 2 * n)
      (grown_room own role w mid a e part f l k c g ∙ ap doubled (sym (room_is w a k)))

  -- one value more
  pub grow_push_changed : (v : Value) → FitsValue v → PushesValue mid now a v →
      Changed own role w now a e part (with_push v (decode w a))
  grow_push_changed v fits s =
      let more : (decode w a).room < doubled (decode w a).room = doubled_above (decode w a).room in
      let room : 2 * count_by mid a + 2 ≤ body_size mid a = rw (mid_count, mid_size) (omega arith) in
      let two : Changed (owned_by own e a) (parted role e part) mid now a never never
      (record (decode mid a) { values = (decode mid a).values ++ v ∷ [] }) =
      push_in_place (owned_by own e a) (parted role e part) mid now a v one.formed one.lays no_text room fits s
      in
      changed_to own role w now a e part (record (decode mid a) { values = (decode mid a).values ++ v ∷ [] })
      (with_push v (decode w a)) (ap (λ (r : Rec). record r { values = r.values ++ v ∷ [] }) one.means ∙
      grown_then_pushed (decode w a) v full) (
      changed_then own role w mid now a e part (record (decode w a) { room = doubled (decode w a).room })
      (record (decode mid a) { values = (decode mid a).values ++ v ∷ [] }) one two)

  -- a pair more
  pub grow_pair_changed : (key v : Value) → 2 ≤ (decode w a).room → FitsValue key → FitsValue v →
      PushesPair mid now a key v → Changed own role w now a e part (with_pair key v (decode w a))
  grow_pair_changed key v big fits_key fits s =
      let more : (decode w a).room + 2 ≤ doubled (decode w a).room = doubled_far (decode w a).room big in
      let room : 2 * count_by mid a + 4 ≤ body_size mid a = rw (mid_count, mid_size) (omega arith) in
      let two : Changed (owned_by own e a) (parted role e part) mid now a never never
      (record (decode mid a) { values = ((decode mid a).values ++ key ∷ []) ++ v ∷ [] }) =
      pair_in_place (owned_by own e a) (parted role e part) mid now a key v one.formed one.lays no_text room
      fits_key fits s in
      changed_to own role w now a e part (record (decode mid a)
      { values = ((decode mid a).values ++ key ∷ []) ++ v ∷ [] }) (with_pair key v (decode w a))
      (ap (λ (r : Rec). record r { values = (r.values ++ key ∷ []) ++ v ∷ [] }) one.means ∙
      grown_then_paired (decode w a) key v full big) (
      changed_then own role w mid now a e part (record (decode w a) { room = doubled (decode w a).room })
      (record (decode mid a) { values = ((decode mid a).values ++ key ∷ []) ++ v ∷ [] }) one two)

-- a full record that isn't the longest has a next class
pub full_class_below : (w : Words) (a : ℕ) → has_rooms (kind_by w a) ≡ true →
    length (decode w a).values ≡ (decode w a).room → length (decode w a).values < 2 ^ 20 → class_in (w (2 * a)) < 21
full_class_below w a k full h = class_below (class_in (w (2 * a))) (rw (sym (room_is w a k), sym full) h)
