-- Each change of a record in the words that it has: which words it puts, and where.
use Rattle.std.proofs.Common.{◌≡◌, ℕ, ◌+◌, ◌-◌, ◌*◌, ◌<◌, ◌≤◌, true, false, leb, List, [], ◌∷◌, min, MatchBool, ◌^◌, take, inl, inr, refl, sym, ◌∙◌, ap, arith}
use Rattle.std.proofs.lemmas.Bool.{or_cases}
use Rattle.std.proofs.lemmas.Bool.Decides.{leb_tells}
use Rattle.std.proofs.lemmas.List.{take_min}
use Rattle.py_base.specs.declared.kind.Kind.{Kind}
use Rattle.py_base.specs.declared.kind.Kind.TheVariants.{Str, Tuple, List as ListKind, Dict, Cell, Function, Class, Instance, Method, Iter, Range, Lock, Thread}
use Rattle.py_data.specs.declared.value.Value.{Value}
use Rattle.py_data.specs.Heap.{Rec, is_tracked, has_bytes, has_rooms, with_value, with_push, cut_to, with_pair, without_pair, length_of}
use Rattle.paged_store.specs.Words.{Words, in_span, decode, room_in, class_in, kind_by, count_by, body_by, body_size, in_head, in_body, in_index, in_record}
use Rattle.paged_store.specs.inner.Formed.{Formed, FitsValue}
use Rattle.paged_store.specs.inner.Moves.{never}
use Rattle.paged_store.specs.inner.Written.{set_words, push_words, pair_words, drop_words, slid}
use Rattle.paged_store.specs.inner.Writing.{with_count, pushed_words, cut_words, put_values}
use Rattle.paged_store.proofs.SpanLemmas.{in_span_holds, span_bounds, in_first, in_second}
use Rattle.paged_store.proofs.RecordWords.{size_is, room_is, count_fits, count_most, values_length}
use Rattle.paged_store.proofs.ReadLemmas.{length_read}
use Rattle.paged_store.proofs.PutWords.{set_puts, push_puts, pair_puts, cut_puts, drop_puts, slid_miss}
use Rattle.paged_store.proofs.ChangeWords.{set_changed, cut_changed, drop_changed}
use Rattle.paged_store.proofs.PushWords.{rooms_no_bytes, changed_to, push_changed, pair_changed}
use Rattle.paged_store.proofs.WriteLemmas.{value_off, values_off, put_off, count_off}
use Rattle.paged_store.proofs.ChangeCall.{InPlaceOf}

pub tracked_no_bytes : (k : Kind) → is_tracked k ≡ true → has_bytes k ≡ false
tracked_no_bytes Str h = cc
tracked_no_bytes Tuple h = refl
tracked_no_bytes ListKind h = refl
tracked_no_bytes Dict h = refl
tracked_no_bytes Cell h = refl
tracked_no_bytes Function h = refl
tracked_no_bytes Class h = refl
tracked_no_bytes Instance h = refl
tracked_no_bytes Method h = refl
tracked_no_bytes Iter h = refl
tracked_no_bytes Range h = refl
tracked_no_bytes Lock h = refl
tracked_no_bytes Thread h = refl

-- ---- places of a record

-- words of its body
pub body_inside : (w : Words) (a place n q : ℕ) → body_by w a ≤ place → place + n ≤ body_by w a + body_size w a →
    in_span place n q ≡ true
    → in_record w a q ≡ true
body_inside w a place n q low high i =
    let b : (place ≤ q) × (q < place + n) = span_bounds place n q i in
    in_second (in_head a q) (in_body w a q) (in_index w a q)
    (in_span_holds (body_by w a) (body_size w a) q (omega (arith, b.0, low)) (omega (arith, b.1, high)))

-- the word of its count
pub count_inside : (w : Words) (a q : ℕ) → in_span (2 * a + 1) 1 q ≡ true → in_record w a q ≡ true
count_inside w a q i =
    let b : (2 * a + 1 ≤ q) × (q < 2 * a + 1 + 1) = span_bounds (2 * a + 1) 1 q i in
    in_first (in_head a q) (in_body w a q) (in_index w a q)
    (in_span_holds (2 * a) 4 q (omega (arith, b.0)) (omega (arith, b.1)))

-- both
pub both_inside : (w : Words) (a place n q : ℕ) → (in_span place n q ≡ true → in_record w a q ≡ true) →
    with_count a place n q ≡ true
    → in_record w a q ≡ true
both_inside w a place n q f i = elim (or_cases (in_span (2 * a + 1) 1 q) (in_span place n q) i) [
  | inl x ↦ count_inside w a q x
  | inr x ↦ f x
]

-- ---- changes

module _ (w : Words) (a : ℕ) (f : Formed w a) where
  pub set_in_place : (i : ℕ) (v : Value) → has_bytes (kind_by w a) ≡ false → i < count_by w a → FitsValue v
      → InPlaceOf w (set_words w a i v) (in_span (body_by w a + 2 * i) 2) a (with_value i v (decode w a))
  set_in_place i v k h fits =
      let m : 2 * count_by w a ≤ body_size w a = count_fits w a k f in record {
        inside = λ q x. body_inside w a (body_by w a + 2 * i) 2 q (omega arith) (omega (arith, h, m)) x;
        off = λ q x. value_off (body_by w a + 2 * i) q v w x;
        changed = λ own role l. set_changed own role w (set_words w a i v) a i v f l k h fits
            (set_puts own role w a l i v (omega (arith, h, m)));
      }

  pub push_in_place : (v : Value) → has_rooms (kind_by w a) ≡ true → 2 * count_by w a + 2 ≤ body_size w a → FitsValue v
      → InPlaceOf w (pushed_words w a (v ∷ [])) (with_count a (body_by w a + 2 * count_by w a) 2) a
      (with_push v (decode w a))
  push_in_place v k h fits = record {
    inside = λ q x. both_inside w a (body_by w a + 2 * count_by w a) 2 q
        (λ y. body_inside w a (body_by w a + 2 * count_by w a) 2 q (omega arith) (omega (arith, h)) y) x;
    off = λ q x. count_off a (body_by w a + 2 * count_by w a) 2 (count_by w a + 1) q (set_words w a (count_by w a) v) w
        (λ y. value_off (body_by w a + 2 * count_by w a) q v w y) x;
    changed = λ own role l. push_changed own role w (push_words w a v) a v f l k h fits (push_puts own role w a l v h);
  }

  pub pair_in_place : (key v : Value) → has_rooms (kind_by w a) ≡ true → 2 * count_by w a + 4 ≤ body_size w a →
      FitsValue key → FitsValue v
      → InPlaceOf w (pushed_words w a (key ∷ v ∷ [])) (with_count a (body_by w a + 2 * count_by w a) 4) a
      (with_pair key v (decode w a))
  pair_in_place key v k h fits_key fits = record {
    inside = λ q x. both_inside w a (body_by w a + 2 * count_by w a) 4 q
        (λ y. body_inside w a (body_by w a + 2 * count_by w a) 4 q (omega arith) (omega (arith, h)) y) x;
    off = λ q x. count_off a (body_by w a + 2 * count_by w a) 4 (count_by w a + 2) q
        (put_values (body_by w a + 2 * count_by w a) (key ∷ v ∷ []) w) w
        (λ y. values_off (body_by w a + 2 * count_by w a) q (key ∷ v ∷ []) w y) x;
    changed = λ own role l. pair_changed own role w (pair_words w a key v) a key v f l k h fits_key fits
        (pair_puts own role w a l key v h);
  }

  -- the first so many values, or all
  pub cut_in_place : (n : ℕ) → has_bytes (kind_by w a) ≡ false
      → InPlaceOf w (cut_words w a (min n (count_by w a))) (in_span (2 * a + 1) 1) a (cut_to n (decode w a))
  cut_in_place n k =
      let m : 2 * count_by w a ≤ body_size w a = count_fits w a k f in
      let least : ℕ = min n (count_by w a) in
      record {
        inside = λ q x. count_inside w a q x;
        off = λ q x. put_off (2 * a + 1) q least w x;
        changed = λ own role l. changed_to own role w (cut_words w a least) a never never (cut_to least (decode w a))
            (cut_to n (decode w a))
            (ap {A = List Value} {B = Rec} (λ vs. record (decode w a) { values = vs })
            (ap (λ z. take (min n z) (decode w a).values) (sym (values_length w a k)) ∙ take_min n (decode w a).values))
            (cut_changed own role w (cut_words w a least) a least f l k (omega arith)
            (cut_puts own role w a l least (omega (arith, m))));
      }

  pub drop_in_place : (pair : ℕ) → has_bytes (kind_by w a) ≡ false → 2 * pair + 1 < count_by w a
      → InPlaceOf w (drop_words w a pair (count_by w a - 2))
      (with_count a (body_by w a + 4 * pair) (2 * (count_by w a - 2) - 4 * pair)) a (without_pair pair (decode w a))
  drop_in_place pair k h =
      let m : 2 * count_by w a ≤ body_size w a = count_fits w a k f in
      let n : ℕ = count_by w a - 2 in
      record {
        inside = λ q x. both_inside w a (body_by w a + 4 * pair) (2 * n - 4 * pair) q
            (λ y. body_inside w a (body_by w a + 4 * pair) (2 * n - 4 * pair) q (omega arith) (omega (arith, h, m)) y)
            x;
        off = λ q x. count_off a (body_by w a + 4 * pair) (2 * n - 4 * pair) n q
            (slid (body_by w a + 4 * pair) (2 * n - 4 * pair) 4 w) w
            (λ y. slid_miss (body_by w a + 4 * pair) (2 * n - 4 * pair) 4 q w y) x;
        changed = λ own role l. drop_changed own role w (drop_words w a pair n) a pair n f l k h
            (drop_puts own role w a l pair n (omega (arith, h)) (omega (arith, h)) m);
      }

-- whether a body has room for so many values more
pub room_tells : (w : Words) (a n more room : ℕ) → has_rooms (kind_by w a) ≡ true → n ≡ length_of (decode w a) →
    room ≡ (decode w a).room
    → MatchBool (leb (n + more) room) (2 * (count_by w a + more) ≤ body_size w a)
    (body_size w a < 2 * (count_by w a + more))
room_tells w a n more room k e r =
    let size : body_size w a ≡ 2 * room_in (class_in (w (2 * a))) = size_is (class_in (w (2 * a))) in
    let is : room ≡ room_in (class_in (w (2 * a))) = r ∙ room_is w a k in
    let count : n ≡ count_by w a = e ∙ length_read w a in
    elim (leb_tells (n + more) room) [
      | inl y ↦ rw y.0 (let l = y.1 in omega (arith, size, is, count, l))
      | inr m ↦ rw m.0 (let l = m.1 in omega (arith, size, is, count, l))
    ]

-- a List or Dict has few values
pub few_values : (w : Words) (a : ℕ) → has_rooms (kind_by w a) ≡ true → Formed w a → length_of (decode w a) ≤ 2 ^ 20
few_values w a k f = (let e = length_read w a in let m = count_most w a (rooms_no_bytes (kind_by w a) k) f in
    omega (arith, e, m))
