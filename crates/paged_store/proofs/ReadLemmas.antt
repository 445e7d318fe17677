-- What is read in a record's words.
use Rattle.std.proofs.Common.{◌≡◌, ◌⊎◌, ℕ, zero, suc, ◌+◌, ◌-◌, ◌*◌, ◌/◌, ◌%◌, ◌^◌, ◌<◌, ◌≤◌, Bool, true, false, cond, List, ◌++◌, length, get_or, take, drop, Option, Some, None, IfSome, Bor, refl, sym, ap, ◌∙◌, inl, inr, arith, w64, length-append, length-drop}
use Rattle.std.specs.Int.{to_le_bytes}
use Rattle.std.specs.List.{slice_range}
use Rattle.std.proofs.Math.Seq.{take-add}
use Rattle.std.proofs.lemmas.Bool.Decides.{leb_tells}
use Rattle.std.proofs.lemmas.List.{ext_get_or, get_or_past, get_or-take, get_or-drop, length-take, length-take-le}
use Rattle.std.proofs.lemmas.List.Edits.{get_or-between, length-between}
use Rattle.std.proofs.lemmas.Slice.{take-put_mid}
use borrow.Rule.Slice.PartMut.{put_mid}
use Rattle.py_base.specs.declared.kind.Kind.{Kind}
use Rattle.py_base.specs.declared.kind.Kind.TheVariants.{Str, Tuple, List as ListKind, Dict, Cell, Function, Class, Instance, Method, Iter, Range, Lock, Thread}
use Rattle.py_data.specs.declared.value.Value.{Value}
use Rattle.py_data.specs.declared.value.Value.TheVariants.{Unset}
use Rattle.py_data.specs.Heap.{has_bytes, has_rooms, length_of, value_at}
use Rattle.page_table.specs.Lists.{word_at, IsRun}
use Rattle.paged_store.specs.Words.{Words, value_of, room_in, class_in, first_in, record_of, decode, kind_by, count_by, body_by, body_size}
use Rattle.paged_store.specs.inner.Formed.{Formed}
use Rattle.paged_store.specs.inner.Sight.{Stands}
use Rattle.paged_store.proofs.RecordWords.{room_in_next, kind_is, room_is, first_is, values_length, bytes_length, no_values, no_bytes, count_fits, text_fits, value_read, byte_read, count_most, text_most}

pub room_some : (c : ℕ) → 1 ≤ c → room_in c ≡ 2 ^ (c - 1)
room_some zero h = absurd (omega arith)
room_some (suc c) h = room_in_next c ∙ ap (λ z. 2 ^ z) (omega arith)

-- a word of those from a place on, where they were found in one page
pub run_word : (f : ℕ → ℕ) (place n j : ℕ) (words : Option (Bor (List ℕ))) →
    IfSome words (λ s. IsRun f place n s.now) → j < n →
    IfSome words (λ s. (j < length s.now) × (word_at s.now j ≡ f (place + j)))
run_word f place n j None run h = tt
run_word f place n j (Some s) run h = (omega (arith, run.count, h), run.each j h)

-- ---- lengths

pub length_read : (w : Words) (a : ℕ) → length_of (decode w a) ≡ count_by w a
length_read w a = by (has_bytes (kind_by w a)) refl
  where
    length_if : (b : Bool) → has_bytes (kind_by w a) ≡ b →
        length_of (decode w a) ≡ cond b (length (decode w a).bytes) (length (decode w a).values)
    length_if b e = ap (λ t. cond t (length (decode w a).bytes) (length (decode w a).values))
        (ap has_bytes (kind_is w a) ∙ e)

    by : (b : Bool) → has_bytes (kind_by w a) ≡ b → length_of (decode w a) ≡ count_by w a
    by true e = length_if true e ∙ bytes_length w a e
    by false e = length_if false e ∙ values_length w a e

-- ---- values

-- a record that has values has no bytes
pub has_values : (w : Words) (a i : ℕ) → i < length (decode w a).values → has_bytes (kind_by w a) ≡ false
has_values w a i h = by (has_bytes (kind_by w a)) refl
  where
    by : (b : Bool) → has_bytes (kind_by w a) ≡ b → b ≡ false
    by true e = absurd (omega (arith, h, ap (λ (xs : List Value). length xs) (no_values w a e)))
    by false e = refl

pub value_counted : (w : Words) (a i : ℕ) → i < length (decode w a).values → i < count_by w a
value_counted w a i h = omega (arith, h, values_length w a (has_values w a i h))

pub value_short : (w : Words) (a i : ℕ) → Formed w a → i < length (decode w a).values → i < 2 ^ 20
value_short w a i f h = omega (arith, value_counted w a i h, count_most w a (has_values w a i h) f)

-- the two words of a value stand within what is reserved
pub value_within : (w : Words) (reserved a i : ℕ) → Stands w reserved a → i < length (decode w a).values →
    body_by w a + 2 * i + 2 ≤ reserved
value_within w reserved a i r h =
    let fits : 2 * count_by w a ≤ body_size w a = count_fits w a (has_values w a i h) r.formed in
    omega (arith, fits, r.body, value_counted w a i h)

-- and begin at an even place
pub value_even : (w : Words) (reserved a i : ℕ) → Stands w reserved a → i < length (decode w a).values →
    body_by w a % 2 ≡ 0
value_even w reserved a i r h =
    let fits : 2 * count_by w a ≤ body_size w a = count_fits w a (has_values w a i h) r.formed in
    let inside : i < count_by w a = value_counted w a i h in
    r.formed.even (omega (arith, fits, inside))

pub value_there : (w : Words) (reserved a b i : ℕ) → Stands w reserved a → i < length (decode w a).values →
    b ≡ body_by w a → value_of (w (b + 2 * i)) (w (b + 2 * i + 1)) ≡ value_at (decode w a).values i
value_there w reserved a b i r h e =
    sym (value_read w a i Unset (has_values w a i h) r.formed (value_counted w a i h) ∙
    (λ t. value_of (w (sym e t + 2 * i)) (w (shift t))))
  where
    shift : body_by w a + (2 * i + 1) ≡ b + 2 * i + 1
    shift = omega (arith, e)

-- ---- values that there may be none of

pub no_text_of : (k : Kind) → (k ≡ Str → ⊥) → has_bytes k ≡ false
no_text_of Str n = absurd (n refl)
no_text_of Tuple n = refl
no_text_of ListKind n = refl
no_text_of Dict n = refl
no_text_of Cell n = refl
no_text_of Function n = refl
no_text_of Class n = refl
no_text_of Instance n = refl
no_text_of Method n = refl
no_text_of Iter n = refl
no_text_of Range n = refl
no_text_of Lock n = refl
no_text_of Thread n = refl

-- a Str has no values, and a record of another kind as many as it counts
pub no_values_counted : (w : Words) (a : ℕ) (k : Kind) → k ≡ kind_by w a → k ≡ Str → 0 ≡ length (decode w a).values
no_values_counted w a k e f = sym (ap (λ (xs : List Value). length xs) (no_values w a (ap has_bytes (sym e ∙ f))))

pub values_counted : (w : Words) (a n : ℕ) (k : Kind) → k ≡ kind_by w a → (k ≡ Str → ⊥) → n ≡ count_by w a →
    n ≡ length (decode w a).values
values_counted w a n k e f is = is ∙ sym (values_length w a (ap has_bytes (sym e) ∙ no_text_of k f))

-- the two words of a value stand within what is reserved, where there is such a value
pub value_span : (w : Words) (reserved a b n i : ℕ) → Stands w reserved a → n ≡ length (decode w a).values →
    b ≡ body_by w a → i < n → b + 2 * i + 2 ≤ reserved
value_span w reserved a b n i r e f h = omega (arith, f, value_within w reserved a i r (omega (arith, h, e)))

-- and they begin at an even place
pub body_even : (w : Words) (reserved a b n i : ℕ) → Stands w reserved a → n ≡ length (decode w a).values →
    b ≡ body_by w a → i < n → b % 2 ≡ 0
body_even w reserved a b n i r e f h = ap (λ z. z % 2) f ∙ value_even w reserved a i r (omega (arith, h, e))

-- the value at a place, by its two words where there is one, and Unset where there is none
pub value_found : (w : Words) (reserved a b n i : ℕ) (v : Value) → Stands w reserved a →
    n ≡ length (decode w a).values → b ≡ body_by w a → (i < n → v ≡ value_of (w (b + 2 * i)) (w (b + 2 * i + 1))) →
    (n ≤ i → v ≡ Unset) → v ≡ value_at (decode w a).values i
value_found w reserved a b n i v r e f there none = elim (leb_tells (suc i) n) [
  | inl h ↦ there (omega (arith, h.1)) ∙ value_there w reserved a b i r (omega (arith, h.1, e)) f
  | inr h ↦ none (omega (arith, h.1)) ∙ sym (get_or_past (decode w a).values i Unset (omega (arith, h.1, e)))
]

-- the value at a place, by its two words in a list of those from the body on
pub value_in_run : (w : Words) (reserved a b n i : ℕ) (ws : List ℕ) (v : Value) → Stands w reserved a →
    i < length (decode w a).values → b ≡ body_by w a → IsRun w b n ws → 2 * i + 1 < n →
    v ≡ value_of (word_at ws (2 * i)) (word_at ws (2 * i + 1)) → v ≡ value_at (decode w a).values i
value_in_run w reserved a b n i ws v r h e run within is =
    is ∙ (λ t. value_of (first t) (second t)) ∙ value_there w reserved a b i r h e
  where
    first : word_at ws (2 * i) ≡ w (b + 2 * i)
    first = run.each (2 * i) (omega arith)

    second : word_at ws (2 * i + 1) ≡ w (b + 2 * i + 1)
    second = run.each (2 * i + 1) within ∙ ap w (omega arith)

-- ---- rooms

pub has_rooms_of : (k : Kind) → (k ≡ ListKind) ⊎ (k ≡ Dict) → has_rooms k ≡ true
has_rooms_of k h = elim h [ inl e ↦ ap has_rooms e | inr e ↦ ap has_rooms e ]

pub no_rooms_of : (k : Kind) → (k ≡ ListKind → ⊥) → (k ≡ Dict → ⊥) → has_rooms k ≡ false
no_rooms_of Str l d = refl
no_rooms_of Tuple l d = refl
no_rooms_of ListKind l d = absurd (l refl)
no_rooms_of Dict l d = absurd (d refl)
no_rooms_of Cell l d = refl
no_rooms_of Function l d = refl
no_rooms_of Class l d = refl
no_rooms_of Instance l d = refl
no_rooms_of Method l d = refl
no_rooms_of Iter l d = refl
no_rooms_of Range l d = refl
no_rooms_of Lock l d = refl
no_rooms_of Thread l d = refl

pub rooms_read : (w : Words) (a c f x y : ℕ) (k : Kind) → has_rooms k ≡ true → k ≡ kind_by w a →
    c ≡ class_in (w (2 * a)) → f ≡ first_in (w (2 * a)) → x ≡ room_in c → y ≡ room_in f →
    ◌≡◌ {A = ℕ × ℕ} (x, y) ((decode w a).room, (decode w a).first)
rooms_read w a c f x y k h e class first room origin =
    let r : has_rooms (kind_by w a) ≡ true = ap has_rooms (sym e) ∙ h in
    λ t. ((room ∙ ap room_in class ∙ sym (room_is w a r)) t, (origin ∙ ap room_in first ∙ sym (first_is w a r)) t)

pub no_rooms : (w : Words) (a : ℕ) (k : Kind) → has_rooms k ≡ false → k ≡ kind_by w a →
    ◌≡◌ {A = ℕ × ℕ} (0, 0) ((decode w a).room, (decode w a).first)
unfolding decode record_of
no_rooms w a k h e = let r : has_rooms (kind_by w a) ≡ false = ap has_rooms (sym e) ∙ h in rw r refl

-- ---- bytes

-- a record that has bytes is of a kind that has some
pub has_text : (w : Words) (a i : ℕ) → i < length (decode w a).bytes → has_bytes (kind_by w a) ≡ true
has_text w a i h = by (has_bytes (kind_by w a)) refl
  where
    by : (b : Bool) → has_bytes (kind_by w a) ≡ b → b ≡ true
    by true e = refl
    by false e = absurd (omega (arith, h, ap (λ (xs : List ℕ). length xs) (no_bytes w a e)))

pub byte_counted : (w : Words) (a i : ℕ) → i < length (decode w a).bytes → i < count_by w a
byte_counted w a i h = omega (arith, h, bytes_length w a (has_text w a i h))

pub text_short : (w : Words) (a i : ℕ) → Formed w a → i < length (decode w a).bytes → i < 2 ^ 24
text_short w a i f h = omega (arith, byte_counted w a i h, text_most w a (has_text w a i h) f)

-- the word of a byte stands within what is reserved
pub byte_within : (w : Words) (reserved a i : ℕ) → Stands w reserved a → i < length (decode w a).bytes →
    body_by w a + i / 8 < reserved
byte_within w reserved a i r h =
    let fits : (count_by w a + 7) / 8 ≤ body_size w a = text_fits w a (has_text w a i h) r.formed in
    omega (arith, fits, r.body, byte_counted w a i h)

pub text_ends : (w : Words) (a n : ℕ) → Formed w a → n ≤ length (decode w a).bytes → n ≤ 2 ^ 24
text_ends w a zero f h = omega arith
text_ends w a (suc n) f h = omega (arith, text_short w a n f (omega (arith, h)))

-- the words up to a byte's end stand within what is reserved
pub text_within : (w : Words) (reserved a n : ℕ) → Stands w reserved a → n ≤ length (decode w a).bytes → 0 < n →
    body_by w a + (n + 7) / 8 ≤ reserved
text_within w reserved a n r h some = omega (arith, some, byte_within w reserved a (n - 1) r (omega (arith, h, some)))

-- a byte of a word, as std has it
pub byte_of_word : (n m : ℕ) → m < 8 → get_or (to_le_bytes w64 n) m 0 ≡ n / 256 ^ m % 256
byte_of_word n zero h = omega arith
byte_of_word n (suc zero) h = refl
byte_of_word n (suc (suc zero)) h = refl
byte_of_word n (suc (suc (suc zero))) h = refl
byte_of_word n (suc (suc (suc (suc zero)))) h = refl
byte_of_word n (suc (suc (suc (suc (suc zero))))) h = refl
byte_of_word n (suc (suc (suc (suc (suc (suc zero)))))) h = refl
byte_of_word n (suc (suc (suc (suc (suc (suc (suc zero))))))) h = refl
byte_of_word n (suc (suc (suc (suc (suc (suc (suc (suc m)))))))) h = absurd (omega arith)

pub byte_there : (w : Words) (reserved a b i x : ℕ) → Stands w reserved a → i < length (decode w a).bytes →
    b ≡ body_by w a → x ≡ w (b + i / 8) → get_or (to_le_bytes w64 x) (i % 8) 0 ≡ get_or (decode w a).bytes i 0
byte_there w reserved a b i x r h e f = byte_of_word x (i % 8) (omega arith) ∙
    (λ t. (f ∙ ap (λ z. w (z + i / 8)) e) t / 256 ^ (i % 8) % 256) ∙
    sym (byte_read w a i 0 (has_text w a i h) r.formed (byte_counted w a i h))

-- some of the bytes of a word, behind those from a place on that were copied
pub part_there : (w : Words) (reserved a b from done n x : ℕ) (ys : List ℕ) → Stands w reserved a →
    from + done + n ≤ length (decode w a).bytes → (from + done) % 8 + n ≤ 8 → b ≡ body_by w a →
    x ≡ w (b + (from + done) / 8) →
    ys ≡ slice_range (to_le_bytes w64 x) ((from + done) % 8) ((from + done) % 8 + n) →
    ys ≡ take n (drop done (drop from (decode w a).bytes))
part_there w reserved a b from done n x ys r within part e f is = is ∙ ext_get_or 0 _ _ (len ∙ sym len_of) here
  where
    len : length (slice_range (to_le_bytes w64 x) ((from + done) % 8) ((from + done) % 8 + n)) ≡ n
    len = length-between (to_le_bytes w64 x) ((from + done) % 8) ((from + done) % 8 + n) part ∙ omega arith

    len_of : length (take n (drop done (drop from (decode w a).bytes))) ≡ n
    len_of = length-take-le n _ (omega (
      arith,
      within,
      length-drop done (drop from (decode w a).bytes),
      length-drop from (decode w a).bytes,
    ))

    here : (k : ℕ) → k < length (slice_range (to_le_bytes w64 x) ((from + done) % 8) ((from + done) % 8 + n)) →
        get_or (slice_range (to_le_bytes w64 x) ((from + done) % 8) ((from + done) % 8 + n)) k 0 ≡
        get_or (take n (drop done (drop from (decode w a).bytes))) k 0
    here k l =
        let small : k < n = omega (arith, l, len) in
        let same : (from + done + k) / 8 ≡ (from + done) / 8 = omega (arith, small, part) in
        get_or-between (to_le_bytes w64 x) ((from + done) % 8) ((from + done) % 8 + n) k 0 (omega arith) ∙
        ap (λ z. get_or (to_le_bytes w64 x) z 0) (omega (arith, small, part)) ∙
        byte_there w reserved a b (from + done + k) x r (omega (arith, small, within)) e
        (f ∙ ap (λ z. w (b + z)) (sym same)) ∙
        sym (get_or-take n (drop done (drop from (decode w a).bytes)) k 0 small ∙
        get_or-drop done (drop from (decode w a).bytes) k 0 ∙ get_or-drop from (decode w a).bytes (done + k) 0 ∙
        ap (λ z. get_or (decode w a).bytes z 0) (omega arith))

-- the first so many bytes of a list were copied, and then some more
copied_more : (xs ys bytes : List ℕ) (done n k : ℕ) → done + n ≤ length xs → take done xs ≡ take done bytes →
    length ys ≡ n → ys ≡ take n (drop done bytes) →
    (done + n ≤ length (put_mid done k xs ys)) × (take (done + n) (put_mid done k xs ys) ≡ take (done + n) bytes)
copied_more xs ys bytes done n k within before len is = (reach, now)
  where
    put : take (done + n) (put_mid done k xs ys) ≡ take done xs ++ ys
    put = take-put_mid done k xs ys (done + n) (omega (arith, len)) (omega (arith, within))

    now : take (done + n) (put_mid done k xs ys) ≡ take (done + n) bytes
    now = put ∙ (λ t. before t ++ is t) ∙ sym (take-add done n bytes)

    reach : done + n ≤ length (put_mid done k xs ys)
    reach = omega (
      arith,
      ap (λ (z : List ℕ). length z) put,
      length-take (done + n) (put_mid done k xs ys),
      length-append (take done xs) ys,
      length-take-le done xs (omega (arith, within)),
      len,
    )

-- a turn of the loop that copies bytes
pub copied_part : (w : Words) (reserved a b from done n k x : ℕ) (bs xs ys : List ℕ) → Stands w reserved a →
    from + length xs ≤ length (decode w a).bytes → done + n ≤ length xs → (from + done) % 8 + n ≤ 8 →
    take done xs ≡ take done (drop from (decode w a).bytes) → b ≡ body_by w a → x ≡ w (b + (from + done) / 8) →
    bs ≡ to_le_bytes w64 x → ys ≡ slice_range bs ((from + done) % 8) ((from + done) % 8 + n) →
    (done + n ≤ length (put_mid done k xs ys)) ×
    (take (done + n) (put_mid done k xs ys) ≡ take (done + n) (drop from (decode w a).bytes))
copied_part w reserved a b from done n k x bs xs ys r all within part before e f g is =
    let y : ys ≡ take n (drop done (drop from (decode w a).bytes)) =
    part_there w reserved a b from done n x ys r (omega (arith, all, within)) part e f
    (is ∙ ap (λ z. slice_range z ((from + done) % 8) ((from + done) % 8 + n)) g) in
    let left : n ≤ length (drop done (drop from (decode w a).bytes)) = omega (
      arith,
      all,
      within,
      length-drop done (drop from (decode w a).bytes),
      length-drop from (decode w a).bytes,
    ) in
    let len : length ys ≡ n = ap (λ (z : List ℕ). length z) y ∙
    length-take-le n (drop done (drop from (decode w a).bytes)) left in
    copied_more xs ys (drop from (decode w a).bytes) done n k within before len y
