-- Changes of a record in the words that it has.
use Rattle.std.proofs.Common.{◌≡◌, ℕ, ◌+◌, ◌*◌, ◌<◌, ◌≤◌, Bool, true, false, List, [], ◌∷◌, ◌++◌, take, set, sym, ap, subst, ◌∙◌, arith, ◌%◌}
use Rattle.std.specs.List.{remove}
use Rattle.py_data.specs.declared.value.Value.{Value}
use Rattle.py_data.specs.Heap.{Rec, has_bytes, with_value, cut_to, without_pair}
use Rattle.paged_store.specs.Words.{Words, listed, value_of, value_in, payload_of, decode, kind_by, count_by, body_by, index_by, body_size, in_body, size_of, class_in}
use Rattle.paged_store.specs.inner.Formed.{Formed, Lays, FitsValue, words_for}
use Rattle.paged_store.specs.inner.Moves.{never}
use Rattle.paged_store.specs.inner.Written.{ValueAt, InPlace, KeepsFirst, SetsValue, PushesValue, PushesPair, Cuts, DropsPair, Changed}
use Rattle.paged_store.proofs.SpanLemmas.{head_first, head_at}
use Rattle.paged_store.proofs.PartLemmas.{head_not_body, false_from}
use Rattle.paged_store.proofs.FrameLemmas.{lays_moved}
use Rattle.paged_store.proofs.ValueWords.{value_back}
use Rattle.paged_store.proofs.ListedLemmas.{listed_same, listed_push, listed_set, listed_take, listed_remove_pair}
use Rattle.paged_store.proofs.RecordWords.{body_from, with_head, count_fits, decode_values, value_same}

-- ---- what all of them have in common

-- the header's words but for the count are as they were
pub record HeadKept (w now : Words) (a : ℕ) : Type 0 where
  pub first : now (2 * a) ≡ w (2 * a)
  pub body : body_by now a ≡ body_by w a
  pub index : index_by now a ≡ index_by w a

pub head_kept : (own role w now : Words) (a n : ℕ) → Lays own role w a → InPlace w now a n → HeadKept w now a
head_kept own role w now a n l p = record {
  first = p.outside (2 * a) (head_not_body own role w a (2 * a) l (head_first a)) (λ e. omega arith);
  body = p.outside (2 * a + 2) (head_not_body own role w a (2 * a + 2) l (head_at a 2 (omega arith)))
      (λ e. omega arith);
  index = p.outside (2 * a + 3) (head_not_body own role w a (2 * a + 3) l (head_at a 3 (omega arith)))
      (λ e. omega arith);
}

-- the words from the old body on, as they are now
abbrev pub body_now : Words → Words → ℕ → Words
body_now w now a = λ j. now (body_by w a + j)

decode_in_place : (w now : Words) (a n : ℕ) (vs : List Value) → has_bytes (kind_by w a) ≡ false → Formed w a →
    2 * n ≤ body_size w a → HeadKept w now a → count_by now a ≡ n → listed n (value_in (body_now w now a)) ≡ vs →
    decode now a ≡ record (decode w a) { values = vs }
decode_in_place w now a n vs k f l h c e =
    decode_values now a (rw h.first k) (rw (c, h.first) l) ∙
    (λ z. with_head (h.first z) (listed (c z) (value_in (λ j. now (h.body z + j))))) ∙
    ap (with_head (w (2 * a))) e ∙
    sym (ap (λ (r : Rec). record r { values = vs }) (decode_values w a k (count_fits w a k f)))

pub values_words : (b : Bool) (n m : ℕ) → b ≡ false → 2 * n ≤ m → words_for b n ≤ m
values_words true n m e h = absurd (cc)
values_words false n m e h = h

formed_in_place : (w now : Words) (a n : ℕ) → has_bytes (kind_by w a) ≡ false → Formed w a → 2 * n ≤ body_size w a →
    HeadKept w now a → count_by now a ≡ n → Formed now a
formed_in_place w now a n k f l h c = record {
  class = rw h.first f.class;
  first = rw h.first f.first;
  index = rw h.first f.index;
  holds = rw (h.first, c) (values_words (has_bytes (kind_by w a)) n (body_size w a) k l);
  even = λ s. ap (λ z. z % 2) h.body ∙ f.even (subst (λ x. 0 < size_of (class_in x)) h.first s);
}

pub in_place : (own role w now : Words) (a n : ℕ) (vs : List Value) → Formed w a → Lays own role w a →
    has_bytes (kind_by w a) ≡ false → 2 * n ≤ body_size w a → InPlace w now a n →
    listed n (value_in (body_now w now a)) ≡ vs →
    Changed own role w now a never never (record (decode w a) { values = vs })
in_place own role w now a n vs f l k fits p e =
    let h : HeadKept w now a = head_kept own role w now a n l p in
    record {
      means = decode_in_place w now a n vs k f fits h p.count e;
      formed = formed_in_place w now a n k f fits h p.count;
      lays = lays_moved own role w now a (sym h.first) (sym h.body) (sym h.index) l;
      others = λ q o z. p.outside q (false_from (in_body w a q) (λ i. o (l.body q i).0))
          (λ i. o (ap own i ∙ (l.head (2 * a + 1) (head_at a 1 (omega arith))).0));
    }

-- the words of a value
pub value_there : (now : Words) (b i : ℕ) (v : Value) → FitsValue v → ValueAt now (b + 2 * i) v →
    value_in (λ j. now (b + j)) i ≡ v
unfolding value_in
value_there now b i v f s =
    let e : now (b + (2 * i + 1)) ≡ payload_of v = ap now (omega arith) ∙ s.payload in
    (λ z. value_of (s.tag z) (e z)) ∙ value_back v f

-- the words of a value that was there
pub value_kept : (w now : Words) (b i : ℕ) → now (b + 2 * i) ≡ w (b + 2 * i) →
    now (b + (2 * i + 1)) ≡ w (b + (2 * i + 1)) → value_in (λ j. now (b + j)) i ≡ value_in (λ j. w (b + j)) i
value_kept w now b i x y = value_same (λ j. now (b + j)) (λ j. w (b + j)) i x y

values_are : (w : Words) (a : ℕ) → has_bytes (kind_by w a) ≡ false → Formed w a →
    (decode w a).values ≡ listed (count_by w a) (value_in (body_from w a))
values_are w a k f = ap (λ (r : Rec). r.values) (decode_values w a k (count_fits w a k f))

-- ---- another value in a place

pub set_changed : (own role w now : Words) (a i : ℕ) (v : Value) → Formed w a → Lays own role w a →
    has_bytes (kind_by w a) ≡ false → i < count_by w a → FitsValue v → SetsValue w now a i v →
    Changed own role w now a never never (with_value i v (decode w a))
set_changed own role w now a i v f l k h fits s =
    in_place own role w now a (count_by w a) (set (decode w a).values i v) f l k (count_fits w a k f) s.place (
    listed_set (count_by w a) i (value_in (body_from w a)) (value_in (body_now w now a)) v
    (value_there now (body_by w a) i v fits s.value) (λ j m ne.
    value_kept w now (body_by w a) j (s.others (2 * j) (omega arith) (λ e. ne (omega arith)) (λ e. omega arith))
    (s.others (2 * j + 1) (omega arith) (λ e. omega arith) (λ e. ne (omega arith)))) ∙
    ap (λ vs. set vs i v) (sym (values_are w a k f)))

-- ---- the first so many

-- the values that a body had
kept_values : (w now : Words) (a n : ℕ) → KeepsFirst w now a (2 * n) →
    listed n (value_in (body_now w now a)) ≡ listed n (value_in (body_from w a))
kept_values w now a n s = listed_same n (value_in (body_now w now a)) (value_in (body_from w a))
    (λ j m. value_kept w now (body_by w a) j (s (2 * j) (omega arith)) (s (2 * j + 1) (omega arith)))

pub cut_changed : (own role w now : Words) (a n : ℕ) → Formed w a → Lays own role w a →
    has_bytes (kind_by w a) ≡ false → n ≤ count_by w a → Cuts w now a n →
    Changed own role w now a never never (cut_to n (decode w a))
cut_changed own role w now a n f l k h s =
    let fits : 2 * count_by w a ≤ body_size w a = count_fits w a k f in
    in_place own role w now a n (take n (decode w a).values) f l k (omega arith) s.place (
    kept_values w now a n s.others ∙ listed_take n (count_by w a) (value_in (body_from w a)) h ∙
    ap (take n) (sym (values_are w a k f)))

-- ---- a value, and a pair, at the end

-- a value more; the room stays
pub push_in_place : (own role w now : Words) (a : ℕ) (v : Value) → Formed w a → Lays own role w a →
    has_bytes (kind_by w a) ≡ false → 2 * count_by w a + 2 ≤ body_size w a → FitsValue v → PushesValue w now a v →
    Changed own role w now a never never (record (decode w a) { values = (decode w a).values ++ v ∷ [] })
push_in_place own role w now a v f l k room fits s =
    in_place own role w now a (count_by w a + 1) ((decode w a).values ++ v ∷ []) f l k (omega arith) s.place (
    listed_push (count_by w a) (value_in (body_now w now a)) v
    (value_there now (body_by w a) (count_by w a) v fits s.value) ∙
    ap (λ vs. vs ++ v ∷ []) (kept_values w now a (count_by w a) s.others ∙ sym (values_are w a k f)))

pub pair_in_place : (own role w now : Words) (a : ℕ) (key v : Value) → Formed w a → Lays own role w a →
    has_bytes (kind_by w a) ≡ false → 2 * count_by w a + 4 ≤ body_size w a → FitsValue key → FitsValue v →
    PushesPair w now a key v →
    Changed own role w now a never never (record (decode w a) { values = ((decode w a).values ++ key ∷ []) ++ v ∷ [] })
pair_in_place own role w now a key v f l k room fits_key fits s =
    let n : ℕ = count_by w a in
    let two : ValueAt now (body_by w a + 2 * (n + 1)) v = subst (λ p. ValueAt now p v) (omega arith) s.second in
    in_place own role w now a (n + 2) (((decode w a).values ++ key ∷ []) ++ v ∷ []) f l k (omega arith) s.place (
    ap (λ z. listed z (value_in (body_now w now a))) {x = n + 2} {y = n + 1 + 1} (omega arith) ∙
    listed_push (n + 1) (value_in (body_now w now a)) v (value_there now (body_by w a) (n + 1) v fits two) ∙
    ap (λ vs. vs ++ v ∷ []) (listed_push n (value_in (body_now w now a)) key
    (value_there now (body_by w a) n key fits_key s.first) ∙
    ap (λ vs. vs ++ key ∷ []) (kept_values w now a n s.others ∙ sym (values_are w a k f))))

-- ---- a pair less

word_up : (w now : Words) (b j : ℕ) → now (b + j) ≡ w (b + j + 4) → now (b + j) ≡ w (b + (j + 4))
word_up w now b j e = e ∙ ap w {x = b + j + 4} {y = b + (j + 4)} (omega arith)

value_up : (g : Words) (j : ℕ) → value_in (λ i. g (i + 4)) j ≡ value_in g (j + 2)
unfolding value_in
value_up g j = λ z. value_of (ap g {x = 2 * j + 4} {y = 2 * (j + 2)} (omega arith) z)
    (ap g {x = 2 * j + 1 + 4} {y = 2 * (j + 2) + 1} (omega arith) z)

pub drop_changed : (own role w now : Words) (a k n : ℕ) → Formed w a → Lays own role w a →
    has_bytes (kind_by w a) ≡ false → 2 * k + 1 < count_by w a → DropsPair w now a k n →
    Changed own role w now a never never (without_pair k (decode w a))
drop_changed own role w now a k n f l kind h s =
    let fits : 2 * count_by w a ≤ body_size w a = count_fits w a kind f in
    let fewer : n + 2 ≡ count_by w a = s.fewer in
    let old : listed (n + 1 + 1) (value_in (body_from w a)) ≡ (decode w a).values =
    ap (λ z. listed z (value_in (body_from w a))) {x = n + 1 + 1} {y = count_by w a} (omega arith) ∙
    sym (values_are w a kind f) in
    in_place own role w now a n (remove (remove (decode w a).values (2 * k)) (2 * k)) f l kind (omega arith) s.place (
    listed_remove_pair n (2 * k) (value_in (body_from w a)) (value_in (body_now w now a)) (omega arith)
    (λ j m. value_kept w now (body_by w a) j (s.below (2 * j) (omega arith)) (s.below (2 * j + 1) (omega arith)))
    (λ j m q. value_same (body_now w now a) (λ i. body_from w a (i + 4)) j
    (word_up w now (body_by w a) (2 * j) (s.behind (2 * j) (omega arith) (omega arith)))
    (word_up w now (body_by w a) (2 * j + 1) (s.behind (2 * j + 1) (omega arith) (omega arith))) ∙
    value_up (body_from w a) j) ∙
    ap (λ xs. remove (remove xs (2 * k)) (2 * k)) old)
