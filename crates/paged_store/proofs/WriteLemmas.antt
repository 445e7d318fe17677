-- What is written once it was made ready.
use Rattle.std.proofs.Common.{◌≡◌, ◌⊎◌, ℕ, suc, ◌+◌, ◌*◌, ◌/◌, ◌<◌, ◌≤◌, Bool, true, false, ◌||◌, cond, List, [], ◌∷◌, length, refl, sym, ap, subst, ◌∙◌, inl, inr, arith}
use Rattle.std.proofs.lemmas.Bool.{cases_Bool}
use Rattle.std.proofs.lemmas.Bool.Decides.{nat_tests}
use Rattle.std.proofs.lemmas.List.{append-nil}
use Rattle.page_table.specs.Pages.{Table, after_write}
use Rattle.py_data.specs.declared.value.Value.{Value}
use Rattle.paged_store.specs.Words.{Words, in_span, count_by, body_by}
use Rattle.paged_store.specs.inner.Moves.{nowhere}
use Rattle.paged_store.specs.Paged.{in_extents, rewound, taken_since, word_before}
use Rattle.paged_store.specs.inner.Written.{put_word, put_value, copied, slid, push_words, pair_words}
use Rattle.paged_store.specs.inner.Writing.{Desk, Wrote, MayWrite, Readied, OwnSpan, CanPut, with_words, laid, put_values, with_count, pushed_words}
use Rattle.paged_store.proofs.SpanLemmas.{in_span_holds, span_bounds}
use Rattle.paged_store.proofs.DraftLemmas.{rewound_noted, rewound_same}
use Rattle.paged_store.proofs.DeskLemmas.{wrote_then, wrote_words, may_still}
use Rattle.paged_store.proofs.PutWords.{put_miss, value_miss}
use Rattle.paged_store.proofs.PutLemmas.{words_at, words_off, words_then}

-- ---- a write to places that may be written

module _ (k : ℕ) (w : Words) (d : Desk) (h : (p : ℕ) → (w p ≡ d.table.word k p) ⊎ MayWrite k d p) where
  before_kept : (p : ℕ) → word_before (with_words k w d.table) k d.draft p ≡ word_before d.table k d.draft p
  before_kept p = ap (λ v. cond (in_extents (taken_since d.draft) p) (d.table.shared p) (rewound d.draft.notes v p))
      (words_at k w d.table)
      ∙ elim (h p) [
        | inl e ↦ ap (λ z. cond (in_extents (taken_since d.draft) p) (d.table.shared p) z)
            (rewound_same d.draft.notes w (d.table.word k) p e)
        | inr m ↦ elim m.known [
          | inl n ↦ ap (λ z. cond (in_extents (taken_since d.draft) p) (d.table.shared p) z)
              (rewound_noted d.draft.notes w (d.table.word k) p n)
          | inr t ↦ rw t refl
        ]
      ]

  pub put_wrote : Wrote k w nowhere d (record { table = with_words k w d.table; draft = d.draft })
  put_wrote = record {
    same = record {
      shared = refl;
      others = λ j n. words_off k j w d.table n;
      shelf = refl;
      reserved = refl;
      pages = refl;
      segments = refl;
      own = λ j q o. o;
      changed = refl;
      made = refl;
      taken = refl;
      taken_before = refl;
      made_before = refl;
      spans_before =
          refl;
      more_spans = [];
      spans = sym (append-nil d.draft.spans);
      more_notes = [];
      notes = sym (append-nil d.draft.notes);
    };
    word = λ p. ap (λ v. v p) (words_at k w d.table);
    before = before_kept;
    spans = λ p. refl;
    fits = λ n f. record {
      spans = f.spans;
      taken = f.taken;
      classes = f.classes;
      notes = f.notes;
      noted_touched = f.noted_touched;
      holds = f.holds;
      spans_before = f.spans_before;
      taken_before = f.taken_before;
      made_before = f.made_before;
      once = f.once;
    };
  }

-- words that are put into places that were made ready, or that could be written before
pub wrote_after : (k : ℕ) (t e : ℕ → Bool) (a b : Desk) (new : Table) (f : Words → Words) → Readied k t a b →
    ((p : ℕ) → e p ≡ true → MayWrite k a p) → new ≡ with_words k (f (b.table.word k)) b.table →
    ((w : Words) (p : ℕ) → t p ≡ false → e p ≡ false → f w p ≡ w p) →
    Wrote k (f (a.table.word k)) t a (record { table = new; draft = b.draft })
wrote_after k t e a b new f r m h off =
    let w : Words = f (b.table.word k) in
    let s : b.table.word k ≡ a.table.word k = λ i p. r.wrote.word p i in
    let step : Wrote k w nowhere b (record { table = with_words k w b.table; draft = b.draft }) = put_wrote k w b (λ p.
    elim (cases_Bool (t p)) [
      | inl i ↦ inr (r.may p i)
      | inr i ↦ (elim (cases_Bool (e p)) [
        | inl j ↦ inr (may_still k a b p r.wrote.same (m p j))
        | inr j ↦ inl (off (b.table.word k) p i j)
      ])
    ]) in
    let P : Table → Type 0 = λ z. Wrote k (f (a.table.word k)) t a (record { table = z; draft = b.draft }) in
    subst P (sym h) (wrote_words k w (f (a.table.word k)) t a
    (record { table = with_words k w b.table; draft = b.draft }) (λ p. ap (λ v. f v p) s)
    (wrote_then k (a.table.word k) w t nowhere a b (record { table = with_words k w b.table; draft = b.draft })
    r.wrote step))

-- the same where no more than what was made ready is written
pub wrote_ready : (k : ℕ) (t : ℕ → Bool) (a b : Desk) (new : Table) (f : Words → Words) → Readied k t a b →
    new ≡ with_words k (f (b.table.word k)) b.table → ((w : Words) (p : ℕ) → t p ≡ false → f w p ≡ w p) →
    Wrote k (f (a.table.word k)) t a (record { table = new; draft = b.draft })
wrote_ready k t a b new f r h off = wrote_after k t nowhere a b new f r (λ p i. cc) h (λ w p i j. off w p i)

-- ---- what is left as it was

pub put_off : (p q x : ℕ) (w : Words) → in_span p 1 q ≡ false → put_word p x w q ≡ w q
put_off p q x w h = put_miss p q x w (λ e. let i : in_span p 1 q ≡ true =
    in_span_holds p 1 q (omega arith) (omega arith) in cc)

pub value_off : (p q : ℕ) (v : Value) (w : Words) → in_span p 2 q ≡ false → put_value p v w q ≡ w q
value_off p q v w h = value_miss p q v w
    (λ e. let i : in_span p 2 q ≡ true = in_span_holds p 2 q (omega arith) (omega arith) in cc)
    (λ e. let i : in_span p 2 q ≡ true = in_span_holds p 2 q (omega arith) (omega arith) in cc)

span_tail : (p n q : ℕ) → in_span p (2 * suc n) q ≡ false → in_span (p + 2) (2 * n) q ≡ false
span_tail p n q h = grind (arith, nat_tests)

span_first : (p n q : ℕ) → in_span p (2 * suc n) q ≡ false → in_span p 2 q ≡ false
span_first p n q h = grind (arith, nat_tests)

pub values_off : (p q : ℕ) (vs : List Value) (w : Words) → in_span p (2 * length vs) q ≡ false →
    put_values p vs w q ≡ w q
values_off p q [] w h = refl
values_off p q (v ∷ vs) w h = values_off (p + 2) q vs (put_value p v w) (span_tail p (length vs) q h) ∙
    value_off p q v w (span_first p (length vs) q h)

pub laid_off : (place n q : ℕ) (f w : Words) → in_span place n q ≡ false → laid place n f w q ≡ w q
laid_off place n q f w h = rw h refl

pub neither : (x y : Bool) → (x || y) ≡ false → (x ≡ false) × (y ≡ false)
neither true y h = cc
neither false y h = (refl, h)

-- a count that is put over words of a span
pub count_off : (a place n x p : ℕ) (f w : Words) → (in_span place n p ≡ false → f p ≡ w p) →
    with_count a place n p ≡ false → put_word (2 * a + 1) x f p ≡ w p
count_off a place n x p f w h o =
    let z : (in_span (2 * a + 1) 1 p ≡ false) × (in_span place n p ≡ false) =
    neither (in_span (2 * a + 1) 1 p) (in_span place n p) o in
    put_off (2 * a + 1) p x f z.0 ∙ h z.1

-- ---- words that slide down

pub slid_copied : (place n by : ℕ) (w : Words) → copied (place + by) place n w ≡ slid place n by w
slid_copied place n by w = λ i q. at q i
  where
    at : (q : ℕ) → copied (place + by) place n w q ≡ slid place n by w q
    at q = elim (cases_Bool (in_span place n q)) [
      | inl e ↦ rw e (ap w (let b : (place ≤ q) × (q < place + n) = span_bounds place n q e in omega arith))
      | inr e ↦ rw e refl
    ]

-- ---- a record that is changed in place

-- the word of the count is ready
pub count_own : (k a place n : ℕ) (u : Words) (d b : Desk) (t : Table) → Readied k (with_count a place n) d b →
    t ≡ with_words k u b.table → t.own k ((2 * a + 1) / 512) ≡ true
count_own k a place n u d b t r e =
    let i : in_span (2 * a + 1) 1 (2 * a + 1) ≡ true = in_span_holds (2 * a + 1) 1 (2 * a + 1) (omega arith)
    (omega arith) in
    ap (λ z. z.own k ((2 * a + 1) / 512)) e ∙ (r.may (2 * a + 1) (ap (λ z. z || in_span place n (2 * a + 1)) i)).own

-- words of a span are put, and then the count
counted_wrote : (k a place n x : ℕ) (d b : Desk) (t new : Table) (f : Words → Words) →
    Readied k (with_count a place n) d b → t ≡ with_words k (f (b.table.word k)) b.table →
    new ≡ after_write k (2 * a + 1) x t → ((w : Words) (p : ℕ) → in_span place n p ≡ false → f w p ≡ w p) →
    Wrote k (put_word (2 * a + 1) x (f (d.table.word k))) (with_count a place n) d
    (record { table = new; draft = b.draft })
counted_wrote k a place n x d b t new f r e h off =
    wrote_ready k (with_count a place n) d b new (λ w. put_word (2 * a + 1) x (f w)) r
    (words_then k (f (b.table.word k)) (put_word (2 * a + 1) x) b.table t new e h)
    (λ w p o. count_off a place n x p (f w) w (off w p) o)

pub push_wrote : (k a place n x : ℕ) (vs : List Value) (d b : Desk) (t new : Table) →
    place ≡ body_by (d.table.word k) a + 2 * count_by (d.table.word k) a → n ≡ 2 * length vs →
    x ≡ count_by (d.table.word k) a + length vs → Readied k (with_count a place n) d b →
    t ≡ with_words k (put_values place vs (b.table.word k)) b.table → new ≡ after_write k (2 * a + 1) x t →
    Wrote k (pushed_words (d.table.word k) a vs)
    (with_count a (body_by (d.table.word k) a + 2 * count_by (d.table.word k) a) (2 * length vs)) d
    (record { table = new; draft = b.draft })
push_wrote k a place n x vs d b t new ep en ex r e h =
    let w : Words = d.table.word k in
    let P : ℕ → ℕ → ℕ → Type 0 = λ place n x. Wrote k (put_word (2 * a + 1) x (put_values place vs w))
    (with_count a place n) d (record { table = new; draft = b.draft }) in
    let Q : ℕ → Type 0 = λ z. P z (2 * length vs) (count_by w a + length vs) in
    let R : ℕ → Type 0 = λ z. P place z (count_by w a + length vs) in
    let S : ℕ → Type 0 = λ z. P place n z in
    subst Q ep (subst R en (subst S ex (counted_wrote k a place n x d b t new (put_values place vs) r e h
    (λ u p o. values_off place p vs u (ap (λ z. in_span place z p) (sym en) ∙ o)))))

-- one value, or two, at the end
pub pushed_one : (w : Words) (a : ℕ) (v : Value) → pushed_words w a (v ∷ []) ≡ push_words w a v
pushed_one w a v = refl

pub pushed_two : (w : Words) (a : ℕ) (key v : Value) → pushed_words w a (key ∷ v ∷ []) ≡ pair_words w a key v
pushed_two w a key v = refl

-- ---- places that were taken

-- a place of a page of the segment's own, in an extent that the step took, may be written
pub may_taken : (k place n : ℕ) (d : Desk) → place + n ≤ d.table.reserved → OwnSpan k place n d.table →
    ((p : ℕ) → in_span place n p ≡ true → in_extents (taken_since d.draft) p ≡ true) → (p : ℕ) →
    in_span place n p ≡ true → MayWrite k d p
may_taken k place n d l o t p h = record {
  within = (let b : (place ≤ p) × (p < place + n) = span_bounds place n p h in omega arith);
  own = o p h;
  known = inr (t p h);
}

-- places that may be written can be put
pub can_of_may : (k place n : ℕ) (d : Desk) → place + n ≤ d.table.reserved →
    ((p : ℕ) → in_span place n p ≡ true → MayWrite k d p) → CanPut k place n d.table
can_of_may k place n d l m = record { within = l; own = λ p h. (m p h).own }
