-- What is made ready on a desk, and what is written there.
use Rattle.std.proofs.Common.{◌≡◌, ◌⊎◌, ℕ, zero, suc, ◌+◌, ◌/◌, ◌%◌, ◌<◌, ◌≤◌, Bool, true, false, ◌||◌, cond, List, [], ◌∷◌, ◌++◌, length, get_or, Result, Ok, Err, OnErr, Some, slice_get, ◌-◌, refl, sym, ap, subst, ◌∙◌, inl, inr, arith, length-append, append_assoc}
use Rattle.std.proofs.Math.Bool.{or_assoc}
use Rattle.std.proofs.lemmas.Bool.{or_cases, or_left, or_right}
use Rattle.std.proofs.lemmas.List.{append-nil}
use Rattle.std.proofs.lemmas.Bool.Decides.{eqb_tells}
use Rattle.page_table.specs.Pages.{Table, put, after_open}
use Rattle.paged_store.specs.declared.extent.Span.{Span}
use Rattle.paged_store.specs.declared.extent.Note.{Note}
use Rattle.paged_store.specs.Words.{Words, in_span, listed}
use Rattle.paged_store.specs.inner.Moves.{nowhere}
use Rattle.paged_store.specs.Paged.{in_spans, in_extents, rewound, taken_since}
use Rattle.paged_store.specs.inner.Fine.{FitsTable, noted}
use Rattle.paged_store.specs.inner.Writing.{Desk, SameBut, Wrote, Refused, MayWrite, Readied, OwnSpan, Opened, Spanned, note_of, with_notes, NotedSome}
use Rattle.paged_store.proofs.SpanLemmas.{in_span_holds, none_in_span, span_bounds}
use Rattle.paged_store.proofs.DraftLemmas.{or_absorbed, rewound_append, rewound_listed, noted_append, noted_listed, in_spans_last, in_spans_get}

pub on_err : {T E P : Type 0} (x : Result T E) → P → OnErr x P
on_err (Ok y) h = tt
on_err (Err e) h = h

-- ---- one word more that is noted

pub noted_next : (w : Words) (place j x : ℕ) (old now new : List Note) → now ≡ with_notes w place j old →
    new ≡ now ++ record { place = place + j; word = x } ∷ [] → x ≡ w (place + j) →
    new ≡ with_notes w place (j + 1) old
noted_next w place j x old now new e f ex = f
    ∙ (λ i. e i ++ record { place = place + j; word = ex i } ∷ [])
    ∙ append_assoc old (listed j (note_of w place)) (note_of w place j ∷ [])
    ∙ ap (λ n. with_notes w place n old) (let z : suc j ≡ j + 1 = omega arith in z)

-- ---- one change after another

pub same_then : (k : ℕ) (a b c : Desk) → SameBut k a b → SameBut k b c → SameBut k a c
same_then k a b c s r = record {
  shared = r.shared ∙ s.shared;
  others = λ j n. r.others j n ∙ s.others j n;
  shelf = r.shelf ∙ s.shelf;
  reserved = r.reserved ∙ s.reserved;
  pages = r.pages ∙ s.pages;
  segments = r.segments ∙ s.segments;
  own = λ j q h. r.own j q (s.own j q h);
  changed = r.changed ∙ s.changed;
  made = r.made ∙ s.made;
  taken = r.taken ∙ s.taken;
  taken_before = r.taken_before ∙ s.taken_before;
  made_before = r.made_before ∙ s.made_before;
  spans_before = r.spans_before ∙ s.spans_before;
  more_spans = s.more_spans ++ r.more_spans;
  spans = r.spans ∙ ap (λ z. z ++ r.more_spans) s.spans ∙ append_assoc a.draft.spans s.more_spans r.more_spans;
  more_notes = s.more_notes ++ r.more_notes;
  notes = r.notes ∙ ap (λ z. z ++ r.more_notes) s.notes ∙ append_assoc a.draft.notes s.more_notes r.more_notes;
}

pub wrote_then : (k : ℕ) (w v : Words) (t u : ℕ → Bool) (a b c : Desk) → Wrote k w t a b → Wrote k v u b c →
    Wrote k v (λ p. u p || t p) a c
wrote_then k w v t u a b c s r = record {
  same = same_then k a b c s.same r.same;
  word = r.word;
  before = λ p. r.before p ∙ s.before p;
  spans = λ p. r.spans p ∙ ap (λ z. u p || z) (s.spans p) ∙ sym (or_assoc (u p) (t p) (in_spans a.draft.spans p));
  fits = λ n f. r.fits n (s.fits n f);
}

pub wrote_words : (k : ℕ) (w v : Words) (t : ℕ → Bool) (a b : Desk) → ((p : ℕ) → w p ≡ v p) → Wrote k w t a b →
    Wrote k v t a b
wrote_words k w v t a b h s = record {
  same = s.same;
  word = λ p. s.word p ∙ h p;
  before = s.before;
  spans = s.spans;
  fits = s.fits;
}

-- what may be written may be written after another write
noted_still : (xs ys more : List Note) (p : ℕ) → ys ≡ xs ++ more → noted xs p ≡ true → noted ys p ≡ true
noted_still xs ys more p e h = ap (λ z. noted z p) e ∙ noted_append xs more p ∙ ap (λ b. b || noted more p) h

pub may_still : (k : ℕ) (a b : Desk) (p : ℕ) → SameBut k a b → MayWrite k a p → MayWrite k b p
may_still k a b p s m = record {
  within = rw s.reserved m.within;
  own = s.own k (p / 512) m.own;
  known = elim m.known [
    | inl h ↦ inl (noted_still a.draft.notes b.draft.notes s.more_notes p s.notes h)
    | inr h ↦ inr (rw (s.taken, s.taken_before) h)
  ];
}

pub readied_then : (k : ℕ) (t u : ℕ → Bool) (a b c : Desk) → Readied k t a b → Readied k u b c →
    Readied k (λ p. u p || t p) a c
readied_then k t u a b c s r = record {
  wrote = wrote_words k (b.table.word k) (a.table.word k) (λ p. u p || t p) a c s.wrote.word
      (wrote_then k (a.table.word k) (b.table.word k) t u a b c s.wrote r.wrote);
  may = λ p h. elim (or_cases (u p) (t p) h) [
    | inl i ↦ r.may p i
    | inr i ↦ may_still k b c p r.wrote.same (s.may p i)
  ];
}

-- the second of two was refused
pub refused_then : (k : ℕ) (t u : ℕ → Bool) (a b c : Desk) → Readied k t a b → Refused k u b c →
    Refused k (λ p. u p || t p) a c
refused_then k t u a b c s r = record {
  touched = λ p. r.touched p || t p;
  within = λ p h. elim (or_cases (r.touched p) (t p) h) [
    | inl i ↦ or_left (u p) (t p) (r.within p i)
    | inr i ↦ or_right (u p) (t p) i
  ];
  wrote = wrote_words k (b.table.word k) (a.table.word k) (λ p. r.touched p || t p) a c s.wrote.word
      (wrote_then k (a.table.word k) (b.table.word k) t r.touched a b c s.wrote r.wrote);
}

-- the first of several was
pub refused_within : (k : ℕ) (t u : ℕ → Bool) (a b : Desk) → ((p : ℕ) → t p ≡ true → u p ≡ true) → Refused k t a b →
    Refused k u a b
refused_within k t u a b h r = record { touched = r.touched; within = λ p i. h p (r.within p i); wrote = r.wrote }

-- ---- pages are a segment's own, and words are noted

-- pages that are own, m notes of the words from a place on, and these spans
abbrev readied : Desk → (ℕ → ℕ → Bool) → List Span → ℕ → ℕ → ℕ → Desk
readied d own spans k place m = record {
  table = record d.table { own = own };
  draft = record d.draft { spans = spans; notes = with_notes (d.table.word k) place m d.draft.notes };
}

pub record IsReady (k place m : ℕ) (t : ℕ → Bool) (own : ℕ → ℕ → Bool) (spans : List Span) (d : Desk) : Type 0 where
  pub grows : (j q : ℕ) → d.table.own j q ≡ true → own j q ≡ true
  pub more : List Span
  pub is : spans ≡ d.draft.spans ++ more
  pub places : (p : ℕ) → in_spans spans p ≡ (t p || in_spans d.draft.spans p)
  pub each : (i : ℕ) (x : Span) → i < length more →
      (get_or more i x).place + (get_or more i x).words ≤ d.table.reserved
  pub within : (p : ℕ) → t p ≡ true → p < d.table.reserved
  pub noted : (p : ℕ) → in_span place m p ≡ true → (t p ≡ true) × (own k (p / 512) ≡ true)

-- spans of two lists lie below an end
spans_within : (xs ys : List Span) (end : ℕ) →
    ((i : ℕ) (x : Span) → i < length xs → (get_or xs i x).place + (get_or xs i x).words ≤ end) →
    ((i : ℕ) (x : Span) → i < length ys → (get_or ys i x).place + (get_or ys i x).words ≤ end) → (i : ℕ) (x : Span) →
    i < length xs + length ys → (get_or (xs ++ ys) i x).place + (get_or (xs ++ ys) i x).words ≤ end
spans_within [] ys end h l i x m = l i x (omega arith)
spans_within (z ∷ xs) ys end h l zero x m = h zero x (omega arith)
spans_within (z ∷ xs) ys end h l (suc i) x m = spans_within xs ys end (λ j y n. h (suc j) y (omega arith)) l i x
    (omega arith)

module _ (k place m : ℕ) (t : ℕ → Bool) (own : ℕ → ℕ → Bool) (spans : List Span) (d : Desk)
    (r : IsReady k place m t own spans d) where
  noted_either : (p : ℕ) → noted (with_notes (d.table.word k) place m d.draft.notes) p ≡ true →
      (noted d.draft.notes p ≡ true) ⊎ (in_span place m p ≡ true)
  noted_either p h = or_cases (noted d.draft.notes p) (in_span place m p)
      (sym (noted_append d.draft.notes (listed m (note_of (d.table.word k) place)) p ∙
      ap (λ b. noted d.draft.notes p || b) (noted_listed (d.table.word k) place m p)) ∙ h)

  now_noted : (p : ℕ) → in_span place m p ≡ true → noted (with_notes (d.table.word k) place m d.draft.notes) p ≡ true
  now_noted p h = noted_append d.draft.notes (listed m (note_of (d.table.word k) place)) p ∙
      or_right (noted d.draft.notes p) (noted (listed m (note_of (d.table.word k) place)) p)
      (noted_listed (d.table.word k) place m p ∙ h)

  touched_still : (p : ℕ) → (in_spans d.draft.spans p || in_extents d.draft.taken p) ≡ true →
      (in_spans spans p || in_extents d.draft.taken p) ≡ true
  touched_still p h = elim (or_cases (in_spans d.draft.spans p) (in_extents d.draft.taken p) h) [
    | inl i ↦ or_left (in_spans spans p) (in_extents d.draft.taken p)
        (r.places p ∙ or_right (t p) (in_spans d.draft.spans p) i)
    | inr i ↦ or_right (in_spans spans p) (in_extents d.draft.taken p) i
  ]

  fits_ready : (n : ℕ) → FitsTable d.table n k d.draft →
      FitsTable (readied d own spans k place m).table n k (readied d own spans k place m).draft
  fits_ready n f = record {
    spans = λ i x h. rw r.is (spans_within d.draft.spans r.more d.table.reserved f.spans r.each i x
        (omega (arith, ap length r.is, length-append d.draft.spans r.more)));
    taken = f.taken;
    classes = f.classes;
    notes = λ p h. elim (noted_either p h) [
      | inl i ↦ (let x : (p < d.table.reserved) × (d.table.own k (p / 512) ≡ true) = f.notes p i in
          (x.0, r.grows k (p / 512) x.1))
      | inr i ↦ (let x : (t p ≡ true) × (own k (p / 512) ≡ true) = r.noted p i in (r.within p x.0, x.1))
    ];
    noted_touched = λ p h. elim (noted_either p h) [
      | inl i ↦ touched_still p (f.noted_touched p i)
      | inr i ↦ or_left (in_spans spans p) (in_extents d.draft.taken p)
          (r.places p ∙ or_left (t p) (in_spans d.draft.spans p) (r.noted p i).0)
    ];
    holds = f.holds;
    spans_before = (let e : length spans ≡ length (d.draft.spans ++ r.more) = ap length r.is in
        omega (arith, f.spans_before, length-append d.draft.spans r.more));
    taken_before = f.taken_before;
    made_before = f.made_before;
    once = f.once;
  }

  pub ready_wrote : Wrote k (d.table.word k) t d (readied d own spans k place m)
  ready_wrote = record {
    same = record {
      shared = refl;
      others = λ j n. refl;
      shelf = refl;
      reserved = refl;
      pages = refl;
      segments = refl;
      own = r.grows;
      changed = refl;
      made = refl;
      taken = refl;
      taken_before = refl;
      made_before = refl;
      spans_before = refl;
      more_spans = r.more;
      spans = r.is;
      more_notes = listed m (note_of (d.table.word k) place);
      notes = refl;
    };
    word = λ p. refl;
    before = λ p i. cond (in_extents (taken_since d.draft) p) (d.table.shared p)
        ((rewound_append d.draft.notes (listed m (note_of (d.table.word k) place)) (d.table.word k) ∙
        ap (rewound d.draft.notes) (rewound_listed (d.table.word k) place m)) i p);
    spans = r.places;
    fits = fits_ready;
  }

  pub ready_may : (p : ℕ) → in_span place m p ≡ true → MayWrite k (readied d own spans k place m) p
  ready_may p h = record {
    within = r.within p (r.noted p h).0;
    own = (r.noted p h).1;
    known = inl (now_noted p h);
  }

-- ---- pages that are opened

own_put : (k page : ℕ) (own : ℕ → ℕ → Bool) (j q : ℕ) → own j q ≡ true → put k (put page true (own k)) own j q ≡ true
own_put k page own j q h = elim (eqb_tells j k) [
  | inl e ↦ (elim (eqb_tells q page) [
    | inl f ↦ rw (e.0, f.0) refl
    | inr f ↦ rw (e.0, f.0) (ap (λ z. own z q) (sym e.1) ∙ h)
  ])
  | inr e ↦ rw e.0 h
]

own_opened : (k page : ℕ) (own : ℕ → ℕ → Bool) → put k (put page true (own k)) own k page ≡ true
own_opened k page own = elim (eqb_tells k k) [
  | inl e ↦ (elim (eqb_tells page page) [ inl f ↦ rw (e.0, f.0) refl | inr f ↦ absurd (f.1 refl) ])
  | inr e ↦ absurd (e.1 refl)
]

pub opened_none : (a : Table) → Opened a a
opened_none a = record { same = refl; own = λ j q h. h }

-- one page more is a segment's own
pub opened_more : (k page : ℕ) (a b c : Table) → Opened a b → c ≡ after_open k page b → Opened a c
opened_more k page a b c o e =
    let x : ℕ → ℕ → Bool = put k (put page true (b.own k)) b.own in
    let f : after_open k page b ≡ c = sym e in
    record {
      same = e ∙ (λ i. record (o.same i) { own = x }) ∙ (λ i. record a { own = (f i).own });
      own = λ j q h. ap (λ t. t.own j q) e ∙ own_put k page b.own j q (o.own j q h);
    }

pub opened_pages : (k first page : ℕ) (b c : Table) → ((q : ℕ) → first ≤ q → q < page → b.own k q ≡ true) →
    c ≡ after_open k page b → (q : ℕ) → first ≤ q → q < page + 1 → c.own k q ≡ true
opened_pages k first page b c h e q l m = ap (λ t. t.own k q) e ∙ (elim (eqb_tells q page) [
  | inl f ↦ ap (λ z. put k (put page true (b.own k)) b.own k z) f.1 ∙ own_opened k page b.own
  | inr f ↦ own_put k page b.own k q (h q l (omega (arith, f.1)))
])

-- a span in a page of a segment's own
pub own_in_page : (k place n : ℕ) (t : Table) → t.own k (place / 512) ≡ true → place % 512 + n ≤ 512 →
    OwnSpan k place n t
own_in_page k place n t own l p h = let b : (place ≤ p) × (p < place + n) = span_bounds place n p h in
    ap (λ q. t.own k q) (let z : p / 512 ≡ place / 512 = omega (arith, b, l) in z) ∙ own

-- ---- spans that are added

pub spanned_already : (xs : List Span) (x : Span) (place n : ℕ) → Some x ≡ slice_get xs (length xs - 1) →
    x.place ≡ place → x.words ≡ n → Spanned place n xs xs
spanned_already xs x place n h e f = record {
  more = [];
  is = sym (append-nil xs);
  places = λ p. or_absorbed (in_span place n p) (in_spans xs p)
      (λ i. in_spans_get xs (length xs - 1) x p (sym h) (rw (e, f) i));
  each = λ i y l. absurd (omega arith);
}

one_span : (x : Span) (i : ℕ) (y : Span) → i < length (x ∷ []) →
    (get_or (x ∷ []) i y).place + (get_or (x ∷ []) i y).words ≤ x.place + x.words
one_span x zero y h = omega arith
one_span x (suc i) y h = absurd (omega arith)

pub spanned_more : (xs ys : List Span) (x : Span) → ys ≡ xs ++ x ∷ [] → Spanned x.place x.words xs ys
spanned_more xs ys x e = record {
  more = x ∷ [];
  is = e;
  places = λ p. ap (λ z. in_spans z p) e ∙ in_spans_last xs x p;
  each = one_span x;
}

-- ---- a span is made ready, as far as it went

module _ (k place n : ℕ) (old : Desk) (table : Table) (o : Opened old.table table) where
  word_same : table.word k ≡ old.table.word k
  word_same = ap (λ t. t.word k) o.same

  none_ready : IsReady k place 0 nowhere table.own old.draft.spans old
  none_ready = record {
    grows = o.own;
    more = [];
    is = sym (append-nil old.draft.spans);
    places = λ p. refl;
    each = λ i x h. absurd (omega arith);
    within = λ p h. cc;
    noted = λ p h. absurd (let e : in_span place 0 p ≡ false = none_in_span place p in cc);
  }

  ready_at : (spans : List Span) (notes : List Note) (m : ℕ) →
      notes ≡ with_notes (old.table.word k) place m old.draft.notes →
      readied old table.own spans k place m ≡ record
      { table = table; draft = record old.draft { spans = spans; notes = notes } }
  ready_at spans notes m e =
      let f : record old.table { own = table.own } ≡ table = sym o.same in
      let g : with_notes (old.table.word k) place m old.draft.notes ≡ notes = sym e in
      λ i. record { table = f i; draft = record old.draft { spans = spans; notes = g i } }

  wrote_at : (spans : List Span) (notes : List Note) (m : ℕ) (t : ℕ → Bool) →
      notes ≡ with_notes (old.table.word k) place m old.draft.notes → IsReady k place m t table.own spans old →
      Wrote k (old.table.word k) t old (record
      { table = table; draft = record old.draft { spans = spans; notes = notes } })
  wrote_at spans notes m t e r = let P : Desk → Type 0 = λ d. Wrote k (old.table.word k) t old d in
      subst P (ready_at spans notes m e) (ready_wrote k place m t table.own spans old r)

  -- only pages were opened
  only_opened : Wrote k (old.table.word k) nowhere old (record { table = table; draft = old.draft })
  only_opened = wrote_at old.draft.spans old.draft.notes 0 nowhere (sym (append-nil old.draft.notes)) none_ready

  pub refused_first : (spans : List Span) → spans ≡ old.draft.spans →
      Refused k (in_span place n) old (record { table = table; draft = record old.draft { spans = spans } })
  refused_first spans e = record {
    touched = nowhere;
    within = λ p h. cc;
    wrote = (let P : List Span → Type 0 = λ z.
        Wrote k (old.table.word k) nowhere old (record { table = table; draft = record old.draft { spans = z } }) in
        subst P (sym e) (wrote_at old.draft.spans old.draft.notes 0 nowhere (sym (append-nil old.draft.notes))
        none_ready));
  }

  module _ (spans : List Span) (s : Spanned place n old.draft.spans spans) (own : OwnSpan k place n table)
      (l : place + n ≤ old.table.reserved) where
    span_ready : (m : ℕ) → m ≤ n → IsReady k place m (in_span place n) table.own spans old
    span_ready m h = record {
      grows = o.own;
      more = s.more;
      is = s.is;
      places = s.places;
      each = λ i x h. (let e : (get_or s.more i x).place + (get_or s.more i x).words ≤ place + n = s.each i x h in
          omega arith);
      within = λ p i. (let b : (place ≤ p) × (p < place + n) = span_bounds place n p i in omega arith);
      noted = λ p i. (let b : (place ≤ p) × (p < place + m) = span_bounds place m p i in
          let x : in_span place n p ≡ true = in_span_holds place n p (omega arith) (omega arith) in (x, own p x));
    }

    -- some of the words were noted
    pub refused_last : (notes : List Note) → NotedSome (table.word k) place n old.draft.notes notes →
        Refused k (in_span place n) old (record
        { table = table; draft = record old.draft { spans = spans; notes = notes } })
    refused_last notes q = record {
      touched = in_span place n;
      within = λ p h. h;
      wrote = wrote_at spans notes q.count (in_span place n) (rw word_same at q.is) (span_ready q.count q.within);
    }

    pub readied_span : (notes : List Note) → notes ≡ with_notes (table.word k) place n old.draft.notes →
        Readied k (in_span place n) old (record
        { table = table; draft = record old.draft { spans = spans; notes = notes } })
    readied_span notes e = record {
      wrote = wrote_at spans notes n (in_span place n) (rw word_same at e) (span_ready n (omega arith));
      may = λ p h. (let P : Desk → Type 0 = λ d. MayWrite k d p in
          subst P (ready_at spans notes n (rw word_same at e))
          (ready_may k place n (in_span place n) table.own spans old (span_ready n (omega arith)) p h));
    }

-- pages that are opened, for places that were taken
pub opened_wrote : (k : ℕ) (d : Desk) (t : Table) → Opened d.table t →
    Wrote k (d.table.word k) nowhere d (record { table = t; draft = d.draft })
opened_wrote k d t o = only_opened k 0 0 d t o
