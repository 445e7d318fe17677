-- Spans and notes that are added to a draft's.
use Rattle.std.proofs.Common.{◌≡◌, ℕ, zero, suc, ◌+◌, Bool, true, false, ◌||◌, cond, eqb, List, [], ◌∷◌, ◌++◌, Some, slice_get, refl, sym, ap, ◌∙◌, inl, inr, arith}
use Rattle.std.proofs.Math.Bool.{or_assoc}
use Rattle.std.proofs.lemmas.Bool.{or_left, or_right}
use Rattle.std.proofs.lemmas.Bool.Decides.{eqb_tells, nat_tests}
use Rattle.paged_store.specs.declared.extent.Span.{Span}
use Rattle.paged_store.specs.declared.extent.Note.{Note}
use Rattle.paged_store.specs.Words.{Words, in_span, listed}
use Rattle.paged_store.specs.Paged.{in_spans, rewound}
use Rattle.paged_store.specs.inner.Fine.{noted}
use Rattle.paged_store.specs.inner.Writing.{note_of}
use Rattle.paged_store.proofs.SpanLemmas.{none_in_span}

-- ---- spans

or_swap : (a b c : Bool) → (b || (a || c)) ≡ (a || (b || c))
or_swap true true c = refl
or_swap true false c = refl
or_swap false true c = refl
or_swap false false c = refl

pub or_absorbed : (a b : Bool) → (a ≡ true → b ≡ true) → b ≡ (a || b)
or_absorbed true b h = h refl
or_absorbed false b h = refl

pub in_spans_last : (xs : List Span) (x : Span) (p : ℕ) →
    in_spans (xs ++ x ∷ []) p ≡ (in_span x.place x.words p || in_spans xs p)
in_spans_last [] x p = refl
in_spans_last (y ∷ ys) x p = ap (λ b. in_span y.place y.words p || b) (in_spans_last ys x p)
    ∙ or_swap (in_span x.place x.words p) (in_span y.place y.words p) (in_spans ys p)

-- a place of one of the spans
pub in_spans_get : (xs : List Span) (i : ℕ) (x : Span) (p : ℕ) → slice_get xs i ≡ Some x →
    in_span x.place x.words p ≡ true → in_spans xs p ≡ true
in_spans_get [] i x p e h = cc
in_spans_get (y ∷ ys) zero x p e h = (let f : y ≡ x = cc in
    or_left (in_span y.place y.words p) (in_spans ys p) (rw f h))
in_spans_get (y ∷ ys) (suc i) x p e h = or_right (in_span y.place y.words p) (in_spans ys p) (in_spans_get ys i x p e h)

-- ---- notes

pub rewound_append : (xs ys : List Note) (w : Words) → rewound (xs ++ ys) w ≡ rewound xs (rewound ys w)
rewound_append [] ys w = refl
rewound_append (x ∷ xs) ys w = λ i p. cond (eqb p x.place) x.word (rewound_append xs ys w i p)

-- a note of the word that stands there decides nothing
rewound_one : (w : Words) (place j : ℕ) → rewound (note_of w place j ∷ []) w ≡ w
rewound_one w place j = λ i p. at p i
  where
    at : (p : ℕ) → cond (eqb p (place + j)) (w (place + j)) (w p) ≡ w p
    at p = elim (eqb_tells p (place + j)) [ inl e ↦ rw e.0 (ap w (sym e.1)) | inr e ↦ rw e.0 refl ]

pub rewound_listed : (w : Words) (place m : ℕ) → rewound (listed m (note_of w place)) w ≡ w
rewound_listed w place zero = refl
rewound_listed w place (suc m) = rewound_append (listed m (note_of w place)) (note_of w place m ∷ []) w
    ∙ ap (rewound (listed m (note_of w place))) (rewound_one w place m)
    ∙ rewound_listed w place m

-- what stands at a place that is noted doesn't decide
pub rewound_noted : (xs : List Note) (w v : Words) (p : ℕ) → noted xs p ≡ true → rewound xs w p ≡ rewound xs v p
rewound_noted [] w v p h = cc
rewound_noted (x ∷ xs) w v p h = elim (eqb_tells p x.place) [
  | inl e ↦ rw e.0 refl
  | inr e ↦ rw e.0 (rewound_noted xs w v p (rw e.0 at h))
]

pub rewound_same : (xs : List Note) (w v : Words) (p : ℕ) → w p ≡ v p → rewound xs w p ≡ rewound xs v p
rewound_same [] w v p h = h
rewound_same (x ∷ xs) w v p h = ap (λ z. cond (eqb p x.place) x.word z) (rewound_same xs w v p h)

pub noted_append : (xs ys : List Note) (p : ℕ) → noted (xs ++ ys) p ≡ (noted xs p || noted ys p)
noted_append [] ys p = refl
noted_append (x ∷ xs) ys p = ap (λ b. eqb p x.place || b) (noted_append xs ys p)
    ∙ sym (or_assoc (eqb p x.place) (noted xs p) (noted ys p))

span_next : (place m p : ℕ) → (in_span place m p || (eqb p (place + m) || false)) ≡ in_span place (suc m) p
span_next place m p = grind (arith, nat_tests)

pub noted_listed : (w : Words) (place m p : ℕ) → noted (listed m (note_of w place)) p ≡ in_span place m p
noted_listed w place zero p = sym (none_in_span place p)
noted_listed w place (suc m) p = noted_append (listed m (note_of w place)) (note_of w place m ∷ []) p
    ∙ ap (λ b. b || (eqb p (place + m) || false)) (noted_listed w place m p)
    ∙ span_next place m p
