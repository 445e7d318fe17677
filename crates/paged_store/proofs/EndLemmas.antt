-- What a store's fields are where a step is taken back and where a transaction ends.
use Rattle.std.proofs.Common.{◌≡◌, ◌≢◌, ℕ, zero, suc, ◌+◌, ◌/◌, ◌<◌, ◌≤◌, Bool, true, cond, ◌||◌, ◌&&◌, not, eqb, List, [], ◌∷◌, ◌++◌, length, get_or, take, drop, Option, inl, inr, refl, sym, ◌∙◌, ap, subst, arith}
use Rattle.std.proofs.lemmas.Bool.{or_left, or_right, or_cases, cond-true, cond-false, cond_both}
use Rattle.std.proofs.lemmas.Bool.Decides.{eqb_tells}
use Rattle.std.proofs.lemmas.List.{take-append-drop, get_or-take, length-take, length-take-le, drop_all}
use Rattle.py_data.specs.Sight.{mem}
use Rattle.py_data.proofs.Grow.{mem_append}
use Rattle.page_table.specs.Pages.{Table, Lies}
use Rattle.paged_store.specs.declared.extent.Span.{Span}
use Rattle.paged_store.specs.declared.extent.Extent.{Extent}
use Rattle.paged_store.specs.Words.{Words}
use Rattle.paged_store.specs.inner.Moves.{put, empty_hand}
use Rattle.paged_store.specs.Paged.{Drafted, no_draft, Paged, in_extents, extents_at, rewound, taken_since, taken_then, hand_now, hand_before}
use Rattle.paged_store.specs.inner.Fine.{of_class, held_by, sum_to, FitsTable, Fits}
use Rattle.paged_store.specs.inner.Drafts.{step_undone}
use Rattle.paged_store.specs.inner.Ending.{HaveRoom, free_of}
use Rattle.paged_store.proofs.OverLemmas.{put_over}
use Rattle.paged_store.proofs.MeaningLemmas.{put_there}
use Rattle.paged_store.proofs.StateLemmas.{put_each, put_two}
use Rattle.paged_store.proofs.HolderLemmas.{held_in, names_fewer}
use Rattle.paged_store.proofs.LookCalls.{in_hand}

-- ---- sums over segments

-- a number in the place of another
pub sum_put : (n k x : ℕ) (f : ℕ → ℕ) → k < n → sum_to n (put k x f) + f k ≡ sum_to n f + x
sum_put zero k x f l = absurd (omega arith)
sum_put (suc n) k x f l = elim (eqb_tells n k) [
  | inl y ↦ (let e : n ≡ k = y.1 in
      let here : put k x f n ≡ x = cond-true (eqb n k) x (f n) y.0 in
      let rest = sum_off n k x f (omega (arith, e)) in
      let same : f k ≡ f n = ap f (sym e) in
      omega (arith, here, rest, same))
  | inr m ↦ (let here : put k x f n ≡ f n = cond-false (eqb n k) x (f n) m.0 in
      let apart = m.1 in
      let rest = sum_put n k x f (omega (arith, l, apart)) in
      omega (arith, here, rest))
]
  where
    sum_off : (n k x : ℕ) (f : ℕ → ℕ) → n ≤ k → sum_to n (put k x f) ≡ sum_to n f
    sum_off zero k x f l = refl
    sum_off (suc n) k x f l =
        let here : put k x f n ≡ f n = put_there k n x f (λ e. omega (arith, l, e)) in
        let rest = sum_off n k x f (omega (arith, l)) in
        omega (arith, here, rest)

pub sum_at : (n k : ℕ) (f : ℕ → ℕ) → k < n → f k ≤ sum_to n f
sum_at zero k f l = absurd (omega arith)
sum_at (suc n) k f l = elim (eqb_tells n k) [
  | inl y ↦ (let e : f k ≡ f n = ap f (sym y.1) in omega (arith, e))
  | inr m ↦ (let apart = m.1 in let rest = sum_at n k f (omega (arith, l, apart)) in omega (arith, rest))
]

-- none in the place of some
pub sum_less : (n k : ℕ) (f : ℕ → ℕ) → sum_to n (put k 0 f) ≤ sum_to n f
sum_less zero k f = omega arith
sum_less (suc n) k f =
    let rest = sum_less n k f in
    let here : put k 0 f n ≤ f n = cond_both (eqb n k) 0 (f n) (λ x. x ≤ f n) (λ _. omega arith) (λ _. omega arith) in
    omega (arith, rest, here)

-- ---- counts of parts

pub class_both : (c : ℕ) (xs ys : List Extent) → of_class c (xs ++ ys) ≡ of_class c xs + of_class c ys
class_both c [] ys = omega arith
class_both c (x ∷ xs) ys = let e = class_both c xs ys in omega (arith, e)

pub class_parts : (c : ℕ) (d : Drafted) → of_class c d.taken ≡ of_class c (taken_then d) + of_class c (taken_since d)
class_parts c d = ap (of_class c) (sym (take-append-drop d.taken_before d.taken)) ∙
    class_both c (taken_then d) (taken_since d)

pub at_both : (xs ys : List Extent) (p : ℕ) → extents_at (xs ++ ys) p ≡ extents_at xs p + extents_at ys p
at_both [] ys p = omega arith
at_both (x ∷ xs) ys p = let e = at_both xs ys p in omega (arith, e)

pub at_parts : (d : Drafted) (p : ℕ) → extents_at d.taken p ≡ extents_at (taken_then d) p + extents_at (taken_since d) p
at_parts d p = ap (λ xs. extents_at xs p) (sym (take-append-drop d.taken_before d.taken)) ∙
    at_both (taken_then d) (taken_since d) p

-- there is room on the shelves for what a segment took
module _ (p : Paged) (k : ℕ) (f : Fits p) (l : k < p.table.segments) where
  pub room_all : HaveRoom (p.drafts k).taken p.table
  room_all = λ c. let s = sum_at p.table.segments k (λ j. of_class c (p.drafts j).taken) l in let h = f.counted c in
      omega (arith, s, h)

  pub room_step : HaveRoom (taken_since (p.drafts k)) p.table
  room_step = λ c. let s = room_all c in let e = class_parts c (p.drafts k) in omega (arith, s, e)

-- ---- drafts

-- a draft fits a table with as many words, and as many pages of its segment's own
pub table_fits : (t u : Table) (n m k : ℕ) (d : Drafted) → u.reserved ≡ t.reserved → u.own ≡ t.own → m ≡ n →
    FitsTable t n k d → FitsTable u m k d
table_fits t u n m k d r o e f = record {
  spans = λ i x l. subst (λ z. (get_or d.spans i x).place + (get_or d.spans i x).words ≤ z) (sym r) (f.spans i x l);
  taken = λ i x l. subst (λ z. Lies (get_or d.taken i x).class (get_or d.taken i x).place z) (sym r) (f.taken i x l);
  classes = f.classes;
  notes = λ p h. let a = f.notes p h in (
    subst (λ z. p < z) (sym r) a.0,
    ap (λ (g : ℕ → ℕ → Bool). g k (p / 512)) o ∙
        a.1,
  );
  noted_touched = f.noted_touched;
  holds = λ a h. subst (λ z. a < z) (sym e) (f.holds a h);
  spans_before = f.spans_before;
  taken_before = f.taken_before;
  made_before = f.made_before;
  once = f.once;
}

pub empty_fits : (t : Table) (n k : ℕ) → FitsTable t n k no_draft
empty_fits t n k = record {
  spans = λ i x l. absurd (omega arith);
  taken = λ i x l. absurd (omega arith);
  classes = λ i x l. absurd (omega arith);
  notes = λ p e. absurd (cc);
  noted_touched = λ p e. absurd (cc);
  holds = λ a e. absurd (cc);
  spans_before = omega arith;
  taken_before = omega arith;
  made_before = omega arith;
  once = λ a e. refl;
}

pub undone_fits : (t : Table) (n k : ℕ) (d : Drafted) → FitsTable t n k d → FitsTable t n k (step_undone d)
undone_fits t n k d f = record {
  spans = λ i x l. let m = length-take d.spans_before d.spans in
      subst (λ (y : Span). y.place + y.words ≤ t.reserved)
      (sym (get_or-take d.spans_before d.spans i x (omega (arith, l, m)))) (f.spans i x (omega (arith, l, m)));
  taken = λ i x l. let m = length-take d.taken_before d.taken in
      subst (λ (y : Extent). Lies y.class y.place t.reserved)
      (sym (get_or-take d.taken_before d.taken i x (omega (arith, l, m)))) (f.taken i x (omega (arith, l, m)));
  classes = λ i x l. let m = length-take d.taken_before d.taken in
      subst (λ (y : Extent). (1 ≤ y.class) × (y.class ≤ 21))
      (sym (get_or-take d.taken_before d.taken i x (omega (arith, l, m)))) (f.classes i x (omega (arith, l, m)));
  notes = λ p e. absurd (cc);
  noted_touched = λ p e. absurd (cc);
  holds = λ a e. f.holds a (kept a e);
  spans_before = let m = length-take-le d.spans_before d.spans f.spans_before in omega (arith, m);
  taken_before = let m = length-take-le d.taken_before d.taken f.taken_before in omega (arith, m);
  made_before = let m = length-take-le d.made_before d.made f.made_before in omega (arith, m);
  once = λ a e. let m = length-take-le d.made_before d.made f.made_before in
      ap (mem a) (drop_all d.made_before (take d.made_before d.made) (omega (arith, m)));
}
  where
    kept : (a : ℕ) → (mem a d.changed || mem a (take d.made_before d.made)) ≡ true →
        (mem a d.changed || mem a d.made) ≡ true
    kept a e = elim (or_cases (mem a d.changed) (mem a (take d.made_before d.made)) e) [
      | inl x ↦ or_left _ _ x
      | inr x ↦ or_right _ _ (ap (mem a) (sym (take-append-drop d.made_before d.made)) ∙
          mem_append a (take d.made_before d.made) (drop d.made_before d.made) ∙ or_left _ _ x)
    ]

-- ---- a store's fields

abbrev pub ended : ℕ → Drafted → Table → List Bool → (ℕ → Option ℕ) → Paged → Paged
ended k d u ps hs p = record {
  table = u;
  present = ps;
  holder = hs;
  looked = p.looked;
  drafts = put k d p.drafts;
}

pub fits_end : (p : Paged) (k : ℕ) (d : Drafted) (u : Table) (ps : List Bool) (hs : ℕ → Option ℕ) (g : ℕ → Bool) →
    Fits p →
    u.reserved ≡ p.table.reserved → u.own ≡ p.table.own → length ps ≡ length p.present
    → FitsTable u (length ps) k d → hs ≡ free_of g p.holder → ((a : ℕ) → g a ≡ true → held_by (p.drafts k) a ≡ true) →
    ((a : ℕ) → held_by d a ≡ (held_by (p.drafts k) a && not (g a)))
    → ((c : ℕ) → sum_to u.segments (put k (of_class c d.taken) (λ j. of_class c (p.drafts j).taken)) + length
    (u.shelf c).spare ≤ (u.shelf c).total)
    → Fits (ended k d u ps hs p)
fits_end p k d u ps hs g f reserved own count here released mine left counted = record {
  drafts = put_each (λ j x. FitsTable u (length ps) j x) k d p.drafts here
      (λ j n. table_fits p.table u (length p.present) (length ps) j (p.drafts j) reserved own count (f.drafts j));
  holders = λ j a. names_fewer p.holder hs k g released (λ b e. f.holders k b ∙ mine b e) j a
      ∙ put_two (λ j h x. h a ≡ in_hand j x a) k (λ b. held_in p.holder k b && not (g b)) (held_in p.holder) d p.drafts
      (ap (λ t. t && not (g a)) (f.holders k a) ∙ sym (left a)) (λ j n. f.holders j a) j;
  counted = λ c. subst (λ h. sum_to u.segments h + length (u.shelf c).spare ≤ (u.shelf c).total)
      (sym (put_over (λ j x. of_class c x.taken) k d p.drafts)) (counted c);
}

-- ---- hands

pub now_by : (t u : Table) (j : ℕ) (d : Drafted) → u.word j ≡ t.word j → hand_now u j d ≡ hand_now t j d
now_by t u j d e = λ i. record (hand_now t j d) { word = e i }

pub before_by : (t u : Table) (j : ℕ) (d : Drafted) → u.shared ≡ t.shared → u.word j ≡ t.word j →
    hand_before u j d ≡ hand_before t j d
before_by t u j d s e = λ i. record (hand_before t j d)
    { word = λ p. cond (in_extents (taken_since d) p) (s i p) (rewound d.notes (e i) p) }

pub now_cleared : (u : Table) (k : ℕ) (w : Words) → u.word k ≡ w → hand_now u k no_draft ≡ empty_hand w
now_cleared u k w e = λ i. record (empty_hand w) { word = e i }

pub before_cleared : (u : Table) (k : ℕ) (w : Words) → u.word k ≡ w →
    hand_before u k no_draft ≡ empty_hand w
before_cleared u k w e = λ i. record (empty_hand w) { word = e i }

pub put_others : {A : Type 0} (k : ℕ) (x : A) (f g : ℕ → A) → ((j : ℕ) → j ≢ k → f j ≡ g j) → put k x f ≡ put k x g
put_others k x f g e = λ i j. here j i
  where
    here : (j : ℕ) → put k x f j ≡ put k x g j
    here j = elim (eqb_tells j k) [
      | inl y ↦ cond-true (eqb j k) x (f j) y.0 ∙ sym (cond-true (eqb j k) x (g j) y.0)
      | inr n ↦ cond-false (eqb j k) x (f j) n.0 ∙ e j n.1 ∙ sym (cond-false (eqb j k) x (g j) n.0)
    ]
