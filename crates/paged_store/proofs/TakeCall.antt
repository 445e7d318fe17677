-- A segment takes extents for a record, on a store's fields.
use Rattle.std.proofs.Common.{◌≡◌, ℕ, ◌+◌, ◌-◌, ◌/◌, ◌<◌, ◌≤◌, Bool, true, false, ◌||◌, ◌&&◌, cond, leb, ltb, List, ◌++◌, length, get_or, drop, inl, inr, refl, sym, ◌∙◌, ap, subst, arith, append_assoc, length-append}
use Rattle.std.proofs.Props.{props}
use Rattle.std.proofs.Math.Logic.{∥∥₁_elim}
use Rattle.std.proofs.lemmas.Bool.{cases_Bool, both_ways, false_from_ne_true, or_cases, or_left, or_right, cond-true, cond_both, cases_lt, ltb-true, leb-true, lt-leb}
use Rattle.std.proofs.lemmas.List.{drop-append-le, get_or_append_left, get_or-append_right}
use Rattle.page_table.specs.Pages.{Table, Shelf, Lies}
use Rattle.paged_store.specs.declared.extent.Extent.{Extent}
use Rattle.paged_store.specs.Words.{Words}
use Rattle.paged_store.specs.State.{State}
use Rattle.paged_store.specs.inner.Sound.{Sound}
use Rattle.paged_store.specs.inner.Moves.{Stocks}
use Rattle.paged_store.specs.Paged.{Drafted, Paged, state_of, in_spans, in_extents, extents_at, one_if, spare_at, rewound, taken_since, word_before}
use Rattle.paged_store.specs.inner.Fine.{noted, touched_by, FitsTable, Fine}
use Rattle.paged_store.specs.inner.Claiming.{newly, Claims}
use Rattle.paged_store.specs.inner.Taking.{Takes}
use Rattle.paged_store.specs.inner.Writing.{Desk, Wrote, MayWrite}
use Rattle.paged_store.proofs.StateLemmas.{untouched}
use Rattle.paged_store.proofs.EndCalls.{rewound_none}
use Rattle.paged_store.proofs.GrowTakes.{fresh_place}
use Rattle.paged_store.proofs.WriteCall.{Turns, extents_both}

-- ---- one change of a desk after another

or_assoc : (a b c : Bool) → (a || (b || c)) ≡ ((a || b) || c)
or_assoc true b c = refl
or_assoc false b c = refl

or_false : (b : Bool) → (b || false) ≡ b
or_false true = refl
or_false false = refl

-- extents were taken, and then words were written
pub turned_then : (k : ℕ) (w v : Words) (t u : ℕ → Bool) (xs : List Extent) (a b c : Desk) → Turns k w t xs a b →
    Wrote k v u b c
    → Turns k v (λ p. u p || t p) xs a c
turned_then k w v t u xs a b c s h = let r = h.same in record {
  shared = r.shared ∙ s.shared;
  others = λ j n. r.others j n ∙ s.others j n;
  more = (let m = s.more in let e = r.reserved in omega (arith, m, e));
  pages = r.pages ∙ s.pages;
  segments = r.segments ∙ s.segments;
  own = λ j q x. r.own j q (s.own j q x);
  count = λ i. (let m = s.count i in let x = ap (λ (f : ℕ → Shelf). length (f i).spare) r.shelf in
      let y = ap (λ (f : ℕ → Shelf). (f i).total) r.shelf in omega (arith, m, x, y));
  changed = r.changed ∙ s.changed;
  made = r.made ∙ s.made;
  taken_before = r.taken_before ∙ s.taken_before;
  made_before = r.made_before ∙ s.made_before;
  spans_before = r.spans_before ∙ s.spans_before;
  more_spans = s.more_spans ++ r.more_spans;
  spans = r.spans ∙ ap (λ z. z ++ r.more_spans) s.spans ∙ append_assoc a.draft.spans s.more_spans r.more_spans;
  taken = r.taken ∙ s.taken;
  word = h.word;
  before = λ p. h.before p ∙ s.before p;
  places = λ p. h.spans p ∙ ap (λ z. u p || z) (s.places p) ∙ or_assoc (u p) (t p) (in_spans a.draft.spans p);
  fits = λ n f. h.fits n (s.fits n f);
}

-- extents that a draft took since its step began, and some more
pub since_more : (d : Drafted) (ys : List Extent) (p : ℕ) → d.taken_before ≤ length d.taken
    → in_extents (drop d.taken_before (d.taken ++ ys)) p ≡ (in_extents (taken_since d) p || in_extents ys p)
since_more d ys p l = ap (λ xs. in_extents xs p) (drop-append-le d.taken_before d.taken ys l) ∙
    extents_both (taken_since d) ys p

-- ---- what may be written once extents were taken

module _ (k : ℕ) (ys : List Extent) (b c : Desk) (t : Takes k ys b c) (l : b.draft.taken_before ≤ length b.draft.taken)
  where
    since_now : (p : ℕ) → in_extents (taken_since c.draft) p ≡ (in_extents (taken_since b.draft) p || in_extents ys p)
    since_now p = ap (λ (d : Drafted). in_extents (taken_since d) p) t.draft ∙ since_more b.draft ys p l

    pub may_taken : (p : ℕ) → MayWrite k b p → MayWrite k c p
    may_taken p m = record {
      within = (let x = m.within in let y = t.claims.more in omega (arith, x, y));
      own = ap (λ (z : Table). z.own k (p / 512)) t.claims.others ∙ t.grows k (p / 512) m.own;
      known = elim m.known [
        | inl h ↦ inl (ap (λ (d : Drafted). noted d.notes p) t.draft ∙ h)
        | inr h ↦ inr (since_now p ∙ or_left _ _ h)
      ];
    }

    pub may_extent : (p : ℕ) → p < c.table.reserved → in_extents ys p ≡ true → MayWrite k c p
    may_extent p w h = record { within = w; own = t.opened p h; known = inr (since_now p ∙ or_right _ _ h) }

-- ---- a draft that took extents fits

module _ (k n : ℕ) (ys : List Extent) (b c : Desk) (t : Takes k ys b c) (f : FitsTable b.table n k b.draft) where
  extents_lie : (i : ℕ) (x : Extent) → i < length (b.draft.taken ++ ys)
      → Lies (get_or (b.draft.taken ++ ys) i x).class (get_or (b.draft.taken ++ ys) i x).place c.table.reserved
  extents_lie i x l = elim (cases_lt i (length b.draft.taken)) [
    | inl h ↦ subst (λ (z : Extent). Lies z.class z.place c.table.reserved)
        (sym (get_or_append_left b.draft.taken ys x i h))
        (let e = f.taken i x h in record {
          first = e.first;
          even = e.even;
          within =
              (let m = e.within in let y = t.claims.more in omega (arith, m, y));
        })
    | inr h ↦ subst (λ (z : Extent). Lies z.class z.place c.table.reserved)
        (sym (get_or-append_right b.draft.taken ys (length b.draft.taken) i x refl h))
        (t.claims.lie (i - length b.draft.taken) x (omega (arith, h, l, length-append b.draft.taken ys)))
  ]

  extents_have : (i : ℕ) (x : Extent) → i < length (b.draft.taken ++ ys)
      → (1 ≤ (get_or (b.draft.taken ++ ys) i x).class) × ((get_or (b.draft.taken ++ ys) i x).class ≤ 21)
  extents_have i x l = elim (cases_lt i (length b.draft.taken)) [
    | inl h ↦ subst (λ (z : Extent). (1 ≤ z.class) × (z.class ≤ 21)) (sym (get_or_append_left b.draft.taken ys x i h))
        (f.classes i x h)
    | inr h ↦ subst (λ (z : Extent). (1 ≤ z.class) × (z.class ≤ 21))
        (sym (get_or-append_right b.draft.taken ys (length b.draft.taken) i x refl h))
        (t.claims.classes (i - length b.draft.taken) x (omega (arith, h, l, length-append b.draft.taken ys)))
  ]

  pub taken_fits : FitsTable c.table n k c.draft
  taken_fits = subst (λ d. FitsTable c.table n k d) (sym t.draft) (record {
    spans = λ i x l. (let e = f.spans i x l in let y = t.claims.more in omega (arith, e, y));
    taken = extents_lie;
    classes = extents_have;
    notes = λ p h. (let a = f.notes p h in (
      (let m = a.0 in let y = t.claims.more in omega (arith, m, y)),
      ap (λ (z : Table). z.own k (p / 512)) t.claims.others ∙ t.grows k (p / 512) a.1,
    ));
    noted_touched = λ p h. elim (or_cases (in_spans b.draft.spans p) (in_extents b.draft.taken p)
        (f.noted_touched p h)) [
          | inl x ↦ or_left _ _ x
          | inr x ↦ or_right _ _ (extents_both b.draft.taken ys p ∙ or_left _ _ x)
        ];
    holds = f.holds;
    spans_before = f.spans_before;
    taken_before = (let m = f.taken_before in omega (arith, m, length-append b.draft.taken ys));
    made_before = f.made_before;
    once = f.once;
  })

-- ---- extents whose places were nobody's

-- what is spare is nobody's, and so are the places that were taken
pub record Freed (own : Words) (s : State) (e spare : ℕ → ℕ) (reserved : ℕ) : Type 0 where
  pub stocks : Stocks own s spare reserved
  pub once : (p : ℕ) → e p ≤ 1
  pub free : (p : ℕ) → 0 < e p → (own p ≡ 0) × (spare p ≡ 0) × (p < reserved)

one_if_and : (x y : Bool) → 0 < one_if (x && y) → (x ≡ true) × (y ≡ true)
one_if_and true true h = (refl, refl)
one_if_and true false h = absurd (omega arith)
one_if_and false y h = absurd (omega arith)

one_at_most : (b : Bool) → one_if b ≤ 1
one_at_most true = omega arith
one_at_most false = omega arith

module _ (p : Paged) (xs : List Extent) (t u : Table) (c : Claims xs t u)
    (same : (q : ℕ) → spare_at t q ≡ spare_at p.table q)
    (reserved : t.reserved ≡ p.table.reserved) (own role : Words) (g : Sound own role (state_of p)) where
  new_bounds : (q : ℕ) → 0 < one_if (newly t u q) → (p.table.reserved ≤ q) × (q < u.reserved)
  new_bounds q h = (let b = one_if_and (leb t.reserved q) (ltb q u.reserved) h in
      (let l = leb-true t.reserved q b.0 in omega (arith, l, reserved), ltb-true q u.reserved b.1))

  -- a place that is spare now, or was taken, was nobody's
  nobody : (q : ℕ) → 0 < spare_at u q + extents_at xs q →
      (own q ≡ 0) × (spare_at u q + extents_at xs q ≤ 1) × (q < u.reserved)
  unfolding state_of
  nobody q h = elim (cases_lt 0 (spare_at t q)) [
    | inl y ↦ (let e = same q in let s = c.spare q in let o = g.spare_once q in
        let below : q < p.table.reserved = (elim (cases_lt q p.table.reserved) [
          | inl b ↦ b
          | inr b ↦ absurd (let z = (g.beyond q b).1 in omega (arith, y, e, z))
        ]) in
        let none : one_if (newly t u q) ≡ 0 =
        ap (λ b. one_if (b && ltb q u.reserved)) (lt-leb t.reserved q (omega (arith, below, reserved))) in
        let m = c.more in
        (g.spare q (omega (arith, y, e)), omega (arith, e, s, o, none), omega (arith, below, m, reserved)))
    | inr n ↦ (let s = c.spare q in let b = new_bounds q (omega (arith, n, s, h)) in let o =
        one_at_most (newly t u q) in
        ((g.beyond q b.0).0, omega (arith, n, s, o), b.1))
  ]

  pub freed_by : Freed own (state_of p) (extents_at xs) (spare_at u) u.reserved
  unfolding state_of
  freed_by = record {
    stocks = record {
      free = λ q h. (let z = nobody q (omega (arith, h)) in (z.0, z.2));
      once = λ q. elim (cases_lt 0 (spare_at u q)) [
        | inl h ↦ (let z = (nobody q (omega (arith, h))).1 in omega (arith, z))
        | inr h ↦ omega (arith, h)
      ];
      more = (let m = c.more in omega (arith, m, reserved));
    };
    once = λ q. elim (cases_lt 0 (extents_at xs q)) [
      | inl h ↦ (let z = (nobody q (omega (arith, h))).1 in omega (arith, z))
      | inr h ↦ omega (arith, h)
    ];
    free = λ q h. (let z = nobody q (omega (arith, h)) in let o = z.1 in (z.0, omega (arith, o, h), z.2));
  }

-- ---- what taking extents leaves of a desk

module _ (p : Paged) (k : ℕ) (f : Fine p) (w : Words) (t : ℕ → Bool) (ys : List Extent) (mid new : Desk)
    (h : Wrote k w t (record { table = p.table; draft = p.drafts k }) mid) (z : Takes k ys mid new) where
  spare_same : (q : ℕ) → spare_at (record mid.table { own = z.own }) q ≡ spare_at p.table q
  spare_same q = λ i. spare_at (record p.table { shelf = h.same.shelf i }) q

  -- a place that was taken wasn't touched, and has the shared word
  module _ (q : ℕ) (e : in_extents ys q ≡ true) where
    was_free : (own role : Words) → Sound own role (state_of p) → own q ≡ 0
    unfolding state_of
    was_free own role g =
        let r = h.same.reserved in
        elim (fresh_place ys (record mid.table { own = z.own }) new.table q z.claims e) [
          | inl y ↦ g.spare q (let s = spare_same q in omega (arith, y, s))
          | inr y ↦ (g.beyond q (omega (arith, y, r))).0
        ]

    not_touched : (own role : Words) → Sound own role (state_of p) → touched_by (p.drafts k) q ≡ false
    unfolding state_of
    not_touched own role g = untouched own role p.table.shared (state_of p).image ((state_of p).now k) (g.now k) q
        (ap ((state_of p).now k).holds (was_free own role g) ∙ g.held_some k)

    untouched_now : touched_by (p.drafts k) q ≡ false
    untouched_now = false_from_ne_true (touched_by (p.drafts k) q)
        (λ y. ∥∥₁_elim f.sound (λ a b. absurd a) (λ x. both_ways _ (not_touched x.0 x.1.0 x.1.1) y))

    shared_now : p.table.word k q ≡ p.table.shared q
    unfolding state_of
    shared_now = ∥∥₁_elim f.sound (hlevel props) (λ x. (x.1.1.now k).same q untouched_now)

    no_note : noted (p.drafts k).notes q ≡ false
    no_note = false_from_ne_true (noted (p.drafts k).notes q)
        (λ y. both_ways _ untouched_now ((f.fits.drafts k).noted_touched q y))

    before_there : word_before p.table k (p.drafts k) q ≡ p.table.shared q
    before_there = cond_both (in_extents (taken_since (p.drafts k)) q) (p.table.shared q)
        (rewound (p.drafts k).notes (p.table.word k) q)
        (λ x. x ≡ p.table.shared q) (λ _. refl) (λ _. rewound_none (p.drafts k).notes (p.table.word k) q no_note ∙
        shared_now)

  pub mid_before : mid.draft.taken_before ≤ length mid.draft.taken
  mid_before = (let l = (f.fits.drafts k).taken_before in let a = h.same.taken_before in let b =
      ap length h.same.taken in omega (arith, l, a, b))

  table_word : (j : ℕ) → new.table.word j ≡ mid.table.word j
  table_word j = ap (λ (x : Table). x.word j) z.claims.others

  table_shared : new.table.shared ≡ mid.table.shared
  table_shared = ap (λ (x : Table). x.shared) z.claims.others

  before_taken : (q : ℕ) → word_before new.table k new.draft q ≡ word_before mid.table k mid.draft q
  before_taken q =
      (λ i. cond (in_extents (taken_since (z.draft i)) q) (table_shared i q)
      (rewound (z.draft i).notes (table_word k i) q))
      ∙ ap (λ b. cond b (mid.table.shared q) (rewound mid.draft.notes (mid.table.word k) q))
      (since_more mid.draft ys q mid_before)
      ∙ elim (cases_Bool (in_extents ys q)) [
        | inl y ↦ cond-true (in_extents (taken_since mid.draft) q || in_extents ys q) (mid.table.shared q)
            (rewound mid.draft.notes (mid.table.word k) q)
            (or_right _ _ y)
            ∙ ap (λ (x : Words). x q) h.same.shared ∙ sym (before_there q y) ∙ sym (h.before q)
        | inr y ↦ ap (λ b. cond (in_extents (taken_since mid.draft) q || b) (mid.table.shared q)
            (rewound mid.draft.notes (mid.table.word k) q)) y
            ∙ ap (λ b. cond b (mid.table.shared q) (rewound mid.draft.notes (mid.table.word k) q))
            (or_false (in_extents (taken_since mid.draft) q))
      ]

  pub took : Turns k w t ys (record { table = p.table; draft = p.drafts k }) new
  took = let s = h.same in record {
    shared = table_shared ∙ s.shared;
    others = λ j n. table_word j ∙ s.others j n;
    more = (let m = z.claims.more in let e = s.reserved in omega (arith, m, e));
    pages = ap (λ (x : Table). x.pages) z.claims.others ∙ s.pages;
    segments = ap (λ (x : Table). x.segments) z.claims.others ∙ s.segments;
    own = λ j q x. ap (λ (y : Table). y.own j q) z.claims.others ∙ z.grows j q (s.own j q x);
    count = λ c. (let m = z.claims.count c in let x = ap (λ (g : ℕ → Shelf). length (g c).spare) s.shelf in
        let y = ap (λ (g : ℕ → Shelf). (g c).total) s.shelf in omega (arith, m, x, y));
    changed = ap (λ (d : Drafted). d.changed) z.draft ∙ s.changed;
    made = ap (λ (d : Drafted). d.made) z.draft ∙ s.made;
    taken_before = ap (λ (d : Drafted). d.taken_before) z.draft ∙ s.taken_before;
    made_before = ap (λ (d : Drafted). d.made_before) z.draft ∙ s.made_before;
    spans_before = ap (λ (d : Drafted). d.spans_before) z.draft ∙ s.spans_before;
    more_spans = s.more_spans;
    spans = ap (λ (d : Drafted). d.spans) z.draft ∙ s.spans;
    taken = ap (λ (d : Drafted). d.taken) z.draft ∙ ap (λ x. x ++ ys) s.taken;
    word = λ q. ap (λ (x : Words). x q) (table_word k) ∙ h.word q;
    before = λ q. before_taken q ∙ h.before q;
    places = λ q. ap (λ (d : Drafted). in_spans d.spans q) z.draft ∙ h.spans q;
    fits = λ n g. taken_fits k n ys mid new z (h.fits n g);
  }

  -- the places of the extents were nobody's
  pub took_freed : (own role : Words) → Sound own role (state_of p) →
      Freed own (state_of p) (extents_at ys) (spare_at new.table) new.table.reserved
  took_freed own role g = freed_by p ys (record mid.table { own = z.own }) new.table z.claims spare_same
      h.same.reserved own role g
