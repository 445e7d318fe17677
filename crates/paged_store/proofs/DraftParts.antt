-- What a draft that fits a table says of the parts that code takes of it.
use Rattle.std.proofs.Common.{◌≡◌, ℕ, ◌+◌, ◌<◌, ◌≤◌, Bool, true, false, ◌||◌, eqb, List, [], ◌∷◌, length, get_or, take, drop, zero, suc, refl, sym, ◌∙◌, ap, subst, arith}
use Rattle.std.proofs.lemmas.Bool.{or_left, or_right}
use Rattle.std.proofs.lemmas.List.{get_or-drop, length-drop, drop-map, take-append-drop}
use Rattle.py_data.specs.declared.value.Addr.{Addr}
use Rattle.py_data.specs.Collection.{places}
use Rattle.py_data.specs.Sight.{mem}
use Rattle.py_data.proofs.Grow.{mem_append}
use Rattle.seg_store.proofs.Sees.{same_number}
use Rattle.seg_marks.specs.Marks.{Marked}
use Rattle.page_table.specs.Pages.{Table, Shelf, Lies}
use Rattle.paged_store.specs.declared.draft.Draft.{Draft}
use Rattle.paged_store.specs.declared.extent.Span.{Span}
use Rattle.paged_store.specs.declared.extent.Extent.{Extent}
use Rattle.paged_store.specs.declared.extent.Note.{Note}
use Rattle.paged_store.specs.Paged.{drafted, in_spans, in_extents, rewound, taken_since}
use Rattle.paged_store.specs.inner.Fine.{of_class, noted, held_by, touched_by, FitsTable}
use Rattle.paged_store.specs.inner.Ending.{SpansLie, ExtentsLie, HaveClasses, NotesLie, HaveRoom, pushes, restores, with_words, rewinds, GivenBack, among, Released, Shown, made_since}
use Rattle.paged_store.proofs.SpanSteps.{either_of, pushes_twice, restores_twice}
use Rattle.paged_store.proofs.BookSteps.{released_twice}

module _ (t : Table) (n k : ℕ) (d : Draft) (f : FitsTable t n k (drafted d)) where
  pub spans_lie : (xs : List Span) (end : ℕ) → xs ≡ d.spans.items → end ≡ t.reserved → SpansLie end xs
  unfolding drafted
  spans_lie xs end e r = subst (λ z. SpansLie z xs) (sym r) (subst (SpansLie t.reserved) (sym e) f.spans)

  pub extents_lie : (xs : List Extent) (end : ℕ) → xs ≡ d.taken.items → end ≡ t.reserved → ExtentsLie end xs
  unfolding drafted
  extents_lie xs end e r = subst (λ z. ExtentsLie z xs) (sym r) (subst (ExtentsLie t.reserved) (sym e) f.taken)

  pub have_classes : (xs : List Extent) → xs ≡ d.taken.items → HaveClasses xs
  unfolding drafted
  have_classes xs e = subst HaveClasses (sym e) f.classes

  -- the extents from a place on
  pub since_lie : (xs : List Extent) (end : ℕ) → xs ≡ drop d.taken_before d.taken.items → end ≡ t.reserved →
      ExtentsLie end xs
  unfolding drafted
  since_lie xs end e r = subst (λ z. ExtentsLie z xs) (sym r) (subst (ExtentsLie t.reserved) (sym e) (λ i x l.
      subst (λ (y : Extent). Lies y.class y.place t.reserved) (sym (get_or-drop d.taken_before d.taken.items i x))
      (f.taken (d.taken_before + i) x (let m = length-drop d.taken_before d.taken.items in omega (arith, l, m)))))

  pub since_classes : (xs : List Extent) → xs ≡ drop d.taken_before d.taken.items → HaveClasses xs
  unfolding drafted
  since_classes xs e = subst HaveClasses (sym e) (λ i x l.
      subst (λ (y : Extent). (1 ≤ y.class) × (y.class ≤ 21)) (sym (get_or-drop d.taken_before d.taken.items i x))
      (f.classes (d.taken_before + i) x (let m = length-drop d.taken_before d.taken.items in omega (arith, l, m))))

  pub notes_lie : (xs : List Note) → xs ≡ d.notes.items → NotesLie k t xs
  unfolding drafted
  notes_lie xs e = subst (NotesLie k t) (sym e)
      (λ i x l. f.notes (get_or d.notes.items i x).place (noted_place d.notes.items i x l))
    where
      last : (b : Bool) → (b || true) ≡ true
      last true = refl
      last false = refl

      noted_place : (xs : List Note) (i : ℕ) (x : Note) → i < length xs → noted xs (get_or xs i x).place ≡ true
      noted_place [] i x l = absurd (omega arith)
      noted_place (y ∷ ys) zero x l = ap (λ b. b || noted ys y.place) (same_number y.place)
      noted_place (y ∷ ys) (suc i) x l =
          ap (λ b. eqb (get_or ys i x).place y.place || b) (noted_place ys i x (omega (arith, l))) ∙
          last (eqb (get_or ys i x).place y.place)

  -- the addresses of its records are within
  pub changed_within : (xs : List Addr) (m : ℕ) → xs ≡ d.changed → m ≡ n → (a : ℕ) → mem a (places xs) ≡ true → a < m
  unfolding drafted
  changed_within xs m e r a h = subst (λ z. a < z) (sym r)
      (f.holds a (or_left _ _ (ap (λ ys. mem a (places ys)) (sym e) ∙ h)))

  pub made_within : (xs : List Addr) (m : ℕ) → xs ≡ d.made → m ≡ n → (a : ℕ) → mem a (places xs) ≡ true → a < m
  unfolding drafted
  made_within xs m e r a h = subst (λ z. a < z) (sym r)
      (f.holds a (or_right _ _ (ap (λ ys. mem a (places ys)) (sym e) ∙ h)))

  pub since_within : (xs : List Addr) (m : ℕ) → xs ≡ drop d.made_before d.made → m ≡ n → (a : ℕ) →
      mem a (places xs) ≡ true → a < m
  unfolding drafted
  since_within xs m e r a h = subst (λ z. a < z) (sym r) (f.holds a (or_right _ _ (
      ap (mem a) (sym (take-append-drop d.made_before (places d.made))) ∙
      mem_append a (take d.made_before (places d.made)) (drop d.made_before (places d.made))
      ∙ or_right _ _ (ap (mem a) (drop-map (λ (x : Addr). x.0) d.made_before d.made) ∙
      ap (λ ys. mem a (places ys)) (sym e) ∙ h))))

-- ---- what was done with them

pub published_table : (t u v : Table) (k : ℕ) (d : Draft) (xs : List Span) (ys : List Extent) → xs ≡ d.spans.items →
    ys ≡ d.taken.items
    → u ≡ pushes k (in_spans xs) t → v ≡ pushes k (in_extents ys) u → v ≡ pushes k (touched_by (drafted d)) t
unfolding drafted
published_table t u v k d xs ys e f a b = b ∙ ap (pushes k (in_extents ys)) a ∙
    pushes_twice k (in_spans xs) (in_extents ys) t
    ∙ (λ i. pushes k (either_of (in_spans (e i)) (in_extents (f i))) t)

pub restored_table : (t u v : Table) (k : ℕ) (d : Draft) (xs : List Span) (ys : List Extent) → xs ≡ d.spans.items →
    ys ≡ d.taken.items
    → u ≡ restores k (in_spans xs) t → v ≡ restores k (in_extents ys) u → v ≡ restores k (touched_by (drafted d)) t
unfolding drafted
restored_table t u v k d xs ys e f a b = b ∙ ap (restores k (in_extents ys)) a ∙
    restores_twice k (in_spans xs) (in_extents ys) t
    ∙ (λ i. restores k (either_of (in_spans (e i)) (in_extents (f i))) t)

pub rewound_table : (t u v : Table) (k : ℕ) (d : Draft) (xs : List Note) (ys : List Extent) → xs ≡ d.notes.items →
    ys ≡ drop d.taken_before d.taken.items
    → u ≡ with_words k (rewound xs (t.word k)) t → v ≡ restores k (in_extents ys) u → v ≡ rewinds k (drafted d) t
unfolding drafted
rewound_table t u v k d xs ys e f a b = b ∙ ap (restores k (in_extents ys)) a ∙
    (λ i. restores k (in_extents (f i)) (with_words k (rewound (e i) (t.word k)) t))

pub released_both : (d : Draft) (ns bs : List Addr) (hs us vs : Marked) → ns ≡ d.changed → bs ≡ d.made →
    Released (among (places ns)) hs us → Released (among (places bs)) us vs
    → Released (held_by (drafted d)) hs vs
unfolding drafted
released_both d ns bs hs us vs e f p q =
    subst (λ g. Released g hs vs) (λ i a. mem a (places (e i)) || mem a (places (f i)))
    (released_twice (among (places ns)) (among (places bs)) hs us vs p q)

pub shown_made : (d : Draft) (ns : List Addr) (ps qs : List Bool) → ns ≡ d.made → Shown (among (places ns)) ps qs →
    Shown (among (drafted d).made) ps qs
unfolding drafted
shown_made d ns ps qs e p = subst (λ xs. Shown (among (places xs)) ps qs) e p

pub released_since : (d : Draft) (ns : List Addr) (hs us : Marked) → ns ≡ drop d.made_before d.made →
    Released (among (places ns)) hs us → Released (among (made_since (drafted d))) hs us
unfolding drafted
released_since d ns hs us e p = subst (λ xs. Released (among xs) hs us)
    (ap places e ∙ sym (drop-map (λ (x : Addr). x.0) d.made_before d.made)) p

pub given_taken : (d : Draft) (xs : List Extent) (t u v : Table) → xs ≡ d.taken.items → u ≡ t → GivenBack xs u v →
    GivenBack (drafted d).taken t v
unfolding drafted
given_taken d xs t u v e a g = subst (λ w. GivenBack d.taken.items w v) a (subst (λ ys. GivenBack ys u v) e g)

pub given_since : (d : Draft) (xs : List Extent) (t u v : Table) → xs ≡ drop d.taken_before d.taken.items → u ≡ t →
    GivenBack xs u v → GivenBack (taken_since (drafted d)) t v
unfolding drafted
given_since d xs t u v e a g = subst (λ w. GivenBack (drop d.taken_before d.taken.items) w v) a
    (subst (λ ys. GivenBack ys u v) e g)

-- the shelves are as they were until then
pub room_taken : (d : Draft) (xs : List Extent) (t u : Table) → xs ≡ d.taken.items → u.shelf ≡ t.shelf →
    HaveRoom (drafted d).taken t → HaveRoom xs u
unfolding drafted
room_taken d xs t u e a r = λ c. subst (λ ys. of_class c ys + length (u.shelf c).spare ≤ (u.shelf c).total) (sym e)
    (subst (λ (f : ℕ → Shelf). of_class c d.taken.items + length (f c).spare ≤ (f c).total) (sym a) (r c))

pub room_since : (d : Draft) (xs : List Extent) (t u : Table) → xs ≡ drop d.taken_before d.taken.items →
    u.shelf ≡ t.shelf → HaveRoom (taken_since (drafted d)) t → HaveRoom xs u
unfolding drafted
room_since d xs t u e a r = λ c. subst (λ ys. of_class c ys + length (u.shelf c).spare ≤ (u.shelf c).total) (sym e)
    (subst (λ (f : ℕ → Shelf). of_class c (drop d.taken_before d.taken.items) + length (f c).spare ≤ (f c).total)
    (sym a) (r c))
