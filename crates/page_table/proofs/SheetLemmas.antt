-- The pages of a segment's own, and the words over the shared ones, as they change.
use Rattle.std.proofs.Common.{◌≡◌, ℕ, ◌+◌, ◌-◌, ◌*◌, ◌/◌, ◌%◌, ◌<◌, ◌≤◌, ◌++◌, true, false, List, [], ◌∷◌, length, get_or, set, zero, suc, Option, Some, None, is_some, refl, sym, ◌∙◌, ap, subst, inl, inr, ◌⊎◌, arith}
use Rattle.std.proofs.lemmas.List.{get_or-set_same, get_or-set_other, get_or_default, get_or_past}
use Rattle.std.proofs.lemmas.Bool.Decides.{eqb_tells, leb_tells}
use Rattle.std.proofs.lemmas.Option.{get_or_from_slice_get, unwrap_or-slice_get}
use Rattle.std.proofs.lemmas.List.Edits.{length-between}
use Rattle.std.specs.List.{slice_range, slice_get}
use Rattle.std.specs.Option.{unwrap_or}
use Rattle.page_table.specs.Pages.{put, over}
use Rattle.page_table.specs.Lists.{Sheet, word_at, word_in, sheet_in, word_over, has_page, IsRun}
use Rattle.page_table.proofs.Spans.{put_here, put_elsewhere, same_at_all, in_or_out, over_in, over_out, over_same, over_then, word_at_slice_range}

pub sheet_in_set : (pages : List (Option (List ℕ))) (q : ℕ) (page : Option (List ℕ)) → q < length pages
    → sheet_in (set pages q page) ≡ put q page (sheet_in pages)
unfolding sheet_in
sheet_in_set pages q page within = same_at_all _ _ (λ r. elim (eqb_tells r q) [
  | inl h ↦ rw (h.0, h.1) (get_or-set_same pages q page None within)
  | inr h ↦ rw h.0 (get_or-set_other pages q r page None h.1)
])

pub sheet_in_none : (pages : List (Option (List ℕ))) → sheet_in (pages ++ None ∷ []) ≡ sheet_in pages
unfolding sheet_in
sheet_in_none pages = same_at_all _ _ (λ q. go pages q)
  where
    go : (pages : List (Option (List ℕ))) (q : ℕ) → get_or (pages ++ None ∷ []) q None ≡ get_or pages q None
    go [] zero = refl
    go [] (suc q) = refl
    go (p ∷ pages) zero = refl
    go (p ∷ pages) (suc q) = go pages q

-- the page of a number, from a read of it
pub read_page : (pages : List (Option (List ℕ))) (q : ℕ) (x : Option (List ℕ)) → q < length pages
    → x ≡ get_or pages q x → sheet_in pages q ≡ x
unfolding sheet_in
read_page pages q x within read = get_or_default pages q None x within ∙ sym read

has_within : (pages : List (Option (List ℕ))) (q : ℕ) → has_page (sheet_in pages) q ≡ true → q < length pages
unfolding sheet_in has_page
has_within pages q has = elim (leb_tells (suc q) (length pages)) [
  | inl a ↦ omega (arith, a.1)
  | inr a ↦ let past : false ≡ true = sym (ap is_some (get_or_past pages q None (omega (arith, a.1))))
      ∙ has in absurd (cc)
]

pub has_no_none : (sheet : Sheet) (q : ℕ) → sheet q ≡ None → has_page sheet q ≡ true → ⊥
unfolding has_page
has_no_none sheet q e has = let k : false ≡ true = sym (ap is_some e) ∙ has in cc

pub lacks_page : (sheet : Sheet) (q : ℕ) → has_page sheet q ≡ false → sheet q ≡ None
unfolding has_page
lacks_page sheet q e = go (sheet q) e
  where
    go : (o : Option (List ℕ)) → is_some o ≡ false → o ≡ None
    go None e = refl
    go (Some x) e = absurd (cc)

pub own_opened : (sheet : Sheet) (q : ℕ) (page : List ℕ)
    → has_page (put q (Some page) sheet) ≡ put q true (has_page sheet)
unfolding has_page
own_opened sheet q page = same_at_all _ _ (λ r. elim (eqb_tells r q) [ inl h ↦ rw h.0 refl | inr h ↦ rw h.0 refl ])

pub own_again : (sheet : Sheet) (q : ℕ) → has_page sheet q ≡ true → has_page sheet ≡ put q true (has_page sheet)
own_again sheet q has =
    same_at_all _ _ (λ r. elim (eqb_tells r q) [ inl h ↦ rw (h.0, h.1, has) refl | inr h ↦ rw h.0 refl ])

pub own_changed : (sheet : Sheet) (q : ℕ) (old page : List ℕ) → sheet q ≡ Some old
    → has_page (put q (Some page) sheet) ≡ has_page sheet
unfolding has_page
own_changed sheet q old page was =
    same_at_all _ _ (λ r. elim (eqb_tells r q) [ inl h ↦ rw (h.0, h.1, was) refl | inr h ↦ rw h.0 refl ])

-- a page of a segment's own that is another now, from a read of it
pub record PageChanged (view pages : List (Option (List ℕ))) (q : ℕ) (old page : List ℕ) : Type 0 where
  pub was : sheet_in view q ≡ Some old
  pub sheet : sheet_in (set pages q (Some page)) ≡ put q (Some page) (sheet_in view)
  pub own : has_page (sheet_in (set pages q (Some page))) ≡ has_page (sheet_in view)

-- of pages that are seen as a list, one of a segment's own: it is there by a read, and may be changed
module _ (view pages : List (Option (List ℕ))) (q : ℕ) (same : pages ≡ view) (has : has_page (sheet_in view) q ≡ true)
  where
    has_here : has_page (sheet_in pages) q ≡ true
    has_here = subst (λ v. has_page (sheet_in v) q ≡ true) (sym same) has

    pub own_within : q < length pages
    own_within = has_within pages q has_here

    pub own_there : (x : Option (List ℕ)) → x ≡ get_or pages q x → x ≡ None → ⊥
    own_there x read none =
        has_no_none (sheet_in pages) q (read_page pages q x own_within read ∙ none) has_here

    pub own_written : (x : Option (List ℕ)) (old page : List ℕ) → x ≡ get_or pages q x → x ≡ Some old →
        PageChanged view pages q old page
    own_written x old page read is =
        let was : sheet_in pages q ≡ Some old = read_page pages q x own_within read ∙ is in
        let sheet : sheet_in (set pages q (Some page)) ≡ put q (Some page) (sheet_in pages) =
        sheet_in_set pages q (Some page) own_within in
        subst (λ v. PageChanged v pages q old page) same
        (record { was = was; sheet = sheet; own = ap has_page sheet ∙ own_changed (sheet_in pages) q old page was })

-- the word at a place that is in page q, and at one that isn't
pub word_of_page : (sheet : Sheet) (below : ℕ → ℕ) (p : ℕ) (o : Option (List ℕ)) → sheet (p / 512) ≡ o
    → word_over sheet below p ≡ word_in o (p % 512) (below p)
unfolding word_over
word_of_page sheet below p o e = ap (λ x. word_in x (p % 512) (below p)) e

-- the word at a place further on in the same page
pub word_further : (sheet : Sheet) (below : ℕ → ℕ) (p n : ℕ) (o : Option (List ℕ)) → p % 512 + n < 512
    → sheet (p / 512) ≡ o → word_over sheet below (p + n) ≡ word_in o (p % 512 + n) (below (p + n))
word_further sheet below p n o within e =
    word_of_page sheet below (p + n) o
    (ap sheet (let q : (p + n) / 512 ≡ p / 512 = omega (arith, within) in q) ∙ e)
    ∙ ap (λ i. word_in o i (below (p + n)))
    (let i : (p + n) % 512 ≡ p % 512 + n = omega (arith, within) in i)

word_of_other : (sheet : Sheet) (q : ℕ) (page : Option (List ℕ)) (below : ℕ → ℕ) (p : ℕ) → (p / 512 ≡ q → ⊥)
    → word_over (put q page sheet) below p ≡ word_over sheet below p
unfolding word_over
word_of_other sheet q page below p ne =
    ap (λ x. word_in x (p % 512) (below p)) (put_elsewhere q (p / 512) page sheet ne)

-- a page that was made a segment's own, with the words below
pub words_opened : (sheet : Sheet) (q : ℕ) (page : List ℕ) (below : ℕ → ℕ) → sheet q ≡ None
    → ((i : ℕ) → i < 512 → word_at page i ≡ below (512 * q + i))
    → word_over (put q (Some page) sheet) below ≡ word_over sheet below
words_opened sheet q page below was now = same_at_all _ _ (λ p. elim (eqb_tells (p / 512) q) [
  | inl h ↦ word_of_page (put q (Some page) sheet) below p (Some page) (put_here q (p / 512) (Some page) sheet h.1)
      ∙ now (p % 512) (omega arith) ∙ ap below (let k : p / 512 ≡ q = h.1 in omega arith)
      ∙ sym (word_of_page sheet below p None (ap sheet h.1 ∙ was))
  | inr h ↦ word_of_other sheet q (Some page) below p h.1
])

-- a page of which one word was put
pub words_put : (sheet : Sheet) (place w : ℕ) (old page : List ℕ) (below : ℕ → ℕ) → sheet (place / 512) ≡ Some old
    → word_at page ≡ put (place % 512) w (word_at old)
    → word_over (put (place / 512) (Some page) sheet) below ≡ put place w (word_over sheet below)
words_put sheet place w old page below was now = same_at_all _ _ (λ p. elim (eqb_tells (p / 512) (place / 512)) [
  | inl h ↦ word_of_page (put (place / 512) (Some page) sheet) below p (Some page)
      (put_here (place / 512) (p / 512) (Some page) sheet h.1) ∙ ap (λ f. f (p % 512)) now
      ∙ elim (eqb_tells p place) [
        | inl g ↦ put_here (place % 512) (p % 512) w (word_at old) (ap (λ x. x % 512) g.1)
            ∙ sym (put_here place p w (word_over sheet below) g.1)
        | inr g ↦ put_elsewhere (place % 512) (p % 512) w (word_at old) (λ e. g.1 (same_place p place h.1 e))
            ∙ sym (word_of_page sheet below p (Some old) (ap sheet h.1 ∙ was))
            ∙ sym (put_elsewhere place p w (word_over sheet below) g.1)
      ]
  | inr h ↦ word_of_other sheet (place / 512) (Some page) below p h.1
      ∙ sym (put_elsewhere place p w (word_over sheet below) (λ e. h.1 (ap (λ x. x / 512) e)))
])
  where
    same_place : (p q : ℕ) → p / 512 ≡ q / 512 → p % 512 ≡ q % 512 → p ≡ q
    same_place p q e f = omega arith

-- a page of which two words were put, the first at an even place
pub words_put_two : (sheet : Sheet) (place v w : ℕ) (old page : List ℕ) (below : ℕ → ℕ) → place % 2 ≡ 0
    → sheet (place / 512) ≡ Some old → word_at page ≡ put (place % 512 + 1) w (put (place % 512) v (word_at old))
    → word_over (put (place / 512) (Some page) sheet) below
    ≡ put (place + 1) w (put place v (word_over sheet below))
words_put_two sheet place v w old page below even was now =
    same_at_all _ _ (λ p. elim (eqb_tells (p / 512) (place / 512)) [
      | inl h ↦ word_of_page (put (place / 512) (Some page) sheet) below p (Some page)
          (put_here (place / 512) (p / 512) (Some page) sheet h.1) ∙ ap (λ f. f (p % 512)) now
          ∙ here p h.1
      | inr h ↦ word_of_other sheet (place / 512) (Some page) below p h.1
          ∙ sym (put_elsewhere place p v (word_over sheet below) (λ e. h.1 (ap (λ x. x / 512) e)))
          ∙ sym (put_elsewhere (place + 1) p w (put place v (word_over sheet below))
          (λ e. h.1 (let q : p / 512 ≡ place / 512 = omega (arith, e, even) in q)))
    ])
  where
    here : (p : ℕ) → p / 512 ≡ place / 512
        → put (place % 512 + 1) w (put (place % 512) v (word_at old)) (p % 512)
        ≡ put (place + 1) w (put place v (word_over sheet below)) p
    here p same = elim (eqb_tells p (place + 1)) [
      | inl a ↦ put_here (place % 512 + 1) (p % 512) w (put (place % 512) v (word_at old)) (omega (arith, a.1, even))
          ∙ sym (put_here (place + 1) p w (put place v (word_over sheet below)) a.1)
      | inr a ↦ put_elsewhere (place % 512 + 1) (p % 512) w (put (place % 512) v (word_at old))
          (λ e. a.1 (omega (arith, e, same, even)))
          ∙ elim (eqb_tells p place) [
            | inl b ↦ put_here (place % 512) (p % 512) v (word_at old) (ap (λ x. x % 512) b.1)
                ∙ sym (put_here place p v (word_over sheet below) b.1)
            | inr b ↦ put_elsewhere (place % 512) (p % 512) v (word_at old) (λ e. b.1 (omega (arith, e, same)))
                ∙ sym (word_of_page sheet below p (Some old) (ap sheet same ∙ was))
                ∙ sym (put_elsewhere place p v (word_over sheet below) b.1)
          ]
          ∙ sym (put_elsewhere (place + 1) p w (put place v (word_over sheet below)) a.1)
    ]

-- a page of which a part was put
pub words_copied : (sheet : Sheet) (place n : ℕ) (old page : List ℕ) (f : ℕ → ℕ) (below : ℕ → ℕ)
    → place % 512 + n ≤ 512 → sheet (place / 512) ≡ Some old
    → word_at page ≡ over (place % 512) n (λ i. f (i - place % 512)) (word_at old)
    → word_over (put (place / 512) (Some page) sheet) below ≡ over place n (λ p. f (p - place))
    (word_over sheet below)
words_copied sheet place n old page f below within was now =
    same_at_all _ _ (λ p. elim (eqb_tells (p / 512) (place / 512)) [
      | inl h ↦ word_of_page (put (place / 512) (Some page) sheet) below p (Some page)
          (put_here (place / 512) (p / 512) (Some page) sheet h.1) ∙ ap (λ f. f (p % 512)) now
          ∙ elim (in_or_out place n p) [
            | inl g ↦ over_in (place % 512) n (λ i. f (i - place % 512)) (word_at old) (p % 512)
                (omega (arith, h.1, g.1))
                (omega (arith, h.1, g.1, g.2)) ∙ ap f (omega (arith, h.1, g.1))
                ∙ sym (over_in place n (λ p. f (p - place)) (word_over sheet below) p g.1 g.2)
            | inr g ↦ over_out (place % 512) n (λ i. f (i - place % 512)) (word_at old) (p % 512) (outside p h.1 g.1)
                ∙ sym (word_of_page sheet below p (Some old) (ap sheet h.1 ∙ was))
                ∙ sym (over_out place n (λ p. f (p - place)) (word_over sheet below) p g.1)
          ]
      | inr h ↦ word_of_other sheet (place / 512) (Some page) below p h.1
          ∙ sym (over_out place n (λ p. f (p - place)) (word_over sheet below) p (elsewhere p h.1))
    ])
  where
    outside : (p : ℕ) → p / 512 ≡ place / 512 → (p < place) ⊎ (place + n ≤ p)
        → (p % 512 < place % 512) ⊎ (place % 512 + n ≤ p % 512)
    outside p e (inl a) = inl (omega (arith, e, a))
    outside p e (inr a) = inr (omega (arith, e, a))

    elsewhere : (p : ℕ) → (p / 512 ≡ place / 512 → ⊥) → (p < place) ⊎ (place + n ≤ p)
    elsewhere p ne = elim (leb_tells place p) [
      | inl a ↦ elim (leb_tells (place + n) p) [
        | inl b ↦ inr b.1
        | inr b ↦
            absurd (ne (omega (arith, a.1, b.1, within)))
      ]
      | inr a ↦ inl a.1
    ]

-- a part of a page that isn't a segment's own has the words below
pub words_below : (sheet : Sheet) (place n : ℕ) (below : ℕ → ℕ) → place % 512 + n ≤ 512 → sheet (place / 512) ≡ None
    → (p : ℕ) → place ≤ p → p < place + n → word_over sheet below p ≡ below p
words_below sheet place n below within lacks p a b =
    word_of_page sheet below p None
    (ap sheet (let e : p / 512 ≡ place / 512 = omega (arith, a, b, within) in e) ∙ lacks)

-- a part of a page of its own
pub words_of_part : (sheet : Sheet) (place n : ℕ) (below : ℕ → ℕ) (page : List ℕ) → place % 512 + n ≤ 512
    → sheet (place / 512) ≡ Some page → (i : ℕ) → i < n
    → word_at (slice_range page (place % 512) (place % 512 + n)) i ≡ word_over sheet below (place + i)
words_of_part sheet place n below page within is i small =
    word_at_slice_range page (place % 512) (place % 512 + n) i (omega (arith, small))
    ∙ ap (word_at page) (omega (arith, small, within))
    ∙ sym (word_of_page sheet below (place + i) (Some page)
    (ap sheet (let e : (place + i) / 512 ≡ place / 512 = omega (arith, small, within) in e) ∙ is))

-- as a list of its own, or of the words below where there is no such page
pub run_of_page : (sheet : Sheet) (place n : ℕ) (below : ℕ → ℕ) (page ws : List ℕ) → place % 512 + n ≤ 512
    → sheet (place / 512) ≡ Some page → ws ≡ slice_range page (place % 512) (place % 512 + n) → length ws ≡ n
    → IsRun (word_over sheet below) place n ws
run_of_page sheet place n below page ws within is e len = record {
  count = len;
  each = λ i h. ap (λ z. word_at z i) e ∙ words_of_part sheet place n below page within is i h;
}

pub run_below : (sheet : Sheet) (place n : ℕ) (shared : List ℕ) → place % 512 + n ≤ 512
    → place + n ≤ length shared → sheet (place / 512) ≡ None
    → IsRun (word_over sheet (word_at shared)) place n (slice_range shared place (place + n))
run_below sheet place n shared within inside lacks = record {
  count = length-between shared place (place + n) inside ∙ omega arith;
  each = λ i h. word_at_slice_range shared place (place + n) i (omega (arith, h))
      ∙ sym (words_below sheet place n (word_at shared) within lacks (place + i) (omega arith) (omega (arith, h)));
}

pub found_page : (pages : List (Option (List ℕ))) (q : ℕ) (o : Option (List ℕ)) → slice_get pages q ≡ Some o
    → sheet_in pages q ≡ o
unfolding sheet_in
found_page pages q o e = get_or_from_slice_get pages q o None e

pub found_none : (pages : List (Option (List ℕ))) (q : ℕ) → slice_get pages q ≡ None → sheet_in pages q ≡ None
unfolding sheet_in
found_none pages q e = sym (unwrap_or-slice_get pages q None) ∙ ap (λ o. unwrap_or o None) e

-- a part of a page of its own that is copied into the words below
pub shared_part : (sheet : Sheet) (place n : ℕ) (below h : ℕ → ℕ) (page ws : List ℕ) → place % 512 + n ≤ 512
    → sheet (place / 512) ≡ Some page → ws ≡ slice_range page (place % 512) (place % 512 + n) → length ws ≡ n
    → over place (length ws) (λ p. word_at ws (p - place)) h ≡ over place n (word_over sheet below) h
shared_part sheet place n below h page ws within is e len =
    ap (λ m. over place m (λ p. word_at ws (p - place)) h) len
    ∙ over_same place n _ _ h
    (λ p a b. ap (λ z. word_at z (p - place)) e
    ∙ words_of_part sheet place n below page within is (p - place) (omega (arith, a, b))
    ∙ ap (word_over sheet below) (omega (arith, a)))

-- the word that is seen depends on the word below at that place alone
pub word_seen : (sheet : Sheet) (f g : ℕ → ℕ) (p : ℕ) → f p ≡ g p → word_over sheet f p ≡ word_over sheet g p
unfolding word_over
word_seen sheet f g p e = ap (λ x. word_in (sheet (p / 512)) (p % 512) x) e

-- one part more is copied into the words below
pub share_more : (sheet : Sheet) (place done size : ℕ) (now old : ℕ → ℕ)
    → now ≡ over place done (word_over sheet old) old
    → over (place + done) size (word_over sheet now) now ≡ over place (done + size) (word_over sheet old) old
share_more sheet place done size now old e =
    over_same (place + done) size (word_over sheet now) (word_over sheet old) now
    (λ p a b. word_seen sheet now old p
    (ap (λ f. f p) e ∙ over_out place done (word_over sheet old) old p (inr a)))
    ∙ ap (over (place + done) size (word_over sheet old)) e ∙ over_then place done size (word_over sheet old) old

-- what a segment sees once the words below have those of a span, and its own pages too
pub push_seen : (sheet : Sheet) (place n : ℕ) (f g h : ℕ → ℕ) → h ≡ over place n f g
    → over place n h (word_over sheet h) ≡ over place n f (word_over sheet g)
push_seen sheet place n f g h e = same_at_all _ _ (λ p. elim (in_or_out place n p) [
  | inl k ↦ over_in place n h (word_over sheet h) p k.1 k.2 ∙ ap (λ z. z p) e ∙ over_in place n f g p k.1 k.2
      ∙ sym (over_in place n f (word_over sheet g) p k.1 k.2)
  | inr k ↦ over_out place n h (word_over sheet h) p k.1
      ∙ word_seen sheet h g p (ap (λ z. z p) e ∙ over_out place n f g p k.1)
      ∙ sym (over_out place n f (word_over sheet g) p k.1)
])
