-- Functions of places that are changed at one place, or in a span; and words of lists that are.
use Rattle.std.proofs.Common.{◌≡◌, ℕ, ◌+◌, ◌-◌, ◌<◌, ◌≤◌, ◌++◌, Bool, true, false, List, length, get_or, take, drop, set, min, ◌*◌, replicate, zero, suc, refl, sym, ◌∙◌, ap, inl, inr, ◌⊎◌, cond, ltb, arith}
use Rattle.std.proofs.lemmas.List.{get_or-set_same, get_or-set_other, get_or-take, get_or-drop, get_or_append_left, get_or-append_right, get_or_past, length-take-le, take_at, take_all}
use Rattle.std.proofs.lemmas.List.Edits.{get_or-between, length-between}
use Rattle.std.proofs.lemmas.Bool.Decides.{eqb_tells, leb_tells}
use Rattle.std.specs.List.{slice_range}
use borrow.Rule.Slice.PartMut.{put_mid}
use Rattle.page_table.specs.Pages.{put, in_span, over}
use Rattle.page_table.specs.Lists.{word_at}

pub put_here : {A : Type 0} (n m : ℕ) (x : A) (f : ℕ → A) → m ≡ n → put n x f m ≡ x
put_here n m x f e = elim (eqb_tells m n) [ inl h ↦ rw h.0 refl | inr h ↦ absurd (h.1 e) ]

pub put_elsewhere : {A : Type 0} (n m : ℕ) (x : A) (f : ℕ → A) → (m ≡ n → ⊥) → put n x f m ≡ f m
put_elsewhere n m x f ne = elim (eqb_tells m n) [ inl h ↦ absurd (ne h.1) | inr h ↦ rw h.0 refl ]

-- two functions that agree everywhere are one
pub same_at_all : {A : Type 0} (f g : ℕ → A) → ((p : ℕ) → f p ≡ g p) → f ≡ g
same_at_all f g h = λ i p. h p i

pub put_itself : {A : Type 0} (f : ℕ → A) (k : ℕ) → put k (f k) f ≡ f
put_itself f k = same_at_all _ _ (λ j. elim (eqb_tells j k) [ inl h ↦ rw (h.0, h.1) refl | inr h ↦ rw h.0 refl ])

-- a place is in a span, or before it or behind it
pub in_or_out : (place n p : ℕ)
    → ((in_span place n p ≡ true) × (place ≤ p) × (p < place + n)) ⊎
    ((in_span place n p ≡ false) × ((p < place) ⊎ (place + n ≤ p)))
in_or_out place n p = elim (leb_tells place p) [
  | inl a ↦ elim (leb_tells (suc p) (place + n)) [
    | inl b ↦ inl (rw (a.0, b.0) refl, a.1, b.1)
    | inr b ↦ inr (rw (a.0, b.0) refl, inr (omega (arith, b.1)))
  ]
  | inr a ↦ inr (rw a.0 refl, inl a.1)
]

pub over_in : (place n : ℕ) (f g : ℕ → ℕ) (p : ℕ) → place ≤ p → p < place + n → over place n f g p ≡ f p
over_in place n f g p a b = elim (in_or_out place n p) [
  | inl h ↦ rw h.0 refl
  | inr h ↦ absurd (elim h.1 [ inl x ↦ omega (arith, x, a) | inr x ↦ omega (arith, x, b) ])
]

pub over_out : (place n : ℕ) (f g : ℕ → ℕ) (p : ℕ) → (p < place) ⊎ (place + n ≤ p) → over place n f g p ≡ g p
over_out place n f g p o = elim (in_or_out place n p) [
  | inl h ↦ absurd (elim o [ inl x ↦ omega (arith, x, h.1) | inr x ↦ omega (arith, x, h.2) ])
  | inr h ↦ rw h.0 refl
]

-- a span of no places
pub over_none : (place : ℕ) (f g : ℕ → ℕ) → g ≡ over place 0 f g
over_none place f g = same_at_all _ _ (λ p. sym (over_out place 0 f g p (out p)))
  where
    out : (p : ℕ) → (p < place) ⊎ (place + 0 ≤ p)
    out p = elim (leb_tells place p) [ inl a ↦ inr (omega (arith, a.1)) | inr a ↦ inl a.1 ]

pub over_itself : (place n : ℕ) (f : ℕ → ℕ) → over place n f f ≡ f
over_itself place n f = same_at_all _ _ (λ p. elim (in_or_out place n p) [ inl h ↦ rw h.0 refl | inr h ↦ rw h.0 refl ])

-- a span, and one that begins where it ends
pub over_then : (place i n : ℕ) (f g : ℕ → ℕ) → over (place + i) n f (over place i f g) ≡ over place (i + n) f g
over_then place i n f g = same_at_all _ _ (λ p. at p)
  where
    past : (p : ℕ) → (p < place + i) ⊎ (place + i + n ≤ p) → (p < place) ⊎ (place + i ≤ p)
        → (p < place) ⊎ (place + (i + n) ≤ p)
    past p (inl a) (inl b) = inl b
    past p (inl a) (inr b) = absurd (omega (arith, a, b))
    past p (inr a) o = inr (omega (arith, a))

    at : (p : ℕ) → over (place + i) n f (over place i f g) p ≡ over place (i + n) f g p
    at p = elim (in_or_out (place + i) n p) [
      | inl h ↦ rw h.0 (sym (over_in place (i + n) f g p (omega (arith, h.1)) (omega (arith, h.2))))
      | inr h ↦ rw h.0 (elim (in_or_out place i p) [
        | inl k ↦ rw k.0 (sym (over_in place (i + n) f g p k.1 (omega (arith, k.2))))
        | inr k ↦ rw k.0 (sym (over_out place (i + n) f g p (past p h.1 k.1)))
      ])
    ]

-- words that were copied over others, from a place on
pub word_at_put_mid : (at k : ℕ) (xs ys : List ℕ) → at + k ≤ length xs → length ys ≡ k
    → word_at (put_mid at k xs ys) ≡ over at k (λ p. word_at ys (p - at)) (word_at xs)
unfolding word_at
word_at_put_mid at k xs ys within len = same_at_all _ _ (λ p. here p)
  where
    front : length (take at xs) ≡ at
    front = length-take-le at xs (omega (arith, within))

    rest : (q : ℕ) → get_or (ys ++ drop k (drop at xs)) q 0 ≡ cond (ltb q k) (get_or ys q 0) (get_or xs (at + q) 0)
    rest q = elim (leb_tells (suc q) k) [
      | inl a ↦ rw a.0 (get_or_append_left ys (drop k (drop at xs)) 0 q (omega (arith, a.1, len)))
      | inr a ↦ rw a.0 (get_or-append_right ys (drop k (drop at xs)) k q 0 len (omega (arith, a.1))
          ∙ get_or-drop k (drop at xs) (q - k) 0 ∙ get_or-drop at xs (k + (q - k)) 0
          ∙ ap (λ x. get_or xs x 0) (omega (arith, a.1)))
    ]

    here : (p : ℕ) → get_or (put_mid at k xs ys) p 0 ≡ over at k (λ p. get_or ys (p - at) 0) (λ p. get_or xs p 0) p
    here p = elim (leb_tells at p) [
      | inl a ↦ get_or-append_right (take at xs) (ys ++ drop k (drop at xs)) at p 0 front a.1 ∙ rest (p - at)
          ∙ elim (leb_tells (suc (p - at)) k) [
            | inl b ↦ rw b.0 (sym
                (over_in at k (λ p. get_or ys (p - at) 0) (λ p. get_or xs p 0) p a.1 (omega (arith, a.1, b.1))))
            | inr b ↦ rw b.0 (ap (λ x. get_or xs x 0) (omega (arith, a.1))
                ∙ sym (over_out at k (λ p. get_or ys (p - at) 0) (λ p. get_or xs p 0) p
                (inr (omega (arith, a.1, b.1)))))
          ]
      | inr a ↦ get_or_append_left (take at xs) (ys ++ drop k (drop at xs)) 0 p (omega (arith, a.1, front))
          ∙ get_or-take at xs p 0 a.1
          ∙ sym (over_out at k (λ p. get_or ys (p - at) 0) (λ p. get_or xs p 0) p (inl a.1))
    ]

pub word_at_set : (ws : List ℕ) (q w : ℕ) → q < length ws → word_at (set ws q w) ≡ put q w (word_at ws)
unfolding word_at
word_at_set ws q w within = same_at_all _ _ (λ r. elim (eqb_tells r q) [
  | inl h ↦ rw (h.0, h.1) (get_or-set_same ws q w 0 within)
  | inr h ↦ rw h.0 (get_or-set_other ws q r w 0 h.1)
])

pub copied : (at k : ℕ) (xs ys zs : List ℕ) → at + length ys ≤ length xs → zs ≡ ys → k ≡ length ys
    → word_at (put_mid at k xs zs) ≡ over at (length ys) (λ p. word_at ys (p - at)) (word_at xs)
copied at k xs ys zs within e f =
    word_at_put_mid at k xs zs (omega (arith, within, f)) (ap (λ (z : List ℕ). length z) e ∙ sym f)
    ∙ ap (λ z. over at k (λ p. word_at z (p - at)) (word_at xs)) e
    ∙ ap (λ n. over at n (λ p. word_at ys (p - at)) (word_at xs)) f

pub set_in : (xs ys : List ℕ) (i w : ℕ) → xs ≡ ys → i < length xs → word_at (set xs i w) ≡ put i w (word_at ys)
set_in xs ys i w e within = word_at_set xs i w within ∙ ap (λ z. put i w (word_at z)) e

pub word_at_replicate : (n i : ℕ) → word_at (replicate n 0) i ≡ 0
unfolding word_at
word_at_replicate zero i = refl
word_at_replicate (suc n) zero = refl
word_at_replicate (suc n) (suc i) = word_at_replicate n i

-- words of a part of a list
pub word_at_slice_range : (ws : List ℕ) (from to i : ℕ) → from + i < to
    → word_at (slice_range ws from to) i ≡ word_at ws (from + i)
unfolding word_at
word_at_slice_range ws from to i h = get_or-between ws from to i 0 h

pub word_past : (ws : List ℕ) (i : ℕ) → length ws ≤ i → word_at ws i ≡ 0
unfolding word_at
word_past ws i h = get_or_past ws i 0 h

-- a page that was 0, once the words of a list that lie in it were copied
copied_part : (ws ys zeros : List ℕ) (q from to : ℕ) → from ≡ min (512 * q) (length ws)
    → to ≡ min (512 * q + 512) (length ws) → ((i : ℕ) → word_at zeros i ≡ 0) → length ys ≡ to - from
    → ((i : ℕ) → from + i < to → word_at ys i ≡ word_at ws (from + i)) → (i : ℕ) → i < 512
    → over 0 (length ys) (λ p. word_at ys (p - 0)) (word_at zeros) i ≡ word_at ws (512 * q + i)
copied_part ws ys zeros q from to f t blank len same i small = elim (leb_tells (suc i) (length ys)) [
  | inl a ↦ over_in 0 (length ys) (λ p. word_at ys (p - 0)) (word_at zeros) i (omega arith) (omega (arith, a.1))
      ∙ ap (word_at ys) (omega arith) ∙ same i (omega (arith, a.1, len))
      ∙ ap (word_at ws) (omega (arith, a.1, len, f, t))
  | inr a ↦ over_out 0 (length ys) (λ p. word_at ys (p - 0)) (word_at zeros) i (inr (omega (arith, a.1))) ∙ blank i
      ∙ sym (word_past ws (512 * q + i) (omega (arith, a.1, len, f, t, small)))
]

pub copied_page : (ws zeros page : List ℕ) (q from to : ℕ) → from ≡ min (512 * q) (length ws)
    → to ≡ min (512 * q + 512) (length ws) → zeros ≡ replicate 512 0
    → word_at page ≡ over 0 (length (slice_range ws from to)) (λ p. word_at (slice_range ws from to) (p - 0))
    (word_at zeros) → (i : ℕ) → i < 512 → word_at page i ≡ word_at ws (512 * q + i)
copied_page ws zeros page q from to f t blank is i small = ap (λ g. g i) is
    ∙ copied_part ws (slice_range ws from to) zeros q from to f t
    (λ i. ap (λ z. word_at z i) blank ∙ word_at_replicate 512 i) (length-between ws from to (omega (arith, t)))
    (word_at_slice_range ws from to) i small

-- what stands in a span is all that counts
pub over_same : (place n : ℕ) (f g h : ℕ → ℕ) → ((p : ℕ) → place ≤ p → p < place + n → f p ≡ g p)
    → over place n f h ≡ over place n g h
over_same place n f g h e = same_at_all _ _ (λ p. elim (in_or_out place n p) [
  | inl k ↦ rw k.0 (e p k.1 k.2)
  | inr k ↦ rw k.0 refl
])

-- a span that has its words already
pub over_there : (place n : ℕ) (f g : ℕ → ℕ) → ((p : ℕ) → place ≤ p → p < place + n → f p ≡ g p) → g ≡ over place n f g
over_there place n f g e = sym (over_itself place n g) ∙ sym (over_same place n f g g e)

-- a part of a list, at the places at which it stood
pub part_words : (ws : List ℕ) (place n p : ℕ) → place ≤ p → p < place + n
    → word_at (slice_range ws place (place + n)) (p - place) ≡ word_at ws p
part_words ws place n p a b = word_at_slice_range ws place (place + n) (p - place) (omega (arith, a, b))
    ∙ ap (word_at ws) (omega (arith, a))

-- words that are copied to where they stood in another list
pub copied_part_over : (ws : List ℕ) (place n : ℕ) (h : ℕ → ℕ) → place + n ≤ length ws
    → over place (length (slice_range ws place (place + n)))
    (λ p. word_at (slice_range ws place (place + n)) (p - place)) h ≡ over place n (word_at ws) h
copied_part_over ws place n h within =
    ap (λ m. over place m (λ p. word_at (slice_range ws place (place + n)) (p - place)) h)
    (length-between ws place (place + n) within ∙ omega arith) ∙ over_same place n _ _ h (part_words ws place n)

-- a list that was lent as a slice, when it comes back
pub lent_back : (n : ℕ) (xs ys : List ℕ) → n ≡ length xs → length ys ≡ length xs
    → take n (ys ++ drop (length ys) xs) ≡ ys
lent_back n xs ys a b = take_at ys (drop (length ys) xs) n (b ∙ sym a)

pub zeros_after : (ws : List ℕ) (n : ℕ) → word_at (ws ++ replicate n 0) ≡ word_at ws
unfolding word_at
zeros_after ws n = same_at_all _ _ (λ p. elim (leb_tells (suc p) (length ws)) [
  | inl a ↦ get_or_append_left ws (replicate n 0) 0 p (omega (arith, a.1))
  | inr a ↦ get_or-append_right ws (replicate n 0) (length ws) p 0 refl (omega (arith, a.1))
      ∙ word_at_replicate n (p - length ws) ∙ sym (get_or_past ws p 0 (omega (arith, a.1)))
])

-- words that are 0 were added, or none
pub lengthened : (b : Bool) (ws new : List ℕ) (n m : ℕ) → length ws ≤ n → new ≡ cond b (take n ws ++ replicate m 0) ws
    → word_at new ≡ word_at ws
lengthened true ws new n m all e = ap word_at e ∙ ap (λ x. word_at (x ++ replicate m 0)) (take_all n ws all)
    ∙ zeros_after ws m
lengthened false ws new n m all e = ap word_at e
