-- What always holds of a table still does after each call.
use Rattle.std.proofs.Common.{◌≡◌, ℕ, ◌+◌, ◌-◌, ◌*◌, ◌/◌, ◌%◌, ◌^◌, ◌<◌, ◌≤◌, ◌++◌, Bool, true, false, List, [], ◌∷◌, length, get_or, zero, suc, refl, sym, ◌∙◌, ap, subst, inl, inr, arith, length-append}
use Rattle.std.proofs.lemmas.List.{get_or_append_left, get_or-append_right}
use Rattle.std.proofs.lemmas.Bool.Decides.{eqb_tells, leb_tells}
use Rattle.std.proofs.Math.Nat.{pow-succ'}
use Rattle.std.proofs.lemmas.Nat.{pow_pos}
use Rattle.seg_store.specs.Extents.{words_from, words_in}
use Rattle.page_table.specs.Pages.{put, over, Shelf, Table, limit, new_table, Lies, IsTable, after_open, after_write, after_push, after_restore}
use Rattle.page_table.specs.Reserving.{TakesAgain, TakesNew, after_give_back}
use Rattle.page_table.proofs.Spans.{put_here, put_elsewhere, in_or_out, over_in, over_out}

-- ---- words

pub open_keeps : (k page : ℕ) (t : Table) → IsTable t → IsTable (after_open k page t)
open_keeps k page t h = record {
  some_segments = h.some_segments;
  most_segments = h.most_segments;
  some_pages = h.some_pages;
  most_pages = h.most_pages;
  first = h.first;
  even = h.even;
  within = h.within;
  shared = λ j p e. h.shared j p (go j p e);
  blank_shared = h.blank_shared;
  blank_word = h.blank_word;
  filled = h.filled;
  back = h.back;
  spare = h.spare;
}
  where
    go : (j p : ℕ) → put k (put page true (t.own k)) t.own j (p / 512) ≡ false → t.own j (p / 512) ≡ false
    go j p e = elim (eqb_tells j k) [
      | inl a ↦ elim (eqb_tells (p / 512) page) [
        | inl b ↦ let y : true ≡ false =
            sym (ap (λ f. f (p / 512)) (put_here k j (put page true (t.own k)) t.own a.1)
            ∙ put_here page (p / 512) true (t.own k) b.1) ∙ e in absurd (cc)
        | inr b ↦ ap (λ i. t.own i (p / 512)) a.1
            ∙ sym (ap (λ f. f (p / 512)) (put_here k j (put page true (t.own k)) t.own a.1)
            ∙ put_elsewhere page (p / 512) true (t.own k) b.1) ∙ e
      ]
      | inr a ↦ sym (ap (λ f. f (p / 512)) (put_elsewhere k j (put page true (t.own k)) t.own a.1)) ∙ e
    ]

-- segment k has other words f, which are the shared ones where the page isn't its own, and 0 where nothing was taken
words_keep : (k : ℕ) (f : ℕ → ℕ) (t : Table) → IsTable t → ((p : ℕ) → t.own k (p / 512) ≡ false → f p ≡ t.shared p)
    → ((p : ℕ) → t.reserved ≤ p → f p ≡ 0) → IsTable (record t { word = put k f t.word })
words_keep k f t h below blank = record {
  some_segments = h.some_segments;
  most_segments = h.most_segments;
  some_pages = h.some_pages;
  most_pages = h.most_pages;
  first = h.first;
  even = h.even;
  within = h.within;
  shared = λ j p e. elim (eqb_tells j k) [
    | inl a ↦ ap (λ z. z p) (put_here k j f t.word a.1) ∙ below p (ap (λ i. t.own i (p / 512)) (sym a.1) ∙ e)
    | inr a ↦ ap (λ z. z p) (put_elsewhere k j f t.word a.1) ∙ h.shared j p e
  ];
  blank_shared = h.blank_shared;
  blank_word = λ j p e. elim (eqb_tells j k) [
    | inl a ↦ ap (λ z. z p) (put_here k j f t.word a.1) ∙ blank p e
    | inr a ↦ ap (λ z. z p) (put_elsewhere k j f t.word a.1) ∙ h.blank_word j p e
  ];
  filled = h.filled;
  back = h.back;
  spare = h.spare;
}

pub write_keeps : (k place w : ℕ) (t : Table) → IsTable t → t.own k (place / 512) ≡ true → place < t.reserved
    → IsTable (after_write k place w t)
write_keeps k place w t h own within = words_keep k (put place w (t.word k)) t h below blank
  where
    below : (p : ℕ) → t.own k (p / 512) ≡ false → put place w (t.word k) p ≡ t.shared p
    below p e = put_elsewhere place p w (t.word k)
        (λ a. let y : true ≡ false = sym own ∙ ap (λ x. t.own k (x / 512)) (sym a) ∙ e in cc) ∙ h.shared k p e

    blank : (p : ℕ) → t.reserved ≤ p → put place w (t.word k) p ≡ 0
    blank p e = put_elsewhere place p w (t.word k) (λ a. omega (arith, a, e, within)) ∙ h.blank_word k p e

pub restore_keeps : (k place n : ℕ) (t : Table) → IsTable t → place + n ≤ t.reserved
    → IsTable (after_restore k place n t)
restore_keeps k place n t h within = words_keep k (over place n t.shared (t.word k)) t h below blank
  where
    below : (p : ℕ) → t.own k (p / 512) ≡ false → over place n t.shared (t.word k) p ≡ t.shared p
    below p e = elim (in_or_out place n p) [
      | inl a ↦ over_in place n t.shared (t.word k) p a.1 a.2
      | inr a ↦ over_out place n t.shared (t.word k) p a.1 ∙ h.shared k p e
    ]

    blank : (p : ℕ) → t.reserved ≤ p → over place n t.shared (t.word k) p ≡ 0
    blank p e = over_out place n t.shared (t.word k) p (inr (omega (arith, e, within))) ∙ h.blank_word k p e

pub push_keeps : (k place n : ℕ) (t : Table) → IsTable t → place + n ≤ t.reserved → IsTable (after_push k place n t)
push_keeps k place n t h within = record {
  some_segments = h.some_segments;
  most_segments = h.most_segments;
  some_pages = h.some_pages;
  most_pages = h.most_pages;
  first = h.first;
  even = h.even;
  within = h.within;
  shared = λ j p e. elim (in_or_out place n p) [
    | inl a ↦ over_in place n (t.word k) (t.word j) p a.1 a.2 ∙ sym (over_in place n (t.word k) t.shared p a.1 a.2)
    | inr a ↦ over_out place n (t.word k) (t.word j) p a.1 ∙ h.shared j p e
        ∙ sym (over_out place n (t.word k) t.shared p a.1)
  ];
  blank_shared = λ p e. over_out place n (t.word k) t.shared p (inr (omega (arith, e, within))) ∙ h.blank_shared p e;
  blank_word = λ j p e. over_out place n (t.word k) (t.word j) p (inr (omega (arith, e, within))) ∙ h.blank_word j p e;
  filled = h.filled;
  back = h.back;
  spare = h.spare;
}

-- ---- extents

-- class i has n more extents, and the words of k classes from c on are those of the extents more
words_more : (k c i n : ℕ) (f g : ℕ → ℕ) → c ≤ i → i < c + k → g i ≡ f i + n → ((j : ℕ) → (j ≡ i → ⊥) → g j ≡ f j)
    → words_from k c g ≡ words_from k c f + 2 ^ i * n
words_more zero c i n f g low high here rest = absurd (omega (arith, low, high))
words_more (suc k) c i n f g low high here rest = elim (eqb_tells c i) [
  | inl a ↦
      let same : words_from k (c + 1) g ≡ words_from k (c + 1) f =
      words_same k (c + 1) i f g (omega (arith, a.1)) rest in
      let first : g c ≡ f c + n = ap g a.1 ∙ here ∙ ap (λ x. f x + n) (sym a.1) in
      rw (same, first, sym a.1) (grind arith)
  | inr a ↦
      let same : g c ≡ f c = rest c a.1 in
      let more : words_from k (c + 1) g ≡ words_from k (c + 1) f + 2 ^ i * n =
      words_more k (c + 1) i n f g (omega (arith, low, a.1)) (omega (arith, high)) here rest in
      rw (same, more) (omega arith)
]
  where
    words_same : (k c i : ℕ) (f g : ℕ → ℕ) → i < c → ((j : ℕ) → (j ≡ i → ⊥) → g j ≡ f j)
        → words_from k c g ≡ words_from k c f
    words_same zero c i f g low rest = refl
    words_same (suc k) c i f g low rest =
        let same : g c ≡ f c = rest c (λ e. omega (arith, e, low)) in
        let more : words_from k (c + 1) g ≡ words_from k (c + 1) f =
        words_same k (c + 1) i f g (omega (arith, low)) rest in
        rw (same, more) refl

-- the words of all extents, where class c has n more
pub filled_more : (c n : ℕ) (s : Shelf) (t : Table) → 1 ≤ c → c ≤ 21 → s.total ≡ (t.shelf c).total + n
    → words_in (λ i. (put c s t.shelf i).total) ≡ words_in (λ i. (t.shelf i).total) + 2 ^ c * n
unfolding words_in
filled_more c n s t low high e =
    words_more 21 1 c n (λ i. (t.shelf i).total) (λ i. (put c s t.shelf i).total) low (omega (arith, high))
    (ap (λ z. z.total) (put_here c c s t.shelf refl) ∙ e) (λ j ne. ap (λ z. z.total) (put_elsewhere c j s t.shelf ne))

pub lies_later : (c p old new : ℕ) → old ≤ new → Lies c p old → Lies c p new
lies_later c p old new more h = record { first = h.first; even = h.even; within = omega (arith, h.within, more) }

-- class c has another shelf, with n more extents, and as many words more were taken
shelf_keeps : (c n end : ℕ) (s : Shelf) (t : Table) → IsTable t → 1 ≤ c → c ≤ 21 → s.total ≡ (t.shelf c).total + n
    → length s.spare ≤ s.total → end ≡ t.reserved + 2 ^ c * n → end ≤ limit t
    → ((i : ℕ) → i < length s.spare → Lies c (get_or s.spare i 0) t.reserved)
    → IsTable (record t { reserved = end; shelf = put c s t.shelf })
shelf_keeps c n end s t h low high total back is most spare = record {
  some_segments = h.some_segments;
  most_segments = h.most_segments;
  some_pages = h.some_pages;
  most_pages = h.most_pages;
  first = omega (arith, h.first, is);
  even = even;
  within = most;
  shared = h.shared;
  blank_shared = λ p e. h.blank_shared p (omega (arith, e, is));
  blank_word = λ j p e. h.blank_word j p (omega (arith, e, is));
  filled = omega (arith, is, h.filled, filled_more c n s t low high total);
  back = λ d. elim (eqb_tells d c) [
    | inl a ↦ subst (λ z. length z.spare ≤ z.total) (sym (put_here c d s t.shelf a.1)) back
    | inr a ↦ subst (λ z. length z.spare ≤ z.total) (sym (put_elsewhere c d s t.shelf a.1)) (h.back d)
  ];
  spare = λ d i e. elim (eqb_tells d c) [
    | inl a ↦ lies_here d i a.1 (put_here c d s t.shelf a.1) e
    | inr a ↦ lies_there d i (put_elsewhere c d s t.shelf a.1) e
  ];
}
  where
    later : t.reserved ≤ end
    later = omega (arith, is)

    half : (c : ℕ) → 1 ≤ c → 2 ^ c ≡ 2 * 2 ^ (c - 1)
    half zero l = absurd (omega arith)
    half (suc c) l = pow-succ' 2 c ∙ ap (λ x. 2 * 2 ^ x) (let e : c ≡ suc c - 1 = omega arith in e)

    even : end % 2 ≡ 0
    even = let e : end ≡ t.reserved + 2 * (2 ^ (c - 1) * n) = is ∙ ap (λ x. t.reserved + x * n) (half c low)
        ∙ grind arith in omega (arith, e, h.even)

    lies_here : (d i : ℕ) → d ≡ c → put c s t.shelf d ≡ s → i < length (put c s t.shelf d).spare
        → Lies d (get_or (put c s t.shelf d).spare i 0) end
    lies_here d i a e l =
        subst (λ x. Lies x (get_or (put c s t.shelf d).spare i 0) end) (sym a)
        (subst (λ (z : Shelf). Lies c (get_or z.spare i 0) end) (sym e)
        (lies_later c (get_or s.spare i 0) t.reserved end later
        (spare i (subst (λ (z : Shelf). i < length z.spare) e l))))

    lies_there : (d i : ℕ) → put c s t.shelf d ≡ t.shelf d → i < length (put c s t.shelf d).spare
        → Lies d (get_or (put c s t.shelf d).spare i 0) end
    lies_there d i e l =
        subst (λ (z : Shelf). Lies d (get_or z.spare i 0) end) (sym e)
        (lies_later d (get_or (t.shelf d).spare i 0) t.reserved end later
        (h.spare d i (subst (λ (z : Shelf). i < length z.spare) e l)))

-- a list that one place was added to: each of its places is the added one or an old one
added : (P : ℕ → Type 0) (xs : List ℕ) (p : ℕ) → P p → ((i : ℕ) → i < length xs → P (get_or xs i 0)) → (i : ℕ)
    → i < length (xs ++ p ∷ []) → P (get_or (xs ++ p ∷ []) i 0)
added P xs p here rest i within = elim (leb_tells (suc i) (length xs)) [
  | inl a ↦ subst P (sym (get_or_append_left xs (p ∷ []) 0 i (omega (arith, a.1)))) (rest i (omega (arith, a.1)))
  | inr a ↦ subst P (sym
      (get_or-append_right xs (p ∷ []) (length xs) i 0 refl (omega (arith, a.1))
      ∙ ap (λ x. get_or (p ∷ []) x 0)
      (let e : length (xs ++ p ∷ []) ≡ length xs + 1 = length-append xs (p ∷ []) in let z : i - length xs ≡ 0 =
      omega (arith, a.1, within, e) in z))) here
]

pub give_back_keeps : (c p : ℕ) (t : Table) → IsTable t → 1 ≤ c → c ≤ 21
    → length (t.shelf c).spare < (t.shelf c).total → Lies c p t.reserved → IsTable (after_give_back c p t)
give_back_keeps c p t h low high out lies =
    shelf_keeps c 0 t.reserved _ t h low high (omega arith)
    (omega (arith, out, length-append (t.shelf c).spare (p ∷ []))) (omega arith) h.within
    (added (λ x. Lies c x t.reserved) (t.shelf c).spare p lies (h.spare c))

-- a list of which the last place was taken
front : (P : ℕ → Type 0) (xs ys : List ℕ) (p : ℕ) → ys ≡ xs ++ p ∷ [] → ((i : ℕ) → i < length ys → P (get_or ys i 0))
    → (i : ℕ) → i < length xs → P (get_or xs i 0)
front P xs ys p e all i within =
    let len : length ys ≡ length xs + 1 = ap (λ (z : List ℕ). length z) e ∙ length-append xs (p ∷ []) in
    subst P (ap (λ z. get_or z i 0) e ∙ get_or_append_left xs (p ∷ []) 0 i within) (all i (omega (arith, len, within)))

last : (P : ℕ → Type 0) (xs ys : List ℕ) (p : ℕ) → ys ≡ xs ++ p ∷ [] → ((i : ℕ) → i < length ys → P (get_or ys i 0))
    → P p
last P xs ys p e all =
    let len : length ys ≡ length xs + 1 = ap (λ (z : List ℕ). length z) e ∙ length-append xs (p ∷ []) in
    subst P (ap (λ z. get_or z (length xs) 0) e
    ∙ get_or-append_right xs (p ∷ []) (length xs) (length xs) 0 refl (omega arith)
    ∙ ap (λ x. get_or (p ∷ []) x 0) (let z : length xs - length xs ≡ 0 = omega arith in z))
    (all (length xs) (omega (arith, len)))

-- an extent that was given back is taken again
pub again_keeps : (c p : ℕ) (t u : Table) → IsTable t → 1 ≤ c → c ≤ 21 → TakesAgain c p t u
    → IsTable u × Lies c p u.reserved
again_keeps c p t u h low high a =
    let len : length (t.shelf c).spare ≡ length (u.shelf c).spare + 1 = ap (λ (z : List ℕ). length z) a.spare
    ∙ length-append (u.shelf c).spare (p ∷ []) in (
      subst IsTable (sym a.table)
          (shelf_keeps c 0 t.reserved _ t h low high (omega arith) (omega (arith, h.back c, len))
          (omega arith) h.within
          (front (λ x. Lies c x t.reserved) (u.shelf c).spare (t.shelf c).spare p a.spare (h.spare c))),
      subst (λ (z : Table). Lies c p z.reserved) (sym a.table)
          (last (λ x. Lies c x t.reserved) (u.shelf c).spare (t.shelf c).spare p a.spare (h.spare c)),
    )

-- an extent is taken of the next words
pub new_keeps : (c p : ℕ) (t u : Table) → IsTable t → 1 ≤ c → c ≤ 21 → TakesNew c p t u
    → IsTable u × Lies c p u.reserved
new_keeps c p t u h low high a = (
  subst IsTable (sym a.table)
      (shelf_keeps c 1 (t.reserved + 2 ^ c) _ t h low high refl (omega arith) (omega arith) a.fits
      (λ i e. absurd (omega (arith, e)))),
  subst (λ (z : Table). Lies c p z.reserved) (sym a.table)
      (record {
        first = omega (arith, a.place, h.first);
        even = ap (λ x. x % 2) a.place
            ∙ h.even;
        within = omega (arith, a.place);
      }),
)

pub new_is : (segments pages : ℕ) → 1 ≤ segments → segments ≤ 8 → 1 ≤ pages → pages ≤ 65536
    → IsTable (new_table segments pages)
unfolding words_in
new_is segments pages a b c d = record {
  some_segments = a;
  most_segments = b;
  some_pages = c;
  most_pages = d;
  first = omega arith;
  even = refl;
  within = omega (arith, c);
  shared = λ k p e. refl;
  blank_shared = λ p e. refl;
  blank_word = λ k p e. refl;
  filled = refl;
  back = λ k. omega arith;
  spare = λ k i e. absurd (omega (arith, e));
}

least_first : (p f w : ℕ) → 0 < p → f ≤ p * f + w
least_first zero f w h = absurd (omega arith)
least_first (suc p) f w h = grind arith

one_of : (k c i : ℕ) (f : ℕ → ℕ) → c ≤ i → i < c + k → f i ≤ words_from k c f
one_of zero c i f low high = absurd (omega (arith, low, high))
one_of (suc k) c i f low high = elim (eqb_tells c i) [
  | inl a ↦ subst (λ x. f x ≤ words_from (suc k) c f) a.1
      (least_first (2 ^ c) (f c) (words_from k (c + 1) f) (pow_pos c))
  | inr a ↦ let rest : f i ≤ words_from k (c + 1) f =
      one_of k (c + 1) i f (omega (arith, low, a.1)) (omega (arith, high)) in omega (arith, rest)
]

-- there are fewer extents than words
pub total_fits : (c : ℕ) (t : Table) → IsTable t → 1 ≤ c → c ≤ 21 → (t.shelf c).total < 2 ^ 32
unfolding words_in
total_fits c t h low high =
    let some : (t.shelf c).total ≤ words_from 21 1 (λ i. (t.shelf i).total) =
    one_of 21 1 c (λ i. (t.shelf i).total) low (omega (arith, high)) in
    let all : t.reserved ≡ 2 + words_from 21 1 (λ i. (t.shelf i).total) = h.filled in
    omega (arith, some, all, h.within, h.most_pages)

-- a page is a segment's own once it was opened
pub own_opened : (k q : ℕ) (t u : Table) → u ≡ after_open k q t → u.own k q ≡ true
own_opened k q t u e = ap (λ (z : Table). z.own k q) e
    ∙ ap (λ (f : ℕ → Bool). f q) (put_here k k (put q true (t.own k)) t.own refl) ∙ put_here q q true (t.own k) refl
