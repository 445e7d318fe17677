-- Extents that are counted as new, and then have the next words.
use Rattle.std.proofs.Common.{◌≡◌, ℕ, ◌+◌, ◌-◌, ◌*◌, ◌<◌, ◌≤◌, true, List, [], ◌∷◌, length, get_or, set, zero, suc, refl, sym, ◌∙◌, ap, subst, inl, inr, arith}
use Rattle.std.proofs.lemmas.Bool.Decides.{eqb_tells}
use Rattle.page_table.specs.Pages.{Shelf, Table, IsTable, limit, put}
use Rattle.page_table.specs.Reserving.{TakesNew, TakesNext, TakesThree}
use Rattle.page_table.specs.Lists.{Lists, word_at, word_over, has_page, sheet_at, shelf_at, table_of}
use Rattle.page_table.specs.inner.Sound.{IsSound}
use Rattle.page_table.specs.inner.Counted.{words_of, one_more, NoneSpare, Counts}
use Rattle.page_table.proofs.Spans.{put_here, put_elsewhere, same_at_all}
use Rattle.page_table.proofs.Keeping.{new_keeps}
use Rattle.page_table.proofs.ListsLemmas.{lists, read_shelf, shelf_set, sound_again}

-- ---- one more

more_total : (c d : ℕ) (f : ℕ → Shelf) → (one_more c f d).total ≤ (f d).total + 1
more_total zero d f = omega arith
more_total (suc c) d f =
    let z : Shelf = record { spare = []; total = (f (suc c)).total + 1 } in
    elim (eqb_tells d (suc c)) [
      | inl a ↦ (let e = ap (λ (s : Shelf). s.total) (put_here (suc c) d z f a.1) in
          let h = ap (λ i. (f i).total) a.1 in omega (arith, e, h))
      | inr a ↦ (let e = ap (λ (s : Shelf). s.total) (put_elsewhere (suc c) d z f a.1) in omega (arith, e))
    ]

-- there are at most so many of a class, with one that was counted
pub few_more : (c d n m : ℕ) (f g : ℕ → Shelf) → Counts true (c ∷ []) f g → (f d).total + suc n < m →
    (g d).total + n < m
few_more c d n m f g k h =
    let e = ap (λ (x : ℕ → Shelf). (x d).total) k.1 in let l = more_total c d f in omega (arith, e, l, h)

-- one that was counted is in use
pub some_left : (c : ℕ) (f g h : ℕ → Shelf) → Counts true (c ∷ []) f g → h ≡ g → 1 ≤ c →
    length (h c).spare < (h c).total
some_left zero f g h k e l = absurd (omega arith)
some_left (suc c) f g h k e l =
    let z : Shelf = record { spare = []; total = (f (suc c)).total + 1 } in
    let is : h (suc c) ≡ z = ap (λ (x : ℕ → Shelf). x (suc c)) (e ∙ k.1) ∙ put_here (suc c) (suc c) z f refl in
    subst (λ (s : Shelf). length s.spare < s.total) (sym is) (omega arith)

-- and taken back
pub one_less : (c : ℕ) (xs : List Shelf) (x y : Shelf) (f : ℕ → Shelf) → 1 ≤ c → c < length xs → x ≡ get_or xs c x →
    y ≡ record { spare = x.spare; total = x.total - 1 } → NoneSpare c f → shelf_at xs ≡ one_more c f →
    shelf_at (set xs c y) ≡ f
one_less zero xs x y f low high read is none e = absurd (omega arith)
one_less (suc c) xs x y f low high read is none e =
    shelf_set xs (suc c) y high ∙ ap (put (suc c) y) e ∙ same_at_all _ _ (λ j. elim (eqb_tells j (suc c)) [
      | inl a ↦ put_here (suc c) j y (put (suc c) z f) a.1 ∙ y_is ∙ ap f (sym a.1)
      | inr a ↦ put_elsewhere (suc c) j y (put (suc c) z f) a.1 ∙ put_elsewhere (suc c) j z f a.1
    ])
  where
    z : Shelf
    z = record { spare = []; total = (f (suc c)).total + 1 }

    x_is : x ≡ z
    x_is = read_shelf xs (suc c) x high read ∙ ap (λ (g : ℕ → Shelf). g (suc c)) e
        ∙ put_here (suc c) (suc c) z f refl

    less : z.total - 1 ≡ (f (suc c)).total
    less = omega arith

    y_is : y ≡ f (suc c)
    y_is = is ∙ ap {B = Shelf} (λ (s : Shelf). record { spare = s.spare; total = s.total - 1 }) x_is
        ∙ (λ i. record { spare = sym none i; total = less i })

-- ---- shelves that are as they were

-- what pages mean, where their lists are others but say the same
pub means_same : (s : Lists) (shared : List ℕ) (shelves : List Shelf) → shared ≡ s.shared →
    shelf_at shelves ≡ shelf_at s.shelves →
    table_of (lists shared s.sheets shelves s.pages) ≡ table_of s
means_same s shared shelves e f = λ i. record {
  shared = word_at (e i);
  word = λ k. word_over (sheet_at s.sheets k) (word_at (e i));
  own = λ k. has_page (sheet_at s.sheets k);
  shelf = f i;
  reserved = length (e i);
  pages = s.pages;
  segments = length s.sheets;
}

pub sound_same : (s : Lists) (shared : List ℕ) (shelves : List Shelf) → IsSound s → shared ≡ s.shared →
    shelf_at shelves ≡ shelf_at s.shelves → length shelves ≡ length s.shelves →
    IsSound (lists shared s.sheets shelves s.pages)
sound_same s shared shelves h e f len = sound_again s (lists shared s.sheets shelves s.pages) (table_of s) h len
    (means_same s shared shelves e f) h.table

-- ---- the next words

-- the table with an extent more of class c
abbrev next : ℕ → Table → Table
next c t = record t { reserved = t.reserved + words_of c; shelf = one_more c t.shelf }

next_is : (c : ℕ) (t : Table) → c ≤ 21 → IsTable t → NoneSpare c t.shelf → t.reserved + words_of c ≤ limit t →
    TakesNext c t.reserved t (next c t) × IsTable (next c t)
next_is zero t high table none fits =
    let z : t.reserved + 0 ≡ t.reserved = omega arith in
    let e : next zero t ≡ t = λ i. record t { reserved = z i } in
    ((refl, e), subst IsTable (sym e) table)
next_is (suc c) t high table none fits =
    let k : TakesNew (suc c) t.reserved t (next (suc c) t) =
    record { none_spare = none; fits = fits; place = refl; table = refl } in
    (k, (new_keeps (suc c) t.reserved t (next (suc c) t) table (omega arith) high k).0)

module _ (a b c : ℕ) (s : Lists) (shared : List ℕ) (shelves : List Shelf) (h : IsSound s)
    (a_most : a ≤ 21) (b_most : b ≤ 21) (c_most : c ≤ 21)
    (k : Counts true (a ∷ b ∷ c ∷ []) (shelf_at s.shelves) (shelf_at shelves))
    (words : word_at shared ≡ word_at s.shared)
    (len : length shared ≡ length s.shared + words_of a + words_of b + words_of c)
    (fits : length s.shared + words_of a + words_of b + words_of c ≤ 512 * s.pages) where
  abbrev t : Table
  t = table_of s

  first : TakesNext a t.reserved t (next a t) × IsTable (next a t)
  first = next_is a t a_most h.table k.0 (omega (arith, fits))

  second : TakesNext b (t.reserved + words_of a) (next a t) (next b (next a t)) × IsTable (next b (next a t))
  second = next_is b (next a t) b_most first.1 k.1.0 (omega (arith, fits))

  third : TakesNext c (t.reserved + words_of a + words_of b) (next b (next a t)) (next c (next b (next a t)))
      × IsTable (next c (next b (next a t)))
  third = next_is c (next b (next a t)) c_most second.1 k.1.1.0 (omega (arith, fits))

  now_is : table_of (lists shared s.sheets shelves s.pages) ≡ next c (next b (next a t))
  now_is = λ i. record {
    shared = words i;
    word = λ j. word_over (sheet_at s.sheets j) (words i);
    own = λ j. has_page (sheet_at s.sheets j);
    shelf = k.1.1.1 i;
    reserved = len i;
    pages = s.pages;
    segments = length s.sheets;
  }

  pub took_three : (p q r : ℕ) → p ≡ length s.shared → q ≡ p + words_of a → r ≡ q + words_of b →
      TakesThree a b c p q r t (table_of (lists shared s.sheets shelves s.pages))
  took_three p q r e f g =
      let y : q ≡ t.reserved + words_of a = omega (arith, e, f) in
      let z : r ≡ t.reserved + words_of a + words_of b = omega (arith, e, f, g) in record {
        one = next a t;
        two = next b (next a t);
        first = subst (λ x. TakesNext a x t (next a t)) (sym e) first.0;
        second = subst (λ x. TakesNext b x (next a t) (next b (next a t))) (sym y) second.0;
        third = subst (λ u. TakesNext c r (next b (next a t)) u) (sym now_is)
            (subst (λ x. TakesNext c x (next b (next a t)) (next c (next b (next a t)))) (sym z) third.0);
        one_is = first.1;
        two_is = second.1;
      }

  pub sound_three : length shelves ≡ length s.shelves → IsSound (lists shared s.sheets shelves s.pages)
  sound_three same = sound_again s (lists shared s.sheets shelves s.pages) (next c (next b (next a t))) h same now_is
      third.1
