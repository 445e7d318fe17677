-- What pages mean, as their lists change.
use Rattle.std.proofs.Common.{◌≡◌, ℕ, ◌+◌, ◌*◌, ◌/◌, ◌%◌, ◌^◌, ◌<◌, ◌≤◌, Bool, false, List, [], ◌∷◌, ◌++◌, length, get_or, set, replicate, zero, suc, Option, Some, None, refl, sym, ◌∙◌, ap, subst, inl, inr, arith}
use Rattle.std.proofs.lemmas.List.{get_or_past, get_or_default, get_or-set_same, get_or-set_other, length-set, length-replicate}
use Rattle.std.proofs.lemmas.Bool.Decides.{eqb_tells, leb_tells}
use Rattle.page_table.specs.Pages.{put, over, Table, Shelf, IsTable, no_shelf, new_table, after_write, after_push}
use Rattle.page_table.specs.Reserving.{TakesAgain, TakesNew}
use Rattle.page_table.specs.Lists.{Sheet, Lists, word_at, word_in, sheet_in, word_over, has_page, sheet_at, shelf_at, table_of}
use Rattle.page_table.specs.inner.Sound.{IsSound}
use Rattle.page_table.specs.inner.Spreading.{HasWords, Spread}
use Rattle.page_table.proofs.Spans.{put_here, same_at_all, in_or_out, over_in, over_out, over_itself, word_at_replicate}
use Rattle.page_table.proofs.SheetLemmas.{push_seen}

-- pages in memory, by their parts
abbrev pub lists : List ℕ → List (List (Option (List ℕ))) → List Shelf → ℕ → Lists
lists shared sheets shelves pages =
    record { shared = shared; sheets = sheets; shelves = shelves; pages = pages }

-- a segment that had the words of a span still has them
pub has_words_later : (k i place n : ℕ) (f : ℕ → ℕ) (old new : List (List (Option (List ℕ))))
    → HasWords k place n f old → Spread i place n f old new → HasWords k place n f new
has_words_later k i place n f old new h s = record {
  words = elim (leb_tells (suc k) i) [
    | inl a ↦ let same : word_over (sheet_at new k) f ≡ word_over (sheet_at old k) f = s.below k (omega (arith, a.1))
        ∙ h.words in ap (over place n f) same ∙ h.words ∙ sym same
    | inr a ↦ let same : sheet_at new k ≡ sheet_at old k = s.above k (omega (arith, a.1))
        in ap (λ x. over place n f (word_over x f)) same ∙ h.words ∙ ap (λ x. word_over x f) (sym same)
  ];
}

-- the pages of segment k, from a read of them
pub read_sheet : (sheets : List (List (Option (List ℕ)))) (k : ℕ) (x : List (Option (List ℕ))) → k < length sheets
    → x ≡ get_or sheets k x → sheet_in x ≡ sheet_at sheets k
read_sheet sheets k x within read = ap sheet_in (read ∙ get_or_default sheets k x [] within)

-- what a segment sees doesn't change where its own words are put below
seen_again : (sheet : Sheet) (place n : ℕ) (g h : ℕ → ℕ) → h ≡ over place n (word_over sheet g) g
    → word_over sheet h ≡ word_over sheet g
unfolding word_over
seen_again sheet place n g h e = same_at_all _ _ (λ p. go p (sheet (p / 512)) refl)
  where
    both : (p : ℕ) → sheet (p / 512) ≡ None
        → over place n (word_over sheet g) g p ≡ word_in (sheet (p / 512)) (p % 512) (g p)
    both p is = elim (in_or_out place n p) [
      | inl a ↦ over_in place n (word_over sheet g) g p a.1 a.2
      | inr a ↦ over_out place n (word_over sheet g) g p a.1 ∙ sym (ap (λ x. word_in x (p % 512) (g p)) is)
    ]

    go : (p : ℕ) (o : Option (List ℕ)) → sheet (p / 512) ≡ o
        → word_in (sheet (p / 512)) (p % 512) (h p) ≡ word_in (sheet (p / 512)) (p % 512) (g p)
    go p None is = ap (λ x. word_in x (p % 512) (h p)) is ∙ ap (λ f. f p) e ∙ both p is
    go p (Some ws) is = ap (λ x. word_in x (p % 512) (h p)) is ∙ sym (ap (λ x. word_in x (p % 512) (g p)) is)

-- the words of a segment that were put below are there
pub has_words_now : (k place n : ℕ) (g h : ℕ → ℕ) (sheets : List (List (Option (List ℕ))))
    → h ≡ over place n (word_over (sheet_at sheets k) g) g → HasWords k place n h sheets
has_words_now k place n g h sheets e = record {
  words = push_seen (sheet_at sheets k) place n (word_over (sheet_at sheets k) g) g h e
      ∙ over_itself place n (word_over (sheet_at sheets k) g) ∙ sym (seen_again (sheet_at sheets k) place n g h e);
}

no_page_seen : (f : ℕ → ℕ) → word_over (sheet_in []) f ≡ f
unfolding word_over sheet_in
no_page_seen f = refl

spread_to_all : (place n : ℕ) (f : ℕ → ℕ) (old new : List (List (Option (List ℕ))))
    → Spread (length old) place n f old new → (k : ℕ)
    → word_over (sheet_at new k) f ≡ over place n f (word_over (sheet_at old k) f)
spread_to_all place n f old new s k = elim (leb_tells (suc k) (length old)) [
  | inl a ↦ s.below k (omega (arith, a.1))
  | inr a ↦
      let past : length old ≤ k = omega (arith, a.1) in
      let none : word_over (sheet_at old k) f ≡ f = ap (λ x. word_over (sheet_in x) f) (get_or_past old k [] past)
      ∙ no_page_seen f in
      ap (λ x. word_over x f) (s.above k past) ∙ none ∙ sym (ap (over place n f) none ∙ over_itself place n f)
]

pub pushed : (k place n : ℕ) (s t : Lists) → Spread (length s.sheets) place n (word_at t.shared) s.sheets t.sheets
    → word_at t.shared ≡ over place n (word_over (sheet_at s.sheets k) (word_at s.shared)) (word_at s.shared)
    → length t.shared ≡ length s.shared → t.shelves ≡ s.shelves → t.pages ≡ s.pages
    → table_of t ≡ after_push k place n (table_of s)
pushed k place n s t spread shared len shelves pages = λ i. record {
  shared = shared i;
  word = words i;
  own = own i;
  shelf = λ c. get_or (shelves i) c no_shelf;
  reserved = len i;
  pages = pages i;
  segments = spread.count i;
}
  where
    words : ◌≡◌ {A = ℕ → ℕ → ℕ} (λ j. word_over (sheet_at t.sheets j) (word_at t.shared))
        (λ j. over place n (word_over (sheet_at s.sheets k) (word_at s.shared))
        (word_over (sheet_at s.sheets j) (word_at s.shared)))
    words = same_at_all _ _
        (λ j. spread_to_all place n (word_at t.shared) s.sheets t.sheets spread j
        ∙ push_seen (sheet_at s.sheets j) place n (word_over (sheet_at s.sheets k) (word_at s.shared))
        (word_at s.shared) (word_at t.shared) shared)

    own : ◌≡◌ {A = ℕ → ℕ → Bool} (λ j. has_page (sheet_at t.sheets j)) (λ j. has_page (sheet_at s.sheets j))
    own = same_at_all _ _ spread.own

-- pages whose lists changed are sound where what they mean is a table
pub sound_again : (s t : Lists) (u : Table) → IsSound s → length t.shelves ≡ length s.shelves → table_of t ≡ u
    → IsTable u → IsSound t
sound_again s t u h len e is = record { shelves = len ∙ h.shelves; table = subst IsTable (sym e) is }

-- the words of segment k that were put below, from a read of its pages
pub share_of : (k place n : ℕ) (g h : ℕ → ℕ) (sheets : List (List (Option (List ℕ)))) (x : List (Option (List ℕ)))
    → k < length sheets → x ≡ get_or sheets k x → h ≡ over place n (word_over (sheet_in x) g) g
    → h ≡ over place n (word_over (sheet_at sheets k) g) g
share_of k place n g h sheets x within read e = e
    ∙ ap (λ z. over place n (word_over z g) g) (read_sheet sheets k x within read)

-- the words of segment k, from a read of its pages, were put below, and from there into every segment's pages
pub pushed_words : (k place n : ℕ) (s : Lists) (shared now : List ℕ) (x : List (Option (List ℕ)))
    (sheets : List (List (Option (List ℕ)))) → k < length s.sheets → x ≡ get_or s.sheets k x
    → word_at shared ≡ over place n (word_over (sheet_in x) (word_at s.shared)) (word_at s.shared)
    → length shared ≡ length s.shared → now ≡ shared
    → Spread (length s.sheets) place n (word_at now) s.sheets sheets
    → table_of (lists shared sheets s.shelves s.pages) ≡ after_push k place n (table_of s)
pushed_words k place n s shared now x sheets within read words len same spread =
    pushed k place n s (lists shared sheets s.shelves s.pages)
    (subst (λ z. Spread (length s.sheets) place n (word_at z) s.sheets sheets) same spread)
    (share_of k place n (word_at s.shared) (word_at shared) s.sheets x within read words) len refl refl

-- ---- words that are put

-- pages of which segment k has others, with the words f and a page of the same numbers
pub sheet_put : (k : ℕ) (x : List (Option (List ℕ))) (f : ℕ → ℕ) (s : Lists) → k < length s.sheets
    → word_over (sheet_in x) (word_at s.shared) ≡ f → has_page (sheet_in x) ≡ has_page (sheet_at s.sheets k)
    → table_of (record s { sheets = set s.sheets k x })
    ≡ record (table_of s) { word = put k f (table_of s).word }
sheet_put k x f s within is has = λ i. record {
  shared = word_at s.shared;
  word = words i;
  own = own i;
  shelf = shelf_at s.shelves;
  reserved = length s.shared;
  pages = s.pages;
  segments = length-set s.sheets k x i;
}
  where
    words : ◌≡◌ {A = ℕ → ℕ → ℕ} (λ j. word_over (sheet_at (set s.sheets k x) j) (word_at s.shared))
        (put k f (λ j. word_over (sheet_at s.sheets j) (word_at s.shared)))
    words = same_at_all _ _ (λ j. elim (eqb_tells j k) [
      | inl h ↦ rw (h.0, h.1)
          (ap (λ z. word_over (sheet_in z) (word_at s.shared)) (get_or-set_same s.sheets k x [] within) ∙ is)
      | inr h ↦ rw h.0 (ap (λ z. word_over (sheet_in z) (word_at s.shared)) (get_or-set_other s.sheets k j x [] h.1))
    ])

    own : ◌≡◌ {A = ℕ → ℕ → Bool} (λ j. has_page (sheet_at (set s.sheets k x) j))
        (λ j. has_page (sheet_at s.sheets j))
    own = same_at_all _ _ (λ j. elim (eqb_tells j k) [
      | inl h ↦ rw h.1 (ap (λ z. has_page (sheet_in z)) (get_or-set_same s.sheets k x [] within) ∙ has)
      | inr h ↦ ap (λ z. has_page (sheet_in z)) (get_or-set_other s.sheets k j x [] h.1)
    ])

-- two words that are put at once
pub two_put : (k place v w : ℕ) (t : Table)
    → record t { word = put k (put (place + 1) w (put place v (t.word k))) t.word }
    ≡ after_write k (place + 1) w (after_write k place v t)
two_put k place v w t = λ i. record t { word = words i }
  where
    words : ◌≡◌ {A = ℕ → ℕ → ℕ} (put k (put (place + 1) w (put place v (t.word k))) t.word)
        (after_write k (place + 1) w (after_write k place v t)).word
    words = same_at_all _ _ (λ j. elim (eqb_tells j k) [
      | inl h ↦ rw h.0 (ap (put (place + 1) w) (sym (put_here k k (put place v (t.word k)) t.word refl)))
      | inr h ↦ rw h.0 refl
    ])

-- so for segment k, from a read of its pages
pub two_put_in : (k place v w : ℕ) (x y : List (Option (List ℕ))) (s : Lists) → k < length s.sheets
    → x ≡ get_or s.sheets k x
    → ((below : ℕ → ℕ) → word_over (sheet_in y) below ≡ put (place + 1) w (put place v (word_over (sheet_in x) below)))
    → has_page (sheet_in y) ≡ has_page (sheet_in x)
    → table_of (record s { sheets = set s.sheets k y })
    ≡ after_write k (place + 1) w (after_write k place v (table_of s))
two_put_in k place v w x y s within read words own =
    let here = read_sheet s.sheets k x within read in
    sheet_put k y (put (place + 1) w (put place v (word_over (sheet_at s.sheets k) (word_at s.shared)))) s within
    (words (word_at s.shared)
    ∙ ap (λ (z : Sheet). put (place + 1) w (put place v (word_over z (word_at s.shared)))) here)
    (own ∙ ap (λ (z : Sheet). has_page z) here)
    ∙ two_put k place v w (table_of s)

-- ---- extents

-- the extents of class c, from a read of them
pub read_shelf : (shelves : List Shelf) (c : ℕ) (x : Shelf) → c < length shelves → x ≡ get_or shelves c x
    → x ≡ shelf_at shelves c
read_shelf shelves c x within read = read ∙ get_or_default shelves c x no_shelf within

pub shelf_set : (shelves : List Shelf) (c : ℕ) (x : Shelf) → c < length shelves
    → ◌≡◌ {A = ℕ → Shelf} (shelf_at (set shelves c x)) (put c x (shelf_at shelves))
shelf_set shelves c x within = same_at_all _ _ (λ d. elim (eqb_tells d c) [
  | inl h ↦ rw (h.0, h.1) (get_or-set_same shelves c x no_shelf within)
  | inr h ↦ rw h.0 (get_or-set_other shelves c d x no_shelf h.1)
])

-- pages with other extents of class c
abbrev pub with_extents : ℕ → Shelf → List ℕ → Lists → Lists
with_extents c x shared s = record { shared = shared; sheets = s.sheets; shelves = set s.shelves c x; pages = s.pages }

pub took_again : (c p : ℕ) (x : Shelf) (s : Lists) → c < length s.shelves → x.total ≡ (shelf_at s.shelves c).total
    → (shelf_at s.shelves c).spare ≡ x.spare ++ p ∷ []
    → TakesAgain c p (table_of s) (table_of (with_extents c x s.shared s))
took_again c p x s within total spare =
    let here : shelf_at (set s.shelves c x) c ≡ x = get_or-set_same s.shelves c x no_shelf within in
    let same : x ≡ record { spare = (shelf_at (set s.shelves c x) c).spare; total = (shelf_at s.shelves c).total } =
    λ i. record { spare = (sym here i).spare; total = total i } in
    let shelf : ◌≡◌ {A = ℕ → Shelf} (shelf_at (set s.shelves c x))
    (put c (record { spare = (shelf_at (set s.shelves c x) c).spare; total = (shelf_at s.shelves c).total })
    (shelf_at s.shelves)) = shelf_set s.shelves c x within ∙ ap (λ z. put c z (shelf_at s.shelves)) same in
    record {
      spare = spare ∙ ap (λ (z : Shelf). z.spare ++ p ∷ []) (sym here);
      table = λ i. record {
        shared = word_at s.shared;
        word = λ k. word_over (sheet_at s.sheets k) (word_at s.shared);
        own = λ k. has_page (sheet_at s.sheets k);
        shelf = shelf i;
        reserved = length s.shared;
        pages = s.pages;
        segments = length s.sheets;
      };
    }

pub took_new : (c : ℕ) (x : Shelf) (shared : List ℕ) (s : Lists) → c < length s.shelves
    → x ≡ record { spare = (shelf_at s.shelves c).spare; total = (shelf_at s.shelves c).total + 1 }
    → (shelf_at s.shelves c).spare ≡ [] → word_at shared ≡ word_at s.shared → length shared ≡ length s.shared + 2 ^ c
    → length s.shared + 2 ^ c ≤ 512 * s.pages
    → TakesNew c (length s.shared) (table_of s) (table_of (with_extents c x shared s))
took_new c x shared s within is none words len fits =
    let same : x ≡ record { spare = []; total = (shelf_at s.shelves c).total + 1 } = is
    ∙ (λ i. record { spare = none i; total = (shelf_at s.shelves c).total + 1 }) in
    let shelf : ◌≡◌ {A = ℕ → Shelf} (shelf_at (set s.shelves c x))
    (put c (record { spare = []; total = (shelf_at s.shelves c).total + 1 }) (shelf_at s.shelves)) =
    shelf_set s.shelves c x within ∙ ap (λ z. put c z (shelf_at s.shelves)) same in
    record {
      none_spare = none;
      fits = fits;
      place = refl;
      table = λ i. record {
        shared = words i;
        word = λ k. word_over (sheet_at s.sheets k) (words i);
        own = λ k. has_page (sheet_at s.sheets k);
        shelf = shelf i;
        reserved = len i;
        pages = s.pages;
        segments = length s.sheets;
      };
    }

-- pages of which an extent was taken are sound
pub sound_taken : (c : ℕ) (x : Shelf) (shared : List ℕ) (s : Lists) → IsSound s
    → IsTable (table_of (with_extents c x shared s)) → IsSound (with_extents c x shared s)
sound_taken c x shared s h is = record { shelves = length-set s.shelves c x ∙ h.shelves; table = is }

-- ---- new pages

no_page_has : has_page (sheet_in []) ≡ (λ q. false)
unfolding has_page sheet_in
no_page_has = refl

pub new_pages : (segments pages i j : ℕ) (shared : List ℕ) (sheets : List (List (Option (List ℕ))))
    (shelves : List Shelf) → shared ≡ 0 ∷ 0 ∷ [] → sheets ≡ replicate i [] → shelves ≡ replicate j no_shelf
    → i ≡ segments → j ≡ 22
    → (length shelves ≡ 22) ×
    (table_of (record {
      shared = shared;
      sheets = sheets;
      shelves = shelves;
      pages =
          pages;
    }) ≡ new_table segments pages)
new_pages segments pages i j shared sheets shelves a b c d e = (
  ap (λ (z : List Shelf). length z) c ∙ length-replicate j no_shelf ∙ e,
  λ x. record {
    shared = words x;
    word = seen x;
    own = own x;
    shelf = none x;
    reserved = length (a x);
    pages = pages;
    segments = (ap (λ (z : List (List (Option (List ℕ)))). length z) b ∙ length-replicate i [] ∙ d) x;
  },
)
  where
    blank : (p : ℕ) → word_at (0 ∷ 0 ∷ []) p ≡ 0
    blank p = word_at_replicate 2 p

    words : ◌≡◌ {A = ℕ → ℕ} (word_at shared) (λ p. 0)
    words = same_at_all _ _ (λ p. ap (λ z. word_at z p) a ∙ blank p)

    empty : (i k : ℕ) → ◌≡◌ {A = List (Option (List ℕ))} (get_or (replicate i []) k []) []
    empty zero k = refl
    empty (suc i) zero = refl
    empty (suc i) (suc k) = empty i k

    sheet : (k : ℕ) → sheet_at sheets k ≡ sheet_in []
    sheet k = ap (λ z. sheet_in (get_or z k [])) b ∙ ap sheet_in (empty i k)

    seen : ◌≡◌ {A = ℕ → ℕ → ℕ} (λ k. word_over (sheet_at sheets k) (word_at shared)) (λ k p. 0)
    seen = same_at_all _ _
        (λ k. ap (λ z. word_over z (word_at shared)) (sheet k) ∙ no_page_seen (word_at shared) ∙ words)

    own : ◌≡◌ {A = ℕ → ℕ → Bool} (λ k. has_page (sheet_at sheets k)) (λ k q. false)
    own = same_at_all _ _ (λ k. ap has_page (sheet k) ∙ no_page_has)

    no_shelves : (j c : ℕ) → ◌≡◌ {A = Shelf} (get_or (replicate j no_shelf) c no_shelf) no_shelf
    no_shelves zero c = refl
    no_shelves (suc j) zero = refl
    no_shelves (suc j) (suc c) = no_shelves j c

    none : ◌≡◌ {A = ℕ → Shelf} (shelf_at shelves) (λ c. no_shelf)
    none = same_at_all _ _ (λ k. ap (λ z. get_or z k no_shelf) c ∙ no_shelves j k)
