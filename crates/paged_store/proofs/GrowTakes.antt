-- The extents that a record takes when it grows, or is made.
use Rattle.std.proofs.Common.{◌≡◌, ◌⊎◌, ℕ, zero, suc, ◌+◌, ◌*◌, ◌/◌, ◌%◌, ◌^◌, ◌<◌, ◌≤◌, Bool, true, false, ◌||◌, ◌&&◌, eqb, ltb, List, [], ◌∷◌, ◌++◌, refl, sym, ◌∙◌, ap, subst, inl, inr, arith}
use Rattle.std.proofs.lemmas.Bool.{or_left, or_right, cond-false, ltb-true, cases_lt, lt-leb}
use Rattle.std.proofs.lemmas.Bool.Decides.{eqb_tells}
use Rattle.std.proofs.lemmas.List.{append-nil}
use Rattle.seg_store.specs.declared.store.StoreFault.{StoreFault}
use Rattle.seg_store.specs.declared.store.StoreFault.TheVariants.{Full, OutOfMemory}
use Rattle.page_table.specs.Pages.{Table}
use Rattle.paged_store.specs.declared.extent.Extent.{Extent}
use Rattle.paged_store.specs.Words.{Words, in_span, size_of, in_head, in_body}
use Rattle.paged_store.specs.Paged.{in_extents, extents_at, one_if, spare_at}
use Rattle.paged_store.specs.inner.Ending.{ExtentsLie}
use Rattle.paged_store.specs.inner.Claiming.{extent_for, newly, Claims, NoneLeft, Denies}
use Rattle.paged_store.specs.inner.Taking.{Takes}
use Rattle.paged_store.specs.inner.Growing.{grown_class, grown_index, grown_extents, MayGrow, KeepsBody, CanGrow}
use Rattle.paged_store.specs.inner.Writing.{Desk, Readied, CanPut, next_body_size, next_index_size}
use Rattle.paged_store.proofs.SpanLemmas.{none_in_span}
use Rattle.paged_store.proofs.PartLemmas.{false_from}
use Rattle.paged_store.proofs.RecordWords.{size_of_zero, size_of_next}
use Rattle.paged_store.proofs.WriteCall.{extents_both, extents_some}

-- ---- the places of an extent

or_false : (b : Bool) → (b || false) ≡ b
or_false true = refl
or_false false = refl

pub extent_in : (c place p : ℕ) → in_extents (extent_for c place) p ≡ in_span place (size_of c) p
extent_in zero place p = sym (ap (λ n. in_span place n p) size_of_zero ∙ none_in_span place p)
extent_in (suc c) place p = elim (eqb_tells (suc c) 0) [
  | inl e ↦ absurd (let z : suc c ≡ 0 = e.1 in omega arith)
  | inr e ↦ ap (λ xs. in_extents xs p) (cond-false (eqb (suc c) 0) [] (record { place = place; class = suc c } ∷ [])
      e.0)
      ∙ or_false (in_span place (2 ^ suc c) p) ∙ ap (λ n. in_span place n p) (sym (size_of_next c))
]

pub extent_times : (c place p : ℕ) → extents_at (extent_for c place) p ≡ one_if (in_span place (size_of c) p)
extent_times zero place p = sym (ap one_if (ap (λ n. in_span place n p) size_of_zero ∙ none_in_span place p))
extent_times (suc c) place p = elim (eqb_tells (suc c) 0) [
  | inl e ↦ absurd (let z : suc c ≡ 0 = e.1 in omega arith)
  | inr e ↦ (let x = ap (λ xs. extents_at xs p)
      (cond-false (eqb (suc c) 0) [] (record { place = place; class = suc c } ∷ []) e.0) in
      let y = ap (λ n. one_if (in_span place n p)) (size_of_next c) in omega (arith, x, y))
]

-- ---- where extents begin

-- one that was taken begins at an even place, and so does one behind it
pub first_even : (c place end : ℕ) (xs : List Extent) → 0 < size_of c → ExtentsLie end (extent_for c place ++ xs) →
    place % 2 ≡ 0
first_even zero place end xs some lie = absurd (let z = size_of_zero in omega (arith, some, z))
first_even (suc c) place end xs some lie = elim (eqb_tells (suc c) 0) [
  | inl e ↦ absurd (let z : suc c ≡ 0 = e.1 in omega arith)
  | inr e ↦ (let x : Extent = record { place = place; class = suc c } in
      let one = cond-false (eqb (suc c) 0) [] (x ∷ []) e.0 in
      (subst (λ ys. ExtentsLie end (ys ++ xs)) one lie 0 x (omega arith)).even)
]

pub next_even : (b head c place end : ℕ) (xs : List Extent) → 0 < size_of c →
    ExtentsLie end (extent_for (suc b) head ++ extent_for c place ++ xs) → place % 2 ≡ 0
next_even b head c place end xs some lie = elim (eqb_tells (suc b) 0) [
  | inl e ↦ absurd (let z : suc b ≡ 0 = e.1 in omega arith)
  | inr e ↦ (let x : Extent = record { place = head; class = suc b } in
      let one = cond-false (eqb (suc b) 0) [] (x ∷ []) e.0 in
      first_even c place end xs some (λ i y l.
      subst (λ ys. ExtentsLie end (ys ++ extent_for c place ++ xs)) one lie (suc i) y (omega (arith, l))))
]

-- ---- places that were nobody's

-- an extent that is taken has places that were spare, or were not reserved yet
pub fresh_place : (xs : List Extent) (t u : Table) (p : ℕ) → Claims xs t u → in_extents xs p ≡ true
    → (0 < spare_at t p) ⊎ (t.reserved ≤ p)
fresh_place xs t u p c h = elim (cases_lt p t.reserved) [
  | inr l ↦ inr l
  | inl l ↦ inl (
      let some : 0 < extents_at xs p = ltb-true 0 (extents_at xs p) (sym (extents_some xs p) ∙ h) in
      let s = c.spare p in
      let none : one_if (newly t u p) ≡ 0 = ap (λ b. one_if (b && ltb p u.reserved)) (lt-leb t.reserved p l) in
      omega (arith, some, s, none))
]

-- ---- a record that grows

pub takes_grown : (k : ℕ) (w : Words) (a body index x c i : ℕ) (ready taken : Desk) → c ≡ grown_class w a →
    i ≡ grown_index w a
    → Takes k (extent_for c body ++ extent_for i index ++ extent_for 0 x) ready taken →
    Takes k (grown_extents w a body index) ready taken
takes_grown k w a body index x c i ready taken ec ei h =
    subst (λ xs. Takes k xs ready taken) (append-nil (grown_extents w a body index))
    (let P : ℕ → ℕ → Type 0 = λ c i. Takes k (extent_for c body ++ extent_for i index ++ []) ready taken in
    let Q : ℕ → Type 0 = λ z. P z i in
    let R : ℕ → Type 0 = λ z. P (grown_class w a) z in
    subst R ei (subst Q ec h))

pub ends_at : (place c c1 end : ℕ) → c ≡ c1 → place + size_of c ≤ end → place + size_of c1 ≤ end
ends_at place c c1 end e h = subst (λ z. place + size_of z ≤ end) e h

pub denies_from : (c c1 i i1 : ℕ) (t t1 u : Table) (e : StoreFault) → c ≡ c1 → i ≡ i1 → t.shelf ≡ t1.shelf →
    t.pages ≡ t1.pages
    → Denies (c ∷ i ∷ 0 ∷ []) t u e → Denies (c1 ∷ i1 ∷ 0 ∷ []) t1 u e
denies_from c c1 i i1 t t1 u OutOfMemory ec ei es ep d = tt
denies_from c c1 i i1 t t1 u (Full r n l) ec ei es ep d =
    let P : ℕ → ℕ → Table → Type 0 = λ c i t. NoneLeft (c ∷ i ∷ 0 ∷ []) t u r n l in
    let z : Table = record t { shelf = t1.shelf; pages = t1.pages } in
    let d1 : P c i z = subst (P c i) (λ j. record t { shelf = es j; pages = ep j }) d in
    let d2 : P c1 i z = (let Q : ℕ → Type 0 = λ x. P x i z in subst Q ec d1) in
    let d3 : P c1 i1 z = (let Q : ℕ → Type 0 = λ x. P c1 x z in subst Q ei d2) in record {
      class = d3.class;
      low = d3.low;
      high = d3.high;
      few = d3.few;
      short = d3.short;
      reserved = d3.reserved;
      need = d3.need;
      limit = d3.limit;
      over = d3.over;
    }

module _ (k a n body index : ℕ) (old ready taken : Desk) (g : MayGrow (old.table.word k) old.table.reserved a n)
    (keeps : KeepsBody old.table (old.table.word k) a) (r : Readied k (in_head a) old ready)
    (t : Takes k (grown_extents (old.table.word k) a body index) ready taken)
    (b : body + size_of (grown_class (old.table.word k) a) ≤ taken.table.reserved)
    (i : index + size_of (grown_index (old.table.word k) a) ≤ taken.table.reserved) where
  abbrev w : Words
  w = old.table.word k

  -- the words are what they were
  same_words : old.table.word k ≡ taken.table.word k
  same_words = sym (ap (λ (z : Table). z.word k) t.claims.others ∙ (λ j p. r.wrote.word p j))

  more : old.table.reserved ≤ taken.table.reserved
  more = (let m = t.claims.more in let e = r.wrote.same.reserved in omega (arith, m, e))

  own_taken : (p : ℕ) → t.own k (p / 512) ≡ true → taken.table.own k (p / 512) ≡ true
  own_taken p h = ap (λ (z : Table). z.own k (p / 512)) t.claims.others ∙ h

  head_can : CanPut k (2 * a) 4 taken.table
  head_can = record {
    within = (let l = g.stands.head in omega (arith, l, more));
    own = λ p h. own_taken p (t.grows k (p / 512) (r.may p h).own);
  }

  body_can : CanPut k body (next_body_size w a) taken.table
  body_can = record {
    within = b;
    own = λ p h. t.opened p (extents_both (extent_for (grown_class w a) body) (extent_for (grown_index w a) index) p
        ∙ or_left _ _ (extent_in (grown_class w a) body p ∙ h));
  }

  index_can : CanPut k index (next_index_size w a) taken.table
  index_can = record {
    within = i;
    own = λ p h. t.opened p (extents_both (extent_for (grown_class w a) body) (extent_for (grown_index w a) index) p
        ∙ or_right _ _ (extent_in (grown_index w a) index p ∙ h));
  }

  apart : (p : ℕ) → in_span body (next_body_size w a) p ≡ true → in_body w a p ≡ false
  apart p h = false_from (in_body w a p) (λ x.
      let z = keeps p x in
      let here : in_extents (grown_extents w a body index) p ≡ true =
      extents_both (extent_for (grown_class w a) body) (extent_for (grown_index w a) index) p ∙
      or_left _ _ (extent_in (grown_class w a) body p ∙ h) in
      let same : spare_at (record ready.table { own = t.own }) p ≡ spare_at old.table p =
      (λ j. spare_at (record old.table { shelf = r.wrote.same.shelf j }) p) in
      let e = r.wrote.same.reserved in
      elim (fresh_place (grown_extents w a body index) (record ready.table { own = t.own }) taken.table p t.claims
      here) [
        | inl l ↦ (let s = z.1 in omega (arith, l, same, s))
        | inr l ↦ (let s = z.0 in omega (arith, l, e, s))
      ])

  pub can_grow : CanGrow k a body index n taken.table
  can_grow =
      let P : Words → Type 0 = λ v. MayGrow v taken.table.reserved a n in
      let Q : Words → Type 0 = λ v. CanPut k body (next_body_size v a) taken.table in
      let R : Words → Type 0 = λ v. CanPut k index (next_index_size v a) taken.table in
      let S : Words → Type 0 = λ v. (p : ℕ) → in_span body (next_body_size v a) p ≡ true → in_body v a p ≡ false in
      record {
        grows = subst P same_words (record {
          stands = record {
            head = (let l = g.stands.head in omega (arith, l, more));
            body = λ some. (let l = g.stands.body some in omega (arith, l, more));
            formed = g.stands.formed;
          };
          class = g.class;
          count = g.count;
          room = g.room;
        });
        may_head = head_can;
        may_body = subst Q same_words body_can;
        may_index = subst R same_words index_can;
        even = λ some. first_even (grown_class w a) body _ (extent_for (grown_index w a) index)
            (let r = g.room in omega (arith, r, some)) t.claims.lie;
        apart = subst S same_words apart;
      }
