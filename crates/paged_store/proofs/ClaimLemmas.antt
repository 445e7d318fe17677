-- Extents that are claimed, one after the other, and given back.
use Rattle.std.proofs.Common.{◌≡◌, ◌≢◌, ◌⊎◌, ℕ, zero, suc, ◌+◌, ◌-◌, ◌^◌, ◌<◌, ◌≤◌, Bool, true, false, ◌&&◌, eqb, ltb, leb, List, [], ◌∷◌, ◌++◌, length, length-append, get_or, Result, Ok, Err, IfOk, IfErr, inl, inr, refl, sym, ◌∙◌, ap, subst, arith}
use Rattle.std.proofs.lemmas.Bool.{cases_lt, cond-true, cond-false, lt-ltb, le-ltb, le-leb, lt-leb}
use Rattle.std.proofs.lemmas.Bool.Decides.{eqb_tells}
use Rattle.std.proofs.lemmas.List.{length_push, get_or_append_left, get_or-append_right, get_or-append-add}
use Rattle.seg_store.specs.declared.store.StoreFault.{StoreFault}
use Rattle.seg_store.specs.declared.store.StoreFault.TheVariants.{Full, OutOfMemory}
use Rattle.seg_store.proofs.Sees.{other_number}
use Rattle.page_table.specs.Pages.{Table, Shelf, limit, put, Lies, IsTable}
use Rattle.page_table.specs.Reserving.{Reserves, TakesAgain, TakesNew, after_give_back}
use Rattle.paged_store.specs.declared.extent.Extent.{Extent}
use Rattle.paged_store.specs.Paged.{in_extent, extents_at, one_if, spare_in, spare_from, spare_at}
use Rattle.paged_store.specs.inner.Fine.{of_class}
use Rattle.paged_store.specs.inner.Ending.{ExtentsLie, HaveClasses, HaveRoom, GivenBack}
use Rattle.paged_store.specs.Words.{size_of}
use Rattle.paged_store.proofs.RecordWords.{size_of_next}
use Rattle.paged_store.specs.inner.Claiming.{extent_for, newly, Claims, times, Denies}
use Rattle.paged_store.proofs.MeaningLemmas.{put_here, put_there}
use Rattle.paged_store.proofs.OverLemmas.{put_self}
use Rattle.paged_store.proofs.SpanSteps.{put_twice}
use Rattle.paged_store.proofs.GiveSteps.{spare_given, none_given, give_step}
use Rattle.paged_store.proofs.EndLemmas.{class_both, at_both}

-- ---- what is newly reserved

none_new : (t u : Table) (p : ℕ) → u.reserved ≡ t.reserved → one_if (newly t u p) ≡ 0
none_new t u p e = elim (cases_lt p t.reserved) [
  | inl l ↦ ap (λ b. one_if (b && ltb p u.reserved)) (lt-leb t.reserved p l)
  | inr g ↦ ap one_if (both (leb t.reserved p) (ltb p u.reserved) (le-ltb p u.reserved (omega (arith, g, e))))
]
  where
    both : (x y : Bool) → y ≡ false → (x && y) ≡ false
    both true y e = e
    both false y e = refl

-- a stretch that is reserved in two parts
new_parts : (t u v : Table) (p : ℕ) → t.reserved ≤ u.reserved → u.reserved ≤ v.reserved →
    one_if (newly t v p) ≡ one_if (newly t u p) + one_if (newly u v p)
new_parts t u v p l r = elim (cases_lt p t.reserved) [
  | inl a ↦ (let x = off t v (inl a) in let y = off t u (inl a) in let z = off u v (inl (omega (arith, a, l))) in
      omega (arith, x, y, z))
  | inr a ↦ elim (cases_lt p u.reserved) [
    | inl b ↦ (let x = on t v a (omega (arith, b, r)) in let y = on t u a b in let z = off u v (inl b) in
        omega (arith, x, y, z))
    | inr b ↦ elim (cases_lt p v.reserved) [
      | inl c ↦ (let x = on t v a c in let y = off t u (inr b) in let z = on u v b c in omega (arith, x, y, z))
      | inr c ↦ (let x = off t v (inr c) in let y = off t u (inr b) in let z = off u v (inr c) in
          omega (arith, x, y, z))
    ]
  ]
]
  where
    on : (t u : Table) → t.reserved ≤ p → p < u.reserved → one_if (newly t u p) ≡ 1
    on t u a b = ap one_if (ap (λ x. x && ltb p u.reserved) (le-leb t.reserved p a) ∙ lt-ltb p u.reserved b)

    right : (x : Bool) → (x && false) ≡ false
    right true = refl
    right false = refl

    off : (t u : Table) → (p < t.reserved) ⊎ (u.reserved ≤ p) → one_if (newly t u p) ≡ 0
    off t u (inl a) = ap (λ x. one_if (x && ltb p u.reserved)) (lt-leb t.reserved p a)
    off t u (inr b) = ap (λ y. one_if (leb t.reserved p && y)) (le-ltb p u.reserved b) ∙
        ap one_if (right (leb t.reserved p))

-- ---- one extent

spare_same : (n c p : ℕ) (t u : Table) → ((j : ℕ) → (u.shelf j).spare ≡ (t.shelf j).spare) →
    spare_from n c u p ≡ spare_from n c t p
spare_same zero c p t u e = refl
spare_same (suc n) c p t u e = let here = ap (λ xs. spare_in (2 ^ c) xs p) (e c) in let rest =
    spare_same n (c + 1) p t u e in omega (arith, here, rest)

one_lies : (x : Extent) (end : ℕ) → Lies x.class x.place end → ExtentsLie end (x ∷ [])
one_lies x end l zero d i = l
one_lies x end l (suc j) d i = absurd (omega (arith, i))

one_class : (x : Extent) → 1 ≤ x.class → x.class ≤ 21 → HaveClasses (x ∷ [])
one_class x low high zero d i = (low, high)
one_class x low high (suc j) d i = absurd (omega (arith, i))

-- the table before is the one after with the extent given back
was_given : (c p : ℕ) (t u : Table) → TakesAgain c p t u → t ≡ after_give_back c p u
was_given c p t u k = sym (ap (after_give_back c p) k.table ∙ λ i. record t { shelf = shelf i })
  where
    rest : Shelf
    rest = record { spare = (u.shelf c).spare; total = (t.shelf c).total }

    shelf : put c (record { spare = (put c rest t.shelf c).spare ++ p ∷ []; total = (put c rest t.shelf c).total })
        (put c rest t.shelf) ≡ t.shelf
    shelf = ap (λ (s : Shelf). put c (record { spare = s.spare ++ p ∷ []; total = s.total }) (put c rest t.shelf))
        (put_here c rest t.shelf)
        ∙ put_twice c (record { spare = (u.shelf c).spare ++ p ∷ []; total = (t.shelf c).total }) rest t.shelf
        ∙ put_self c (record { spare = (u.shelf c).spare ++ p ∷ []; total = (t.shelf c).total }) t.shelf
        (λ i. record (t.shelf c) { spare = sym k.spare i })

module _ (c p : ℕ) (t u : Table) (low : 1 ≤ c) (high : c ≤ 21) (lies : Lies c p u.reserved) where
  abbrev x : Extent
  x = record { place = p; class = c }

  claims_again : TakesAgain c p t u → Claims (x ∷ []) t u
  claims_again k = record {
    others = k.table ∙ (λ i. record t {
      shelf = sym (ap (λ (z : Table). z.shelf) k.table) i;
      reserved =
          sym reserved i;
    });
    more = omega (arith, reserved);
    lie = one_lies x u.reserved lies;
    classes = one_class x low high;
    total = λ j. let e = total j in omega (arith, e);
    count = λ j. count j;
    spare = λ q. let e = ap (λ (z : Table). spare_at z q) (was_given c p t u k) ∙ spare_given c p u q low high in
        let n = none_new t u q reserved in omega (arith, e, n);
  }
    where
      reserved : u.reserved ≡ t.reserved
      reserved = ap (λ (z : Table). z.reserved) k.table

      rest : Shelf
      rest = record { spare = (u.shelf c).spare; total = (t.shelf c).total }

      shelf : (j : ℕ) → u.shelf j ≡ put c rest t.shelf j
      shelf j = ap (λ (z : Table). z.shelf j) k.table

      total : (j : ℕ) → (u.shelf j).total ≡ (t.shelf j).total
      total j = elim (eqb_tells j c) [
        | inl y ↦ ap (λ i. (u.shelf i).total) y.1 ∙ ap (λ (s : Shelf). s.total) (shelf c ∙ put_here c rest t.shelf) ∙
            ap (λ i. (t.shelf i).total) (sym y.1)
        | inr n ↦ ap (λ (s : Shelf). s.total) (shelf j ∙ put_there c j rest t.shelf n.1)
      ]

      count : (j : ℕ) → of_class j (x ∷ []) + length (u.shelf j).spare + (t.shelf j).total ≡ length (t.shelf j).spare +
          (u.shelf j).total
      count j = elim (eqb_tells j c) [
        | inl y ↦ (let one = ap one_if y.0 in let e = total j in
            let here : length (t.shelf j).spare ≡ length (u.shelf j).spare + 1 = ap (λ i. length (t.shelf i).spare) y.1
            ∙ ap length k.spare ∙ length_push (u.shelf c).spare p ∙
            ap (λ i. length (u.shelf i).spare + 1) (sym y.1) in
            omega (arith, one, e, here))
        | inr n ↦ (let none = ap one_if n.0 in let e = total j in let same =
            ap (λ (s : Shelf). length s.spare) (shelf j ∙ put_there c j rest t.shelf n.1) in
            omega (arith, none, e, same))
      ]

  claims_new : TakesNew c p t u → Claims (x ∷ []) t u
  claims_new k = record {
    others = k.table ∙ (λ i. record t {
      shelf = sym (ap (λ (z : Table). z.shelf) k.table) i;
      reserved =
          sym reserved i;
    });
    more = omega (arith, reserved);
    lie = one_lies x u.reserved lies;
    classes = one_class x low high;
    total = λ j. total j;
    count = λ j. count j;
    spare = λ q. let e : spare_at u q ≡ spare_at t q = spare_same 21 1 q t u spare in
        let n : extents_at (x ∷ []) q ≡ one_if (newly t u q) = new q in omega (arith, e, n);
  }
    where
      reserved : u.reserved ≡ t.reserved + 2 ^ c
      reserved = ap (λ (z : Table). z.reserved) k.table

      more : Shelf
      more = record { spare = []; total = (t.shelf c).total + 1 }

      shelf : (j : ℕ) → u.shelf j ≡ put c more t.shelf j
      shelf j = ap (λ (z : Table). z.shelf j) k.table

      spare : (j : ℕ) → (u.shelf j).spare ≡ (t.shelf j).spare
      spare j = elim (eqb_tells j c) [
        | inl y ↦ ap (λ i. (u.shelf i).spare) y.1 ∙ ap (λ (s : Shelf). s.spare) (shelf c ∙ put_here c more t.shelf) ∙
            sym k.none_spare ∙ ap (λ i. (t.shelf i).spare) (sym y.1)
        | inr n ↦ ap (λ (s : Shelf). s.spare) (shelf j ∙ put_there c j more t.shelf n.1)
      ]

      here : (j : ℕ) → j ≡ c → (u.shelf j).total ≡ (t.shelf j).total + 1
      here j e = ap (λ i. (u.shelf i).total) e ∙ ap (λ (s : Shelf). s.total) (shelf c ∙ put_here c more t.shelf) ∙
          ap (λ i. (t.shelf i).total + 1) (sym e)

      there : (j : ℕ) → j ≢ c → (u.shelf j).total ≡ (t.shelf j).total
      there j n = ap (λ (s : Shelf). s.total) (shelf j ∙ put_there c j more t.shelf n)

      total : (j : ℕ) → (t.shelf j).total ≤ (u.shelf j).total
      total j = elim (eqb_tells j c) [
        | inl y ↦ (let e = here j y.1 in omega (arith, e))
        | inr n ↦ (let e = there j n.1 in omega (arith, e))
      ]

      count : (j : ℕ) → of_class j (x ∷ []) + length (u.shelf j).spare + (t.shelf j).total ≡ length (t.shelf j).spare +
          (u.shelf j).total
      count j = elim (eqb_tells j c) [
        | inl y ↦ (let one = ap one_if y.0 in let e = here j y.1 in let s = ap length (spare j) in
            omega (arith, one, e, s))
        | inr n ↦ (let none = ap one_if n.0 in let e = there j n.1 in let s = ap length (spare j) in
            omega (arith, none, e, s))
      ]

      new : (q : ℕ) → extents_at (x ∷ []) q ≡ one_if (newly t u q)
      new q =
          let e : one_if (in_extent x q) ≡ one_if (newly t u q) =
          (λ i. one_if (leb (k.place i) q && ltb q (k.place i + 2 ^ c))) ∙
          (λ i. one_if (leb t.reserved q && ltb q (sym reserved i))) in
          omega (arith, e)

-- none of class 0
pub claims_none : (t : Table) → Claims [] t t
claims_none t = record {
  others = refl;
  more = omega arith;
  lie = λ i d l. absurd (omega arith);
  classes = λ i d l. absurd (omega arith);
  total = λ c. omega arith;
  count = λ c. omega arith;
  spare = λ p. let n = none_new t t p refl in omega (arith, n);
}

pub claimed_one : (class : ℕ) (t u : Table) (r : Result ℕ StoreFault) → 1 ≤ class → class ≤ 21 → Reserves class t u r →
    IfOk r (λ p. Lies class p u.reserved) → IfOk r (λ p. Claims (extent_for class p) t u)
claimed_one class t u (Ok p) low high k lies =
    subst (λ xs. Claims xs t u) (sym (cond-false (eqb class 0) [] (record { place = p; class = class } ∷ [])
    (other_number class 0 (λ e. omega (arith, e, low))))) (by_case k)
  where
    by_case : TakesAgain class p t u ⊎ TakesNew class p t u → Claims (record { place = p; class = class } ∷ []) t u
    by_case (inl a) = claims_again class p t u low high lies a
    by_case (inr n) = claims_new class p t u low high lies n
claimed_one class t u (Err e) low high k lies = tt

-- how many of the extents for a class are of one
pub class_for : (k class place : ℕ) → 1 ≤ k → of_class k (extent_for class place) ≡ one_if (eqb k class)
class_for k class place l = elim (eqb_tells class 0) [
  | inl y ↦ ap (of_class k) (cond-true (eqb class 0) [] (record { place = place; class = class } ∷ []) y.0) ∙
      sym (ap one_if (ap (eqb k) y.1 ∙ other_number k 0 (λ e. omega (arith, e, l))))
  | inr n ↦ (let e = ap (of_class k) (cond-false (eqb class 0) [] (record { place = place; class = class } ∷ []) n.0)
      in omega (arith, e))
]

-- ---- one after the other

lie_both : (end : ℕ) (xs ys : List Extent) → ExtentsLie end xs → ExtentsLie end ys → ExtentsLie end (xs ++ ys)
lie_both end xs ys f g i d l = elim (cases_lt i (length xs)) [
  | inl a ↦ subst (λ (y : Extent). Lies y.class y.place end) (sym (get_or_append_left xs ys d i a)) (f i d a)
  | inr b ↦ subst (λ (y : Extent). Lies y.class y.place end) (sym (get_or-append_right xs ys (length xs) i d refl b))
      (g (i - length xs) d (let m = length-append xs ys in omega (arith, l, m, b)))
]

classes_both : (xs ys : List Extent) → HaveClasses xs → HaveClasses ys → HaveClasses (xs ++ ys)
classes_both xs ys f g i d l = elim (cases_lt i (length xs)) [
  | inl a ↦ subst (λ (y : Extent). (1 ≤ y.class) × (y.class ≤ 21)) (sym (get_or_append_left xs ys d i a)) (f i d a)
  | inr b ↦ subst (λ (y : Extent). (1 ≤ y.class) × (y.class ≤ 21))
      (sym (get_or-append_right xs ys (length xs) i d refl b))
      (g (i - length xs) d (let m = length-append xs ys in omega (arith, l, m, b)))
]

lie_later : (n m : ℕ) (xs : List Extent) → n ≤ m → ExtentsLie n xs → ExtentsLie m xs
lie_later n m xs l f i d h = let y = f i d h in
    record { first = y.first; even = y.even; within = let w = y.within in omega (arith, w, l) }

pub claims_both : (xs ys : List Extent) (t u v : Table) → Claims xs t u → Claims ys u v → Claims (xs ++ ys) t v
claims_both xs ys t u v a b = record {
  others = b.others ∙ ap (λ (z : Table). record z { shelf = v.shelf; reserved = v.reserved }) a.others;
  more = let l = a.more in let m = b.more in omega (arith, l, m);
  lie = lie_both v.reserved xs ys (lie_later u.reserved v.reserved xs b.more a.lie) b.lie;
  classes = classes_both xs ys a.classes b.classes;
  total = λ c. let l = a.total c in let m = b.total c in omega (arith, l, m);
  count = λ c. let l = a.count c in let m = b.count c in let n = class_both c xs ys in omega (arith, l, m, n);
  spare = λ p. let l = a.spare p in let m = b.spare p in let n = at_both xs ys p in let o =
      new_parts t u v p a.more b.more in omega (arith, l, m, n, o);
}

-- they are given back
pub claims_back : (xs : List Extent) (t u v : Table) → Claims xs t u → GivenBack xs u v → Claims [] t v
claims_back xs t u v a g =
    let reserved : v.reserved ≡ u.reserved = ap (λ (z : Table). z.reserved) g.others in
    record {
      others = g.others ∙ ap (λ (z : Table). record z { shelf = v.shelf }) a.others ∙
          (λ i. record t { shelf = v.shelf; reserved = sym reserved i });
      more = let l = a.more in omega (arith, l, reserved);
      lie = λ i d l. absurd (omega arith);
      classes = λ i d l. absurd (omega arith);
      total = λ c. let l = a.total c in let m = g.total c in omega (arith, l, m);
      count = λ c. let l = a.count c in let m = g.count c in let n = g.total c in omega (arith, l, m, n);
      spare = λ p. let l = a.spare p in let m = g.spare p in let n : one_if (newly t v p) ≡ one_if (newly t u p) =
          ap (λ e. one_if (leb t.reserved p && ltb p e)) reserved in omega (arith, l, m, n);
    }

-- there is room on the shelves for them
pub room_claimed : (xs : List Extent) (t u : Table) → IsTable t → Claims xs t u → HaveRoom xs u
room_claimed xs t u w a = λ c. let b = w.back c in let l = a.count c in omega (arith, b, l)

pub given_both : (xs ys : List Extent) (t u v : Table) → GivenBack xs t u → GivenBack ys u v → GivenBack (xs ++ ys) t v
given_both xs ys t u v a b = record {
  others = b.others ∙ ap (λ (z : Table). record z { shelf = v.shelf }) a.others;
  total = λ c. b.total c ∙ a.total c;
  count = λ c. let l = a.count c in let m = b.count c in let n = class_both c xs ys in omega (arith, l, m, n);
  spare = λ p. let l = a.spare p in let m = b.spare p in let n = at_both xs ys p in omega (arith, l, m, n);
}

-- the extent for a class that isn't 0
one_extent : (class place : ℕ) → 0 < class → extent_for class place ≡ record { place = place; class = class } ∷ []
one_extent class place l = cond-false (eqb class 0) [] (record { place = place; class = class } ∷ [])
    (other_number class 0 (λ z. omega (arith, z, l)))

pub one_lies_back : (class place end : ℕ) → 0 < class → ExtentsLie end (extent_for class place) → Lies class place end
one_lies_back class place end l f = subst (ExtentsLie end) (one_extent class place l) f 0
    (record { place = place; class = class }) (omega arith)

pub one_class_back : (class place : ℕ) → 0 < class → HaveClasses (extent_for class place) → (1 ≤ class) × (class ≤ 21)
one_class_back class place l f = subst HaveClasses (one_extent class place l) f 0
    (record { place = place; class = class }) (omega arith)

pub given_one : (class place : ℕ) (t u : Table) → 1 ≤ class → class ≤ 21 → u ≡ after_give_back class place t →
    GivenBack (extent_for class place) t u
given_one class place t u low high e =
    subst (λ xs. GivenBack xs t u) (sym (cond-false (eqb class 0) [] (record { place = place; class = class } ∷ [])
    (other_number class 0 (λ z. omega (arith, z, low)))))
    (give_step 0 (record { place = place; class = class } ∷ []) (record { place = place; class = class }) t t u
    (omega arith) low high (none_given t) e)

-- ---- refusals

times_self : (c : ℕ) → times c (c ∷ []) ≡ 1
times_self c = elim (eqb_tells c c) [
  | inl y ↦ (let one = ap one_if y.0 in omega (arith, one))
  | inr n ↦ absurd (n.1 refl)
]

-- where none of a class can be had, all that were ever new are in use
pub denied_one : (class : ℕ) (t u : Table) (r : Result ℕ StoreFault) → 1 ≤ class → class ≤ 21 →
    Reserves class t u r → IfErr r (Denies (class ∷ []) t u)
denied_one class t u (Ok p) low high h = tt
denied_one class t u (Err OutOfMemory) low high h = tt
denied_one class t u (Err (Full r n l)) low high h =
    let same : u ≡ t = h.0 in
    let k = h.1 in
    let none : length (t.shelf class).spare ≡ 0 = ap (λ (xs : List ℕ). length xs) k.none_spare in
    let one = times_self class in
    let total : (u.shelf class).total ≡ (t.shelf class).total = ap (λ (z : Table). (z.shelf class).total) same in
    record {
      class = class;
      low = low;
      high = high;
      few = omega (arith, none, one);
      short = omega (arith, none, one, total);
      reserved = k.reserved ∙ sym (ap (λ (z : Table). z.reserved) same);
      need = k.need;
      limit = k.limit;
      over = k.over;
    }

pub times_both : (k : ℕ) (ws vs : List ℕ) → times k (ws ++ vs) ≡ times k ws + times k vs
times_both k [] vs = omega arith
times_both k (x ∷ ws) vs = let e = times_both k ws vs in omega (arith, e)

-- wanting more is refused as well
pub denies_more : (ws vs : List ℕ) (t u : Table) (e : StoreFault) → Denies ws t u e → Denies (ws ++ vs) t u e
denies_more ws vs t u (Full r n l) k = record {
  class = k.class;
  low = k.low;
  high = k.high;
  few = let f = k.few in let m = times_both k.class ws vs in omega (arith, f, m);
  short = let f = k.short in let m = times_both k.class ws vs in omega (arith, f, m);
  reserved = k.reserved;
  need = k.need;
  limit = k.limit;
  over = k.over;
}
denies_more ws vs t u OutOfMemory k = tt

-- one that is refused after others were taken, which are then given back
pub denies_later : (ws : List ℕ) (c : ℕ) (xs : List Extent) (t u w : Table) (e : StoreFault) → Claims xs t u →
    ((k : ℕ) → 1 ≤ k → of_class k xs ≡ times k ws) → w.reserved ≡ u.reserved
    → ((k : ℕ) → (w.shelf k).total ≡ (u.shelf k).total) → Denies (c ∷ []) u u e → Denies (ws ++ c ∷ []) t w e
denies_later ws c xs t u w (Full r n l) a same reserved total k = record {
  class = k.class;
  low = k.low;
  high = k.high;
  few = let f = k.few in let g = a.count k.class in let h = a.total k.class in let s = same k.class k.low in let m =
      times_both k.class ws (c ∷ []) in omega (arith, f, g, h, s, m);
  short = let f = k.short in let g = a.count k.class in let s = same k.class k.low in let m =
      times_both k.class ws (c ∷ []) in let e = total k.class in omega (arith, f, g, s, m, e);
  reserved = k.reserved ∙ sym reserved;
  need = k.need;
  limit = k.limit ∙ ap limit a.others;
  over = k.over;
}
denies_later ws c xs t u w OutOfMemory a same reserved total k = tt

-- what was taken is given back where the next is refused
module _ (ws : List ℕ) (c : ℕ) (xs : List Extent) (t u v w : Table) (a : Claims xs t u) (e : v ≡ u)
    (g : GivenBack xs v w) where
  given_then : GivenBack xs u w
  given_then = subst (λ z. GivenBack xs z w) e g

  pub returned : Claims [] t w
  returned = claims_back xs t u w a given_then

  pub denied : (x : StoreFault) → ((k : ℕ) → 1 ≤ k → of_class k xs ≡ times k ws) → Denies (c ∷ []) u v x →
      Denies (ws ++ c ∷ []) t w x
  denied x same d = denies_later ws c xs t u w x a same (ap (λ (z : Table). z.reserved) given_then.others)
      given_then.total (subst (λ z. Denies (c ∷ []) u z x) e d)

-- the extents for one class, and for two
pub same_one : (class place : ℕ) → (k : ℕ) → 1 ≤ k → of_class k (extent_for class place) ≡ times k (class ∷ [])
same_one class place k l = let e = class_for k class place l in omega (arith, e)

pub same_two : (first one second two : ℕ) → (k : ℕ) → 1 ≤ k →
    of_class k (extent_for first one ++ extent_for second two) ≡ times k (first ∷ second ∷ [])
same_two first one second two k l =
    let e = class_both k (extent_for first one) (extent_for second two) in
    let a = class_for k first one l in
    let b = class_for k second two l in
    omega (arith, e, a, b)

-- the parts of two extents, one given back after the other
module _ (xs ys : List Extent) (t u v : Table) (a : Claims (xs ++ ys) t u) (e : v ≡ u) where
  pub first_lie : ExtentsLie v.reserved xs
  first_lie i d l = subst (λ z. Lies (get_or xs i d).class (get_or xs i d).place z)
      (sym (ap (λ (z : Table). z.reserved) e))
      (subst (λ (y : Extent). Lies y.class y.place u.reserved) (get_or_append_left xs ys d i l)
      (a.lie i d (let m = length-append xs ys in omega (arith, l, m))))

  pub second_lie : ExtentsLie v.reserved ys
  second_lie i d l = subst (λ z. Lies (get_or ys i d).class (get_or ys i d).place z)
      (sym (ap (λ (z : Table). z.reserved) e))
      (subst (λ (y : Extent). Lies y.class y.place u.reserved) (get_or-append-add xs ys i d)
      (a.lie (length xs + i) d (let m = length-append xs ys in omega (arith, l, m))))

  pub first_classes : HaveClasses xs
  first_classes i d l = subst (λ (y : Extent). (1 ≤ y.class) × (y.class ≤ 21)) (get_or_append_left xs ys d i l)
      (a.classes i d (let m = length-append xs ys in omega (arith, l, m)))

  pub second_classes : HaveClasses ys
  second_classes i d l = subst (λ (y : Extent). (1 ≤ y.class) × (y.class ≤ 21)) (get_or-append-add xs ys i d)
      (a.classes (length xs + i) d (let m = length-append xs ys in omega (arith, l, m)))

  pub room_both : IsTable t → HaveRoom (xs ++ ys) v
  room_both w = subst (HaveRoom (xs ++ ys)) (sym e) (room_claimed (xs ++ ys) t u w a)

pub first_room : (xs ys : List Extent) (t : Table) → HaveRoom (xs ++ ys) t → HaveRoom xs t
first_room xs ys t r = λ c. let h = r c in let e = class_both c xs ys in omega (arith, h, e)

-- once the first ones were given back
pub second_room : (xs ys : List Extent) (t u : Table) → HaveRoom (xs ++ ys) t → GivenBack xs t u → HaveRoom ys u
second_room xs ys t u r g = λ c. let h = r c in let e = class_both c xs ys in let l = g.count c in let m = g.total c in
    omega (arith, h, e, l, m)

-- where the extent of a class ends
pub size_of_some : (c : ℕ) → 0 < c → size_of c ≡ 2 ^ c
size_of_some zero l = absurd (omega arith)
size_of_some (suc c) l = size_of_next c

pub ends_within : (class end : ℕ) (r : Result ℕ StoreFault) → 0 < class → IfOk r (λ p. Lies class p end) →
    IfOk r (λ p. p + size_of class ≤ end)
ends_within class end (Ok p) l h = let e = size_of_some class l in let m = h.within in omega (arith, e, m)
ends_within class end (Err e) l h = tt

-- no more is reserved than that
pub grows_by : (class : ℕ) (t u : Table) (r : Result ℕ StoreFault) → 0 < class → Reserves class t u r →
    IfOk r (λ p. u.reserved ≤ t.reserved + size_of class)
grows_by class t u (Err e) l h = tt
grows_by class t u (Ok p) l h = elim h [
  | inl x ↦ (let e : u.reserved ≡ t.reserved = ap (λ (z : Table). z.reserved) x.table in omega (arith, e))
  | inr x ↦ (let e : u.reserved ≡ t.reserved + 2 ^ class = ap (λ (z : Table). z.reserved) x.table in let s =
      size_of_some class l in omega (arith, e, s))
]
