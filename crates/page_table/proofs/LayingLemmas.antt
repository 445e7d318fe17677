-- How extents lie after each call.
use Rattle.std.proofs.Common.{◌≡◌, ◌≢◌, ℕ, zero, suc, ◌+◌, ◌-◌, ◌^◌, ◌%◌, ◌<◌, ◌≤◌, [], ◌∷◌, ◌++◌, length, get_or, Ok, refl, sym, ap, ◌∙◌, subst, inl, inr, ◌⊎◌, arith}
use Rattle.std.proofs.lemmas.List.{get_or_append_left, get_or-append_right}
use Rattle.std.proofs.lemmas.Bool.Decides.{eqb_tells, leb_tells}
use Rattle.std.proofs.lemmas.Nat.{pow_pos}
use Rattle.page_table.specs.Pages.{put, Shelf, Table, new_table, Lies, IsTable}
use Rattle.page_table.specs.Reserving.{with_shelf, TakesAgain, TakesNew, Reserves, after_give_back}
use Rattle.page_table.specs.Counting.{in_use}
use Rattle.page_table.specs.Laying.{Extents, no_extents, count_below, IsLaid}
use Rattle.page_table.proofs.Spans.{put_here, put_elsewhere, same_at_all, put_itself}
use Rattle.page_table.proofs.CountingLemmas.{one_more, take_law, give_law}
use Rattle.page_table.proofs.Keeping.{lies_later}

-- ---- counts

count_same : (n c : ℕ) (f g : Extents) → ((p : ℕ) → p < n → (f p ≡ g p) ⊎ ((f p ≢ c) × (g p ≢ c)))
    → count_below n c f ≡ count_below n c g
count_same zero c f g h = refl
count_same (suc n) c f g h = elim (h n (omega arith)) [
  | inl a ↦ rw (a, count_same n c f g (λ p l. h p (omega (arith, l)))) refl
  | inr a ↦ elim (eqb_tells (f n) c) [
    | inl x ↦ absurd (a.0 x.1)
    | inr x ↦ elim (eqb_tells (g n) c) [
      | inl y ↦ absurd (a.1 y.1)
      | inr y ↦ rw (x.0, y.0) (count_same n c f g (λ p l. h p (omega (arith, l))))
    ]
  ]
]

-- an extent more of class c, where none of it began
count_more : (n c p : ℕ) (f : Extents) → p < n → f p ≢ c → count_below n c (put p c f) ≡ count_below n c f + 1
count_more zero c p f low ne = absurd (omega (arith, low))
count_more (suc n) c p f low ne = elim (eqb_tells n p) [
  | inl a ↦
      let rest : count_below n c (put p c f) ≡ count_below n c f =
      count_same n c (put p c f) f (λ q l. inl (put_elsewhere p q c f (λ e. omega (arith, e, l, a.1)))) in
      let here : put p c f n ≡ c = put_here p n c f a.1 in
      let old : f n ≢ c = λ e. ne (ap f (sym a.1) ∙ e) in
      hit n c p f here old ∙ ap suc rest ∙ miss n c f old
  | inr a ↦
      let rest : count_below n c (put p c f) ≡ count_below n c f + 1 =
      count_more n c p f (omega (arith, low, a.1)) ne in
      elsewhere n c p f (put_elsewhere p n c f a.1) rest
]
  where
    hit : (n c p : ℕ) (f : Extents) → put p c f n ≡ c → f n ≢ c
        → count_below (suc n) c (put p c f) ≡ suc (count_below n c (put p c f))
    hit n c p f e ne = elim (eqb_tells (put p c f n) c) [ inl x ↦ rw x.0 refl | inr x ↦ absurd (x.1 e) ]

    miss : (n c : ℕ) (f : Extents) → f n ≢ c → suc (count_below n c f) ≡ count_below (suc n) c f + 1
    miss n c f ne = elim (eqb_tells (f n) c) [ inl x ↦ absurd (ne x.1) | inr x ↦ rw x.0 (omega arith) ]

    elsewhere : (n c p : ℕ) (f : Extents) → put p c f n ≡ f n → count_below n c (put p c f) ≡ count_below n c f + 1
        → count_below (suc n) c (put p c f) ≡ count_below (suc n) c f + 1
    elsewhere n c p f e rest = elim (eqb_tells (f n) c) [
      | inl x ↦ rw (e, x.0, rest) (omega arith)
      | inr x ↦ rw (e, x.0, rest) refl
    ]

-- no extent begins in the words that are added
count_later : (m n c : ℕ) (f : Extents) → ((p : ℕ) → n ≤ p → f p ≢ c) → count_below (m + n) c f ≡ count_below n c f
count_later zero n c f h = ap (λ k. count_below k c f) (omega arith)
count_later (suc m) n c f h =
    let e : suc m + n ≡ suc (m + n) = omega arith in
    ap (λ k. count_below k c f) e ∙ elim (eqb_tells (f (m + n)) c) [
      | inl x ↦ absurd (h (m + n) (omega arith) x.1)
      | inr x ↦ rw x.0 (count_later m n c f h)
    ]

-- one that is there is counted
count_some : (n c p : ℕ) (f : Extents) → p < n → f p ≡ c → 0 < count_below n c f
count_some zero c p f low e = absurd (omega (arith, low))
count_some (suc n) c p f low e = elim (eqb_tells (f n) c) [
  | inl x ↦ rw x.0 (omega arith)
  | inr x ↦ rw x.0 (count_some n c p f (go low (λ k. x.1 (ap f (sym k) ∙ e))) e)
]
  where
    go : p < suc n → p ≢ n → p < n
    go l ne = omega (arith, l, ne)

count_other : (n d c p : ℕ) (f : Extents) → f p ≢ d → c ≢ d → count_below n d (put p c f) ≡ count_below n d f
count_other n d c p f old new = count_same n d (put p c f) f (λ q l. elim (eqb_tells q p) [
  | inl a ↦ inr ((λ e. new (sym (put_here p q c f a.1) ∙ e)), λ e. old (ap f (sym a.1) ∙ e))
  | inr a ↦ inl (put_elsewhere p q c f a.1)
])

-- ---- one class has another shelf

laid_with : (all held : Extents) (c end : ℕ) (s : Shelf) (t : Table) → ((p : ℕ) → all p ≢ 0 → Lies (all p) p end)
    → ((p q : ℕ) → all p ≢ 0 → all q ≢ 0 → p < q → p + 2 ^ all p ≤ q) → ((p : ℕ) → held p ≢ 0 → all p ≡ held p)
    → ((i : ℕ) → i < length s.spare → (all (get_or s.spare i 0) ≡ c) × (held (get_or s.spare i 0) ≡ 0))
    → ((i j : ℕ) → i < j → j < length s.spare → get_or s.spare i 0 ≢ get_or s.spare j 0)
    → ((d i : ℕ) → d ≢ c → i < length (t.shelf d).spare
    → (all (get_or (t.shelf d).spare i 0) ≡ d) × (held (get_or (t.shelf d).spare i 0) ≡ 0))
    → ((d i j : ℕ) → d ≢ c → i < j → j < length (t.shelf d).spare
    → get_or (t.shelf d).spare i 0 ≢ get_or (t.shelf d).spare j 0)
    → ((d : ℕ) → 1 ≤ d → in_use (record t { reserved = end; shelf = put c s t.shelf }) d ≡ count_below end d held)
    → IsLaid all held (record t { reserved = end; shelf = put c s t.shelf })
laid_with all held c end s t lies apart known here once others once_others count = record {
  lies = lies;
  apart = apart;
  known = known;
  class = λ d i. (both d i).0;
  free = λ d i. (both d i).1;
  once = λ d i j l m. elim (eqb_tells d c) [
    | inl a ↦ subst (λ (z : Shelf). get_or z.spare i 0 ≢ get_or z.spare j 0) (sym (put_here c d s t.shelf a.1))
        (once i j l (subst (λ (z : Shelf). j < length z.spare) (put_here c d s t.shelf a.1) m))
    | inr a ↦ subst (λ (z : Shelf). get_or z.spare i 0 ≢ get_or z.spare j 0) (sym (put_elsewhere c d s t.shelf a.1))
        (once_others d i j a.1 l (subst (λ (z : Shelf). j < length z.spare) (put_elsewhere c d s t.shelf a.1) m))
  ];
  count = count;
}
  where
    at : (d i : ℕ) → i < length (put c s t.shelf d).spare
        → (all (get_or (put c s t.shelf d).spare i 0) ≡ d) × (held (get_or (put c s t.shelf d).spare i 0) ≡ 0)
    at d i l = elim (eqb_tells d c) [
      | inl a ↦
          let e = put_here c d s t.shelf a.1 in
          let x = here i (subst (λ (z : Shelf). i < length z.spare) e l) in
          subst (λ (z : Shelf). (all (get_or z.spare i 0) ≡ d) × (held (get_or z.spare i 0) ≡ 0)) (sym e)
          (x.0 ∙ sym a.1, x.1)
      | inr a ↦
          let e = put_elsewhere c d s t.shelf a.1 in
          subst (λ (z : Shelf). (all (get_or z.spare i 0) ≡ d) × (held (get_or z.spare i 0) ≡ 0)) (sym e)
          (others d i a.1 (subst (λ (z : Shelf). i < length z.spare) e l))
    ]

    both : (d i : ℕ) → (i < length (put c s t.shelf d).spare → all (get_or (put c s t.shelf d).spare i 0) ≡ d) ×
        (i < length (put c s t.shelf d).spare → held (get_or (put c s t.shelf d).spare i 0) ≡ 0)
    both d i = ((λ l. (at d i l).0), λ l. (at d i l).1)

below_end : (all held : Extents) (t : Table) → IsLaid all held t → (p : ℕ) → all p ≢ 0 → p < t.reserved
below_end all held t h p ne = let a = (h.lies p ne).within in let b = pow_pos (all p) in omega (arith, a, b)

none_past : (all held : Extents) (t : Table) → IsLaid all held t → (p : ℕ) → t.reserved ≤ p → (all p ≡ 0) × (held p ≡ 0)
none_past all held t h p past =
    (nothing, elim (eqb_tells (held p) 0) [ inl a ↦ a.1 | inr a ↦ absurd (a.1 (sym (h.known p a.1) ∙ nothing)) ])
  where
    nothing : all p ≡ 0
    nothing = elim (eqb_tells (all p) 0) [
      | inl a ↦ a.1
      | inr a ↦ let b = below_end all held t h p a.1
          in absurd (omega (arith, b, past))
    ]

-- ---- taken again

take_again : (c p : ℕ) (all held : Extents) (t u : Table) → IsTable t → 1 ≤ c → c ≤ 21 → TakesAgain c p t u
    → IsLaid all held t → (held p ≡ 0) × IsLaid (put p c all) (put p c held) u
take_again c p all held t u h low high a laid = (
  nobody,
  subst (λ z. IsLaid (put p c all) (put p c held) z) (sym a.table)
      (subst (λ z. IsLaid z (put p c held)
      (with_shelf c (record { spare = (u.shelf c).spare; total = (t.shelf c).total }) t)) (sym same)
      (laid_with all (put p c held) c t.reserved _ t laid.lies laid.apart known here once others
      (λ d i j ne. laid.once d i j) count)),
)
  where
    len : length (t.shelf c).spare ≡ length (u.shelf c).spare + 1
    len = one_more (u.shelf c).spare (t.shelf c).spare p a.spare

    front : (i : ℕ) → i < length (u.shelf c).spare → get_or (t.shelf c).spare i 0 ≡ get_or (u.shelf c).spare i 0
    front i l = ap (λ z. get_or z i 0) a.spare ∙ get_or_append_left (u.shelf c).spare (p ∷ []) 0 i l

    last : get_or (t.shelf c).spare (length (u.shelf c).spare) 0 ≡ p
    last = ap (λ z. get_or z (length (u.shelf c).spare) 0) a.spare
        ∙ get_or-append_right (u.shelf c).spare (p ∷ []) (length (u.shelf c).spare) (length (u.shelf c).spare) 0 refl
        (omega arith) ∙ ap (λ x. get_or (p ∷ []) x 0)
        (let z : length (u.shelf c).spare - length (u.shelf c).spare ≡ 0 = omega arith in z)

    class : all p ≡ c
    class = ap all (sym last) ∙ laid.class c (length (u.shelf c).spare) (omega (arith, len))

    nobody : held p ≡ 0
    nobody = ap held (sym last) ∙ laid.free c (length (u.shelf c).spare) (omega (arith, len))

    same : put p c all ≡ all
    same = ap (λ x. put p x all) (sym class) ∙ put_itself all p

    known : (q : ℕ) → put p c held q ≢ 0 → all q ≡ put p c held q
    known q ne = elim (eqb_tells q p) [
      | inl e ↦ ap all e.1 ∙ class ∙ sym (put_here p q c held e.1)
      | inr e ↦ let o = put_elsewhere p q c held e.1 in laid.known q (λ k. ne (o ∙ k)) ∙ sym o
    ]

    here : (i : ℕ) → i < length (u.shelf c).spare
        → (all (get_or (u.shelf c).spare i 0) ≡ c) × (put p c held (get_or (u.shelf c).spare i 0) ≡ 0)
    here i l =
        let ne : get_or (u.shelf c).spare i 0 ≢ p =
        λ e. laid.once c i (length (u.shelf c).spare) l (omega (arith, len)) (front i l ∙ e ∙ sym last) in (
          ap all (sym (front i l)) ∙ laid.class c i (omega (arith, len, l)),
          put_elsewhere p (get_or (u.shelf c).spare i 0) c held ne ∙ ap held (sym (front i l))
              ∙ laid.free c i (omega (arith, len, l)),
        )

    once : (i j : ℕ) → i < j → j < length (u.shelf c).spare
        → get_or (u.shelf c).spare i 0 ≢ get_or (u.shelf c).spare j 0
    once i j l m e = laid.once c i j l (omega (arith, len, m)) (front i (omega (arith, l, m)) ∙ e ∙ sym (front j m))

    others : (d i : ℕ) → d ≢ c → i < length (t.shelf d).spare
        → (all (get_or (t.shelf d).spare i 0) ≡ d) × (put p c held (get_or (t.shelf d).spare i 0) ≡ 0)
    others d i ne l =
        let of_d = laid.class d i l in
        let away : get_or (t.shelf d).spare i 0 ≢ p = λ e. ne (sym of_d ∙ ap all e ∙ class) in
        (of_d, put_elsewhere p (get_or (t.shelf d).spare i 0) c held away ∙ laid.free d i l)

    in_use_now : in_use (record t {
      reserved = t.reserved;
      shelf =
          put c (record { spare = (u.shelf c).spare; total = (t.shelf c).total }) t.shelf;
    }) ≡ put c (in_use t c + 1)
        (in_use t)
    in_use_now = ap in_use (sym a.table) ∙ take_law c p t u h (inl a)

    count : (d : ℕ) → 1 ≤ d
        → in_use (record t {
          reserved = t.reserved;
          shelf =
              put c (record {
                spare = (u.shelf c).spare;
                total =
                    (t.shelf c).total;
              }) t.shelf;
        }) d ≡ count_below t.reserved d (put p c held)
    count d some = ap (λ (f : ℕ → ℕ). f d) in_use_now ∙ elim (eqb_tells d c) [
      | inl e ↦ put_here c d (in_use t c + 1) (in_use t) e.1 ∙ ap (λ x. x + 1) (laid.count c low)
          ∙ sym (count_more t.reserved c p held (below_end all held t laid p (λ k. omega (arith, k, class, low)))
          (λ k. omega (arith, k, nobody, low))) ∙ ap (λ x. count_below t.reserved x (put p c held)) (sym e.1)
      | inr e ↦ put_elsewhere c d (in_use t c + 1) (in_use t) e.1 ∙ laid.count d some
          ∙ sym (count_other t.reserved d c p held (λ k. omega (arith, k, nobody, some)) (λ k. e.1 (sym k)))
    ]

-- ---- new

take_new : (c p : ℕ) (all held : Extents) (t u : Table) → IsTable t → 1 ≤ c → c ≤ 21 → TakesNew c p t u
    → IsLaid all held t → (held p ≡ 0) × IsLaid (put p c all) (put p c held) u
take_new c p all held t u h low high a laid = (
  (none p (omega (arith, a.place))).1,
  subst (λ z. IsLaid (put p c all) (put p c held) z) (sym a.table)
      (laid_with (put p c all) (put p c held) c (t.reserved + 2 ^ c) _ t lies apart known
      (λ i l. absurd (omega (arith, l))) (λ i j l m. absurd (omega (arith, m))) others
      (λ d i j ne. laid.once d i j) count),
)
  where
    none : (q : ℕ) → t.reserved ≤ q → (all q ≡ 0) × (held q ≡ 0)
    none = none_past all held t laid

    lies : (q : ℕ) → put p c all q ≢ 0 → Lies (put p c all q) q (t.reserved + 2 ^ c)
    lies q ne = elim (eqb_tells q p) [
      | inl e ↦ subst (λ x. Lies x q (t.reserved + 2 ^ c)) (sym (put_here p q c all e.1))
          (record {
            first = omega (arith, e.1, a.place, h.first);
            even = ap (λ x. x % 2) (e.1 ∙ a.place)
                ∙ h.even;
            within = omega (arith, e.1, a.place);
          })
      | inr e ↦ let o = put_elsewhere p q c all e.1
          in subst (λ x. Lies x q (t.reserved + 2 ^ c)) (sym o)
          (lies_later (all q) q t.reserved (t.reserved + 2 ^ c) (omega arith) (laid.lies q (λ k. ne (o ∙ k))))
    ]

    apart : (q r : ℕ) → put p c all q ≢ 0 → put p c all r ≢ 0 → q < r → q + 2 ^ put p c all q ≤ r
    apart q r nq nr l = elim (eqb_tells r p) [
      | inl e ↦
          let o = put_elsewhere p q c all (λ k. omega (arith, k, l, e.1)) in
          let w = (laid.lies q (λ k. nq (o ∙ k))).within in
          subst (λ x. q + 2 ^ x ≤ r) (sym o) (omega (arith, w, e.1, a.place))
      | inr e ↦
          let o = put_elsewhere p r c all e.1 in
          let end = below_end all held t laid r (λ k. nr (o ∙ k)) in
          let o1 = put_elsewhere p q c all (λ k. omega (arith, k, l, end, a.place)) in
          subst (λ x. q + 2 ^ x ≤ r) (sym o1) (laid.apart q r (λ k. nq (o1 ∙ k)) (λ k. nr (o ∙ k)) l)
    ]

    known : (q : ℕ) → put p c held q ≢ 0 → put p c all q ≡ put p c held q
    known q ne = elim (eqb_tells q p) [
      | inl e ↦ put_here p q c all e.1 ∙ sym (put_here p q c held e.1)
      | inr e ↦ let o = put_elsewhere p q c held e.1 in put_elsewhere p q c all e.1 ∙ laid.known q (λ k. ne (o ∙ k))
          ∙ sym o
    ]

    others : (d i : ℕ) → d ≢ c → i < length (t.shelf d).spare
        → (put p c all (get_or (t.shelf d).spare i 0) ≡ d) × (put p c held (get_or (t.shelf d).spare i 0) ≡ 0)
    others d i ne l =
        let w = (h.spare d i l).within in
        let b = pow_pos d in
        let away : get_or (t.shelf d).spare i 0 ≢ p = λ e. omega (arith, e, w, b, a.place) in (
          put_elsewhere p (get_or (t.shelf d).spare i 0) c all away
              ∙ laid.class d i l,
          put_elsewhere p (get_or (t.shelf d).spare i 0) c held away ∙ laid.free d i l,
        )

    in_use_now : in_use (record t {
      reserved = t.reserved + 2 ^ c;
      shelf =
          put c (record { spare = []; total = (t.shelf c).total + 1 }) t.shelf;
    }) ≡ put c (in_use t c + 1) (in_use t)
    in_use_now = ap in_use (sym a.table) ∙ take_law c p t u h (inr a)

    nobody : held p ≡ 0
    nobody = (none p (omega (arith, a.place))).1

    before : (d : ℕ) → 1 ≤ d → count_below (t.reserved + 2 ^ c) d held ≡ count_below t.reserved d held
    before d some = ap (λ n. count_below n d held)
        (let e : t.reserved + 2 ^ c ≡ 2 ^ c + t.reserved = omega arith in e)
        ∙ count_later (2 ^ c) t.reserved d held (λ q past k. omega (arith, (none q past).1, k, some))

    count : (d : ℕ) → 1 ≤ d
        → in_use (record t {
          reserved = t.reserved + 2 ^ c;
          shelf =
              put c (record { spare = []; total = (t.shelf c).total + 1 }) t.shelf;
        }) d ≡ count_below (t.reserved + 2 ^ c) d
        (put p c held)
    count d some = ap (λ (f : ℕ → ℕ). f d) in_use_now ∙ elim (eqb_tells d c) [
      | inl e ↦ put_here c d (in_use t c + 1) (in_use t) e.1 ∙ ap (λ x. x + 1) (laid.count c low ∙ sym (before c low))
          ∙ sym (count_more (t.reserved + 2 ^ c) c p held (omega (arith, a.place, pow_pos c))
          (λ k. omega (arith, k, nobody, low)))
          ∙ ap (λ x. count_below (t.reserved + 2 ^ c) x (put p c held)) (sym e.1)
      | inr e ↦ put_elsewhere c d (in_use t c + 1) (in_use t) e.1 ∙ laid.count d some ∙ sym (before d some)
          ∙ sym (count_other (t.reserved + 2 ^ c) d c p held (λ k. omega (arith, k, nobody, some)) (λ k. e.1 (sym k)))
    ]

pub take_laid : (c p : ℕ) (all held : Extents) (t u : Table) → IsTable t → 1 ≤ c → c ≤ 21 → Reserves c t u (Ok p)
    → IsLaid all held t → (held p ≡ 0) × IsLaid (put p c all) (put p c held) u
take_laid c p all held t u h low high (inl a) laid = take_again c p all held t u h low high a laid
take_laid c p all held t u h low high (inr a) laid = take_new c p all held t u h low high a laid

-- ---- given back

pub give_laid : (c p : ℕ) (all held : Extents) (t : Table) → 1 ≤ c → held p ≡ c → IsLaid all held t
    → Lies c p t.reserved × (0 < in_use t c) × IsLaid all (put p 0 held) (after_give_back c p t)
give_laid c p all held t low mine laid = (
  subst (λ x. Lies x p t.reserved) class (laid.lies p (λ k. omega (arith, k, class, low))),
  subst (λ x. 0 < x) (sym (laid.count c low)) (count_some t.reserved c p held inside mine),
  laid_with all (put p 0 held) c t.reserved _ t laid.lies laid.apart known here once others
      (λ d i j ne. laid.once d i j) count,
)
  where
    class : all p ≡ c
    class = laid.known p (λ k. omega (arith, k, mine, low)) ∙ mine

    inside : p < t.reserved
    inside = below_end all held t laid p (λ k. omega (arith, k, class, low))

    known : (q : ℕ) → put p 0 held q ≢ 0 → all q ≡ put p 0 held q
    known q ne = elim (eqb_tells q p) [
      | inl e ↦ absurd (ne (put_here p q 0 held e.1))
      | inr e ↦ let o = put_elsewhere p q 0 held e.1 in laid.known q (λ k. ne (o ∙ k)) ∙ sym o
    ]

    away : (x : ℕ) → held x ≡ 0 → x ≢ p
    away x e k = omega (arith, e, ap held k, mine, low)

    len : length ((t.shelf c).spare ++ p ∷ []) ≡ length (t.shelf c).spare + 1
    len = one_more (t.shelf c).spare ((t.shelf c).spare ++ p ∷ []) p refl

    front : (i : ℕ) → i < length (t.shelf c).spare
        → get_or ((t.shelf c).spare ++ p ∷ []) i 0 ≡ get_or (t.shelf c).spare i 0
    front i l = get_or_append_left (t.shelf c).spare (p ∷ []) 0 i l

    last : (i : ℕ) → length (t.shelf c).spare ≤ i → i < length ((t.shelf c).spare ++ p ∷ [])
        → get_or ((t.shelf c).spare ++ p ∷ []) i 0 ≡ p
    last i past l = get_or-append_right (t.shelf c).spare (p ∷ []) (length (t.shelf c).spare) i 0 refl past
        ∙ ap (λ x. get_or (p ∷ []) x 0) (let z : i - length (t.shelf c).spare ≡ 0 = omega (arith, past, l, len) in z)

    free : (x : ℕ) → held x ≡ 0 → put p 0 held x ≡ 0
    free x e = put_elsewhere p x 0 held (away x e) ∙ e

    here : (i : ℕ) → i < length ((t.shelf c).spare ++ p ∷ [])
        → (all (get_or ((t.shelf c).spare ++ p ∷ []) i 0) ≡ c) ×
        (put p 0 held (get_or ((t.shelf c).spare ++ p ∷ []) i 0) ≡ 0)
    here i l = elim (leb_tells (suc i) (length (t.shelf c).spare)) [
      | inl a ↦ let m : i < length (t.shelf c).spare = omega (arith, a.1)
          in (
            ap all (front i m) ∙ laid.class c i m,
            ap (put p 0 held) (front i m)
                ∙ free (get_or (t.shelf c).spare i 0) (laid.free c i m),
          )
      | inr a ↦ let e = last i (omega (arith, a.1)) l
          in (ap all e ∙ class, ap (put p 0 held) e ∙ put_here p p 0 held refl)
    ]

    once : (i j : ℕ) → i < j → j < length ((t.shelf c).spare ++ p ∷ [])
        → get_or ((t.shelf c).spare ++ p ∷ []) i 0 ≢ get_or ((t.shelf c).spare ++ p ∷ []) j 0
    once i j l m e =
        let first : i < length (t.shelf c).spare = omega (arith, l, m, len) in
        elim (leb_tells (suc j) (length (t.shelf c).spare)) [
          | inl a ↦ let n : j < length (t.shelf c).spare = omega (arith, a.1)
              in laid.once c i j l n (sym (front i first) ∙ e ∙ front j n)
          | inr a ↦ away (get_or (t.shelf c).spare i 0) (laid.free c i first)
              (sym (front i first) ∙ e ∙ last j (omega (arith, a.1)) m)
        ]

    others : (d i : ℕ) → d ≢ c → i < length (t.shelf d).spare
        → (all (get_or (t.shelf d).spare i 0) ≡ d) × (put p 0 held (get_or (t.shelf d).spare i 0) ≡ 0)
    others d i ne l = (laid.class d i l, free (get_or (t.shelf d).spare i 0) (laid.free d i l))

    back : put p c (put p 0 held) ≡ held
    back = same_at_all _ _ (λ q. elim (eqb_tells q p) [
      | inl e ↦ put_here p q c (put p 0 held) e.1 ∙ sym mine ∙ ap held (sym e.1)
      | inr e ↦ put_elsewhere p q c (put p 0 held) e.1 ∙ put_elsewhere p q 0 held e.1
    ])

    less : count_below t.reserved c held ≡ count_below t.reserved c (put p 0 held) + 1
    less = ap (count_below t.reserved c) (sym back)
        ∙ count_more t.reserved c p (put p 0 held) inside (λ k. omega (arith, put_here p p 0 held refl, k, low))

    count : (d : ℕ) → 1 ≤ d → in_use (after_give_back c p t) d ≡ count_below t.reserved d (put p 0 held)
    count d some = ap (λ (f : ℕ → ℕ). f d) (give_law c p t) ∙ elim (eqb_tells d c) [
      | inl e ↦ put_here c d (in_use t c - 1) (in_use t) e.1
          ∙ (let k = laid.count c low in let z : in_use t c - 1 ≡ count_below t.reserved c (put p 0 held) =
          omega (arith, k, less) in z) ∙ ap (λ x. count_below t.reserved x (put p 0 held)) (sym e.1)
      | inr e ↦ put_elsewhere c d (in_use t c - 1) (in_use t) e.1 ∙ laid.count d some
          ∙ sym (count_other t.reserved d 0 p held (λ k. e.1 (sym k ∙ mine)) (λ k. omega (arith, k, some)))
    ]

-- ---- nothing taken or given back

pub rest_laid : (all held : Extents) (t u : Table) → u.shelf ≡ t.shelf → u.reserved ≡ t.reserved → IsLaid all held t
    → IsLaid all held u
rest_laid all held t u e f laid = record {
  lies = λ p ne. subst (Lies (all p) p) (sym f) (laid.lies p ne);
  apart = laid.apart;
  known = laid.known;
  class = λ c i. subst (λ (z : ℕ → Shelf). i < length (z c).spare → all (get_or (z c).spare i 0) ≡ c) (sym e)
      (laid.class c i);
  free = λ c i. subst (λ (z : ℕ → Shelf). i < length (z c).spare → held (get_or (z c).spare i 0) ≡ 0) (sym e)
      (laid.free c i);
  once = λ c i j. subst
      (λ (z : ℕ → Shelf). i < j → j < length (z c).spare → get_or (z c).spare i 0 ≢ get_or (z c).spare j 0) (sym e)
      (laid.once c i j);
  count = λ c some. ap (λ (z : ℕ → Shelf). (z c).total - length (z c).spare) e ∙ laid.count c some
      ∙ ap (λ n. count_below n c held) (sym f);
}

pub new_laid : (segments pages : ℕ) → IsLaid no_extents no_extents (new_table segments pages)
new_laid segments pages = record {
  lies = λ p ne. absurd (ne refl);
  apart = λ p q ne. absurd (ne refl);
  known = λ p ne. absurd (ne refl);
  class = λ c i l. absurd (omega (arith, l));
  free = λ c i l. absurd (omega (arith, l));
  once = λ c i j l m. absurd (omega (arith, m));
  count = λ c some. nothing c some;
}
  where
    nothing : (c : ℕ) → 1 ≤ c → 0 ≡ count_below 2 c no_extents
    nothing c some = elim (eqb_tells 0 c) [ inl x ↦ absurd (omega (arith, x.1, some)) | inr x ↦ rw x.0 refl ]
