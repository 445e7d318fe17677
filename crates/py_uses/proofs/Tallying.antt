-- What is gathered in parts.
use Rattle.std.proofs.Common.{◌≡◌, ℕ, zero, suc, ◌+◌, List, [], ◌∷◌, ◌++◌, refl, sym, ap, ◌∙◌, arith, Bool}
use Rattle.py_uses.specs.declared.tally.Place.{Place}
use Rattle.py_templates.specs.Uses.{Use, Text, Global, Keys, Inside, Uses, in_turn, body_used}
use Rattle.py_uses.specs.inner.Tallies.{Tally, tally, tally_one, bump, done, inside, locals_in}

pub tally_append : (t : Tally) (us vs : List Use) → tally t (us ++ vs) ≡ tally (tally t us) vs
tally_append t [] vs = refl
tally_append t (u ∷ us) vs = tally_append (tally_one t u) us vs

pub two : (o : Tally) (us vs : List Use) {p q : Tally} → p ≡ tally o us → q ≡ tally p vs → q ≡ tally o (us ++ vs)
two o us vs e f = f ∙ ap (λ z. tally z vs) e ∙ sym (tally_append o us vs)

one_next : (t : Tally) (u : Use) → (tally_one t u).next ≡ t.next
one_next t (Text x) = refl
one_next t (Global x) = refl
one_next t (Keys b ks) = refl

pub tally_next : (t : Tally) (us : List Use) → (tally t us).next ≡ t.next
tally_next t [] = refl
tally_next t (u ∷ us) = tally_next (tally_one t u) us ∙ one_next t u

one_moved : (t : Tally) (n : ℕ) (u : Use) → tally_one (record t { next = n }) u ≡ record (tally_one t u) { next = n }
one_moved t n (Text x) = refl
one_moved t n (Global x) = refl
one_moved t n (Keys b ks) = refl

moved : (t : Tally) (n : ℕ) (us : List Use) → tally (record t { next = n }) us ≡ record (tally t us) { next = n }
moved t n [] = refl
moved t n (u ∷ us) = ap (λ z. tally z us) (one_moved t n u) ∙ moved (tally_one t u) n us

pub bump_is : (t : Tally) (n : ℕ) → bump t n ≡ record t { next = t.next + n }
bump_is t zero = let e : t.next ≡ t.next + zero = omega arith in ap (λ n. record t { next = n }) e
bump_is t (suc n) = refl

bump_tally : (t : Tally) (n : ℕ) (us : List Use) → tally (bump t n) us ≡ bump (tally t us) n
bump_tally t n us =
    ap (λ z. tally z us) (bump_is t n) ∙ moved t (t.next + n) us
    ∙ ap (λ k. record (tally t us) { next = k + n }) (sym (tally_next t us))
    ∙ sym (bump_is (tally t us) n)

later : ℕ → Tally → Tally
later n z = record z { next = z.next + n }

bump_both : (t : Tally) (m n : ℕ) → bump (bump t m) n ≡ bump t (m + n)
unfolding later
bump_both t m n =
    let e : t.next + m + n ≡ t.next + (m + n) = omega arith in
    bump_is (bump t m) n ∙ ap (later n) (bump_is t m) ∙ ap (λ k. record t { next = k }) e ∙ sym (bump_is t (m + n))

-- one statement after another
pub turn : (o : Tally) (b : Inside) (s t : Uses) {p q : Tally} → p ≡ done o b s → q ≡ done p b t →
    q ≡ done o b (in_turn s t)
turn o b s t {p} e f =
    f ∙ ap (λ z. done z b t) e
    ∙ ap (λ k. bump (tally (bump (tally o (s.uses b o.next)) s.bodies) (t.uses b k)) t.bodies) next
    ∙ ap (λ z. bump z t.bodies) (bump_tally (tally o (s.uses b o.next)) s.bodies (t.uses b (o.next + s.bodies)))
    ∙ bump_both (tally (tally o (s.uses b o.next)) (t.uses b (o.next + s.bodies))) s.bodies t.bodies
    ∙ ap (λ z. bump z (s.bodies + t.bodies)) (sym (tally_append o (s.uses b o.next) (t.uses b (o.next + s.bodies))))
  where
    next : (bump (tally o (s.uses b o.next)) s.bodies).next ≡ o.next + s.bodies
    next = ap (λ z. z.next) (bump_is (tally o (s.uses b o.next)) s.bodies) ∙
        ap (λ k. k + s.bodies) (tally_next o (s.uses b o.next))

-- a body, behind what stands before it in the body round it
pub within : (all : List (List (List ℕ))) (o : Tally) (b : Inside) (before : Inside → List Use) (is_class : Bool)
    (ss : Uses) (place : Place) {p q r : Tally} →
    p ≡ tally o (before b) → place ≡ record { number = p.next; is_class = is_class } → q ≡ bump p 1 →
    r ≡ done q (inside all place) ss →
    r ≡ done o b (body_used (locals_in all) before is_class ss)
within all o b before is_class ss place {p} e at f g =
    g ∙ ap (λ z. done z (inside all place) ss) (f ∙ bump_is p 1)
    ∙ ap (λ z. done (record p { next = p.next + 1 }) (inside all z) ss) at
    ∙ ap (λ z. done (record z { next = z.next + 1 }) (inside all (record { number = z.next; is_class = is_class })) ss)
    e
    ∙ ap (λ k. bump (tally (record (tally o (before b)) { next = k + 1 })
    (ss.uses (inside all (record { number = k; is_class = is_class })) (k + 1))) ss.bodies)
    (tally_next o (before b))
    ∙ ap (λ z. bump (tally z us) ss.bodies)
    (ap (λ k. record (tally o (before b)) { next = k + 1 }) (sym (tally_next o (before b))) ∙
    sym (bump_is (tally o (before b)) 1))
    ∙ ap (λ z. bump z ss.bodies) (bump_tally (tally o (before b)) 1 us)
    ∙ bump_both (tally (tally o (before b)) us) 1 ss.bodies
    ∙ ap (λ z. bump z (1 + ss.bodies)) (sym (tally_append o (before b) us))
  where
    us : List Use
    us = ss.uses (record { number = o.next; is_class = is_class; locals = locals_in all o.next }) (o.next + 1)
