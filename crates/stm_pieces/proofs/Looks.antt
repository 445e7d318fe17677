-- What steps have looked at is there, and is tracked.
use Rattle.std.proofs.Common.{◌≡◌, ◌⊎◌, ℕ, zero, suc, Bool, true, false, ◌||◌, ◌&&◌, eqb, List, [], ◌∷◌, ◌++◌, Option, Some, None, IsSome, refl, sym, ◌∙◌, ap, subst, inl, inr}
use Rattle.std.proofs.lemmas.Bool.{cases_Bool, both_ways, or_cases, eqb-true, cond-true}
use Rattle.py_data.specs.declared.change.Change.{Change}
use Rattle.py_data.specs.Changes.{after}
use Rattle.py_data.specs.Heap.{Heap, Rec, Has, is_tracked, put_at}
use Rattle.py_data.specs.World.{World}
use Rattle.py_data.specs.Row.{Call, Reply, Row, Read, Find, Edit, Make, Start, Put, Take, MidLine, SetMidLine}
use Rattle.py_data.specs.Sight.{Sight, Act, Does, Edited, opened, pure, mem}
use Rattle.py_data.specs.Frames.{Grows}
use Rattle.py_data.proofs.Grow.{for_tracked, kept_after, grows_refl, grows_trans, act_grows}
use Rattle.py_data.proofs.Whole.{run_steps}
use Rattle.py_data.proofs.Mirror.{does_afresh}
use Rattle.lock_run.specs.Prog.{Prog}
use Rattle.stm_pieces.specs.Piece.{PieceSteps}

-- a tracked record is there
pub record Tracked (h : Heap) (a : ℕ) : Type 0 where
  pub rec : Rec
  pub is : h a ≡ Some rec
  pub tracked : is_tracked rec.kind ≡ true

-- what was looked at since is there, and tracked
abbrev pub LooksThere : {S : Type 0} → Sight S → Sight S → Type 0
LooksThere s t = (a : ℕ) → t.looked a ≡ true → (s.looked a ≡ true) ⊎ Tracked t.heap a

-- from one sight calls led to another
pub record Way {S : Type 0} (s t : Sight S) : Type 0 where
  pub grows : Grows s t
  pub looks : LooksThere s t

tracked_stays : {S : Type 0} (s t : Sight S) (a : ℕ) → Grows s t → Tracked s.heap a → Tracked t.heap a
tracked_stays s t a g r =
    let k = g.kept a r.rec r.is in
    record { rec = k.0; is = k.1; tracked = ap is_tracked k.2.kind ∙ r.tracked }

way_refl : {S : Type 0} (s : Sight S) → Way s s
way_refl s = record { grows = grows_refl s; looks = λ a e. inl e }

way_then : {S : Type 0} (s t u : Sight S) → Way s t → Way t u → Way s u
way_then s t u f g = record {
  grows = grows_trans s t u f.grows g.grows;
  looks = λ a e. elim (g.looks a e) [
    | inl m ↦ elim (f.looks a m) [ inl n ↦ inl n | inr r ↦ inr (tracked_stays t u a g.grows r) ]
    | inr r ↦ inr r
  ];
}

-- ---- one call
and_both : (x y : Bool) → (x && y) ≡ true → (x ≡ true) × (y ≡ true)
and_both true y e = (refl, e)
and_both false y e = absurd (both_ways false refl e)

look_there : {S : Type 0} (s : Sight S) (a : ℕ) (r : Rec) → s.heap a ≡ Some r → (b : ℕ) →
    ((eqb b a && is_tracked r.kind) || s.looked b) ≡ true → (s.looked b ≡ true) ⊎ Tracked s.heap b
look_there s a r is b e = elim (or_cases (eqb b a && is_tracked r.kind) (s.looked b) e) [
  | inl m ↦
      let k = and_both (eqb b a) (is_tracked r.kind) m in
      inr (record { rec = r; is = ap s.heap (eqb-true b a k.0) ∙ is; tracked = k.1 })
  | inr m ↦ inl m
]

edit_there : {S : Type 0} (s t : Sight S) (a : ℕ) (c : Change) → Edited a c s t → LooksThere s t
edit_there {S} s t a c h = subst (λ (z : Sight S). LooksThere s z) (sym h.3) by_mark
  where
    by_mark : (b : ℕ) → (eqb b a || s.looked b) ≡ true → (s.looked b ≡ true) ⊎
        Tracked (put_at s.heap a (after c h.0)) b
    by_mark b e = elim (or_cases (eqb b a) (s.looked b) e) [
      | inl m ↦ inr (record {
        rec = after c h.0;
        is = cond-true (eqb b a) (Some (after c h.0)) (s.heap b) m;
        tracked = ap is_tracked (kept_after c h.0).kind ∙ for_tracked c h.0.kind h.2.0;
      })
      | inr m ↦ inl m
    ]

stays_there : {S : Type 0} (s t : Sight S) → t.looked ≡ s.looked → LooksThere s t
stays_there s t e a m = inl (ap (λ l. l a) (sym e) ∙ m)

act_looks : {S : Type 0} (c : Call S) (s : Sight S) (r : Reply c) (t : Sight S) → Act c s r t → LooksThere s t
act_looks {S} (Read a) s r t h = subst (λ (z : Sight S). LooksThere s z) (sym h.1) (look_there s a r h.0)
act_looks {S} (Find a key) s r t h = subst (λ (z : Sight S). LooksThere s z) (sym h.4) (look_there s a h.0 h.1)
act_looks (Edit a c) s r t h = edit_there s t a c h
act_looks {S} (Make q) s n t h = stays_there s t (ap (λ (z : Sight S). z.looked) h.1)
act_looks {S} (Start q) s r t h = stays_there s t (ap (λ (z : Sight S). z.looked) h)
act_looks {S} (Put on b) s r t h = stays_there s t (ap (λ (z : Sight S). z.looked) h)
act_looks {S} (Take most) s r t h = stays_there s t (ap (λ (z : Sight S). z.looked) h.1)
act_looks {S} MidLine s r t h = stays_there s t (ap (λ (z : Sight S). z.looked) h.1)
act_looks {S} (SetMidLine b) s r t h = stays_there s t (ap (λ (z : Sight S). z.looked) h)

-- ---- rows and steps
row_way : {S A : Type 0} (row : Row S A) (s t : Sight S) (b : A) → Does row s b t → Way s t
row_way {S} row s t b d =
    run_steps pure Way way_refl way_then
    (λ c v r w h. record { grows = act_grows c v r w h; looks = act_looks c v r w h }) row s b t d

-- steps of a piece are such a way
pub steps_way : {S : Type 0} (p : Prog S) (g : Heap) (n : ℕ) (q q1 : S) (s t : Sight S) → PieceSteps p g n q s q1 t →
    Way s t
steps_way p g zero q q1 s t h = subst (Way s) (sym h.1) (way_refl s)
steps_way p g (suc n) q q1 s t h =
    way_then s h.1 t (steps_way p g n q h.0 s h.1 h.2) (row_way (p.row h.0) h.1 t (h.3.outcome, q1) h.3.does)

-- ---- steps from a heap that made nothing
none_of : (xs : List ℕ) (a : ℕ) → xs ≡ [] → mem a xs ≡ true → ⊥
none_of xs a e m = both_ways (mem a xs) (ap (mem a) e) m

some_is : (o : Option Rec) → IsSome o → (r : Rec) × (o ≡ Some r)
some_is None s = absurd cc
some_is (Some r) s = (r, refl)

has_is : (h : Heap) (a : ℕ) (r : Rec) → h a ≡ Some r → Has h a
has_is h a r e = subst IsSome (sym e) refl

-- a record that is there was there before
was_there : {S : Type 0} (s t : Sight S) (a : ℕ) (o : Option Rec) → s.heap a ≡ o → Grows s t → s.touched a ≡ false →
    t.made ≡ [] → Has t.heap a → (r : Rec) × (s.heap a ≡ Some r)
was_there s t a (Some r) e g u m h = (r, e)
was_there s t a None e g u m h = elim (cases_Bool (t.touched a)) [
  | inl y ↦ absurd (none_of t.made a m (g.fresh a u y e))
  | inr n ↦ some_is (s.heap a) (subst IsSome (g.same a n) h)
]

-- what is looked at is a tracked record of the loan
pub looked_loaned : {S : Type 0} (g : Heap) (w : World) (t : Sight S) → Way (opened S g w) t → t.made ≡ [] → (a : ℕ) →
    t.looked a ≡ true → Tracked g a
looked_loaned {S} g w t y m a e = elim (y.looks a e) [
  | inl n ↦ absurd (both_ways false refl n)
  | inr r ↦
      let b = was_there (opened S g w) t a (g a) refl y.grows refl m (has_is t.heap a r.rec r.is) in
      let k = y.grows.kept a b.0 b.1 in
      let same : ◌≡◌ {A = Option Rec} (Some k.0) (Some r.rec) = sym k.1 ∙ r.is in
      let z : k.0 ≡ r.rec = cc in
      record {
        rec = b.0;
        is = b.1;
        tracked = ap is_tracked (sym k.2.kind ∙ ap (λ (x : Rec). x.kind) z) ∙ r.tracked;
      }
]

-- what was touched is there
pub touched_there : {S : Type 0} (s t : Sight S) → Grows s t → ((a : ℕ) → s.touched a ≡ true → Has s.heap a) →
    t.made ≡ [] → (a : ℕ) → t.touched a ≡ true → Has t.heap a
touched_there s t g f m a e = by_old (s.heap a) refl
  where
    kept_there : (r : Rec) → s.heap a ≡ Some r → Has t.heap a
    kept_there r is = let k = g.kept a r is in has_is t.heap a k.0 k.1

    by_old : (o : Option Rec) → s.heap a ≡ o → Has t.heap a
    by_old (Some r) is = kept_there r is
    by_old None is = elim (cases_Bool (s.touched a)) [
      | inl y ↦ let r = some_is (s.heap a) (f a y) in kept_there r.0 r.1
      | inr n ↦ absurd (none_of t.made a m (g.fresh a n e is))
    ]

-- ---- what is nothing at the end was nothing before
nil_front : {A : Type 0} (xs ys : List A) → xs ++ ys ≡ [] → xs ≡ []
nil_front [] ys e = refl
nil_front (x ∷ xs) ys e = absurd cc

pub quiet_before : {S A : Type 0} (row : Row S A) (s t : Sight S) (b : A) → Does row s b t → t.made ≡ [] →
    t.started ≡ [] → (s.made ≡ []) × (s.started ≡ [])
quiet_before row s t b d m st =
    let f = (does_afresh row s t b d).1 in
    (nil_front s.made _ (sym f.made ∙ m), nil_front s.started _ (sym f.started ∙ st))
