-- Whatever the row, a sight only grows.
use Rattle.std.proofs.Common.{◌≡◌, ℕ, ◌*◌, ◌≤◌, ◌==◌, Bool, true, false, cond, ◌||◌, ◌&&◌, eqb, List, [], ◌∷◌, ◌++◌, length, Some, None, refl, sym, ◌∙◌, ap, subst, inl, inr, arith}
use Rattle.std.proofs.lemmas.Bool.{cases_Bool, both_ways, or_cases, or_parts, or_right, or_left, eqb-true, eq-eqb, cond-true, cond-false}
use Rattle.std.proofs.lemmas.Bool.Decides.{nat_tests}
use Rattle.py_data.specs.declared.value.Value.{Value}
use Rattle.py_data.specs.declared.change.Change.{Change}
use Rattle.py_data.specs.declared.change.Change.TheVariants.{Set, Push, Cut, Pair, Unpair}
use Rattle.py_base.specs.declared.kind.Kind.{Kind}
use Rattle.py_data.specs.Changes.{after, IsFor}
use Rattle.py_data.specs.Heap.{Heap, Marks, Rec, put_at, is_tracked, with_push}
use Rattle.py_data.specs.Row.{Call, Reply, Row, Ret, Do, Read, Find, Edit, Make, Start, Put, Take, MidLine, SetMidLine}
use Rattle.py_data.specs.Sense.{Run}
use Rattle.py_data.specs.Sight.{Sight, Act, Does, looked_at, edited, made_new, started_one, in_world, mem}
use Rattle.py_data.specs.World.{World, wrote, took}
use Rattle.py_data.specs.Frames.{KeptAs, Grows}

pub with_rec_here : (a : ℕ) (r : Rec) (h : Heap) → put_at h a r a ≡ Some r
with_rec_here a r h = cond-true (eqb a a) (Some r) (h a) (eq-eqb a a refl)

pub with_rec_there : (a b : ℕ) (r : Rec) (h : Heap) → eqb b a ≡ false → put_at h a r b ≡ h b
with_rec_there a b r h e = cond-false (eqb b a) (Some r) (h b) e

pub kept_same : (r : Rec) → KeptAs r r
kept_same r = record { kind = refl; first = refl; room = omega arith }

pub kept_trans : (r q p : Rec) → KeptAs r q → KeptAs q p → KeptAs r p
kept_trans r q p g h = record {
  kind = h.kind ∙ g.kind;
  first = h.first ∙ g.first;
  room = let x = g.room in let y =
      h.room in omega arith;
}

-- a room doubles or stays
room_more : (b : Bool) (room : ℕ) → room ≤ cond b (cond (room == 0) 1 (2 * room)) room
room_more false room = omega arith
room_more true room = doubles room (room == 0) (λ e. grind (arith, nat_tests))
  where
    doubles : (room : ℕ) (b : Bool) → (b ≡ true → room ≤ 1) → room ≤ cond b 1 (2 * room)
    doubles room true f = f refl
    doubles room false f = omega arith

kept_push : (v : Value) (r : Rec) → KeptAs r (with_push v r)
kept_push v r = record { kind = refl; first = refl; room = room_more (length r.values == r.room) r.room }

-- whatever the change
pub kept_after : (x : Change) (r : Rec) → KeptAs r (after x r)
kept_after (Push v) r = kept_push v r
kept_after (Pair key v) r = kept_trans r (with_push key r) (after (Pair key v) r) (kept_push key r)
    (kept_push v (with_push key r))
kept_after (Set i v) r = record { kind = refl; first = refl; room = omega arith }
kept_after (Cut n) r = record { kind = refl; first = refl; room = omega arith }
kept_after (Unpair n) r = record { kind = refl; first = refl; room = omega arith }

-- a change is of a tracked record
pub for_tracked : (x : Change) (k : Kind) → IsFor x k → is_tracked k ≡ true
for_tracked (Set i v) k e = e
for_tracked (Push v) k e = ap is_tracked e
for_tracked (Cut n) k e = ap is_tracked e
for_tracked (Pair key v) k e = ap is_tracked e
for_tracked (Unpair n) k e = ap is_tracked e

pub mem_append : (a : ℕ) (xs ys : List ℕ) → mem a (xs ++ ys) ≡ (mem a xs || mem a ys)
mem_append a [] ys = refl
mem_append a (x ∷ xs) ys = elim (eqb a x) as (λ b. (b || mem a (xs ++ ys)) ≡ ((b || mem a xs) || mem a ys))
    [ true ↦ refl | false ↦ mem_append a xs ys ]

-- where no record is changed or made: what was looked at and whether the world was used only rise, and an unused world
-- stays
pub grows_beside : {S : Type 0} (s : Sight S) (looked : Marks) (started : List S) (world : World) (used : Bool) →
    ((a : ℕ) → s.looked a ≡ true → looked a ≡ true) → (s.used ≡ true → used ≡ true) → (used ≡ false → world ≡ s.world)
    → Grows s (record s { looked = looked; started = started; world = world; used = used })
grows_beside s looked started world used marks uses stays = record {
  looked = marks;
  touched = λ a h. h;
  used = uses;
  same = λ a h. refl;
  world = stays;
  kept = λ a r h. (r, h, kept_same r);
  fixed = λ a r h e. h;
  seen = λ a r h g e. absurd (both_ways (s.touched a) h g);
  fresh = λ a h g e. absurd (both_ways (s.touched a) h g);
  names = λ a e. e;
}

pub grows_refl : {S : Type 0} (s : Sight S) → Grows s s
grows_refl s = grows_beside s s.looked s.started s.world s.used (λ a h. h) (λ h. h) (λ h. refl)

-- a test that was true stays so: one that is false was false
pub back : (x y : Bool) → (x ≡ true → y ≡ true) → y ≡ false → x ≡ false
back true y f e = absurd (both_ways y e (f refl))
back false y f e = refl

pub grows_trans : {S : Type 0} (s t u : Sight S) → Grows s t → Grows t u → Grows s u
grows_trans s t u g h = record {
  looked = λ a e. h.looked a (g.looked a e);
  touched = λ a e. h.touched a (g.touched a e);
  used = λ e. h.used (g.used e);
  same = λ a e. h.same a e ∙ g.same a (back (t.touched a) (u.touched a) (h.touched a) e);
  world = λ e. h.world e ∙ g.world (back t.used u.used h.used e);
  kept = λ a r e. let k = g.kept a r e in let l = h.kept a k.0 k.1 in (l.0, l.1, kept_trans r k.0 l.0 k.2 l.2);
  fixed = λ a r e f. h.fixed a r (g.fixed a r e f) f;
  seen = λ a r e f is. elim (cases_Bool (t.touched a)) [
    | inl y ↦ let k = g.seen a r e y is in (h.looked a k.0, k.1)
    | inr n ↦ h.seen a r n f (g.same a n ∙ is)
  ];
  fresh = λ a e f is. elim (cases_Bool (t.touched a)) [
    | inl y ↦ h.names a (g.fresh a e y is)
    | inr n ↦ h.fresh a n f (g.same a n ∙ is)
  ];
  names = λ a e. h.names a (g.names a e);
}

pub grows_look : {S : Type 0} (a : ℕ) (r : Rec) (s : Sight S) → Grows s (looked_at a r s)
grows_look a r s = grows_beside s _ s.started s.world s.used
    (λ b e. or_right (eqb b a && is_tracked r.kind) (s.looked b) e) (λ h. h) (λ h. refl)

pub grows_start : {S : Type 0} (p : S) (s : Sight S) → Grows s (started_one p s)
grows_start p s = grows_beside s s.looked _ s.world s.used (λ a h. h) (λ h. h) (λ h. refl)

pub grows_world : {S : Type 0} (w : World) (s : Sight S) → Grows s (in_world w s)
grows_world w s = grows_beside s s.looked s.started w true (λ a h. h) (λ h. refl) (λ h. absurd (both_ways true h refl))

pub grows_edit : {S : Type 0} (a : ℕ) (r r' : Rec) (s : Sight S) → s.heap a ≡ Some r → is_tracked r.kind ≡ true →
    KeptAs r r' → Grows s (edited a r' s)
grows_edit a r r' s is moves same_kind = record {
  looked = λ b e. or_right (eqb b a) (s.looked b) e;
  touched = λ b e. or_right (eqb b a) (s.touched b) e;
  used = λ h. h;
  same = λ b e. with_rec_there a b r' s.heap (or_parts (eqb b a) (s.touched b) e).0;
  world = λ h. refl;
  kept = λ b q e. elim (cases_Bool (eqb b a)) [
    | inl y ↦ (
      r',
      cond-true (eqb b a) (Some r') (s.heap b) y,
      subst (λ (o : Rec). KeptAs o r') (same_rec a b r q s.heap y is e) same_kind,
    )
    | inr n ↦ (q, with_rec_there a b r' s.heap n ∙ e, kept_same q)
  ];
  fixed = λ b q e f. elim (cases_Bool (eqb b a)) [
    | inl y ↦ absurd (both_ways (is_tracked q.kind) f
        (ap (λ (o : Rec). is_tracked o.kind) (sym (same_rec a b r q s.heap y is e)) ∙ moves))
    | inr n ↦ with_rec_there a b r' s.heap n ∙ e
  ];
  seen = λ b q e f h. elim (or_cases (eqb b a) (s.touched b) f) [
    | inl y ↦ (
      or_left (eqb b a) (s.looked b) y,
      ap (λ (o : Rec). is_tracked o.kind) (sym (same_rec a b r q s.heap y is h)) ∙ moves,
    )
    | inr y ↦ absurd (both_ways (s.touched b) e y)
  ];
  fresh = λ b e f h. elim (or_cases (eqb b a) (s.touched b) f) [
    | inl y ↦ absurd (let e1 : s.heap b ≡ Some r = ap s.heap (eqb-true b a y) ∙ is in cc)
    | inr y ↦ absurd (both_ways (s.touched b) e y)
  ];
  names = λ b e. e;
}
  where
    same_rec : (a b : ℕ) (r q : Rec) (h : Heap) → eqb b a ≡ true → h a ≡ Some r → h b ≡ Some q → r ≡ q
    same_rec a b r q h y is e = let e1 : h b ≡ Some r = ap h (eqb-true b a y) ∙ is in cc

pub grows_make : {S : Type 0} (n : ℕ) (r : Rec) (s : Sight S) → s.heap n ≡ None → Grows s (made_new n r s)
grows_make n r s is = record {
  looked = λ b e. e;
  touched = λ b e. or_right (eqb b n) (s.touched b) e;
  used = λ h. h;
  same = λ b e. with_rec_there n b r s.heap (or_parts (eqb b n) (s.touched b) e).0;
  world = λ h. refl;
  kept = λ b q e. elim (cases_Bool (eqb b n)) [
    | inl y ↦ absurd (taken n b q s.heap y is e)
    | inr y ↦ (q, with_rec_there n b r s.heap y ∙ e, kept_same q)
  ];
  fixed = λ b q e f. elim (cases_Bool (eqb b n)) [
    | inl y ↦ absurd (taken n b q s.heap y is e)
    | inr y ↦ with_rec_there n b r s.heap y ∙ e
  ];
  seen = λ b q e f h. elim (or_cases (eqb b n) (s.touched b) f) [
    | inl y ↦ absurd (taken n b q s.heap y is h)
    | inr y ↦ absurd (both_ways (s.touched b) e y)
  ];
  fresh = λ b e f h. elim (or_cases (eqb b n) (s.touched b) f) [
    | inl y ↦ mem_append b s.made (n ∷ []) ∙ or_right (mem b s.made) (eqb b n || false) (or_left (eqb b n) false y)
    | inr y ↦ absurd (both_ways (s.touched b) e y)
  ];
  names = λ b e. mem_append b s.made (n ∷ []) ∙ or_left (mem b s.made) (eqb b n || false) e;
}
  where
    taken : (n b : ℕ) (q : Rec) (h : Heap) → eqb b n ≡ true → h n ≡ None → h b ≡ Some q → ⊥
    taken n b q h y is e = let e1 : h b ≡ None = ap h (eqb-true b n y) ∙ is in cc

-- one call
pub act_grows : {S : Type 0} (c : Call S) (s : Sight S) (r : Reply c) (t : Sight S) → Act c s r t → Grows s t
act_grows (Read a) s r t d = subst (Grows s) (sym d.1) (grows_look a r s)
act_grows (Find a key) s o t d = subst (Grows s) (sym d.4) (grows_look a d.0 s)
act_grows (Edit a x) s r t d =
    subst (Grows s) (sym d.3) (grows_edit a d.0 (after x d.0) s d.1 (for_tracked x d.0.kind d.2.0) (kept_after x d.0))
act_grows (Make q) s n t d = subst (Grows s) (sym d.1) (grows_make n q s d.0)
act_grows (Start p) s r t d = subst (Grows s) (sym d) (grows_start p s)
act_grows (Put on bytes) s r t d = subst (Grows s) (sym d) (grows_world (wrote on bytes s.world) s)
act_grows (Take most) s l t d = subst (Grows s) (sym d.1) (grows_world (took l s.world) s)
act_grows MidLine s mid t d = subst (Grows s) (sym d.1) (grows_world s.world s)
act_grows (SetMidLine mid) s r t d = subst (Grows s) (sym d) (grows_world (record s.world { mid = mid }) s)

-- and a row
pub does_grows : {S A : Type 0} (w : Row S A) (s t : Sight S) (y : A) → Does w s y t → Grows s t
unfolding Run
does_grows (Ret x) s t y d = subst (Grows s) (sym d.1) (grows_refl s)
does_grows (Do c k) s t y d = grows_trans s d.1 t (act_grows c s d.0 d.1 d.2) (does_grows (k d.0) d.1 t y d.3)
