-- The frame law, for all rows: the same row over another heap and world that agree on what it looks at.
use Rattle.std.proofs.Common.{◌≡◌, ℕ, ◌+◌, Bool, true, false, cond, ◌||◌, ◌&&◌, eqb, List, [], ◌∷◌, ◌++◌, Option, Some, None, refl, sym, ◌∙◌, ap, subst, inl, inr, append_assoc, append-nil}
use Rattle.std.proofs.lemmas.Bool.{cases_Bool, both_ways, or_cases, or_parts, or_right, or_left, eq-eqb, cond-true, and_from}
use Rattle.py_data.specs.declared.value.Value.{Value}
use Rattle.py_data.specs.declared.value.Value.TheVariants.{Unset, None as NoneValue, Bool as BoolValue, Int, Ref, Builtin}
use Rattle.py_base.specs.declared.kind.Kind.{Kind}
use Rattle.py_base.specs.declared.kind.Kind.TheVariants.{Str, Tuple, List as ListKind, Dict, Cell, Function, Class, Instance, Method, Iter, Range, Lock, Thread}
use Rattle.py_data.specs.Changes.{after}
use Rattle.py_data.specs.Heap.{Heap, Marks, Rec, put_at, is_tracked}
use Rattle.py_data.specs.Shape.{is_key_kind, KindIn, IsKey, ArePairs, text_in, same_text, same_key, find_from}
use Rattle.py_data.specs.Row.{Call, Reply, Row, Ret, Do, Read, Find, Edit, Make, Start, Put, Take, MidLine, SetMidLine}
use Rattle.py_data.specs.Sense.{Run}
use Rattle.py_data.specs.Sight.{Sight, Act, Does, with_mark, looked_at, edited, made_new, started_one, in_world, mem, no_marks, opened}
use Rattle.py_data.specs.World.{World, IsLine, wrote, took}
use Rattle.py_data.specs.Frames.{Grows, Frame, Mirrors, Agrees, plain, AgreesOn, SameStep, Afresh}
use Rattle.py_data.proofs.Grow.{with_rec_there, back, grows_refl, act_grows, does_grows}

-- on a part of the way
pub agrees_part : {S : Type 0} (base : Heap) (w : World) (s s1 t1 t : Sight S) → Grows s s1 → Grows t1 t →
    Agrees base w s t → Agrees base w s1 t1
agrees_part base w s s1 t1 t g h m = record {
  looked = λ a r e is f. let o = back (s.touched a) (s1.touched a) (g.touched a) e in
      m.looked a r o (sym (g.same a e) ∙ is) (λ k. h.looked a (f k));
  fresh = λ a e f is. m.fresh a (back (s.touched a) (s1.touched a) (g.touched a) e) (h.touched a f)
      (sym (g.same a e) ∙ is);
  world = λ e f. m.world (back s.used s1.used g.used e) (h.used f) ∙ sym (g.world e);
}

or_more : (x y z : Bool) → (x || z) ≡ true → (x || (y || z)) ≡ true
or_more true y z e = refl
or_more false y z e = or_right y z e

more_last : {A : Type 0} (g s f t : List A) (n : A) → g ++ s ≡ f ++ t → g ++ (s ++ n ∷ []) ≡ f ++ (t ++ n ∷ [])
more_last g s f t n e = sym (append_assoc g s (n ∷ [])) ∙ (ap (λ xs. xs ++ n ∷ []) e ∙ append_assoc f t (n ∷ []))

-- what is looked at is there in the other heap
mirror_found : {S : Type 0} (fr : Frame S) (s s' t : Sight S) → Mirrors fr s s' → Agrees fr.base fr.world s t
    → (a : ℕ) (r : Rec) → s.heap a ≡ Some r → (is_tracked r.kind ≡ true → t.looked a ≡ true) → s'.heap a ≡ Some r
mirror_found fr s s' t m g a r is f = elim (cases_Bool (s.touched a)) [
  | inl y ↦ m.inside a y ∙ is
  | inr n ↦ m.outside a n ∙ g.looked a r n is f
]

mirror_world : {S : Type 0} (fr : Frame S) (s s' t : Sight S) → Mirrors fr s s' → Agrees fr.base fr.world s t →
    t.used ≡ true → s'.world ≡ s.world
mirror_world fr s s' t m g u = elim (cases_Bool s.used) [
  | inl y ↦ m.world_used y
  | inr n ↦ m.world_left n ∙ g.world n u
]

mirror_look : {S : Type 0} (fr : Frame S) (s s' : Sight S) (a : ℕ) (r : Rec) → Mirrors fr s s' →
    Mirrors fr (looked_at a r s) (looked_at a r s')
mirror_look fr s s' a r m = record {
  inside = m.inside;
  outside = m.outside;
  looked = λ b e. elim (or_cases (eqb b a && is_tracked r.kind) (s'.looked b) e) [
    | inl y ↦ or_right (fr.looked b) ((eqb b a && is_tracked r.kind) || s.looked b)
        (or_left (eqb b a && is_tracked r.kind) (s.looked b) y)
    | inr y ↦ or_more (fr.looked b) (eqb b a && is_tracked r.kind) (s.looked b) (m.looked b y)
  ];
  looked_back = λ b e. elim (or_cases (eqb b a && is_tracked r.kind) (s.looked b) e) [
    | inl y ↦ or_right (fr.unseen b) ((eqb b a && is_tracked r.kind) || s'.looked b)
        (or_left (eqb b a && is_tracked r.kind) (s'.looked b) y)
    | inr y ↦ or_more (fr.unseen b) (eqb b a && is_tracked r.kind) (s'.looked b) (m.looked_back b y)
  ];
  touched = m.touched;
  used = m.used;
  world_used = m.world_used;
  world_left = m.world_left;
  made = m.made;
  started = m.started;
}

mirror_start : {S : Type 0} (fr : Frame S) (s s' : Sight S) (p : S) → Mirrors fr s s' →
    Mirrors fr (started_one p s) (started_one p s')
mirror_start fr s s' p m = record {
  inside = m.inside;
  outside = m.outside;
  looked = m.looked;
  looked_back = m.looked_back;
  touched = m.touched;
  used = m.used;
  world_used = m.world_used;
  world_left = m.world_left;
  made = m.made;
  started = more_last fr.started_there s.started fr.started_here s'.started p m.started;
}

mirror_in_world : {S : Type 0} (fr : Frame S) (s s' : Sight S) (w w' : World) → w' ≡ w → Mirrors fr s s' →
    Mirrors fr (in_world w s) (in_world w' s')
mirror_in_world fr s s' w w' e m = record {
  inside = m.inside;
  outside = m.outside;
  looked = m.looked;
  looked_back = m.looked_back;
  touched = m.touched;
  used = λ _. or_right fr.used true refl;
  world_used = λ _. e;
  world_left = λ h. absurd (both_ways true h refl);
  made = m.made;
  started = m.started;
}

-- the heaps after one record more was put in both
put_inside : (a b : ℕ) (r : Rec) (h h' : Heap) (m : Marks) → ((c : ℕ) → m c ≡ true → h' c ≡ h c) →
    with_mark a m b ≡ true → put_at h' a r b ≡ put_at h a r b
put_inside a b r h h' m f e = elim (cases_Bool (eqb b a)) [
  | inl y ↦ cond-true (eqb b a) (Some r) (h' b) y ∙ sym (cond-true (eqb b a) (Some r) (h b) y)
  | inr n ↦ elim (or_cases (eqb b a) (m b) e) [
    | inl y ↦ absurd (both_ways (eqb b a) n y)
    | inr y ↦ with_rec_there a b r h' n ∙ (f b y ∙ sym (with_rec_there a b r h n))
  ]
]

put_outside : (a b : ℕ) (r : Rec) (h' base : Heap) (m : Marks) → ((c : ℕ) → m c ≡ false → h' c ≡ base c) →
    with_mark a m b ≡ false → put_at h' a r b ≡ base b
put_outside a b r h' base m f e = let p = or_parts (eqb b a) (m b) e in with_rec_there a b r h' p.0 ∙ f b p.1

mark_more : (a b : ℕ) (x m m' : Marks) → ((c : ℕ) → m' c ≡ true → (x c || m c) ≡ true) → with_mark a m' b ≡ true →
    (x b || with_mark a m b) ≡ true
mark_more a b x m m' f e = elim (or_cases (eqb b a) (m' b) e) [
  | inl y ↦ or_right (x b) (with_mark a m b) (or_left (eqb b a) (m b) y)
  | inr y ↦ or_more (x b) (eqb b a) (m b) (f b y)
]

mirror_edit : {S : Type 0} (fr : Frame S) (s s' : Sight S) (a : ℕ) (r : Rec) → Mirrors fr s s' →
    Mirrors fr (edited a r s) (edited a r s')
mirror_edit fr s s' a r m = record {
  inside = λ b e. put_inside a b r s.heap s'.heap s.touched m.inside e;
  outside = λ b e. put_outside a b r s'.heap fr.base s.touched m.outside e;
  looked = λ b e. mark_more a b fr.looked s.looked s'.looked m.looked e;
  looked_back = λ b e. mark_more a b fr.unseen s'.looked s.looked m.looked_back e;
  touched = λ b e. mark_more a b fr.touched s.touched s'.touched m.touched e;
  used = m.used;
  world_used = m.world_used;
  world_left = m.world_left;
  made = m.made;
  started = m.started;
}

mirror_make : {S : Type 0} (fr : Frame S) (s s' : Sight S) (n : ℕ) (r : Rec) → Mirrors fr s s' →
    Mirrors fr (made_new n r s) (made_new n r s')
mirror_make fr s s' n r m = record {
  inside = λ b e. put_inside n b r s.heap s'.heap s.touched m.inside e;
  outside = λ b e. put_outside n b r s'.heap fr.base s.touched m.outside e;
  looked = m.looked;
  looked_back = m.looked_back;
  touched = λ b e. mark_more n b fr.touched s.touched s'.touched m.touched e;
  used = m.used;
  world_used = m.world_used;
  world_left = m.world_left;
  made = more_last fr.made_there s.made fr.made_here s'.made n m.made;
  started = m.started;
}

-- what is fixed is there in the other heap, so keys are found alike
abbrev pub Fixed : Heap → Heap → Type 0
Fixed h h' = (b : ℕ) (q : Rec) → h b ≡ Some q → is_tracked q.kind ≡ false → h' b ≡ Some q

key_untracked : (k : Kind) → is_key_kind k ≡ true → is_tracked k ≡ false
key_untracked Str e = refl
key_untracked Tuple e = refl
key_untracked ListKind e = cc
key_untracked Dict e = cc
key_untracked Cell e = cc
key_untracked Function e = refl
key_untracked Class e = refl
key_untracked Instance e = refl
key_untracked Method e = refl
key_untracked Iter e = cc
key_untracked Range e = refl
key_untracked Lock e = cc
key_untracked Thread e = cc

record_there : (o o' : Option Rec) → KindIn o (λ k. is_key_kind k ≡ true) →
    ((q : Rec) → o ≡ Some q → is_tracked q.kind ≡ false → o' ≡ Some q) → o' ≡ o
record_there None o' k f = absurd k
record_there (Some r) o' k f = f r refl (key_untracked r.kind k)

key_there : (h h' : Heap) → Fixed h h' → (v : Value) → IsKey h v → IsKey h' v
key_there h h' f (Ref a) k = subst (λ o. KindIn o (λ k. is_key_kind k ≡ true))
    (sym (record_there (h a.0) (h' a.0) k (f a.0))) k
key_there h h' f Unset k = k
key_there h h' f NoneValue k = k
key_there h h' f (BoolValue b) k = k
key_there h h' f (Int i) k = k
key_there h h' f (Builtin b) k = k

pairs_there : (h h' : Heap) → Fixed h h' → (vs : List Value) → ArePairs h vs → ArePairs h' vs
pairs_there h h' f [] p = p
pairs_there h h' f (k ∷ []) p = p
pairs_there h h' f (k ∷ v ∷ rest) p = (key_there h h' f k p.0, pairs_there h h' f rest p.1)

same_there : (h h' : Heap) → Fixed h h' → (v key : Value) → IsKey h v → IsKey h key →
    same_key h' v key ≡ same_key h v key
same_there h h' f (Ref a) (Ref b) k l =
    ap (λ o. same_text (eqb a.0 b.0) (text_in o) (text_in (h' b.0))) (record_there (h a.0) (h' a.0) k (f a.0))
    ∙ ap (λ o. same_text (eqb a.0 b.0) (text_in (h a.0)) (text_in o)) (record_there (h b.0) (h' b.0) l (f b.0))
same_there h h' f v key k l = refl

pub find_there : (h h' : Heap) → Fixed h h' → (n : ℕ) (vs : List Value) (key : Value) → ArePairs h vs → IsKey h key →
    find_from h' n vs key ≡ find_from h n vs key
find_there h h' f n [] key p k = refl
find_there h h' f n (v ∷ []) key p k = refl
find_there h h' f n (v ∷ w ∷ rest) key p k =
    ap (λ b. cond b (Some n) (find_from h' (n + 1) rest key)) (same_there h h' f v key p.0 k)
    ∙ ap (λ o. cond (same_key h v key) (Some n) o) (find_there h h' f (n + 1) rest key p.1 k)

-- what a call makes of a sight, it makes of the mirror
abbrev pub MirrorsCall : {S : Type 0} → Frame S → (c : Call S) → Sight S → Reply c → Sight S → Type 0
MirrorsCall {S} fr c s' r m = (m' : Sight S) × Act c s' r m' × Mirrors fr m m'

abbrev pub AgreesTo : {S : Type 0} → Frame S → Sight S → Sight S → Type 0
AgreesTo fr s m = Agrees fr.base fr.world s m

look_there : {S : Type 0} (fr : Frame S) (s s' : Sight S) (a : ℕ) (r : Rec) → s.heap a ≡ Some r → Mirrors fr s s' →
    AgreesTo fr s (looked_at a r s) → s'.heap a ≡ Some r
look_there fr s s' a r is m g =
    mirror_found fr s s' (looked_at a r s) m g a r is
    (λ e. or_left (eqb a a && is_tracked r.kind) (s.looked a)
    (and_from (eqb a a) (is_tracked r.kind) (eq-eqb a a refl) e))

edit_there : {S : Type 0} (fr : Frame S) (s s' : Sight S) (a : ℕ) (r q : Rec) → s.heap a ≡ Some r → Mirrors fr s s' →
    AgreesTo fr s (edited a q s) → s'.heap a ≡ Some r
edit_there fr s s' a r q is m g = mirror_found fr s s' (edited a q s) m g a r is
    (λ e. or_left (eqb a a) (s.looked a) (eq-eqb a a refl))

fixed_there : {S : Type 0} (fr : Frame S) (s s' m : Sight S) → Mirrors fr s s' → AgreesTo fr s m → Fixed s.heap s'.heap
fixed_there fr s s' m mi g b q is e = mirror_found fr s s' m mi g b q is
    (λ t. absurd (both_ways (is_tracked q.kind) e t))

-- by what the call left
at_end : {S : Type 0} (fr : Frame S) (c : Call S) (s s' : Sight S) (r : Reply c) (m n : Sight S) → m ≡ n →
    (AgreesTo fr s n → MirrorsCall fr c s' r n) → AgreesTo fr s m → MirrorsCall fr c s' r m
at_end {S} fr c s s' r m n e f = subst (λ (z : Sight S). AgreesTo fr s z → MirrorsCall fr c s' r z) (sym e) f

pub act_mirror : {S : Type 0} (fr : Frame S) (c : Call S) (s s' : Sight S) (r : Reply c) (m : Sight S) → Act c s r m →
    Mirrors fr s s' → AgreesTo fr s m → MirrorsCall fr c s' r m
act_mirror fr (Read a) s s' r m d mi g =
    at_end fr (Read a) s s' r m (looked_at a r s) d.1
    (λ g. (looked_at a r s', (look_there fr s s' a r d.0 mi g, refl), mirror_look fr s s' a r mi)) g
act_mirror fr (Find a key) s s' o m d mi g =
    at_end fr (Find a key) s s' o m (looked_at a d.0 s) d.4 (λ g.
    let fx = fixed_there fr s s' (looked_at a d.0 s) mi g in
    let k = d.2 in (
      looked_at a d.0 s',
      (
        d.0,
        look_there fr s s' a d.0 d.1 mi g,
        (k.0, key_there s.heap s'.heap fx key k.1, pairs_there s.heap s'.heap fx d.0.values k.2),
        d.3 ∙ sym (find_there s.heap s'.heap fx 0 d.0.values key k.2 k.1),
        refl,
      ),
      mirror_look fr s s' a d.0 mi,
    )) g
act_mirror fr (Edit a x) s s' r m d mi g =
    at_end fr (Edit a x) s s' r m (edited a (after x d.0) s) d.3 (λ g. (
      edited a (after x d.0) s',
      (d.0, edit_there fr s s' a d.0 (after x d.0) d.1 mi g, d.2, refl),
      mirror_edit fr s s' a (after x d.0) mi,
    )) g
act_mirror fr (Make q) s s' n m d mi g =
    at_end fr (Make q) s s' n m (made_new n q s) d.1 (λ g. (
      made_new n q s',
      (
        elim (cases_Bool (s.touched n)) [
          | inl y ↦ mi.inside n y ∙ d.0
          | inr y ↦ mi.outside n y ∙ g.fresh n y (or_left (eqb n n) (s.touched n) (eq-eqb n n refl)) d.0
        ],
        refl,
      ),
      mirror_make fr s s' n q mi,
    )) g
act_mirror fr (Start p) s s' r m d mi g =
    at_end fr (Start p) s s' r m (started_one p s) d (λ g. (started_one p s', refl, mirror_start fr s s' p mi)) g
act_mirror fr (Put on bytes) s s' r m d mi g =
    at_end fr (Put on bytes) s s' r m (in_world (wrote on bytes s.world) s) d (λ g. (
      in_world (wrote on bytes s'.world) s',
      refl,
      mirror_in_world fr s s' _ _ (ap (wrote on bytes)
          (mirror_world fr s s' (in_world (wrote on bytes s.world) s) mi g refl)) mi,
    )) g
act_mirror fr (Take most) s s' l m d mi g =
    at_end fr (Take most) s s' l m (in_world (took l s.world) s) d.1 (λ g.
    let e = mirror_world fr s s' (in_world (took l s.world) s) mi g refl in (
      in_world (took l s'.world) s',
      (subst (λ (w : World). IsLine w.input most l) (sym e) d.0, refl),
      mirror_in_world fr s s' _ _ (ap (took l) e) mi,
    )) g
act_mirror fr MidLine s s' mid m d mi g =
    at_end fr MidLine s s' mid m (in_world s.world s) d.1 (λ g.
    let e = mirror_world fr s s' (in_world s.world s) mi g refl in
    (in_world s'.world s', (d.0 ∙ ap (λ (w : World). w.mid) (sym e), refl), mirror_in_world fr s s' _ _ e mi)) g
act_mirror fr (SetMidLine mid) s s' r m d mi g =
    at_end fr (SetMidLine mid) s s' r m (in_world (record s.world { mid = mid }) s) d (λ g.
    let e = mirror_world fr s s' (in_world (record s.world { mid = mid }) s) mi g refl in (
      in_world (record s'.world { mid = mid }) s',
      refl,
      mirror_in_world fr s s' _ _ (ap (λ (w : World). record w { mid = mid }) e) mi,
    )) g

-- and a row
abbrev pub Mirrored : {S A : Type 0} → Frame S → Row S A → Sight S → A → Sight S → Type 0
Mirrored {S} fr row s' y t = (t' : Sight S) × Does row s' y t' × Mirrors fr t t'

pub does_mirror : {S A : Type 0} (fr : Frame S) (row : Row S A) (s s' t : Sight S) (y : A)
    → Does row s y t → Mirrors fr s s' → Agrees fr.base fr.world s t → Mirrored fr row s' y t
unfolding Run
does_mirror fr (Ret x) s s' t y d mi g = (s', (d.0, refl), subst (λ u. Mirrors fr u s') (sym d.1) mi)
does_mirror fr (Do c k) s s' t y d mi g =
    let m = d.1 in
    let up = act_grows c s d.0 m d.2 in
    let rest = does_grows (k d.0) m t y d.3 in
    let one = act_mirror fr c s s' d.0 m d.2 mi (agrees_part fr.base fr.world s s m t (grows_refl s) rest g) in
    let more = does_mirror fr (k d.0) m one.0 t y d.3 one.2 (agrees_part fr.base fr.world s m t t up (grows_refl t) g)
    in
    (more.0, (d.0, one.0, one.1, more.1), more.2)

-- the frame law in its own words
pub frame_law : {S A : Type 0} (w : Row S A) (h h' : Heap) (v v' : World) (t : Sight S) (y : A) →
    Does w (opened S h v) y t → AgreesOn t.looked h h' → ((a : ℕ) → mem a t.made ≡ true → h' a ≡ None)
    → (t.used ≡ true → v' ≡ v) → (t' : Sight S) × SameStep w h' v' t y t'
frame_law {S} w h h' v v' t y d on free world =
    let s = opened S h v in
    let g = does_grows w s t y d in
    let m : Mirrors (plain S h' v') s (opened S h' v') = record {
      inside = λ a e. absurd (both_ways false refl e);
      outside = λ a e. refl;
      looked = λ a e. e;
      looked_back = λ a e. e;
      touched = λ a e. e;
      used = λ e. e;
      world_used = λ e. absurd (both_ways false refl e);
      world_left = λ e. refl;
      made = refl;
      started = refl;
    } in
    let ag : Agrees h' v' s t = record {
      looked = λ a r e is f. elim (cases_Bool (is_tracked r.kind)) [
        | inl x ↦ on.same a (f x) ∙ is
        | inr x ↦
            on.fixed a r is x
      ];
      fresh = λ a e f is. free a (g.fresh a e f is);
      world = λ e f. world f;
    } in
    let z = does_mirror (plain S h' v') w s (opened S h' v') t y d m ag in
    let r = z.2 in (
      z.0,
      record {
        does = z.1;
        looked = λ a. same_bool (z.0.looked a) (t.looked a) (r.looked a) (r.looked_back a);
        made = sym r.made;
        started = sym r.started;
        changes = r.inside;
        others = r.outside;
        world = r.world_left;
        world_used = r.world_used;
      },
    )
  where
    same_bool : (x z : Bool) → (x ≡ true → z ≡ true) → (z ≡ true → x ≡ true) → x ≡ z
    same_bool true z f e = sym (f refl)
    same_bool false true f e = absurd (both_ways false refl (e refl))
    same_bool false false f e = refl

-- whatever bookkeeping a row was done with, it can be done afresh
pub does_afresh : {S A : Type 0} (w : Row S A) (s t : Sight S) (y : A) → Does w s y t →
    (t' : Sight S) × Afresh w s t y t'
does_afresh {S} w s t y d =
    let g = does_grows w s t y d in
    let fr : Frame S = record {
      base = s.heap;
      world = s.world;
      made_here = s.made;
      made_there = [];
      started_here = s.started;
      started_there = [];
      looked = no_marks;
      touched = no_marks;
      used = false;
      unseen = s.looked;
    } in
    let s' = opened S s.heap s.world in
    let m : Mirrors fr s s' = record {
      inside = λ a e. refl;
      outside = λ a e. refl;
      looked = λ a e. absurd (both_ways false refl e);
      looked_back = λ a e. or_left (s.looked a) false e;
      touched = λ a e. absurd (both_ways false refl e);
      used = λ e. absurd (both_ways false refl e);
      world_used = λ e. refl;
      world_left = λ e. refl;
      made = sym (append-nil s.made);
      started = sym (append-nil s.started);
    } in
    let ag : Agrees s.heap s.world s t =
    record { looked = λ a r e is f. is; fresh = λ a e f is. is; world = λ e f. refl } in
    let z = does_mirror fr w s s' t y d m ag in
    let r = z.2 in (
      z.0,
      record {
        does = z.1;
        heap = λ a. elim (cases_Bool (t.touched a)) [ inl x ↦ r.inside a x | inr x ↦ r.outside a x ∙ sym (g.same a x) ];
        world = elim (cases_Bool t.used) [ inl x ↦ r.world_used x | inr x ↦ r.world_left x ∙ sym (g.world x) ];
        made = r.made;
        started = r.started;
        looked = r.looked;
      },
    )
