-- A template whose parts fit each other gives code whose places fit each other.
use Rattle.std.proofs.Common.{◌≡◌, ℕ, zero, suc, ◌+◌, ◌<◌, ◌≤◌, ⊎_elim, List, [], ◌∷◌, ◌++◌, Option, Some, None, Bool, true, false, length, get_or, refl, sym, ap, ◌∙◌, subst, arith, length-append, drop}
use Rattle.std.specs.Prelude.{slice_get, IsTrue, if◌then◌else◌}
use Rattle.std.proofs.lemmas.Bool.{cases_lt, eqb-true}
use Rattle.std.proofs.lemmas.List.{get_or-drop}
use Rattle.py_code.specs.declared.instr.Instr.{Instr}
use Rattle.py_code.specs.Effects.{Limits, effect, Sh, Fine, there, after, target_of, goes_on}
use Rattle.py_code.specs.Typing.{shape_at, RightAt}
use Rattle.py_templates.specs.Template.{Frame, Piece, Part, Op, Hidden, To, Here, Alone, Sub, part_size, part_slots, part_lines, size_of, slots_of, lines_of, stands, place_of, labels_from, no_frame, label_at, slot_at, own_slot, part_code, code_of, template}

-- these instructions stand at this place
abbrev pub HasCode : List Instr → ℕ → List Instr → Type 0
HasCode code p [] = Unit {0}
HasCode code p (i ∷ is) = (slice_get code p ≡ Some i) × HasCode code (p + 1) is

-- these places have these shapes
abbrev pub HasShapes : List (Option Sh) → ℕ → List Sh → Type 0
HasShapes t p [] = Unit {0}
HasShapes t p (s ∷ ss) = (shape_at t p ≡ Some s) × HasShapes t (p + 1) ss

pub code_front : (code : List Instr) (p : ℕ) (a b : List Instr) → HasCode code p (a ++ b) → HasCode code p a
code_front code p [] b h = tt
code_front code p (i ∷ a) b h = (h.0, code_front code (p + 1) a b h.1)

pub code_back : (code : List Instr) (p q : ℕ) (a b : List Instr) → p + length a ≡ q → HasCode code p (a ++ b) →
    HasCode code q b
code_back code p q [] b e h = let k : p ≡ q = omega (arith, e) in subst (λ n. HasCode code n b) k h
code_back code p q (i ∷ a) b e h = code_back code (p + 1) q a b (omega (arith, e)) h.1

pub shapes_front : (t : List (Option Sh)) (p : ℕ) (a b : List Sh) → HasShapes t p (a ++ b) → HasShapes t p a
shapes_front t p [] b h = tt
shapes_front t p (i ∷ a) b h = (h.0, shapes_front t (p + 1) a b h.1)

pub shapes_back : (t : List (Option Sh)) (p q : ℕ) (a b : List Sh) → p + length a ≡ q → HasShapes t p (a ++ b) →
    HasShapes t q b
shapes_back t p q [] b e h = let k : p ≡ q = omega (arith, e) in subst (λ n. HasShapes t n b) k h
shapes_back t p q (i ∷ a) b e h = shapes_back t (p + 1) q a b (omega (arith, e)) h.1

-- the shapes at a construct's labels, and how many hidden slots it has
pub record Ring : Type 0 where
  pub labels : List (Option Sh)
  pub own : ℕ

abbrev pub no_ring : Ring
no_ring = record { labels = []; own = 0 }

abbrev pub ring_at : List Ring → ℕ → Ring
ring_at gs d = get_or gs d no_ring

pub record FrameFits (k : Limits) (t : List (Option Sh)) (f : Frame) (g : Ring) : Type 0 where
  pub labels : (l : ℕ) (s : Sh) → get_or g.labels l None ≡ Some s →
      (k.first ≤ get_or f.labels l 0) × (shape_at t (get_or f.labels l 0) ≡ Some s)
  pub slot : 0 < g.own → f.slot < k.slots

abbrev pub EnvFits : Limits → List (Option Sh) → List Frame → List Ring → Type 0
EnvFits k t env gs = (d : ℕ) → FrameFits k t (get_or env d no_frame) (ring_at gs d)

env_drop : (k : Limits) (t : List (Option Sh)) (m : ℕ) (env : List Frame) (gs : List Ring) → EnvFits k t env gs →
    EnvFits k t (drop m env) (drop m gs)
env_drop k t m env gs f d = rw (get_or-drop m env d no_frame, get_or-drop m gs d no_ring) (f (m + d))

env_none : (k : Limits) (t : List (Option Sh)) → EnvFits k t [] []
env_none k t d = record { labels = λ l s e. cc; slot = λ lt. omega (arith, lt) }

env_cons : (k : Limits) (t : List (Option Sh)) (f : Frame) (g : Ring) (env : List Frame) (gs : List Ring) →
    FrameFits k t f g → EnvFits k t env gs → EnvFits k t (f ∷ env) (g ∷ gs)
env_cons k t f g env gs h hs zero = h
env_cons k t f g env gs h hs (suc d) = hs d

-- each of these places is right
pub record AllRight (k : Limits) (code : List Instr) (t : List (Option Sh)) (p m : ℕ) : Type 0 where
  pub at : (j : ℕ) (i : Instr) (s : Sh) → p ≤ j → j < p + m → slice_get code j ≡ Some i → shape_at t j ≡ Some s →
      RightAt k t j i s

-- a piece that leads from the one shape to the other, inside constructs with these shapes
pub record Typed (k : Limits) (b : Piece) (gs : List Ring) (s s' : Sh) : Type 0 where
  pub sized : (env : List Frame) (p h : ℕ) → length (b.code env p h) ≡ b.size
  pub lined : length b.lines ≡ b.size
  pub shapes : List Sh
  pub long : length shapes ≡ b.size
  pub head : (t : List (Option Sh)) (p : ℕ) → HasShapes t p shapes → shape_at t (p + b.size) ≡ Some s' →
      shape_at t p ≡ Some s
  pub right : (code : List Instr) (t : List (Option Sh)) (env : List Frame) (p h : ℕ) → k.first ≤ p →
      HasCode code p (b.code env p h) → HasShapes t p shapes → shape_at t (p + b.size) ≡ Some s' → EnvFits k t env gs →
      h + b.slots ≤ k.slots → AllRight k code t p b.size

-- an instruction that names no place
pub record Goes (k : Limits) (i : Instr) (s s' : Sh) : Type 0 where
  pub fine : Fine k i s
  pub stays : target_of (effect k i).flow ≡ None
  pub next : IsTrue (goes_on (effect k i).flow) → after (effect k i) s ≡ s'

-- one that names a place
pub record Jumps (k : Limits) (j : ℕ → Instr) (s far s' : Sh) : Type 0 where
  pub fine : (q : ℕ) → Fine k (j q) s
  pub to : (q r : ℕ) → target_of (effect k (j q)).flow ≡ Some r → (q ≡ r) × (there (effect k (j q)) s ≡ far)
  pub next : (q : ℕ) → IsTrue (goes_on (effect k (j q)).flow) → after (effect k (j q)) s ≡ s'

abbrev pub has_label : List Part → ℕ → Bool
has_label [] l = false
has_label (x ∷ xs) l = if stands x l then true else has_label xs l

-- labels 0 to n - 1 all stand
abbrev pub all_stand : ℕ → List Part → Bool
all_stand zero xs = true
all_stand (suc n) xs = if has_label xs n then all_stand n xs else false

pub if_both : (a b : Bool) → IsTrue (if a then b else false) → IsTrue a × IsTrue b
if_both true b h = (refl, h)
if_both false b h = cc

pub stands_below : (n : ℕ) (xs : List Part) (l : ℕ) → IsTrue (all_stand n xs) → l < n → IsTrue (has_label xs l)
stands_below zero xs l h lt = absurd (omega (arith, lt))
stands_below (suc n) xs l h lt = let w = if_both (has_label xs n) (all_stand n xs) h in
    ⊎_elim (λ (x : l < n). stands_below n xs l w.1 x) (λ (x : n ≤ l). let e : n ≡ l = omega (arith, x, lt) in
    subst (λ m. IsTrue (has_label xs m)) e w.0) (cases_lt l n)

labels_at : (xs : List Part) (p n a l : ℕ) → l < n → get_or (labels_from xs p n a) l 0 ≡ place_of xs (a + l) p
labels_at xs p zero a l lt = absurd (omega (arith, lt))
labels_at xs p (suc n) a zero lt = let e : a ≡ a + 0 = omega arith in ap (λ m. place_of xs m p) e
labels_at xs p (suc n) a (suc l) lt = let e : suc a + l ≡ a + suc l = omega arith in
    labels_at xs p n (suc a) l (omega (arith, lt)) ∙ ap (λ m. place_of xs m p) e

label_here : (xs : List Part) (p n l : ℕ) → l < n → get_or (labels_from xs p n 0) l 0 ≡ place_of xs l p
label_here xs p n l lt = let e : 0 + l ≡ l = omega arith in labels_at xs p n 0 l lt ∙ ap (λ m. place_of xs m p) e

get_within : (ls : List (Option Sh)) (l : ℕ) (s : Sh) → get_or ls l None ≡ Some s → l < length ls
get_within [] l s e = cc
get_within (x ∷ ls) zero s e = omega arith
get_within (x ∷ ls) (suc l) s e = let r = get_within ls l s e in omega (arith, r)

place_above : (xs : List Part) (l p : ℕ) → p ≤ place_of xs l p
place_above [] l p = omega arith
place_above (x ∷ xs) l p = pick (stands x l) (place_of xs l (p + part_size x))
    (let r = place_above xs l (p + part_size x) in omega (arith, r))
  where
    pick : (b : Bool) (q : ℕ) → p ≤ q → p ≤ (if b then p else q)
    pick true q h = omega arith
    pick false q h = h

slot_below : (own h n : ℕ) → 0 < own → h + own ≤ n → own_slot own h < n
slot_below zero h n lt le = absurd (omega (arith, lt))
slot_below (suc m) h n lt le = omega (arith, le)

module _ (k : Limits) where
  one_right : (code : List Instr) (t : List (Option Sh)) (p : ℕ) (i : Instr) (s : Sh) → slice_get code p ≡ Some i →
      shape_at t p ≡ Some s → RightAt k t p i s → AllRight k code t p 1
  one_right code t p i s hi hs r = record {
    at = λ j i' s' le lt hi' hs'. let e : p ≡ j = omega (arith, le, lt) in
        let hi2 : slice_get code p ≡ Some i' = ap (slice_get code) e ∙ hi' in let hs2 : shape_at t p ≡ Some s' =
        ap (shape_at t) e ∙ hs' in let ei : i ≡ i' = cc in let es : s ≡ s' = cc in rw (← e, ← ei, ← es) r;
  }

  pub op_right : (code : List Instr) (t : List (Option Sh)) (p : ℕ) (i : Instr) (s s' : Sh) → slice_get code p ≡ Some i
      → shape_at t p ≡ Some s → shape_at t (p + 1) ≡ Some s' → Goes k i s s' → AllRight k code t p 1
  op_right code t p i s s' hi hs he g = one_right code t p i s hi hs
      (record {
        fine = g.fine;
        leads = record {
          jump = λ q e. let x = g.stays in cc;
          next = λ e. he ∙
              ap Some (sym (g.next e));
        };
      })

  jump_right : (code : List Instr) (t : List (Option Sh)) (p q : ℕ) (j : ℕ → Instr) (s far s' : Sh) →
      slice_get code p ≡ Some (j q) → shape_at t p ≡ Some s → shape_at t (p + 1) ≡ Some s' →
      (k.first ≤ q) × (shape_at t q ≡ Some far) → Jumps k j s far s' → AllRight k code t p 1
  jump_right code t p q j s far s' hi hs he hq g =
      one_right code t p (j q) s hi hs (record {
        fine = g.fine q;
        leads = record {
          jump = λ r e. let x = g.to q r e in rw (← x.0, x.1) hq;
          next = λ e. he ∙
              ap Some (sym (g.next q e));
        };
      })

  pub all_both : (code : List Instr) (t : List (Option Sh)) (p m n : ℕ) → AllRight k code t p m →
      AllRight k code t (p + m) n → AllRight k code t p (m + n)
  all_both code t p m n a b = record {
    at = λ j i s le lt hi hs.
        ⊎_elim (λ (x : j < p + m). a.at j i s le x hi hs) (λ (x : p + m ≤ j). b.at j i s x (omega (arith, lt)) hi hs)
        (cases_lt j (p + m));
  }

  pub none_right : (code : List Instr) (t : List (Option Sh)) (p : ℕ) → AllRight k code t p 0
  none_right code t p = record { at = λ j i s le lt hi hs. absurd (omega (arith, le, lt)) }

  -- what a part asks, between two shapes; the template's own construct is the first of gs
  abbrev pub PartOk : List Ring → Sh → Part → Sh → Type 0
  PartOk gs s (Op i) s' = Goes k i s s'
  PartOk gs s (Hidden d j) s' = (0 < (ring_at gs d).own) × ((r : ℕ) → r < k.slots → Goes k (j r) s s')
  PartOk gs s (To d j l) s' = (far : Sh) × (get_or (ring_at gs d).labels l None ≡ Some far) × Jumps k j s far s'
  PartOk gs s (Here l) s' = (get_or (ring_at gs 0).labels l None ≡ Some s) × (s ≡ s')
  PartOk gs s (Alone b) s' = Typed k b [] s s'
  PartOk gs s (Sub d b) s' = Typed k b (drop d gs) s s'

  abbrev pub PartsOk : List Ring → Sh → List Part → Sh → Type 0
  PartsOk gs s [] s' = s ≡ s'
  PartsOk gs s (x ∷ xs) s' = (m : Sh) × PartOk gs s x m × PartsOk gs m xs s'

  module _ (gs : List Ring) where
    part_shapes : (x : Part) (s s' : Sh) → PartOk gs s x s' → List Sh
    part_shapes (Op i) s s' ok = s ∷ []
    part_shapes (Hidden d j) s s' ok = s ∷ []
    part_shapes (To d j l) s s' ok = s ∷ []
    part_shapes (Here l) s s' ok = []
    part_shapes (Alone b) s s' ok = ok.shapes
    part_shapes (Sub d b) s s' ok = ok.shapes

    part_long : (x : Part) (s s' : Sh) (ok : PartOk gs s x s') → length (part_shapes x s s' ok) ≡ part_size x
    unfolding part_shapes
    part_long (Op i) s s' ok = refl
    part_long (Hidden d j) s s' ok = refl
    part_long (To d j l) s s' ok = refl
    part_long (Here l) s s' ok = refl
    part_long (Alone b) s s' ok = ok.long
    part_long (Sub d b) s s' ok = ok.long

    part_sized : (env : List Frame) (p h : ℕ) (x : Part) (s s' : Sh) (ok : PartOk gs s x s') →
        length (part_code env x p h) ≡ part_size x
    part_sized env p h (Op i) s s' ok = refl
    part_sized env p h (Hidden d j) s s' ok = refl
    part_sized env p h (To d j l) s s' ok = refl
    part_sized env p h (Here l) s s' ok = refl
    part_sized env p h (Alone b) s s' ok = ok.sized [] p h
    part_sized env p h (Sub d b) s s' ok = ok.sized (drop d env) p h

    part_lined : (line : ℕ) (x : Part) (s s' : Sh) (ok : PartOk gs s x s') → length (part_lines line x) ≡ part_size x
    part_lined line (Op i) s s' ok = refl
    part_lined line (Hidden d j) s s' ok = refl
    part_lined line (To d j l) s s' ok = refl
    part_lined line (Here l) s s' ok = refl
    part_lined line (Alone b) s s' ok = ok.lined
    part_lined line (Sub d b) s s' ok = ok.lined

    part_head : (t : List (Option Sh)) (p : ℕ) (x : Part) (s s' : Sh) (ok : PartOk gs s x s') →
        HasShapes t p (part_shapes x s s' ok) → shape_at t (p + part_size x) ≡ Some s' → shape_at t p ≡ Some s
    unfolding part_shapes
    part_head t p (Op i) s s' ok h e = h.0
    part_head t p (Hidden d j) s s' ok h e = h.0
    part_head t p (To d j l) s s' ok h e = h.0
    part_head t p (Here l) s s' ok h e = let n : p + 0 ≡ p = omega arith in sym (ap (shape_at t) n) ∙ e ∙
        ap Some (sym ok.1)
    part_head t p (Alone b) s s' ok h e = ok.head t p h e
    part_head t p (Sub d b) s s' ok h e = ok.head t p h e

    part_right : (code : List Instr) (t : List (Option Sh)) (env : List Frame) (p h : ℕ) (x : Part) (s s' : Sh)
        (ok : PartOk gs s x s') → k.first ≤ p → EnvFits k t env gs → HasCode code p (part_code env x p h) →
        HasShapes t p (part_shapes x s s' ok) → shape_at t (p + part_size x) ≡ Some s' → h + part_slots x ≤ k.slots →
        AllRight k code t p (part_size x)
    unfolding part_shapes
    part_right code t env p h (Op i) s s' ok lo fits hc hs he le = op_right code t p i s s' hc.0 hs.0 he ok
    part_right code t env p h (Hidden d j) s s' ok lo fits hc hs he le =
        op_right code t p (j (slot_at env d)) s s' hc.0 hs.0 he (ok.1 (slot_at env d) ((fits d).slot ok.0))
    part_right code t env p h (To d j l) s s' (far, el, ok) lo fits hc hs he le =
        jump_right code t p (label_at env d l) j s far s' hc.0 hs.0 he ((fits d).labels l far el) ok
    part_right code t env p h (Here l) s s' ok lo fits hc hs he le = none_right code t p
    part_right code t env p h (Alone b) s s' ok lo fits hc hs he le =
        ok.right code t [] p h lo hc hs he (env_none k t) le
    part_right code t env p h (Sub d b) s s' ok lo fits hc hs he le =
        ok.right code t (drop d env) p h lo hc hs he (env_drop k t d env gs fits) le

    shapes_of : (xs : List Part) (s s' : Sh) → PartsOk gs s xs s' → List Sh
    shapes_of [] s s' ok = []
    shapes_of (x ∷ xs) s s' (m, a, b) = part_shapes x s m a ++ shapes_of xs m s' b

    long_of : (xs : List Part) (s s' : Sh) (ok : PartsOk gs s xs s') → length (shapes_of xs s s' ok) ≡ size_of xs
    unfolding shapes_of
    long_of [] s s' ok = refl
    long_of (x ∷ xs) s s' (m, a, b) = length-append (part_shapes x s m a) (shapes_of xs m s' b) ∙
        ap (λ n. n + length (shapes_of xs m s' b)) (part_long x s m a) ∙ ap (λ n. part_size x + n) (long_of xs m s' b)

    sized_of : (env : List Frame) (p h : ℕ) (xs : List Part) (s s' : Sh) (ok : PartsOk gs s xs s') →
        length (code_of env xs p h) ≡ size_of xs
    sized_of env p h [] s s' ok = refl
    sized_of env p h (x ∷ xs) s s' (m, a, b) =
        let e1 = part_sized env p h x s m a in
        let e2 = sized_of env (p + part_size x) (h + part_slots x) xs m s' b in
        omega (arith, e1, e2, length-append (part_code env x p h) (code_of env xs (p + part_size x) (h + part_slots x)))

    lined_of : (line : ℕ) (xs : List Part) (s s' : Sh) (ok : PartsOk gs s xs s') →
        length (lines_of line xs) ≡ size_of xs
    lined_of line [] s s' ok = refl
    lined_of line (x ∷ xs) s s' (m, a, b) = length-append (part_lines line x) (lines_of line xs) ∙
        ap (λ n. n + length (lines_of line xs)) (part_lined line x s m a) ∙
        ap (λ n. part_size x + n) (lined_of line xs m s' b)

    rest_shapes : (t : List (Option Sh)) (p : ℕ) (x : Part) (xs : List Part) (s m s' : Sh) (a : PartOk gs s x m)
        (b : PartsOk gs m xs s') → HasShapes t p (shapes_of (x ∷ xs) s s' (m, a, b)) →
        HasShapes t (p + part_size x) (shapes_of xs m s' b)
    unfolding shapes_of
    rest_shapes t p x xs s m s' a b h = shapes_back t p (p + part_size x) (part_shapes x s m a) (shapes_of xs m s' b)
        (ap (λ n. p + n) (part_long x s m a)) h

    part_of_shapes : (t : List (Option Sh)) (p : ℕ) (x : Part) (xs : List Part) (s m s' : Sh) (a : PartOk gs s x m)
        (b : PartsOk gs m xs s') → HasShapes t p (shapes_of (x ∷ xs) s s' (m, a, b)) →
        HasShapes t p (part_shapes x s m a)
    unfolding shapes_of
    part_of_shapes t p x xs s m s' a b h = shapes_front t p (part_shapes x s m a) (shapes_of xs m s' b) h

    end_of_rest : (t : List (Option Sh)) (p : ℕ) (x : Part) (xs : List Part) (s' : Sh) →
        shape_at t (p + size_of (x ∷ xs)) ≡ Some s' → shape_at t (p + part_size x + size_of xs) ≡ Some s'
    end_of_rest t p x xs s' e = let n : p + part_size x + size_of xs ≡ p + (part_size x + size_of xs) = omega arith in
        ap (shape_at t) n ∙ e

    head_of : (t : List (Option Sh)) (p : ℕ) (xs : List Part) (s s' : Sh) (ok : PartsOk gs s xs s') →
        HasShapes t p (shapes_of xs s s' ok) → shape_at t (p + size_of xs) ≡ Some s' → shape_at t p ≡ Some s
    head_of t p [] s s' ok h e = let n : p + 0 ≡ p = omega arith in sym (ap (shape_at t) n) ∙ e ∙ ap Some (sym ok)
    head_of t p (x ∷ xs) s s' (m, a, b) h e = part_head t p x s m a (part_of_shapes t p x xs s m s' a b h)
        (head_of t (p + part_size x) xs m s' b (rest_shapes t p x xs s m s' a b h) (end_of_rest t p x xs s' e))

    stood : (x : Part) (l : ℕ) (s s' : Sh) → PartOk gs s x s' → IsTrue (stands x l) →
        get_or (ring_at gs 0).labels l None ≡ Some s
    stood (Op i) l s s' ok e = cc
    stood (Hidden d j) l s s' ok e = cc
    stood (To d j m) l s s' ok e = cc
    stood (Here m) l s s' ok e = let n : m ≡ l = eqb-true m l e in
        ap (λ z. get_or (ring_at gs 0).labels z None) (sym n) ∙ ok.0
    stood (Alone b) l s s' ok e = cc
    stood (Sub d b) l s s' ok e = cc

    pick : (b c : Bool) (t : List (Option Sh)) (p q : ℕ) (v : Option Sh) → IsTrue (if b then true else c) →
        (IsTrue b → shape_at t p ≡ v) → (IsTrue c → shape_at t q ≡ v) → shape_at t (if b then p else q) ≡ v
    pick true c t p q v h f g = f refl
    pick false c t p q v h f g = g h

    -- a label's place has the label's shape
    label_of : (t : List (Option Sh)) (p : ℕ) (xs : List Part) (s s' : Sh) (ok : PartsOk gs s xs s') →
        HasShapes t p (shapes_of xs s s' ok) → shape_at t (p + size_of xs) ≡ Some s' → (l : ℕ) →
        IsTrue (has_label xs l) → shape_at t (place_of xs l p) ≡ get_or (ring_at gs 0).labels l None
    label_of t p [] s s' ok h e l has = cc
    label_of t p (x ∷ xs) s s' (m, a, b) h e l has =
        pick (stands x l) (has_label xs l) t p (place_of xs l (p + part_size x)) (get_or (ring_at gs 0).labels l None)
        has
        (λ st. head_of t p (x ∷ xs) s s' (m, a, b) h e ∙ sym (stood x l s m a st))
        (λ more. label_of t (p + part_size x) xs m s' b (rest_shapes t p x xs s m s' a b h) (end_of_rest t p x xs s' e)
        l more)

    right_of : (code : List Instr) (t : List (Option Sh)) (env : List Frame) (p h : ℕ) (xs : List Part) (s s' : Sh)
        (ok : PartsOk gs s xs s') → k.first ≤ p → EnvFits k t env gs → HasCode code p (code_of env xs p h) →
        HasShapes t p (shapes_of xs s s' ok) → shape_at t (p + size_of xs) ≡ Some s' → h + slots_of xs ≤ k.slots →
        AllRight k code t p (size_of xs)
    right_of code t env p h [] s s' ok lo fits hc hs he le = none_right code t p
    right_of code t env p h (x ∷ xs) s s' (m, a, b) lo fits hc hs he le =
        let hs1 = part_of_shapes t p x xs s m s' a b hs in
        let hs2 = rest_shapes t p x xs s m s' a b hs in
        let he2 = end_of_rest t p x xs s' he in
        let here = head_of t (p + part_size x) xs m s' b hs2 he2 in
        let c1 = part_code env x p h in
        let c2 = code_of env xs (p + part_size x) (h + part_slots x) in
        all_both code t p (part_size x) (size_of xs)
        (part_right code t env p h x s m a lo fits (code_front code p c1 c2 hc) hs1 here (omega (arith, le)))
        (right_of code t env (p + part_size x) (h + part_slots x) xs m s' b (omega (arith, lo)) fits
        (code_back code p (p + part_size x) c1 c2 (ap (λ z. p + z) (part_sized env p h x s m a)) hc) hs2 he2
        (omega (arith, le)))

  -- once for all templates
  pub template_typed : (line own count : ℕ) (xs : List Part) (labels : List (Option Sh)) (gs : List Ring) (s s' : Sh) →
      length labels ≡ count → IsTrue (all_stand count xs) → PartsOk (record { labels = labels; own = own } ∷ gs) s xs
      s' → Typed k (template line own count xs) gs s s'
  template_typed line own count xs labels gs s s' el st ok =
      let g : Ring = record { labels = labels; own = own } in
      record {
        sized = λ env p h. sized_of (g ∷ gs)
            (record { labels = labels_from xs p count 0; slot = own_slot own h } ∷ env) p (h + own) xs s s' ok;
        lined = lined_of (g ∷ gs) line xs s s' ok;
        shapes = shapes_of (g ∷ gs) xs s s' ok;
        long = long_of (g ∷ gs) xs s s' ok;
        head = λ t p h e. head_of (g ∷ gs) t p xs s s' ok h e;
        right = λ code t env p h lo hc hs he fits le.
            let f : Frame = record { labels = labels_from xs p count 0; slot = own_slot own h } in
            let own_fits : FrameFits k t f g = record {
              labels = λ l r e.
                  let lt : l < count = omega (arith, el, get_within labels l r e) in
                  let at = label_here xs p count l lt in
                  rw at (
                    omega (arith, lo, place_above xs l p),
                    label_of (g ∷ gs) t p xs s s' ok hs he l (stands_below count xs l st lt) ∙ e,
                  );
              slot = λ lt. slot_below own h k.slots lt (omega (arith, le));
            } in
            right_of (g ∷ gs) code t (f ∷ env) p (h + own) xs s s' ok lo (env_cons k t f g env gs own_fits fits) hc hs
            he (omega (arith, le));
      }
