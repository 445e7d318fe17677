-- The verifier's steps.
use Rattle.std.proofs.Common.{◌≡◌, ◌≢◌, ℕ, zero, suc, ◌+◌, ◌<◌, ◌≤◌, ◌⊎◌, ⊎_elim, inl, inr, List, [], ◌∷◌, ◌++◌, Option, Some, None, Bool, true, false, length, get_or, refl, sym, ap, ◌∙◌, subst, arith, length-append, length-set, ◌^◌}
use Rattle.std.specs.Prelude.{slice_get, slice_set, All, Contains, if◌then◌else◌, IsTrue, ◌↔◌}
use Rattle.std.proofs.lemmas.List.{get_or-set_same, get_or-set_other, get_or_past, get_or_append_left}
use Rattle.std.proofs.lemmas.List.Sums.{sum_by-set}
use Rattle.std.proofs.lemmas.List.Elements.{Contains-append_left, Contains-push, Contains-push_cases, All-append}
use Rattle.std.proofs.lemmas.Bool.{cases_eq}
use Rattle.py_code.specs.declared.instr.Instr.{Instr}
use Rattle.py_code.specs.Effects.{Forward, Effect, Limits, effect, Sh, Fine, there, after, target_of, goes_on}
use Rattle.py_code.specs.Typing.{shape_at, start, Leads, RightAt, IsTyping, IsRight}
use Rattle.py_verify.specs.inner.Flows.{next_of}
use Rattle.py_verify.specs.inner.Work.{Below, Has, spare, left, Grew, Flowed, Flows, Visited, Visits, Going}

below_same : (t : List (Option Sh)) → Below t t
below_same t p s h = h

grew_same : (t : List (Option Sh)) (w : List ℕ) → Grew t t w w
grew_same t w = record {
  keeps = λ p s h. h;
  long = refl;
  fresh = λ p s h. inr h;
  kept = λ p h. h;
  places = λ h. h;
  work = omega arith;
}

pub flowed_none : (t : List (Option Sh)) (w : List ℕ) (s : Sh) → Flowed t t w w None s
flowed_none t w s = record { grew = grew_same t w; here = λ q e. absurd (cc); least = λ u h b. b }

pub flowed_same : (t : List (Option Sh)) (w : List ℕ) (to : ℕ) (s : Sh) → shape_at t to ≡ Some s →
    Flowed t t w w (Some to) s
flowed_same t w to s h = record {
  grew = grew_same t w;
  here = λ q e. let k : to ≡ q = cc in
      subst (λ x. shape_at t x ≡ Some s) k h;
  least = λ u h b. b;
}

pub flowed_set : (t : List (Option Sh)) (w : List ℕ) (to : ℕ) (s : Sh) → to < length t → shape_at t to ≡ None →
    Flowed t (slice_set t to (Some s)) w (w ++ to ∷ []) (Some to) s
flowed_set t w to s lt none = record {
  grew =
      record {
        keeps = keeps;
        long = length-set t to (Some s);
        fresh = fresh;
        kept = λ p h.
            Contains-append_left w (to ∷ []) p h;
        places = places;
        work = work;
      };
  here = here;
  least = least;
}
  where
    t' : List (Option Sh)
    t' = slice_set t to (Some s)

    same : shape_at t' to ≡ Some s
    same = get_or-set_same t to (Some s) None lt

    other : (p : ℕ) → p ≢ to → shape_at t' p ≡ shape_at t p
    other p ne = get_or-set_other t to p (Some s) None ne

    keeps : Below t t'
    keeps p x h = ⊎_elim (λ (e : p ≡ to). let k : shape_at t p ≡ None = ap (shape_at t) e ∙ none in absurd (cc))
        (λ (ne : p ≢ to). other p ne ∙ h) (cases_eq p to)

    fresh : (p : ℕ) (x : Sh) → shape_at t' p ≡ Some x → Contains (w ++ to ∷ []) p ⊎ (shape_at t p ≡ Some x)
    fresh p x h = ⊎_elim (λ (e : p ≡ to). inl (subst (Contains (w ++ to ∷ [])) (sym e) (Contains-push w to)))
        (λ (ne : p ≢ to). inr (sym (other p ne) ∙ h)) (cases_eq p to)

    places : All (λ p. p < length t) w → All (λ p. p < length t) (w ++ to ∷ [])
    places h = All-append (λ p. p < length t) w (to ∷ []) h one
      where
        one : All (λ p. p < length t) (to ∷ [])
        one zero d k = lt
        one (suc n) d k = absurd (omega arith)

    work : left t' (w ++ to ∷ []) ≤ left t w
    work = let e = sum_by-set spare t to (Some s) None lt in let k : spare (get_or t to None) ≡ 2 = ap spare none in
        omega (arith, e, k, length-append w (to ∷ []))

    here : Has t' (Some to) s
    here q e = let k : to ≡ q = cc in subst (λ x. shape_at t' x ≡ Some s) k same

    least : (u : List (Option Sh)) → Has u (Some to) s → Below t u → Below t' u
    least u has b p x h = ⊎_elim (λ (e : p ≡ to). let k : shape_at u to ≡ Some s = has to refl in
        let m : shape_at t' p ≡ Some s = ap (shape_at t') e ∙ same in ap (shape_at u) e ∙ k ∙ sym m ∙ h)
        (λ (ne : p ≢ to). b p x (sym (other p ne) ∙ h)) (cases_eq p to)

pub flow_past : (t : List (Option Sh)) (to : Option ℕ) (place : ℕ) (s : Sh) → to ≡ Some place → length t ≤ place →
    (u : List (Option Sh)) → length u ≡ length t → Has u to s → Below t u → ⊥
flow_past t to place s e past u long has b =
    let k : shape_at u place ≡ Some s = has place e in
    let n : shape_at u place ≡ None = get_or_past u place None (omega arith) in
    absurd (cc)

pub flow_known : (ok : Bool) (t : List (Option Sh)) (w : List ℕ) (to : Option ℕ) (place : ℕ) (s found : Sh) →
    to ≡ Some place → shape_at t place ≡ Some found → (IsTrue ok ↔ (found ≡ s)) → Flows ok t t w w to s
flow_known true t w to place s found e h i = let k : found ≡ s = i.0 refl in
    subst (λ x. Flowed t t w w x s) (sym e) (flowed_same t w place s (h ∙ ap Some k))
flow_known false t w to place s found e h i = λ u long has b.
    let k : shape_at u place ≡ Some s = has place e in
    let m : shape_at u place ≡ Some found = b place found h in
    let n : found ≡ s = cc in
    let z : IsTrue false = i.1 n in cc

pub flow_new : (t t' : List (Option Sh)) (w w' : List ℕ) (to : Option ℕ) (place : ℕ) (s : Sh) → to ≡ Some place →
    place < length t → shape_at t place ≡ None → t' ≡ slice_set t place (Some s) → w' ≡ w ++ place ∷ [] →
    Flowed t t' w w' to s
flow_new t t' w w' to place s e lt none et ew = rw (e, et, ew) (flowed_set t w place s lt none)

grew_on : (t t1 t2 : List (Option Sh)) (w w1 w2 : List ℕ) → Grew t t1 w w1 → Grew t1 t2 w1 w2 → Grew t t2 w w2
grew_on t t1 t2 w w1 w2 g h = record {
  keeps = λ p s e. h.keeps p s (g.keeps p s e);
  long = h.long ∙ g.long;
  fresh =
      λ p s e. ⊎_elim inl (λ (k : shape_at t1 p ≡ Some s).
      ⊎_elim (λ (m : Contains w1 p). inl (h.kept p m)) inr (g.fresh p s k)) (h.fresh p s e);
  kept = λ p e.
      h.kept p (g.kept p e);
  places = λ a k d lt. let b =
      h.places (λ k1 d1 lt1. let x = g.places a k1 d1 lt1 in let l = g.long in omega (arith, x, l)) k d lt in let l =
      g.long in omega (arith, b, l);
  work = omega (arith, g.work, h.work);
}

has_if : (b : Bool) (t : List (Option Sh)) (n : ℕ) (x : Sh) → (IsTrue b → shape_at t n ≡ Some x) →
    Has t (if b then Some n else None) x
has_if true t n x h q e = let m : n ≡ q = cc in subst (λ z. shape_at t z ≡ Some x) m (h refl)
has_if false t n x h q e = absurd (cc)

if_has : (b : Bool) (t : List (Option Sh)) (n : ℕ) (x : Sh) → Has t (if b then Some n else None) x → IsTrue b →
    shape_at t n ≡ Some x
if_has true t n x h y = h n refl
if_has false t n x h y = absurd (cc)

-- what a typing that lies above says of a place
jump_above : (lim : Limits) (t u : List (Option Sh)) (p : ℕ) (i : Instr) (s : Sh) → Leads lim u p i s →
    Has u (target_of (effect lim i).flow) (there (effect lim i) s)
jump_above lim t u p i s l q e = (l.jump q e).1

next_above : (lim : Limits) (t u : List (Option Sh)) (p : ℕ) (i : Instr) (s : Sh) → Leads lim u p i s →
    Has u (next_of (effect lim i).flow p) (after (effect lim i) s)
next_above lim t u p i s l = has_if (goes_on (effect lim i).flow) u (p + 1) (after (effect lim i) s) l.next

pub visit_unfine : (ok : Bool) (lim : Limits) (code : List Instr) (p : ℕ) (t : List (Option Sh)) (i : Instr) (s : Sh) →
    ok ≡ false → (IsTrue ok ↔ Fine lim i s) → slice_get code p ≡ Some i → shape_at t p ≡ Some s →
    (u : List (Option Sh)) → IsTyping lim code u → Below t u → ⊥
visit_unfine ok lim code p t i s bad iff hi hs u ty b = let f = (ty.each p i s hi (b p s hs)).fine in
    let k : IsTrue ok = iff.1 f in cc

pub visit_back : (ok : Bool) (lim : Limits) (code : List Instr) (p : ℕ) (t : List (Option Sh)) (i : Instr) (s : Sh)
    (e : Effect) → e ≡ effect lim i → ok ≡ false → (IsTrue ok ↔ Forward lim.first e.flow) → slice_get code p ≡ Some i →
    shape_at t p ≡ Some s → (u : List (Option Sh)) → IsTyping lim code u → Below t u → ⊥
visit_back ok lim code p t i s e is bad iff hi hs u ty b =
    let l = (ty.each p i s hi (b p s hs)).leads in
    let f : Forward lim.first e.flow = λ q x. (l.jump q (ap (λ y. target_of y.flow) (sym is) ∙ x)).0 in
    let k : IsTrue ok = iff.1 f in cc

visit_no : (ok : Bool) (lim : Limits) (code : List Instr) (p : ℕ) (t t1 : List (Option Sh)) (w w1 : List ℕ) (i : Instr)
    (s : Sh) → ok ≡ false → length t ≡ length code → slice_get code p ≡ Some i → shape_at t p ≡ Some s →
    Flows ok t t1 w w1 (target_of (effect lim i).flow) (there (effect lim i) s) → (u : List (Option Sh)) →
    IsTyping lim code u → Below t u → ⊥
visit_no true lim code p t t1 w w1 i s bad long hi hs f u ty b = absurd (cc)
visit_no false lim code p t t1 w w1 i s bad long hi hs f u ty b =
    f u (ty.long ∙ sym long) (jump_above lim t u p i s (ty.each p i s hi (b p s hs)).leads) b

visit_yes : (first ok : Bool) (lim : Limits) (code : List Instr) (p : ℕ) (t t1 t2 : List (Option Sh))
    (w w1 w2 : List ℕ) (i : Instr) (s : Sh) → first ≡ true → length t ≡ length code → Fine lim i s →
    Forward lim.first (effect lim i).flow → slice_get code p ≡ Some i → shape_at t p ≡ Some s →
    Flows first t t1 w w1 (target_of (effect lim i).flow) (there (effect lim i) s) →
    Flows ok t1 t2 w1 w2 (next_of (effect lim i).flow p) (after (effect lim i) s) → Visits ok lim code p t t2 w w2
visit_yes false ok lim code p t t1 t2 w w1 w2 i s e long fine ahead hi hs f g = absurd (cc)
visit_yes true false lim code p t t1 t2 w w1 w2 i s e long fine ahead hi hs f g = λ u ty b.
    let l = (ty.each p i s hi (b p s hs)).leads in
    g u (ty.long ∙ sym long ∙ sym f.grew.long) (next_above lim t u p i s l) (f.least u (jump_above lim t u p i s l) b)
visit_yes true true lim code p t t1 t2 w w1 w2 i s e long fine ahead hi hs f g =
    record { grew = grew_on t t1 t2 w w1 w2 f.grew g.grew; right = right; least = least }
  where
    right : (j : Instr) (x : Sh) → slice_get code p ≡ Some j → shape_at t p ≡ Some x → RightAt lim t2 p j x
    right j x hj hx =
        let ij : i ≡ j = cc in
        let sx : s ≡ x = cc in
        let r : RightAt lim t2 p i s = record {
          fine = fine;
          leads = record {
            jump = λ q k. (ahead q k, g.grew.keeps q (there (effect lim i) s) (f.here q k));
            next =
                if_has (goes_on (effect lim i).flow) t2 (p + 1) (after (effect lim i) s) g.here;
          };
        } in
        rw (← ij, ← sx) r

    least : (u : List (Option Sh)) → IsTyping lim code u → Below t u → Below t2 u
    least u ty b = let l = (ty.each p i s hi (b p s hs)).leads in
        g.least u (next_above lim t u p i s l) (f.least u (jump_above lim t u p i s l) b)

pub visit_no_at : (ok : Bool) (lim : Limits) (code : List Instr) (p : ℕ) (t t1 : List (Option Sh)) (w w1 : List ℕ)
    (i : Instr) (s : Sh) (e : Effect) (to : Option ℕ) (x : Sh) → e ≡ effect lim i → ok ≡ false → length t ≡ length code
    → slice_get code p ≡ Some i → shape_at t p ≡ Some s → to ≡ target_of e.flow → x ≡ there e s →
    Flows ok t t1 w w1 to x → (u : List (Option Sh)) → IsTyping lim code u → Below t u → ⊥
visit_no_at ok lim code p t t1 w w1 i s e to x is bad long hi hs e1 e2 f =
    let a = e1 ∙ ap (λ y. target_of y.flow) is in
    let b = e2 ∙ ap (λ y. there y s) is in
    visit_no ok lim code p t t1 w w1 i s bad long hi hs (rw (← a, ← b) f)

pub visit_yes_at : (first ok ahead : Bool) (lim : Limits) (code : List Instr) (p : ℕ) (t t1 t2 : List (Option Sh))
    (w w1 w2 : List ℕ) (i : Instr) (s : Sh) (e : Effect) (to : Option ℕ) (x : Sh) (to2 : Option ℕ) (x2 : Sh) →
    e ≡ effect lim i → first ≡ true → length t ≡ length code → Fine lim i s → ahead ≡ true →
    (IsTrue ahead ↔ Forward lim.first e.flow) → slice_get code p ≡ Some i → shape_at t p ≡ Some s →
    to ≡ target_of e.flow → x ≡ there e s → to2 ≡ next_of e.flow p → x2 ≡ after e s → Flows first t t1 w w1 to x →
    Flows ok t1 t2 w1 w2 to2 x2 → Visits ok lim code p t t2 w w2
visit_yes_at first ok ahead lim code p t t1 t2 w w1 w2 i s e to x to2 x2 is good long fine all iff hi hs e1 e2 e3 e4 f
    g =
    let a = e1 ∙ ap (λ y. target_of y.flow) is in
    let b = e2 ∙ ap (λ y. there y s) is in
    let c = e3 ∙ ap (λ y. next_of y.flow p) is in
    let d = e4 ∙ ap (λ y. after y s) is in
    let ok' : Forward lim.first e.flow = iff.0 all in
    let m : Forward lim.first (effect lim i).flow = λ q k. ok' q (ap (λ y. target_of y.flow) is ∙ k) in
    visit_yes first ok lim code p t t1 t2 w w1 w2 i s good long fine m hi hs (rw (← a, ← b) f) (rw (← c, ← d) g)

leads_kept : (lim : Limits) (t t' : List (Option Sh)) (p : ℕ) (i : Instr) (s : Sh) → Below t t' → Leads lim t p i s →
    Leads lim t' p i s
leads_kept lim t t' p i s b l = record {
  jump = λ q e. let h = l.jump q e in (h.0, b q (there (effect lim i) s) h.1);
  next = λ q. b (p + 1) (after (effect lim i) s) (l.next q);
}

pub going_on : (lim : Limits) (code : List Instr) (p : ℕ) (t t' : List (Option Sh)) (w rest w' : List ℕ) →
    Going lim code t w → w ≡ rest ++ p ∷ [] → Visited lim code p t t' rest w' → Going lim code t' w'
going_on lim code p t t' w rest w' g ew v =
    record {
      long = v.grew.long ∙ g.long;
      starts = v.grew.keeps 0 start g.starts;
      least = λ u ty.
          v.least u ty (g.least u ty);
      done = done;
      places = places;
    }
  where
    done : (q : ℕ) (i : Instr) (s : Sh) → slice_get code q ≡ Some i → shape_at t' q ≡ Some s →
        Contains w' q ⊎ RightAt lim t' q i s
    done q i s hi h = ⊎_elim inl (λ (ht : shape_at t q ≡ Some s).
        ⊎_elim (λ (inw : Contains w q). ⊎_elim (λ (k : Contains rest q). inl (v.grew.kept q k))
        (λ (e : p ≡ q). let r : RightAt lim t' p i s = v.right i s (rw e hi) (rw e ht) in inr (rw (← e) r))
        (Contains-push_cases rest p q (rw ew at inw)))
        (λ (r : RightAt lim t q i s). inr
        (record { fine = r.fine; leads = leads_kept lim t t' q i s v.grew.keeps r.leads })) (g.done q i s hi ht))
        (v.grew.fresh q s h)

    places : All (λ p. p < length code) w'
    places k d lt = let l : length t ≡ length code = g.long in let a =
        v.grew.places (λ k1 d1 lt1. let b = g.places k1 d1 (omega (arith, ap length ew, length-append rest (p ∷ [])))
        in let f = get_or_append_left rest (p ∷ []) d1 k1 lt1 in let e = ap (λ x. get_or x k1 d1) ew in
        omega (arith, b, l, e, f)) k d lt in omega (arith, a, l)

pub going_end : (lim : Limits) (code : List Instr) (t : List (Option Sh)) (w : List ℕ) → length code < 2 ^ 32 →
    w ≡ [] → Going lim code t w → IsRight lim code
going_end lim code t w few e g = (
  t,
  record {
    few = few;
    long = g.long;
    starts = g.starts;
    each = λ p i s hi h.
        ⊎_elim (λ (k : Contains w p). absurd (let z : k.0 < length w = k.1 in omega (arith, ap length e, z)))
        (λ (r : RightAt lim t p i s). r) (g.done p i s hi h);
  },
)

pub right_first : (lim : Limits) (code : List Instr) → length code ≡ 0 → IsRight lim code → ⊥
right_first lim code e (t, ty) = let k : shape_at t 0 ≡ None = get_or_past t 0 None (omega (arith, ty.long)) in let s =
    ty.starts in absurd (cc)
