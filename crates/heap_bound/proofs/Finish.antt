-- A row whose conditions hold can be done to its end, from any place within it.
use Rattle.std.proofs.Common.{◌≡◌, ◌⊎◌, inl, inr, ℕ, suc, ◌+◌, ◌≤◌, false, true, eqb, List, [], Option, Some, None, refl, sym, subst, ◌∙◌, arith}
use Rattle.std.proofs.lemmas.Bool.{cases_Bool, eqb-true, cond-false}
use Rattle.py_data.specs.Changes.{after}
use Rattle.py_data.specs.Heap.{Heap, Rec, at, put_at}
use Rattle.py_data.specs.Shape.{find}
use Rattle.py_data.specs.World.{IsLine, line_of, wrote, took}
use Rattle.py_data.specs.Row.{Call, Reply, Row, Ret, Do, Read, Find, Edit, Make, Start, Put, Take, MidLine, SetMidLine}
use Rattle.py_data.specs.Sense.{Run, Upto, Asks, Safe, Effect, IfThere}
use Rattle.py_data.specs.Sight.{Sight, Act, Does, looked_at, edited, made_new, started_one, in_world, pure}
use Rattle.py_data.proofs.Holding.{act_effect}
use Rattle.py_data.proofs.Whole.{run_steps, upto_steps}

-- ---- heaps that end

-- no record stands at the addresses from a number on
pub record Ends (h : Heap) : Type 0 where
  pub number : ℕ
  pub none : (a : ℕ) → number ≤ a → h a ≡ None

ends_same : (h g : Heap) → g ≡ h → Ends h → Ends g
ends_same h g e d = subst Ends (sym e) d

ends_put : (h : Heap) (a : ℕ) (q : Rec) → Ends h → Ends (put_at h a q)
ends_put h a q e = record {
  number = e.number + suc a;
  none = λ b l. cond-false (eqb b a) (Some q) (h b) (other b l (cases_Bool (eqb b a))) ∙ e.none b (omega arith);
}
  where
    other : (b : ℕ) → e.number + suc a ≤ b → (eqb b a ≡ true) ⊎ (eqb b a ≡ false) → eqb b a ≡ false
    other b l c = elim c [ inl y ↦ (let z = eqb-true b a y in absurd (omega arith)) | inr f ↦ f ]

effect_ends : {S : Type 0} (c : Call S) (h : Heap) (r : Reply c) (g : Heap) → Effect false c h r g → Ends h → Ends g
effect_ends (Read a) h r g d e = ends_same h g d.1 e
effect_ends (Find a key) h r g d e = ends_same h g d.2 e
effect_ends (Edit a x) h r g d e = subst Ends (sym d.1) (ends_put h a (after x (at h a)) e)
effect_ends (Make q) h a g d e = subst Ends (sym d.1) (ends_put h a q e)
effect_ends (Start p) h r g d e = ends_same h g d e
effect_ends (Put on bytes) h r g d e = ends_same h g d e
effect_ends (Take most) h r g d e = ends_same h g d.1 e
effect_ends MidLine h r g d e = ends_same h g d e
effect_ends (SetMidLine mid) h r g d e = ends_same h g d e

act_ends : {S : Type 0} (c : Call S) (s : Sight S) (r : Reply c) (t : Sight S) → Act c s r t → Ends s.heap → Ends t.heap
act_ends c s r t d e = effect_ends c s.heap r t.heap (act_effect c s r t d) e

abbrev EndsToo : {S : Type 0} → Sight S → Sight S → Type 0
EndsToo s t = Ends s.heap → Ends t.heap

pub does_ends : {S A : Type 0} (row : Row S A) (s : Sight S) (y : A) (t : Sight S) → Does row s y t → Ends s.heap →
    Ends t.heap
does_ends {S} row s y t d = run_steps pure EndsToo (λ (v : Sight S) e. e) (λ (v m w : Sight S) f g e. g (f e))
    act_ends row s y t d

upto_ends : {S A : Type 0} (row : Row S A) (s : Sight S) (left : Row S A) (place : Sight S) →
    Upto pure row s left place → Ends s.heap → Ends place.heap
upto_ends {S} row s left place u = upto_steps pure EndsToo (λ (v : Sight S) e. e) (λ (v m w : Sight S) f g e. g (f e))
    act_ends row s left place u

-- ---- calls that can be done

-- it has an answer
pub record Goes {S : Type 0} (c : Call S) (s : Sight S) : Type 0 where
  pub reply : Reply c
  pub after_call : Sight S
  pub act : Act c s reply after_call

-- what a condition on a record that must be there tells
there : (o : Option Rec) (P : Rec → Type 0) → IfThere false o P → (r : Rec) × (o ≡ Some r) × P r
there None P d = absurd cc
there (Some r) P d = (r, refl, d)

some_line : (input : Option (List ℕ)) (most : ℕ) → (l : List ℕ) × IsLine input most l
some_line None most = ([], omega arith)
some_line (Some xs) most = (line_of most xs, refl)

pub call_goes : {S : Type 0} (c : Call S) (s : Sight S) → Asks false c s.heap → Ends s.heap → Goes c s
unfolding Asks
call_goes (Read a) s d e = let q = there (s.heap a) _ d in record {
  reply = q.0;
  after_call = looked_at a q.0 s;
  act = (q.1, refl);
}
call_goes (Find a key) s d e = let q = there (s.heap a) _ d in
    record { reply = find s.heap q.0.values key; after_call = looked_at a q.0 s; act = (q.0, q.1, q.2, refl, refl) }
call_goes (Edit a x) s d e = let q = there (s.heap a) _ d in
    record { reply = tt; after_call = edited a (after x q.0) s; act = (q.0, q.1, q.2.0, refl) }
call_goes (Make r) s d e = record {
  reply = e.number;
  after_call = made_new e.number r s;
  act = (e.none e.number (omega arith), refl);
}
call_goes (Start p) s d e = record { reply = tt; after_call = started_one p s; act = refl }
call_goes (Put on bytes) s d e = record { reply = tt; after_call = in_world (wrote on bytes s.world) s; act = refl }
call_goes (Take most) s d e = let l = some_line s.world.input most in
    record { reply = l.0; after_call = in_world (took l.0 s.world) s; act = (l.1, refl) }
call_goes MidLine s d e = record { reply = s.world.mid; after_call = in_world s.world s; act = (refl, refl) }
call_goes (SetMidLine mid) s d e = record {
  reply = tt;
  after_call = in_world (record s.world { mid = mid }) s;
  act = refl;
}

-- ---- rows that can be done

-- to their ends
pub does_all : {S A : Type 0} (row : Row S A) (s : Sight S) → Safe false row s.heap → Ends s.heap →
    (y : A) × (t : Sight S) × Does row s y t
unfolding Safe Run
does_all (Ret a) s d e = (a, s, (refl, refl))
does_all (Do c k) s d e =
    let g = call_goes c s d.0 e in
    let safe = d.1 g.reply g.after_call.heap (act_effect c s g.reply g.after_call g.act) in
    let z = does_all (k g.reply) g.after_call safe (act_ends c s g.reply g.after_call g.act e) in
    (z.0, z.1, (g.reply, g.after_call, g.act, z.2))

-- from a place within a row the rest can be done, and the whole row was then done
pub upto_done : {S A : Type 0} (row : Row S A) (s : Sight S) (left : Row S A) (place : Sight S) (y : A)
    (t : Sight S) → Upto pure row s left place → Does left place y t → Does row s y t
unfolding Upto Run
upto_done (Ret a) s left place y t u d = subst (λ q. Does q s y t) u.0 (subst (λ z. Does left z y t) u.1 d)
upto_done (Do c k) s left place y t u d = elim u [
  | inl e ↦ subst (λ q. Does q s y t) e.0 (subst (λ z. Does left z y t) e.1 d)
  | inr e ↦ (e.0, e.1, e.2, upto_done (k e.0) e.1 left place y t e.3 d)
]

upto_safe : {S A : Type 0} (row : Row S A) (s : Sight S) (left : Row S A) (place : Sight S) →
    Upto pure row s left place → Safe false row s.heap → Safe false left place.heap
unfolding Upto Safe
upto_safe {S} (Ret a) s left place u d = subst (λ q. Safe false q place.heap) (sym u.0)
    (subst (λ (z : Sight S). Safe {S = S} false (Ret a) z.heap) (sym u.1) d)
upto_safe {S} (Do c k) s left place u d = elim u [
  | inl x ↦ subst (λ q. Safe false q place.heap) (sym x.0) (subst (λ (z : Sight S). Safe false (Do c k) z.heap)
      (sym x.1) d)
  | inr x ↦ upto_safe (k x.0) x.1 left place x.3 (d.1 x.0 x.1.heap (act_effect c s x.0 x.1 x.2))
]

-- what a place within a row that can be done is like: the rest can be done too
pub record CanFinish {S A : Type 0} (left : Row S A) (place : Sight S) : Type 0 where
  pub safe : Safe false left place.heap
  pub ends : Ends place.heap

pub rest_finishes : {S A : Type 0} (row : Row S A) (s : Sight S) (left : Row S A) (place : Sight S) →
    Upto pure row s left place → CanFinish row s → CanFinish left place
rest_finishes row s left place u f = record {
  safe = upto_safe row s left place u f.safe;
  ends = upto_ends row s left place u f.ends;
}

-- its next call has an answer, behind which the rest can be done
pub record GoesOnFrom {S A : Type 0} (call : Call S) (next : Reply call → Row S A) (place : Sight S) : Type 0 where
  pub reply : Reply call
  pub after_call : Sight S
  pub act : Act call place reply after_call
  pub answer : A
  pub end : Sight S
  pub does : Does (next reply) after_call answer end

pub next_goes : {S A : Type 0} (call : Call S) (next : Reply call → Row S A) (place : Sight S) →
    CanFinish (Do call next) place → GoesOnFrom call next place
unfolding Safe
next_goes call next place f =
    let g = call_goes call place f.safe.0 f.ends in
    let safe = f.safe.1 g.reply g.after_call.heap (act_effect call place g.reply g.after_call g.act) in
    let z = does_all (next g.reply) g.after_call safe (act_ends call place g.reply g.after_call g.act f.ends) in
    record { reply = g.reply; after_call = g.after_call; act = g.act; answer = z.0; end = z.1; does = z.2 }

pub whole_does : {S A : Type 0} (call : Call S) (next : Reply call → Row S A) (place : Sight S)
    (g : GoesOnFrom call next place) → Does (Do call next) place g.answer g.end
unfolding Run
whole_does call next place g = (g.reply, g.after_call, g.act, g.does)
