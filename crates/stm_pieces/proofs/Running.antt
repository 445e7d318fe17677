-- A step over a piece view is a step by its meaning, over the records that it shows.
use Rattle.std.proofs.Common.{◌≡◌, ◌⊎◌, ℕ, suc, ◌+◌, ◌≤◌, ◌*◌, Bool, true, false, List, [], ◌++◌, ◌∷◌, Option, Some, IsSome, length, refl, sym, ◌∙◌, ap, subst, inl, inr, eqb, ◌||◌, arith, length-append, length-drop}
use Rattle.std.proofs.lemmas.Bool.{cases_Bool, both_ways, cond-true, cond-false, eqb-true}
use Rattle.std.proofs.lemmas.List.{length-set, length-take}
use Rattle.std.specs.List.{remove}
use Rattle.std.specs.Prelude.{take, drop}
use Rattle.py_data.specs.declared.value.Value.{Value}
use Rattle.py_data.specs.declared.change.Change.{Change}
use Rattle.py_data.specs.declared.change.Change.TheVariants.{Set, Push, Cut, Pair, Unpair}
use Rattle.py_data.specs.Changes.{after}
use Rattle.py_data.specs.Heap.{Heap, Rec, Has, put_at}
use Rattle.py_data.specs.Row.{Call, Reply, Row, Ret, Do, Read, Find, Edit, Make, Start, Put, Take, MidLine, SetMidLine}
use Rattle.py_data.specs.Shape.{Fits, find}
use Rattle.py_data.specs.Sense.{Run, Upto}
use Rattle.py_data.specs.Sight.{Sight, Act, Does, Edited, pure, looked_at, edited, in_world}
use Rattle.py_data.specs.Steady.{AsksToPrint, Writes, WritesThen, NoLonger}
use Rattle.stm_pieces.specs.PieceState.{PieceState, PieceDoes, Changes, Outer, growth, with_edit}
use Rattle.stm_pieces.specs.PieceSense.{piece_sense}
use Rattle.stm_pieces.specs.inner.Walked.{Follows}
use Rattle.stm_pieces.proofs.Replaying.{replayed_more}

same_follows : {S : Type 0} (d0 d e : PieceState) (s : Sight S) → e ≡ d → Follows d0 d s → Follows d0 e s
same_follows d0 d e s q f = subst (λ (z : PieceState). Follows d0 z s) (sym q) f

look_follows : {S : Type 0} (a : ℕ) (r : Rec) (d0 d : PieceState) (s : Sight S) → Follows d0 d s →
    Follows d0 d (looked_at a r s)
look_follows a r d0 d s f = record {
  heap = f.heap;
  quiet = record { made = f.quiet.made; started = f.quiet.started; unused = f.quiet.unused };
  there = f.there;
  locked = f.locked;
  within = f.within;
  terms = f.terms;
  replayed = f.replayed;
  tight = f.tight;
  alone = f.alone;
}

-- ---- lengths
removed : (xs : List Value) (i : ℕ) → length (remove xs i) ≤ length xs
removed xs i =
    let e : remove xs i ≡ take i xs ++ drop (suc i) xs = refl in
    omega (arith, ap length e, length-append (take i xs) (drop (suc i) xs), length-take i xs, length-drop (suc i) xs)

-- a change adds no more values than its growth
grown : (c : Change) (q : Rec) → length (after c q).values ≤ length q.values + growth c
grown (Set i v) q = omega (arith, length-set q.values i v)
grown (Push v) q = omega (arith, length-append q.values (v ∷ []))
grown (Cut n) q = omega (arith, length-take n q.values)
grown (Pair key v) q = omega (arith, length-append (q.values ++ key ∷ []) (v ∷ []), length-append q.values (key ∷ []))
grown (Unpair k) q =
    let a = removed q.values (2 * k) in
    let b = removed (remove q.values (2 * k)) (2 * k) in
    omega (arith, a, b)

-- ---- changes
put_here : (h : Heap) (a b : ℕ) (q : Rec) → eqb b a ≡ true → Has (put_at h a q) b
put_here h a b q y = subst IsSome (sym (cond-true (eqb b a) (Some q) (h b) y)) refl

put_there : (h : Heap) (a b : ℕ) (q : Rec) → eqb b a ≡ false → Has h b → Has (put_at h a q) b
put_there h a b q n s = subst IsSome (sym (cond-false (eqb b a) (Some q) (h b) n)) s

other_mark : (x y : Bool) → x ≡ false → (x || y) ≡ true → y ≡ true
other_mark true y e m = absurd (both_ways true e refl)
other_mark false y e m = m

-- a record put in the place of one of the loan, no longer than that
put_within : (h g : Heap) (a : ℕ) (q r : Rec) → NoLonger h g → g a ≡ Some r → length q.values ≤ length r.values →
    NoLonger (put_at h a q) g
put_within h g a q r n is l b z e = elim (cases_Bool (eqb b a)) [
  | inl y ↦
      let f : ◌≡◌ {A = Option Rec} (Some q) (Some z) = sym (cond-true (eqb b a) (Some q) (h b) y) ∙ e in
      let w : q ≡ z = cc in
      (r, ap g (eqb-true b a y) ∙ is, subst (λ (x : Rec). length x.values ≤ length r.values) w l)
  | inr m ↦ n b z (sym (cond-false (eqb b a) (Some q) (h b) m) ∙ e)
]

abbrev pub Acted : {S : Type 0} → PieceState → (c : Call S) → Sight S → Reply c → PieceState → Type 0
Acted {S} d0 c s r e = (t : Sight S) × Act c s r t × Follows d0 e t

edit_follows : {S : Type 0} (a : ℕ) (c : Change) (d0 d e : PieceState) (s : Sight S) → Changes a c d e → Follows d0 d s
    → (t : Sight S) × Edited a c s t × Follows d0 e t
edit_follows {S} a c d0 d e s h f =
    let q = after c h.0 in
    let t = edited a q s in
    let was = f.within a h.0 h.1.is in
    let most : d.most a ≡ length was.0.values = ap (λ m. m a) f.terms.most ∙ f.tight a was.0 was.1 in
    let short : length q.values ≤ length was.0.values = omega (arith, grown c h.0, h.2, most) in
    let lock : d0.locked a ≡ true = ap (λ m. m a) (sym f.terms.locked) ∙ h.1.locked_is in
    let d1 : PieceState = with_edit a c h.0 d in
    let n : Follows d0 d1 t = record {
      heap = ap (λ g. put_at g a q) f.heap;
      quiet = record { made = f.quiet.made; started = f.quiet.started; unused = f.quiet.unused };
      there = λ b m. elim (cases_Bool (eqb b a)) [
        | inl y ↦ put_here s.heap a b q y
        | inr x ↦ put_there s.heap a b q x (f.there b (other_mark (eqb b a) (s.touched b) x m))
      ];
      locked = λ b m. elim (cases_Bool (eqb b a)) [
        | inl y ↦ subst (λ n. d0.locked n ≡ true) (sym (eqb-true b a y)) lock
        | inr x ↦ f.locked b (other_mark (eqb b a) (s.touched b) x m)
      ];
      within = put_within d.heap d0.heap a q was.0 f.within was.1 short;
      terms = record {
        loaned = f.terms.loaned;
        names = f.terms.names;
        most = f.terms.most;
        locked = f.terms.locked;
        solo = f.terms.solo;
      };
      replayed = replayed_more a c d0 d d1 f.terms.locked (h.0, h.1, h.2, refl) f.replayed;
      tight = f.tight;
      alone = f.alone;
    } in
    (t, (h.0, ap (λ g. g a) f.heap ∙ h.1.is, h.1.allows, refl), same_follows d0 d1 e t h.3 n)

-- ---- calls
-- the call asks whether the output is in mid line, and whatever the answer, the row writes next
abbrev pub Asked : {S A : Type 0} (c : Call S) → (Reply c → Row S A) → Sight S → Type 0
Asked {S} c k s = (x : Reply c) × (t : Sight S) × Act c s x t × ((y : Reply c) → Writes (k y))

-- a call that was done over a piece view was done by its meaning, or it asks for the flag
call_piece : {S A : Type 0} (c : Call S) (k : Reply c → Row S A) (d0 d : PieceState) (r : Reply c) (e : PieceState)
    (s : Sight S) → WritesThen c k → PieceDoes c d r e → Follows d0 d s → Acted d0 c s r e ⊎ Asked c k s
call_piece (Read a) k d0 d r e s n h f = inl (
  looked_at a r s,
  (ap (λ g. g a) f.heap ∙ h.0, refl),
  same_follows d0 d e _ h.1 (look_follows a r d0 d s f),
)
call_piece (Find a key) k d0 d o e s n h f = inl (
  looked_at a h.0 s,
  (
    h.0,
    ap (λ g. g a) f.heap ∙ h.1,
    subst (λ (g : Heap). Fits g h.0 key) (sym f.heap) h.2,
    subst (λ (g : Heap). o ≡ find g h.0.values key) (sym f.heap) h.3,
    refl,
  ),
  same_follows d0 d e _ h.4 (look_follows a h.0 d0 d s f),
)
call_piece (Edit a c) k d0 d r e s n h f = inl (edit_follows a c d0 d e s h f)
call_piece (Make q) k d0 d r e s n h f = absurd h
call_piece (Start p) k d0 d r e s n h f = absurd h
call_piece (Put on b) k d0 d r e s n h f = absurd h
call_piece (Take most) k d0 d r e s n h f = absurd h
call_piece MidLine k d0 d r e s n h f = inr (s.world.mid, in_world s.world s, (refl, refl), n)
call_piece (SetMidLine b) k d0 d r e s n h f = absurd (both_ways d.solo (f.terms.solo ∙ f.alone) h.0)

-- ---- rows
module _ {S X A : Type 0} (state : X → PieceState) where
  -- a row that writes isn't done
  never_writes : (row : Row S A) (v w : X) (b : A) → Writes row → Run (piece_sense state S) row v b w → ⊥
  unfolding Run
  never_writes (Do (Put on bytes) k) v w b p h = h.2.0
  never_writes (Ret a) v w b p h = p
  never_writes (Do (Read a) k) v w b p h = p
  never_writes (Do (Find a key) k) v w b p h = p
  never_writes (Do (Edit a c) k) v w b p h = p
  never_writes (Do (Make q) k) v w b p h = p
  never_writes (Do (Start q) k) v w b p h = p
  never_writes (Do (Take most) k) v w b p h = p
  never_writes (Do MidLine k) v w b p h = p
  never_writes (Do (SetMidLine mid) k) v w b p h = p

  -- a row that was done over a piece view was done by its meaning
  pub row_piece : (row : Row S A) (d0 : PieceState) (v w : X) (b : A) (s : Sight S) → AsksToPrint row →
      Run (piece_sense state S) row v b w → Follows d0 (state v) s
      → (t : Sight S) × Does row s b t × Follows d0 (state w) t
  unfolding Run
  row_piece (Ret a) d0 v w b s p h f = (s, (h.0, refl), subst (λ x. Follows d0 (state x) s) (sym h.1) f)
  row_piece (Do c k) d0 v w b s p h f = elim (call_piece c k d0 (state v) h.0 (state h.1) s p.0 h.2.0 f) [
    | inl one ↦
        let more = row_piece (k h.0) d0 h.1 w b one.0 (p.1 h.0) h.3 one.2 in
        (more.0, (h.0, one.0, one.1, more.1), more.2)
    | inr asked ↦ absurd (never_writes (k h.0) h.1 w b (asked.3 h.0) h.3)
  ]

  -- a row that writes next is left as it is
  writes_stays : (row left : Row S A) (v w : X) → Writes row → Upto (piece_sense state S) row v left w → Writes left
  unfolding Upto
  writes_stays (Do (Put on bytes) k) left v w p h = elim h [
    | inl e ↦ subst Writes (sym e.0) tt
    | inr d ↦ absurd d.2.0
  ]
  writes_stays (Ret a) left v w p h = absurd p
  writes_stays (Do (Read a) k) left v w p h = absurd p
  writes_stays (Do (Find a key) k) left v w p h = absurd p
  writes_stays (Do (Edit a c) k) left v w p h = absurd p
  writes_stays (Do (Make q) k) left v w p h = absurd p
  writes_stays (Do (Start q) k) left v w p h = absurd p
  writes_stays (Do (Take most) k) left v w p h = absurd p
  writes_stays (Do MidLine k) left v w p h = absurd p
  writes_stays (Do (SetMidLine mid) k) left v w p h = absurd p

  -- a row that was begun, and doesn't write next, was begun by its meaning
  pub upto_piece : (row left : Row S A) (d0 : PieceState) (v w : X) (s : Sight S) → AsksToPrint row →
      (Writes left → ⊥) → Upto (piece_sense state S) row v left w → Follows d0 (state v) s
      → (t : Sight S) × Upto pure row s left t × Follows d0 (state w) t
  unfolding Upto
  upto_piece (Ret a) left d0 v w s p n h f = (s, (h.0, refl), subst (λ x. Follows d0 (state x) s) (sym h.1) f)
  upto_piece (Do c k) left d0 v w s p n h f = elim h [
    | inl e ↦ (s, inl (e.0, refl), subst (λ x. Follows d0 (state x) s) (sym e.1) f)
    | inr d ↦ elim (call_piece c k d0 (state v) d.0 (state d.1) s p.0 d.2.0 f) [
      | inl one ↦
          let more = upto_piece (k d.0) left d0 d.1 w one.0 (p.1 d.0) n d.3 one.2 in
          (more.0, inr (d.0, one.0, one.1, more.1), more.2)
      | inr asked ↦ absurd (n (writes_stays (k d.0) left d.1 w (asked.3 d.0) d.3))
    ]
  ]

-- ---- where a row comes to print or read
-- the next call of a row prints or reads
abbrev pub GoesOut : {S A : Type 0} → Row S A → Type 0
GoesOut (Ret a) = ⊥
GoesOut (Do c k) = Outer c

-- from here a row comes to a call that prints or reads
abbrev pub OutFrom : {S A : Type 0} → Row S A → Sight S → Type 0
OutFrom {S} {A} row s = (left : Row S A) × (t : Sight S) × Upto pure row s left t × GoesOut left

writes_out : {S A : Type 0} (row : Row S A) (s : Sight S) → Writes row → OutFrom row s
unfolding Upto
writes_out (Do (Put on bytes) k) s p = (Do (Put on bytes) k, s, inl (refl, refl), tt)
writes_out (Ret a) s p = absurd p
writes_out (Do (Read a) k) s p = absurd p
writes_out (Do (Find a key) k) s p = absurd p
writes_out (Do (Edit a c) k) s p = absurd p
writes_out (Do (Make q) k) s p = absurd p
writes_out (Do (Start q) k) s p = absurd p
writes_out (Do (Take most) k) s p = absurd p
writes_out (Do MidLine k) s p = absurd p
writes_out (Do (SetMidLine mid) k) s p = absurd p

-- a row that was begun, and prints or reads next, comes to print or read by its meaning too
pub upto_out : {S X A : Type 0} (state : X → PieceState) (row left : Row S A) (d0 : PieceState) (v w : X) (s : Sight S)
    → AsksToPrint row → GoesOut left → Upto (piece_sense state S) row v left w → Follows d0 (state v) s
    → OutFrom row s
unfolding Upto
upto_out state (Ret a) left d0 v w s p o h f = absurd (subst GoesOut h.0 o)
upto_out state (Do c k) left d0 v w s p o h f = elim h [
  | inl e ↦ (left, s, inl (e.0, refl), o)
  | inr d ↦ elim (call_piece c k d0 (state v) d.0 (state d.1) s p.0 d.2.0 f) [
    | inl one ↦
        let more = upto_out state (k d.0) left d0 d.1 w one.0 (p.1 d.0) o d.3 one.2 in
        (more.0, more.1, inr (d.0, one.0, one.1, more.2), more.3)
    | inr asked ↦
        let more = writes_out (k asked.0) asked.1 (asked.3 asked.0) in
        (more.0, more.1, inr (asked.0, asked.1, asked.2, more.2), more.3)
  ]
]
