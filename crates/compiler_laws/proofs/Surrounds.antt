-- What surrounds a statement fits the shape at which it stands.
use Rattle.std.proofs.Common.{◌≡◌, ℕ, ◌+◌, ◌<◌, ◌≤◌, ◌^◌, List, [], ◌∷◌, Some, None, Bool, true, false, sym, subst, arith, map, get_or, drop}
use Rattle.std.specs.Prelude.{IsTrue}
use Rattle.py_code.specs.Effects.{Limits, Sh, floor_of}
use Rattle.py_templates.specs.Template.{Piece, Sub, size_of, row}
use Rattle.py_templates.specs.Table.{E, A, Around, InWhile, InFor, InTry, InClause, InFinally}
use Rattle.py_templates.proofs.Typed.{Ring, ring_at, Typed}
use Rattle.compiler_laws.proofs.Ops.{sh}
use Rattle.compiler_laws.proofs.Values.{Each, Room, same}

module _ (k : Limits) where
  -- what surrounds a statement fits the shape at which it stands: one ring for each construct
  abbrev pub AroundFits : List Around → List Ring → ℕ → List ℕ → Type 0
  AroundFits [] gs h bs = floor_of bs ≤ h
  AroundFits (InWhile ∷ c) gs h bs = (get_or (ring_at gs 0).labels E None ≡ Some (sh h bs)) ×
      (get_or (ring_at gs 0).labels A None ≡ Some (sh h bs)) × AroundFits c (drop 1 gs) h bs
  AroundFits (InFor ∷ c) gs h bs = (low : ℕ) × (h ≡ low + 1) × (get_or (ring_at gs 0).labels E None ≡ Some (sh low bs))
      × (get_or (ring_at gs 0).labels A None ≡ Some (sh h bs)) × AroundFits c (drop 1 gs) low bs
  AroundFits (InTry ∷ c) gs h bs = (outer : List ℕ) × (bs ≡ h ∷ outer) × AroundFits c (drop 1 gs) h outer
  AroundFits (InClause ∷ c) gs h bs = (0 < (ring_at gs 0).own) × AroundFits c (drop 1 gs) h bs
  AroundFits (InFinally fin ∷ c) gs h bs = (outer : List ℕ) × (bs ≡ h ∷ outer) × Typed k fin (drop 1 gs) (sh h outer)
      (sh h outer) × AroundFits c (drop 1 gs) h outer

  pub low : (c : List Around) (gs : List Ring) (h : ℕ) (bs : List ℕ) → AroundFits c gs h bs → floor_of bs ≤ h
  low [] gs h bs f = f
  low (InWhile ∷ c) gs h bs f = low c (drop 1 gs) h bs f.2
  low (InFor ∷ c) gs h bs (l, e, a, b, f) = let r = low c (drop 1 gs) l bs f in omega (arith, r, e)
  low (InTry ∷ c) gs h bs (o, e, f) = let r : floor_of (h ∷ o) ≤ h = omega arith in
      subst (λ z. floor_of z ≤ h) (sym e) r
  low (InClause ∷ c) gs h bs f = low c (drop 1 gs) h bs f.1
  low (InFinally fin ∷ c) gs h bs (o, e, t, f) = let r : floor_of (h ∷ o) ≤ h = omega arith in
      subst (λ z. floor_of z ≤ h) (sym e) r

  -- a statement inside these constructs
  pub record Does (c : List Around) (b : Piece) : Type 0 where
    pub typed : (gs : List Ring) (h : ℕ) (bs : List ℕ) → AroundFits c gs h bs → Room h b →
        Typed k b gs (sh h bs) (sh h bs)

  -- one that never ends at its end
  pub record Leaves (c : List Around) (b : Piece) : Type 0 where
    pub typed : (gs : List Ring) (h : ℕ) (bs : List ℕ) (s : Sh) → AroundFits c gs h bs → Room h b →
        Typed k b gs (sh h bs) s

  pub leaves_does : (c : List Around) (b : Piece) → Leaves c b → Does c b
  leaves_does c b w = record { typed = λ gs h bs f room. w.typed gs h bs (sh h bs) f room }

  each_does : (c : List Around) (gs : List Ring) (h : ℕ) (bs : List ℕ) (ps : List Piece) → AroundFits c gs h bs →
      Each (Does c) ps → h + size_of (map (Sub 1) ps) + 8 < 2 ^ 32 → Each (λ b. Typed k b gs (sh h bs) (sh h bs)) ps
  each_does c gs h bs [] f vs room = tt
  each_does c gs h bs (p ∷ ps) f (v, vs) room =
      (v.typed gs h bs f (omega (arith, room)), each_does c gs h bs ps f vs (omega (arith, room)))

  pub block_does : (c : List Around) (ps : List Piece) → Each (Does c) ps → Does c (row ps)
  block_does c ps vs = record { typed = λ gs h bs f room. same k gs ps (sh h bs) (each_does c gs h bs ps f vs room) }

  -- break and continue stand in a loop, a raise alone in a clause
  abbrev pub in_loop : List Around → Bool
  in_loop [] = false
  in_loop (InWhile ∷ c) = true
  in_loop (InFor ∷ c) = true
  in_loop (_ ∷ c) = in_loop c

  abbrev pub in_clause : List Around → Bool
  in_clause [] = false
  in_clause (InClause ∷ c) = true
  in_clause (_ ∷ c) = in_clause c

  -- an except clause: E is the end of its try
  pub record Clause (c : List Around) (b : Piece) : Type 0 where
    pub typed : (gs : List Ring) (h : ℕ) (bs : List ℕ) → AroundFits (InClause ∷ c) gs h bs →
        get_or (ring_at gs 0).labels E None ≡ Some (sh h bs) → Room h b → Typed k b gs (sh h bs) (sh h bs)

  -- the slot of the innermost clause
  abbrev pub SlotFits : List Around → List Ring → Type 0
  SlotFits [] gs = ⊥
  SlotFits (InClause ∷ c) gs = 0 < (ring_at gs 0).own
  SlotFits (_ ∷ c) gs = SlotFits c (drop 1 gs)

  pub slot_fits : (c : List Around) (gs : List Ring) (h : ℕ) (bs : List ℕ) → AroundFits c gs h bs →
      IsTrue (in_clause c) →
      SlotFits c gs
  slot_fits [] gs h bs f i = cc
  slot_fits (InClause ∷ c) gs h bs f i = f.0
  slot_fits (InWhile ∷ c) gs h bs f i = slot_fits c (drop 1 gs) h bs f.2 i
  slot_fits (InFor ∷ c) gs h bs (l, e, a, b, g) i = slot_fits c (drop 1 gs) l bs g i
  slot_fits (InTry ∷ c) gs h bs (o, e, g) i = slot_fits c (drop 1 gs) h o g i
  slot_fits (InFinally fin ∷ c) gs h bs (o, e, t, g) i = slot_fits c (drop 1 gs) h o g i
