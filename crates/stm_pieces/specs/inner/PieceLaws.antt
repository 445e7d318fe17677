-- What code and proofs say to each other: nothing public rests on it.
-- A piece view keeps the laws of views: the proofs that `impl View for PieceView` cites. States `docs/HEAP.md`,
-- "Views".
use Rattle.std.specs.Prelude.{◌≡◌, ℕ, true}
use Rattle.std.proofs.Common.{ap, refl, ◌∙◌, sym, subst, IsSome, Option, Some, None, eqb, inl, inr}
use Rattle.std.proofs.lemmas.Bool.{cases_Bool, cond-true, cond-false}
use Rattle.py_data.specs.declared.stop.Stop.{Stop}
use Rattle.py_data.specs.declared.stop.Stop.TheVariants.{NeedSolo, NeedHeap, OutOfMemory}
use Rattle.py_data.specs.declared.stop.Out.TheVariants.{Output, ErrorOutput}
use Rattle.py_data.specs.declared.change.Change.{Change}
use Rattle.py_data.specs.Changes.{after}
use Rattle.py_data.specs.Heap.{Heap, Rec, Has, put_at}
use Rattle.py_data.specs.Shape.{find, IsKey, ArePairs}
use Rattle.py_data.specs.Row.{Call, Reply, Read, Find, Edit, Make, Start, Put, Take, MidLine, SetMidLine}
use Rattle.py_data.specs.Sense.{Lawful, IsBracket, Effect, Edits, can_refuse, touches, WantsRoom, IfFull}
use Rattle.py_data.proofs.Steps.{at_is}
use Rattle.stm_pieces.specs.PieceState.{PieceState, PieceDoes, Changes, Why}
use Rattle.stm_pieces.specs.PieceSense.{piece_sense, piece_bracket, piece_stops}

-- a change of a record is one of the heap
changes_edits : (a : ℕ) (c : Change) (d e : PieceState) → Changes a c d e → Edits a (after c) d.heap e.heap
changes_edits a c d e h = (
  subst IsSome (sym h.1.is) refl,
  ap (λ d. d.heap) h.3 ∙
      ap (λ q. put_at d.heap a (after c q)) (sym (at_is d.heap a h.0 h.1.is)),
)

-- each call does to the records what such a call does over any view of a part of a heap
piece_effect : {S : Type 0} (c : Call S) (d : PieceState) (r : Reply c) (e : PieceState) → PieceDoes c d r e →
    Effect true c d.heap r e.heap
piece_effect (Read a) d r e h = (h.0, ap (λ d. d.heap) h.1)
piece_effect (Find a key) d r e h = (
  subst IsSome (sym h.1) refl,
  h.3 ∙
      ap (λ q. find d.heap q.values key) (sym (at_is d.heap a h.0 h.1)),
  ap (λ d. d.heap) h.4,
  subst (λ q. IsKey d.heap key × ArePairs d.heap q.values) (sym (at_is d.heap a h.0 h.1)) (h.2.1, h.2.2),
)
piece_effect (Edit a c) d r e h = changes_edits a c d e h
piece_effect (Make q) d n e h = absurd h
piece_effect (Start s) d r e h = absurd h
piece_effect (Put on b) d r e h = absurd h
piece_effect (Take most) d r e h = absurd h
piece_effect MidLine d r e h = ap (λ d. d.heap) h
piece_effect (SetMidLine b) d r e h = ap (λ d. d.heap) h.1

-- ---- what a call keeps
put_has : (h : Heap) (a b : ℕ) (q : Rec) → Has h b → Has (put_at h a q) b
put_has h a b q s = elim (cases_Bool (eqb b a)) [
  | inl y ↦ subst IsSome (sym (cond-true (eqb b a) (Some q) (h b) y)) refl
  | inr n ↦ subst IsSome (sym (cond-false (eqb b a) (Some q) (h b) n)) s
]

-- each record that was there is there, and loan, terms and what a step goes back to are the same
pub record Kept (d e : PieceState) : Type 0 where
  pub has : (b : ℕ) → Has d.heap b → Has e.heap b
  pub loaned : e.loaned ≡ d.loaned
  pub names : e.names ≡ d.names
  pub base : e.base ≡ d.base
  pub before : e.kept ≡ d.kept
  pub most : e.most ≡ d.most
  pub locked : e.locked ≡ d.locked
  pub solo : e.solo ≡ d.solo

kept_same : (d e : PieceState) → e ≡ d → Kept d e
kept_same d e q = record {
  has = λ b s. subst (λ (z : PieceState). Has z.heap b) (sym q) s;
  loaned = ap (λ (z : PieceState). z.loaned) q;
  names = ap (λ (z : PieceState). z.names) q;
  base = ap (λ (z : PieceState). z.base) q;
  before = ap (λ (z : PieceState). z.kept) q;
  most = ap (λ (z : PieceState). z.most) q;
  locked = ap (λ (z : PieceState). z.locked) q;
  solo = ap (λ (z : PieceState). z.solo) q;
}

kept_edit : (a : ℕ) (c : Change) (d e : PieceState) → Changes a c d e → Kept d e
kept_edit a c d e h = record {
  has = λ b s. subst (λ (z : PieceState). Has z.heap b) (sym h.3) (put_has d.heap a b (after c h.0) s);
  loaned = ap (λ (z : PieceState). z.loaned) h.3;
  names = ap (λ (z : PieceState). z.names) h.3;
  base = ap (λ (z : PieceState). z.base) h.3;
  before = ap (λ (z : PieceState). z.kept) h.3;
  most = ap (λ (z : PieceState). z.most) h.3;
  locked = ap (λ (z : PieceState). z.locked) h.3;
  solo = ap (λ (z : PieceState). z.solo) h.3;
}

pub kept : {S : Type 0} (c : Call S) (d : PieceState) (r : Reply c) (e : PieceState) → PieceDoes c d r e → Kept d e
kept (Read a) d r e h = kept_same d e h.1
kept (Find a key) d r e h = kept_same d e h.4
kept (Edit a c) d r e h = kept_edit a c d e h
kept (Make q) d n e h = absurd h
kept (Start s) d r e h = absurd h
kept (Put on b) d r e h = absurd h
kept (Take most) d r e h = absurd h
kept MidLine d r e h = kept_same d e h
kept (SetMidLine b) d r e h = kept_same d e h.1

is_there : (d : PieceState) (b a : ℕ) (q : Rec) → d.heap b ≡ Some q → ◌≡◌ {A = Option ℕ} (Some b) (Some a) →
    Has d.heap a
is_there d b a q h t = let e : b ≡ a = cc in subst (Has d.heap) e (subst IsSome (sym h) refl)

-- the record that a call touches is there
touched_there : {S : Type 0} (c : Call S) (d : PieceState) (r : Reply c) (e : PieceState) (a : ℕ) →
    PieceDoes c d r e → touches c ≡ Some a → Has d.heap a
touched_there (Read b) d r e a h t = is_there d b a r h.0 t
touched_there (Find b key) d r e a h t = is_there d b a h.0 h.1 t
touched_there (Edit b c) d r e a h t = is_there d b a h.0 h.1.is t
touched_there (Make q) d n e a h t = absurd h
touched_there (Start s) d r e a h t = absurd h
touched_there (Put on b) d r e a h t = absurd h
touched_there (Take most) d r e a h t = absurd h
touched_there MidLine d r e a h t = absurd cc
touched_there (SetMidLine b) d r e a h t = absurd cc

some_not : (o : Option Rec) → o ≡ None → IsSome o → ⊥
some_not None e s = cc
some_not (Some r) e s = cc

-- no look at a record that is here is refused
no_look_stops : (S : Type 0) (a : ℕ) (d : PieceState) (s : Stop) → Why {S = S} s (Read a) d → Has d.heap a → ⊥
no_look_stops S a d NeedHeap w s = some_not (d.heap a) w s
no_look_stops S a d NeedSolo w s = absurd w
no_look_stops S a d OutOfMemory w s = absurd w
no_look_stops S a d _ w s = absurd w

-- each Stop is one that such a call can meet, and one of those that a piece view gives
stop_cause : {S : Type 0} (c : Call S) (d : PieceState) (s : Stop) → Why s c d →
    (can_refuse c s ≡ true) × (piece_stops s ≡ true) × IfFull s (WantsRoom c d.heap)
stop_cause (Read a) d NeedHeap w = (refl, refl, tt)
stop_cause (Find a key) d NeedHeap w = (refl, refl, tt)
stop_cause (Edit a c) d NeedHeap w = (refl, refl, tt)
stop_cause (Make q) d NeedHeap w = (refl, refl, tt)
stop_cause (Start s) d NeedHeap w = (refl, refl, tt)
stop_cause (Put on b) d NeedHeap w = absurd w
stop_cause (Take most) d NeedHeap w = absurd w
stop_cause MidLine d NeedHeap w = absurd w
stop_cause (SetMidLine b) d NeedHeap w = absurd w
stop_cause (Put Output b) d NeedSolo w = (refl, refl, tt)
stop_cause (Put ErrorOutput b) d NeedSolo w = (refl, refl, tt)
stop_cause (Take most) d NeedSolo w = (refl, refl, tt)
stop_cause _ d NeedSolo w = absurd w
stop_cause (Edit a c) d OutOfMemory w = (refl, refl, tt)
stop_cause _ d OutOfMemory w = absurd w
stop_cause _ d _ w = absurd w

module _ {X : Type 0} (state : X → PieceState) (S : Type 0) where
  pub piece_lawful : Lawful (piece_sense state S)
  piece_lawful = record {
    effect = λ c v r w d. piece_effect c (state v) r (state w) d.0;
    live = λ c v r w d. d.1;
    seen = λ c v r w a d t. (kept c (state v) r (state w) d.0).has a
        (touched_there c (state v) r (state w) a d.0 t);
    stays = λ c v r w a d s. (kept c (state v) r (state w) d.0).has a s;
    same = λ a v r w s d. d.2;
    sure = λ a v e w s h. no_look_stops S a (state v) e h.1 s;
    halts = λ c v e w h. ap (λ (z : PieceState). z.stopped) h.0;
    cause = λ c v e w h. stop_cause c (state v) e h.1;
  }

  pub piece_bracketed : IsBracket (piece_sense state S) (piece_bracket state S)
  piece_bracketed = record {
    keeps = λ c v r w d. let k = kept c (state v) r (state w) d.0 in (k.base, k.solo);
    keeps_refused = λ c v e w h.
        (ap (λ (z : PieceState). z.base) h.0, ap (λ (z : PieceState). z.solo) h.0);
    opened = λ v w h. (
      ap (λ (z : PieceState). z.heap) h,
      ap (λ (z : PieceState). z.base) h,
      ap (λ (z : PieceState). z.stopped) h,
    );
    undone = λ v w h. (ap (λ (z : PieceState). z.heap) h, ap (λ (z : PieceState). z.stopped) h);
    put = λ v w bytes d. absurd d.0;
  }
