-- Changes one after another, with one more.
use Rattle.std.proofs.Common.{◌≡◌, ℕ, List, [], ◌∷◌, ◌++◌, refl, sym, ◌∙◌, ap, subst, append_assoc, append-nil}
use Rattle.py_data.specs.declared.value.Addr.{Addr}
use Rattle.py_data.specs.declared.change.Change.{Change}
use Rattle.py_data.specs.Changes.{after}
use Rattle.py_data.specs.Heap.{Heap, Rec, Marks, put_at}
use Rattle.stm_pieces.specs.Replay.{MayChange, Replays}
use Rattle.stm_pieces.specs.PieceState.{PieceState, Changes, Replayed}

-- one change more may be made where the others led to
pub replays_more : (locked : Marks) (es : List (Addr × Change)) (g g1 : Heap) (a : Addr) (c : Change) (q : Rec) →
    Replays locked es g g1 → MayChange locked g1 a.0 c q
    → Replays locked (es ++ (a, c) ∷ []) g (put_at g1 a.0 (after c q))
replays_more locked [] g g1 a c q e m =
    (q, subst (λ h. MayChange locked h a.0 c q) e m, ap (λ h. put_at h a.0 (after c q)) e)
replays_more locked (e ∷ es) g g1 a c q r m =
    (r.0, r.1, replays_more locked es (put_at g e.0.0 (after e.1 r.0)) g1 a c q r.2 m)

-- no change yet
pub replayed_none : (d : PieceState) → Replayed d d
replayed_none d = record { more = []; edits = sym (append-nil d.edits); leads = refl }

-- the same records and changes
pub replayed_same : (d0 d e : PieceState) → e.heap ≡ d.heap → e.edits ≡ d.edits → Replayed d0 d → Replayed d0 e
replayed_same d0 d e h n r = record {
  more = r.more;
  edits = n ∙ r.edits;
  leads = subst (λ g. Replays d0.locked r.more d0.heap g) (sym h) r.leads;
}

-- one change more
pub replayed_more : (a : ℕ) (c : Change) (d0 d e : PieceState) → d.locked ≡ d0.locked → Changes a c d e → Replayed d0 d
    → Replayed d0 e
replayed_more a c d0 d e l h r = record {
  more = r.more ++ (place, c) ∷ [];
  edits = ap (λ (z : PieceState). z.edits) h.3 ∙ ap (λ xs. xs ++ (place, c) ∷ []) r.edits ∙
      append_assoc d0.edits r.more ((place, c) ∷ []);
  leads = subst (Replays d0.locked (r.more ++ (place, c) ∷ []) d0.heap) (sym (ap (λ (z : PieceState). z.heap) h.3))
      (replays_more d0.locked r.more d0.heap d.heap place c h.0 r.leads
      (subst (λ m. MayChange m d.heap a c h.0) l h.1));
}
  where
    place : Addr
    place = record { 0 = a }
