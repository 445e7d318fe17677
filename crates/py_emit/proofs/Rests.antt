-- One piece after another, in a loop: what is still to be emitted.
use Rattle.std.proofs.Common.{◌≡◌, ℕ, ◌+◌, ◌<◌, ◌≤◌, ◌⊎◌, inl, inr, List, [], ◌∷◌, ◌++◌, None, length, get_or, ap, ◌∙◌, arith, append_assoc, map}
use Rattle.std.proofs.lemmas.Bool.{cases_lt}
use Rattle.std.proofs.lemmas.List.{get_or_past}
use Rattle.py_templates.specs.Template.{Frame, Piece, Sub, lines_of, code_of, row}
use Rattle.py_emit.specs.inner.State.{St, done, Emitted, Agree}
use Rattle.py_emit.proofs.Emits.{row_none}

-- a piece, and then a row
pub row_cons : (env : List ℕ → List Frame) (p : Piece) (ps : List Piece) (e m e' : St) → Emitted e m p env →
    Emitted m e' (row ps) env → Emitted e e' (row (p ∷ ps)) env
row_cons env p ps e m e' h1 h2 = record {
  size = omega (arith, h1.size, h2.size);
  slots = omega (arith, h1.slots, h2.slots);
  lines = h2.lines ∙ ap (λ z. z ++ lines_of 0 (map (Sub 1) ps)) h1.lines ∙
      append_assoc e.lines p.lines (lines_of 0 (map (Sub 1) ps));
  more = omega (arith, h1.more, h2.more);
  kept = λ l lt. h2.kept l (omega (arith, lt, h1.more)) ∙ h1.kept l lt;
  code = code;
}
  where
    own : Frame
    own = record { labels = []; slot = 0 }

    earlier : (ls : List ℕ) → Agree e'.labels ls → Agree m.labels ls
    earlier ls ag l p h = ag l p (h2.kept l (within (cases_lt l (length m.labels))) ∙ h)
      where
        within : (l < length m.labels) ⊎ (length m.labels ≤ l) → l < length m.labels
        within (inl lt) = lt
        within (inr le) = let z : get_or m.labels l None ≡ None = get_or_past m.labels l None le in absurd (cc)

    code : (ls : List ℕ) → Agree e'.labels ls →
        done ls e'.code ≡ done ls e.code ++
        (p.code (env ls) (length e.code) (e.slots + 0) ++ code_of (own ∷ env ls) (map (Sub 1) ps)
        (length e.code + p.size) (e.slots + 0 + p.slots))
    code ls ag =
        let z0 : e.slots ≡ e.slots + 0 = omega arith in
        let z1 : m.slots + 0 ≡ e.slots + 0 + p.slots = omega (arith, h1.slots) in
        h2.code ls ag
        ∙ ap (λ z. z ++ code_of (own ∷ env ls) (map (Sub 1) ps) (length m.code) (m.slots + 0))
        (h1.code ls (earlier ls ag))
        ∙ append_assoc (done ls e.code) (p.code (env ls) (length e.code) e.slots)
        (code_of (own ∷ env ls) (map (Sub 1) ps) (length m.code) (m.slots + 0))
        ∙ ap (λ z. done ls e.code ++ (p.code (env ls) (length e.code) z ++ code_of (own ∷ env ls) (map (Sub 1) ps)
        (length m.code) (m.slots + 0))) z0
        ∙ ap (λ z. done ls e.code ++ (p.code (env ls) (length e.code) (e.slots + 0) ++ code_of (own ∷ env ls)
        (map (Sub 1) ps) z (m.slots + 0))) h1.size
        ∙ ap (λ z. done ls e.code ++ (p.code (env ls) (length e.code) (e.slots + 0) ++ code_of (own ∷ env ls)
        (map (Sub 1) ps) (length e.code + p.size) z)) z1

-- from e0 on all these are to be emitted, and from e on the rest of them
pub record Rest (env : List ℕ → List Frame) (e0 : St) (all : List Piece) (e : St) (rest : List Piece) : Type 0 where
  pub whole : (e' : St) → Emitted e e' (row rest) env → Emitted e0 e' (row all) env
  pub size : length e0.code + (row all).size ≡ length e.code + (row rest).size
  pub labels : length e0.labels ≤ length e.labels

pub rest_step : (env : List ℕ → List Frame) (e0 : St) (all : List Piece) (e m : St) (p : Piece) (ps : List Piece) →
    Rest env e0 all e (p ∷ ps) → Emitted e m p env → Rest env e0 all m ps
rest_step env e0 all e m p ps r h = record {
  whole = λ e' g. r.whole e' (row_cons env p ps e m e' h g);
  size =
      omega (arith, r.size, h.size);
  labels = omega (arith, r.labels, h.more);
}

pub rest_end : (env : List ℕ → List Frame) (e0 : St) (all : List Piece) (e : St) → Rest env e0 all e [] →
    Emitted e0 e (row all) env
rest_end env e0 all e r = r.whole e (row_none env e)
