-- What is put part by part is the template: one lemma for each template of expressions.
use Rattle.std.proofs.Common.{◌≡◌, ℕ, ◌+◌, List, [], ◌∷◌, refl, length}
use Rattle.py_code.specs.declared.instr.Instr.{Instr}
use Rattle.py_code.specs.declared.instr.Instr.TheVariants.{Pop, Dup, Rot2, Rot3, LoadAttr, LoadItem, LoadMethod, Slice, Compare, Jump, JumpFalse, KeepFalse, Call, CallMethod}
use Rattle.py_emit.specs.declared.draft.Draft.TheVariants.{Op as DraftOp, To as DraftTo}
use Rattle.py_emit.specs.declared.draft.Far.{Far}
use Rattle.py_emit.specs.declared.draft.Far.TheVariants.{Always, IfFalse, KeepingFalse}
use Rattle.py_templates.specs.Template.{Frame, Piece, Op, To, Here, Alone, Sub, row}
use Rattle.py_templates.specs.Table.{E, F, N, one, one_value, two_values, link, operators, kept, all_kept, between, chained, conditional, attribute, index, slice, call, method_call, trail, built, pair}
use Rattle.py_emit.specs.inner.State.{St, put, marked, opened, jump_of, Emitted, no_frames, frame_there}
use Rattle.py_emit.proofs.Emits.{template_emitted, plain_emitted}

module _ (line : ℕ) (env : List ℕ → List Frame) where
  pub one_arm : (i : Instr) (e m1 : St) → m1 ≡ put e line (DraftOp i) → Emitted e m1 (one line i) env
  one_arm i e m1 h1 = plain_emitted line env (Op i ∷ []) e m1 refl refl (m1, h1, refl)

  pub one_value_arm : (i : Instr) (a : Piece) (e m1 m2 : St) → Emitted e m1 a no_frames → m2 ≡ put m1 line (DraftOp i)
      → Emitted e m2 (one_value line i a) env
  one_value_arm i a e m1 m2 h1 h2 = plain_emitted line env (Alone a ∷ Op i ∷ []) e m2 refl refl (m1, h1, (m2, h2, refl))

  pub two_values_arm : (i : Instr) (a b : Piece) (e m1 m2 m3 : St) → Emitted e m1 a no_frames →
      Emitted m1 m2 b no_frames → m3 ≡ put m2 line (DraftOp i) → Emitted e m3 (two_values line i a b) env
  two_values_arm i a b e m1 m2 m3 h1 h2 h3 = plain_emitted line env (Alone a ∷ Alone b ∷ Op i ∷ []) e m3 refl refl
      (m1, h1, (m2, h2, (m3, h3, refl)))

  pub built_arm : (i : Instr) (items : List Piece) (e m1 m2 : St) → Emitted e m1 (row items) no_frames →
      m2 ≡ put m1 line (DraftOp i) → Emitted e m2 (built line i items) env
  built_arm i items e m1 m2 h1 h2 = plain_emitted line env (Alone (row items) ∷ Op i ∷ []) e m2 refl refl
      (m1, h1, (m2, h2, refl))

  pub pair_arm : (a b : Piece) (e m1 m2 : St) → Emitted e m1 a no_frames → Emitted m1 m2 b no_frames →
      Emitted e m2 (pair line a b) env
  pair_arm a b e m1 m2 h1 h2 = plain_emitted line env (Alone a ∷ Alone b ∷ []) e m2 refl refl (m1, h1, (m2, h2, refl))

  pub trail_arm : (o : Piece) (behind : List Piece) (e m1 m2 : St) → Emitted e m1 o no_frames →
      Emitted m1 m2 (row behind) no_frames → Emitted e m2 (trail line o behind) env
  trail_arm o behind e m1 m2 h1 h2 = plain_emitted line env (Alone o ∷ Alone (row behind) ∷ []) e m2 refl refl
      (m1, h1, (m2, h2, refl))

  pub operators_arm : (a : Piece) (links : List Piece) (e m1 m2 : St) → Emitted e m1 a no_frames →
      Emitted m1 m2 (row links) no_frames → Emitted e m2 (operators line a links) env
  operators_arm a links e m1 m2 h1 h2 = plain_emitted line env (Alone a ∷ Alone (row links) ∷ []) e m2 refl refl
      (m1, h1, (m2, h2, refl))

  pub link_arm : (i : Instr) (b : Piece) (e m1 m2 : St) → Emitted e m1 b no_frames → m2 ≡ put m1 line (DraftOp i) →
      Emitted e m2 (link line i b) env
  link_arm i b e m1 m2 h1 h2 = plain_emitted line env (Alone b ∷ Op i ∷ []) e m2 refl refl (m1, h1, (m2, h2, refl))

  pub attribute_arm : (n : ℕ) (e m1 : St) → m1 ≡ put e line (DraftOp (LoadAttr n)) → Emitted e m1 (attribute line n) env
  attribute_arm n e m1 h1 = plain_emitted line env (Op (LoadAttr n) ∷ []) e m1 refl refl (m1, h1, refl)

  pub index_arm : (i : Piece) (e m1 m2 : St) → Emitted e m1 i no_frames → m2 ≡ put m1 line (DraftOp LoadItem) →
      Emitted e m2 (index line i) env
  index_arm i e m1 m2 h1 h2 = plain_emitted line env (Alone i ∷ Op LoadItem ∷ []) e m2 refl refl
      (m1, h1, (m2, h2, refl))

  pub slice_arm : (i j : Piece) (e m1 m2 m3 : St) → Emitted e m1 i no_frames → Emitted m1 m2 j no_frames →
      m3 ≡ put m2 line (DraftOp Slice) → Emitted e m3 (slice line i j) env
  slice_arm i j e m1 m2 m3 h1 h2 h3 = plain_emitted line env (Alone i ∷ Alone j ∷ Op Slice ∷ []) e m3 refl refl
      (m1, h1, (m2, h2, (m3, h3, refl)))

  pub call_arm : (args : List Piece) (k : ℕ) (vs : List Piece) (e m1 m2 m3 : St) → Emitted e m1 (row args) no_frames →
      Emitted m1 m2 (row vs) no_frames → m3 ≡ put m2 line (DraftOp (Call (length args) k)) →
      Emitted e m3 (call line args k vs) env
  call_arm args k vs e m1 m2 m3 h1 h2 h3 =
      plain_emitted line env (Alone (row args) ∷ Alone (row vs) ∷ Op (Call (length args) k) ∷ []) e m3 refl refl
      (m1, h1, (m2, h2, (m3, h3, refl)))

  pub method_arm : (m : ℕ) (args : List Piece) (k : ℕ) (vs : List Piece) (e m1 m2 m3 m4 : St) →
      m1 ≡ put e line (DraftOp (LoadMethod m)) → Emitted m1 m2 (row args) no_frames → Emitted m2 m3 (row vs) no_frames
      → m4 ≡ put m3 line (DraftOp (CallMethod (length args) k)) → Emitted e m4 (method_call line m args k vs) env
  method_arm m args k vs e m1 m2 m3 m4 h1 h2 h3 h4 =
      plain_emitted line env (Op (LoadMethod m) ∷ Alone (row args) ∷ Alone (row vs) ∷ Op (CallMethod (length args) k) ∷
      []) e m4 refl refl (m1, h1, (m2, h2, (m3, h3, (m4, h4, refl))))

  pub conditional_arm : (x c y : Piece) (base slot : ℕ) (e e1 m1 m2 m3 m4 m5 m6 m7 : St) → base ≡ length e.labels →
      slot ≡ e.slots → e1 ≡ opened e 2 0 → Emitted e1 m1 c no_frames → m2 ≡ put m1 line (DraftTo IfFalse (base + 1)) →
      Emitted m2 m3 x no_frames → m4 ≡ put m3 line (DraftTo Always base) → m5 ≡ marked m4 (base + 1) →
      Emitted m5 m6 y no_frames → m7 ≡ marked m6 base → Emitted e m7 (conditional line x c y) env
  conditional_arm x c y base slot e e1 m1 m2 m3 m4 m5 m6 m7 eb es eo h1 h2 h3 h4 h5 h6 h7 =
      template_emitted line 0 2 base slot env
      (Alone c ∷ To 0 JumpFalse N ∷ Alone x ∷ To 0 Jump E ∷ Here N ∷ Alone y ∷ Here E ∷ []) e e1 m7 eb es eo refl
      refl refl (
        m1,
        h1,
        (
          m2,
          (IfFalse, base + 1, λ q. refl, λ ls. refl, h2),
          (m3, h3, (m4, (Always, base, λ q. refl, λ ls. refl, h4), (m5, h5, (m6, h6, (m7, h7, refl))))),
        ),
      )

  pub all_kept_arm : (firsts : List Piece) (last : Piece) (base slot : ℕ) (e e1 m1 m2 m3 : St) → base ≡ length e.labels
      → slot ≡ e.slots → e1 ≡ opened e 1 0 → Emitted e1 m1 (row firsts) (λ ls. frame_there base 1 0 ls ∷ env ls) →
      Emitted m1 m2 last no_frames → m3 ≡ marked m2 base → Emitted e m3 (all_kept line firsts last) env
  all_kept_arm firsts last base slot e e1 m1 m2 m3 eb es eo h1 h2 h3 =
      template_emitted line 0 1 base slot env (Sub 0 (row firsts) ∷ Alone last ∷ Here E ∷ []) e e1 m3 eb es eo refl
      refl refl
      (m1, h1, (m2, h2, (m3, h3, refl)))

  pub chained_arm : (a : Piece) (betweens : List Piece) (last : Piece) (o base slot : ℕ)
      (e e1 m1 m2 m3 m4 m5 m6 m7 m8 m9 : St) → base ≡ length e.labels → slot ≡ e.slots → e1 ≡ opened e 2 0 →
      Emitted e1 m1 a no_frames → Emitted m1 m2 (row betweens) (λ ls. frame_there base 2 0 ls ∷ env ls) →
      Emitted m2 m3 last no_frames → m4 ≡ put m3 line (DraftOp (Compare o)) → m5 ≡ put m4 line (DraftTo Always base) →
      m6 ≡ marked m5 (base + 1) → m7 ≡ put m6 line (DraftOp Rot2) → m8 ≡ put m7 line (DraftOp Pop) →
      m9 ≡ marked m8 base → Emitted e m9 (chained line a betweens last o) env
  chained_arm a betweens last o base slot e e1 m1 m2 m3 m4 m5 m6 m7 m8 m9 eb es eo h1 h2 h3 h4 h5 h6 h7 h8 h9 =
      template_emitted line 0 2 base slot env
      (Alone a ∷ Sub 0 (row betweens) ∷ Alone last ∷ Op (Compare o) ∷ To 0 Jump E ∷ Here F ∷ Op Rot2 ∷ Op Pop ∷
      Here E ∷ []) e e1 m9 eb es eo refl refl refl (
        m1,
        h1,
        (
          m2,
          h2,
          (
            m3,
            h3,
            (
              m4,
              h4,
              (m5, (Always, base, λ q. refl, λ ls. refl, h5), (m6, h6, (m7, h7, (m8, h8, (m9, h9, refl))))),
            ),
          ),
        ),
      )

module _ (line base : ℕ) where
  pub kept_arm : (far : Far) (a : Piece) (e m1 m2 : St) → Emitted e m1 a no_frames →
      m2 ≡ put m1 line (DraftTo far base) →
      Emitted e m2 (kept line (jump_of far) a) (λ ls. frame_there base 1 0 ls ∷ [])
  kept_arm far a e m1 m2 h1 h2 = plain_emitted line (λ ls. frame_there base 1 0 ls ∷ [])
      (Alone a ∷ To 1 (jump_of far) E ∷ []) e m2 refl refl (m1, h1, (m2, (far, base, λ q. refl, λ ls. refl, h2), refl))

  pub between_arm : (o : ℕ) (b : Piece) (e m1 m2 m3 m4 m5 : St) → Emitted e m1 b no_frames →
      m2 ≡ put m1 line (DraftOp Dup) → m3 ≡ put m2 line (DraftOp Rot3) → m4 ≡ put m3 line (DraftOp (Compare o)) →
      m5 ≡ put m4 line (DraftTo KeepingFalse (base + 1)) →
      Emitted e m5 (between line o b) (λ ls. frame_there base 2 0 ls ∷ [])
  between_arm o b e m1 m2 m3 m4 m5 h1 h2 h3 h4 h5 = plain_emitted line (λ ls. frame_there base 2 0 ls ∷ [])
      (Alone b ∷ Op Dup ∷ Op Rot3 ∷ Op (Compare o) ∷ To 1 KeepFalse F ∷ []) e m5 refl refl
      (m1, h1, (m2, h2, (m3, h3, (m4, h4, (m5, (KeepingFalse, base + 1, λ q. refl, λ ls. refl, h5), refl)))))
