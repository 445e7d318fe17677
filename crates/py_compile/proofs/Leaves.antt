-- The ways out of constructs, and a raise alone.
use Rattle.std.specs.Prelude.{IfOk, Result, Ok, Err}
use Rattle.std.proofs.Common.{◌≡◌, ℕ, ◌+◌, List, [], ◌∷◌, refl, arith}
use Rattle.py_code.specs.declared.instr.Instr.TheVariants.{Pop, LoadLocal, Jump, PopTry, Raise}
use Rattle.py_emit.specs.declared.draft.Draft.TheVariants.{Op as DraftOp, To as DraftTo}
use Rattle.py_emit.specs.declared.draft.Far.TheVariants.{Always}
use Rattle.py_templates.specs.declared.way.Way.{Way}
use Rattle.py_templates.specs.declared.way.Way.TheVariants.{Break, Continue, Out}
use Rattle.py_templates.specs.Template.{Frame, Piece, Op, Hidden, To, Sub}
use Rattle.py_templates.specs.Table.{Around, InWhile, InFor, InTry, InClause, InFinally, way_out, raise_again}
use Rattle.py_emit.specs.inner.State.{St, put, Emitted, frame_there}
use Rattle.py_emit.proofs.Emits.{plain_emitted}

pub ok_map : {A E : Type 0} {P Q : A → Type 0} (r : Result A E) → IfOk r P → ((a : A) → P a → Q a) → IfOk r Q
ok_map (Ok a) h f = f a h
ok_map (Err e) h f = h

module _ (line : ℕ) (env : List ℕ → List Frame) (c : List Around) where
  pub leave_none : (w : Way) (e : St) → Emitted e e (way_out line w []) env
  leave_none w e = plain_emitted line env [] e e refl refl refl

  pub break_while : (base : ℕ) (e m : St) → m ≡ put e line (DraftTo Always base) →
      Emitted e m (way_out line Break (InWhile ∷ c)) (λ ls. frame_there base 3 0 ls ∷ env ls)
  break_while base e m h = plain_emitted line (λ ls. frame_there base 3 0 ls ∷ env ls) (To 1 Jump 0 ∷ []) e m refl refl
      (m, (Always, base, λ q. refl, λ ls. refl, h), refl)

  pub continue_while : (base : ℕ) (e m : St) → m ≡ put e line (DraftTo Always (base + 1)) →
      Emitted e m (way_out line Continue (InWhile ∷ c)) (λ ls. frame_there base 3 0 ls ∷ env ls)
  continue_while base e m h = plain_emitted line (λ ls. frame_there base 3 0 ls ∷ env ls) (To 1 Jump 1 ∷ []) e m refl
      refl (m, (Always, base + 1, λ q. refl, λ ls. refl, h), refl)

  pub out_while : (base : ℕ) (e m : St) → Emitted e m (way_out line Out c) env →
      Emitted e m (way_out line Out (InWhile ∷ c)) (λ ls. frame_there base 3 0 ls ∷ env ls)
  out_while base e m h = plain_emitted line (λ ls. frame_there base 3 0 ls ∷ env ls) (Sub 2 (way_out line Out c) ∷ [])
      e m refl refl (m, h, refl)

  pub break_for : (base : ℕ) (e m1 m2 : St) → m1 ≡ put e line (DraftOp Pop) → m2 ≡ put m1 line (DraftTo Always base) →
      Emitted e m2 (way_out line Break (InFor ∷ c)) (λ ls. frame_there base 3 0 ls ∷ env ls)
  break_for base e m1 m2 h1 h2 = plain_emitted line (λ ls. frame_there base 3 0 ls ∷ env ls)
      (Op Pop ∷ To 1 Jump 0 ∷ []) e m2 refl refl (m1, h1, (m2, (Always, base, λ q. refl, λ ls. refl, h2), refl))

  pub continue_for : (base : ℕ) (e m : St) → m ≡ put e line (DraftTo Always (base + 1)) →
      Emitted e m (way_out line Continue (InFor ∷ c)) (λ ls. frame_there base 3 0 ls ∷ env ls)
  continue_for base e m h = plain_emitted line (λ ls. frame_there base 3 0 ls ∷ env ls) (To 1 Jump 1 ∷ []) e m refl
      refl (m, (Always, base + 1, λ q. refl, λ ls. refl, h), refl)

  pub out_for : (base : ℕ) (e m1 m2 : St) → m1 ≡ put e line (DraftOp Pop) → Emitted m1 m2 (way_out line Out c) env →
      Emitted e m2 (way_out line Out (InFor ∷ c)) (λ ls. frame_there base 3 0 ls ∷ env ls)
  out_for base e m1 m2 h1 h2 = plain_emitted line (λ ls. frame_there base 3 0 ls ∷ env ls)
      (Op Pop ∷ Sub 2 (way_out line Out c) ∷ []) e m2 refl refl (m1, h1, (m2, h2, refl))

  pub leave_try : (w : Way) (base slot : ℕ) (e m1 m2 : St) → m1 ≡ put e line (DraftOp PopTry) →
      Emitted m1 m2 (way_out line w c) env →
      Emitted e m2 (way_out line w (InTry ∷ c)) (λ ls. frame_there base 2 slot ls ∷ env ls)
  leave_try w base slot e m1 m2 h1 h2 = plain_emitted line (λ ls. frame_there base 2 slot ls ∷ env ls)
      (Op PopTry ∷ Sub 2 (way_out line w c) ∷ []) e m2 refl refl (m1, h1, (m2, h2, refl))

  pub leave_clause : (w : Way) (base slot : ℕ) (e m : St) → Emitted e m (way_out line w c) env →
      Emitted e m (way_out line w (InClause ∷ c)) (λ ls. frame_there base 2 slot ls ∷ env ls)
  leave_clause w base slot e m h = plain_emitted line (λ ls. frame_there base 2 slot ls ∷ env ls)
      (Sub 2 (way_out line w c) ∷ []) e m refl refl (m, h, refl)

  pub leave_finally : (w : Way) (fin : Piece) (base slot : ℕ) (e m1 m2 m3 : St) → m1 ≡ put e line (DraftOp PopTry) →
      Emitted m1 m2 fin env → Emitted m2 m3 (way_out line w c) env →
      Emitted e m3 (way_out line w (InFinally fin ∷ c)) (λ ls. frame_there base 2 slot ls ∷ env ls)
  leave_finally w fin base slot e m1 m2 m3 h1 h2 h3 = plain_emitted line (λ ls. frame_there base 2 slot ls ∷ env ls)
      (Op PopTry ∷ Sub 2 fin ∷ Sub 2 (way_out line w c) ∷ []) e m3 refl refl (m1, h1, (m2, h2, (m3, h3, refl)))

  pub try_size : (w : Way) → (way_out line w (InTry ∷ c)).size ≡ 1 + (way_out line w c).size
  try_size w = omega arith

  pub clause_size : (w : Way) → (way_out line w (InClause ∷ c)).size ≡ (way_out line w c).size
  clause_size w = omega arith

  pub finally_size : (w : Way) (fin : Piece) →
      (way_out line w (InFinally fin ∷ c)).size ≡ 1 + (fin.size + (way_out line w c).size)
  finally_size w fin = omega arith

  -- a raise alone

  pub raise_none : (e : St) → Emitted e e (raise_again line []) env
  raise_none e = plain_emitted line env [] e e refl refl refl

  pub raise_clause : (base slot : ℕ) (e m : St) → m ≡ put (put e line (DraftOp (LoadLocal slot))) line (DraftOp Raise)
      → Emitted e m (raise_again line (InClause ∷ c)) (λ ls. frame_there base 2 slot ls ∷ env ls)
  raise_clause base slot e m h = plain_emitted line (λ ls. frame_there base 2 slot ls ∷ env ls)
      (Hidden 1 LoadLocal ∷ Op Raise ∷ []) e m refl refl (
        put e line (DraftOp (LoadLocal slot)),
        (slot, λ ls. refl, refl),
        (m, h, refl),
      )

  pub raise_while : (base : ℕ) (e m : St) → Emitted e m (raise_again line c) env →
      Emitted e m (raise_again line (InWhile ∷ c)) (λ ls. frame_there base 3 0 ls ∷ env ls)
  raise_while base e m h = plain_emitted line (λ ls. frame_there base 3 0 ls ∷ env ls)
      (Sub 2 (raise_again line c) ∷ []) e m refl refl (m, h, refl)

  pub raise_for : (base : ℕ) (e m : St) → Emitted e m (raise_again line c) env →
      Emitted e m (raise_again line (InFor ∷ c)) (λ ls. frame_there base 3 0 ls ∷ env ls)
  raise_for base e m h = plain_emitted line (λ ls. frame_there base 3 0 ls ∷ env ls) (Sub 2 (raise_again line c) ∷ [])
      e m refl refl (m, h, refl)

  pub raise_try : (base slot : ℕ) (e m : St) → Emitted e m (raise_again line c) env →
      Emitted e m (raise_again line (InTry ∷ c)) (λ ls. frame_there base 2 slot ls ∷ env ls)
  raise_try base slot e m h = plain_emitted line (λ ls. frame_there base 2 slot ls ∷ env ls)
      (Sub 2 (raise_again line c) ∷ []) e m refl refl (m, h, refl)

  pub raise_finally : (fin : Piece) (base slot : ℕ) (e m : St) → Emitted e m (raise_again line c) env →
      Emitted e m (raise_again line (InFinally fin ∷ c)) (λ ls. frame_there base 2 slot ls ∷ env ls)
  raise_finally fin base slot e m h = plain_emitted line (λ ls. frame_there base 2 slot ls ∷ env ls)
      (Sub 2 (raise_again line c) ∷ []) e m refl refl (m, h, refl)
