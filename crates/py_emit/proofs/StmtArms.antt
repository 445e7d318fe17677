-- What is put part by part is the template: one lemma for each template of statements.
use Rattle.std.proofs.Common.{◌≡◌, ℕ, ◌+◌, map, List, [], ◌∷◌, ◌++◌, Option, Some, None, refl, length, drop, sym, subst}
use Rattle.py_code.specs.declared.instr.Constant.{Constant}
use Rattle.py_code.specs.declared.instr.Constant.TheVariants.{Root}
use Rattle.py_code.specs.declared.instr.Instr.TheVariants.{Pop, Dup, Not, Const, Call, LoadLocal, StoreLocal, Jump, JumpFalse, Iter, Next, Try, PopTry, ExcMatch, MakeRaised, Raise, Return, PrintItem, PrintNewline, MakeFunction, ClassBody}
use Rattle.py_templates.specs.declared.way.Way.TheVariants.{Out}
use Rattle.py_templates.specs.declared.home.Home.{Home}
use Rattle.py_emit.specs.declared.draft.Draft.TheVariants.{Op as DraftOp, To as DraftTo}
use Rattle.py_emit.specs.declared.draft.Far.TheVariants.{Always, Trying}
use Rattle.py_templates.specs.Template.{Frame, Piece, Part, Op, Hidden, To, Here, Alone, Sub, template, row}
use Rattle.py_templates.specs.Table.{also, assign, expression, print_one, print_line, raise_one, raise_two, assert_alone, assert_with, import_one, store, def, class, arm, all_arms, while, for, try_except, try_finally, return, way_out, Around}
use Rattle.py_templates.specs.Names.{Known}
use Rattle.py_templates.specs.Expressions.{value, stored}
use Rattle.py_templates.specs.Statements.{deletion, clause}
use Rattle.py_emit.specs.inner.State.{St, put, marked, opened, Emitted, no_frames, frame_there}
use Rattle.py_emit.specs.inner.Partly.{Puts}
use Rattle.py_emit.specs.inner.Heads.{HandlerHead, HandlerTail}
use Rattle.py_tree.specs.declared.expr.Expr.{Expr}
use Rattle.py_emit.proofs.Emits.{template_emitted, plain_emitted}

-- parts behind parts
pub puts_more : (line base : ℕ) (env : List ℕ → List Frame) (xs ys : List Part) (a b c : St) →
    Puts line base env xs a b → Puts line base env ys b c → Puts line base env (xs ++ ys) a c
puts_more line base env [] ys a b c h g = subst (λ z. Puts line base env ys z c) (sym h) g
puts_more line base env (x ∷ xs) ys a b c (m, i, h) g = (m, i, puts_more line base env xs ys m b c h g)

module _ (line : ℕ) (env : List ℕ → List Frame) where
  pub alone_arm : (a : Piece) (e m1 m2 : St) → Emitted e m1 a no_frames → m2 ≡ put m1 line (DraftOp Pop) →
      Emitted e m2 (expression line a) env
  alone_arm a e m1 m2 h1 h2 = plain_emitted line env (Alone a ∷ Op Pop ∷ []) e m2 refl refl (m1, h1, (m2, h2, refl))

  pub also_arm : (t : Piece) (e m1 m2 : St) → m1 ≡ put e line (DraftOp Dup) → Emitted m1 m2 t no_frames →
      Emitted e m2 (also line t) env
  also_arm t e m1 m2 h1 h2 = plain_emitted line env (Op Dup ∷ Alone t ∷ []) e m2 refl refl (m1, h1, (m2, h2, refl))

  pub assign_arm : (x : Piece) (firsts : List Piece) (last : Piece) (e m1 m2 m3 : St) → Emitted e m1 x no_frames →
      Emitted m1 m2 (row firsts) no_frames → Emitted m2 m3 last no_frames → Emitted e m3 (assign line x firsts last) env
  assign_arm x firsts last e m1 m2 m3 h1 h2 h3 =
      plain_emitted line env (Alone x ∷ Alone (row firsts) ∷ Alone last ∷ []) e m3 refl refl
      (m1, h1, (m2, h2, (m3, h3, refl)))

  pub deletion_arm : (ts : List Piece) (e m1 : St) → Emitted e m1 (row ts) no_frames →
      Emitted e m1 (deletion line ts) env
  deletion_arm ts e m1 h1 = plain_emitted line env (Alone (row ts) ∷ []) e m1 refl refl (m1, h1, refl)

  pub print_arm : (x : Piece) (e m1 m2 : St) → Emitted e m1 x no_frames → m2 ≡ put m1 line (DraftOp PrintItem) →
      Emitted e m2 (print_one line x) env
  print_arm x e m1 m2 h1 h2 = plain_emitted line env (Alone x ∷ Op PrintItem ∷ []) e m2 refl refl
      (m1, h1, (m2, h2, refl))

  pub print_line_arm : (xs : List Piece) (e m1 m2 : St) → Emitted e m1 (row (map (print_one line) xs)) no_frames →
      m2 ≡ put m1 line (DraftOp PrintNewline) → Emitted e m2 (print_line line xs) env
  print_line_arm xs e m1 m2 h1 h2 = plain_emitted line env
      (Alone (row (map (print_one line) xs)) ∷ Op PrintNewline ∷ []) e m2 refl refl (m1, h1, (m2, h2, refl))

  pub raise_one_arm : (x : Piece) (e m1 m2 : St) → Emitted e m1 x no_frames →
      m2 ≡ put (put m1 line (DraftOp (MakeRaised 0))) line (DraftOp Raise) → Emitted e m2 (raise_one line x) env
  raise_one_arm x e m1 m2 h1 h2 = plain_emitted line env (Alone x ∷ Op (MakeRaised 0) ∷ Op Raise ∷ []) e m2 refl refl
      (m1, h1, (put m1 line (DraftOp (MakeRaised 0)), refl, (m2, h2, refl)))

  pub raise_two_arm : (x v : Piece) (e m1 m2 m3 : St) → Emitted e m1 x no_frames → Emitted m1 m2 v no_frames →
      m3 ≡ put (put m2 line (DraftOp (MakeRaised 1))) line (DraftOp Raise) → Emitted e m3 (raise_two line x v) env
  raise_two_arm x v e m1 m2 m3 h1 h2 h3 =
      plain_emitted line env (Alone x ∷ Alone v ∷ Op (MakeRaised 1) ∷ Op Raise ∷ []) e m3 refl refl
      (m1, h1, (m2, h2, (put m2 line (DraftOp (MakeRaised 1)), refl, (m3, h3, refl))))

  pub import_arm : (k : Constant) (x : Home) (e m1 m2 : St) → m1 ≡ put e line (DraftOp (Const k)) →
      m2 ≡ put m1 line (DraftOp (store x)) → Emitted e m2 (import_one line k x) env
  import_arm k x e m1 m2 h1 h2 = plain_emitted line env (Op (Const k) ∷ Op (store x) ∷ []) e m2 refl refl
      (m1, h1, (m2, h2, refl))

  pub def_arm : (ds : List Piece) (f : ℕ) (x : Home) (e m1 m2 m3 : St) → Emitted e m1 (row ds) no_frames →
      m2 ≡ put m1 line (DraftOp (MakeFunction f (length ds))) → m3 ≡ put m2 line (DraftOp (store x)) →
      Emitted e m3 (def line ds f x) env
  def_arm ds f x e m1 m2 m3 h1 h2 h3 = plain_emitted line env
      (Alone (row ds) ∷ Op (MakeFunction f (length ds)) ∷ Op (store x) ∷ []) e m3 refl refl
      (m1, h1, (m2, h2, (m3, h3, refl)))

  pub class_arm : (b : Piece) (f : ℕ) (x : Home) (e m1 m2 m3 : St) → Emitted e m1 b no_frames →
      m2 ≡ put m1 line (DraftOp (ClassBody f)) → m3 ≡ put m2 line (DraftOp (store x)) →
      Emitted e m3 (class line b f x) env
  class_arm b f x e m1 m2 m3 h1 h2 h3 = plain_emitted line env (Alone b ∷ Op (ClassBody f) ∷ Op (store x) ∷ []) e m3
      refl refl (m1, h1, (m2, h2, (m3, h3, refl)))

  pub assert_alone_arm : (x : Piece) (base : ℕ) (e m1 m2 m3 : St) → base ≡ length e.labels →
      Puts line base (λ ls. frame_there base 1 0 ls ∷ env ls)
      (Alone x ∷ Op Not ∷ To 0 JumpFalse 0 ∷ Op (Const (Root 13)) ∷ []) (opened e 1 0) m1 →
      m2 ≡ put (put m1 line (DraftOp (MakeRaised 0))) line (DraftOp Raise) → m3 ≡ marked m2 base →
      Emitted e m3 (assert_alone line x) env
  assert_alone_arm x base e m1 m2 m3 eb h1 h2 h3 =
      template_emitted line 0 1 base e.slots env
      (Alone x ∷ Op Not ∷ To 0 JumpFalse 0 ∷ Op (Const (Root 13)) ∷ Op (MakeRaised 0) ∷ Op Raise ∷ Here 0 ∷ []) e
      (opened e 1 0) m3 eb refl refl refl refl refl
      (puts_more line base (λ ls. frame_there base 1 0 ls ∷ env ls)
      (Alone x ∷ Op Not ∷ To 0 JumpFalse 0 ∷ Op (Const (Root 13)) ∷ [])
      (Op (MakeRaised 0) ∷ Op Raise ∷ Here 0 ∷ []) (opened e 1 0) m1 m3 h1
      (put m1 line (DraftOp (MakeRaised 0)), refl, (m2, h2, (m3, h3, refl))))

  pub assert_with_arm : (x v : Piece) (base : ℕ) (e m1 m2 m3 m4 m5 : St) → base ≡ length e.labels →
      Puts line base (λ ls. frame_there base 1 0 ls ∷ env ls)
      (Alone x ∷ Op Not ∷ To 0 JumpFalse 0 ∷ Op (Const (Root 13)) ∷ []) (opened e 1 0) m1 → Emitted m1 m2 v no_frames →
      m3 ≡ put m2 line (DraftOp (Call 1 0)) → m4 ≡ put m3 line (DraftOp Raise) → m5 ≡ marked m4 base →
      Emitted e m5 (assert_with line x v) env
  assert_with_arm x v base e m1 m2 m3 m4 m5 eb h1 h2 h3 h4 h5 =
      template_emitted line 0 1 base e.slots env
      (Alone x ∷ Op Not ∷ To 0 JumpFalse 0 ∷ Op (Const (Root 13)) ∷ Alone v ∷ Op (Call 1 0) ∷ Op Raise ∷ Here 0 ∷
      []) e (opened e 1 0) m5 eb refl refl refl refl refl
      (puts_more line base (λ ls. frame_there base 1 0 ls ∷ env ls)
      (Alone x ∷ Op Not ∷ To 0 JumpFalse 0 ∷ Op (Const (Root 13)) ∷ [])
      (Alone v ∷ Op (Call 1 0) ∷ Op Raise ∷ Here 0 ∷ []) (opened e 1 0) m1 m5 h1
      (m2, h2, (m3, h3, (m4, h4, (m5, h5, refl)))))

  -- compound statements

  pub if_arm : (pieces : List Piece) (other : Piece) (base slot : ℕ) (e e1 m1 m2 m3 : St) → base ≡ length e.labels →
      slot ≡ e.slots → e1 ≡ opened e 1 0 → Emitted e1 m1 (row pieces) (λ ls. frame_there base 1 0 ls ∷ env ls) →
      Emitted m1 m2 other env → m3 ≡ marked m2 base → Emitted e m3 (all_arms line pieces other) env
  if_arm pieces other base slot e e1 m1 m2 m3 eb es eo h1 h2 h3 =
      template_emitted line 0 1 base slot env (Sub 0 (row pieces) ∷ Sub 1 other ∷ Here 0 ∷ []) e e1 m3 eb es eo refl
      refl refl (m1, h1, (m2, h2, (m3, h3, refl)))

  pub arm_arm : (x body : Piece) (end next : ℕ) (e m1 m2 m3 : St) → next ≡ length e.labels →
      Puts line next (λ ls. frame_there next 1 0 ls ∷ frame_there end 1 0 ls ∷ env ls)
      (Alone x ∷ To 0 JumpFalse 0 ∷ []) (opened e 1 0) m1 → Emitted m1 m2 body env →
      m3 ≡ marked (put m2 line (DraftTo Always end)) next →
      Emitted e m3 (arm line x body) (λ ls. frame_there end 1 0 ls ∷ env ls)
  arm_arm x body end next e m1 m2 m3 eb h1 h2 h3 =
      template_emitted line 0 1 next e.slots (λ ls. frame_there end 1 0 ls ∷ env ls)
      (Alone x ∷ To 0 JumpFalse 0 ∷ Sub 2 body ∷ To 1 Jump 0 ∷ Here 0 ∷ []) e (opened e 1 0) m3 eb refl refl refl
      refl refl
      (puts_more line next (λ ls. frame_there next 1 0 ls ∷ frame_there end 1 0 ls ∷ env ls)
      (Alone x ∷ To 0 JumpFalse 0 ∷ []) (Sub 2 body ∷ To 1 Jump 0 ∷ Here 0 ∷ []) (opened e 1 0) m1 m3 h1
      (m2, h2, (put m2 line (DraftTo Always end), (Always, end, λ q. refl, λ ls. refl, refl), (m3, h3, refl))))

  pub while_arm : (x body other : Piece) (base : ℕ) (e m1 m2 m3 m4 m5 : St) → base ≡ length e.labels →
      Puts line base (λ ls. frame_there base 3 0 ls ∷ env ls) (Here 1 ∷ Alone x ∷ To 0 JumpFalse 2 ∷ []) (opened e 3 0)
      m1 → Emitted m1 m2 body (λ ls. frame_there base 3 0 ls ∷ env ls) →
      m3 ≡ marked (put m2 line (DraftTo Always (base + 1))) (base + 2) → Emitted m3 m4 other env → m5 ≡ marked m4 base
      → Emitted e m5 (while line x body other) env
  while_arm x body other base e m1 m2 m3 m4 m5 eb h1 h2 h3 h4 h5 =
      template_emitted line 0 3 base e.slots env
      (Here 1 ∷ Alone x ∷ To 0 JumpFalse 2 ∷ Sub 0 body ∷ To 0 Jump 1 ∷ Here 2 ∷ Sub 1 other ∷ Here 0 ∷ []) e
      (opened e 3 0) m5 eb refl refl refl refl refl
      (puts_more line base (λ ls. frame_there base 3 0 ls ∷ env ls) (Here 1 ∷ Alone x ∷ To 0 JumpFalse 2 ∷ [])
      (Sub 0 body ∷ To 0 Jump 1 ∷ Here 2 ∷ Sub 1 other ∷ Here 0 ∷ []) (opened e 3 0) m1 m5 h1 (
        m2,
        h2,
        (
          put m2 line (DraftTo Always (base + 1)),
          (Always, base + 1, λ q. refl, λ ls. refl, refl),
          (m3, h3, (m4, h4, (m5, h5, refl))),
        ),
      ))

  pub for_arm : (t x body other : Piece) (base : ℕ) (e m1 m2 m3 m4 m5 : St) → base ≡ length e.labels →
      Puts line base (λ ls. frame_there base 3 0 ls ∷ env ls) (Alone x ∷ Op Iter ∷ Here 1 ∷ To 0 Next 2 ∷ Alone t ∷ [])
      (opened e 3 0) m1 → Emitted m1 m2 body (λ ls. frame_there base 3 0 ls ∷ env ls) →
      m3 ≡ marked (put m2 line (DraftTo Always (base + 1))) (base + 2) → Emitted m3 m4 other env → m5 ≡ marked m4 base
      → Emitted e m5 (for line t x body other) env
  for_arm t x body other base e m1 m2 m3 m4 m5 eb h1 h2 h3 h4 h5 =
      template_emitted line 0 3 base e.slots env
      (Alone x ∷ Op Iter ∷ Here 1 ∷ To 0 Next 2 ∷ Alone t ∷ Sub 0 body ∷ To 0 Jump 1 ∷ Here 2 ∷ Sub 1 other ∷ Here
      0 ∷ []) e (opened e 3 0) m5 eb refl refl refl refl refl
      (puts_more line base (λ ls. frame_there base 3 0 ls ∷ env ls)
      (Alone x ∷ Op Iter ∷ Here 1 ∷ To 0 Next 2 ∷ Alone t ∷ [])
      (Sub 0 body ∷ To 0 Jump 1 ∷ Here 2 ∷ Sub 1 other ∷ Here 0 ∷ []) (opened e 3 0) m1 m5 h1 (
        m2,
        h2,
        (
          put m2 line (DraftTo Always (base + 1)),
          (Always, base + 1, λ q. refl, λ ls. refl, refl),
          (m3, h3, (m4, h4, (m5, h5, refl))),
        ),
      ))

  -- a body whose errors go to a handler: q stands behind the store of the error
  guarded_arm : (body other : Piece) (d : ℕ) (q : Piece) (base slot : ℕ) (e m1 m2 m3 m4 m5 m6 m7 m8 : St) →
      base ≡ length e.labels → slot ≡ e.slots → m1 ≡ put (opened e 2 1) line (DraftTo Trying (base + 1)) →
      Emitted m1 m2 body (λ ls. frame_there base 2 slot ls ∷ env ls) → m3 ≡ put m2 line (DraftOp PopTry) →
      Emitted m3 m4 other env →
      m5 ≡ put (marked (put m4 line (DraftTo Always base)) (base + 1)) line (DraftOp (StoreLocal slot)) →
      Emitted m5 m6 q (λ ls. drop d (frame_there base 2 slot ls ∷ env ls)) →
      m7 ≡ put (put m6 line (DraftOp (LoadLocal slot))) line (DraftOp Raise) → m8 ≡ marked m7 base →
      Emitted e m8 (template line 1 2
      (To 0 Try 1 ∷ Sub 0 body ∷ Op PopTry ∷ Sub 1 other ∷ To 0 Jump 0 ∷ Here 1 ∷ Hidden 0 StoreLocal ∷ Sub d q ∷
      Hidden 0 LoadLocal ∷ Op Raise ∷ Here 0 ∷ [])) env
  guarded_arm body other d q base slot e m1 m2 m3 m4 m5 m6 m7 m8 eb es h1 h2 h3 h4 h5 h6 h7 h8 =
      template_emitted line 1 2 base slot env
      (To 0 Try 1 ∷ Sub 0 body ∷ Op PopTry ∷ Sub 1 other ∷ To 0 Jump 0 ∷ Here 1 ∷ Hidden 0 StoreLocal ∷ Sub d q ∷
      Hidden 0 LoadLocal ∷ Op Raise ∷ Here 0 ∷ []) e (opened e 2 1) m8 eb es refl refl refl refl (
        m1,
        (Trying, base + 1, λ q. refl, λ ls. refl, h1),
        (
          m2,
          h2,
          (
            m3,
            h3,
            (
              m4,
              h4,
              (
                put m4 line (DraftTo Always base),
                (Always, base, λ q. refl, λ ls. refl, refl),
                (
                  marked (put m4 line (DraftTo Always base)) (base + 1),
                  refl,
                  (
                    m5,
                    (slot, λ ls. refl, h5),
                    (
                      m6,
                      h6,
                      (put m6 line (DraftOp (LoadLocal slot)), (slot, λ ls. refl, refl), (m7, h7, (m8, h8, refl))),
                    ),
                  ),
                ),
              ),
            ),
          ),
        ),
      )

  pub try_arm : (body : Piece) (clauses : List Piece) (other : Piece) (base slot : ℕ) (e m1 m2 m3 m4 m5 m6 m7 m8 : St)
      → base ≡ length e.labels → slot ≡ e.slots → m1 ≡ put (opened e 2 1) line (DraftTo Trying (base + 1)) →
      Emitted m1 m2 body (λ ls. frame_there base 2 slot ls ∷ env ls) → m3 ≡ put m2 line (DraftOp PopTry) →
      Emitted m3 m4 other env → m5 ≡ put (marked (put m4 line (DraftTo Always base)) (base + 1)) line
      (DraftOp (StoreLocal slot)) → Emitted m5 m6 (row clauses) (λ ls. frame_there base 2 slot ls ∷ env ls) →
      m7 ≡ put (put m6 line (DraftOp (LoadLocal slot))) line (DraftOp Raise) → m8 ≡ marked m7 base →
      Emitted e m8 (try_except line body clauses other) env
  try_arm body clauses other base slot e m1 m2 m3 m4 m5 m6 m7 m8 eb es h1 h2 h3 h4 h5 h6 h7 h8 =
      guarded_arm body other 0 (row clauses) base slot e m1 m2 m3 m4 m5 m6 m7 m8 eb es h1 h2 h3 h4 h5 h6 h7 h8

  pub finally_arm : (inner fin : Piece) (base slot : ℕ) (e m1 m2 m3 m4 m5 m6 m7 m8 : St) → base ≡ length e.labels →
      slot ≡ e.slots → m1 ≡ put (opened e 2 1) line (DraftTo Trying (base + 1)) →
      Emitted m1 m2 inner (λ ls. frame_there base 2 slot ls ∷ env ls) → m3 ≡ put m2 line (DraftOp PopTry) →
      Emitted m3 m4 fin env → m5 ≡ put (marked (put m4 line (DraftTo Always base)) (base + 1)) line
      (DraftOp (StoreLocal slot)) → Emitted m5 m6 fin env → m7 ≡ put (put m6 line (DraftOp (LoadLocal slot))) line
      (DraftOp Raise) → m8 ≡ marked m7 base → Emitted e m8 (try_finally line inner fin) env
  finally_arm inner fin base slot e m1 m2 m3 m4 m5 m6 m7 m8 eb es h1 h2 h3 h4 h5 h6 h7 h8 =
      guarded_arm inner fin 1 fin base slot e m1 m2 m3 m4 m5 m6 m7 m8 eb es h1 h2 h3 h4 h5 h6 h7 h8

  pub return_arm : (x : Piece) (c : List Around) (slot : ℕ) (e m1 m2 m3 : St) → slot ≡ e.slots →
      Puts line (length e.labels) (λ ls. frame_there (length e.labels) 0 slot ls ∷ env ls)
      (Alone x ∷ Hidden 0 StoreLocal ∷ []) (opened e 0 1) m1 → Emitted m1 m2 (way_out line Out c) env →
      m3 ≡ put (put m2 line (DraftOp (LoadLocal slot))) line (DraftOp Return) → Emitted e m3 (return line x c) env
  return_arm x c slot e m1 m2 m3 es h1 h2 h3 =
      template_emitted line 1 0 (length e.labels) slot env
      (Alone x ∷ Hidden 0 StoreLocal ∷ Sub 1 (way_out line Out c) ∷ Hidden 0 LoadLocal ∷ Op Return ∷ []) e
      (opened e 0 1) m3 refl es refl refl refl refl
      (puts_more line (length e.labels) (λ ls. frame_there (length e.labels) 0 slot ls ∷ env ls)
      (Alone x ∷ Hidden 0 StoreLocal ∷ []) (Sub 1 (way_out line Out c) ∷ Hidden 0 LoadLocal ∷ Op Return ∷ [])
      (opened e 0 1) m1 m3 h1
      (m2, h2, (put m2 line (DraftOp (LoadLocal slot)), (slot, λ ls. refl, refl), (m3, h3, refl))))

-- an except clause
pub handler_arm : (n : Known) (line : ℕ) (env : List ℕ → List Frame) (test target : Option Expr) (next : Option ℕ)
    (body : Piece) (base slot : ℕ) (e m1 m2 m3 : St) → HandlerHead n line test target slot next e m1 →
    Emitted m1 m2 body (λ ls. frame_there base 2 slot ls ∷ env ls) → HandlerTail line next base m2 m3 →
    Emitted e m3 (clause n line test target body) (λ ls. frame_there base 2 slot ls ∷ env ls)
handler_arm n line env None t None body base slot e m1 m2 m3 h1 h2 h3 =
    plain_emitted line (λ ls. frame_there base 2 slot ls ∷ env ls) (Sub 1 body ∷ To 1 Jump 0 ∷ []) e m3 refl refl (
      m2,
      subst (λ z. Emitted z m2 body (λ ls. frame_there base 2 slot ls ∷ env ls)) (sym h1) h2,
      (m3, (Always, base, λ q. refl, λ ls. refl, h3), refl),
    )
handler_arm n line env None t (Some next) body base slot e m1 m2 m3 h1 h2 h3 = absurd h1
handler_arm n line env (Some x) t None body base slot e m1 m2 m3 h1 h2 h3 = absurd h1
handler_arm n line env (Some x) None (Some next) body base slot e m1 m2 m3 (eb, lt, h1) h2 h3 =
    template_emitted line 0 1 next e.slots (λ ls. frame_there base 2 slot ls ∷ env ls)
    (Hidden 1 LoadLocal ∷ Alone (value n line x) ∷ Op ExcMatch ∷ To 0 JumpFalse 0 ∷ Sub 1 body ∷ To 1 Jump 0 ∷ Here
    0 ∷ []) e (opened e 1 0) m3 eb refl refl refl refl refl
    (puts_more line next (λ ls. frame_there next 1 0 ls ∷ frame_there base 2 slot ls ∷ env ls)
    (Hidden 1 LoadLocal ∷ Alone (value n line x) ∷ Op ExcMatch ∷ To 0 JumpFalse 0 ∷ [])
    (Sub 1 body ∷ To 1 Jump 0 ∷ Here 0 ∷ []) (opened e 1 0) m1 m3 (h1 base env)
    (m2, h2, (put m2 line (DraftTo Always base), (Always, base, λ q. refl, λ ls. refl, refl), (m3, h3, refl))))
handler_arm n line env (Some x) (Some t) (Some next) body base slot e m1 m2 m3 (eb, lt, h1) h2 h3 =
    template_emitted line 0 1 next e.slots (λ ls. frame_there base 2 slot ls ∷ env ls)
    (Hidden 1 LoadLocal ∷ Alone (value n line x) ∷ Op ExcMatch ∷ To 0 JumpFalse 0 ∷ Hidden 1 LoadLocal ∷ Alone
    (stored n line t) ∷ Sub 1 body ∷ To 1 Jump 0 ∷ Here 0 ∷ []) e (opened e 1 0) m3 eb refl refl refl refl refl
    (puts_more line next (λ ls. frame_there next 1 0 ls ∷ frame_there base 2 slot ls ∷ env ls)
    (Hidden 1 LoadLocal ∷ Alone (value n line x) ∷ Op ExcMatch ∷ To 0 JumpFalse 0 ∷ Hidden 1 LoadLocal ∷ Alone
    (stored n line t) ∷ []) (Sub 1 body ∷ To 1 Jump 0 ∷ Here 0 ∷ []) (opened e 1 0) m1 m3 (h1 base env)
    (m2, h2, (put m2 line (DraftTo Always base), (Always, base, λ q. refl, λ ls. refl, refl), (m3, h3, refl))))
