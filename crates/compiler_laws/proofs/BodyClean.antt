-- Which instructions stand in the code of a body, reached or not: `try`, functions, classes, and all statements.
use Rattle.std.proofs.Common.{◌≡◌, ◌&&◌, ℕ, ◌+◌, List, [], ◌∷◌, ◌++◌, Option, Some, None, Bool, true, false, refl, subst, arith, length, map, length-append}
use Rattle.std.proofs.lemmas.Bool.{and_parts}
use Rattle.py_code.specs.declared.instr.Instr.TheVariants.{Jump, LoadLocal, StoreLocal, Return, Try, PopTry, Raise}
use Rattle.py_code.specs.Effects.{Limits}
use Rattle.py_tree.specs.declared.expr.Expr.{Expr}
use Rattle.py_tree.specs.declared.stmt.Stmt.{Stmt}
use Rattle.py_tree.specs.declared.stmt.Param.{Param}
use Rattle.py_tree.specs.declared.stmt.Stmt.TheOpen as open'
use Rattle.py_templates.specs.declared.way.Way.TheVariants.{Break, Continue}
use Rattle.py_templates.specs.Template.{Op, Hidden, To, Here, Sub, row}
use Rattle.py_templates.specs.Table.{E, H, InTry, InFinally, def, class, way_out}
use Rattle.py_templates.specs.Names.{Known, home, text}
use Rattle.py_base.specs.NameLists.{has}
use Rattle.py_names.specs.Outline.{is_none}
use Rattle.py_templates.specs.Expressions.{values, value_some}
use Rattle.py_templates.specs.Uses.{Use, Inside, Uses, in_turn, none_used, all_in_turn, body_used, name_bound, read_some, read_defaults, stmt_uses}
use Rattle.py_templates.specs.Statements.{Body, Stated, Armed, Claused, Handled, block, count, pieces, inners, handled, handled_count, handled_inner, tried, finally, inner_body, base, defaults, stated, all_stated}
use Rattle.compiler_laws.proofs.EachFrom.{from_front, from_back, from_join}
use Rattle.compiler_laws.proofs.Legal.{Legal, always, both, all_legal, has_clause, legal, legal_by_arm, legal_by_clause, legal_by_handler}
use Rattle.compiler_laws.proofs.Legal as lg
use Rattle.compiler_laws.proofs.Sane.{sane_some}
use Rattle.py_templates.proofs.ExprInduct.{Every, every_front, every_back}
use Rattle.compiler_laws.proofs.World.{known, inside, lim, HasNone}
use Rattle.compiler_laws.proofs.Surrounds.{leaves_does}
use Rattle.compiler_laws.proofs.Blocks.{nothing_does, jump_does}
use Rattle.compiler_laws.proofs.StmtSimple.{do_here, assign_here, augment_here, print_here, return_here, raise_here, del_here, assert_here, import_here, from_here}
use Rattle.compiler_laws.proofs.UsesInTurn.{three_uses, four_uses}
use Rattle.compiler_laws.proofs.FoldInduct.{Related, Nil, Cons, related_of, clause_stands, code_by_arm, code_by_clause, code_by_handler, uses_by_arm, uses_by_clause, uses_by_handler, ClauseWith, HandlerWith, LayerWith, IsLayer, every_stmts}
use Rattle.compiler_laws.proofs.StmtTyped.{HandlerRel, handlers_count, handlers_long, still_rel}
use Rattle.compiler_laws.proofs.BodyTyped.{try_rel, finally_rel, no_finally_rel, def_rel, class_rel, three_parts, four_parts}
use Rattle.compiler_laws.proofs.Fit.{NoteOk}
use Rattle.compiler_laws.proofs.Clean.{IsClean, template_clean, row_clean}
use Rattle.compiler_laws.proofs.SimpleClean.{way_clean, return_clean, clean_some, clean_do, clean_assign, clean_augment, clean_print, clean_raise, clean_del, clean_assert, clean_import_all, clean_from_all, clean_def, clean_class}
use Rattle.compiler_laws.proofs.StmtClean.{IsFlagged, CleanIn, RelClean, ArmClean, HandlerClean, Flagged, BodiesClean, still_rel_clean, none_rel_clean, lists, list_good, list_inner, block_rel_clean, handlers, handlers_good, handlers_inner, arm_rel_clean, handler_rel_clean, if_rel_clean, while_rel_clean, for_rel_clean}

module _ (locals : ℕ → List (List ℕ)) (texts cells : List (List ℕ)) (keys : ℕ → List (List (List ℕ))) (params : List ℕ)
    (none : HasNone locals texts cells keys params) (ok : ℕ → Type 0) (flags : ℕ → Bool) (to go : List ℕ → Type 0)
    (holds : (x : List ℕ) → to x → go x → ok (text (known locals texts cells keys params 0 false) x))
    (free : (j : ℕ) (x : List ℕ) → is_none x ≡ true → has x (locals j) ≡ false) where
  abbrev Clean : Stated → Uses → Legal → Type 0
  Clean = RelClean locals texts cells keys params none ok flags to go holds free

  abbrev CleanArm : Armed → Uses → Legal → Type 0
  CleanArm = ArmClean locals texts cells keys params none ok flags to go holds free

  abbrev CleanHandler : Handled → Uses → Legal → Type 0
  CleanHandler = HandlerClean locals texts cells keys params none ok flags to go holds free

  abbrev Flags : ℕ → List Body → Type 0
  Flags = Flagged locals texts cells keys params none ok flags to go holds free

  abbrev AllClean : ℕ → List Body → Type 0
  AllClean = BodiesClean locals texts cells keys params none ok flags to go holds free

  abbrev within : ℕ → Bool → Inside
  within = inside locals texts cells keys params

  abbrev knows : ℕ → Bool → Known
  knows = known locals texts cells keys params

  abbrev limits : ℕ → ℕ → ℕ → Limits
  limits = lim locals texts cells keys params

  abbrev Noted : Use → Type 0
  Noted = NoteOk to go

  abbrev AllNoted : List Use → Type 0
  AllNoted us = Every Noted us

  clean_join : (f m : ℕ) (a c : List Body) → length a ≡ m → AllClean f a → AllClean (f + m) c →
      AllClean f (a ++ c)
  clean_join = from_join (CleanIn locals texts cells keys params none ok flags to go holds free)

  flags_back : (f m : ℕ) (a c : List Body) → length a ≡ m → Flags f (a ++ c) → Flags (f + m) c
  flags_back = from_back (IsFlagged locals texts cells keys params none ok flags to go holds free)

  flags_front : (f : ℕ) (a c : List Body) → Flags f (a ++ c) → Flags f a
  flags_front = from_front (IsFlagged locals texts cells keys params none ok flags to go holds free)

  -- try
  three_flags : (t : Claused) (hs : List Handled) (e : Stated) (f : ℕ) → length (t.block.inner f) ≡ t.block.bodies →
      length (handled_inner hs (f + t.block.bodies)) ≡ handled_count hs →
      Flags f (t.block.inner f ++ handled_inner hs (f + t.block.bodies) ++ e.inner
      (f + t.block.bodies + handled_count hs)) → Flags f (t.block.inner f) × Flags (f + t.block.bodies)
      (handled_inner hs (f + t.block.bodies)) × Flags (f + t.block.bodies + handled_count hs)
      (e.inner (f + t.block.bodies + handled_count hs))
  three_flags t hs e f lt lh st =
      let a = t.block.inner f in
      let b = handled_inner hs (f + t.block.bodies) in
      let c = e.inner (f + t.block.bodies + handled_count hs) in
      let h = flags_front f (a ++ b) c st in
      let len : length (a ++ b) ≡ t.block.bodies + handled_count hs = omega (arith, lt, lh, length-append a b) in
      let far : f + (t.block.bodies + handled_count hs) ≡ f + t.block.bodies + handled_count hs = omega arith in (
        flags_front f a b h,
        flags_back f t.block.bodies a b lt h,
        subst (λ i. Flags i c) far (flags_back f (t.block.bodies + handled_count hs) (a ++ b) c len st),
      )

  three_clean : (t : Claused) (hs : List Handled) (e : Stated) (f : ℕ) → length (t.block.inner f) ≡ t.block.bodies →
      length (handled_inner hs (f + t.block.bodies)) ≡ handled_count hs → AllClean f (t.block.inner f) →
      AllClean (f + t.block.bodies) (handled_inner hs (f + t.block.bodies)) →
      AllClean (f + t.block.bodies + handled_count hs) (e.inner (f + t.block.bodies + handled_count hs)) →
      AllClean f (t.block.inner f ++ handled_inner hs (f + t.block.bodies) ++ e.inner
      (f + t.block.bodies + handled_count hs))
  three_clean t hs e f lt lh p q r =
      let a = t.block.inner f in
      let b = handled_inner hs (f + t.block.bodies) in
      let c = e.inner (f + t.block.bodies + handled_count hs) in
      let len : length (a ++ b) ≡ t.block.bodies + handled_count hs = omega (arith, lt, lh, length-append a b) in
      let far : f + t.block.bodies + handled_count hs ≡ f + (t.block.bodies + handled_count hs) = omega arith in
      clean_join f (t.block.bodies + handled_count hs) (a ++ b) c len (clean_join f t.block.bodies a b lt p q)
      (subst (λ i. AllClean i c) far r)

  try_rel_clean : (t : Claused) (vt : Uses) (gt : Legal) → Clean t.block vt gt →
      {hs : List Handled} {vs : List Uses} {gs : List Legal} → Related CleanHandler hs vs gs →
      (e : Stated) (ve : Uses) (ge : Legal) → Clean e ve ge → (b : Bool) → (hs ≡ [] → b ≡ true → ve.bodies ≡ 0) →
      Clean (tried t hs e) (in_turn vt (in_turn (all_in_turn vs) ve))
      (both gt (both (λ l c. all_legal gs l true) (both ge (always b))))
  try_rel_clean t vt gt rt Nil e ve ge re b bare = record {
    base = try_rel locals texts cells keys params none t vt gt rt.base Nil e ve ge re.base b bare;
    good = λ j z l d f c h a w x. rt.good j z l d f c
        (three_parts locals texts cells keys params none gt (λ l c. true) ge b l d h).0 a
        (every_front Noted (vt.uses (within j z) f) ((in_turn none_used ve).uses (within j z) (f + vt.bodies)) w) x;
    inner = λ l d j z f h w x. rt.inner l d j z f
        (three_parts locals texts cells keys params none gt (λ l c. true) ge b l d h).0
        (every_front Noted (vt.uses (within j z) f) ((in_turn none_used ve).uses (within j z) (f + vt.bodies)) w) x;
  }
  try_rel_clean t vt gt rt (Cons {s = y} {v = v} {g = g} {ss = ss} {vs = vs} {gs = gs} r rs) e ve ge re b bare =
      record {
        base = try_rel locals texts cells keys params none t vt gt rt.base
            based e ve ge re.base b bare;
        good = λ j z l d f c h a w x.
            let k = within j z in
            let q = three_parts locals texts cells keys params none gt (all_legal (g ∷ gs)) ge b l d h in
            let ws = three_uses Noted vt (all_in_turn (v ∷ vs)) ve k f t.block.bodies (handled_count (y ∷ ss))
            (rt.base.count l d q.0) (handlers_count locals texts cells keys params none
            based l true q.1) w in
            let xs = three_flags t (y ∷ ss) e f (rt.base.long f)
            (handlers_long locals texts cells keys params none
            based (f + t.block.bodies)) x in
            template_clean ok flags z t.line 1 2
            (To 0 Try H ∷ Sub 0 (t.block.code (knows j z) (InTry ∷ c) f) ∷ Op PopTry ∷ Sub 1
            (e.code (knows j z) c (f + t.block.bodies + handled_count (y ∷ ss))) ∷ To 0 Jump E ∷ Here H ∷ Hidden 0
            StoreLocal ∷ Sub 0 (row (handled (y ∷ ss) (knows j z) c (f + t.block.bodies))) ∷ Hidden 0 LoadLocal
            ∷ Op Raise
            ∷ Here E ∷ []) (
              (λ q. tt),
              (
                rt.good j z l d f (InTry ∷ c) q.0 a ws.0 xs.0,
                (
                  tt,
                  (
                    re.good j z l d (f + t.block.bodies + handled_count (y ∷ ss)) c q.2 a ws.2 xs.2,
                    (
                      (λ q. tt),
                      (
                        tt,
                        (
                          (λ s. tt),
                          (
                            row_clean ok flags z (handled (y ∷ ss) (knows j z) c (f + t.block.bodies))
                                (handlers_good locals texts cells keys params none ok flags to go holds free hs j z l (f
                                + t.block.bodies) c q.1 a ws.1 xs.1),
                            ((λ s. tt), (tt, (tt, tt))),
                          ),
                        ),
                      ),
                    ),
                  ),
                ),
              ),
            );
        inner = λ l d j z f h w x.
            let k = within j z in
            let q = three_parts locals texts cells keys params none gt (all_legal (g ∷ gs)) ge b l d h in
            let ws = three_uses Noted vt (all_in_turn (v ∷ vs)) ve k f t.block.bodies (handled_count (y ∷ ss))
            (rt.base.count l d q.0) (handlers_count locals texts cells keys params none
            based l true q.1) w in
            let xs = three_flags t (y ∷ ss) e f (rt.base.long f)
            (handlers_long locals texts cells keys params none
            based (f + t.block.bodies)) x in
            three_clean t (y ∷ ss) e f (rt.base.long f)
            (handlers_long locals texts cells keys params none
            based (f + t.block.bodies))
            (rt.inner l d j z f q.0 ws.0 xs.0) (handlers_inner locals texts cells keys params none ok flags to go holds
            free hs l true j z (f + t.block.bodies) q.1 ws.1 xs.1)
            (re.inner l d j z (f + t.block.bodies + handled_count (y ∷ ss)) q.2 ws.2 xs.2);
      }
    where
      hs : Related CleanHandler (y ∷ ss) (v ∷ vs) (g ∷ gs)
      hs = Cons r rs

      based : Related (HandlerRel locals texts cells keys params none) (y ∷ ss) (v ∷ vs) (g ∷ gs)
      based = handlers locals texts cells keys params none ok flags to go holds free hs

  abbrev four : Legal → Legal → Legal → Legal → Bool → Legal
  four gt gh ge gd b = both gt (both (λ l c. gh l true) (both ge (both gd (always b))))

  finally_rel_clean : (ln : ℕ) (t : Stated) (vt vh ve : Uses) (gt gh ge : Legal) (b : Bool) →
      Clean t (in_turn vt (in_turn vh ve)) (both gt (both (λ l c. gh l true) (both ge (always b)))) →
      (d : Claused) (vd : Uses) (gd : Legal) → Clean d.block vd gd →
      Clean (finally ln t (Some d)) (in_turn vt (in_turn vh (in_turn ve vd))) (four gt gh ge gd b)
  finally_rel_clean ln t vt vh ve gt gh ge b rt y vd gd rd = record {
    base = finally_rel locals texts cells keys params none ln t vt vh ve gt gh ge b rt.base y vd gd rd.base;
    good = λ j z l d f c h a w x.
        let q = four_parts locals texts cells keys params none gt gh ge gd b l d h in
        let us = four_uses Noted vt vh ve vd (within j z) f t.bodies (rt.base.count l d q.0) w in
        let fin = y.block.code (knows j z) c (f + t.bodies) in
        let fc = rd.good j z l d (f + t.bodies) c q.1 a us.1
        (flags_back f t.bodies (t.inner f) (y.block.inner (f + t.bodies)) (rt.base.long f) x) in
        template_clean ok flags z ln 1 2
        (To 0 Try H ∷ Sub 0 (t.code (knows j z) (InFinally fin ∷ c) f) ∷ Op PopTry ∷ Sub 1 fin ∷ To 0 Jump E ∷ Here H ∷
        Hidden 0 StoreLocal ∷ Sub 1 fin ∷ Hidden 0 LoadLocal ∷ Op Raise ∷ Here E ∷ []) (
          (λ q. tt),
          (
            rt.good j z l d f (InFinally fin ∷ c) q.0 (fc, a) us.0
                (flags_front f (t.inner f) (y.block.inner (f + t.bodies)) x),
            (tt, (fc, ((λ q. tt), (tt, ((λ s. tt), (fc, ((λ s. tt), (tt, (tt, tt))))))))),
          ),
        );
    inner = λ l d j z f h w x.
        let q = four_parts locals texts cells keys params none gt gh ge gd b l d h in
        let us = four_uses Noted vt vh ve vd (within j z) f t.bodies (rt.base.count l d q.0) w in
        clean_join f t.bodies (t.inner f) (y.block.inner (f + t.bodies)) (rt.base.long f)
        (rt.inner l d j z f q.0 us.0 (flags_front f (t.inner f) (y.block.inner (f + t.bodies)) x))
        (rd.inner l d j z (f + t.bodies) q.1 us.1
        (flags_back f t.bodies (t.inner f) (y.block.inner (f + t.bodies)) (rt.base.long f) x));
  }

  no_finally_rel_clean : (ln : ℕ) (t : Stated) (vt vh ve : Uses) (gt gh ge : Legal) (b : Bool) →
      Clean t (in_turn vt (in_turn vh ve)) (both gt (both (λ l c. gh l true) (both ge (always b)))) →
      Clean (finally ln t None) (in_turn vt (in_turn vh (in_turn ve none_used))) (four gt gh ge (λ l c. true) b)
  no_finally_rel_clean ln t vt vh ve gt gh ge b rt = record {
    base = no_finally_rel locals texts cells keys params none ln t vt vh ve gt gh ge b rt.base;
    good = λ j z l d f c h a w x. rt.good j z l d f c
        (four_parts locals texts cells keys params none gt gh ge (λ l c. true) b l d h).0 a
        (four_uses Noted vt vh ve none_used (within j z) f (vt.bodies + (vh.bodies + ve.bodies)) refl w).0 x;
    inner = λ l d j z f h w x. rt.inner l d j z f
        (four_parts locals texts cells keys params none gt gh ge (λ l c. true) b l d h).0
        (four_uses Noted vt vh ve none_used (within j z) f (vt.bodies + (vh.bodies + ve.bodies)) refl w).0 x;
  }

  -- functions and classes
  def_rel_clean : (ln : ℕ) (y : List ℕ) (ps : List Param) {ss : List Stated} {vs : List Uses} {gs : List Legal} →
      Related Clean ss vs gs → Clean
      (record {
        bodies = 1 + count ss;
        code = λ n c f. def ln (values n ln (defaults ps)) f (home n y);
        inner =
            inner_body ln y false (length ps) ss;
      })
      (body_used locals (λ b. name_bound b y ++ read_defaults b ps) false (all_in_turn vs))
      (always (lg.sane_defaults ps && all_legal gs false false))
  def_rel_clean ln y ps {ss = ss} {vs = vs} {gs = gs} rs = record {
    base = def_rel locals texts cells keys params none ln y ps
        (lists locals texts cells keys params none ok flags to go holds free rs);
    good = λ j z l d f c h a w x.
        let k = within j z in
        let us = every_front Noted (name_bound k y ++ read_defaults k ps) ((all_in_turn vs).uses (within f false) (f
        + 1)) w in
        clean_def ok flags z (knows j z) k refl refl refl to go holds (free j) ln y ps f x.0
        (every_back Noted (name_bound k y) (read_defaults k ps) us);
    inner = λ l d j z f h w x.
        let q = (and_parts (lg.sane_defaults ps) (all_legal gs false false) h).1 in
        let us = every_back Noted (name_bound (within j z) y ++ read_defaults (within j z) ps)
        ((all_in_turn vs).uses (within f false) (f + 1)) w in (
          row_clean ok flags false (pieces ss (knows f false) [] (f + 1))
              (list_good locals texts cells keys params none ok flags to go holds free rs f false false false (f
              + 1) [] q tt us x.1),
          list_inner locals texts cells keys params none ok flags to go holds free rs false false f false (f
              + 1) q us x.1,
        );
  }

  class_rel_clean : (ln : ℕ) (y : List ℕ) (e : Option Expr) {ss : List Stated} {vs : List Uses} {gs : List Legal} →
      Related Clean ss vs gs → Clean
      (record {
        bodies = 1 + count ss;
        code = λ n c f. class ln (base n ln e) f (home n y);
        inner =
            inner_body ln y true 0 ss;
      }) (body_used locals (λ b. name_bound b y ++ read_some b e) true (all_in_turn vs))
      (always (sane_some e && all_legal gs false false))
  class_rel_clean ln y e {ss = ss} {vs = vs} {gs = gs} rs = record {
    base = class_rel locals texts cells keys params none ln y e
        (lists locals texts cells keys params none ok flags to go holds free rs);
    good = λ j z l d f c h a w x.
        let k = within j z in
        let us = every_front Noted (name_bound k y ++ read_some k e) ((all_in_turn vs).uses (within f true) (f
        + 1)) w in
        clean_class ok flags z (knows j z) k refl refl refl to go holds (free j) ln y e f x.0
        (every_back Noted (name_bound k y) (read_some k e) us);
    inner = λ l d j z f h w x.
        let q = (and_parts (sane_some e) (all_legal gs false false) h).1 in
        let us = every_back Noted (name_bound (within j z) y ++ read_some (within j z) e)
        ((all_in_turn vs).uses (within f true) (f + 1))
        w in (
          row_clean ok flags true (pieces ss (knows f true) [] (f + 1))
              (list_good locals texts cells keys params none ok flags to go holds free rs f true false false (f
              + 1) [] q tt us x.1),
          list_inner locals texts cells keys params none ok flags to go holds free rs false false f true (f
              + 1) q us x.1,
        );
  }

  -- one layer, whose parts are so
  abbrev ClausePart : Type 0
  ClausePart = ClauseWith locals Clean CleanArm CleanHandler

  abbrev HandlerPart : Type 0
  HandlerPart = HandlerWith locals Clean CleanArm CleanHandler

  abbrev fs : List HandlerPart → List Handled
  fs ys = map code_by_handler (map (λ y. y.0) ys)

  abbrev us : List HandlerPart → Uses
  us ys = all_in_turn (map (uses_by_handler locals) (map (λ y. y.0) ys))

  abbrev ls : List HandlerPart → List Legal
  ls ys = map legal_by_handler (map (λ y. y.0) ys)

  without : (t : ClausePart) (ys : List HandlerPart) (e : Stated) (ve : Uses) (ge : Legal) → Clean e ve ge →
      (b : Bool) →
      (fs ys ≡ [] → b ≡ true → ve.bodies ≡ 0) →
      Clean (finally (code_by_clause t.0).line (tried (code_by_clause t.0) (fs ys) e) None)
      (in_turn (uses_by_clause locals t.0) (in_turn (us ys) (in_turn ve none_used)))
      (four (legal_by_clause t.0) (all_legal (ls ys)) ge (λ l c. true) b)
  without t ys e ve ge re b bare = no_finally_rel_clean (code_by_clause t.0).line
      (tried (code_by_clause t.0) (fs ys) e) (uses_by_clause locals t.0) (us ys) ve (legal_by_clause t.0)
      (all_legal (ls ys)) ge b (try_rel_clean (code_by_clause t.0) (uses_by_clause locals t.0) (legal_by_clause t.0)
      t.1 (related_of CleanHandler code_by_handler (uses_by_handler locals) legal_by_handler ys) e ve ge re b bare)

  with_finally : (t : ClausePart) (ys : List HandlerPart) (e : Stated) (ve : Uses) (ge : Legal) → Clean e ve ge →
      (b : Bool) → (fs ys ≡ [] → b ≡ true → ve.bodies ≡ 0) → (d : ClausePart) →
      Clean (finally (code_by_clause t.0).line (tried (code_by_clause t.0) (fs ys) e) (Some (code_by_clause d.0)))
      (in_turn (uses_by_clause locals t.0) (in_turn (us ys) (in_turn ve (uses_by_clause locals d.0))))
      (four (legal_by_clause t.0) (all_legal (ls ys)) ge (legal_by_clause d.0) b)
  with_finally t ys e ve ge re b bare d =
      finally_rel_clean (code_by_clause t.0).line (tried (code_by_clause t.0) (fs ys) e) (uses_by_clause locals t.0)
      (us ys) ve (legal_by_clause t.0) (all_legal (ls ys)) ge b
      (try_rel_clean (code_by_clause t.0) (uses_by_clause locals t.0) (legal_by_clause t.0) t.1
      (related_of CleanHandler code_by_handler (uses_by_handler locals) legal_by_handler ys) e ve ge re b bare)
      (code_by_clause d.0) (uses_by_clause locals d.0) (legal_by_clause d.0) d.1

  layer : (y : LayerWith locals Clean CleanArm CleanHandler) → IsLayer locals Clean CleanArm CleanHandler y
  layer (open'.Do ln e) = still_rel_clean locals texts cells keys params none ok flags to go holds free _ _ _
      (still_rel locals texts cells keys params none _ _ _
      (λ j z sl p s c h w. do_here locals texts cells keys params none j z sl p s c ln e h w))
      (λ j z c a w. clean_do ok flags z (knows j z) (within j z) refl refl refl to go holds (free j) ln e w)
  layer (open'.Assign ln ts e) = still_rel_clean locals texts cells keys params none ok flags to go holds free _ _ _
      (still_rel locals texts cells keys params none _ _ _
      (λ j z sl p s c h w. assign_here locals texts cells keys params none j z sl p s c ln ts e h w))
      (λ j z c a w. clean_assign ok flags z (knows j z) (within j z) refl refl refl to go holds (free j) ln ts e w)
  layer (open'.Augment ln t o e) = still_rel_clean locals texts cells keys params none ok flags to go holds free _ _ _
      (still_rel locals texts cells keys params none _ _ _
      (λ j z sl p s c h w. augment_here locals texts cells keys params none j z sl p s c ln t o e h w))
      (λ j z c a w. clean_augment ok flags z (knows j z) (within j z) refl refl refl to go holds (free j) ln t o e w)
  layer (open'.Print ln es comma) = still_rel_clean locals texts cells keys params none ok flags to go holds free _ _ _
      (still_rel locals texts cells keys params none _ _ _
      (λ j z sl p s c h w. print_here locals texts cells keys params none j z sl p s c ln es comma h w))
      (λ j z c a w. clean_print ok flags z (knows j z) (within j z) refl refl refl to go holds (free j) ln es comma w)
  layer (open'.Pass ln) = still_rel_clean locals texts cells keys params none ok flags to go holds free _ _ _
      (still_rel locals texts cells keys params none _ _ _ (λ j z sl p s c h w. nothing_does (limits j sl p) ln c))
      (λ j z c a w. template_clean ok flags z ln 0 0 [] tt)
  layer (open'.Break ln) = still_rel_clean locals texts cells keys params none ok flags to go holds free _ _ _
      (still_rel locals texts cells keys params none _ _ _
      (λ j z sl p s c h w. leaves_does (limits j sl p) c (way_out ln Break c)
      (jump_does (limits j sl p) ln Break refl c h)))
      (λ j z c a w. way_clean ok flags z ln Break c a)
  layer (open'.Continue ln) = still_rel_clean locals texts cells keys params none ok flags to go holds free _ _ _
      (still_rel locals texts cells keys params none _ _ _
      (λ j z sl p s c h w. leaves_does (limits j sl p) c (way_out ln Continue c)
      (jump_does (limits j sl p) ln Continue refl c h))) (λ j z c a w. way_clean ok flags z ln Continue c a)
  layer (open'.Return ln e) = still_rel_clean locals texts cells keys params none ok flags to go holds free _ _ _
      (still_rel locals texts cells keys params none _ _ _
      (λ j z sl p s c h w. return_here locals texts cells keys params none j z sl p s c ln e h w))
      (λ j z c a w. return_clean ok flags z ln (value_some (knows j z) ln e) c
      (clean_some ok flags z (knows j z) (within j z) refl refl refl to go holds (free j) ln e w) a)
  layer (open'.Raise ln e v) = still_rel_clean locals texts cells keys params none ok flags to go holds free _ _ _
      (still_rel locals texts cells keys params none _ _ _
      (λ j z sl p s c h w. raise_here locals texts cells keys params none j z sl p s c ln e v h w))
      (λ j z c a w. clean_raise ok flags z (knows j z) (within j z) refl refl refl to go holds (free j) ln c e v a w)
  layer (open'.Del ln ts) = still_rel_clean locals texts cells keys params none ok flags to go holds free _ _ _
      (still_rel locals texts cells keys params none _ _ _
      (λ j z sl p s c h w. del_here locals texts cells keys params none j z sl p s c ln ts h w))
      (λ j z c a w. clean_del ok flags z (knows j z) (within j z) refl refl refl to go holds (free j) ln ts w)
  layer (open'.Global ln xs) = still_rel_clean locals texts cells keys params none ok flags to go holds free _ _ _
      (still_rel locals texts cells keys params none _ _ _ (λ j z sl p s c h w. nothing_does (limits j sl p) ln c))
      (λ j z c a w. template_clean ok flags z ln 0 0 [] tt)
  layer (open'.Assert ln t m) = still_rel_clean locals texts cells keys params none ok flags to go holds free _ _ _
      (still_rel locals texts cells keys params none _ _ _
      (λ j z sl p s c h w. assert_here locals texts cells keys params none j z sl p s c ln t m h w))
      (λ j z c a w. clean_assert ok flags z (knows j z) (within j z) refl refl refl to go holds (free j) ln t m w)
  layer (open'.Import ln is) = still_rel_clean locals texts cells keys params none ok flags to go holds free _ _ _
      (still_rel locals texts cells keys params none _ _ _
      (λ j z sl p s c h w. import_here locals texts cells keys params none j z sl p s c ln is w))
      (λ j z c a w. clean_import_all ok flags z (knows j z) (within j z) refl refl refl to go holds (free j) ln is)
  layer (open'.From ln m is) = still_rel_clean locals texts cells keys params none ok flags to go holds free _ _ _
      (still_rel locals texts cells keys params none _ _ _
      (λ j z sl p s c h w. from_here locals texts cells keys params none j z sl p s c ln is w))
      (λ j z c a w. clean_from_all ok flags z (knows j z) (within j z) refl refl refl to go holds (free j) ln is)
  layer (open'.If ys None) = if_rel_clean locals texts cells keys params none ok flags to go holds free
      (related_of CleanArm code_by_arm (uses_by_arm locals) legal_by_arm ys)
      (block []) none_used (λ l c. true) (none_rel_clean locals texts cells keys params none ok flags to go holds free)
  layer (open'.If ys (Some e)) = if_rel_clean locals texts cells keys params none ok flags to go holds free
      (related_of CleanArm code_by_arm (uses_by_arm locals) legal_by_arm ys)
      (code_by_clause e.0).block (uses_by_clause locals e.0) (legal_by_clause e.0) e.1
  layer (open'.While a None) = while_rel_clean locals texts cells keys params none ok flags to go holds free
      (code_by_arm a.0) (uses_by_arm locals a.0) (legal_by_arm a.0) a.1
      (block []) none_used (λ l c. true) (none_rel_clean locals texts cells keys params none ok flags to go holds free)
  layer (open'.While a (Some e)) = while_rel_clean locals texts cells keys params none ok flags to go holds free
      (code_by_arm a.0) (uses_by_arm locals a.0) (legal_by_arm a.0) a.1
      (code_by_clause e.0).block (uses_by_clause locals e.0) (legal_by_clause e.0) e.1
  layer (open'.For ln t x ys None) = for_rel_clean locals texts cells keys params none ok flags to go holds free ln t x
      (related_of Clean stated (stmt_uses locals) legal ys)
      (block []) none_used (λ l c. true) (none_rel_clean locals texts cells keys params none ok flags to go holds free)
  layer (open'.For ln t x ys (Some e)) = for_rel_clean locals texts cells keys params none ok flags to go holds free ln
      t x (related_of Clean stated (stmt_uses locals) legal ys)
      (code_by_clause e.0).block (uses_by_clause locals e.0) (legal_by_clause e.0) e.1
  layer (open'.Try t ys None None) = without t ys (block []) none_used (λ l c. true)
      (none_rel_clean locals texts cells keys params none ok flags to go holds free)
      (has_clause (ls ys) None) (λ e h. refl)
  layer (open'.Try t ys (Some e) None) = without t ys (code_by_clause e.0).block (uses_by_clause locals e.0)
      (legal_by_clause e.0) e.1 (has_clause (ls ys) (Some (legal_by_clause e.0)))
      (clause_stands code_by_handler legal_by_handler (map (λ y. y.0) ys) (legal_by_clause e.0)
      (uses_by_clause locals e.0).bodies)
  layer (open'.Try t ys None (Some d)) = with_finally t ys (block []) none_used (λ l c. true)
      (none_rel_clean locals texts cells keys params none ok flags to go holds free)
      (has_clause (ls ys) None) (λ e h. refl) d
  layer (open'.Try t ys (Some e) (Some d)) = with_finally t ys (code_by_clause e.0).block (uses_by_clause locals e.0)
      (legal_by_clause e.0) e.1 (has_clause (ls ys) (Some (legal_by_clause e.0)))
      (clause_stands code_by_handler legal_by_handler (map (λ y. y.0) ys) (legal_by_clause e.0)
      (uses_by_clause locals e.0).bodies) d
  layer (open'.Def ln x ps ys) = def_rel_clean ln x ps (related_of Clean stated (stmt_uses locals) legal ys)
  layer (open'.Class ln x e ys) = class_rel_clean ln x e (related_of Clean stated (stmt_uses locals) legal ys)

  pub stmts_clean : (ss : List Stmt) → Related Clean (all_stated ss) (map (stmt_uses locals) ss) (map legal ss)
  stmts_clean = every_stmts locals Clean CleanArm CleanHandler layer (λ ss vs gs rs.
      block_rel_clean locals texts cells keys params none ok flags to go holds free rs)
      (λ ln t ss vs gs rs.
      arm_rel_clean locals texts cells keys params none ok flags to go holds free ln t rs) (λ ln e t ss vs gs rs.
      handler_rel_clean locals texts cells keys params none ok flags to go holds free ln e t rs)

  -- a module's statements, and the bodies inside them
  pub module_clean : (ss : List Stmt) → all_legal (map legal ss) false false ≡ true →
      AllNoted ((all_in_turn (map (stmt_uses locals) ss)).uses (within 0 false) 1) →
      Flags 1 (inners (all_stated ss) 1) →
      IsClean ok flags false ((block (all_stated ss)).code (knows 0 false) [] 1)
      × AllClean 1 (inners (all_stated ss) 1)
  module_clean ss h w x = let r = block_rel_clean locals texts cells keys params none ok flags to go holds free
      (stmts_clean ss) in
      (r.good 0 false false false 1 [] h tt w x, r.inner false false 0 false 1 h w x)
