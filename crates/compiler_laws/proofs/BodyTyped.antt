-- The code of each statement of a legal module whose uses have numbers leads from a shape to itself, and so does that
-- of each body inside it: `try`, functions, classes, and all statements.
use Rattle.std.proofs.Common.{◌≡◌, ◌&&◌, ℕ, suc, ◌+◌, ◌≤◌, List, [], ◌∷◌, ◌++◌, Option, Some, None, Bool, true, false, refl, subst, arith, length, map, length-append}
use Rattle.std.proofs.lemmas.Bool.{and_parts}
use Rattle.py_code.specs.Effects.{Limits}
use Rattle.py_tree.specs.declared.expr.Expr.{Expr}
use Rattle.py_tree.specs.declared.stmt.Stmt.{Stmt}
use Rattle.py_tree.specs.declared.stmt.Param.{Param}
use Rattle.py_tree.specs.declared.stmt.Stmt.TheOpen as open'
use Rattle.py_templates.specs.declared.way.Way.TheVariants.{Break, Continue}
use Rattle.py_templates.specs.Table.{InTry, InFinally, def, class, way_out}
use Rattle.py_templates.specs.Names.{Known, home}
use Rattle.py_templates.specs.Expressions.{values}
use Rattle.py_templates.specs.Uses.{Use, Inside, Uses, in_turn, none_used, all_in_turn, body_used, name_bound, read_some, read_defaults, stmt_uses}
use Rattle.py_templates.specs.Statements.{Body, Stated, Armed, Claused, Handled, block, count, pieces, handled, handled_count, handled_inner, tried, finally, inner_body, base, default_or, defaults, stated, all_stated}
use Rattle.py_templates.proofs.ExprInduct.{every_front, every_back}
use Rattle.compiler_laws.proofs.Sane.{sane_some}
use Rattle.compiler_laws.proofs.Legal.{Legal, always, both, all_legal, has_clause, sane_defaults, legal, legal_by_arm, legal_by_clause, legal_by_handler}
use Rattle.compiler_laws.proofs.Surrounds.{block_does, in_loop, in_clause, leaves_does}
use Rattle.compiler_laws.proofs.Blocks.{nothing_does, jump_does}
use Rattle.compiler_laws.proofs.Constructs.{try_except_does, try_finally_does, def_does, class_does}
use Rattle.compiler_laws.proofs.EachFrom.{from_front, from_back, from_join}
use Rattle.compiler_laws.proofs.World.{known, inside, lim, Covers, HasNone, Standing, BodiesOk, IsAt, DoesIn}
use Rattle.compiler_laws.proofs.FoldInduct.{Related, Nil, Cons, related_of, clause_stands, code_by_arm, code_by_clause, code_by_handler, uses_by_arm, uses_by_clause, uses_by_handler, ClauseWith, HandlerWith, LayerWith, IsLayer, every_stmts}
use Rattle.compiler_laws.proofs.UsesInTurn.{three_uses, four_uses}
use Rattle.compiler_laws.proofs.StmtSimple.{homed_is, home_here, do_here, assign_here, augment_here, print_here, return_here, raise_here, del_here, assert_here, import_here, from_here, defaults_here, base_here}
use Rattle.py_templates.proofs.Lengths.{values_length}
use Rattle.compiler_laws.proofs.StmtTyped.{Rel, ArmRel, HandlerRel, still_rel, none_rel, rels_count, rels_long, rels_good, rels_inner, block_rel, handlers_count, handlers_long, handlers_good, handlers_inner, arm_rel, handler_rel, if_rel, while_rel, for_rel}

module _ (locals : ℕ → List (List ℕ)) (texts cells : List (List ℕ)) (keys : ℕ → List (List (List ℕ))) (params : List ℕ)
    (none : HasNone locals texts cells keys params) where
  abbrev Base : Stated → Uses → Legal → Type 0
  Base = Rel locals texts cells keys params none

  abbrev ArmBase : Armed → Uses → Legal → Type 0
  ArmBase = ArmRel locals texts cells keys params none

  abbrev HandlerBase : Handled → Uses → Legal → Type 0
  HandlerBase = HandlerRel locals texts cells keys params none

  abbrev Stand : ℕ → List Body → Type 0
  Stand = Standing locals texts cells keys params

  abbrev AllDo : ℕ → List Body → Type 0
  AllDo = BodiesOk locals texts cells keys params

  abbrev knows : ℕ → Bool → Known
  knows = known locals texts cells keys params

  abbrev limits : ℕ → ℕ → ℕ → Limits
  limits = lim locals texts cells keys params

  abbrev within : ℕ → Bool → Inside
  within = inside locals texts cells keys params

  abbrev Numbered : Use → Type 0
  Numbered = Covers locals texts cells keys params

  ok_join : (f m : ℕ) (a c : List Body) → length a ≡ m → AllDo f a → AllDo (f + m) c → AllDo f (a ++ c)
  ok_join = from_join (DoesIn locals texts cells keys params)

  stands_back : (f m : ℕ) (a c : List Body) → length a ≡ m → Stand f (a ++ c) → Stand (f + m) c
  stands_back = from_back (IsAt locals texts cells keys params)

  stands_front : (f : ℕ) (a c : List Body) → Stand f (a ++ c) → Stand f a
  stands_front = from_front (IsAt locals texts cells keys params)

  -- try, first without its finally
  three : Legal → Legal → Legal → Bool → Legal
  three gt gh ge b = both gt (both (λ l c. gh l true) (both ge (always b)))

  abbrev pub three_parts : (gt gh ge : Legal) (b l c : Bool) → (gt l c && (gh l true && (ge l c && b))) ≡ true →
      (gt l c ≡ true) × (gh l true ≡ true) × (ge l c ≡ true) × (b ≡ true)
  three_parts gt gh ge b l c h =
      let q = and_parts (gt l c) (gh l true && (ge l c && b)) h in
      let r = and_parts (gh l true) (ge l c && b) q.1 in
      let x = and_parts (ge l c) b r.1 in
      (q.0, r.0, x.0, x.1)

  pub try_rel : (t : Claused) (vt : Uses) (gt : Legal) → Base t.block vt gt →
      {hs : List Handled} {vs : List Uses} {gs : List Legal} → Related HandlerBase hs vs gs →
      (e : Stated) (ve : Uses) (ge : Legal) → Base e ve ge → (b : Bool) → (hs ≡ [] → b ≡ true → ve.bodies ≡ 0) →
      Base (tried t hs e) (in_turn vt (in_turn (all_in_turn vs) ve))
      (both gt (both (λ l c. all_legal gs l true) (both ge (always b))))
  try_rel t vt gt rt Nil e ve ge re b bare = record {
    count = λ l c h. let q = three_parts gt (λ l c. true) ge b l c h in let x = rt.count l c q.0 in let y =
        bare refl q.3 in omega (arith, x, y);
    long = rt.long;
    good = λ j z sl p s f c h w st.
        let q = three_parts gt (λ l c. true) ge b (in_loop (limits j sl p) c) (in_clause (limits j sl p) c) h in
        rt.good j z sl p s f c q.0 (every_front Numbered (vt.uses (within j z) f)
        ((in_turn none_used ve).uses (within j z) (f + vt.bodies)) w) st;
    inner = λ l c j z f h w st.
        let q = three_parts gt (λ l c. true) ge b l c h in
        rt.inner l c j z f q.0 (every_front Numbered (vt.uses (within j z) f) ((in_turn none_used ve).uses (within j z)
        (f + vt.bodies))
        w) st;
  }
  try_rel t vt gt rt (Cons {s = x} {v = v} {g = g} {ss = as'} {vs = vs} {gs = gs} r rs) e ve ge re b bare = record {
    count = λ l c h. let q = three_parts gt (all_legal (g ∷ gs)) ge b l c h in let m = rt.count l c q.0 in let n =
        handlers_count locals texts cells keys params none hs l true q.1 in let y = re.count l c q.2 in
        omega (arith, m, n, y);
    long = λ f. let m = rt.long f in
        let n = handlers_long locals texts cells keys params none hs (f + t.block.bodies) in let y =
        re.long (f + t.block.bodies + handled_count (x ∷ as')) in
        omega (
          arith,
          m,
          n,
          y,
          length-append (t.block.inner f)
              (handled_inner (x ∷ as') (f + t.block.bodies) ++ e.inner (f + t.block.bodies + handled_count (x ∷ as'))),
          length-append (handled_inner (x ∷ as') (f + t.block.bodies))
              (e.inner (f + t.block.bodies + handled_count (x ∷ as'))),
          length-append (t.block.inner f ++ handled_inner (x ∷ as') (f + t.block.bodies))
              (e.inner (f + t.block.bodies + handled_count (x ∷ as'))),
          length-append (t.block.inner f) (handled_inner (x ∷ as') (f + t.block.bodies)),
        );
    good = λ j z sl p s f c h w st.
        let k = within j z in
        let l = in_loop (limits j sl p) c in
        let d = in_clause (limits j sl p) c in
        let q = three_parts gt (all_legal (g ∷ gs)) ge b l d h in
        let ws = three_uses Numbered vt (all_in_turn (v ∷ vs)) ve k f t.block.bodies (handled_count (x ∷ as'))
        (rt.count l d q.0) (handlers_count locals texts cells keys params none hs l true q.1) w in
        let ss = three_stand f st in
        try_except_does (limits j sl p) t.line c (t.block.code (knows j z) (InTry ∷ c) f)
        (handled (x ∷ as') (knows j z) c (f + t.block.bodies))
        (e.code (knows j z) c (f + t.block.bodies + handled_count (x ∷ as')))
        (rt.good j z sl p s f (InTry ∷ c) q.0 ws.0 ss.0)
        (handlers_good locals texts cells keys params none hs j z sl p s (f + t.block.bodies) c q.1 ws.1 ss.1)
        (re.good j z sl p s (f + t.block.bodies + handled_count (x ∷ as')) c q.2 ws.2 ss.2);
    inner = λ l c j z f h w st.
        let k = within j z in
        let q = three_parts gt (all_legal (g ∷ gs)) ge b l c h in
        let ws = three_uses Numbered vt (all_in_turn (v ∷ vs)) ve k f t.block.bodies (handled_count (x ∷ as'))
        (rt.count l c q.0) (handlers_count locals texts cells keys params none hs l true q.1) w in
        let ss = three_stand f st in
        three_join f (rt.inner l c j z f q.0 ws.0 ss.0)
        (handlers_inner locals texts cells keys params none hs l true j z (f + t.block.bodies) q.1 ws.1 ss.1)
        (re.inner l c j z (f + t.block.bodies + handled_count (x ∷ as')) q.2 ws.2 ss.2);
  }
    where
      hs : Related HandlerBase (x ∷ as') (v ∷ vs) (g ∷ gs)
      hs = Cons r rs

      three_stand : (f : ℕ) → Stand f ((tried t (x ∷ as') e).inner f) →
          Stand f (t.block.inner f) × Stand (f + t.block.bodies) (handled_inner (x ∷ as') (f + t.block.bodies)) × Stand
          (f + t.block.bodies + handled_count (x ∷ as')) (e.inner (f + t.block.bodies + handled_count (x ∷ as')))
      three_stand f st =
          let a = t.block.inner f in
          let b = handled_inner (x ∷ as') (f + t.block.bodies) in
          let c = e.inner (f + t.block.bodies + handled_count (x ∷ as')) in
          let h = stands_front f (a ++ b) c st in
          let len : length (a ++ b) ≡ t.block.bodies + handled_count (x ∷ as') = let m = rt.long f in let n =
          handlers_long locals texts cells keys params none hs (f + t.block.bodies) in
          omega (arith, m, n, length-append a b) in
          let far : f + (t.block.bodies + handled_count (x ∷ as')) ≡ f + t.block.bodies + handled_count (x ∷ as') =
          omega arith in (
            stands_front f a b h,
            stands_back f t.block.bodies a b (rt.long f) h,
            subst (λ i. Stand i c) far (stands_back f (t.block.bodies + handled_count (x ∷ as')) (a ++ b) c len st),
          )

      three_join : (f : ℕ) → AllDo f (t.block.inner f) →
          AllDo (f + t.block.bodies) (handled_inner (x ∷ as') (f + t.block.bodies)) →
          AllDo (f + t.block.bodies + handled_count (x ∷ as')) (e.inner (f + t.block.bodies + handled_count (x ∷ as')))
          →
          AllDo f ((tried t (x ∷ as') e).inner f)
      three_join f p q r' =
          let a = t.block.inner f in
          let b = handled_inner (x ∷ as') (f + t.block.bodies) in
          let c = e.inner (f + t.block.bodies + handled_count (x ∷ as')) in
          let len : length (a ++ b) ≡ t.block.bodies + handled_count (x ∷ as') = let m = rt.long f in let n =
          handlers_long locals texts cells keys params none hs (f + t.block.bodies) in
          omega (arith, m, n, length-append a b) in
          let far : f + t.block.bodies + handled_count (x ∷ as') ≡ f + (t.block.bodies + handled_count (x ∷ as')) =
          omega arith in
          ok_join f (t.block.bodies + handled_count (x ∷ as')) (a ++ b) c len
          (ok_join f t.block.bodies a b (rt.long f) p q) (subst (λ i. AllDo i c) far r')

  -- its finally
  pub four_parts : (gt gh ge gd : Legal) (b l c : Bool) → (gt l c && (gh l true && (ge l c && (gd l c && b)))) ≡ true →
      ((gt l c && (gh l true && (ge l c && b))) ≡ true) × (gd l c ≡ true)
  four_parts gt gh ge gd b l c h =
      let q = and_parts (gt l c) (gh l true && (ge l c && (gd l c && b))) h in
      let r = and_parts (gh l true) (ge l c && (gd l c && b)) q.1 in
      let x = and_parts (ge l c) (gd l c && b) r.1 in
      let y = and_parts (gd l c) b x.1 in
      (rw (q.0, r.0, x.0, y.1) refl, y.0)

  abbrev four : Legal → Legal → Legal → Legal → Bool → Legal
  four gt gh ge gd b = both gt (both (λ l c. gh l true) (both ge (both gd (always b))))

  pub finally_rel : (ln : ℕ) (t : Stated) (vt vh ve : Uses) (gt gh ge : Legal) (b : Bool) →
      Base t (in_turn vt (in_turn vh ve)) (both gt (both (λ l c. gh l true) (both ge (always b)))) →
      (d : Claused) (vd : Uses) (gd : Legal) → Base d.block vd gd →
      Base (finally ln t (Some d)) (in_turn vt (in_turn vh (in_turn ve vd))) (four gt gh ge gd b)
  finally_rel ln t vt vh ve gt gh ge b rt d vd gd rd = record {
    count = λ l c h. let q = four_parts gt gh ge gd b l c h in let x = rt.count l c q.0 in let y = rd.count l c q.1 in
        omega (arith, x, y);
    long = λ f. let x = rt.long f in let y = rd.long (f + t.bodies) in
        omega (arith, x, y, length-append (t.inner f) (d.block.inner (f + t.bodies)));
    good = λ j z sl p s f c h w st.
        let l = in_loop (limits j sl p) c in
        let m = in_clause (limits j sl p) c in
        let q = four_parts gt gh ge gd b l m h in
        let us = four_uses Numbered vt vh ve vd (within j z) f t.bodies (rt.count l m q.0) w in
        let fin = d.block.code (knows j z) c (f + t.bodies) in
        try_finally_does (limits j sl p) ln c (t.code (knows j z) (InFinally fin ∷ c) f) fin
        (rt.good j z sl p s f (InFinally fin ∷ c) q.0 us.0
        (stands_front f (t.inner f) (d.block.inner (f + t.bodies)) st))
        (rd.good j z sl p s (f + t.bodies) c q.1 us.1
        (stands_back f t.bodies (t.inner f) (d.block.inner (f + t.bodies)) (rt.long f) st));
    inner = λ l c j z f h w st.
        let q = four_parts gt gh ge gd b l c h in
        let us = four_uses Numbered vt vh ve vd (within j z) f t.bodies (rt.count l c q.0) w in
        ok_join f t.bodies (t.inner f) (d.block.inner (f + t.bodies)) (rt.long f)
        (rt.inner l c j z f q.0 us.0 (stands_front f (t.inner f) (d.block.inner (f + t.bodies)) st))
        (rd.inner l c j z (f + t.bodies) q.1 us.1
        (stands_back f t.bodies (t.inner f) (d.block.inner (f + t.bodies)) (rt.long f) st));
  }

  pub no_finally_rel : (ln : ℕ) (t : Stated) (vt vh ve : Uses) (gt gh ge : Legal) (b : Bool) →
      Base t (in_turn vt (in_turn vh ve)) (both gt (both (λ l c. gh l true) (both ge (always b)))) →
      Base (finally ln t None) (in_turn vt (in_turn vh (in_turn ve none_used))) (four gt gh ge (λ l c. true) b)
  no_finally_rel ln t vt vh ve gt gh ge b rt = record {
    count = λ l c h. let q = four_parts gt gh ge (λ l c. true) b l c h in let x = rt.count l c q.0 in omega (arith, x);
    long = rt.long;
    good = λ j z sl p s f c h w st. rt.good j z sl p s f c
        (four_parts gt gh ge (λ l c. true) b (in_loop (limits j sl p) c) (in_clause (limits j sl p) c) h).0
        (four_uses Numbered vt vh ve none_used (within j z) f (vt.bodies + (vh.bodies + ve.bodies)) refl w).0 st;
    inner = λ l c j z f h w st. rt.inner l c j z f (four_parts gt gh ge (λ l c. true) b l c h).0
        (four_uses Numbered vt vh ve none_used (within j z) f (vt.bodies + (vh.bodies + ve.bodies)) refl w).0 st;
  }

  -- functions and classes
  defaults_few : (ps : List Param) → length (defaults ps) ≤ length ps
  defaults_few [] = omega arith
  defaults_few (q ∷ ps) = by_default q.default (defaults_few ps)
    where
      by_default : (d : Option Expr) → length (defaults ps) ≤ length ps →
          length (default_or d (defaults ps)) ≤ suc (length ps)
      by_default None h = omega (arith, h)
      by_default (Some x) h = omega (arith, h)

  pub def_rel : (ln : ℕ) (x : List ℕ) (ps : List Param) {ss : List Stated} {vs : List Uses} {gs : List Legal} →
      Related Base ss vs gs → Base (record {
        bodies = 1 + count ss;
        code = λ n c f.
            def ln (values n ln (defaults ps)) f (home n x);
        inner = inner_body ln x false (length ps) ss;
      })
      (body_used locals (λ b. name_bound b x ++ read_defaults b ps) false (all_in_turn vs))
      (always (sane_defaults ps && all_legal gs false false))
  def_rel ln x ps {ss = ss} {vs = vs} {gs = gs} rs = record {
    count = λ l c h. let a = rels_count locals texts cells keys params none rs false false
        (and_parts (sane_defaults ps) (all_legal gs false false) h).1 in
        omega (arith, a);
    long = λ f. let a = rels_long locals texts cells keys params none rs (f + 1) in omega (arith, a);
    good = λ j z sl p s f c h w st.
        let k = within j z in
        let q = and_parts (sane_defaults ps) (all_legal gs false false) h in
        let u = every_front Numbered (name_bound k x ++ read_defaults k ps) ((all_in_turn vs).uses (within f false) (f
        + 1)) w in
        let e1 = values_length (knows j z) ln (defaults ps) in
        let e2 = defaults_few ps in
        let e3 = st.0.1 in
        def_does (limits j sl p) ln c (values (knows j z) ln (defaults ps)) f (home (knows j z) x)
        (homed_is (limits j sl p) ln (home (knows j z) x)
        (home_here locals texts cells keys params none j z sl p s x
        (every_front Numbered (name_bound k x) (read_defaults k ps) u)))
        (defaults_here locals texts cells keys params none j z sl p s ln ps q.0
        (every_back Numbered (name_bound k x) (read_defaults k ps) u))
        (st.0.0, omega (arith, e1, e2, e3));
    inner = λ l c j z f h w st.
        let q = and_parts (sane_defaults ps) (all_legal gs false false) h in
        let u = every_back Numbered (name_bound (within j z) x ++ read_defaults (within j z) ps)
        ((all_in_turn vs).uses (within f false) (f + 1)) w in (
          (λ sl p s. block_does (limits f sl p) [] (pieces ss (knows f false) [] (f + 1))
              (rels_good locals texts cells keys params none rs f false sl p s (f + 1) [] q.1 u st.1)),
          rels_inner locals texts cells keys params none rs false false f false (f + 1) q.1 u st.1,
        );
  }

  pub class_rel : (ln : ℕ) (x : List ℕ) (e : Option Expr) {ss : List Stated} {vs : List Uses} {gs : List Legal} →
      Related Base ss vs gs → Base (record {
        bodies = 1 + count ss;
        code = λ n c f. class ln (base n ln e) f (home n x);
        inner = inner_body ln x true 0 ss;
      })
      (body_used locals (λ b. name_bound b x ++ read_some b e) true (all_in_turn vs))
      (always (sane_some e && all_legal gs false false))
  class_rel ln x e {ss = ss} {vs = vs} {gs = gs} rs = record {
    count = λ l c h. let a = rels_count locals texts cells keys params none rs false false
        (and_parts (sane_some e) (all_legal gs false false) h).1 in
        omega (arith, a);
    long = λ f. let a = rels_long locals texts cells keys params none rs (f + 1) in omega (arith, a);
    good = λ j z sl p s f c h w st.
        let k = within j z in
        let q = and_parts (sane_some e) (all_legal gs false false) h in
        let u = every_front Numbered (name_bound k x ++ read_some k e) ((all_in_turn vs).uses (within f true) (f
        + 1)) w in
        class_does (limits j sl p) ln c (base (knows j z) ln e) f (home (knows j z) x)
        (homed_is (limits j sl p) ln (home (knows j z) x)
        (home_here locals texts cells keys params none j z sl p s x
        (every_front Numbered (name_bound k x) (read_some k e) u)))
        (base_here locals texts cells keys params none j z sl p s ln e q.0
        (every_back Numbered (name_bound k x) (read_some k e) u))
        st.0.0;
    inner = λ l c j z f h w st.
        let q = and_parts (sane_some e) (all_legal gs false false) h in
        let u = every_back Numbered (name_bound (within j z) x ++ read_some (within j z) e)
        ((all_in_turn vs).uses (within f true) (f + 1)) w
        in (
          (λ sl p s. block_does (limits f sl p) [] (pieces ss (knows f true) [] (f + 1))
              (rels_good locals texts cells keys params none rs f true sl p s (f + 1) [] q.1 u st.1)),
          rels_inner locals texts cells keys params none rs false false f true (f + 1) q.1 u st.1,
        );
  }

  -- one layer, whose parts are so
  abbrev ClausePart : Type 0
  ClausePart = ClauseWith locals Base ArmBase HandlerBase

  abbrev HandlerPart : Type 0
  HandlerPart = HandlerWith locals Base ArmBase HandlerBase

  abbrev fs : List HandlerPart → List Handled
  fs ys = map code_by_handler (map (λ y. y.0) ys)

  abbrev us : List HandlerPart → Uses
  us ys = all_in_turn (map (uses_by_handler locals) (map (λ y. y.0) ys))

  abbrev ls : List HandlerPart → List Legal
  ls ys = map legal_by_handler (map (λ y. y.0) ys)

  without : (t : ClausePart) (ys : List HandlerPart) (e : Stated) (ve : Uses) (ge : Legal) → Base e ve ge → (b : Bool) →
      (fs ys ≡ [] → b ≡ true → ve.bodies ≡ 0) →
      Base (finally (code_by_clause t.0).line (tried (code_by_clause t.0) (fs ys) e) None)
      (in_turn (uses_by_clause locals t.0) (in_turn (us ys) (in_turn ve none_used)))
      (four (legal_by_clause t.0) (all_legal (ls ys)) ge (λ l c. true) b)
  without t ys e ve ge re b bare = no_finally_rel (code_by_clause t.0).line (tried (code_by_clause t.0) (fs ys) e)
      (uses_by_clause locals t.0) (us ys) ve (legal_by_clause t.0) (all_legal (ls ys)) ge b
      (try_rel (code_by_clause t.0) (uses_by_clause locals t.0) (legal_by_clause t.0) t.1
      (related_of HandlerBase code_by_handler (uses_by_handler locals) legal_by_handler ys) e ve ge re b bare)

  with_finally : (t : ClausePart) (ys : List HandlerPart) (e : Stated) (ve : Uses) (ge : Legal) → Base e ve ge →
      (b : Bool) →
      (fs ys ≡ [] → b ≡ true → ve.bodies ≡ 0) → (d : ClausePart) →
      Base (finally (code_by_clause t.0).line (tried (code_by_clause t.0) (fs ys) e) (Some (code_by_clause d.0)))
      (in_turn (uses_by_clause locals t.0) (in_turn (us ys) (in_turn ve (uses_by_clause locals d.0))))
      (four (legal_by_clause t.0) (all_legal (ls ys)) ge (legal_by_clause d.0) b)
  with_finally t ys e ve ge re b bare d = finally_rel (code_by_clause t.0).line (tried (code_by_clause t.0) (fs ys) e)
      (uses_by_clause locals t.0) (us ys) ve (legal_by_clause t.0) (all_legal (ls ys)) ge b
      (try_rel (code_by_clause t.0) (uses_by_clause locals t.0) (legal_by_clause t.0) t.1
      (related_of HandlerBase code_by_handler (uses_by_handler locals) legal_by_handler ys) e ve ge re b bare)
      (code_by_clause d.0) (uses_by_clause locals d.0) (legal_by_clause d.0) d.1

  layer : (y : LayerWith locals Base ArmBase HandlerBase) → IsLayer locals Base ArmBase HandlerBase y
  layer (open'.Do ln e) = still_rel locals texts cells keys params none _ _ _
      (λ j z sl p s c h w. do_here locals texts cells keys params none j z sl p s c ln e h w)
  layer (open'.Assign ln ts e) = still_rel locals texts cells keys params none _ _ _
      (λ j z sl p s c h w. assign_here locals texts cells keys params none j z sl p s c ln ts e h w)
  layer (open'.Augment ln t o e) = still_rel locals texts cells keys params none _ _ _
      (λ j z sl p s c h w. augment_here locals texts cells keys params none j z sl p s c ln t o e h w)
  layer (open'.Print ln es comma) = still_rel locals texts cells keys params none _ _ _
      (λ j z sl p s c h w. print_here locals texts cells keys params none j z sl p s c ln es comma h w)
  layer (open'.Pass ln) = still_rel locals texts cells keys params none _ _ _ (λ j z sl p s c h w.
      nothing_does (limits j sl p) ln c)
  layer (open'.Break ln) = still_rel locals texts cells keys params none _ _ _
      (λ j z sl p s c h w. leaves_does (limits j sl p) c (way_out ln Break c)
      (jump_does (limits j sl p) ln Break refl c h))
  layer (open'.Continue ln) = still_rel locals texts cells keys params none _ _ _
      (λ j z sl p s c h w. leaves_does (limits j sl p) c (way_out ln Continue c)
      (jump_does (limits j sl p) ln Continue refl c h))
  layer (open'.Return ln e) = still_rel locals texts cells keys params none _ _ _
      (λ j z sl p s c h w. return_here locals texts cells keys params none j z sl p s c ln e h w)
  layer (open'.Raise ln e v) = still_rel locals texts cells keys params none _ _ _
      (λ j z sl p s c h w. raise_here locals texts cells keys params none j z sl p s c ln e v h w)
  layer (open'.Del ln ts) = still_rel locals texts cells keys params none _ _ _
      (λ j z sl p s c h w. del_here locals texts cells keys params none j z sl p s c ln ts h w)
  layer (open'.Global ln xs) = still_rel locals texts cells keys params none _ _ _ (λ j z sl p s c h w.
      nothing_does (limits j sl p) ln c)
  layer (open'.Assert ln t m) = still_rel locals texts cells keys params none _ _ _
      (λ j z sl p s c h w. assert_here locals texts cells keys params none j z sl p s c ln t m h w)
  layer (open'.Import ln is) = still_rel locals texts cells keys params none _ _ _
      (λ j z sl p s c h w. import_here locals texts cells keys params none j z sl p s c ln is w)
  layer (open'.From ln m is) = still_rel locals texts cells keys params none _ _ _
      (λ j z sl p s c h w. from_here locals texts cells keys params none j z sl p s c ln is w)
  layer (open'.If ys None) = if_rel locals texts cells keys params none
      (related_of ArmBase code_by_arm (uses_by_arm locals) legal_by_arm ys) (block [])
      none_used (λ l c. true) (none_rel locals texts cells keys params none)
  layer (open'.If ys (Some e)) = if_rel locals texts cells keys params none
      (related_of ArmBase code_by_arm (uses_by_arm locals) legal_by_arm ys)
      (code_by_clause e.0).block (uses_by_clause locals e.0) (legal_by_clause e.0) e.1
  layer (open'.While a None) = while_rel locals texts cells keys params none (code_by_arm a.0) (uses_by_arm locals a.0)
      (legal_by_arm a.0) a.1 (block [])
      none_used (λ l c. true) (none_rel locals texts cells keys params none)
  layer (open'.While a (Some e)) = while_rel locals texts cells keys params none (code_by_arm a.0)
      (uses_by_arm locals a.0) (legal_by_arm a.0) a.1
      (code_by_clause e.0).block (uses_by_clause locals e.0) (legal_by_clause e.0) e.1
  layer (open'.For ln t x ys None) = for_rel locals texts cells keys params none ln t x
      (related_of Base stated (stmt_uses locals) legal ys) (block [])
      none_used (λ l c. true) (none_rel locals texts cells keys params none)
  layer (open'.For ln t x ys (Some e)) = for_rel locals texts cells keys params none ln t x
      (related_of Base stated (stmt_uses locals) legal ys)
      (code_by_clause e.0).block (uses_by_clause locals e.0) (legal_by_clause e.0) e.1
  layer (open'.Try t ys None None) = without t ys (block []) none_used (λ l c. true)
      (none_rel locals texts cells keys params none) (has_clause (ls ys) None)
      (λ e h. refl)
  layer (open'.Try t ys (Some e) None) = without t ys (code_by_clause e.0).block (uses_by_clause locals e.0)
      (legal_by_clause e.0) e.1 (has_clause (ls ys) (Some (legal_by_clause e.0)))
      (clause_stands code_by_handler legal_by_handler (map (λ y. y.0) ys) (legal_by_clause e.0)
      (uses_by_clause locals e.0).bodies)
  layer (open'.Try t ys None (Some d)) = with_finally t ys (block []) none_used (λ l c. true)
      (none_rel locals texts cells keys params none)
      (has_clause (ls ys) None) (λ e h. refl) d
  layer (open'.Try t ys (Some e) (Some d)) = with_finally t ys (code_by_clause e.0).block (uses_by_clause locals e.0)
      (legal_by_clause e.0) e.1 (has_clause (ls ys) (Some (legal_by_clause e.0)))
      (clause_stands code_by_handler legal_by_handler (map (λ y. y.0) ys) (legal_by_clause e.0)
      (uses_by_clause locals e.0).bodies) d
  layer (open'.Def ln x ps ys) = def_rel ln x ps (related_of Base stated (stmt_uses locals) legal ys)
  layer (open'.Class ln x e ys) = class_rel ln x e (related_of Base stated (stmt_uses locals) legal ys)

  pub stmts_rel : (ss : List Stmt) → Related Base (all_stated ss) (map (stmt_uses locals) ss) (map legal ss)
  stmts_rel = every_stmts locals Base ArmBase HandlerBase layer (λ ss vs gs rs.
      block_rel locals texts cells keys params none rs)
      (λ ln t ss vs gs rs. arm_rel locals texts cells keys params none ln t rs) (λ ln e t ss vs gs rs.
      handler_rel locals texts cells keys params none ln e t rs)
