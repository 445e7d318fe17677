-- The code of each statement of a legal module whose uses have numbers leads from a shape to itself, and so does that
-- of each body inside it: lists of statements, `if`, `while` and `for`.
use Rattle.std.proofs.Common.{◌≡◌, ◌&&◌, ℕ, ◌+◌, List, [], ◌∷◌, ◌++◌, Option, Some, None, Bool, true, refl, arith, length, length-append}
use Rattle.std.proofs.lemmas.Bool.{and_parts}
use Rattle.py_code.specs.Effects.{Limits}
use Rattle.py_tree.specs.declared.expr.Expr.{Expr}
use Rattle.py_templates.specs.Template.{Piece, row}
use Rattle.py_templates.specs.Table.{Around, InWhile, InFor, InClause, arm, all_arms, while, for}
use Rattle.py_templates.specs.Names.{Known}
use Rattle.py_templates.specs.Expressions.{value, stored}
use Rattle.py_templates.specs.Uses.{Use, Inside, Uses, quiet, in_turn, none_used, all_in_turn, read, target, read_some, target_some}
use Rattle.py_templates.specs.Statements.{Body, Stated, Armed, Handled, still, block, count, pieces, inners, armed, armed_count, armed_inner, handled, handled_count, handled_inner, clause}
use Rattle.py_templates.proofs.ExprInduct.{every_front, every_back}
use Rattle.compiler_laws.proofs.Sane.{sane, sane_some}
use Rattle.compiler_laws.proofs.Legal.{Legal, always, both, all_legal, is_target_of}
use Rattle.compiler_laws.proofs.Legal as lg
use Rattle.compiler_laws.proofs.Values.{Each, Value}
use Rattle.compiler_laws.proofs.Surrounds.{Does, block_does, in_loop, in_clause, Clause}
use Rattle.compiler_laws.proofs.Constructs.{Arm, arm_is, all_arms_does, while_does, for_does, clause_bare_is, clause_test_is, clause_target_is}
use Rattle.compiler_laws.proofs.EachFrom.{from_front, from_back, from_join}
use Rattle.compiler_laws.proofs.World.{known, inside, lim, Covers, Wide, HasNone, Slotted, Standing, BodiesOk, IsAt, DoesIn}
use Rattle.compiler_laws.proofs.FoldInduct.{Related, Nil, Cons}
use Rattle.compiler_laws.proofs.UsesInTurn.{use_back, zero_back}
use Rattle.compiler_laws.proofs.StmtSimple.{value_here, store_here}

module _ (locals : ℕ → List (List ℕ)) (texts cells : List (List ℕ)) (keys : ℕ → List (List (List ℕ))) (params : List ℕ)
    (none : HasNone locals texts cells keys params) where
  abbrev limits : ℕ → ℕ → ℕ → Limits
  limits = lim locals texts cells keys params

  abbrev knows : ℕ → Bool → Known
  knows = known locals texts cells keys params

  abbrev within : ℕ → Bool → Inside
  within = inside locals texts cells keys params

  abbrev Numbered : Use → Type 0
  Numbered = Covers locals texts cells keys params

  abbrev AllNumbered : List Use → Type 0
  AllNumbered us = Wide locals texts cells keys params us

  abbrev Stand : ℕ → List Body → Type 0
  Stand = Standing locals texts cells keys params

  abbrev AllDo : ℕ → List Body → Type 0
  AllDo = BodiesOk locals texts cells keys params

  abbrev HasSlots : ℕ → Bool → ℕ → Type 0
  HasSlots = Slotted locals texts cells keys params

  stands_front : (f : ℕ) (a c : List Body) → Stand f (a ++ c) → Stand f a
  stands_front = from_front (IsAt locals texts cells keys params)

  stands_back : (f m : ℕ) (a c : List Body) → length a ≡ m → Stand f (a ++ c) → Stand (f + m) c
  stands_back = from_back (IsAt locals texts cells keys params)

  ok_join : (f m : ℕ) (a c : List Body) → length a ≡ m → AllDo f a → AllDo (f + m) c → AllDo f (a ++ c)
  ok_join = from_join (DoesIn locals texts cells keys params)

  -- a statement, with what it uses and whether it is legal
  pub record Rel (s : Stated) (v : Uses) (g : Legal) : Type 0 where
    pub count : (l c : Bool) → g l c ≡ true → s.bodies ≡ v.bodies
    pub long : (f : ℕ) → length (s.inner f) ≡ s.bodies
    pub good : (j : ℕ) (z : Bool) (sl p : ℕ) → HasSlots j z sl → (f : ℕ) (c : List Around) →
        g (in_loop (limits j sl p) c) (in_clause (limits j sl p) c) ≡ true → AllNumbered (v.uses (within j z) f) →
        Stand f (s.inner f) →
        Does (limits j sl p) c (s.code (knows j z) c f)
    pub inner : (l c : Bool) (j : ℕ) (z : Bool) (f : ℕ) → g l c ≡ true → AllNumbered (v.uses (within j z) f) →
        Stand f (s.inner f) →
        AllDo f (s.inner f)

  pub record ArmRel (a : Armed) (v : Uses) (g : Legal) : Type 0 where
    pub count : (l c : Bool) → g l c ≡ true → a.block.bodies ≡ v.bodies
    pub long : (f : ℕ) → length (a.block.inner f) ≡ a.block.bodies
    pub good : (j : ℕ) (z : Bool) (sl p : ℕ) → HasSlots j z sl → (f : ℕ) (c : List Around) →
        g (in_loop (limits j sl p) c) (in_clause (limits j sl p) c) ≡ true → AllNumbered (v.uses (within j z) f) →
        Stand f (a.block.inner f) →
        Value (limits j sl p) (value (knows j z) a.line a.test) × Does (limits j sl p) c (a.block.code (knows j z) c f)
    pub inner : (l c : Bool) (j : ℕ) (z : Bool) (f : ℕ) → g l c ≡ true → AllNumbered (v.uses (within j z) f) →
        Stand f (a.block.inner f)
        → AllDo f (a.block.inner f)

  pub record HandlerRel (h : Handled) (v : Uses) (g : Legal) : Type 0 where
    pub count : (l c : Bool) → g l c ≡ true → h.block.bodies ≡ v.bodies
    pub long : (f : ℕ) → length (h.block.inner f) ≡ h.block.bodies
    pub good : (j : ℕ) (z : Bool) (sl p : ℕ) → HasSlots j z sl → (f : ℕ) (c : List Around) →
        g (in_loop (limits j sl p) c) true ≡ true → AllNumbered (v.uses (within j z) f) → Stand f (h.block.inner f) →
        Clause (limits j sl p) c (clause (knows j z) h.line h.test h.target (h.block.code (knows j z) (InClause ∷ c) f))
    pub inner : (l c : Bool) (j : ℕ) (z : Bool) (f : ℕ) → g l c ≡ true → AllNumbered (v.uses (within j z) f) →
        Stand f (h.block.inner f)
        → AllDo f (h.block.inner f)

  -- without bodies
  pub still_rel : (g : Known → List Around → Piece) (q : Inside → List Use) (t : Legal) →
      ((j : ℕ) (z : Bool) (sl p : ℕ) → HasSlots j z sl → (c : List Around) →
      t (in_loop (limits j sl p) c) (in_clause (limits j sl p) c) ≡ true → AllNumbered (q (within j z)) →
      Does (limits j sl p) c (g (knows j z) c)) →
      Rel (still g) (quiet q) t
  still_rel g q t d = record {
    count = λ l c h. refl;
    long = λ f. refl;
    good = λ j z sl p s f c h w st.
        d j z sl p s c h w;
    inner = λ l c j z f h w st. tt;
  }

  pub none_rel : Rel (block []) none_used (λ l c. true)
  none_rel = record {
    count = λ l c h. refl;
    long = λ f. refl;
    good = λ j z sl p s f c h w st.
        block_does (limits j sl p) c [] tt;
    inner = λ l c j z f h w st. tt;
  }

  -- lists of statements, given with their relations
  pub rels_count : {ss : List Stated} {vs : List Uses} {gs : List Legal} → Related Rel ss vs gs → (l c : Bool) →
      all_legal gs l c ≡ true → count ss ≡ (all_in_turn vs).bodies
  rels_count Nil l c h = refl
  rels_count (Cons {g = g} {gs = gs} r rs) l c h = let q = and_parts (g l c) (all_legal gs l c) h in let a =
      r.count l c q.0 in let b = rels_count rs l c q.1 in omega (arith, a, b)

  pub rels_long : {ss : List Stated} {vs : List Uses} {gs : List Legal} → Related Rel ss vs gs → (f : ℕ) →
      length (inners ss f) ≡ count ss
  rels_long Nil f = refl
  rels_long (Cons {s = s} {ss = ss} r rs) f = let a = r.long f in let b = rels_long rs (f + s.bodies) in
      omega (arith, a, b, length-append (s.inner f) (inners ss (f + s.bodies)))

  pub rels_good : {ss : List Stated} {vs : List Uses} {gs : List Legal} → Related Rel ss vs gs →
      (j : ℕ) (z : Bool) (sl p : ℕ) → HasSlots j z sl → (f : ℕ) (c : List Around) →
      all_legal gs (in_loop (limits j sl p) c) (in_clause (limits j sl p) c) ≡ true →
      AllNumbered ((all_in_turn vs).uses (within j z) f) →
      Stand f (inners ss f) → Each (Does (limits j sl p) c) (pieces ss (knows j z) c f)
  rels_good Nil j z sl p s f c h w st = tt
  rels_good (Cons {s = x} {v = v} {g = g} {ss = ss} {vs = vs} {gs = gs} r rs) j z sl p s f c h w st =
      let l = in_loop (limits j sl p) c in
      let d = in_clause (limits j sl p) c in
      let q = and_parts (g l d) (all_legal gs l d) h in (
        r.good j z sl p s f c q.0 (every_front Numbered (v.uses (within j z) f)
            ((all_in_turn vs).uses (within j z) (f + v.bodies)) w)
            (stands_front f (x.inner f) (inners ss (f + x.bodies)) st),
        rels_good rs j z sl p s (f + x.bodies) c q.1
            (use_back Numbered (all_in_turn vs) (within j z) f x.bodies v.bodies (v.uses (within j z) f)
            (r.count l d q.0) w)
            (stands_back f x.bodies (x.inner f) (inners ss (f + x.bodies)) (r.long f) st),
      )

  pub rels_inner : {ss : List Stated} {vs : List Uses} {gs : List Legal} → Related Rel ss vs gs →
      (l c : Bool) (j : ℕ) (z : Bool) (f : ℕ) → all_legal gs l c ≡ true →
      AllNumbered ((all_in_turn vs).uses (within j z) f) →
      Stand f (inners ss f) → AllDo f (inners ss f)
  rels_inner Nil l c j z f h w st = tt
  rels_inner (Cons {s = x} {v = v} {g = g} {ss = ss} {vs = vs} {gs = gs} r rs) l c j z f h w st =
      let q = and_parts (g l c) (all_legal gs l c) h in
      ok_join f x.bodies (x.inner f) (inners ss (f + x.bodies)) (r.long f)
      (r.inner l c j z f q.0 (every_front Numbered (v.uses (within j z) f)
      ((all_in_turn vs).uses (within j z) (f + v.bodies)) w)
      (stands_front f (x.inner f) (inners ss (f + x.bodies)) st))
      (rels_inner rs l c j z (f + x.bodies) q.1
      (use_back Numbered (all_in_turn vs) (within j z) f x.bodies v.bodies (v.uses (within j z) f) (r.count l c q.0) w)
      (stands_back f x.bodies (x.inner f) (inners ss (f + x.bodies)) (r.long f) st))

  pub block_rel : {ss : List Stated} {vs : List Uses} {gs : List Legal} → Related Rel ss vs gs →
      Rel (block ss) (all_in_turn vs) (all_legal gs)
  block_rel {ss = ss} rs = record {
    count = rels_count rs;
    long = rels_long rs;
    good = λ j z sl p s f c h w st.
        block_does (limits j sl p) c (pieces ss (knows j z) c f) (rels_good rs j z sl p s f c h w st);
    inner = rels_inner rs;
  }

  -- arms
  pub arms_count : {as' : List Armed} {vs : List Uses} {gs : List Legal} → Related ArmRel as' vs gs → (l c : Bool) →
      all_legal gs l c ≡ true → armed_count as' ≡ (all_in_turn vs).bodies
  arms_count Nil l c h = refl
  arms_count (Cons {g = g} {gs = gs} r rs) l c h = let q = and_parts (g l c) (all_legal gs l c) h in let a =
      r.count l c q.0 in let b = arms_count rs l c q.1 in omega (arith, a, b)

  pub arms_long : {as' : List Armed} {vs : List Uses} {gs : List Legal} → Related ArmRel as' vs gs → (f : ℕ) →
      length (armed_inner as' f) ≡ armed_count as'
  arms_long Nil f = refl
  arms_long (Cons {s = x} {ss = as'} r rs) f = let a = r.long f in let b = arms_long rs (f + x.block.bodies) in
      omega (arith, a, b, length-append (x.block.inner f) (armed_inner as' (f + x.block.bodies)))

  arm_line : (k : Limits) (ln m : ℕ) (c : List Around) (b : Piece) → Arm k ln c b → Arm k m c b
  arm_line k ln m c b r = record { typed = r.typed }

  arms_good : {as' : List Armed} {vs : List Uses} {gs : List Legal} → Related ArmRel as' vs gs →
      (j : ℕ) (z : Bool) (sl p : ℕ) → HasSlots j z sl → (f : ℕ) (c : List Around) →
      all_legal gs (in_loop (limits j sl p) c) (in_clause (limits j sl p) c) ≡ true →
      AllNumbered ((all_in_turn vs).uses (within j z) f) →
      Stand f (armed_inner as' f) → Each (Arm (limits j sl p) 0 c) (armed as' (knows j z) c f)
  arms_good Nil j z sl p s f c h w st = tt
  arms_good (Cons {s = x} {v = v} {g = g} {ss = as'} {vs = vs} {gs = gs} r rs) j z sl p s f c h w st =
      let l = in_loop (limits j sl p) c in
      let d = in_clause (limits j sl p) c in
      let q = and_parts (g l d) (all_legal gs l d) h in
      let t = r.good j z sl p s f c q.0 (every_front Numbered (v.uses (within j z) f)
      ((all_in_turn vs).uses (within j z) (f + v.bodies)) w)
      (stands_front f (x.block.inner f) (armed_inner as' (f + x.block.bodies)) st) in (
        arm_line (limits j sl p) x.line 0 c (arm x.line (value (knows j z) x.line x.test)
            (x.block.code (knows j z) c f))
            (arm_is (limits j sl p) x.line c (value (knows j z) x.line x.test) (x.block.code (knows j z) c f) t.0 t.1),
        arms_good rs j z sl p s (f + x.block.bodies) c q.1
            (use_back Numbered (all_in_turn vs) (within j z) f x.block.bodies v.bodies (v.uses (within j z) f)
            (r.count l d q.0) w)
            (stands_back f x.block.bodies (x.block.inner f) (armed_inner as' (f + x.block.bodies)) (r.long f) st),
      )

  arms_inner : {as' : List Armed} {vs : List Uses} {gs : List Legal} → Related ArmRel as' vs gs →
      (l c : Bool) (j : ℕ) (z : Bool) (f : ℕ) → all_legal gs l c ≡ true →
      AllNumbered ((all_in_turn vs).uses (within j z) f) →
      Stand f (armed_inner as' f) → AllDo f (armed_inner as' f)
  arms_inner Nil l c j z f h w st = tt
  arms_inner (Cons {s = x} {v = v} {g = g} {ss = as'} {vs = vs} {gs = gs} r rs) l c j z f h w st =
      let q = and_parts (g l c) (all_legal gs l c) h in
      ok_join f x.block.bodies (x.block.inner f) (armed_inner as' (f + x.block.bodies)) (r.long f)
      (r.inner l c j z f q.0 (every_front Numbered (v.uses (within j z) f)
      ((all_in_turn vs).uses (within j z) (f + v.bodies)) w)
      (stands_front f (x.block.inner f) (armed_inner as' (f + x.block.bodies)) st))
      (arms_inner rs l c j z (f + x.block.bodies) q.1
      (use_back Numbered (all_in_turn vs) (within j z) f x.block.bodies v.bodies (v.uses (within j z) f)
      (r.count l c q.0) w)
      (stands_back f x.block.bodies (x.block.inner f) (armed_inner as' (f + x.block.bodies)) (r.long f) st))

  -- except clauses
  pub handlers_count : {as' : List Handled} {vs : List Uses} {gs : List Legal} → Related HandlerRel as' vs gs →
      (l c : Bool) → all_legal gs l c ≡ true → handled_count as' ≡ (all_in_turn vs).bodies
  handlers_count Nil l c h = refl
  handlers_count (Cons {g = g} {gs = gs} r rs) l c h = let q = and_parts (g l c) (all_legal gs l c) h in let a =
      r.count l c q.0 in let b = handlers_count rs l c q.1 in omega (arith, a, b)

  pub handlers_long : {as' : List Handled} {vs : List Uses} {gs : List Legal} → Related HandlerRel as' vs gs →
      (f : ℕ) → length (handled_inner as' f) ≡ handled_count as'
  handlers_long Nil f = refl
  handlers_long (Cons {s = x} {ss = as'} r rs) f = let a = r.long f in let b = handlers_long rs (f + x.block.bodies) in
      omega (arith, a, b, length-append (x.block.inner f) (handled_inner as' (f + x.block.bodies)))

  pub handlers_good : {as' : List Handled} {vs : List Uses} {gs : List Legal} → Related HandlerRel as' vs gs →
      (j : ℕ) (z : Bool) (sl p : ℕ) → HasSlots j z sl → (f : ℕ) (c : List Around) →
      all_legal gs (in_loop (limits j sl p) c) true ≡ true → AllNumbered ((all_in_turn vs).uses (within j z) f) →
      Stand f (handled_inner as' f) → Each (Clause (limits j sl p) c) (handled as' (knows j z) c f)
  handlers_good Nil j z sl p s f c h w st = tt
  handlers_good (Cons {s = x} {v = v} {g = g} {ss = as'} {vs = vs} {gs = gs} r rs) j z sl p s f c h w st =
      let l = in_loop (limits j sl p) c in
      let q = and_parts (g l true) (all_legal gs l true) h in (
        r.good j z sl p s f c q.0 (every_front Numbered (v.uses (within j z) f)
            ((all_in_turn vs).uses (within j z) (f + v.bodies)) w)
            (stands_front f (x.block.inner f) (handled_inner as' (f + x.block.bodies)) st),
        handlers_good rs j z sl p s (f + x.block.bodies) c q.1
            (use_back Numbered (all_in_turn vs) (within j z) f x.block.bodies v.bodies (v.uses (within j z) f)
            (r.count l true q.0) w)
            (stands_back f x.block.bodies (x.block.inner f) (handled_inner as' (f + x.block.bodies)) (r.long f) st),
      )

  pub handlers_inner : {as' : List Handled} {vs : List Uses} {gs : List Legal} → Related HandlerRel as' vs gs →
      (l c : Bool) (j : ℕ) (z : Bool) (f : ℕ) → all_legal gs l c ≡ true →
      AllNumbered ((all_in_turn vs).uses (within j z) f) →
      Stand f (handled_inner as' f) → AllDo f (handled_inner as' f)
  handlers_inner Nil l c j z f h w st = tt
  handlers_inner (Cons {s = x} {v = v} {g = g} {ss = as'} {vs = vs} {gs = gs} r rs) l c j z f h w st =
      let q = and_parts (g l c) (all_legal gs l c) h in
      ok_join f x.block.bodies (x.block.inner f) (handled_inner as' (f + x.block.bodies)) (r.long f)
      (r.inner l c j z f q.0 (every_front Numbered (v.uses (within j z) f)
      ((all_in_turn vs).uses (within j z) (f + v.bodies)) w)
      (stands_front f (x.block.inner f) (handled_inner as' (f + x.block.bodies)) st))
      (handlers_inner rs l c j z (f + x.block.bodies) q.1
      (use_back Numbered (all_in_turn vs) (within j z) f x.block.bodies v.bodies (v.uses (within j z) f)
      (r.count l c q.0) w)
      (stands_back f x.block.bodies (x.block.inner f) (handled_inner as' (f + x.block.bodies)) (r.long f) st))

  -- the parts of compound statements
  pub arm_rel : (ln : ℕ) (t : Expr) {ss : List Stated} {vs : List Uses} {gs : List Legal} → Related Rel ss vs gs →
      ArmRel (record { line = ln; test = t; block = block ss }) (in_turn (quiet (λ b. read b t)) (all_in_turn vs))
      (both (always (sane t)) (all_legal gs))
  arm_rel ln t {ss = ss} {vs = vs} {gs = gs} rs = record {
    count = λ l c h. let a = rels_count rs l c (and_parts (sane t) (all_legal gs l c) h).1 in omega (arith, a);
    long = rels_long rs;
    good = λ j z sl p s f c h w st.
        let q = and_parts (sane t) (all_legal gs (in_loop (limits j sl p) c) (in_clause (limits j sl p) c)) h in (
          value_here locals texts cells keys params none j z sl p s ln t q.0
              (every_front Numbered (read (within j z) t) ((all_in_turn vs).uses (within j z) (f + 0)) w),
          block_does (limits j sl p) c (pieces ss (knows j z) c f)
              (rels_good rs j z sl p s f c q.1 (zero_back Numbered (all_in_turn vs) (within j z) f
              (read (within j z) t) w) st),
        );
    inner = λ l c j z f h w st. rels_inner rs l c j z f (and_parts (sane t) (all_legal gs l c) h).1
        (zero_back Numbered (all_in_turn vs) (within j z) f (read (within j z) t) w) st;
  }

  clause_ok : (j : ℕ) (z : Bool) (sl p : ℕ) → HasSlots j z sl →
      (c : List Around) (ln : ℕ) (e t : Option Expr) (b : Piece) →
      sane_some e ≡ true → lg.target_some t ≡ true → AllNumbered (read_some (within j z) e) →
      AllNumbered (target_some (within j z) t) →
      Does (limits j sl p) (InClause ∷ c) b → Clause (limits j sl p) c (clause (knows j z) ln e t b)
  clause_ok j z sl p s c ln None t b he ht we wt d = clause_bare_is (limits j sl p) ln c b d
  clause_ok j z sl p s c ln (Some e) None b he ht we wt d = clause_test_is (limits j sl p) ln c
      (value (knows j z) ln e) b
      (value_here locals texts cells keys params none j z sl p s ln e he we) d
  clause_ok j z sl p s c ln (Some e) (Some t) b he ht we wt d = clause_target_is (limits j sl p) ln c
      (value (knows j z) ln e)
      (stored (knows j z) ln t) b (value_here locals texts cells keys params none j z sl p s ln e he we)
      (store_here locals texts cells keys params none j z sl p s ln t ht wt) d

  pub handler_rel : (ln : ℕ) (e t : Option Expr) {ss : List Stated} {vs : List Uses} {gs : List Legal} →
      Related Rel ss vs gs → HandlerRel (record { line = ln; test = e; target = t; block = block ss })
      (in_turn (quiet (λ b. read_some b e ++ target_some b t)) (all_in_turn vs))
      (both (always (sane_some e && lg.target_some t)) (all_legal gs))
  handler_rel ln e t {ss = ss} {vs = vs} {gs = gs} rs = record {
    count = λ l c h. let a = rels_count rs l c (and_parts (sane_some e && lg.target_some t) (all_legal gs l c) h).1 in
        omega (arith, a);
    long = rels_long rs;
    good = λ j z sl p s f c h w st.
        let k = within j z in
        let q = and_parts (sane_some e && lg.target_some t) (all_legal gs (in_loop (limits j sl p) c) true) h in
        let r = and_parts (sane_some e) (lg.target_some t) q.0 in
        let u = every_front Numbered (read_some k e ++ target_some k t) ((all_in_turn vs).uses k (f + 0)) w in
        clause_ok j z sl p s c ln e t (row (pieces ss (knows j z) (InClause ∷ c) f)) r.0 r.1
        (every_front Numbered (read_some k e) (target_some k t) u)
        (every_back Numbered (read_some k e) (target_some k t) u)
        (block_does (limits j sl p) (InClause ∷ c) (pieces ss (knows j z) (InClause ∷ c) f)
        (rels_good rs j z sl p s f (InClause ∷ c) q.1
        (zero_back Numbered (all_in_turn vs) k f (read_some k e ++ target_some k t) w) st));
    inner = λ l c j z f h w st. rels_inner rs l c j z f
        (and_parts (sane_some e && lg.target_some t) (all_legal gs l c) h).1
        (zero_back Numbered (all_in_turn vs) (within j z) f (read_some (within j z) e
        ++ target_some (within j z) t) w) st;
  }

  -- if
  pub if_rel : {as' : List Armed} {vs : List Uses} {gs : List Legal} → Related ArmRel as' vs gs →
      (e : Stated) (ve : Uses) (ge : Legal) → Rel e ve ge →
      Rel (record {
        bodies = armed_count as' + e.bodies;
        code = λ n c f.
            all_arms 0 (armed as' n c f) (e.code n c (f + armed_count as'));
        inner = λ f.
            armed_inner as' f ++ e.inner (f + armed_count as');
      }) (in_turn (all_in_turn vs) ve) (both (all_legal gs) ge)
  if_rel {as' = as'} {vs = vs} {gs = gs} rs e ve ge re = record {
    count = λ l c h. let q = and_parts (all_legal gs l c) (ge l c) h in let a = arms_count rs l c q.0 in let b =
        re.count l c q.1 in omega (arith, a, b);
    long = λ f. let a = arms_long rs f in let b = re.long (f + armed_count as') in
        omega (arith, a, b, length-append (armed_inner as' f) (e.inner (f + armed_count as')));
    good = λ j z sl p s f c h w st.
        let k = within j z in
        let q = and_parts (all_legal gs (in_loop (limits j sl p) c) (in_clause (limits j sl p) c))
        (ge (in_loop (limits j sl p) c) (in_clause (limits j sl p) c)) h in
        let m = arms_count rs (in_loop (limits j sl p) c) (in_clause (limits j sl p) c) q.0 in
        all_arms_does (limits j sl p) 0 c (armed as' (knows j z) c f) (e.code (knows j z) c (f + armed_count as'))
        (arms_good rs j z sl p s f c q.0
        (every_front Numbered ((all_in_turn vs).uses k f) (ve.uses k (f + (all_in_turn vs).bodies)) w)
        (stands_front f (armed_inner as' f) (e.inner (f + armed_count as')) st))
        (re.good j z sl p s (f + armed_count as') c q.1
        (use_back Numbered ve k f (armed_count as') (all_in_turn vs).bodies ((all_in_turn vs).uses k f) m w)
        (stands_back f (armed_count as') (armed_inner as' f) (e.inner (f + armed_count as')) (arms_long rs f) st));
    inner = λ l c j z f h w st.
        let k = within j z in
        let q = and_parts (all_legal gs l c) (ge l c) h in
        let m = arms_count rs l c q.0 in
        ok_join f (armed_count as') (armed_inner as' f) (e.inner (f + armed_count as')) (arms_long rs f)
        (arms_inner rs l c j z f q.0 (every_front Numbered ((all_in_turn vs).uses k f)
        (ve.uses k (f + (all_in_turn vs).bodies)) w)
        (stands_front f (armed_inner as' f) (e.inner (f + armed_count as')) st))
        (re.inner l c j z (f + armed_count as') q.1
        (use_back Numbered ve k f (armed_count as') (all_in_turn vs).bodies ((all_in_turn vs).uses k f) m w)
        (stands_back f (armed_count as') (armed_inner as' f) (e.inner (f + armed_count as')) (arms_long rs f) st));
  }

  -- while
  pub while_rel : (a : Armed) (va : Uses) (ga : Legal) → ArmRel a va ga → (e : Stated) (ve : Uses) (ge : Legal) →
      Rel e ve ge → Rel (record {
        bodies = a.block.bodies + e.bodies;
        code = λ n c f.
            while a.line (value n a.line a.test) (a.block.code n (InWhile ∷ c) f) (e.code n c (f + a.block.bodies));
        inner =
            λ f. a.block.inner f ++ e.inner (f + a.block.bodies);
      }) (in_turn va ve) (both (λ l c. ga true c) ge)
  while_rel a va ga ra e ve ge re = record {
    count = λ l c h. let q = and_parts (ga true c) (ge l c) h in let x = ra.count true c q.0 in let y =
        re.count l c q.1 in omega (arith, x, y);
    long = λ f. let x = ra.long f in let y = re.long (f + a.block.bodies) in
        omega (arith, x, y, length-append (a.block.inner f) (e.inner (f + a.block.bodies)));
    good = λ j z sl p s f c h w st.
        let k = within j z in
        let q = and_parts (ga true (in_clause (limits j sl p) c))
        (ge (in_loop (limits j sl p) c) (in_clause (limits j sl p) c)) h in
        let m = ra.count true (in_clause (limits j sl p) c) q.0 in
        let t = ra.good j z sl p s f (InWhile ∷ c) q.0
        (every_front Numbered (va.uses k f) (ve.uses k (f + va.bodies)) w)
        (stands_front f (a.block.inner f) (e.inner (f + a.block.bodies)) st) in
        while_does (limits j sl p) a.line c (value (knows j z) a.line a.test) (a.block.code (knows j z) (InWhile ∷ c) f)
        (e.code (knows j z) c (f + a.block.bodies)) t.0 t.1
        (re.good j z sl p s (f + a.block.bodies) c q.1 (use_back Numbered ve k f a.block.bodies va.bodies
        (va.uses k f) m w)
        (stands_back f a.block.bodies (a.block.inner f) (e.inner (f + a.block.bodies)) (ra.long f) st));
    inner = λ l c j z f h w st.
        let k = within j z in
        let q = and_parts (ga true c) (ge l c) h in
        let m = ra.count true c q.0 in
        ok_join f a.block.bodies (a.block.inner f) (e.inner (f + a.block.bodies)) (ra.long f)
        (ra.inner true c j z f q.0 (every_front Numbered (va.uses k f) (ve.uses k (f + va.bodies)) w)
        (stands_front f (a.block.inner f) (e.inner (f + a.block.bodies)) st))
        (re.inner l c j z (f + a.block.bodies) q.1 (use_back Numbered ve k f a.block.bodies va.bodies (va.uses k f) m w)
        (stands_back f a.block.bodies (a.block.inner f) (e.inner (f + a.block.bodies)) (ra.long f) st));
  }

  -- for
  pub for_rel : (ln : ℕ) (t x : Expr) {ss : List Stated} {vs : List Uses} {gs : List Legal} → Related Rel ss vs gs →
      (e : Stated) (ve : Uses) (ge : Legal) → Rel e ve ge →
      Rel (record {
        bodies = count ss + e.bodies;
        code = λ n c f.
            for ln (stored n ln t) (value n ln x) ((block ss).code n (InFor ∷ c) f) (e.code n c (f + count ss));
        inner = λ f.
            inners ss f ++ e.inner (f + count ss);
      })
      (in_turn (quiet (λ b. target b t ++ read b x)) (in_turn (all_in_turn vs) ve))
      (both (always (is_target_of t && sane x)) (both (λ l c. all_legal gs true c) ge))
  for_rel ln t x {ss = ss} {vs = vs} {gs = gs} rs e ve ge re = record {
    count = λ l c h. let q = parts l c h in let a = rels_count rs true c q.1.0 in let b = re.count l c q.1.1 in
        omega (arith, a, b);
    long = λ f. let a = rels_long rs f in let b = re.long (f + count ss) in
        omega (arith, a, b, length-append (inners ss f) (e.inner (f + count ss)));
    good = λ j z sl p s f c h w st.
        let k = within j z in
        let q = parts (in_loop (limits j sl p) c) (in_clause (limits j sl p) c) h in
        let m = rels_count rs true (in_clause (limits j sl p) c) q.1.0 in
        let hd = every_front Numbered (target k t ++ read k x) ((in_turn (all_in_turn vs) ve).uses k (f + 0)) w in
        let tl = zero_back Numbered (in_turn (all_in_turn vs) ve) k f (target k t ++ read k x) w in
        for_does (limits j sl p) ln c (stored (knows j z) ln t) (value (knows j z) ln x)
        ((block ss).code (knows j z) (InFor ∷ c) f)
        (e.code (knows j z) c (f + count ss))
        (store_here locals texts cells keys params none j z sl p s ln t q.0.0
        (every_front Numbered (target k t) (read k x) hd))
        (value_here locals texts cells keys params none j z sl p s ln x q.0.1
        (every_back Numbered (target k t) (read k x) hd))
        (block_does (limits j sl p) (InFor ∷ c) (pieces ss (knows j z) (InFor ∷ c) f)
        (rels_good rs j z sl p s f (InFor ∷ c) q.1.0
        (every_front Numbered ((all_in_turn vs).uses k f) (ve.uses k (f + (all_in_turn vs).bodies)) tl)
        (stands_front f (inners ss f) (e.inner (f + count ss)) st)))
        (re.good j z sl p s (f + count ss) c q.1.1
        (use_back Numbered ve k f (count ss) (all_in_turn vs).bodies ((all_in_turn vs).uses k f) m tl)
        (stands_back f (count ss) (inners ss f) (e.inner (f + count ss)) (rels_long rs f) st));
    inner = λ l c j z f h w st.
        let k = within j z in
        let q = parts l c h in
        let m = rels_count rs true c q.1.0 in
        let tl = zero_back Numbered (in_turn (all_in_turn vs) ve) k f (target k t ++ read k x) w in
        ok_join f (count ss) (inners ss f) (e.inner (f + count ss)) (rels_long rs f)
        (rels_inner rs true c j z f q.1.0
        (every_front Numbered ((all_in_turn vs).uses k f) (ve.uses k (f + (all_in_turn vs).bodies)) tl)
        (stands_front f (inners ss f) (e.inner (f + count ss)) st))
        (re.inner l c j z (f + count ss) q.1.1
        (use_back Numbered ve k f (count ss) (all_in_turn vs).bodies ((all_in_turn vs).uses k f) m tl)
        (stands_back f (count ss) (inners ss f) (e.inner (f + count ss)) (rels_long rs f) st));
  }
    where
      parts : (l c : Bool) → both (always (is_target_of t && sane x)) (both (λ l c. all_legal gs true c) ge) l c ≡ true
          → ((is_target_of t ≡ true) × (sane x ≡ true)) × ((all_legal gs true c ≡ true) × (ge l c ≡ true))
      parts l c h =
          let q = and_parts (is_target_of t && sane x) (all_legal gs true c && ge l c) h in
          (and_parts (is_target_of t) (sane x) q.0, and_parts (all_legal gs true c) (ge l c) q.1)
