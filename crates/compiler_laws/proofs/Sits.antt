-- Each class body has its CLASS_BODY among the instructions of the bodies round it.
use Rattle.std.proofs.Common.{◌≡◌, ◌∙◌, ◌==◌, ℕ, ◌+◌, List, [], ◌∷◌, ◌++◌, Option, Some, None, Bool, true, false, refl, sym, subst, arith, length, map, drop, length-append}
use Rattle.std.specs.List.{list_any}
use Rattle.std.proofs.lemmas.Bool.{or_left, or_right, eq-eqb}
use Rattle.std.proofs.lemmas.List.Folds.{list_any-append}
use Rattle.py_code.specs.declared.instr.Instr.{Instr}
use Rattle.py_code.specs.declared.instr.Instr.TheVariants.{ClassBody, Iter, Next, Jump, JumpFalse, Try, PopTry, StoreLocal, LoadLocal, Raise, ExcMatch}
use Rattle.py_code.specs.Right.{opens_body}
use Rattle.py_tree.specs.declared.expr.Expr.{Expr}
use Rattle.py_tree.specs.declared.stmt.Stmt.{Stmt}
use Rattle.py_tree.specs.declared.stmt.Stmt.TheOpen as open'
use Rattle.py_templates.specs.Template.{Frame, Piece, Part, Op, Hidden, To, Here, Alone, Sub, part_size, part_slots, part_code, code_of, template, row, labels_from, own_slot}
use Rattle.py_templates.specs.Table.{A, B, E, H, M, store, Around, InWhile, InFor, InTry, InClause, InFinally, arm, all_arms, while, for, try_except, try_finally, class, clause_bare, clause_test, clause_target}
use Rattle.py_templates.specs.declared.home.Home.{Home}
use Rattle.py_templates.specs.Expressions.{value, stored}
use Rattle.py_templates.specs.Names.{Known, home}
use Rattle.py_templates.specs.Statements.{Body, Stated, Armed, Claused, Handled, still, block, count, pieces, inners, armed, armed_count, armed_inner, handled, handled_count, handled_inner, clause, tried, finally, inner_body, base, stated, all_stated}
use Rattle.py_templates.specs.Uses.{Uses, stmt_uses}
use Rattle.compiler_laws.proofs.EachFrom.{EachFrom, from_front, from_back, from_join}
use Rattle.compiler_laws.proofs.Legal.{Legal, legal, legal_by_arm, legal_by_handler}
use Rattle.compiler_laws.proofs.FoldInduct.{related_every, related_of, code_by_arm, code_by_clause, code_by_handler, uses_by_arm, uses_by_handler, ClauseWith, LayerWith, IsLayer, every_stmts}
use Rattle.py_templates.proofs.ExprInduct.{Every}

-- a CLASS_BODY of that code is among these
abbrev pub Opens : List Instr → ℕ → Type 0
Opens is g = list_any (opens_body g) is ≡ true

pub opens_front : (a c : List Instr) (g : ℕ) → Opens a g → Opens (a ++ c) g
opens_front a c g h = list_any-append (opens_body g) a c ∙
    or_left (list_any (opens_body g) a) (list_any (opens_body g) c) h

pub opens_back : (a c : List Instr) (g : ℕ) → Opens c g → Opens (a ++ c) g
opens_back a c g h = list_any-append (opens_body g) a c ∙
    or_right (list_any (opens_body g) a) (list_any (opens_body g) c) h

-- the bodies of a body: what it knows, by its number and whether it is a class's
module _ (knows : ℕ → Bool → Known) (all : List Instr) where
  -- the instructions of this piece are among all
  pub record Sits (b : Piece) : Type 0 where
    pub env : List Frame
    pub place : ℕ
    pub slot : ℕ
    pub opens : (g : ℕ) → Opens (b.code env place slot) g → Opens all g

  abbrev pub PartSits : Part → Type 0
  PartSits (Op i) = (g : ℕ) → Opens (i ∷ []) g → Opens all g
  PartSits (Alone b) = Sits b
  PartSits (Sub d b) = Sits b
  PartSits _ = Unit {0}

  one_part : (x : Part) (env : List Frame) (p k : ℕ) → ((g : ℕ) → Opens (part_code env x p k) g → Opens all g) →
      PartSits x
  one_part (Op i) env p k h = h
  one_part (Hidden d j) env p k h = tt
  one_part (To d j l) env p k h = tt
  one_part (Here l) env p k h = tt
  one_part (Alone b) env p k h = record { env = []; place = p; slot = k; opens = h }
  one_part (Sub d b) env p k h = record { env = drop d env; place = p; slot = k; opens = h }

  parts_sit : (xs : List Part) (env : List Frame) (p k : ℕ) → ((g : ℕ) → Opens (code_of env xs p k) g → Opens all g) →
      Every PartSits xs
  parts_sit [] env p k h = tt
  parts_sit (x ∷ xs) env p k h =
      let a = part_code env x p k in
      let c = code_of env xs (p + part_size x) (k + part_slots x) in (
        one_part x env p k (λ g o. h g (opens_front a c g o)),
        parts_sit xs env (p + part_size x) (k + part_slots x)
            (λ g o. h g (opens_back a c g o)),
      )

  -- so are those of its parts
  pub sub_parts : (ln own count : ℕ) (xs : List Part) → Sits (template ln own count xs) → Every PartSits xs
  sub_parts ln own count xs s = parts_sit xs
      (record { labels = labels_from xs s.place count 0; slot = own_slot own s.slot } ∷ s.env) s.place (s.slot + own)
      s.opens

  rows_sit : (ps : List Piece) → Every PartSits (map (Sub 1) ps) → Every Sits ps
  rows_sit [] h = tt
  rows_sit (x ∷ ps) h = (h.0, rows_sit ps h.1)

  row_sits : (ps : List Piece) → Sits (row ps) → Every Sits ps
  row_sits ps s = rows_sit ps (sub_parts 0 0 0 (map (Sub 1) ps) s)

  -- the code of each of these bodies is among all
  abbrev SitsIn : ℕ → Body → Type 0
  SitsIn f y = Sits (y.block (knows f y.is_class))

  abbrev pub BodiesSit : ℕ → List Body → Type 0
  BodiesSit = EachFrom SitsIn

  sits_front : (f : ℕ) (a c : List Body) → BodiesSit f (a ++ c) → BodiesSit f a
  sits_front = from_front SitsIn

  sits_back : (f m : ℕ) (a c : List Body) → length a ≡ m → BodiesSit f (a ++ c) → BodiesSit (f + m) c
  sits_back = from_back SitsIn

  -- each of these that is a class's has its CLASS_BODY
  abbrev OpensIn : ℕ → Body → Type 0
  OpensIn f y = y.is_class ≡ true → Opens all f

  abbrev pub AllOpen : ℕ → List Body → Type 0
  AllOpen = EachFrom OpensIn

  opens_join : (f m : ℕ) (a c : List Body) → length a ≡ m → AllOpen f a → AllOpen (f + m) c → AllOpen f (a ++ c)
  opens_join = from_join OpensIn

  -- a statement
  pub record SitRel (s : Stated) : Type 0 where
    pub long : (f : ℕ) → length (s.inner f) ≡ s.bodies
    pub sits : (j : ℕ) (z : Bool) (c : List Around) (f : ℕ) → Sits (s.code (knows j z) c f) → BodiesSit f (s.inner f) →
        AllOpen f (s.inner f)

  pub record ArmSit (a : Armed) : Type 0 where
    pub block : SitRel a.block

  pub record HandlerSit (h : Handled) : Type 0 where
    pub block : SitRel h.block

  still_sit : (g : Known → List Around → Piece) → SitRel (still g)
  still_sit g = record { long = λ f. refl; sits = λ j z c f s b. tt }

  list_long : (ss : List Stated) → Every SitRel ss → (f : ℕ) → length (inners ss f) ≡ count ss
  list_long [] rs f = refl
  list_long (s ∷ ss) rs f = let a = rs.0.long f in let b = list_long ss rs.1 (f + s.bodies) in
      omega (arith, a, b, length-append (s.inner f) (inners ss (f + s.bodies)))

  list_sits : (ss : List Stated) → Every SitRel ss → (j : ℕ) (z : Bool) (c : List Around) (f : ℕ) →
      Every Sits (pieces ss (knows j z) c f) → BodiesSit f (inners ss f) → AllOpen f (inners ss f)
  list_sits [] rs j z c f p b = tt
  list_sits (s ∷ ss) rs j z c f p b =
      let t = inners ss (f + s.bodies) in
      opens_join f s.bodies (s.inner f) t (rs.0.long f) (rs.0.sits j z c f p.0 (sits_front f (s.inner f) t b))
      (list_sits ss rs.1 j z c (f + s.bodies) p.1 (sits_back f s.bodies (s.inner f) t (rs.0.long f) b))

  block_sit : (ss : List Stated) → Every SitRel ss → SitRel (block ss)
  block_sit ss rs = record {
    long = list_long ss rs;
    sits = λ j z c f s b.
        list_sits ss rs j z c f (row_sits (pieces ss (knows j z) c f) s) b;
  }

  -- two parts in turn
  two : (f m : ℕ) (a c : List Body) → length a ≡ m → (BodiesSit f a → AllOpen f a) →
      (BodiesSit (f + m) c → AllOpen (f + m) c) → BodiesSit f (a ++ c) → AllOpen f (a ++ c)
  two f m a c e x y b = opens_join f m a c e (x (sits_front f a c b)) (y (sits_back f m a c e b))

  -- the parts of the constructs
  arm_sits : (ln : ℕ) (t b : Piece) → Sits (arm ln t b) → Sits b
  arm_sits ln t b s = let q = sub_parts ln 0 1 (Alone t ∷ To 0 JumpFalse M ∷ Sub 2 b ∷ To 1 Jump E ∷ Here M ∷ []) s in
      q.1.1.0

  all_arms_sit : (as' : List Piece) (e : Piece) → Sits (all_arms 0 as' e) → Every Sits as' × Sits e
  all_arms_sit as' e s = let q = sub_parts 0 0 1 (Sub 0 (row as') ∷ Sub 1 e ∷ Here E ∷ []) s in
      (row_sits as' q.0, q.1.0)

  while_sits : (ln : ℕ) (t b e : Piece) → Sits (while ln t b e) → Sits b × Sits e
  while_sits ln t b e s = let q = sub_parts ln 0 3
      (Here A ∷ Alone t ∷ To 0 JumpFalse B ∷ Sub 0 b ∷ To 0 Jump A ∷ Here B ∷ Sub 1 e ∷ Here E ∷ []) s in
      (q.1.1.1.0, q.1.1.1.1.1.1.0)

  for_sits : (ln : ℕ) (t x b e : Piece) → Sits (for ln t x b e) → Sits b × Sits e
  for_sits ln t x b e s = let q = sub_parts ln 0 3
      (Alone x ∷ Op Iter ∷ Here A ∷ To 0 Next B ∷ Alone t ∷ Sub 0 b ∷ To 0 Jump A ∷ Here B ∷ Sub 1 e ∷ Here E ∷ []) s
      in (q.1.1.1.1.1.0, q.1.1.1.1.1.1.1.1.0)

  try_sits : (ln : ℕ) (b : Piece) (hs : List Piece) (e : Piece) → Sits (try_except ln b hs e) →
      Sits b × Every Sits hs × Sits e
  try_sits ln b hs e s = let q = sub_parts ln 1 2
      (To 0 Try H ∷ Sub 0 b ∷ Op PopTry ∷ Sub 1 e ∷ To 0 Jump E ∷ Here H ∷ Hidden 0 StoreLocal ∷ Sub 0 (row hs) ∷
      Hidden 0 LoadLocal ∷ Op Raise ∷ Here E ∷ []) s in (q.1.0, row_sits hs q.1.1.1.1.1.1.1.0, q.1.1.1.0)

  finally_sits : (ln : ℕ) (b d : Piece) → Sits (try_finally ln b d) → Sits b × Sits d
  finally_sits ln b d s = let q = sub_parts ln 1 2
      (To 0 Try H ∷ Sub 0 b ∷ Op PopTry ∷ Sub 1 d ∷ To 0 Jump E ∷ Here H ∷ Hidden 0 StoreLocal ∷ Sub 1 d ∷ Hidden 0
      LoadLocal ∷ Op Raise ∷ Here E ∷ []) s in (q.1.0, q.1.1.1.0)

  bare_sits : (ln : ℕ) (b : Piece) → Sits (clause_bare ln b) → Sits b
  bare_sits ln b s = let q = sub_parts ln 0 0 (Sub 1 b ∷ To 1 Jump E ∷ []) s in q.0

  test_sits : (ln : ℕ) (e b : Piece) → Sits (clause_test ln e b) → Sits b
  test_sits ln e b s = let q = sub_parts ln 0 1
      (Hidden 1 LoadLocal ∷ Alone e ∷ Op ExcMatch ∷ To 0 JumpFalse M ∷ Sub 1 b ∷ To 1 Jump E ∷ Here M ∷ []) s in
      q.1.1.1.1.0

  target_sits : (ln : ℕ) (e t b : Piece) → Sits (clause_target ln e t b) → Sits b
  target_sits ln e t b s = let q = sub_parts ln 0 1
      (Hidden 1 LoadLocal ∷ Alone e ∷ Op ExcMatch ∷ To 0 JumpFalse M ∷ Hidden 1 LoadLocal ∷ Alone t ∷ Sub 1 b ∷ To 1
      Jump E ∷ Here M ∷ []) s in q.1.1.1.1.1.1.0

  class_opens : (ln : ℕ) (b : Piece) (f : ℕ) (x : Home) → Sits (class ln b f x) → Opens all f
  class_opens ln b f x s =
      let q = sub_parts ln 0 0 (Alone b ∷ Op (ClassBody f) ∷ Op (store x) ∷ []) s in
      q.1.0 f (or_left (f == f) false (eq-eqb f f refl))

  arms_long : (as' : List Armed) → Every ArmSit as' → (f : ℕ) → length (armed_inner as' f) ≡ armed_count as'
  arms_long [] rs f = refl
  arms_long (x ∷ as') rs f = let a = rs.0.block.long f in let b = arms_long as' rs.1 (f + x.block.bodies) in
      omega (arith, a, b, length-append (x.block.inner f) (armed_inner as' (f + x.block.bodies)))

  arms_sit : (as' : List Armed) → Every ArmSit as' → (j : ℕ) (z : Bool) (c : List Around) (f : ℕ) →
      Every Sits (armed as' (knows j z) c f) → BodiesSit f (armed_inner as' f) → AllOpen f (armed_inner as' f)
  arms_sit [] rs j z c f p b = tt
  arms_sit (x ∷ as') rs j z c f p b =
      two f x.block.bodies (x.block.inner f) (armed_inner as' (f + x.block.bodies)) (rs.0.block.long f)
      (λ d. rs.0.block.sits j z c f (arm_sits x.line (value (knows j z) x.line x.test)
      (x.block.code (knows j z) c f) p.0) d)
      (λ d. arms_sit as' rs.1 j z c (f + x.block.bodies) p.1 d) b

  if_sit : (as' : List Armed) (e : Stated) → Every ArmSit as' → SitRel e →
      SitRel (record {
        bodies = armed_count as' + e.bodies;
        code = λ n c f.
            all_arms 0 (armed as' n c f) (e.code n c (f + armed_count as'));
        inner = λ f.
            armed_inner as' f ++ e.inner (f + armed_count as');
      })
  if_sit as' e rs re = record {
    long = λ f. let a = arms_long as' rs f in let b = re.long (f + armed_count as') in
        omega (arith, a, b, length-append (armed_inner as' f) (e.inner (f + armed_count as')));
    sits = λ j z c f s b. let q = all_arms_sit (armed as' (knows j z) c f)
        (e.code (knows j z) c (f + armed_count as')) s in
        two f (armed_count as') (armed_inner as' f) (e.inner (f + armed_count as')) (arms_long as' rs f)
        (λ d. arms_sit as' rs j z c f q.0 d) (λ d. re.sits j z c (f + armed_count as') q.1 d) b;
  }

  while_sit : (a : Armed) (e : Stated) → ArmSit a → SitRel e →
      SitRel (record {
        bodies = a.block.bodies + e.bodies;
        code = λ n c f.
            while a.line (value n a.line a.test) (a.block.code n (InWhile ∷ c) f) (e.code n c (f + a.block.bodies));
        inner =
            λ f. a.block.inner f ++ e.inner (f + a.block.bodies);
      })
  while_sit a e ra re = record {
    long = λ f. let x = ra.block.long f in let y = re.long (f + a.block.bodies) in
        omega (arith, x, y, length-append (a.block.inner f) (e.inner (f + a.block.bodies)));
    sits = λ j z c f s b. let q = while_sits a.line (value (knows j z) a.line a.test)
        (a.block.code (knows j z) (InWhile ∷ c) f) (e.code (knows j z) c (f + a.block.bodies)) s in
        two f a.block.bodies (a.block.inner f) (e.inner (f + a.block.bodies)) (ra.block.long f)
        (λ d. ra.block.sits j z (InWhile ∷ c) f q.0 d) (λ d. re.sits j z c (f + a.block.bodies) q.1 d) b;
  }

  for_sit : (ln : ℕ) (t x : Expr) (ss : List Stated) (e : Stated) → Every SitRel ss → SitRel e →
      SitRel (record {
        bodies = count ss + e.bodies;
        code = λ n c f.
            for ln (stored n ln t) (value n ln x) ((block ss).code n (InFor ∷ c) f) (e.code n c (f + count ss));
        inner = λ f.
            inners ss f ++ e.inner (f + count ss);
      })
  for_sit ln t x ss e rs re = record {
    long = λ f. let a = list_long ss rs f in let b = re.long (f + count ss) in
        omega (arith, a, b, length-append (inners ss f) (e.inner (f + count ss)));
    sits = λ j z c f s b. let q = for_sits ln (stored (knows j z) ln t) (value (knows j z) ln x)
        ((block ss).code (knows j z) (InFor ∷ c) f) (e.code (knows j z) c (f + count ss)) s in
        two f (count ss) (inners ss f) (e.inner (f + count ss)) (list_long ss rs f)
        (λ d. (block_sit ss rs).sits j z (InFor ∷ c) f q.0 d) (λ d. re.sits j z c (f + count ss) q.1 d) b;
  }

  clause_body : (n : Known) (ln : ℕ) (e t : Option Expr) (b : Piece) → Sits (clause n ln e t b) → Sits b
  clause_body n ln None t b s = bare_sits ln b s
  clause_body n ln (Some e) None b s = test_sits ln (value n ln e) b s
  clause_body n ln (Some e) (Some t) b s = target_sits ln (value n ln e) (stored n ln t) b s

  handlers_long : (hs : List Handled) → Every HandlerSit hs → (f : ℕ) → length (handled_inner hs f) ≡ handled_count hs
  handlers_long [] rs f = refl
  handlers_long (x ∷ hs) rs f = let a = rs.0.block.long f in let b = handlers_long hs rs.1 (f + x.block.bodies) in
      omega (arith, a, b, length-append (x.block.inner f) (handled_inner hs (f + x.block.bodies)))

  handlers_sit : (hs : List Handled) → Every HandlerSit hs → (j : ℕ) (z : Bool) (c : List Around) (f : ℕ) →
      Every Sits (handled hs (knows j z) c f) → BodiesSit f (handled_inner hs f) → AllOpen f (handled_inner hs f)
  handlers_sit [] rs j z c f p b = tt
  handlers_sit (x ∷ hs) rs j z c f p b =
      two f x.block.bodies (x.block.inner f) (handled_inner hs (f + x.block.bodies)) (rs.0.block.long f)
      (λ d. rs.0.block.sits j z (InClause ∷ c) f
      (clause_body (knows j z) x.line x.test x.target (x.block.code (knows j z) (InClause ∷ c) f) p.0) d)
      (λ d. handlers_sit hs rs.1 j z c (f + x.block.bodies) p.1 d) b

  try_sit : (t : Claused) (hs : List Handled) (e : Stated) → SitRel t.block → Every HandlerSit hs → SitRel e →
      SitRel (tried t hs e)
  try_sit t [] e rt rs re = rt
  try_sit t (h ∷ hs) e rt rs re = record {
    long = λ f. let m = rt.long f in let n = handlers_long (h ∷ hs) rs (f + t.block.bodies) in let y =
        re.long (f + t.block.bodies + handled_count (h ∷ hs)) in
        omega (
          arith,
          m,
          n,
          y,
          length-append (t.block.inner f ++ handled_inner (h ∷ hs) (f + t.block.bodies))
              (e.inner (f + t.block.bodies + handled_count (h ∷ hs))),
          length-append (t.block.inner f) (handled_inner (h ∷ hs) (f + t.block.bodies)),
        );
    sits = λ j z c f s b.
        let q = try_sits t.line (t.block.code (knows j z) (InTry ∷ c) f)
        (handled (h ∷ hs) (knows j z) c (f + t.block.bodies))
        (e.code (knows j z) c (f + t.block.bodies + handled_count (h ∷ hs))) s in
        let a = t.block.inner f in
        let m = handled_inner (h ∷ hs) (f + t.block.bodies) in
        let d = e.inner (f + t.block.bodies + handled_count (h ∷ hs)) in
        let len : length (a ++ m) ≡ t.block.bodies + handled_count (h ∷ hs) = let x = rt.long f in let y =
        handlers_long (h ∷ hs) rs (f + t.block.bodies) in omega (arith, x, y, length-append a m) in
        let far : f + t.block.bodies + handled_count (h ∷ hs) ≡ f + (t.block.bodies + handled_count (h ∷ hs)) =
        omega arith in
        two f (t.block.bodies + handled_count (h ∷ hs)) (a ++ m) d len
        (λ w. two f t.block.bodies a m (rt.long f) (λ v. rt.sits j z (InTry ∷ c) f q.0 v)
        (λ v. handlers_sit (h ∷ hs) rs j z c (f + t.block.bodies) q.1 v) w)
        (λ w. subst (λ i. AllOpen i d) far
        (re.sits j z c (f + t.block.bodies + handled_count (h ∷ hs)) q.2 (subst (λ i. BodiesSit i d) (sym far) w)))
        b;
  }

  finally_sit : (ln : ℕ) (t : Stated) (d : Option Claused) → SitRel t → ((x : Claused) → d ≡ Some x → SitRel x.block) →
      SitRel (finally ln t d)
  finally_sit ln t None rt rd = rt
  finally_sit ln t (Some d) rt rd = record {
    long = λ f. let x = rt.long f in let y = (rd d refl).long (f + t.bodies) in
        omega (arith, x, y, length-append (t.inner f) (d.block.inner (f + t.bodies)));
    sits = λ j z c f s b. let q = finally_sits ln
        (t.code (knows j z) (InFinally (d.block.code (knows j z) c (f + t.bodies)) ∷ c) f)
        (d.block.code (knows j z) c (f + t.bodies)) s in
        two f t.bodies (t.inner f) (d.block.inner (f + t.bodies)) (rt.long f)
        (λ w. rt.sits j z (InFinally (d.block.code (knows j z) c (f + t.bodies)) ∷ c) f q.0 w)
        (λ w. (rd d refl).sits j z c (f + t.bodies) q.1 w) b;
  }

  body_sit : (ln : ℕ) (x : List ℕ) (z : Bool) (m : ℕ) (ss : List Stated) (g : Known → List Around → ℕ → Piece) →
      Every SitRel ss → (z ≡ true → (j : ℕ) (w : Bool) (c : List Around) (f : ℕ) → Sits (g (knows j w) c f) →
      Opens all f)
      → SitRel (record { bodies = 1 + count ss; code = g; inner = inner_body ln x z m ss })
  body_sit ln x z m ss g rs o = record {
    long = λ f. let a = list_long ss rs (f + 1) in omega (arith, a);
    sits = λ j w c f s b. ((λ e. o e j w c f s), (block_sit ss rs).sits f z [] (f + 1) b.0 b.1);
  }

  -- nothing is said of uses here, nor of what is legal
  abbrev Rel : Stated → Uses → Legal → Type 0
  Rel s v g = SitRel s

  abbrev ArmRel : Armed → Uses → Legal → Type 0
  ArmRel a v g = ArmSit a

  abbrev HandlerRel : Handled → Uses → Legal → Type 0
  HandlerRel h v g = HandlerSit h

  abbrev no_locals : ℕ → List (List ℕ)
  no_locals b = []

  abbrev C-with : Type 0
  C-with = ClauseWith no_locals Rel ArmRel HandlerRel

  none_sit : SitRel (block [])
  none_sit = block_sit [] tt

  d_none : (x : Claused) → None ≡ Some x → SitRel x.block
  d_none x e = absurd (cc)

  d_some : (d : C-with) (x : Claused) → Some (code_by_clause d.0) ≡ Some x → SitRel x.block
  d_some d x e = let k : code_by_clause d.0 ≡ x = cc in subst (λ y. SitRel y.block) k d.1

  layer : (y : LayerWith no_locals Rel ArmRel HandlerRel) → IsLayer no_locals Rel ArmRel HandlerRel y
  layer (open'.Do ln e) = still_sit _
  layer (open'.Assign ln ts e) = still_sit _
  layer (open'.Augment ln t o e) = still_sit _
  layer (open'.Print ln es comma) = still_sit _
  layer (open'.Pass ln) = still_sit _
  layer (open'.Break ln) = still_sit _
  layer (open'.Continue ln) = still_sit _
  layer (open'.Return ln e) = still_sit _
  layer (open'.Raise ln e v) = still_sit _
  layer (open'.Del ln ts) = still_sit _
  layer (open'.Global ln xs) = still_sit _
  layer (open'.Assert ln t m) = still_sit _
  layer (open'.Import ln is) = still_sit _
  layer (open'.From ln m is) = still_sit _
  layer (open'.If ys None) = if_sit _ (block [])
      (related_every ArmSit (related_of ArmRel code_by_arm (uses_by_arm no_locals) legal_by_arm ys)) none_sit
  layer (open'.If ys (Some e)) = if_sit _ (code_by_clause e.0).block
      (related_every ArmSit (related_of ArmRel code_by_arm (uses_by_arm no_locals) legal_by_arm ys)) e.1
  layer (open'.While a None) = while_sit (code_by_arm a.0) (block []) a.1 none_sit
  layer (open'.While a (Some e)) = while_sit (code_by_arm a.0) (code_by_clause e.0).block a.1 e.1
  layer (open'.For ln t x ys None) = for_sit ln t x _ (block [])
      (related_every SitRel (related_of Rel stated (stmt_uses no_locals) legal ys)) none_sit
  layer (open'.For ln t x ys (Some e)) =
      for_sit ln t x _ (code_by_clause e.0).block
      (related_every SitRel (related_of Rel stated (stmt_uses no_locals) legal ys)) e.1
  layer (open'.Try t ys None None) = finally_sit (code_by_clause t.0).line _ None
      (try_sit (code_by_clause t.0) _ (block []) t.1
      (related_every HandlerSit (related_of HandlerRel code_by_handler (uses_by_handler no_locals) legal_by_handler
      ys)) none_sit) d_none
  layer (open'.Try t ys (Some e) None) =
      finally_sit (code_by_clause t.0).line _ None
      (try_sit (code_by_clause t.0) _ (code_by_clause e.0).block t.1
      (related_every HandlerSit (related_of HandlerRel code_by_handler (uses_by_handler no_locals) legal_by_handler
      ys)) e.1) d_none
  layer (open'.Try t ys None (Some d)) = finally_sit (code_by_clause t.0).line _ (Some (code_by_clause d.0))
      (try_sit (code_by_clause t.0) _ (block []) t.1
      (related_every HandlerSit (related_of HandlerRel code_by_handler (uses_by_handler no_locals) legal_by_handler
      ys)) none_sit) (d_some d)
  layer (open'.Try t ys (Some e) (Some d)) = finally_sit (code_by_clause t.0).line _ (Some (code_by_clause d.0))
      (try_sit (code_by_clause t.0) _ (code_by_clause e.0).block t.1
      (related_every HandlerSit (related_of HandlerRel code_by_handler (uses_by_handler no_locals) legal_by_handler
      ys)) e.1) (d_some d)
  layer (open'.Def ln x ps ys) = body_sit ln x false (length ps) _ _
      (related_every SitRel (related_of Rel stated (stmt_uses no_locals) legal ys)) (λ e. absurd (cc))
  layer (open'.Class ln x e ys) = body_sit ln x true 0 _ _
      (related_every SitRel (related_of Rel stated (stmt_uses no_locals) legal ys))
      (λ q j w c f s. class_opens ln (base (knows j w) ln e) f (home (knows j w) x) s)

  pub stmts_sit : (ss : List Stmt) → Every SitRel (all_stated ss)
  stmts_sit ss = related_every SitRel (every_stmts no_locals Rel ArmRel HandlerRel layer
      (λ ss vs gs rs. block_sit ss (related_every SitRel rs))
      (λ ln t ss vs gs rs. record { block = block_sit ss (related_every SitRel rs) })
      (λ ln e t ss vs gs rs. record { block = block_sit ss (related_every SitRel rs) }) ss)

  -- the bodies inside a module's statements
  pub module_opens : (ss : List Stmt) → Sits ((block (all_stated ss)).code (knows 0 false) [] 1) →
      BodiesSit 1 (inners (all_stated ss) 1) → AllOpen 1 (inners (all_stated ss) 1)
  module_opens ss s b = (block_sit (all_stated ss) (stmts_sit ss)).sits 0 false [] 1 s b
