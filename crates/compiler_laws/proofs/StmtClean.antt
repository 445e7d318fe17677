-- Which instructions stand in the code of a body, reached or not: lists of statements, `if`, `while` and `for`.
use Rattle.std.proofs.Common.{◌≡◌, ◌&&◌, ℕ, ◌+◌, ◌<◌, List, [], ◌∷◌, ◌++◌, Option, Bool, true, false, refl, length}
use Rattle.std.proofs.lemmas.Bool.{and_parts}
use Rattle.py_code.specs.declared.instr.Instr.TheVariants.{Jump, JumpFalse, Iter, Next}
use Rattle.py_code.specs.Effects.{Limits}
use Rattle.py_tree.specs.declared.expr.Expr.{Expr}
use Rattle.py_templates.specs.Template.{Piece, Op, To, Here, Alone, Sub, row}
use Rattle.py_templates.specs.Table.{A, B, E, M, Around, InWhile, InFor, InClause, all_arms, while, for}
use Rattle.py_templates.specs.Names.{Known, text}
use Rattle.py_base.specs.NameLists.{has}
use Rattle.py_names.specs.Outline.{is_none}
use Rattle.py_templates.specs.Expressions.{value, stored}
use Rattle.py_templates.specs.Uses.{Use, Inside, Uses, quiet, in_turn, none_used, all_in_turn, read, target, read_some, target_some}
use Rattle.py_templates.specs.Statements.{Body, Stated, Armed, Handled, still, block, count, pieces, inners, armed, armed_count, armed_inner, handled, handled_inner, clause, base}
use Rattle.compiler_laws.proofs.EachFrom.{EachFrom, from_front, from_back, from_join}
use Rattle.compiler_laws.proofs.Legal.{Legal, always, both, all_legal}
use Rattle.compiler_laws.proofs.Legal as lg
use Rattle.compiler_laws.proofs.Sane.{sane, sane_some}
use Rattle.py_templates.proofs.ExprInduct.{Every, every_front, every_back}
use Rattle.compiler_laws.proofs.World.{known, inside, lim, HasNone}
use Rattle.compiler_laws.proofs.UsesInTurn.{use_back, zero_back}
use Rattle.compiler_laws.proofs.FoldInduct.{Related, Nil, Cons, related_as}
use Rattle.compiler_laws.proofs.StmtTyped.{Rel, ArmRel, HandlerRel, rels_count, rels_long, arms_count, arms_long, none_rel, block_rel, arm_rel, handler_rel, if_rel, while_rel, for_rel}
use Rattle.compiler_laws.proofs.Fit.{NoteOk}
use Rattle.compiler_laws.proofs.Clean.{IsClean, template_clean, row_clean}
use Rattle.compiler_laws.proofs.SimpleClean.{AroundClean, clean_value, clean_store, clean_clause}

-- compound statements, and the bodies inside them
module _ (locals : ℕ → List (List ℕ)) (texts cells : List (List ℕ)) (keys : ℕ → List (List (List ℕ))) (params : List ℕ)
    (none : HasNone locals texts cells keys params) (ok : ℕ → Type 0) (flags : ℕ → Bool) (to go : List ℕ → Type 0)
    (holds : (x : List ℕ) → to x → go x → ok (text (known locals texts cells keys params 0 false) x))
    (free : (j : ℕ) (x : List ℕ) → is_none x ≡ true → has x (locals j) ≡ false) where
  abbrev knows : ℕ → Bool → Known
  knows = known locals texts cells keys params

  abbrev limits : ℕ → ℕ → ℕ → Limits
  limits = lim locals texts cells keys params

  abbrev within : ℕ → Bool → Inside
  within = inside locals texts cells keys params

  abbrev Noted : Use → Type 0
  Noted = NoteOk to go

  abbrev AllNoted : List Use → Type 0
  AllNoted us = Every Noted us

  abbrev Base : Stated → Uses → Legal → Type 0
  Base = Rel locals texts cells keys params none

  abbrev ArmBase : Armed → Uses → Legal → Type 0
  ArmBase = ArmRel locals texts cells keys params none

  abbrev HandlerBase : Handled → Uses → Legal → Type 0
  HandlerBase = HandlerRel locals texts cells keys params none

  -- the body of this number, which is a class's as the flags say
  abbrev pub IsFlagged : ℕ → Body → Type 0
  IsFlagged f y = (0 < f) × (flags f ≡ y.is_class)

  -- these bodies are those from number f on
  abbrev pub Flagged : ℕ → List Body → Type 0
  Flagged = EachFrom IsFlagged

  flags_front : (f : ℕ) (a c : List Body) → Flagged f (a ++ c) → Flagged f a
  flags_front = from_front IsFlagged

  flags_back : (f m : ℕ) (a c : List Body) → length a ≡ m → Flagged f (a ++ c) → Flagged (f + m) c
  flags_back = from_back IsFlagged

  abbrev pub CleanIn : ℕ → Body → Type 0
  CleanIn f y = IsClean ok flags y.is_class (y.block (knows f y.is_class))

  abbrev pub BodiesClean : ℕ → List Body → Type 0
  BodiesClean = EachFrom CleanIn

  clean_join : (f m : ℕ) (a c : List Body) → length a ≡ m → BodiesClean f a → BodiesClean (f + m) c →
      BodiesClean f (a ++ c)
  clean_join = from_join CleanIn

  pub record RelClean (s : Stated) (v : Uses) (g : Legal) : Type 0 where
    pub base : Base s v g
    pub good : (j : ℕ) (z l d : Bool) (f : ℕ) (c : List Around) → g l d ≡ true → AroundClean ok flags z c →
        AllNoted (v.uses (within j z) f) → Flagged f (s.inner f) → IsClean ok flags z (s.code (knows j z) c f)
    pub inner : (l d : Bool) (j : ℕ) (z : Bool) (f : ℕ) → g l d ≡ true → AllNoted (v.uses (within j z) f) →
        Flagged f (s.inner f) →
        BodiesClean f (s.inner f)

  pub record ArmClean (a : Armed) (v : Uses) (g : Legal) : Type 0 where
    pub base : ArmBase a v g
    pub good : (j : ℕ) (z l d : Bool) (f : ℕ) (c : List Around) → g l d ≡ true → AroundClean ok flags z c →
        AllNoted (v.uses (within j z) f) → Flagged f (a.block.inner f) →
        IsClean ok flags z (value (knows j z) a.line a.test) × IsClean
        ok flags z (a.block.code (knows j z) c f)
    pub inner : (l d : Bool) (j : ℕ) (z : Bool) (f : ℕ) → g l d ≡ true → AllNoted (v.uses (within j z) f) →
        Flagged f (a.block.inner f) → BodiesClean f (a.block.inner f)

  pub record HandlerClean (h : Handled) (v : Uses) (g : Legal) : Type 0 where
    pub base : HandlerBase h v g
    pub good : (j : ℕ) (z l : Bool) (f : ℕ) (c : List Around) → g l true ≡ true → AroundClean ok flags z c →
        AllNoted (v.uses (within j z) f) → Flagged f (h.block.inner f) →
        IsClean ok flags z (clause (knows j z) h.line h.test h.target (h.block.code (knows j z) (InClause ∷ c) f))
    pub inner : (l d : Bool) (j : ℕ) (z : Bool) (f : ℕ) → g l d ≡ true → AllNoted (v.uses (within j z) f) →
        Flagged f (h.block.inner f) → BodiesClean f (h.block.inner f)

  pub still_rel_clean : (g : Known → List Around → Piece) (q : Inside → List Use) (t : Legal) →
      Base (still g) (quiet q) t
      → ((j : ℕ) (z : Bool) (c : List Around) → AroundClean ok flags z c → AllNoted (q (within j z)) →
      IsClean ok flags z (g (knows j z) c)) → RelClean (still g) (quiet q) t
  still_rel_clean g q t r h = record {
    base = r;
    good = λ j z l d f c e a w x. h j z c a w;
    inner = λ l d j z f e w x.
        tt;
  }

  pub none_rel_clean : RelClean (block []) none_used (λ l c. true)
  none_rel_clean = record {
    base = none_rel locals texts cells keys params none;
    good = λ j z l d f c e a w x.
        row_clean ok flags z [] tt;
    inner = λ l d j z f e w x. tt;
  }

  -- lists
  pub lists : {ss : List Stated} {vs : List Uses} {gs : List Legal} → Related RelClean ss vs gs → Related Base ss vs gs
  lists rs = related_as RelClean Base (λ s v g r. r.base) rs

  pub list_good : {ss : List Stated} {vs : List Uses} {gs : List Legal} → Related RelClean ss vs gs →
      (j : ℕ) (z l d : Bool) (f : ℕ) (c : List Around) → all_legal gs l d ≡ true → AroundClean ok flags z c →
      AllNoted ((all_in_turn vs).uses (within j z) f) → Flagged f (inners ss f) →
      Every (IsClean ok flags z) (pieces ss (knows j z) c f)
  list_good Nil j z l d f c e a w x = tt
  list_good (Cons {s = y} {v = v} {g = g} {ss = ss} {vs = vs} {gs = gs} r rs) j z l d f c e a w x =
      let q = and_parts (g l d) (all_legal gs l d) e in
      let t = inners ss (f + y.bodies) in (
        r.good j z l d f c q.0 a (every_front Noted (v.uses (within j z) f)
            ((all_in_turn vs).uses (within j z) (f + v.bodies)) w)
            (flags_front f (y.inner f) t x),
        list_good rs j z l d (f + y.bodies) c q.1 a
            (use_back Noted (all_in_turn vs) (within j z) f y.bodies v.bodies (v.uses (within j z) f)
            (r.base.count l d q.0) w)
            (flags_back f y.bodies (y.inner f) t (r.base.long f) x),
      )

  pub list_inner : {ss : List Stated} {vs : List Uses} {gs : List Legal} → Related RelClean ss vs gs →
      (l d : Bool) (j : ℕ) (z : Bool) (f : ℕ) → all_legal gs l d ≡ true →
      AllNoted ((all_in_turn vs).uses (within j z) f) →
      Flagged f (inners ss f) → BodiesClean f (inners ss f)
  list_inner Nil l d j z f e w x = tt
  list_inner (Cons {s = y} {v = v} {g = g} {ss = ss} {vs = vs} {gs = gs} r rs) l d j z f e w x =
      let q = and_parts (g l d) (all_legal gs l d) e in
      let t = inners ss (f + y.bodies) in
      clean_join f y.bodies (y.inner f) t (r.base.long f)
      (r.inner l d j z f q.0 (every_front Noted (v.uses (within j z) f)
      ((all_in_turn vs).uses (within j z) (f + v.bodies)) w)
      (flags_front f (y.inner f) t x))
      (list_inner rs l d j z (f + y.bodies) q.1
      (use_back Noted (all_in_turn vs) (within j z) f y.bodies v.bodies (v.uses (within j z) f)
      (r.base.count l d q.0) w)
      (flags_back f y.bodies (y.inner f) t (r.base.long f) x))

  pub block_rel_clean : {ss : List Stated} {vs : List Uses} {gs : List Legal} → Related RelClean ss vs gs →
      RelClean (block ss) (all_in_turn vs) (all_legal gs)
  block_rel_clean {ss = ss} rs = record {
    base = block_rel locals texts cells keys params none (lists rs);
    good =
        λ j z l d f c e a w x. row_clean ok flags z (pieces ss (knows j z) c f) (list_good rs j z l d f c e a w x);
    inner =
        list_inner rs;
  }

  arms : {ss : List Armed} {vs : List Uses} {gs : List Legal} → Related ArmClean ss vs gs → Related ArmBase ss vs gs
  arms rs = related_as ArmClean ArmBase (λ s v g r. r.base) rs

  arms_good : {ss : List Armed} {vs : List Uses} {gs : List Legal} → Related ArmClean ss vs gs →
      (j : ℕ) (z l d : Bool) (f : ℕ) (c : List Around) → all_legal gs l d ≡ true → AroundClean ok flags z c →
      AllNoted ((all_in_turn vs).uses (within j z) f) → Flagged f (armed_inner ss f) →
      Every (IsClean ok flags z) (armed ss (knows j z) c f)
  arms_good Nil j z l d f c e a w x = tt
  arms_good (Cons {s = y} {v = v} {g = g} {ss = ss} {vs = vs} {gs = gs} r rs) j z l d f c e a w x =
      let q = and_parts (g l d) (all_legal gs l d) e in
      let t = armed_inner ss (f + y.block.bodies) in
      let p = r.good j z l d f c q.0 a (every_front Noted (v.uses (within j z) f)
      ((all_in_turn vs).uses (within j z) (f + v.bodies))
      w) (flags_front f (y.block.inner f) t x) in (
        template_clean ok flags z y.line 0 1
            (Alone (value (knows j z) y.line y.test) ∷ To 0 JumpFalse M ∷ Sub 2 (y.block.code (knows j z) c f)
            ∷ To 1 Jump E ∷
            Here M ∷ []) (p.0, ((λ q. tt), (p.1, ((λ q. tt), (tt, tt))))),
        arms_good rs j z l d (f + y.block.bodies) c q.1 a
            (use_back Noted (all_in_turn vs) (within j z) f y.block.bodies v.bodies (v.uses (within j z) f)
            (r.base.count l d q.0) w)
            (flags_back f y.block.bodies (y.block.inner f) t (r.base.long f) x),
      )

  arms_inner : {ss : List Armed} {vs : List Uses} {gs : List Legal} → Related ArmClean ss vs gs →
      (l d : Bool) (j : ℕ) (z : Bool) (f : ℕ) → all_legal gs l d ≡ true →
      AllNoted ((all_in_turn vs).uses (within j z) f) →
      Flagged f (armed_inner ss f) → BodiesClean f (armed_inner ss f)
  arms_inner Nil l d j z f e w x = tt
  arms_inner (Cons {s = y} {v = v} {g = g} {ss = ss} {vs = vs} {gs = gs} r rs) l d j z f e w x =
      let q = and_parts (g l d) (all_legal gs l d) e in
      let t = armed_inner ss (f + y.block.bodies) in
      clean_join f y.block.bodies (y.block.inner f) t (r.base.long f)
      (r.inner l d j z f q.0 (every_front Noted (v.uses (within j z) f)
      ((all_in_turn vs).uses (within j z) (f + v.bodies)) w)
      (flags_front f (y.block.inner f) t x))
      (arms_inner rs l d j z (f + y.block.bodies) q.1
      (use_back Noted (all_in_turn vs) (within j z) f y.block.bodies v.bodies (v.uses (within j z) f)
      (r.base.count l d q.0) w)
      (flags_back f y.block.bodies (y.block.inner f) t (r.base.long f) x))

  pub handlers : {ss : List Handled} {vs : List Uses} {gs : List Legal} → Related HandlerClean ss vs gs →
      Related HandlerBase ss vs gs
  handlers rs = related_as HandlerClean HandlerBase (λ s v g r. r.base) rs

  pub handlers_good : {ss : List Handled} {vs : List Uses} {gs : List Legal} → Related HandlerClean ss vs gs →
      (j : ℕ) (z l : Bool) (f : ℕ) (c : List Around) → all_legal gs l true ≡ true → AroundClean ok flags z c →
      AllNoted ((all_in_turn vs).uses (within j z) f) → Flagged f (handled_inner ss f) →
      Every (IsClean ok flags z) (handled ss (knows j z) c f)
  handlers_good Nil j z l f c e a w x = tt
  handlers_good (Cons {s = y} {v = v} {g = g} {ss = ss} {vs = vs} {gs = gs} r rs) j z l f c e a w x =
      let q = and_parts (g l true) (all_legal gs l true) e in
      let t = handled_inner ss (f + y.block.bodies) in (
        r.good j z l f c q.0 a (every_front Noted (v.uses (within j z) f)
            ((all_in_turn vs).uses (within j z) (f + v.bodies)) w)
            (flags_front f (y.block.inner f) t x),
        handlers_good rs j z l (f + y.block.bodies) c q.1 a
            (use_back Noted (all_in_turn vs) (within j z) f y.block.bodies v.bodies (v.uses (within j z) f)
            (r.base.count l true q.0)
            w) (flags_back f y.block.bodies (y.block.inner f) t (r.base.long f) x),
      )

  pub handlers_inner : {ss : List Handled} {vs : List Uses} {gs : List Legal} → Related HandlerClean ss vs gs →
      (l d : Bool) (j : ℕ) (z : Bool) (f : ℕ) → all_legal gs l d ≡ true →
      AllNoted ((all_in_turn vs).uses (within j z) f) →
      Flagged f (handled_inner ss f) → BodiesClean f (handled_inner ss f)
  handlers_inner Nil l d j z f e w x = tt
  handlers_inner (Cons {s = y} {v = v} {g = g} {ss = ss} {vs = vs} {gs = gs} r rs) l d j z f e w x =
      let q = and_parts (g l d) (all_legal gs l d) e in
      let t = handled_inner ss (f + y.block.bodies) in
      clean_join f y.block.bodies (y.block.inner f) t (r.base.long f)
      (r.inner l d j z f q.0 (every_front Noted (v.uses (within j z) f)
      ((all_in_turn vs).uses (within j z) (f + v.bodies)) w)
      (flags_front f (y.block.inner f) t x))
      (handlers_inner rs l d j z (f + y.block.bodies) q.1
      (use_back Noted (all_in_turn vs) (within j z) f y.block.bodies v.bodies (v.uses (within j z) f)
      (r.base.count l d q.0) w)
      (flags_back f y.block.bodies (y.block.inner f) t (r.base.long f) x))

  -- the parts
  pub arm_rel_clean : (ln : ℕ) (t : Expr) {ss : List Stated} {vs : List Uses} {gs : List Legal} →
      Related RelClean ss vs gs
      → ArmClean (record { line = ln; test = t; block = block ss }) (in_turn (quiet (λ b. read b t)) (all_in_turn vs))
      (both (always (sane t)) (all_legal gs))
  arm_rel_clean ln t {ss = ss} {vs = vs} {gs = gs} rs = record {
    base = arm_rel locals texts cells keys params none ln t (lists rs);
    good = λ j z l d f c e a w x.
        let q = and_parts (sane t) (all_legal gs l d) e in (
          clean_value ok flags z (knows j z) (within j z) refl refl refl to go holds (free j) ln t
              (every_front Noted (read (within j z) t) ((all_in_turn vs).uses (within j z) (f + 0)) w),
          row_clean ok flags z (pieces ss (knows j z) c f)
              (list_good rs j z l d f c q.1 a (zero_back Noted (all_in_turn vs) (within j z) f
              (read (within j z) t) w) x),
        );
    inner = λ l d j z f e w x. list_inner rs l d j z f (and_parts (sane t) (all_legal gs l d) e).1
        (zero_back Noted (all_in_turn vs) (within j z) f (read (within j z) t) w) x;
  }

  pub handler_rel_clean : (ln : ℕ) (e t : Option Expr) {ss : List Stated} {vs : List Uses} {gs : List Legal} →
      Related RelClean ss vs gs → HandlerClean (record { line = ln; test = e; target = t; block = block ss })
      (in_turn (quiet (λ b. read_some b e ++ target_some b t)) (all_in_turn vs))
      (both (always (sane_some e && lg.target_some t)) (all_legal gs))
  handler_rel_clean ln e t {ss = ss} {vs = vs} {gs = gs} rs = record {
    base = handler_rel locals texts cells keys params none ln e t (lists rs);
    good = λ j z l f c h a w x.
        let k = within j z in
        let q = and_parts (sane_some e && lg.target_some t) (all_legal gs l true) h in
        let us = every_front Noted (read_some k e ++ target_some k t) ((all_in_turn vs).uses k (f + 0)) w in
        clean_clause ok flags z (knows j z) k refl refl refl to go holds (free j) ln e t
        (row (pieces ss (knows j z) (InClause ∷ c) f)) (every_front Noted (read_some k e) (target_some k t) us)
        (every_back Noted (read_some k e) (target_some k t) us)
        (row_clean ok flags z (pieces ss (knows j z) (InClause ∷ c) f)
        (list_good rs j z l true f (InClause ∷ c) q.1 a
        (zero_back Noted (all_in_turn vs) k f (read_some k e ++ target_some k t) w) x));
    inner = λ l d j z f h w x. list_inner rs l d j z f
        (and_parts (sane_some e && lg.target_some t) (all_legal gs l d) h).1
        (zero_back Noted (all_in_turn vs) (within j z) f (read_some (within j z) e ++ target_some (within j z) t) w) x;
  }

  pub if_rel_clean : {as' : List Armed} {vs : List Uses} {gs : List Legal} → Related ArmClean as' vs gs →
      (e : Stated) (ve : Uses) (ge : Legal) → RelClean e ve ge →
      RelClean (record {
        bodies = armed_count as' + e.bodies;
        code = λ n c f.
            all_arms 0 (armed as' n c f) (e.code n c (f + armed_count as'));
        inner = λ f.
            armed_inner as' f ++ e.inner (f + armed_count as');
      }) (in_turn (all_in_turn vs) ve) (both (all_legal gs) ge)
  if_rel_clean {as' = as'} {vs = vs} {gs = gs} rs e ve ge re = record {
    base = if_rel locals texts cells keys params none (arms rs) e ve ge re.base;
    good = λ j z l d f c h a w x.
        let k = within j z in
        let q = and_parts (all_legal gs l d) (ge l d) h in
        let m = arms_count locals texts cells keys params none (arms rs) l d q.0 in
        let t = e.inner (f + armed_count as') in
        let n = arms_long locals texts cells keys params none (arms rs) f in
        template_clean ok flags z 0 0 1 (Sub 0 (row (armed as' (knows j z) c f)) ∷ Sub 1
        (e.code (knows j z) c (f + armed_count as')) ∷ Here E ∷ []) (
          row_clean ok flags z (armed as' (knows j z) c f)
              (arms_good rs j z l d f c q.0 a
              (every_front Noted ((all_in_turn vs).uses k f) (ve.uses k (f + (all_in_turn vs).bodies)) w)
              (flags_front f (armed_inner as' f) t x)),
          (
            re.good j z l d (f + armed_count as') c q.1 a
                (use_back Noted ve k f (armed_count as') (all_in_turn vs).bodies ((all_in_turn vs).uses k f) m w)
                (flags_back f (armed_count as') (armed_inner as' f) t n x),
            (tt, tt),
          ),
        );
    inner = λ l d j z f h w x.
        let k = within j z in
        let q = and_parts (all_legal gs l d) (ge l d) h in
        let m = arms_count locals texts cells keys params none (arms rs) l d q.0 in
        let t = e.inner (f + armed_count as') in
        let n = arms_long locals texts cells keys params none (arms rs) f in
        clean_join f (armed_count as') (armed_inner as' f) t n
        (arms_inner rs l d j z f q.0
        (every_front Noted ((all_in_turn vs).uses k f) (ve.uses k (f + (all_in_turn vs).bodies)) w)
        (flags_front f (armed_inner as' f) t x))
        (re.inner l d j z (f + armed_count as') q.1
        (use_back Noted ve k f (armed_count as') (all_in_turn vs).bodies ((all_in_turn vs).uses k f) m w)
        (flags_back f (armed_count as') (armed_inner as' f) t n x));
  }

  pub while_rel_clean : (a : Armed) (va : Uses) (ga : Legal) → ArmClean a va ga →
      (e : Stated) (ve : Uses) (ge : Legal) →
      RelClean e ve ge → RelClean (record {
        bodies = a.block.bodies + e.bodies;
        code = λ n c f.
            while a.line (value n a.line a.test) (a.block.code n (InWhile ∷ c) f) (e.code n c (f + a.block.bodies));
        inner =
            λ f. a.block.inner f ++ e.inner (f + a.block.bodies);
      }) (in_turn va ve) (both (λ l c. ga true c) ge)
  while_rel_clean y va ga ra e ve ge re = record {
    base = while_rel locals texts cells keys params none y va ga ra.base e ve ge re.base;
    good = λ j z l d f c h a w x.
        let k = within j z in
        let q = and_parts (ga true d) (ge l d) h in
        let m = ra.base.count true d q.0 in
        let t = e.inner (f + y.block.bodies) in
        let p = ra.good j z true d f (InWhile ∷ c) q.0 a (every_front Noted (va.uses k f) (ve.uses k (f + va.bodies)) w)
        (flags_front f (y.block.inner f) t x) in
        template_clean ok flags z y.line 0 3
        (Here A ∷ Alone (value (knows j z) y.line y.test) ∷ To 0 JumpFalse B ∷ Sub 0
        (y.block.code (knows j z) (InWhile ∷ c) f) ∷ To 0 Jump A ∷ Here B ∷ Sub 1
        (e.code (knows j z) c (f + y.block.bodies)) ∷ Here E ∷ []) (
          tt,
          (
            p.0,
            (
              (λ q. tt),
              (
                p.1,
                (
                  (λ q. tt),
                  (
                    tt,
                    (
                      re.good j z l d (f + y.block.bodies) c q.1 a
                          (use_back Noted ve k f y.block.bodies va.bodies (va.uses k f) m w)
                          (flags_back f y.block.bodies (y.block.inner f) t (ra.base.long f) x),
                      (tt, tt),
                    ),
                  ),
                ),
              ),
            ),
          ),
        );
    inner = λ l d j z f h w x.
        let k = within j z in
        let q = and_parts (ga true d) (ge l d) h in
        let m = ra.base.count true d q.0 in
        let t = e.inner (f + y.block.bodies) in
        clean_join f y.block.bodies (y.block.inner f) t (ra.base.long f)
        (ra.inner true d j z f q.0 (every_front Noted (va.uses k f) (ve.uses k (f + va.bodies)) w)
        (flags_front f (y.block.inner f) t x))
        (re.inner l d j z (f + y.block.bodies) q.1 (use_back Noted ve k f y.block.bodies va.bodies (va.uses k f) m w)
        (flags_back f y.block.bodies (y.block.inner f) t (ra.base.long f) x));
  }

  for_parts : (t x : Expr) (gs : List Legal) (ge : Legal) (l d : Bool) →
      both (always (lg.is_target_of t && sane x)) (both (λ l c. all_legal gs true c) ge) l d ≡ true →
      (all_legal gs true d ≡ true) × (ge l d ≡ true)
  for_parts t x gs ge l d h = and_parts (all_legal gs true d) (ge l d)
      (and_parts (lg.is_target_of t && sane x) (all_legal gs true d && ge l d) h).1

  pub for_rel_clean : (ln : ℕ) (t y : Expr) {ss : List Stated} {vs : List Uses} {gs : List Legal} →
      Related RelClean ss vs gs → (e : Stated) (ve : Uses) (ge : Legal) → RelClean e ve ge →
      RelClean (record {
        bodies = count ss + e.bodies;
        code = λ n c f.
            for ln (stored n ln t) (value n ln y) ((block ss).code n (InFor ∷ c) f) (e.code n c (f + count ss));
        inner = λ f.
            inners ss f ++ e.inner (f + count ss);
      })
      (in_turn (quiet (λ b. target b t ++ read b y)) (in_turn (all_in_turn vs) ve))
      (both (always (lg.is_target_of t && sane y)) (both (λ l c. all_legal gs true c) ge))
  for_rel_clean ln t y {ss = ss} {vs = vs} {gs = gs} rs e ve ge re = record {
    base = for_rel locals texts cells keys params none ln t y (lists rs) e ve ge re.base;
    good = λ j z l d f c h a w x.
        let k = within j z in
        let q = for_parts t y gs ge l d h in
        let m = rels_count locals texts cells keys params none (lists rs) true d q.0 in
        let r = e.inner (f + count ss) in
        let n = rels_long locals texts cells keys params none (lists rs) f in
        let hd = every_front Noted (target k t ++ read k y) ((in_turn (all_in_turn vs) ve).uses k (f + 0)) w in
        let tl = zero_back Noted (in_turn (all_in_turn vs) ve) k f (target k t ++ read k y) w in
        template_clean ok flags z ln 0 3
        (Alone (value (knows j z) ln y) ∷ Op Iter ∷ Here A ∷ To 0 Next B ∷ Alone (stored (knows j z) ln t) ∷ Sub 0
        ((block ss).code (knows j z) (InFor ∷ c) f) ∷ To 0 Jump A ∷ Here B ∷ Sub 1 (e.code (knows j z) c (f + count ss))
        ∷
        Here E ∷ []) (
          clean_value ok flags z (knows j z) k refl refl refl to go holds (free j) ln y
              (every_back Noted (target k t) (read k y) hd),
          (
            tt,
            (
              tt,
              (
                (λ q. tt),
                (
                  clean_store ok flags z (knows j z) k refl refl refl to go holds (free j) ln t
                      (every_front Noted (target k t) (read k y) hd),
                  (
                    row_clean ok flags z (pieces ss (knows j z) (InFor ∷ c) f)
                        (list_good rs j z true d f (InFor ∷ c) q.0 a
                        (every_front Noted ((all_in_turn vs).uses k f) (ve.uses k (f + (all_in_turn vs).bodies)) tl)
                        (flags_front f (inners ss f) r x)),
                    (
                      (λ q. tt),
                      (
                        tt,
                        (
                          re.good j z l d (f + count ss) c q.1 a
                              (use_back Noted ve k f (count ss) (all_in_turn vs).bodies
                              ((all_in_turn vs).uses k f) m tl)
                              (flags_back f (count ss) (inners ss f) r n x),
                          (tt, tt),
                        ),
                      ),
                    ),
                  ),
                ),
              ),
            ),
          ),
        );
    inner = λ l d j z f h w x.
        let k = within j z in
        let q = for_parts t y gs ge l d h in
        let m = rels_count locals texts cells keys params none (lists rs) true d q.0 in
        let r = e.inner (f + count ss) in
        let n = rels_long locals texts cells keys params none (lists rs) f in
        let tl = zero_back Noted (in_turn (all_in_turn vs) ve) k f (target k t ++ read k y) w in
        clean_join f (count ss) (inners ss f) r n
        (list_inner rs true d j z f q.0
        (every_front Noted ((all_in_turn vs).uses k f) (ve.uses k (f + (all_in_turn vs).bodies)) tl)
        (flags_front f (inners ss f) r x))
        (re.inner l d j z (f + count ss) q.1
        (use_back Noted ve k f (count ss) (all_in_turn vs).bodies ((all_in_turn vs).uses k f) m tl)
        (flags_back f (count ss) (inners ss f) r n x));
  }
