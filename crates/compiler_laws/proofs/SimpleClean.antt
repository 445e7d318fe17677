-- Which instructions stand in the code of a body, reached or not: statements that hold no others, and the ways out.
use Rattle.std.proofs.Common.{◌≡◌, ℕ, ◌+◌, ◌<◌, List, [], ◌∷◌, ◌++◌, Option, Some, None, Bool, true, false, length, map}
use Rattle.py_code.specs.declared.instr.Constant.{Constant}
use Rattle.py_code.specs.declared.instr.Constant.TheVariants.{Root}
use Rattle.py_code.specs.declared.instr.Instr.TheVariants.{Const, Pop, Dup, Not, Jump, JumpFalse, LoadLocal, StoreLocal, Call, Return, MakeFunction, ClassBody, PopTry, ExcMatch, MakeRaised, Raise, PrintItem, PrintNewline}
use Rattle.py_tree.specs.declared.expr.Expr.{Expr}
use Rattle.py_tree.specs.declared.expr.Operator.{Operator}
use Rattle.py_tree.specs.declared.stmt.Param.{Param}
use Rattle.py_tree.specs.declared.stmt.Imported.{Imported}
use Rattle.py_templates.specs.declared.way.Way.{Way}
use Rattle.py_templates.specs.declared.way.Way.TheVariants.{Break, Continue, Out}
use Rattle.py_templates.specs.Template.{Piece, Op, Hidden, To, Here, Alone, Sub, template, row}
use Rattle.py_templates.specs.Table.{A, E, M, Around, InWhile, InFor, InTry, InClause, InFinally, def, class, print_one, import_one, way_out, return, raise_again, store}
use Rattle.py_templates.specs.Names.{Known, home, text, library, member}
use Rattle.py_base.specs.NameLists.{has}
use Rattle.py_names.specs.Outline.{is_none}
use Rattle.py_templates.specs.Expressions.{coded, add_at, operator, value, values, value_some, stored, all_stored, all_deleted}
use Rattle.py_templates.specs.Uses.{Use, Inside, read, target, read_all, target_all, read_some, target_some, read_defaults}
use Rattle.py_templates.specs.Statements.{clause, base, default_or, defaults, stores_before, last_target, assigned, printed, raised, asserted, imported, taken_from, deletion, bound_name}
use Rattle.py_templates.proofs.ExprInduct.{Every, every_front, every_back, every_join}
use Rattle.compiler_laws.proofs.Fit.{Fit, NoteOk}
use Rattle.compiler_laws.proofs.Clean.{IsClean, template_clean, row_clean, one_clean, store_clean, expr_clean, exprs_clean, if_clean, values_clean, stores_clean, deletes_clean, some_clean}

-- what loads a constant fits everywhere; the constructs round a statement have clean finally bodies
module _ (ok : ℕ → Type 0) (flags : ℕ → Bool) (z : Bool) where
  abbrev pub AroundClean : List Around → Type 0
  AroundClean [] = Unit {0}
  AroundClean (InFinally fin ∷ c) = IsClean ok flags z fin × AroundClean c
  AroundClean (_ ∷ c) = AroundClean c

  pub way_clean : (ln : ℕ) (w : Way) (c : List Around) → AroundClean c → IsClean ok flags z (way_out ln w c)
  way_clean ln w [] a = template_clean ok flags z ln 0 0 [] tt
  way_clean ln Break (InWhile ∷ c) a = template_clean ok flags z ln 0 0 (To 1 Jump E ∷ []) ((λ q. tt), tt)
  way_clean ln Continue (InWhile ∷ c) a = template_clean ok flags z ln 0 0 (To 1 Jump A ∷ []) ((λ q. tt), tt)
  way_clean ln Out (InWhile ∷ c) a = template_clean ok flags z ln 0 0 (Sub 2 (way_out ln Out c) ∷ [])
      (way_clean ln Out c a, tt)
  way_clean ln Break (InFor ∷ c) a = template_clean ok flags z ln 0 0 (Op Pop ∷ To 1 Jump E ∷ []) (tt, ((λ q. tt), tt))
  way_clean ln Continue (InFor ∷ c) a = template_clean ok flags z ln 0 0 (To 1 Jump A ∷ []) ((λ q. tt), tt)
  way_clean ln Out (InFor ∷ c) a = template_clean ok flags z ln 0 0 (Op Pop ∷ Sub 2 (way_out ln Out c) ∷ [])
      (tt, (way_clean ln Out c a, tt))
  way_clean ln w (InTry ∷ c) a = template_clean ok flags z ln 0 0 (Op PopTry ∷ Sub 2 (way_out ln w c) ∷ [])
      (tt, (way_clean ln w c a, tt))
  way_clean ln w (InClause ∷ c) a = template_clean ok flags z ln 0 0 (Sub 2 (way_out ln w c) ∷ [])
      (way_clean ln w c a, tt)
  way_clean ln w (InFinally fin ∷ c) a =
      template_clean ok flags z ln 0 0 (Op PopTry ∷ Sub 2 fin ∷ Sub 2 (way_out ln w c) ∷ [])
      (tt, (a.0, (way_clean ln w c a.1, tt)))

  again_clean : (ln : ℕ) (c : List Around) → AroundClean c → IsClean ok flags z (raise_again ln c)
  again_clean ln [] a = template_clean ok flags z ln 0 0 [] tt
  again_clean ln (InWhile ∷ c) a = template_clean ok flags z ln 0 0 (Sub 2 (raise_again ln c) ∷ [])
      (again_clean ln c a, tt)
  again_clean ln (InFor ∷ c) a = template_clean ok flags z ln 0 0 (Sub 2 (raise_again ln c) ∷ [])
      (again_clean ln c a, tt)
  again_clean ln (InTry ∷ c) a = template_clean ok flags z ln 0 0 (Sub 2 (raise_again ln c) ∷ [])
      (again_clean ln c a, tt)
  again_clean ln (InClause ∷ c) a = template_clean ok flags z ln 0 0 (Hidden 1 LoadLocal ∷ Op Raise ∷ [])
      ((λ s. tt), (tt, tt))
  again_clean ln (InFinally fin ∷ c) a = template_clean ok flags z ln 0 0 (Sub 2 (raise_again ln c) ∷ [])
      (again_clean ln c a.1, tt)

  pub return_clean : (ln : ℕ) (x : Piece) (c : List Around) → IsClean ok flags z x → AroundClean c →
      IsClean ok flags z (return ln x c)
  return_clean ln x c v a = template_clean ok flags z ln 1 0
      (Alone x ∷ Hidden 0 StoreLocal ∷ Sub 1 (way_out ln Out c) ∷ Hidden 0 LoadLocal ∷ Op Return ∷ [])
      (v, ((λ s. tt), (way_clean ln Out c a, ((λ s. tt), (tt, tt)))))

  -- simple statements of a body that knows these names
  module _ (n : Known) (b : Inside) (names : n.locals ≡ b.locals) (kind : n.is_class ≡ b.is_class)
      (cls : n.is_class ≡ z) (to go : List ℕ → Type 0) (holds : (x : List ℕ) → to x → go x → ok (text n x))
      (free : (x : List ℕ) → is_none x ≡ true → has x n.locals ≡ false) where
    abbrev AllNoted : List Use → Type 0
    AllNoted us = Every (NoteOk to go) us

    abbrev Clean : Piece → Type 0
    Clean x = IsClean ok flags z x

    front : (a c : List Use) → AllNoted (a ++ c) → AllNoted a
    front a c h = every_front (NoteOk to go) a c h

    back : (a c : List Use) → AllNoted (a ++ c) → AllNoted c
    back a c h = every_back (NoteOk to go) a c h

    pub clean_value : (ln : ℕ) (x : Expr) → AllNoted (read b x) → Clean (value n ln x)
    clean_value ln x w = (expr_clean ok flags z n b names kind cls to go holds free x).value ln w

    pub clean_values : (ln : ℕ) (xs : List Expr) → AllNoted (read_all b xs) → Every Clean (values n ln xs)
    clean_values ln xs w = values_clean ok flags z n b names kind cls to go holds free ln xs
        (exprs_clean ok flags z n b names kind cls to go holds free xs) w

    pub clean_some : (ln : ℕ) (x : Option Expr) → AllNoted (read_some b x) → Clean (value_some n ln x)
    clean_some ln x w = some_clean ok flags z n b names kind cls to go holds free ln x
        (if_clean ok flags z n b names kind cls to go holds free x) w

    pub clean_store : (ln : ℕ) (x : Expr) → AllNoted (target b x) → Clean (stored n ln x)
    clean_store ln x w = ((expr_clean ok flags z n b names kind cls to go holds free x).place ln w).store

    clean_stores : (ln : ℕ) (xs : List Expr) → AllNoted (target_all b xs) → Every Clean (all_stored n ln xs)
    clean_stores ln xs w = stores_clean ok flags z n b names kind cls to go holds free ln xs
        (exprs_clean ok flags z n b names kind cls to go holds free xs) w

    clean_deletes : (ln : ℕ) (xs : List Expr) → AllNoted (target_all b xs) → Every Clean (all_deleted n ln xs)
    clean_deletes ln xs w = deletes_clean ok flags z n b names kind cls to go holds free ln xs
        (exprs_clean ok flags z n b names kind cls to go holds free xs) w

    name_store : (x : List ℕ) → Fit ok flags z (store (home n x))
    name_store x = store_clean ok flags z n b names kind cls to go holds free x

    pub clean_do : (ln : ℕ) (x : Expr) → AllNoted (read b x) →
        Clean (template ln 0 0 (Alone (value n ln x) ∷ Op Pop ∷ []))
    clean_do ln x w = template_clean ok flags z ln 0 0 (Alone (value n ln x) ∷ Op Pop ∷ [])
        (clean_value ln x w, (tt, tt))

    clean_befores : (ln : ℕ) (t : Expr) (ts : List Expr) → Every Clean (all_stored n ln (t ∷ ts)) →
        Every Clean (stores_before n ln t ts) × Clean (stored n ln (last_target t ts))
    clean_befores ln t [] h = (tt, h.0)
    clean_befores ln t (x ∷ xs) h = let r = clean_befores ln x xs h.1 in
        ((template_clean ok flags z ln 0 0 (Op Dup ∷ Alone (stored n ln t) ∷ []) (tt, (h.0, tt)), r.0), r.1)

    pub clean_assign : (ln : ℕ) (ts : List Expr) (x : Expr) → AllNoted (target_all b ts ++ read b x) →
        Clean (assigned n ln ts x)
    clean_assign ln [] x w = template_clean ok flags z ln 0 0 [] tt
    clean_assign ln (t ∷ ts) x w =
        let s = clean_befores ln t ts (clean_stores ln (t ∷ ts) (front (target_all b (t ∷ ts)) (read b x) w)) in
        template_clean ok flags z ln 0 0
        (Alone (value n ln x) ∷ Alone (row (stores_before n ln t ts)) ∷ Alone (stored n ln (last_target t ts)) ∷
        []) (
          clean_value ln x (back (target_all b (t ∷ ts)) (read b x) w),
          (row_clean ok flags z (stores_before n ln t ts) s.0, (s.1, tt)),
        )

    pub clean_augment : (ln : ℕ) (t : Expr) (o : Operator) (x : Expr) → AllNoted (read b t ++ target b t ++ read b x) →
        Clean (add_at ln (coded n ln t).place (operator o) (value n ln x))
    clean_augment ln t o x w = (expr_clean ok flags z n b names kind cls to go holds free t).add ln (operator o)
        (value n ln x) (front (read b t) (target b t) (front (read b t ++ target b t) (read b x) w))
        (clean_value ln x (back (read b t ++ target b t) (read b x) w))

    clean_prints : (ln : ℕ) (vs : List Piece) → Every Clean vs → Every Clean (map (print_one ln) vs)
    clean_prints ln [] h = tt
    clean_prints ln (v ∷ vs) h = (
      template_clean ok flags z ln 0 0 (Alone v ∷ Op PrintItem ∷ []) (h.0, (tt, tt)),
      clean_prints ln vs h.1,
    )

    pub clean_print : (ln : ℕ) (xs : List Expr) (c : Bool) → AllNoted (read_all b xs) → Clean (printed n ln xs c)
    clean_print ln xs true w = row_clean ok flags z (map (print_one ln) (values n ln xs))
        (clean_prints ln (values n ln xs) (clean_values ln xs w))
    clean_print ln xs false w = template_clean ok flags z ln 0 0
        (Alone (row (map (print_one ln) (values n ln xs))) ∷ Op PrintNewline ∷ []) (
          row_clean ok flags z (map (print_one ln) (values n ln xs))
              (clean_prints ln (values n ln xs) (clean_values ln xs w)),
          (tt, tt),
        )

    pub clean_raise : (ln : ℕ) (c : List Around) (x v : Option Expr) → AroundClean c →
        AllNoted (read_some b x ++ read_some b v) → Clean (raised n ln c x v)
    clean_raise ln c None v a w = again_clean ln c a
    clean_raise ln c (Some x) None a w =
        template_clean ok flags z ln 0 0 (Alone (value n ln x) ∷ Op (MakeRaised 0) ∷ Op Raise ∷ [])
        (clean_value ln x (front (read b x) [] w), (tt, (tt, tt)))
    clean_raise ln c (Some x) (Some v) a w =
        template_clean ok flags z ln 0 0
        (Alone (value n ln x) ∷ Alone (value n ln v) ∷ Op (MakeRaised 1) ∷ Op Raise ∷ []) (
          clean_value ln x (front (read b x) (read b v) w),
          (clean_value ln v (back (read b x) (read b v) w), (tt, (tt, tt))),
        )

    pub clean_del : (ln : ℕ) (ts : List Expr) → AllNoted (target_all b ts) → Clean (deletion ln (all_deleted n ln ts))
    clean_del ln ts w = template_clean ok flags z ln 0 0 (Alone (row (all_deleted n ln ts)) ∷ [])
        (row_clean ok flags z (all_deleted n ln ts) (clean_deletes ln ts w), tt)

    pub clean_assert : (ln : ℕ) (t : Expr) (m : Option Expr) → AllNoted (read b t ++ read_some b m) →
        Clean (asserted n ln t m)
    clean_assert ln t None w = template_clean ok flags z ln 0 1
        (Alone (value n ln t) ∷ Op Not ∷ To 0 JumpFalse E ∷ Op (Const (Root 13)) ∷ Op (MakeRaised 0) ∷ Op Raise ∷ Here
        E ∷ []) (clean_value ln t (front (read b t) [] w), (tt, ((λ q. tt), (tt, (tt, (tt, (tt, tt)))))))
    clean_assert ln t (Some m) w = template_clean ok flags z ln 0 1
        (Alone (value n ln t) ∷ Op Not ∷ To 0 JumpFalse E ∷ Op (Const (Root 13)) ∷ Alone (value n ln m) ∷ Op (Call 1 0)
        ∷ Op Raise ∷ Here E ∷ []) (
          clean_value ln t (front (read b t) (read b m) w),
          (tt, ((λ q. tt), (tt, (clean_value ln m (back (read b t) (read b m) w), (tt, (tt, (tt, tt))))))),
        )

    clean_import : (ln : ℕ) (k : Constant) (x : List ℕ) → Clean (import_one ln k (home n x))
    clean_import ln k x = template_clean ok flags z ln 0 0 (Op (Const k) ∷ Op (store (home n x)) ∷ [])
        (tt, (name_store x, tt))

    clean_imports : (ln : ℕ) (is : List Imported) → Every Clean (imported n ln is)
    clean_imports ln [] = tt
    clean_imports ln (i ∷ is) = (clean_import ln (library i.name) (bound_name i.name i.bound), clean_imports ln is)

    clean_froms : (ln : ℕ) (is : List Imported) → Every Clean (taken_from n ln is)
    clean_froms ln [] = tt
    clean_froms ln (i ∷ is) = (clean_import ln (member i.name) (bound_name i.name i.bound), clean_froms ln is)

    pub clean_import_all : (ln : ℕ) (is : List Imported) → Clean (row (imported n ln is))
    clean_import_all ln is = row_clean ok flags z (imported n ln is) (clean_imports ln is)

    pub clean_from_all : (ln : ℕ) (is : List Imported) → Clean (row (taken_from n ln is))
    clean_from_all ln is = row_clean ok flags z (taken_from n ln is) (clean_froms ln is)

    defaults_note : (ps : List Param) → AllNoted (read_defaults b ps) → AllNoted (read_all b (defaults ps))
    defaults_note [] w = tt
    defaults_note (q ∷ ps) w = by_default q.default (front (read_some b q.default) (read_defaults b ps) w)
        (defaults_note ps (back (read_some b q.default) (read_defaults b ps) w))
      where
        by_default : (d : Option Expr) → AllNoted (read_some b d) → AllNoted (read_all b (defaults ps)) →
            AllNoted (read_all b (default_or d (defaults ps)))
        by_default None s r = r
        by_default (Some x) s r = every_join (NoteOk to go) (read b x) (read_all b (defaults ps)) s r

    pub clean_def : (ln : ℕ) (x : List ℕ) (ps : List Param) (f : ℕ) → (0 < f) × (flags f ≡ false) →
        AllNoted (read_defaults b ps) → Clean (def ln (values n ln (defaults ps)) f (home n x))
    clean_def ln x ps f q w = template_clean ok flags z ln 0 0
        (Alone (row (values n ln (defaults ps))) ∷ Op (MakeFunction f (length (values n ln (defaults ps)))) ∷ Op
        (store (home n x)) ∷ []) (
          row_clean ok flags z (values n ln (defaults ps))
              (clean_values ln (defaults ps) (defaults_note ps w)),
          (q, (name_store x, tt)),
        )

    clean_base : (ln : ℕ) (x : Option Expr) → AllNoted (read_some b x) → Clean (base n ln x)
    clean_base ln None w = one_clean ok flags z ln (Const (Root 1)) tt
    clean_base ln (Some x) w = clean_value ln x w

    pub clean_class : (ln : ℕ) (x : List ℕ) (e : Option Expr) (f : ℕ) → (0 < f) × (flags f ≡ true) →
        AllNoted (read_some b e)
        → Clean (class ln (base n ln e) f (home n x))
    clean_class ln x e f q w = template_clean ok flags z ln 0 0
        (Alone (base n ln e) ∷ Op (ClassBody f) ∷ Op (store (home n x)) ∷ [])
        (clean_base ln e w, (q, (name_store x, tt)))

    pub clean_clause : (ln : ℕ) (e t : Option Expr) (d : Piece) → AllNoted (read_some b e) →
        AllNoted (target_some b t) → Clean d →
        Clean (clause n ln e t d)
    clean_clause ln None t d we wt c = template_clean ok flags z ln 0 0 (Sub 1 d ∷ To 1 Jump E ∷ [])
        (c, ((λ q. tt), tt))
    clean_clause ln (Some e) None d we wt c =
        template_clean ok flags z ln 0 1
        (Hidden 1 LoadLocal ∷ Alone (value n ln e) ∷ Op ExcMatch ∷ To 0 JumpFalse M ∷ Sub 1 d ∷ To 1 Jump E ∷ Here M ∷
        []) ((λ s. tt), (clean_value ln e we, (tt, ((λ q. tt), (c, ((λ q. tt), (tt, tt)))))))
    clean_clause ln (Some e) (Some t) d we wt c =
        template_clean ok flags z ln 0 1
        (Hidden 1 LoadLocal ∷ Alone (value n ln e) ∷ Op ExcMatch ∷ To 0 JumpFalse M ∷ Hidden 1 LoadLocal ∷ Alone
        (stored n ln t) ∷ Sub 1 d ∷ To 1 Jump E ∷ Here M ∷ []) (
          (λ s. tt),
          (
            clean_value ln e we,
            (tt, ((λ q. tt), ((λ s. tt), (clean_store ln t wt, (c, ((λ q. tt), (tt, tt))))))),
          ),
        )
