-- Simple statements of a body whose uses have numbers lead from a shape to itself.
use Rattle.std.proofs.Common.{◌≡◌, ◌&&◌, ℕ, ◌<◌, List, [], ◌∷◌, ◌++◌, Option, Some, None, Bool, true, false, refl, arith, map}
use Rattle.std.specs.Prelude.{if◌then◌else◌}
use Rattle.std.specs.Str.{bytes_eq}
use Rattle.std.specs.Prelude.{codes}
use Rattle.std.proofs.lemmas.Bool.{and_parts}
use Rattle.py_base.specs.declared.builtin.TheConstants.{ALLOCATE_LOCK, LOCK, START_NEW_THREAD, THREAD, THREADING_MODULE, THREAD_MODULE}
use Rattle.py_code.specs.declared.instr.Constant.{Constant}
use Rattle.py_code.specs.declared.instr.Constant.TheVariants.{Root, Builtin}
use Rattle.py_code.specs.declared.instr.Instr.TheVariants.{Const}
use Rattle.py_code.specs.Effects.{Limits, IsKnown, IsConstant}
use Rattle.py_tree.specs.declared.expr.Expr.{Expr}
use Rattle.py_tree.specs.declared.expr.Operator.{Operator}
use Rattle.py_tree.specs.declared.stmt.Imported.{Imported}
use Rattle.py_tree.specs.declared.stmt.Param.{Param}
use Rattle.py_tree.specs.Form.{form, is_single}
use Rattle.py_templates.specs.declared.home.Home.{Home}
use Rattle.py_templates.specs.Template.{Piece, Alone, row}
use Rattle.py_templates.specs.Table.{Around, expression, print_one, raise_one, raise_two, return, raise_again}
use Rattle.py_templates.specs.Names.{Known, home, library, member, text}
use Rattle.py_templates.specs.Expressions.{operator, coded, add_at, value, values, value_some, stored, all_stored, all_deleted}
use Rattle.py_templates.specs.Uses.{Use, Inside, name_bound, read, target, read_all, target_all, read_some, read_defaults, import_use}
use Rattle.py_templates.specs.Statements.{stores_before, last_target, assigned, printed, raised, asserted, imported, taken_from, deletion, default_or, defaults, base, bound_name}
use Rattle.compiler_laws.proofs.Sane.{sane, all_sane, sane_some}
use Rattle.compiler_laws.proofs.Legal.{is_target_of, are_targets, raises, sane_defaults}
use Rattle.compiler_laws.proofs.Ops.{sh}
use Rattle.py_templates.proofs.Typed.{template_typed}
use Rattle.compiler_laws.proofs.Values.{Each, Value, Store, Change, one_is, also_is}
use Rattle.compiler_laws.proofs.Surrounds.{Does, low, leaves_does, block_does, in_loop, in_clause}
use Rattle.compiler_laws.proofs.Blocks.{nothing_does, return_does, raise_again_does, assign_does, IsHome, expression_does, print_one_does, print_line_does, import_does, raise_one_does, raise_two_does, assert_with_does, assert_alone_does}
use Rattle.py_templates.proofs.ExprInduct.{Every, every_front, every_back, every_join}
use Rattle.py_templates.proofs.Homes.{Covered, IsHomed, home_bound}
use Rattle.compiler_laws.proofs.SmallNumbers.{operator_small}
use Rattle.compiler_laws.proofs.ExprTyped.{expr_ok, all_ok, if_ok, values_ok, stores_ok, deletes_ok, some_ok}
use Rattle.compiler_laws.proofs.World.{known, inside, lim, Covers, Wide, wide_to, HasNone, Slotted, fits, first_list}

-- what library modules and their members are is known
library_known : (k : Limits) (m : List ℕ) → IsKnown k (Const (library m))
library_known k m = by_test (bytes_eq m (codes "thread"))
  where
    by_test : (b : Bool) → IsConstant k (if b then Builtin THREAD_MODULE else Builtin THREADING_MODULE)
    by_test true = omega arith
    by_test false = omega arith

either : (k : Limits) (b : Bool) (x y : Constant) → IsConstant k x → IsConstant k y → IsConstant k (if b then x else y)
either k true x y h g = h
either k false x y h g = g

member_known : (k : Limits) (m : List ℕ) → 20 < k.cells → IsKnown k (Const (member m))
member_known k m lt =
    let y4 : Constant = if bytes_eq m (codes "Thread") then Builtin THREAD else Builtin LOCK in
    let y3 : Constant = if bytes_eq m (codes "error") then Root 20 else y4 in
    let y2 : Constant = if bytes_eq m (codes "allocate_lock") then Builtin ALLOCATE_LOCK else y3 in
    let k4 : IsConstant k y4 = either k (bytes_eq m (codes "Thread")) (Builtin THREAD) (Builtin LOCK) (omega arith)
    (omega arith) in
    let k3 : IsConstant k y3 = either k (bytes_eq m (codes "error")) (Root 20) y4 (omega arith, lt) k4 in
    let k2 : IsConstant k y2 = either k (bytes_eq m (codes "allocate_lock")) (Builtin ALLOCATE_LOCK) y3 (omega arith)
    k3 in
    either k (bytes_eq m (codes "start_new_thread")) (Builtin START_NEW_THREAD) y2 (omega arith) k2

-- a deletion hangs on nothing round it
pub deletion_does : (k : Limits) (ln : ℕ) (c : List Around) (ts : List Piece) → Does k [] (row ts) →
    Does k c (deletion ln ts)
deletion_does k ln c ts d = record {
  typed = λ gs h bs f room. template_typed k ln 0 0 (Alone (row ts) ∷ []) [] gs _ _
      refl refl (sh h bs, d.typed [] h bs (low k c gs h bs f) (omega (arith, room)), refl);
}

pub homed_is : (k : Limits) (ln : ℕ) (x : Home) → IsHomed k x → IsHome k ln x
homed_is k ln x i = (
  i.load_flow,
  i.load_pops,
  i.load_pushes,
  i.load_known,
  i.store_flow,
  i.store_pops,
  i.store_pushes,
  i.store_known,
)

prints : (k : Limits) (ln : ℕ) (c : List Around) (vs : List Piece) → Each (Value k) vs →
    Each (Does k c) (map (print_one ln) vs)
prints k ln c [] h = tt
prints k ln c (v ∷ vs) h = (print_one_does k ln c v h.0, prints k ln c vs h.1)

befores : (k : Limits) (n : Known) (ln : ℕ) (t : Expr) (ts : List Expr) → Each (Store k) (all_stored n ln (t ∷ ts)) →
    Each (Change k) (stores_before n ln t ts) × Store k (stored n ln (last_target t ts))
befores k n ln t [] h = (tt, h.0)
befores k n ln t (u ∷ us) h = let r = befores k n ln u us h.1 in ((also_is k ln (stored n ln t) h.0, r.0), r.1)

module _ (locals : ℕ → List (List ℕ)) (texts cells : List (List ℕ)) (keys : ℕ → List (List (List ℕ))) (params : List ℕ)
    (none : HasNone locals texts cells keys params) (j : ℕ) (z : Bool) (sl p : ℕ)
    (slotted : Slotted locals texts cells keys params j z sl) where
  abbrev limits : Limits
  limits = lim locals texts cells keys params j sl p

  abbrev knows : Known
  knows = known locals texts cells keys params j z

  abbrev within : Inside
  within = inside locals texts cells keys params j z

  abbrev AllNumbered : List Use → Type 0
  AllNumbered us = Wide locals texts cells keys params us

  wide : (us : List Use) → AllNumbered us → Every (Covered limits knows within) us
  wide us w = wide_to locals texts cells keys params j z sl p us w

  front : (a c : List Use) → AllNumbered (a ++ c) → AllNumbered a
  front a c w = every_front (Covers locals texts cells keys params) a c w

  back : (a c : List Use) → AllNumbered (a ++ c) → AllNumbered c
  back a c w = every_back (Covers locals texts cells keys params) a c w

  -- expressions
  pub value_here : (ln : ℕ) (x : Expr) → sane x ≡ true → AllNumbered (read within x) → Value limits (value knows ln x)
  value_here ln x s w =
      (expr_ok limits knows within (fits locals texts cells keys params none j z sl p slotted) x).value ln s
      (wide (read within x) w)

  pub values_here : (ln : ℕ) (xs : List Expr) → all_sane xs ≡ true → AllNumbered (read_all within xs) →
      Each (Value limits) (values knows ln xs)
  values_here ln xs s w = let f = fits locals texts cells keys params none j z sl p slotted in
      values_ok limits knows within f ln xs (all_ok limits knows within f xs) s (wide (read_all within xs) w)

  pub some_here : (ln : ℕ) (x : Option Expr) → sane_some x ≡ true → AllNumbered (read_some within x) →
      Value limits (value_some knows ln x)
  some_here ln x s w = let f = fits locals texts cells keys params none j z sl p slotted in
      some_ok limits knows within f ln x (if_ok limits knows within f x) s (wide (read_some within x) w)

  pub store_here : (ln : ℕ) (x : Expr) → is_target_of x ≡ true → AllNumbered (target within x) →
      Store limits (stored knows ln x)
  store_here ln x h w = let q = and_parts _ (sane x) h in
      ((expr_ok limits knows within (fits locals texts cells keys params none j z sl p slotted) x).place ln q.0 q.1
      (wide (target within x) w)).store

  pub stores_here : (ln : ℕ) (xs : List Expr) → are_targets xs ≡ true → AllNumbered (target_all within xs) →
      Each (Store limits) (all_stored knows ln xs)
  stores_here ln xs h w = let q = and_parts _ (all_sane xs) h in let f =
      fits locals texts cells keys params none j z sl p slotted in
      stores_ok limits knows within f ln xs (all_ok limits knows within f xs) q.0 q.1 (wide (target_all within xs) w)

  pub deletes_here : (ln : ℕ) (xs : List Expr) → are_targets xs ≡ true → AllNumbered (target_all within xs) →
      Each (Does limits []) (all_deleted knows ln xs)
  deletes_here ln xs h w = let q = and_parts _ (all_sane xs) h in let f =
      fits locals texts cells keys params none j z sl p slotted in
      deletes_ok limits knows within f ln xs (all_ok limits knows within f xs) q.0 q.1 (wide (target_all within xs) w)

  pub home_here : (x : List ℕ) → AllNumbered (name_bound within x) → IsHomed limits (home knows x)
  home_here x w = home_bound limits knows within (fits locals texts cells keys params none j z sl p slotted) x
      (wide (name_bound within x) w)

  cells_here : 20 < limits.cells
  cells_here = omega arith

  -- simple statements
  pub do_here : (c : List Around) (ln : ℕ) (x : Expr) → sane x ≡ true → AllNumbered (read within x) →
      Does limits c (expression ln (value knows ln x))
  do_here c ln x s w = expression_does limits ln c (value knows ln x) (value_here ln x s w)

  pub assign_here : (c : List Around) (ln : ℕ) (ts : List Expr) (x : Expr) → (are_targets ts && sane x) ≡ true →
      AllNumbered (target_all within ts ++ read within x) → Does limits c (assigned knows ln ts x)
  assign_here c ln [] x h w = nothing_does limits ln c
  assign_here c ln (t ∷ ts) x h w =
      let q = and_parts (are_targets (t ∷ ts)) (sane x) h in
      let s = befores limits knows ln t ts
      (stores_here ln (t ∷ ts) q.0 (front (target_all within (t ∷ ts)) (read within x) w)) in
      assign_does limits ln c (value knows ln x) (stores_before knows ln t ts) (stored knows ln (last_target t ts))
      (value_here ln x q.1 (back (target_all within (t ∷ ts)) (read within x) w)) s.0 s.1

  pub augment_here : (c : List Around) (ln : ℕ) (t : Expr) (o : Operator) (x : Expr) →
      ((is_single false (form t) && sane t) && sane x) ≡ true →
      AllNumbered (read within t ++ target within t ++ read within x) →
      Does limits c (add_at ln (coded knows ln t).place (operator o) (value knows ln x))
  augment_here c ln t o x h w =
      let q = and_parts (is_single false (form t) && sane t) (sane x) h in
      let r = and_parts (is_single false (form t)) (sane t) q.0 in
      let u = back (read within t) (target within t) (front (read within t ++ target within t) (read within x) w) in
      ((expr_ok limits knows within (fits locals texts cells keys params none j z sl p slotted) t).add ln r.0 r.1
      (wide (target within t) u)).add c (operator o) (value knows ln x) (operator_small o)
      (value_here ln x q.1 (back (read within t ++ target within t) (read within x) w))

  pub print_here : (c : List Around) (ln : ℕ) (xs : List Expr) (b : Bool) → all_sane xs ≡ true →
      AllNumbered (read_all within xs) →
      Does limits c (printed knows ln xs b)
  print_here c ln xs true s w = block_does limits c (map (print_one ln) (values knows ln xs))
      (prints limits ln c (values knows ln xs) (values_here ln xs s w))
  print_here c ln xs false s w = print_line_does limits ln c (values knows ln xs) (values_here ln xs s w)

  pub return_here : (c : List Around) (ln : ℕ) (x : Option Expr) → sane_some x ≡ true →
      AllNumbered (read_some within x) →
      Does limits c (return ln (value_some knows ln x) c)
  return_here c ln x s w = leaves_does limits c (return ln (value_some knows ln x) c)
      (return_does limits ln (value_some knows ln x) c (some_here ln x s w))

  pub raise_here : (c : List Around) (ln : ℕ) (x v : Option Expr) → raises x v (in_loop limits c) (in_clause limits c)
      ≡ true →
      AllNumbered (read_some within x ++ read_some within v) → Does limits c (raised knows ln c x v)
  raise_here c ln None v h w = leaves_does limits c (raise_again ln c) (raise_again_does limits ln c h)
  raise_here c ln (Some x) None h w = let q = and_parts (sane x) true h in
      leaves_does limits c (raise_one ln (value knows ln x))
      (raise_one_does limits ln c (value knows ln x) (value_here ln x q.0 (front (read within x) [] w)))
  raise_here c ln (Some x) (Some v) h w = let q = and_parts (sane x) (sane v) h in
      leaves_does limits c (raise_two ln (value knows ln x) (value knows ln v))
      (raise_two_does limits ln c (value knows ln x) (value knows ln v)
      (value_here ln x q.0 (front (read within x) (read within v) w))
      (value_here ln v q.1 (back (read within x) (read within v) w)))

  pub del_here : (c : List Around) (ln : ℕ) (ts : List Expr) → are_targets ts ≡ true →
      AllNumbered (target_all within ts) →
      Does limits c (deletion ln (all_deleted knows ln ts))
  del_here c ln ts h w = deletion_does limits ln c (all_deleted knows ln ts)
      (block_does limits [] (all_deleted knows ln ts) (deletes_here ln ts h w))

  pub assert_here : (c : List Around) (ln : ℕ) (t : Expr) (m : Option Expr) → (sane t && sane_some m) ≡ true →
      AllNumbered (read within t ++ read_some within m) → Does limits c (asserted knows ln t m)
  assert_here c ln t None h w = let q = and_parts (sane t) true h in
      assert_alone_does limits ln c (value knows ln t) (omega arith) (value_here ln t q.0 (front (read within t) [] w))
  assert_here c ln t (Some m) h w =
      let q = and_parts (sane t) (sane m) h in
      let f = first_list locals texts cells keys params (keys j) (none j).0 (text knows) (none j).1 in
      assert_with_does limits ln c (value knows ln t) (value knows ln m) (omega arith) f.0 f.1
      (value_here ln t q.0 (front (read within t) (read within m) w))
      (value_here ln m q.1 (back (read within t) (read within m) w))

  imports_here : (c : List Around) (ln : ℕ) (is : List Imported) → AllNumbered (import_use within is) →
      Each (Does limits c) (imported knows ln is)
  imports_here c ln [] w = tt
  imports_here c ln (i ∷ is) w =
      let x = bound_name i.name i.bound in (
        import_does limits ln c (library i.name) (home knows x)
            (homed_is limits ln (home knows x) (home_here x (front (name_bound within x) (import_use within is) w)))
            (library_known limits i.name),
        imports_here c ln is (back (name_bound within x) (import_use within is) w),
      )

  pub import_here : (c : List Around) (ln : ℕ) (is : List Imported) → AllNumbered (import_use within is) →
      Does limits c (row (imported knows ln is))
  import_here c ln is w = block_does limits c (imported knows ln is) (imports_here c ln is w)

  froms_here : (c : List Around) (ln : ℕ) (is : List Imported) → AllNumbered (import_use within is) →
      Each (Does limits c) (taken_from knows ln is)
  froms_here c ln [] w = tt
  froms_here c ln (i ∷ is) w =
      let x = bound_name i.name i.bound in (
        import_does limits ln c (member i.name) (home knows x)
            (homed_is limits ln (home knows x) (home_here x (front (name_bound within x) (import_use within is) w)))
            (member_known limits i.name cells_here),
        froms_here c ln is (back (name_bound within x) (import_use within is) w),
      )

  pub from_here : (c : List Around) (ln : ℕ) (is : List Imported) → AllNumbered (import_use within is) →
      Does limits c (row (taken_from knows ln is))
  from_here c ln is w = block_does limits c (taken_from knows ln is) (froms_here c ln is w)

  -- defaults and a base
  defaults_sane : (ps : List Param) → sane_defaults ps ≡ true → all_sane (defaults ps) ≡ true
  defaults_sane [] h = refl
  defaults_sane (q ∷ ps) h = by_default q.default (and_parts (sane_some q.default) (sane_defaults ps) h).0
      (defaults_sane ps (and_parts (sane_some q.default) (sane_defaults ps) h).1)
    where
      by_default : (d : Option Expr) → sane_some d ≡ true → all_sane (defaults ps) ≡ true →
          all_sane (default_or d (defaults ps)) ≡ true
      by_default None s r = r
      by_default (Some x) s r = rw s r

  defaults_wide : (ps : List Param) → AllNumbered (read_defaults within ps) →
      AllNumbered (read_all within (defaults ps))
  defaults_wide [] w = tt
  defaults_wide (q ∷ ps) w = by_default q.default (front (read_some within q.default) (read_defaults within ps) w)
      (defaults_wide ps (back (read_some within q.default) (read_defaults within ps) w))
    where
      by_default : (d : Option Expr) → AllNumbered (read_some within d) → AllNumbered (read_all within (defaults ps)) →
          AllNumbered (read_all within (default_or d (defaults ps)))
      by_default None s r = r
      by_default (Some x) s r = every_join (Covers locals texts cells keys params) (read within x)
          (read_all within (defaults ps)) s r

  pub defaults_here : (ln : ℕ) (ps : List Param) → sane_defaults ps ≡ true → AllNumbered (read_defaults within ps) →
      Each (Value limits) (values knows ln (defaults ps))
  defaults_here ln ps s w = values_here ln (defaults ps) (defaults_sane ps s) (defaults_wide ps w)

  pub base_here : (ln : ℕ) (x : Option Expr) → sane_some x ≡ true → AllNumbered (read_some within x) →
      Value limits (base knows ln x)
  base_here ln None s w = one_is limits ln (Const (Root 1)) (refl, refl, refl, (omega arith, omega arith))
  base_here ln (Some x) s w = value_here ln x s w
