-- The events of a legal module begin its bodies, in the order of the bodies, and those of a `def` begin with its
-- parameters.
use Rattle.std.proofs.Common.{◌≡◌, ◌&&◌, ℕ, ◌+◌, Bool, true, false, not, List, [], ◌∷◌, ◌++◌, length, Option, Some, None, refl, sym, ap, ◌∙◌, subst, append_assoc, append-nil}
use Rattle.std.proofs.lemmas.Bool.{and_parts}
use Rattle.py_tree.specs.declared.expr.Expr.{Expr}
use Rattle.py_tree.specs.declared.stmt.Stmt.{Stmt}
use Rattle.py_tree.specs.declared.stmt.Stmt.TheVariants as s
use Rattle.py_tree.specs.declared.stmt.Param.{Param}
use Rattle.py_tree.specs.declared.stmt.Arm.{Arm}
use Rattle.py_tree.specs.declared.stmt.Clause.{Clause}
use Rattle.py_tree.specs.declared.stmt.Handler.{Handler}
use Rattle.py_tree.specs.declared.stmt.Module.{Module}
use Rattle.py_names.specs.declared.event.Event.{Event}
use Rattle.py_names.specs.declared.event.Event.TheVariants.{Enter, Leave}
use Rattle.py_names.specs.declared.event.BodyKind.{BodyKind}
use Rattle.py_names.specs.declared.event.BodyKind.TheVariants as kind
use Rattle.py_names.specs.declared.statement.Where.{Where}
use Rattle.py_names.specs.Outline.{bound_name, read, target, read_some, target_some, outside, inside_function, inside_loop, inside_finally, inside_clause, parameters, takes, says, says_block, says_arm, says_arms, says_clause, says_handler, says_handlers, outline}
use Rattle.py_names.proofs.Says.{says_do, says_assign, says_augment, says_print, says_pass, says_break, says_continue, says_return, says_raise, says_del, says_global, says_assert, says_import, says_from, says_if, says_while, says_for, says_try, says_def, says_class}
use Rattle.py_templates.specs.Statements.{Body, inners, armed_count, armed_inner, handled_inner, inner_body, stated, all_stated, stated_arms, stated_handlers, count}
use Rattle.py_templates.specs.inner.Compounds.{otherwise, tried_of}
use Rattle.py_templates.specs.Whole.{bodies}
use Rattle.py_templates.proofs.Stateds.{stated_do, stated_assign, stated_augment, stated_print, stated_pass, stated_break, stated_continue, stated_return, stated_raise, stated_del, stated_global, stated_assert, stated_import, stated_from, stated_if, stated_while, stated_for, inner_try, stated_def, stated_class}
use Rattle.compiler_laws.proofs.Sane.{sane, sane_some}
use Rattle.compiler_laws.proofs.Legal.{is_target_of, sane_defaults, target_some as fits_target, legal, legal_all}
use Rattle.compiler_laws.proofs.LegalRows.{legal_arms, legal_clause, legal_handlers, clause_there, legal_if, legal_while, legal_for, legal_try, legal_def, legal_class}
use Rattle.py_templates.proofs.ExprInduct.{Every, IfThere, every_of}
use Rattle.compiler_laws.proofs.StmtInduct.{OfArm, OfClause, OfHandler, Cases, stmt_induct}
use Rattle.compiler_laws.proofs.OrdinaryEvents.{Ordinary, AllOrdinary, ordinary_nil, ordinary_cons, ordinary_join, bound_ordinary, only_ordinary, imported_ordinary, declares_ordinary, read_ordinary, target_ordinary, read_all_ordinary, target_all_ordinary, read_some_ordinary, target_some_ordinary, raises_ordinary}

-- Events that begin these bodies, one after another. Those of a `def` stand behind the check of its parameters, and
-- begin with them; other bodies have no parameters.
pub data Begin : List Body → List Event → Type 0 where
  NoMore : Begin [] []
  Beside : {ys : List Body} {e : Event} {es : List Event} → Ordinary e → Begin ys es → Begin ys (e ∷ es)
  Bare : {y : Body} {ys : List Body} {es : List Event} (k : BodyKind) → y.params ≡ 0 → Begin ys es →
      Begin (y ∷ ys) (Enter k ∷ es)
  Taking : {y : Body} {ys : List Body} {es : List Event} (l : ℕ) (ps : List Param) → y.params ≡ length ps →
      y.is_class ≡ false → Begin ys es → Begin (y ∷ ys) (parameters l [] ps ++ (Enter kind.Function ∷ (takes ps ++ es)))

-- ---- one after another

ordinary_then : {ys : List Body} (a es : List Event) → AllOrdinary a → Begin ys es → Begin ys (a ++ es)
ordinary_then [] es h b = b
ordinary_then (e ∷ a) es h b = Beside h.each.0 (ordinary_then a es (record { each = h.each.1 }) b)

join : {ys zs : List Body} {es fs : List Event} → Begin ys es → Begin zs fs → Begin (ys ++ zs) (es ++ fs)
join NoMore d = d
join (Beside h b) d = Beside h (join b d)
join (Bare k p b) d = Bare k p (join b d)
join {ys = ys} {zs = zs} {fs = fs} (Taking {y = y} {ys = ys'} {es = es'} l ps p c b) d =
    let front = parameters l [] ps in
    let parts : front ++ (Enter kind.Function ∷ (takes ps ++ (es' ++ fs))) ≡
    (front ++ (Enter kind.Function ∷ (takes ps ++ es'))) ++ fs =
    ap (λ x. front ++ (Enter kind.Function ∷ x)) (sym (append_assoc (takes ps) es' fs)) ∙
    sym (append_assoc front (Enter kind.Function ∷ (takes ps ++ es')) fs) in
    subst (Begin (y ∷ (ys' ++ zs))) parts (Taking l ps p c (join b d))

none_begun : (es : List Event) → AllOrdinary es → Begin [] es
none_begun es h = subst (Begin []) (append-nil es) (ordinary_then es [] h NoMore)

then_ordinary : {ys : List Body} {es : List Event} (a : List Event) → Begin ys es → AllOrdinary a → Begin ys (es ++ a)
then_ordinary {ys = ys} {es = es} a b h = subst (λ x. Begin x (es ++ a)) (append-nil ys) (join b (none_begun a h))

-- ---- statements

-- Wherever a legal statement stands (l: inside a loop; c: inside an except clause), and whatever numbers its bodies
-- have, from f on. One that isn't legal may have a `try` with an else and no except clause, whose code leaves the else
-- out.
pub record Begins (x : Stmt) : Type 0 where
  pub begun : (f : ℕ) (w : Where) (l c : Bool) → legal x l c ≡ true → Begin ((stated x).inner f) (says x w)

begins_as : (x : Stmt) (g : ℕ → List Body) (v : Where → List Event) → ((f : ℕ) → (stated x).inner f ≡ g f) →
    ((w : Where) → says x w ≡ v w) → ((f : ℕ) (w : Where) (l c : Bool) → legal x l c ≡ true → Begin (g f) (v w)) →
    Begins x
begins_as x g v inner is b = record {
  begun = λ f w l c h.
      subst (λ y. Begin y (says x w)) (sym (inner f)) (subst (Begin (g f)) (sym (is w)) (b f w l c h));
}

-- without bodies
without_bodies : (x : Stmt) (v : Where → List Event) → ((f : ℕ) → (stated x).inner f ≡ []) →
    ((w : Where) → says x w ≡ v w) → ((w : Where) → AllOrdinary (v w)) → Begins x
without_bodies x v inner is h = begins_as x (λ f. []) v inner is (λ f w l c g. none_begun (v w) (h w))

block_begun : (ss : List Stmt) → Every Begins ss → (f : ℕ) (w : Where) (l c : Bool) → legal_all ss l c ≡ true →
    Begin (inners (all_stated ss) f) (says_block ss w)
block_begun [] h f w l c g = NoMore
block_begun (x ∷ ss) h f w l c g =
    let q = and_parts (legal x l c) (legal_all ss l c) g in
    join (h.0.begun f w l c q.0) (block_begun ss h.1 (f + (stated x).bodies) w l c q.1)

clause_begun : (e : Option Clause) → IfThere (OfClause Begins) e → (f : ℕ) (w : Where) (l c : Bool) →
    legal_clause e l c ≡ true → Begin ((otherwise e).inner f) (says_clause e w)
clause_begun None h f w l c g = NoMore
clause_begun (Some e) h f w l c g = block_begun e.body h f w l c g

arm_begun : (a : Arm) → OfArm Begins a → (f : ℕ) (w : Where) (l c : Bool) →
    (sane a.test && legal_all a.body l c) ≡ true → Begin (inners (all_stated a.body) f) (says_arm a w)
arm_begun a h f w l c g = ordinary_then (read a.line a.test) (says_block a.body w) (read_ordinary a.line a.test)
    (block_begun a.body h f w l c (and_parts (sane a.test) (legal_all a.body l c) g).1)

arms_begun : (as' : List Arm) → Every (OfArm Begins) as' → (f : ℕ) (w : Where) (l c : Bool) → legal_arms as' l c ≡ true
    → Begin (armed_inner (stated_arms as') f) (says_arms as' w)
arms_begun [] h f w l c g = NoMore
arms_begun (a ∷ as') h f w l c g =
    let q = and_parts (sane a.test && legal_all a.body l c) (legal_arms as' l c) g in
    join (arm_begun a h.0 f w l c q.0) (arms_begun as' h.1 (f + count (all_stated a.body)) w l c q.1)

handlers_begun : (hs : List Handler) → Every (OfHandler Begins) hs → (f : ℕ) (w : Where) (l c : Bool) →
    legal_handlers hs l c ≡ true → Begin (handled_inner (stated_handlers hs) f) (says_handlers hs w)
handlers_begun [] h f w l c g = NoMore
handlers_begun (x ∷ hs) h f w l c g =
    let fits = sane_some x.test && fits_target x.target in
    let q = and_parts (fits && legal_all x.body l c) (legal_handlers hs l c) g in
    let front = read_some x.line x.test ++ target_some x.line x.target in
    let head : Begin (inners (all_stated x.body) f) (says_handler x w) =
    ordinary_then front (says_block x.body w)
    (ordinary_join (read_some_ordinary x.line x.test) (target_some_ordinary x.line x.target))
    (block_begun x.body h.0 f w l c (and_parts fits (legal_all x.body l c) q.0).1) in
    join head (handlers_begun hs h.1 (f + count (all_stated x.body)) w l c q.1)

-- ---- compound statements

if_begins : (as' : List Arm) (e : Option Clause) → Every (OfArm Begins) as' → IfThere (OfClause Begins) e →
    Begins (s.If as' e)
if_begins as' e h g = begins_as (s.If as' e)
    (λ f. armed_inner (stated_arms as') f ++ (otherwise e).inner (f + armed_count (stated_arms as')))
    (λ w. says_arms as' w ++ says_clause e w)
    (λ f. ap (λ z. z.inner f) (stated_if as' e)) (says_if as' e)
    (λ f w l c k. let q = and_parts (legal_arms as' l c) (legal_clause e l c) (sym (legal_if as' e l c) ∙ k) in
    join (arms_begun as' h f w l c q.0) (clause_begun e g (f + armed_count (stated_arms as')) w l c q.1))

while_begins : (a : Arm) (e : Option Clause) → OfArm Begins a → IfThere (OfClause Begins) e → Begins (s.While a e)
while_begins a e h g = begins_as (s.While a e)
    (λ f. inners (all_stated a.body) f ++ (otherwise e).inner (f + count (all_stated a.body)))
    (λ w. says_arm a (inside_loop w) ++ says_clause e w)
    (λ f. ap (λ z. z.inner f) (stated_while a e)) (says_while a e)
    (λ f w l c k. let q = and_parts (sane a.test && legal_all a.body true c) (legal_clause e l c)
    (sym (legal_while a e l c) ∙ k) in
    join (arm_begun a h f (inside_loop w) true c q.0) (clause_begun e g (f + count (all_stated a.body)) w l c q.1))

for_begins : (n : ℕ) (t a : Expr) (ss : List Stmt) (e : Option Clause) → Every Begins ss → IfThere (OfClause Begins) e
    → Begins (s.For n t a ss e)
for_begins n t a ss e h g = begins_as (s.For n t a ss e)
    (λ f. inners (all_stated ss) f ++ (otherwise e).inner (f + count (all_stated ss)))
    (λ w. target n t ++ read n a ++ says_block ss (inside_loop w) ++ says_clause e w)
    (λ f. ap (λ z. z.inner f) (stated_for n t a ss e)) (says_for n t a ss e)
    (λ f w l c k.
    let blocks = legal_all ss true c && legal_clause e l c in
    let q = and_parts (legal_all ss true c) (legal_clause e l c)
    (and_parts (is_target_of t && sane a) blocks (sym (legal_for n t a ss e l c) ∙ k)).1 in
    join (ordinary_then (target n t ++ read n a) (says_block ss (inside_loop w))
    (ordinary_join (target_ordinary n t) (read_ordinary n a)) (block_begun ss h f (inside_loop w) true c q.0))
    (clause_begun e g (f + count (all_stated ss)) w l c q.1))

-- a `try` without its finally: one without except clauses has no else
tried_begun : (t : Clause) (hs : List Handler) (e : Option Clause) → OfClause Begins t → Every (OfHandler Begins) hs →
    IfThere (OfClause Begins) e → (f : ℕ) (w : Where) (l c : Bool) → legal_all t.body l c ≡ true →
    legal_handlers hs l true ≡ true → legal_clause e l c ≡ true → clause_there hs e ≡ true →
    Begin ((tried_of t hs e).inner f) (says_block t.body w ++ says_handlers hs (inside_clause w) ++ says_clause e w)
tried_begun t [] None ht hh he f w l c qt qh qe there =
    then_ordinary [] (then_ordinary [] (block_begun t.body ht f w l c qt) ordinary_nil) ordinary_nil
tried_begun t [] (Some e) ht hh he f w l c qt qh qe there = absurd (cc)
tried_begun t (x ∷ hs) e ht hh he f w l c qt qh qe there =
    join (join (block_begun t.body ht f w l c qt) (handlers_begun (x ∷ hs) hh _ (inside_clause w) l true qh))
    (clause_begun e he _ w l c qe)

try_begins : (t : Clause) (hs : List Handler) (e d : Option Clause) → OfClause Begins t → Every (OfHandler Begins) hs →
    IfThere (OfClause Begins) e → IfThere (OfClause Begins) d → Begins (s.Try t hs e d)
try_begins t hs e d ht hh he hd = begins_as (s.Try t hs e d)
    (λ f. (tried_of t hs e).inner f ++ (otherwise d).inner (f + (tried_of t hs e).bodies))
    (λ w. says_block t.body w ++ says_handlers hs (inside_clause w) ++ says_clause e w ++ says_clause d
    (inside_finally w))
    (inner_try t hs e d) (says_try t hs e d)
    (λ f w l c k.
    let q = and_parts (legal_all t.body l c)
    (legal_handlers hs l true && (legal_clause e l c && (legal_clause d l c && clause_there hs e)))
    (sym (legal_try t hs e d l c) ∙ k) in
    let r = and_parts (legal_handlers hs l true) (legal_clause e l c && (legal_clause d l c && clause_there hs e)) q.1
    in
    let u = and_parts (legal_clause e l c) (legal_clause d l c && clause_there hs e) r.1 in
    let v = and_parts (legal_clause d l c) (clause_there hs e) u.1 in
    join (tried_begun t hs e ht hh he f w l c q.0 r.0 u.0 v.1)
    (clause_begun d hd (f + (tried_of t hs e).bodies) (inside_finally w) l c v.0))

five : {A : Type 0} (a b c d e : List A) → a ++ (b ++ (c ++ (d ++ e))) ≡ (((a ++ b) ++ c) ++ d) ++ e
five a b c d e = simp append_assoc refl

def_begins : (n : ℕ) (x : List ℕ) (ps : List Param) (ss : List Stmt) → Every Begins ss → Begins (s.Def n x ps ss)
def_begins n x ps ss h = begins_as (s.Def n x ps ss) (inner_body n x false (length ps) (all_stated ss))
    (λ w. bound_name n x ++ parameters n [] ps ++ Enter kind.Function ∷ takes ps ++ says_block ss inside_function ++
    Leave ∷ [])
    (λ f. ap (λ z. z.inner f) (stated_def n x ps ss)) (says_def n x ps ss)
    (λ f w l c k.
    let block = says_block ss inside_function in
    let q = and_parts (sane_defaults ps) (legal_all ss false false) (sym (legal_def n x ps ss l c) ∙ k) in
    let body = then_ordinary (Leave ∷ []) (block_begun ss h (f + 1) inside_function false false q.1)
    (ordinary_cons tt ordinary_nil) in
    subst (Begin (inner_body n x false (length ps) (all_stated ss) f))
    (five (bound_name n x) (parameters n [] ps) (Enter kind.Function ∷ takes ps) block (Leave ∷ []))
    (ordinary_then (bound_name n x) (parameters n [] ps ++ (Enter kind.Function ∷ (takes ps ++ (block ++ Leave ∷ []))))
    (bound_ordinary n x) (Taking n ps refl refl body)))

class_begins : (n : ℕ) (x : List ℕ) (a : Option Expr) (ss : List Stmt) → Every Begins ss → Begins (s.Class n x a ss)
class_begins n x a ss h = begins_as (s.Class n x a ss) (inner_body n x true 0 (all_stated ss))
    (λ w. bound_name n x ++ read_some n a ++ (Enter kind.Class ∷ []) ++ says_block ss outside ++ Leave ∷ [])
    (λ f. ap (λ z. z.inner f) (stated_class n x a ss)) (says_class n x a ss)
    (λ f w l c k.
    let block = says_block ss outside in
    let q = and_parts (sane_some a) (legal_all ss false false) (sym (legal_class n x a ss l c) ∙ k) in
    let body = then_ordinary (Leave ∷ []) (block_begun ss h (f + 1) outside false false q.1)
    (ordinary_cons tt ordinary_nil) in
    subst (Begin (inner_body n x true 0 (all_stated ss) f))
    (five (bound_name n x) (read_some n a) (Enter kind.Class ∷ []) block (Leave ∷ []))
    (ordinary_then (bound_name n x) (read_some n a ++ (Enter kind.Class ∷ (block ++ Leave ∷ []))) (bound_ordinary n x)
    (ordinary_then (read_some n a) (Enter kind.Class ∷ (block ++ Leave ∷ [])) (read_some_ordinary n a)
    (Bare kind.Class refl body))))

-- every statement

cases : Cases Begins
cases = record {
  do_case = λ n a. without_bodies (s.Do n a) (λ w. read n a) (λ f. ap (λ z. z.inner f) (stated_do n a)) (says_do n a)
      (λ w. read_ordinary n a);
  assign_case = λ n ts a. without_bodies (s.Assign n ts a) _ (λ f. ap (λ z. z.inner f) (stated_assign n ts a))
      (says_assign n ts a) (λ w. ordinary_join (target_all_ordinary n ts) (read_ordinary n a));
  augment_case = λ n t o a. without_bodies (s.Augment n t o a) _ (λ f. ap (λ z. z.inner f) (stated_augment n t o a))
      (says_augment n t o a) (λ w. ordinary_join (target_ordinary n t) (read_ordinary n a));
  print_case = λ n xs b. without_bodies (s.Print n xs b) _ (λ f. ap (λ z. z.inner f) (stated_print n xs b))
      (says_print n xs b) (λ w. read_all_ordinary n xs);
  pass_case = λ n. without_bodies (s.Pass n) _ (λ f. ap (λ z. z.inner f) (stated_pass n)) (says_pass n)
      (λ w. ordinary_nil);
  break_case = λ n. without_bodies (s.Break n) _ (λ f. ap (λ z. z.inner f) (stated_break n)) (says_break n)
      (λ w. only_ordinary w.in_loop n);
  continue_case = λ n. without_bodies (s.Continue n) _ (λ f. ap (λ z. z.inner f) (stated_continue n)) (says_continue n)
      (λ w. only_ordinary (w.in_loop && not w.in_finally) n);
  return_case = λ n a. without_bodies (s.Return n a) _ (λ f. ap (λ z. z.inner f) (stated_return n a)) (says_return n a)
      (λ w. ordinary_join (only_ordinary w.function n) (read_some_ordinary n a));
  raise_case = λ n a v. without_bodies (s.Raise n a v) _ (λ f. ap (λ z. z.inner f) (stated_raise n a v))
      (says_raise n a v) (raises_ordinary n a v);
  del_case = λ n ts. without_bodies (s.Del n ts) _ (λ f. ap (λ z. z.inner f) (stated_del n ts)) (says_del n ts)
      (λ w. target_all_ordinary n ts);
  global_case = λ n xs. without_bodies (s.Global n xs) _ (λ f. ap (λ z. z.inner f) (stated_global n xs))
      (says_global n xs) (λ w. declares_ordinary n xs);
  assert_case = λ n a m. without_bodies (s.Assert n a m) _ (λ f. ap (λ z. z.inner f) (stated_assert n a m))
      (says_assert n a m) (λ w. ordinary_join (read_ordinary n a) (read_some_ordinary n m));
  import_case = λ n is. without_bodies (s.Import n is) _ (λ f. ap (λ z. z.inner f) (stated_import n is))
      (says_import n is) (λ w. imported_ordinary n is);
  from_case = λ n x is. without_bodies (s.From n x is) _ (λ f. ap (λ z. z.inner f) (stated_from n x is))
      (says_from n x is) (λ w. imported_ordinary n is);
  if_case = if_begins;
  while_case = while_begins;
  for_case = for_begins;
  try_case = try_begins;
  def_case = def_begins;
  class_case = class_begins;
}

-- The module's own body begins first.
pub module_begun : (m : Module) → legal_all m.body false false ≡ true → Begin (bodies m.body) (outline m)
unfolding outline
module_begun m h =
    let block = block_begun m.body (every_of Begins (stmt_induct Begins cases) m.body) 1 outside false false h in
    Bare kind.Module refl (then_ordinary (Leave ∷ []) block (ordinary_cons tt ordinary_nil))
