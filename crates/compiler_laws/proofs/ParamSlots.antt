-- Each body of a legal module that has scopes has at most as many parameters as its code has named slots: the
-- parameters of a `def` differ, and each is a local name of its body.
use Rattle.std.proofs.Common.{◌≡◌, ◌||◌, ◌&&◌, not, ℕ, ◌+◌, ◌<◌, ◌≤◌, Bool, true, false, List, [], ◌∷◌, ◌++◌, length, get_or, Option, Some, None, Ok, refl, sym, ap, ◌∙◌, subst, arith, append_assoc, eq-eqb, eqb-true}
use Rattle.std.specs.Prelude.{if◌then◌else◌}
use Rattle.std.specs.List.{list_any}
use Rattle.std.specs.Str.{bytes_eq}
use Rattle.std.proofs.lemmas.Bool.{or_right}
use Rattle.std.proofs.lemmas.List.{get_or-map, length-map}
use Rattle.std.proofs.lemmas.List.Folds.{list_any-append}
use Rattle.std.proofs.lemmas.Option.{get_or_from_slice_get, slice_get_within}
use Rattle.std.proofs.lemmas.Slice.Eq.{bytes_eq-Decides}
use Rattle.py_base.specs.declared.refusal.Refusal.{Refusal}
use Rattle.py_base.specs.declared.refusal.Refusal.TheVariants.{Misplaced as misplaced}
use Rattle.py_tree.specs.declared.stmt.Param.{Param}
use Rattle.py_tree.specs.declared.stmt.Module.{Module}
use Rattle.py_names.specs.declared.event.Event.{Event}
use Rattle.py_names.specs.declared.event.Event.TheVariants.{Enter, Takes, Declares}
use Rattle.py_names.specs.declared.event.BodyKind.{BodyKind}
use Rattle.py_names.specs.declared.event.BodyKind.TheVariants as kind
use Rattle.py_names.specs.declared.scope.Scope.{Scope}
use Rattle.py_base.specs.NameLists.{has}
use Rattle.py_names.specs.Outline.{takes, parameters, outline}
use Rattle.py_names.specs.Scopes.{Names, inside_after, bodies_after, placed, bodies as body_count, is_first, said_in, parameter, binding, declaration, kind_after, kind_of, is_module, scope_of, body, AreScopes, is_parameter, refused, first_fault, fault}
use Rattle.py_names.specs.ScopeLaws.{names_it, binds, declares}
use Rattle.py_names.specs.Resolves.{Resolves}
use Rattle.py_names.proofs.ScopeLemmas.{local_law}
use Rattle.py_templates.specs.Statements.{Body}
use Rattle.py_templates.specs.Whole.{bodies, slots_named}
use Rattle.py_templates.specs.Compiles.{bound_in}
use Rattle.compiler_laws.proofs.Legal.{legal_all}
use Rattle.compiler_laws.proofs.Clear.{Clears, clear_front, first_parts, outline_clear}
use Rattle.compiler_laws.proofs.OrdinaryEvents.{Ordinary, AllOrdinary, parameters_ordinary}
use Rattle.compiler_laws.proofs.Begun.{Begin, NoMore, Beside, Bare, Taking, module_begun}
use Rattle.py_names.proofs.ScopeLemmas.{has-all}
use Rattle.compiler_laws.proofs.ParamNames.{param_names, params_differ, no_more}

-- each body has at most as many parameters as its code has named slots
abbrev pub ParamsFit : List (List (List ℕ)) → ℕ → List Body → Type 0
ParamsFit locals k [] = Unit {0}
ParamsFit locals k (y ∷ ys) = (y.params ≤ length (slots_named y.is_class (get_or locals k []))) × ParamsFit locals
    (k + 1) ys

-- ---- what is said in a body

-- behind an event, no body begins whose number is lower
later : (v : Event) (k n : ℕ) → k < n → k < bodies_after v n
later (Enter new) k n lt = omega (arith, lt)
later v k n lt = lt

no_new : (v : Event) (q : BodyKind) (k n : ℕ) (inside : List ℕ) → k < n → is_first k (inside_after v n inside) ≡ true →
    kind_after q v ≡ q
no_new (Enter new) q k n inside lt e = let same : n ≡ k = eqb-true n k e in absurd (omega (arith, lt, same))
no_new v q k n inside lt e = refl

-- so the kind of a body is told by the event that begins it
kind_kept : (q : BodyKind) (k : ℕ) (inside : List ℕ) (n : ℕ) (es : List Event) → k < n →
    kind_of q (said_in k (placed inside n es)) ≡ q
kind_kept q k inside n [] lt = refl
kind_kept q k inside n (v ∷ es) lt = by_test (is_first k (inside_after v n inside)) refl
    (kind_kept q k (inside_after v n inside) (bodies_after v n) es (later v k n lt))
  where
    more : List Event
    more = said_in k (placed (inside_after v n inside) (bodies_after v n) es)

    by_test : (b : Bool) → is_first k (inside_after v n inside) ≡ b → kind_of q more ≡ q →
        kind_of q (if b then v ∷ more else more) ≡ q
    by_test true e g = ap (λ z. kind_of z more) (no_new v q k n inside lt e) ∙ g
    by_test false e g = g

kind_behind : (q new : BodyKind) (front es : List Event) → kind_of q (front ++ (Enter new ∷ es)) ≡ kind_of new es
kind_behind q new [] es = refl
kind_behind q new (v ∷ front) es = kind_behind (kind_after q v) new front es

-- the parameters are said in the body that they open
takes_said : (k n : ℕ) (inside : List ℕ) (ps : List Param) (es : List Event) →
    said_in k (placed (k ∷ inside) n (takes ps ++ es)) ≡ takes ps ++ said_in k (placed (k ∷ inside) n es)
takes_said k n inside [] es = refl
takes_said k n inside (p ∷ ps) es =
    let more = said_in k (placed (k ∷ inside) n (takes ps ++ es)) in
    ap (λ b. if b then Takes p.name ∷ more else more) (eq-eqb k k refl) ∙
    ap (λ z. Takes p.name ∷ z) (takes_said k n inside ps es)

-- No `global` of a body names a parameter of it.
module _ (b : ℕ → Names) (k : ℕ) (x : List ℕ) (h : has x (b k).parameters ≡ true) where
  not_refused : (c : Bool) (r : Refusal) → (if c then Some r else None) ≡ None → c ≡ false
  not_refused true r e = absurd (cc)
  not_refused false r e = refl

  not_named : (inside : List ℕ) (y : List ℕ) → is_first k inside ≡ true → is_parameter b inside y ≡ false →
      bytes_eq x y ≡ false
  not_named [] y e q = absurd (cc)
  not_named (j ∷ inside) y e q = by_test (bytes_eq x y) refl
    where
      by_test : (c : Bool) → bytes_eq x y ≡ c → c ≡ false
      by_test true f =
          let same : x ≡ y = (bytes_eq-Decides x y).0 f in
          let body : j ≡ k = eqb-true j k e in
          sym h ∙ ap (λ z. has z (b k).parameters) same ∙ ap (λ i. has y (b i).parameters) (sym body) ∙ q
      by_test false f = refl

  not_declared : (v : Event) (inside : List ℕ) → is_first k inside ≡ true → refused b inside v ≡ None →
      names_it x (declaration v) ≡ false
  not_declared (Declares l y) inside e q = not_named inside y e (not_refused (is_parameter b inside y) (misplaced l) q)
  not_declared v inside e q = refl

  undeclared : (inside : List ℕ) (n : ℕ) (es : List Event) → first_fault b (placed inside n es) ≡ None →
      declares (said_in k (placed inside n es)) x ≡ false
  undeclared inside n [] q = refl
  undeclared inside n (v ∷ es) q =
      let p = first_parts (refused b (inside_after v n inside) v)
      (first_fault b (placed (inside_after v n inside) (bodies_after v n) es)) q in
      by_test (is_first k (inside_after v n inside)) refl p.0
      (undeclared (inside_after v n inside) (bodies_after v n) es p.1)
    where
      more : List Event
      more = said_in k (placed (inside_after v n inside) (bodies_after v n) es)

      by_test : (c : Bool) → is_first k (inside_after v n inside) ≡ c → refused b (inside_after v n inside) v ≡ None →
          declares more x ≡ false → declares (if c then v ∷ more else more) x ≡ false
      by_test true e f g = ap (λ z. z || declares more x) (not_declared v (inside_after v n inside) e f) ∙ g
      by_test false e f g = g

-- What the events of a body give (the names that it binds, or those of its parameters) has its parameters.
module _ (x : List ℕ) (f : Event → Option (List ℕ)) (given : (n : List ℕ) → f (Takes n) ≡ Some n) where
  takes_give : (ps : List Param) → list_any (λ v. names_it x (f v)) (takes ps) ≡ has x (param_names ps)
  takes_give [] = refl
  takes_give (p ∷ ps) = ap (λ o. names_it x o || list_any (λ v. names_it x (f v)) (takes ps)) (given p.name) ∙
      ap (λ z. bytes_eq x p.name || z) (takes_give ps)

  opened_gives : (ps : List Param) (front back : List Event) → has x (param_names ps) ≡ true →
      list_any (λ v. names_it x (f v)) (front ++ (Enter kind.Function ∷ (takes ps ++ back))) ≡ true
  opened_gives ps front back h =
      let test : Event → Bool = λ v. names_it x (f v) in
      let taken : list_any test (takes ps ++ back) ≡ true = list_any-append test (takes ps) back ∙
      ap (λ z. z || list_any test back) (takes_give ps ∙ h) in
      list_any-append test front (Enter kind.Function ∷ (takes ps ++ back))
      ∙ or_right (list_any test front) (list_any test (Enter kind.Function ∷ (takes ps ++ back)))
      (or_right (test (Enter kind.Function)) (list_any test (takes ps ++ back)) taken)

-- the names that a body binds
pub names_bound : (es : List Event) (scopes : List Scope) → AreScopes es scopes → (k : ℕ) → k < body_count 0 es →
    get_or (bound_in scopes) k [] ≡ (scope_of (body es k)).locals
names_bound es scopes are k within =
    let scope = scope_of (body es k) in
    let there = are.each k within in
    get_or-map (λ s. s.locals) scopes k scope [] (slice_get_within scopes k scope there) ∙
    ap (λ s. s.locals) (get_or_from_slice_get scopes k scope scope there)

-- ---- a module none of whose places is refused

bodies_rise : (n : ℕ) (es : List Event) → n ≤ body_count n es
bodies_rise n [] = omega arith
bodies_rise n (Enter new ∷ es) = omega (arith, bodies_rise (n + 1) es)
bodies_rise n (v ∷ es) = bodies_rise n es

-- a list is the end of another
record Ends (all es : List Event) : Type 0 where
  front : List Event
  is : all ≡ front ++ es

ends_next : (all : List Event) (v : Event) (es : List Event) (b : Bool) → Ends all (if b then v ∷ es else es) →
    Ends all es
ends_next all v es true h = record { front = h.front ++ v ∷ []; is = h.is ∙ sym (append_assoc h.front (v ∷ []) es) }
ends_next all v es false h = h

module _ (all : List Event) where
  abbrev said : ℕ → List Event
  said k = said_in k (placed [] 0 all)

  -- what is left of the module's events where n bodies began
  record Rest (n : ℕ) (es : List Event) : Type 0 where
    inside : List ℕ
    clear : Clears es
    count : body_count n es ≡ body_count 0 all
    ends : (k : ℕ) → Ends (said k) (said_in k (placed inside n es))

  step : (n : ℕ) (v : Event) (es : List Event) → Rest n (v ∷ es) → Rest (bodies_after v n) es
  step n v es r =
      let inside = inside_after v n r.inside in
      record {
        inside = inside;
        clear = record { each = r.clear.each.1 };
        count = r.count;
        ends = λ k. ends_next (said k) v (said_in k (placed inside (bodies_after v n) es)) (is_first k inside)
            (r.ends k);
      }

  beside : (n : ℕ) (v : Event) (es : List Event) → Ordinary v → Rest n (v ∷ es) → Rest n es
  beside n (Enter new) es h r = absurd h
  beside n v es h r = step n v es r

  past : (n : ℕ) (a es : List Event) → AllOrdinary a → Rest n (a ++ es) → Rest n es
  past n [] es h r = r
  past n (v ∷ a) es h r = past n a es (record { each = h.each.1 }) (beside n v (a ++ es) h.each.0 r)

  past_takes : (n : ℕ) (ps : List Param) (es : List Event) → Rest n (takes ps ++ es) → Rest n es
  past_takes n [] es r = r
  past_takes n (p ∷ ps) es r = past_takes n ps es (step n (Takes p.name) (takes ps ++ es) r)

  -- a function's body, which these parameters open
  record Opened (k : ℕ) (ps : List Param) : Type 0 where
    front : List Event
    back : List Event
    is : said k ≡ front ++ (Enter kind.Function ∷ (takes ps ++ back))
    kind : kind_of kind.Function (takes ps ++ back) ≡ kind.Function

  opened : (n : ℕ) (ps : List Param) (es : List Event) → Rest n (Enter kind.Function ∷ (takes ps ++ es)) → Opened n ps
  opened n ps es r =
      let inside = n ∷ r.inside in
      let more = said_in n (placed inside (n + 1) (takes ps ++ es)) in
      let parts : more ≡ takes ps ++ said_in n (placed inside (n + 1) es) = takes_said n (n + 1) r.inside ps es in
      let e : Ends (said n) (Enter kind.Function ∷ more) =
      subst (λ b. Ends (said n) (if b then Enter kind.Function ∷ more else more)) (eq-eqb n n refl) (r.ends n) in
      record {
        front = e.front;
        back = said_in n (placed inside (n + 1) es);
        is = e.is ∙ ap (λ z. e.front ++ (Enter kind.Function ∷ z)) parts;
        kind = ap (kind_of kind.Function) (sym parts) ∙ kind_kept kind.Function n inside (n + 1) (takes ps ++ es)
            (omega arith);
      }

  module _ (faultless : fault all ≡ None) (scopes : List Scope) (are : AreScopes all scopes) where
    params_local : (k : ℕ) (ps : List Param) → Opened k ps → (x : List ℕ) → has x (param_names ps) ≡ true →
        has x (scope_of (body all k)).locals ≡ true
    params_local k ps o x h =
        let bound : binds (said k) x ≡ true = ap (λ z. binds z x) o.is ∙
        opened_gives x binding (λ n. refl) ps o.front o.back h in
        let taken = ap (list_any (λ v. names_it x (parameter v))) o.is ∙
        opened_gives x parameter (λ n. refl) ps o.front o.back h in
        let free : declares (said k) x ≡ false = undeclared (body all) k x (has-all x parameter [] (said k) ∙ taken) []
        0 all faultless in
        let function : kind_of kind.Module (said k) ≡ kind.Function = ap (kind_of kind.Module) o.is ∙
        kind_behind kind.Module kind.Function o.front (takes ps ++ o.back) ∙ o.kind in
        local_law x (said k)
        ∙ ap (λ z. not (is_module z) && (binds (said k) x && not (declares (said k) x))) function
        ∙ ap (λ z. z && not (declares (said k) x)) bound
        ∙ ap not free

    def_fits : (l n : ℕ) (ps : List Param) (es : List Event) →
        Rest n (parameters l [] ps ++ (Enter kind.Function ∷ (takes ps ++ es))) →
        length ps ≤ length (get_or (bound_in scopes) n [])
    def_fits l n ps es r =
        let behind = Enter kind.Function ∷ (takes ps ++ es) in
        let at = past n (parameters l [] ps) behind (parameters_ordinary l [] ps) r in
        let within : n < body_count 0 all = omega (arith, at.count, bodies_rise (n + 1) (takes ps ++ es)) in
        let few = no_more (param_names ps) (scope_of (body all n)).locals
        (params_differ l [] ps (clear_front (parameters l [] ps) behind r.clear))
        (params_local n ps (opened n ps es at)) in
        subst (λ m. m ≤ length (get_or (bound_in scopes) n [])) (length-map ps (λ p. p.name))
        (subst (λ ns. length (param_names ps) ≤ length ns) (sym (names_bound all scopes are n within)) few)

    fits : {ys : List Body} {es : List Event} → Begin ys es → (n : ℕ) → Rest n es → ParamsFit (bound_in scopes) n ys
    fits NoMore n r = tt
    fits (Beside {e = v} {es = es} h b) n r = fits b n (beside n v es h r)
    fits (Bare {es = es} k z b) n r = (omega (arith, z), fits b (n + 1) (step n (Enter k) es r))
    fits (Taking {y = y} {es = es} l ps p c b) n r =
        let behind = Enter kind.Function ∷ (takes ps ++ es) in
        let slots : slots_named y.is_class (get_or (bound_in scopes) n []) ≡ get_or (bound_in scopes) n [] =
        ap (λ z. slots_named z (get_or (bound_in scopes) n [])) c in
        let few = subst (λ ns. length ps ≤ length ns) (sym slots) (def_fits l n ps es r) in
        let inner = step n (Enter kind.Function) (takes ps ++ es)
        (past n (parameters l [] ps) behind (parameters_ordinary l [] ps) r) in (
          subst (λ m. m ≤ length (slots_named y.is_class (get_or (bound_in scopes) n []))) (sym p) few,
          fits b (n + 1) (past_takes (n + 1) ps es inner),
        )

pub params_fit : (m : Module) (scopes : List Scope) → legal_all m.body false false ≡ true → Resolves m (Ok scopes) →
    ParamsFit (bound_in scopes) 0 (bodies m.body)
params_fit m scopes h r =
    let start : Rest (outline m) 0 (outline m) =
    record { inside = []; clear = outline_clear m r.0; count = refl; ends = λ k. record { front = []; is = refl } }
    in
    fits (outline m) r.0 scopes r.1 (module_begun m h) 0 start
