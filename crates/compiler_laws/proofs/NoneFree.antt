-- No body of a legal module whose names resolve binds `None`.
use Rattle.std.proofs.Common.{◌≡◌, ◌∙◌, ◌&&◌, ◌||◌, ℕ, Bool, true, false, not, List, [], ◌∷◌, ◌++◌, None, refl, sym, ap, subst}
use Rattle.std.specs.Prelude.{if◌then◌else◌}
use Rattle.std.specs.Str.{bytes_eq}
use Rattle.std.proofs.lemmas.Slice.Eq.{bytes_eq-Decides}
use Rattle.py_tree.specs.declared.stmt.Param.{Param}
use Rattle.py_tree.specs.declared.stmt.Module.{Module}
use Rattle.py_names.specs.declared.event.Event.{Event}
use Rattle.py_names.specs.declared.event.Event.TheVariants.{Enter, Takes, Binds}
use Rattle.py_names.specs.declared.event.BodyKind.TheVariants as kind
use Rattle.py_base.specs.NameLists.{has, with_name}
use Rattle.py_names.specs.Outline.{is_none, label, repeated, read_some, parameters, takes, outline}
use Rattle.py_names.specs.Scopes.{placed, inside_after, bodies_after, is_first, said_in, binding, is_module, kind_of, scope_of, body, fault}
use Rattle.py_names.specs.ScopeLaws.{names_it, binds, declares}
use Rattle.py_names.proofs.ScopeLemmas.{local_law}
use Rattle.py_templates.specs.Statements.{Body}
use Rattle.py_templates.proofs.ExprInduct.{Every, every_join}
use Rattle.compiler_laws.proofs.Legal.{legal_all}
use Rattle.compiler_laws.proofs.Clear.{Clears, clear_front, clear_back, label_clear, outline_clear}
use Rattle.compiler_laws.proofs.OrdinaryEvents.{Ordinary, parameters_ordinary}
use Rattle.compiler_laws.proofs.Begun.{Begin, NoMore, Beside, Bare, Taking, module_begun}

-- an event that doesn't bind `None`
abbrev Free : Event → Type 0
Free (Takes n) = is_none n ≡ false
Free (Binds l n) = is_none n ≡ false
Free _ = Unit {0}

-- ---- the events of a module

ordinary_free : (v : Event) → Ordinary v → Free v
ordinary_free (Enter k) h = absurd h
ordinary_free (Takes n) h = absurd h
ordinary_free (Binds l n) h = h
ordinary_free v h = tt

ordinary_all_free : (es : List Event) → Every Ordinary es → Every Free es
ordinary_all_free [] h = tt
ordinary_all_free (v ∷ es) h = (ordinary_free v h.0, ordinary_all_free es h.1)

-- no parameter is `None`
takes_free : (l : ℕ) (before : List (List ℕ)) (ps : List Param) → Clears (parameters l before ps) →
    Every Free (takes ps)
takes_free l before [] h = tt
takes_free l before (p ∷ ps) h =
    let front = label l p.name ++ repeated l before p.name ++ read_some l p.default in
    let more = parameters l (with_name before p.name) ps in
    let first = clear_front (label l p.name) (repeated l before p.name)
    (clear_front (label l p.name ++ repeated l before p.name) (read_some l p.default) (clear_front front more h)) in
    (label_clear l p.name first, takes_free l (with_name before p.name) ps (clear_back front more h))

begun_free : {ys : List Body} {es : List Event} → Begin ys es → Clears es → Every Free es
begun_free NoMore c = tt
begun_free (Beside {e = v} h b) c = (ordinary_free v h, begun_free b (record { each = c.each.1 }))
begun_free (Bare k z b) c = (tt, begun_free b (record { each = c.each.1 }))
begun_free (Taking {es = es} l ps p z b) c =
    let front = parameters l [] ps in
    let behind = Enter kind.Function ∷ (takes ps ++ es) in
    let inner : Clears (takes ps ++ es) = record { each = (clear_back front behind c).each.1 } in
    every_join Free front behind (ordinary_all_free front (parameters_ordinary l [] ps).each) (
      tt,
      every_join Free (takes ps) es (takes_free l [] ps (clear_front front behind c))
          (begun_free b (clear_back (takes ps) es inner)),
    )

-- ---- the names of a body

-- what is said in a body is said in the module
said_free : (k : ℕ) (inside : List ℕ) (n : ℕ) (es : List Event) → Every Free es →
    Every Free (said_in k (placed inside n es))
said_free k inside n [] h = tt
said_free k inside n (v ∷ es) h = by_test (is_first k (inside_after v n inside))
    (said_free k (inside_after v n inside) (bodies_after v n) es h.1)
  where
    by_test : (b : Bool) → Every Free (said_in k (placed (inside_after v n inside) (bodies_after v n) es)) →
        Every Free (if b then v ∷ said_in k (placed (inside_after v n inside) (bodies_after v n) es) else said_in k
        (placed (inside_after v n inside) (bodies_after v n) es))
    by_test true g = (h.0, g)
    by_test false g = g

none_not : (x n : List ℕ) → is_none x ≡ true → bytes_eq x n ≡ true → is_none n ≡ false → true ≡ false
none_not x n e q f = let same : x ≡ n = (bytes_eq-Decides x n).0 q in sym e ∙ ap is_none same ∙ f

unbound : (es : List Event) (x : List ℕ) → is_none x ≡ true → Every Free es → binds es x ≡ false
unbound [] x e h = refl
unbound (v ∷ es) x e h = by_event v h.0 (unbound es x e h.1)
  where
    by_name : (n : List ℕ) → is_none n ≡ false → binds es x ≡ false → (bytes_eq x n || binds es x) ≡ false
    by_name n f g = by_test (bytes_eq x n) refl
      where
        by_test : (b : Bool) → bytes_eq x n ≡ b → (b || binds es x) ≡ false
        by_test true q = let k = none_not x n e q f in absurd (cc)
        by_test false q = g

    by_event : (v : Event) → Free v → binds es x ≡ false → (names_it x (binding v) || binds es x) ≡ false
    by_event (Takes n) f g = by_name n f g
    by_event (Binds l n) f g = by_name n f g
    by_event v f g = g

not_own : (a b c : Bool) → b ≡ false → (a && (b && c)) ≡ false
not_own true b c q = subst (λ y. (y && c) ≡ false) (sym q) refl
not_own false b c q = refl

-- `None` is no local name of any body.
pub none_free : (m : Module) → legal_all m.body false false ≡ true → fault (outline m) ≡ None → (k : ℕ) (x : List ℕ) →
    is_none x ≡ true → has x (scope_of (body (outline m) k)).locals ≡ false
none_free m h q k x e =
    let said = said_in k (placed [] 0 (outline m)) in
    let free : Every Free (outline m) = begun_free (module_begun m h) (outline_clear m q) in
    local_law x said ∙ not_own (not (is_module (kind_of kind.Module said))) (binds said x) (not (declares said x))
    (unbound said x e (said_free k [] 0 (outline m) free))
