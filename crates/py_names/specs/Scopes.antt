-- The scope of each body, and the places that are refused. States `docs/LANGUAGE.md`, "Names and their scopes".
use Rattle.std.specs.Prelude.{◌≡◌, ℕ, ◌+◌, ◌<◌, ◌==◌, Bool, true, false, ◌&&◌, not, if◌then◌else◌, List, [], ◌∷◌, length, drop, filter, slice_get, Option, Some, None}
use Rattle.std.specs.List.{list_any}
use Rattle.py_base.specs.declared.refusal.Refusal.{Refusal}
use Rattle.py_base.specs.declared.refusal.Refusal.TheVariants as refusal
use Rattle.py_names.specs.declared.event.BodyKind.{BodyKind}
use Rattle.py_names.specs.declared.event.BodyKind.TheVariants.{Module, Function}
use Rattle.py_names.specs.declared.event.Event.{Event}
use Rattle.py_names.specs.declared.event.Event.TheVariants.{Enter, Leave, Takes, Uses, Binds, Declares, Misplaced, Doubled}
use Rattle.py_names.specs.declared.scope.Scope.{Scope}
use Rattle.py_base.specs.NameLists.{has, with_name}

-- ---- bodies

-- Bodies have numbers, from 0, in the order in which they begin. These are the bodies that stand round a place behind
-- an event, the innermost first; n bodies began before the event.
abbrev pub inside_after : Event → ℕ → List ℕ → List ℕ
inside_after (Enter k) n inside = n ∷ inside
inside_after Leave n inside = drop 1 inside
inside_after _ n inside = inside

abbrev pub bodies_after : Event → ℕ → ℕ
bodies_after (Enter k) n = n + 1
bodies_after _ n = n

-- an event, and the bodies that it stands in
pub record Placed : Type 0 where
  pub event : Event
  pub inside : List ℕ

abbrev pub placed : List ℕ → ℕ → List Event → List Placed
placed inside n [] = []
placed inside n (e ∷ es) = record { event = e; inside = inside_after e n inside } ∷ placed (inside_after e n inside)
    (bodies_after e n) es

-- how many bodies begin
abbrev pub bodies : ℕ → List Event → ℕ
bodies n [] = n
bodies n (e ∷ es) = bodies (bodies_after e n) es

-- ---- what a body says

abbrev pub is_first : ℕ → List ℕ → Bool
is_first k [] = false
is_first k (b ∷ bs) = b == k

-- what is said in a body, and not in a body inside it
abbrev pub said_in : ℕ → List Placed → List Event
said_in k [] = []
said_in k (p ∷ ps) = if is_first k p.inside then p.event ∷ said_in k ps else said_in k ps

-- the names that events give, each once, where it is first
abbrev pub noted : List (List ℕ) → Option (List ℕ) → List (List ℕ)
noted ns None = ns
noted ns (Some n) = with_name ns n

abbrev pub noted_all : (Event → Option (List ℕ)) → List (List ℕ) → List Event → List (List ℕ)
noted_all f ns [] = ns
noted_all f ns (e ∷ es) = noted_all f (noted ns (f e)) es

abbrev pub mention : Event → Option (List ℕ)
mention (Takes n) = Some n
mention (Uses line n) = Some n
mention (Binds line n) = Some n
mention (Declares line n) = Some n
mention _ = None

abbrev pub binding : Event → Option (List ℕ)
binding (Takes n) = Some n
binding (Binds line n) = Some n
binding _ = None

abbrev pub declaration : Event → Option (List ℕ)
declaration (Declares line n) = Some n
declaration _ = None

abbrev pub parameter : Event → Option (List ℕ)
parameter (Takes n) = Some n
parameter _ = None

abbrev pub kind_after : BodyKind → Event → BodyKind
kind_after k (Enter new) = new
kind_after k _ = k

abbrev pub kind_of : BodyKind → List Event → BodyKind
kind_of k [] = k
kind_of k (e ∷ es) = kind_of (kind_after k e) es

-- the names that a body mentions, binds, names in a `global`, and has as parameters
pub record Names : Type 0 where
  pub kind : BodyKind
  pub mentioned : List (List ℕ)
  pub bound : List (List ℕ)
  pub declared : List (List ℕ)
  pub parameters : List (List ℕ)

abbrev pub names_after : Names → Event → Names
names_after b e = record {
  kind = kind_after b.kind e;
  mentioned = noted b.mentioned (mention e);
  bound = noted b.bound (binding e);
  declared = noted b.declared (declaration e);
  parameters = noted b.parameters (parameter e);
}

-- the names of a body after some more events
abbrev pub names_from : Names → List Event → Names
names_from b es = record {
  kind = kind_of b.kind es;
  mentioned = noted_all mention b.mentioned es;
  bound = noted_all binding b.bound es;
  declared = noted_all declaration b.declared es;
  parameters = noted_all parameter b.parameters es;
}

abbrev pub no_names : Names
no_names = record { kind = Module; mentioned = []; bound = []; declared = []; parameters = [] }

-- ---- scopes

abbrev pub is_module : BodyKind → Bool
is_module Module = true
is_module _ = false

abbrev pub is_function : BodyKind → Bool
is_function Function = true
is_function _ = false

-- A name is local to the body that binds it, unless a `global` there names it. A module's names are global.
abbrev pub is_local : Names → List ℕ → Bool
is_local b n = not (is_module b.kind) && (has n b.bound && not (has n b.declared))

abbrev pub is_global : Names → List ℕ → Bool
is_global b n = not (is_local b n)

abbrev pub scope_of : Names → Scope
scope_of b = record { locals = filter (is_local b) b.mentioned; globals = filter (is_global b) b.mentioned }

-- the names of a body of a module that says this
abbrev pub body : List Event → ℕ → Names
body es k = names_from no_names (said_in k (placed [] 0 es))

-- one scope for each body, in the order of the bodies
pub record AreScopes (es : List Event) (scopes : List Scope) : Type 0 where
  pub count : length scopes ≡ bodies 0 es
  pub each : (k : ℕ) → k < bodies 0 es → slice_get scopes k ≡ Some (scope_of (body es k))

-- ---- refusals

-- A body uses a name that isn't its own, nor named in a `global` there, and that is local to a function round it.
abbrev pub is_closure : (ℕ → Names) → List ℕ → List ℕ → Bool
is_closure b [] n = false
is_closure b (k ∷ outer) n = not (is_local (b k) n) &&
    (not (has n (b k).declared) && list_any (λ j. is_function (b j).kind && is_local (b j) n) outer)

-- a `global` names a parameter of its body
abbrev pub is_parameter : (ℕ → Names) → List ℕ → List ℕ → Bool
is_parameter b [] n = false
is_parameter b (k ∷ outer) n = has n (b k).parameters

-- what an event is refused for, inside these bodies
abbrev pub refused : (ℕ → Names) → List ℕ → Event → Option Refusal
refused b inside (Misplaced line) = Some (refusal.Misplaced line)
refused b inside (Doubled line) = Some (refusal.Doubled line)
refused b inside (Declares line n) = if is_parameter b inside n then Some (refusal.Misplaced line) else None
refused b inside (Uses line n) = if is_closure b inside n then Some (refusal.Closure line) else None
refused b inside _ = None

abbrev pub first_of : Option Refusal → Option Refusal → Option Refusal
first_of (Some r) more = Some r
first_of None more = more

-- the earliest place that is refused
abbrev pub first_fault : (ℕ → Names) → List Placed → Option Refusal
first_fault b [] = None
first_fault b (p ∷ ps) = first_of (refused b p.inside p.event) (first_fault b ps)

abbrev pub fault : List Event → Option Refusal
fault es = first_fault (body es) (placed [] 0 es)
