-- The names that the code gathers event by event are those of each body.
use Rattle.std.proofs.Common.{◌≡◌, ℕ, zero, suc, ◌+◌, ◌<◌, Bool, true, false, ◌==◌, List, [], ◌∷◌, ◌++◌, length, map, drop, Option, Some, slice_get, slice_set, refl, sym, ap, ◌∙◌, subst, arith, cond}
use Rattle.std.proofs.lemmas.Bool.{eqb-true}
use Rattle.std.proofs.Math.Dec.{eqb-suc-zero, eqb-suc-suc, eqb-zero-suc}
use Rattle.std.proofs.lemmas.List.{length-set, length-append, length-map}
use Rattle.py_names.specs.declared.event.BodyKind.{BodyKind}
use Rattle.py_names.specs.declared.event.Event.{Event}
use Rattle.py_names.specs.declared.event.Event.TheVariants.{Enter, Leave, Takes, Uses, Binds, Declares, Misplaced, Doubled}
use Rattle.py_names.specs.Scopes.{Names, names_from, names_after, no_names, Placed, placed, bodies, said_in, is_first, scope_of, body, first_fault, fault, AreScopes}
use Rattle.py_base.specs.declared.refusal.Refusal.{Refusal}
use Rattle.py_names.specs.declared.scope.Scope.{Scope}
use Rattle.py_names.specs.inner.Tables.{at, told, tables_by}

-- all bodies of the list are below n
abbrev pub Below : ℕ → List ℕ → Type 0
Below n [] = Unit {0}
Below n (b ∷ bs) = (b < n) × Below n bs

below_more : (n : ℕ) (bs : List ℕ) → Below n bs → Below (n + 1) bs
below_more n [] a = tt
below_more n (b ∷ bs) a = (omega arith, below_more n bs a.1)

below_drop : (n : ℕ) (bs : List ℕ) → Below n bs → Below n (drop 1 bs)
below_drop n [] a = tt
below_drop n (b ∷ bs) a = a.1

-- ---- one more event of a body

at_end : (ts : List Names) (t : Names) (k : ℕ) → at (ts ++ t ∷ []) k ≡ cond (length ts == k) t (at ts k)
at_end [] t zero = refl
at_end [] t (suc k) = rw (eqb-zero-suc k) refl
at_end (x ∷ ts) t zero = rw (eqb-suc-zero (length ts)) refl
at_end (x ∷ ts) t (suc k) = rw (eqb-suc-suc (length ts) k) (at_end ts t k)

at_beyond : (ts : List Names) → at ts (length ts) ≡ no_names
at_beyond [] = refl
at_beyond (x ∷ ts) = at_beyond ts

at_set : (ts : List Names) (b k : ℕ) (t : Names) → b < length ts → at (slice_set ts b t) k ≡ cond (b == k) t (at ts k)
at_set [] b k t a = absurd (omega arith)
at_set (x ∷ ts) zero zero t a = refl
at_set (x ∷ ts) zero (suc k) t a = rw (eqb-zero-suc k) refl
at_set (x ∷ ts) (suc b) zero t a = rw (eqb-suc-zero b) refl
at_set (x ∷ ts) (suc b) (suc k) t a = rw (eqb-suc-suc b k) (at_set ts b k t (omega arith))

-- what follows where an event is told to the innermost body, which stays the innermost
still : (ts : List Names) (b : ℕ) (e : Event) (ps : List Placed) (k : ℕ) → b < length ts →
    names_from (at (slice_set ts b (names_after (at ts b) e)) k) (said_in k ps) ≡ names_from (at ts k)
    (cond (b == k) (e ∷ said_in k ps) (said_in k ps))
still ts b e ps k a = ap (λ z. names_from z (said_in k ps)) (at_set ts b k (names_after (at ts b) e) a) ∙
    go (b == k) refl
  where
    go : (q : Bool) → b == k ≡ q → names_from (cond q (names_after (at ts b) e) (at ts k)) (said_in k ps) ≡ names_from
        (at ts k) (cond q (e ∷ said_in k ps) (said_in k ps))
    go false f = refl
    go true f = ap (λ z. names_from (names_after (at ts z) e) (said_in k ps)) (eqb-true b k f)

below_told : (ts : List Names) (inside : List ℕ) (e : Event) → Below (length ts) inside →
    Below (length (told ts inside e)) inside
below_told ts [] e a = tt
below_told ts (b ∷ bs) e a = subst (λ n. Below n (b ∷ bs)) (sym (length-set ts b (names_after (at ts b) e))) a

below_end : (ts : List Names) (t : Names) (bs : List ℕ) → Below (length ts) bs →
    Below (length (ts ++ t ∷ [])) (length ts ∷ bs)
below_end ts t bs a = subst (λ n. Below n (length ts ∷ bs)) (sym (length-append ts (t ∷ [])))
    (omega arith, below_more (length ts) bs a)

-- The names of body k, where some were gathered before and these events follow.
abbrev pub Gathers : ℕ → List Names → List ℕ → List Event → Type 0
Gathers k ts inside es = at (tables_by ts inside es) k ≡ names_from (at ts k) (said_in k (placed inside (length ts) es))

others : (ts : List Names) (inside : List ℕ) (es : List Event) (k : ℕ) (e : Event) → Below (length ts) inside →
    Gathers k (told ts inside e) inside es → at (tables_by (told ts inside e) inside es) k ≡ names_from (at ts k)
    (cond (is_first k inside) (e ∷ said_in k (placed inside (length ts) es)) (said_in k (placed inside (length ts) es)))
others ts [] es k e a g = g
others ts (b ∷ bs) es k e a g =
    g ∙ ap (λ n. names_from (at (slice_set ts b (names_after (at ts b) e)) k) (said_in k (placed (b ∷ bs) n es)))
    (length-set ts b (names_after (at ts b) e))
    ∙ still ts b e (placed (b ∷ bs) (length ts) es) k a.0

left : (b : Names) (q : Bool) (es : List Event) → names_from b es ≡ names_from b (cond q (Leave ∷ es) es)
left b true es = refl
left b false es = refl

entered : (ts : List Names) (k : ℕ) (x : BodyKind) (es : List Event) →
    names_from (at (ts ++ names_after no_names (Enter x) ∷ []) k) es ≡ names_from (at ts k)
    (cond (length ts == k) (Enter x ∷ es) es)
entered ts k x es = ap (λ z. names_from z es) (at_end ts (names_after no_names (Enter x)) k) ∙ go (length ts == k) refl
  where
    go : (q : Bool) → length ts == k ≡ q → names_from (cond q (names_after no_names (Enter x)) (at ts k)) es ≡
        names_from (at ts k) (cond q (Enter x ∷ es) es)
    go false f = refl
    go true f = ap (λ z. names_from (names_after z (Enter x)) es)
        (sym (ap (at ts) (sym (eqb-true (length ts) k f)) ∙ at_beyond ts))

pub gathers : (es : List Event) (ts : List Names) (inside : List ℕ) (k : ℕ) → Below (length ts) inside →
    Gathers k ts inside es
gathers [] ts inside k a = refl
gathers (Enter x ∷ es) ts inside k a =
    gathers es (ts ++ names_after no_names (Enter x) ∷ []) (length ts ∷ inside) k (below_end ts _ inside a)
    ∙ ap (λ n. names_from (at (ts ++ names_after no_names (Enter x) ∷ []) k)
    (said_in k (placed (length ts ∷ inside) n es))) (length-append ts (names_after no_names (Enter x) ∷ []))
    ∙ entered ts k x (said_in k (placed (length ts ∷ inside) (length ts + 1) es))
gathers (Leave ∷ es) ts inside k a = gathers es ts (drop 1 inside) k (below_drop (length ts) inside a) ∙
    left (at ts k) (is_first k (drop 1 inside)) (said_in k (placed (drop 1 inside) (length ts) es))
gathers (Takes n ∷ es) ts inside k a = others ts inside es k (Takes n) a
    (gathers es (told ts inside (Takes n)) inside k (below_told ts inside _ a))
gathers (Uses l n ∷ es) ts inside k a = others ts inside es k (Uses l n) a
    (gathers es (told ts inside (Uses l n)) inside k (below_told ts inside _ a))
gathers (Binds l n ∷ es) ts inside k a =
    others ts inside es k (Binds l n) a (gathers es (told ts inside (Binds l n)) inside k (below_told ts inside _ a))
gathers (Declares l n ∷ es) ts inside k a =
    others ts inside es k (Declares l n) a
    (gathers es (told ts inside (Declares l n)) inside k (below_told ts inside _ a))
gathers (Misplaced l ∷ es) ts inside k a =
    others ts inside es k (Misplaced l) a
    (gathers es (told ts inside (Misplaced l)) inside k (below_told ts inside _ a))
gathers (Doubled l ∷ es) ts inside k a =
    others ts inside es k (Doubled l) a (gathers es (told ts inside (Doubled l)) inside k (below_told ts inside _ a))

-- ---- how many

told_length : (ts : List Names) (inside : List ℕ) (e : Event) → length (told ts inside e) ≡ length ts
told_length ts [] e = refl
told_length ts (b ∷ bs) e = length-set ts b _

pub counts : (es : List Event) (ts : List Names) (inside : List ℕ) →
    length (tables_by ts inside es) ≡ bodies (length ts) es
counts [] ts inside = refl
counts (Enter x ∷ es) ts inside = counts es (ts ++ names_after no_names (Enter x) ∷ []) (length ts ∷ inside) ∙
    ap (λ n. bodies n es) (length-append ts (names_after no_names (Enter x) ∷ []))
counts (Leave ∷ es) ts inside = counts es ts (drop 1 inside)
counts (Takes n ∷ es) ts inside = counts es _ inside ∙ ap (λ m. bodies m es) (told_length ts inside (Takes n))
counts (Uses l n ∷ es) ts inside = counts es _ inside ∙ ap (λ m. bodies m es) (told_length ts inside (Uses l n))
counts (Binds l n ∷ es) ts inside = counts es _ inside ∙ ap (λ m. bodies m es) (told_length ts inside (Binds l n))
counts (Declares l n ∷ es) ts inside = counts es _ inside ∙ ap (λ m. bodies m es) (told_length ts inside (Declares l n))
counts (Misplaced l ∷ es) ts inside = counts es _ inside ∙ ap (λ m. bodies m es) (told_length ts inside (Misplaced l))
counts (Doubled l ∷ es) ts inside = counts es _ inside ∙ ap (λ m. bodies m es) (told_length ts inside (Doubled l))

-- ---- scopes and refusals

shown_at : (ts : List Names) (k : ℕ) → k < length ts → slice_get (map scope_of ts) k ≡ Some (scope_of (at ts k))
shown_at [] k a = absurd (omega arith)
shown_at (t ∷ ts) zero a = refl
shown_at (t ∷ ts) (suc k) a = shown_at ts k (omega arith)

-- the names that were gathered, as the definition has them
same_names : (es : List Event) (ts : List Names) → ts ≡ tables_by [] [] es → at ts ≡ body es
same_names es ts e = ap at e ∙ (λ i k. gathers es [] [] k tt i)

are_scopes : (es : List Event) (ts : List Names) (scopes : List Scope) → ts ≡ tables_by [] [] es →
    scopes ≡ map scope_of ts → AreScopes es scopes
are_scopes es ts scopes e f = record {
  count = ap length f ∙ length-map ts scope_of ∙ many;
  each = λ k a. ap (λ ss. slice_get ss k) f ∙ shown_at ts k (subst (λ n. k < n) (sym many) a) ∙
      ap (λ b. Some (scope_of (b k))) (same_names es ts e);
}
  where
    many : length ts ≡ bodies 0 es
    many = ap length e ∙ counts es [] []

-- what the code finds, where its parts are these
pub record Found (m : List Event) (es fs : List Event) (ts us : List Names) : Type 0 where
  pub outlined : es ≡ m
  pub again : fs ≡ m
  pub tables : ts ≡ tables_by [] [] es
  pub shared : us ≡ ts

pub found_of : {m es fs : List Event} {ts us : List Names} → es ≡ m → fs ≡ m → ts ≡ tables_by [] [] es → us ≡ ts →
    Found m es fs ts us
found_of a b d e = record { outlined = a; again = b; tables = d; shared = e }

all_names : (m es fs : List Event) (ts us : List Names) → Found m es fs ts us → us ≡ tables_by [] [] m
all_names m es fs ts us a = a.shared ∙ a.tables ∙ ap (tables_by [] []) a.outlined

pub found_fault : (m es fs : List Event) (ts us : List Names) {r : Option Refusal} → Found m es fs ts us →
    r ≡ first_fault (at us) (placed [] 0 fs) → r ≡ fault m
found_fault m es fs ts us a f = f ∙ ap (λ z. first_fault (at us) (placed [] 0 z)) a.again ∙
    ap (λ b. first_fault b (placed [] 0 m)) (same_names m us (all_names m es fs ts us a))

pub found_scopes : (m es fs : List Event) (ts us : List Names) {scopes : List Scope} → Found m es fs ts us →
    scopes ≡ map scope_of us → AreScopes m scopes
found_scopes m es fs ts us {scopes = scopes} a f = are_scopes m us scopes (all_names m es fs ts us a) f
