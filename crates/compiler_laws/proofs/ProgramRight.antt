-- The program of a text's tree and its scopes is right, where nothing is too large.
use Rattle.std.proofs.Common.{◌≡◌, ◌∙◌, ℕ, ◌≤◌, List, [], None, Bool, true, false, nat_lt, refl, sym, ap, subst, get_or}
use Rattle.std.specs.Prelude.{Ok}
use Rattle.std.proofs.lemmas.Bool.{ltb-true, ltb-false}
use Rattle.std.proofs.lemmas.List.{get_or_past, length-map}
use Rattle.py_code.specs.declared.program.Program.{Program}
use Rattle.py_code.specs.Right.{IsRightProgram}
use Rattle.py_tree.specs.declared.stmt.Module.{Module}
use Rattle.py_names.specs.declared.scope.Scope.{Scope}
use Rattle.py_base.specs.NameLists.{has}
use Rattle.py_names.specs.Outline.{is_none, outline}
use Rattle.py_names.specs.Resolves.{Resolves}
use Rattle.py_names.specs.Scopes.{bodies}
use Rattle.py_templates.specs.Compiles.{Compiles, bound_in}
use Rattle.py_templates.specs.Resolved.{IsResolved}
use Rattle.py_templates.specs.Whole.{locals_of, program_of, too_large_in}
use Rattle.compiler_laws.proofs.Assembled.{program_right}
use Rattle.compiler_laws.proofs.Legal.{legal_all}
use Rattle.compiler_laws.proofs.LegalStmts.{legal_text}
use Rattle.compiler_laws.proofs.NoneFree.{none_free}
use Rattle.compiler_laws.proofs.ParamSlots.{names_bound, params_fit}

-- ---- no body binds None

none_bound : (m : Module) (scopes : List Scope) → legal_all m.body false false ≡ true → Resolves m (Ok scopes) →
    (k : ℕ) (x : List ℕ) → is_none x ≡ true → has x (locals_of (bound_in scopes) m.body k) ≡ false
none_bound m scopes h r k x e = by_place (nat_lt k (bodies 0 (outline m))) refl
  where
    by_place : (b : Bool) → nat_lt k (bodies 0 (outline m)) ≡ b → has x (get_or (bound_in scopes) k []) ≡ false
    by_place true q =
        ap (has x) (names_bound (outline m) scopes r.1 k (ltb-true k (bodies 0 (outline m)) q))
        ∙ none_free m h r.0 k x e
    by_place false q =
        let past = ltb-false k (bodies 0 (outline m)) q in
        let count = length-map scopes (λ s. s.locals) ∙ r.1.count in
        ap (has x) (get_or_past (bound_in scopes) k [] (subst (λ n. n ≤ k) (sym count) past))

-- ---- the program

pub compiled_right : (m : Module) (scopes : List Scope) → IsResolved m scopes → too_large_in (bound_in scopes) m ≡ None
    → IsRightProgram (program_of (bound_in scopes) m)
compiled_right m scopes h small =
    let legal = legal_text m h.tokens h.is h.resolves.0 in
    program_right (bound_in scopes) m legal (none_bound m scopes legal h.resolves)
    (params_fit m scopes legal h.resolves) small

-- what `compile` answers
pub compiles_right : (m : Module) (scopes : List Scope) (p : Program) → IsResolved m scopes → Compiles m scopes (Ok p)
    → IsRightProgram p
compiles_right m scopes p h done = subst IsRightProgram (sym done.1) (compiled_right m scopes h done.0)
