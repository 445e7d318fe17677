-- What `compile` answers is the program of the module, or the line of what is too large.
use Rattle.std.proofs.Common.{◌≡◌, ℕ, ◌<◌, ◌≤◌, List, [], Some, Bool, true, false, Result, Ok, Err, length, refl, sym, ap, ◌∙◌, subst, arith}
use Rattle.std.specs.Prelude.{if◌then◌else◌, nat_lt, option_map}
use Rattle.std.specs.List.{list_any}
use Rattle.py_base.specs.declared.refusal.Refusal.TheVariants.{TooLarge}
use Rattle.py_code.specs.declared.program.Code.{Code}
use Rattle.py_code.specs.declared.program.Root.{Root}
use Rattle.py_names.specs.declared.scope.Scope.{Scope}
use Rattle.std.proofs.lemmas.Bool.{lt-ltb, ltb-true}
use Rattle.py_tree.specs.declared.stmt.Stmt.{Stmt}
use Rattle.py_tree.specs.declared.stmt.Module.{Module}
use Rattle.py_uses.specs.declared.bodies.Body.{Body as Gathered}
use Rattle.py_templates.specs.declared.error.CompileError.{CompileError}
use Rattle.py_templates.specs.declared.error.CompileError.TheVariants.{Refused, OutOfMemory}
use Rattle.py_templates.specs.Compiles.{Compiles, bound_in}
use Rattle.py_compile.specs.inner.Bodies.{CodesOf, Padded, known_in}
use Rattle.py_uses.specs.inner.Gathered.{numbered}
use Rattle.py_templates.specs.Statements.{Body}
use Rattle.py_uses.specs.inner.Tallies.{Listed, Tally, locals_in}
use Rattle.py_templates.specs.Uses.{cells_from, module_uses, texts_from}
use Rattle.py_templates.specs.Whole.{bodies, codes_from, is_long, large_bodies, names_of, program_of, roots, roots_with, too_large_in, too_many}
use Rattle.py_uses.proofs.ModuleUses.{Told}
use Rattle.py_compile.proofs.Compiled.{length_numbered, codes_same, large_same}

-- what was gathered, by what calls say of it
pub told_is : (all : List (List (List ℕ))) (ss : List Stmt) (n : ℕ) (used : Tally) (all' : List (List (List ℕ)))
    (ss' : List Stmt) (n' : ℕ) → all ≡ all' → ss ≡ ss' → n ≡ n' →
    used.texts ≡ texts_from [] (module_uses (locals_in all) ss) →
    used.cells ≡ cells_from [] (module_uses (locals_in all) ss) →
    Listed n used.keys (module_uses (locals_in all) ss) →
    Told n' (module_uses (locals_in all') ss') used
told_is all ss n used all' ss' n' ea es en t c k =
    subst (λ z. Told z (module_uses (locals_in all') ss') used) en
    (subst (λ z. Told n (module_uses (locals_in all') z) used) es
    (subst (λ z. Told n (module_uses (locals_in z) ss) used) ea (record { texts = t; cells = c; keys = k })))

-- whether a count is past another one
pub past : (a b c : ℕ) → a < b → b ≡ c → nat_lt a c ≡ true
past a b c lt e = lt-ltb a c (omega (arith, lt, e))

pub not_past : (a b c : ℕ) → b ≤ a → b ≡ c → nat_lt a c ≡ false
not_past a b c le e = by (nat_lt a c) refl
  where
    by : (x : Bool) → nat_lt a c ≡ x → nat_lt a c ≡ false
    by true h = absurd (let lt : a < c = ltb-true a c h in omega (arith, le, lt, e))
    by false h = h

pub padded_is : (n n' : ℕ) (xs xs' ys : List (List (List ℕ))) → n ≡ n' → xs ≡ xs' → Padded n xs ys → Padded n' xs' ys
padded_is n n' xs xs' ys en ex p = subst (λ z. Padded z xs' ys) en (subst (λ z. Padded n z ys) ex p)

pub codes_said : (used : Tally) (l l' : List (List (List ℕ))) (ys ys' : List Gathered)
    (r : Result (List Code) CompileError) → l ≡ l' → ys ≡ ys' →
    CodesOf (known_in l used) (numbered 0 ys) r → CodesOf (known_in l' used) (numbered 0 ys') r
codes_said used l l' ys ys' r el ey h = subst (λ z. CodesOf (known_in l' used) (numbered 0 z) r) ey
    (subst (λ z. CodesOf (known_in z used) (numbered 0 ys) r) el h)

module _ (scopes : List Scope) (m : Module) (bs : List Gathered) (eb : numbered 0 bs ≡ bodies m.body) where
  count : length (bodies m.body) ≡ length bs
  count = ap length (sym eb) ∙ length_numbered 0 bs

  pub many_bodies : nat_lt 65535 (length bs) ≡ true → too_large_in (bound_in scopes) m ≡ Some 1
  unfolding too_large_in
  many_bodies h = rw (count, h) refl

  module _ (used : Tally) (told : Told (length bs) (module_uses (locals_in (bound_in scopes)) m.body) used) where
    pub roots_are : roots_with used.texts used.cells ≡ roots (bound_in scopes) m.body
    roots_are = λ i. roots_with (told.texts i) (told.cells i)

    tests : too_many (bound_in scopes) m.body ≡
        (if nat_lt 65535 (length bs) then true else
        (if nat_lt 65535 (length (roots_with used.texts used.cells)) then true else list_any is_long used.texts))
    tests = sym (λ i. if nat_lt 65535 (sym count i) then true else
        (if nat_lt 65535 (length (roots_are i)) then true else list_any is_long (told.texts i)))

    pub many_roots : nat_lt 65535 (length bs) ≡ false → nat_lt 65535 (length (roots_with used.texts used.cells)) ≡ true
        → too_large_in (bound_in scopes) m ≡ Some 1
    unfolding too_large_in
    many_roots h1 h2 = rw (tests, h1, h2) refl

    pub long_text : nat_lt 65535 (length bs) ≡ false → nat_lt 65535 (length (roots_with used.texts used.cells)) ≡ false
        → list_any is_long used.texts ≡ true → too_large_in (bound_in scopes) m ≡ Some 1
    unfolding too_large_in
    long_text h1 h2 h3 = rw (tests, h1, h2, h3) refl

    module _ (locals : List (List (List ℕ))) (padded : Padded (length bs) (bound_in scopes) locals) where
      same : (b : ℕ) (y : Body) → b < length bs → known_in locals used b y ≡ names_of (bound_in scopes) m.body b y
      same b y lt = λ i. record {
        is_class = y.is_class;
        locals = padded.same b i;
        texts = told.texts i;
        cells =
            told.cells i;
        keys = told.keys.lists b lt i;
      }

      pub large_is : nat_lt 65535 (length bs) ≡ false → nat_lt 65535 (length (roots_with used.texts used.cells)) ≡
          false → list_any is_long used.texts ≡ false →
          too_large_in (bound_in scopes) m ≡ large_bodies (known_in locals used) 0 (numbered 0 bs)
      unfolding too_large_in
      large_is h1 h2 h3 =
          let n = length_numbered 0 bs in
          rw (tests, h1, h2, h3) (sym (large_same (known_in locals used) (names_of (bound_in scopes) m.body)
          (length bs) same 0 (numbered 0 bs) (omega (arith, n)) ∙
          ap (large_bodies (names_of (bound_in scopes) m.body) 0) eb))

      pub program_is : program_of (bound_in scopes) m ≡ record
          { codes = codes_from (known_in locals used) 0 (numbered 0 bs); roots = roots_with used.texts used.cells }
      unfolding program_of
      program_is =
          let n = length_numbered 0 bs in
          let cs : codes_from (known_in locals used) 0 (numbered 0 bs) ≡ codes_from (names_of (bound_in scopes) m.body)
          0 (bodies m.body) =
          codes_same (known_in locals used) (names_of (bound_in scopes) m.body) (length bs) same 0 (numbered 0 bs)
          (omega (arith, n)) ∙ ap (codes_from (names_of (bound_in scopes) m.body) 0) eb in
          λ i. record { codes = sym cs i; roots = sym roots_are i }

      pub compiles_err : (e : CompileError) → too_large_in (bound_in scopes) m ≡ large_bodies (known_in locals used) 0
          (numbered 0 bs) →
          CodesOf (known_in locals used) (numbered 0 bs) (Err e) → Compiles m scopes (Err e)
      compiles_err (Refused r) e h = ap (option_map TooLarge) e ∙ h
      compiles_err OutOfMemory e h = tt

      pub compiles_ok : (cs : List Code) (rs : List Root) →
          too_large_in (bound_in scopes) m ≡ large_bodies (known_in locals used) 0 (numbered 0 bs) →
          CodesOf (known_in locals used) (numbered 0 bs) (Ok cs) → rs ≡ roots_with used.texts used.cells →
          Compiles m scopes (Ok (record { codes = cs; roots = rs }))
      compiles_ok cs rs e h r = (e ∙ h.0, (λ i. record { codes = h.1 i; roots = r i }) ∙ sym program_is)
