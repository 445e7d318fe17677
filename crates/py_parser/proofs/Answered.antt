-- What a call of the parser answers, by the laws of the grammar.
use Rattle.std.proofs.Common.{◌≡◌, ℕ, ◌≤◌, List, [], length, Ok, Err, sym, ap, ◌∙◌}
use Rattle.py_tokens.specs.declared.token.Token.{Token}
use Rattle.py_tree.specs.declared.stmt.Module.{Module}
use Rattle.py_tree.specs.Tall.{tall_module}
use Rattle.py_grammar.specs.declared.fault.Fault.{Fault}
use Rattle.py_grammar.specs.Refused.{EndsOnce, RefusedAt}
use Rattle.py_grammar.specs.Statements.{IsModule}
use Rattle.py_grammar.specs.Words.{line_of}
use Rattle.py_grammar.specs.inner.Lines.{module_at}
use Rattle.py_grammar.specs.inner.Reading.{Reads}
use Rattle.py_atoms.specs.declared.error.ParseError.{ParseError}
use Rattle.py_atoms.specs.declared.error.ParseError.TheVariants.{Refused, OutOfMemory}
use Rattle.py_parser.specs.Parses.{Parses}
use Rattle.py_atoms.specs.inner.Outcome.{Fails}

abbrev Found : Type 0
Found = (ts : List Token) (m : Module) (rest : List Token) → EndsOnce ts → module_at (length ts) ts ≡ Ok (m, rest) →
    IsModule m ts × (tall_module m ≤ 100)

abbrev Only : Type 0
Only = (ts : List Token) (m : Module) → IsModule m ts → tall_module m ≤ 100 → module_at (length ts) ts ≡ Ok (m, [])

abbrev Stops : Type 0
Stops = (ts : List Token) (f : Fault) (rest : List Token) → EndsOnce ts → module_at (length ts) ts ≡ Err (f, rest) →
    RefusedAt ts f (line_of rest)

same_module : (m x : Module) (rest : List Token) (r : Reads Module) → r ≡ Ok (x, rest) → r ≡ Ok (m, []) → x ≡ m
same_module m x rest r p q = ap value (sym p ∙ q)
  where
    value : Reads Module → Module
    value (Ok z) = z.0
    value (Err z) = m

never_both : (x : Fault × List Token) (y : Module × List Token) (r : Reads Module) → r ≡ Err x → r ≡ Ok y → ⊥
never_both x y r p q = let e : ◌≡◌ {A = Reads Module} (Err x) (Ok y) = sym p ∙ q in cc

pub parses_ok : Found → Only → (ts : List Token) (m : Module) (rest : List Token) → EndsOnce ts →
    module_at (length ts) ts ≡ Ok (m, rest) → Parses ts (Ok m)
parses_ok found only ts m rest h e =
    (found ts m rest h e, λ n p i. same_module n m rest (module_at (length ts) ts) e (only ts n p i))

pub parses_err : Only → Stops → (ts : List Token) (x : ParseError) → EndsOnce ts → Fails x (module_at (length ts) ts) →
    Parses ts (Err x)
parses_err only stops ts OutOfMemory h e = (tt, λ m p i. tt)
parses_err only stops ts (Refused r) h e = (
  (e.0, line_of e.1, e.3, stops ts e.0 e.1 h e.2),
  λ m p i.
      never_both (e.0, e.1) (m, []) (module_at (length ts) ts) e.2 (only ts m p i),
)
