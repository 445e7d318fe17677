-- The mirror of the code: nothing public rests on it.
-- What a function returned, against what reading gives.
use Rattle.std.specs.Prelude.{◌≡◌, ℕ, List, Result, Ok, Err}
use Rattle.py_tokens.specs.declared.token.Token.{Token}
use Rattle.py_atoms.specs.declared.error.ParseError.{ParseError}
use Rattle.py_atoms.specs.declared.error.ParseError.TheVariants.{Refused, OutOfMemory}
use Rattle.py_grammar.specs.declared.fault.Fault.{Fault}
use Rattle.py_tree.specs.declared.stmt.Module.{Module}
use Rattle.py_grammar.specs.Words.{line_of}
use Rattle.py_grammar.specs.Refused.{refusal_of}
use Rattle.py_grammar.specs.inner.Reading.{Reads}

-- what reading stopped for, with the line of the token at which it stopped; want of memory is free
abbrev pub Fails : {A : Type 0} → ParseError → Reads A → Type 0
Fails OutOfMemory read = Unit {0}
Fails (Refused r) read = (f : Fault) × (rest : List Token) × (read ≡ Err (f, rest)) × (r ≡ refusal_of f (line_of rest))

-- what a function returned is what reading gives, unless memory ran out
abbrev pub Gives : {X A : Type 0} → (X → A × List Token) → Result X ParseError → Reads A → Type 0
Gives view (Ok x) read = read ≡ Ok (view x)
Gives view (Err e) read = Fails e read

-- what `parse` returned is the module that reading gives, or what it stopped for; want of memory is free
abbrev pub Parses : Result Module ParseError → Reads Module → Type 0
Parses (Ok m) read = (rest : List Token) × (read ≡ Ok (m, rest))
Parses (Err e) read = Fails e read
