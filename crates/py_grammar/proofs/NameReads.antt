-- Names, `global` and imports are read, or refused as what is left out.
use Rattle.std.proofs.Common.{◌≡◌, ℕ, zero, suc, ◌<◌, ◌≤◌, Bool, true, false, List, [], ◌∷◌, ◌++◌, length, Ok, Err, Option, Some, inl, inr, refl, ap, ◌∙◌, append_assoc, arith, length-append}
use Rattle.py_tokens.specs.declared.token.Token.{Token}
use Rattle.py_tokens.specs.declared.token.TokenKind.{TokenKind}
use Rattle.py_tokens.specs.declared.token.TokenKind.TheVariants as k
use Rattle.py_tokens.specs.declared.token.Place.{Place}
use Rattle.py_tokens.specs.Place.{token_at as at}
use Rattle.py_tree.specs.declared.expr.Expr.{Expr}
use Rattle.py_tree.specs.declared.expr.Operator.{Operator}
use Rattle.py_grammar.specs.declared.fault.Fault.TheVariants.{LeftOut}
use Rattle.py_grammar.specs.Grammar.{Marks}
use Rattle.py_grammar.specs.declared.tall.Tall.{Tall}
use Rattle.py_grammar.specs.inner.Aiming.{Readers}
use Rattle.py_grammar.specs.inner.Reading.{◌>>=◌, first, rest, is_op, is_keyword}
use Rattle.py_grammar.proofs.Steps.{Reaches, at_same}
use Rattle.py_grammar.proofs.Begin.{as_value}
use Rattle.py_grammar.specs.Statements as S
use Rattle.py_grammar.specs.Statements.{Names, Renamed, Imports}
use Rattle.py_grammar.specs.inner.Lines.{simple_at, run_at, names_at, import_name_at, renamed_at, imported_at, imports_at, print_at, from_at}
use Rattle.py_grammar.specs.Words.{is_module, is_member}
use Rattle.py_tree.specs.declared.stmt.Imported.{Imported}
use Rattle.py_tree.specs.declared.stmt.Stmt.TheVariants as st
use Rattle.py_tree.specs.Form.{is_single}
use Rattle.py_grammar.specs.inner.Reading.{keyword_at, name_at}
use Rattle.py_grammar.specs.Codes as c
use Rattle.py_base.specs.declared.refusal.Construct.TheVariants as left
use Rattle.py_grammar.proofs.AssignReads.{Ends, ends_op, ends_word}

-- ---- names

s_names_end : (f : ℕ) (found : List (List ℕ)) (us : List Token) → is_op 38 (first us) ≡ false →
    names_at f found us ≡ Ok (found, us)
unfolding names_at
s_names_end zero found us h = refl
s_names_end (suc f) found us h = rw h refl

s_names : (f : ℕ) (found : List (List ℕ)) (p q : Place) (n : List ℕ) (us : List Token) →
    names_at (suc f) found (at c.comma p ∷ at (k.Name n) q ∷ us) ≡ names_at f (found ++ n ∷ []) us
unfolding names_at name_at
s_names f found p q n us = refl

-- after the first name
complete_names : {ns : List (List ℕ)} {ts : List Token} → Names ns ts →
    (f : ℕ) (found : List (List ℕ)) (p : Place) (rest : List Token) → length ts ≤ f → Ends (first rest) →
    names_at f found (at c.comma p ∷ ts ++ rest) ≡ Ok (found ++ ns, rest)
complete_names (S.one n q) zero found p rest l s = absurd (omega arith)
complete_names (S.one n q) (suc f) found p rest l s = s_names f found p q n rest ∙
    s_names_end f (found ++ n ∷ []) rest (ends_op 38 refl _ s)
complete_names (S.more n q i r) zero found p rest l s = absurd (omega arith)
complete_names (S.more n q i {ns = ns} {ts = ts} r) (suc f) found p rest l s =
    s_names f found p q n (at c.comma i ∷ ts ++ rest) ∙ complete_names r f (found ++ n ∷ []) i rest (omega arith) s ∙
    ap (λ z. Ok (z, rest)) (append_assoc found (n ∷ []) ns)

s_global : (under : Readers) (g d : ℕ) (p q : Place) (n : List ℕ) (us : List Token) →
    simple_at under g d (at c.global_ p ∷ at (k.Name n) q ∷ us) ≡
    (names_at g (n ∷ []) us >>= λ ns. Ok (st.Global p.line ns.0, ns.1))
unfolding simple_at name_at
s_global under g d p q n us = refl

pub complete_global : {ns : List (List ℕ)} {ts : List Token} (p : Place) → Names ns ts →
    (under : Readers) (g d : ℕ) (rest : List Token) → length ts ≤ g → Ends (first rest) →
    simple_at under g d (at c.global_ p ∷ ts ++ rest) ≡ Ok (st.Global p.line ns, rest)
complete_global p (S.one n q) under g d rest l s = s_global under g d p q n rest ∙
    ap (λ r. r >>= λ ns. Ok (st.Global p.line ns.0, ns.1)) (s_names_end g (n ∷ []) rest (ends_op 38 refl _ s))
complete_global p (S.more n q i {ts = ts} r) under g d rest l s = s_global under g d p q n (at c.comma i ∷ ts ++ rest)
    ∙ ap (λ r. r >>= λ ns. Ok (st.Global p.line ns.0, ns.1)) (complete_names r g (n ∷ []) i rest (omega arith) s)

-- ---- imports

abbrev Next : TokenKind → Type 0
Next kind = is_keyword 1 kind ≡ false

renamed_ok : {m : Option (List ℕ)} {ts : List Token} → Renamed m ts → (rest : List Token) → Next (first rest) →
    renamed_at (ts ++ rest) ≡ Ok (m, rest)
unfolding renamed_at name_at
renamed_ok S.same rest h = rw h refl
renamed_ok (S.renamed n p q) rest h = refl

s_imported : (may : List ℕ → Bool) (n : List ℕ) (p : Place) (us : List Token) → may n ≡ true →
    imported_at may (at (k.Name n) p ∷ us) ≡ (renamed_at us >>= λ m. Ok (record { name = n; bound = m.0 }, m.1))
unfolding imported_at import_name_at name_at
s_imported may n p us h = rw h refl

s_wrong : (may : List ℕ → Bool) (n : List ℕ) (p : Place) (us : List Token) → may n ≡ false →
    imported_at may (at (k.Name n) p ∷ us) ≡ Err (LeftOut left.Import, at (k.Name n) p ∷ us)
unfolding imported_at import_name_at name_at
s_wrong may n p us h = rw h refl

s_imports_end : (may : List ℕ → Bool) (f : ℕ) (found : List Imported) (us : List Token) → is_op 38 (first us) ≡ false →
    imports_at may f found us ≡ Ok (found, us)
unfolding imports_at
s_imports_end may zero found us h = refl
s_imports_end may (suc f) found us h = rw h refl

s_imports : (may : List ℕ → Bool) (f : ℕ) (found : List Imported) (p : Place) (us : List Token) →
    imports_at may (suc f) found (at c.comma p ∷ us) ≡
    (imported_at may us >>= λ i. imports_at may f (found ++ i.0 ∷ []) i.1)
unfolding imports_at
s_imports may f found p us = refl

pub complete_imports : {may : List ℕ → Bool} {x : Marks} {is : List Imported} {ts : List Token} → Imports may x is ts →
    (f : ℕ) (found : List Imported) (rest : List Token) → length ts ≤ suc f → Ends (first rest) →
    Reaches x (imported_at may (ts ++ rest) >>= λ i. imports_at may f (found ++ i.0 ∷ []) i.1) (found ++ is) rest
complete_imports (S.one may x n p {m = m} {ts = ts} h r) f found rest l s =
    inl (ap (λ z. z >>= λ i. imports_at may f (found ++ i.0 ∷ []) i.1) (s_imported may n p (ts ++ rest) h ∙
    ap (λ z. z >>= λ m. Ok (record { name = n; bound = m.0 }, m.1)) (renamed_ok r rest (ends_word 1 _ s)))
    ∙ s_imports_end may f (found ++ record { name = n; bound = m } ∷ []) rest (ends_op 38 refl _ s))
complete_imports (S.more may n p q {x = x} {m = m} {is = is} {ts = ts} {us = us} h r w) zero found rest l s =
    absurd (omega (arith, length-append ts (at c.comma q ∷ us), imports_long w))
  where
    imports_long : {may : List ℕ → Bool} {y : Marks} {js : List Imported} {vs : List Token} → Imports may y js vs →
        0 < length vs
    imports_long (S.one may x n p {ts = ts} h r) = omega arith
    imports_long (S.more may n p q h r w) = omega arith
    imports_long (S.wrong may n p h) = omega arith
complete_imports (S.more may n p q {x = x} {m = m} {is = is} {ts = ts} {us = us} h r w) (suc f) found rest l s =
    at_same x _ _ _ rest (ap (λ z. imported_at may (at (k.Name n) p ∷ z) >>= λ i.
    imports_at may (suc f) (found ++ i.0 ∷ []) i.1) (append_assoc ts (at c.comma q ∷ us) rest)
    ∙ ap (λ z. z >>= λ i. imports_at may (suc f) (found ++ i.0 ∷ []) i.1)
    (s_imported may n p (ts ++ (at c.comma q ∷ us ++ rest)) h ∙
    ap (λ z. z >>= λ m. Ok (record { name = n; bound = m.0 }, m.1)) (renamed_ok r (at c.comma q ∷ us ++ rest) refl))
    ∙ s_imports may f (found ++ record { name = n; bound = m } ∷ []) q (us ++ rest))
    (as_value x _ _ _ rest (append_assoc found (record { name = n; bound = m } ∷ []) is)
    (complete_imports w f (found ++ record { name = n; bound = m } ∷ []) rest
    (omega (arith, length-append ts (at c.comma q ∷ us))) s))
complete_imports (S.wrong may n p h) f found rest l s =
    inr (left.Import, _, refl, ap (λ z. z >>= λ i. imports_at may f (found ++ i.0 ∷ []) i.1) (s_wrong may n p rest h))

pub s_import : (under : Readers) (g d : ℕ) (p : Place) (us : List Token) →
    simple_at under g d (at c.import_ p ∷ us) ≡
    (imported_at is_module us >>= λ i. (imports_at is_module g (i.0 ∷ []) i.1 >>= λ is.
    Ok (st.Import p.line is.0, is.1)))
unfolding simple_at
s_import under g d p us = refl

pub s_from : (under : Readers) (g d : ℕ) (m : List ℕ) (p q r : Place) (us : List Token) → is_module m ≡ true →
    simple_at under g d (at c.from_ p ∷ at (k.Name m) q ∷ at c.import_ r ∷ us) ≡ (imported_at (is_member m) us >>= λ i.
    (imports_at (is_member m) g (i.0 ∷ []) i.1 >>= λ is. Ok (st.From p.line m is.0, is.1)))
unfolding simple_at from_at import_name_at name_at keyword_at
s_from under g d m p q r us h = rw h refl

pub s_from_wrong : (under : Readers) (g d : ℕ) (m : List ℕ) (p q : Place) (us : List Token) → is_module m ≡ false →
    simple_at under g d (at c.from_ p ∷ at (k.Name m) q ∷ us) ≡ Err (LeftOut left.Import, at (k.Name m) q ∷ us)
unfolding simple_at from_at import_name_at name_at
s_from_wrong under g d m p q us h = rw h refl

pub s_plain : (under : Readers) (g d : ℕ) (p : Place) (us : List Token) →
    (simple_at under g d (at c.pass_ p ∷ us) ≡ Ok (st.Pass p.line, us)) ×
    (simple_at under g d (at c.break_ p ∷ us) ≡ Ok (st.Break p.line, us)) ×
    (simple_at under g d (at c.continue_ p ∷ us) ≡ Ok (st.Continue p.line, us))
    × (simple_at under g d (at c.exec_ p ∷ us) ≡ Err (LeftOut left.Exec, at c.exec_ p ∷ us)) ×
    (simple_at under g d (at c.yield_ p ∷ us) ≡ Err (LeftOut left.Generator, at c.yield_ p ∷ us))
    × (simple_at under g d (at c.print_ p ∷ us) ≡ print_at under g p.line us)
unfolding simple_at
s_plain under g d p us = (refl, refl, refl, refl, refl, refl)

pub s_print_to : (under : Readers) (g l : ℕ) (q : Place) (us : List Token) →
    print_at under g l (at c.shift_right q ∷ us) ≡ Err (LeftOut left.PrintTo, at c.shift_right q ∷ us)
unfolding print_at
s_print_to under g l q us = refl

pub s_augment_yield : (under : Readers) (g l : ℕ) (a : Tall Expr) (o : Operator) (t : Token) (q : Place)
    (us : List Token) → is_single false a.form ≡ true → run_at under g l (a, t ∷ at c.yield_ q ∷ us) (Some o) ≡ Err
    (LeftOut left.Generator, at c.yield_ q ∷ us)
unfolding run_at
s_augment_yield under g l a o t q us h = rw h refl
