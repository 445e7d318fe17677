-- What the grammar of expressions has is read.
use Rattle.std.proofs.Common.{◌≡◌, ℕ, ℤ, zero, suc, ◌+◌, ◌<◌, ◌≤◌, Bool, true, false, ◌||◌, List, [], ◌∷◌, ◌++◌, length, Ok, Err, Some, None, inl, inr, refl, sym, ap, ◌∙◌, subst, append_assoc, arith, eq-eqb, le-ltb}
use Rattle.std.proofs.lemmas.Bool.{or_parts}
use Rattle.py_tokens.specs.declared.token.Token.{Token}
use Rattle.py_tokens.specs.declared.token.TokenKind.{TokenKind}
use Rattle.py_tokens.specs.declared.token.TokenKind.TheVariants as k
use Rattle.py_tokens.specs.declared.token.Other.TheVariants as other
use Rattle.py_tokens.specs.declared.token.Place.{Place}
use Rattle.py_tokens.specs.Place.{token_at as at}
use Rattle.py_tree.specs.declared.expr.Expr.{Expr}
use Rattle.py_tree.specs.declared.expr.Level.{Level}
use Rattle.py_base.specs.declared.refusal.Construct.{Construct}
use Rattle.py_grammar.specs.declared.fault.Fault.TheVariants.{LeftOut}
use Rattle.py_grammar.specs.Words.{below}
use Rattle.py_grammar.specs.Grammar.{Marks}
use Rattle.py_grammar.specs.declared.tall.Tall.{Tall}
use Rattle.py_grammar.specs.inner.Tall.{plain, push, none, start, of_name, of_int, of_string, unit, of_tuple, of_list, of_dict, of_trail, of_power, of_sign, of_chain, of_not, of_choice}
use Rattle.py_tree.specs.declared.expr.Sign.{Sign}
use Rattle.py_tree.specs.declared.expr.Sign.TheVariants as sign
use Rattle.py_grammar.specs.declared.rung.Rung.TheVariants.{Negated}
use Rattle.py_grammar.specs.inner.Reading.{Reads, Test, ◌>>=◌, Below, first, rest, is_op, comes, left_at, is_some, rung_at, atom_at, trail_at, power_at, chain_at, choice_at, after_at, signed, sign_of, trails, links, links_at}
use Rattle.py_grammar.proofs.Steps.{Reaches, at_same}
use Rattle.py_grammar.proofs.Facts.{no, comes_at, not_op, not_keyword, takes_not, not_true}
use Rattle.py_grammar.specs.inner.Follow.{stops}
use Rattle.py_grammar.specs.Words.{sign_word}
use Rattle.py_grammar.specs.Grammar as G
use Rattle.py_grammar.specs.Grammar.{Is, Strings, Tests, Commas, Exprs, Pairs, Links, Trailers, Trails, Maybe, Args}
use Rattle.py_grammar.specs.inner.Reading.{round_at, round_close, list_at, list_close, dict_at, dict_value, tests_at, strings_at, op_at, keyword_at, trailers_at, string_of, is_unicode}
use Rattle.py_grammar.specs.Codes as c
use Rattle.py_base.specs.declared.refusal.Construct.TheVariants as left

-- ---- the first token

pub record Headed (n : ℕ) (ts : List Token) : Type 0 where
  pub head : Token
  pub tail : List Token
  pub split : ts ≡ head ∷ tail
  pub may : comes n head.kind ≡ true

pub more_headed : {n : ℕ} {ts : List Token} (vs : List Token) → Headed n ts → Headed n (ts ++ vs)
more_headed vs h = record { head = h.head; tail = h.tail ++ vs; split = ap (λ z. z ++ vs) h.split; may = h.may }

pub up_headed : {n : ℕ} (m : ℕ) {ts : List Token} → n ≤ m → Headed n ts → Headed m ts
up_headed {n = n} m l h = record {
  head = h.head;
  tail = h.tail;
  split = h.split;
  may =
      comes_at n m h.head.kind l h.may;
}

strings_headed : {x : Marks} {s : List ℕ} {ts : List Token} → Strings x s ts → Headed 0 ts
strings_headed (G.one x s p) = record { head = _; tail = _; split = refl; may = refl }
strings_headed (G.more x s p q) = record { head = _; tail = _; split = refl; may = refl }
strings_headed (G.unicode p) = record { head = _; tail = _; split = refl; may = refl }

sign_may : (s : Sign) → comes 3 (sign_word s) ≡ true
sign_may sign.Plus = refl
sign_may sign.Minus = refl
sign_may sign.Invert = refl

pub headed : {x : Marks} {n : ℕ} {a : Expr} {ts : List Token} → Is x n a ts → Headed n ts
headed (G.up n l p) = up_headed (suc n) (omega arith) (headed p)
headed (G.name x n p) = record { head = _; tail = _; split = refl; may = refl }
headed (G.int x n p) = record { head = _; tail = _; split = refl; may = refl }
headed (G.strings p) = strings_headed p
headed (G.group p q r) = record { head = _; tail = _; split = refl; may = refl }
headed (G.unit x p q) = record { head = _; tail = _; split = refl; may = refl }
headed (G.round p q r) = record { head = _; tail = _; split = refl; may = refl }
headed (G.no_list x p q) = record { head = _; tail = _; split = refl; may = refl }
headed (G.list p q r) = record { head = _; tail = _; split = refl; may = refl }
headed (G.no_dict x p q) = record { head = _; tail = _; split = refl; may = refl }
headed (G.dict p q r) = record { head = _; tail = _; split = refl; may = refl }
headed (G.trail {us = us} p q) = more_headed us (up_headed 1 (omega arith) (headed p))
headed (G.power p q r) = more_headed _ (up_headed 2 (omega arith) (headed q))
headed (G.signed s p q) = record { head = _; tail = _; split = refl; may = sign_may s }
headed (G.chain l {us = us} p q) = more_headed us (up_headed (suc (below l)) (omega arith) (headed p))
headed (G.negated p q) = record { head = _; tail = _; split = refl; may = refl }
headed (G.choice p q a b d) = more_headed _ (more_headed _ (up_headed 14 (omega arith) (headed a)))
headed (G.float p) = record { head = _; tail = _; split = refl; may = refl }
headed (G.long p) = record { head = _; tail = _; split = refl; may = refl }
headed (G.backquote p) = record { head = _; tail = _; split = refl; may = refl }
headed (G.lambda p) = record { head = _; tail = _; split = refl; may = refl }
headed (G.yielded p q) = record { head = _; tail = _; split = refl; may = refl }
headed (G.generator p q r) = record { head = _; tail = _; split = refl; may = refl }
headed (G.comprehension p q r) = record { head = _; tail = _; split = refl; may = refl }
headed (G.set_of p q r) = record { head = _; tail = _; split = refl; may = refl }
headed (G.dict_of p q r a b) = record { head = _; tail = _; split = refl; may = refl }
headed (G.set p q r) = record { head = _; tail = _; split = refl; may = refl }
headed (G.set_one p q r) = record { head = _; tail = _; split = refl; may = refl }

pub commas_headed : {x : Marks} {es : List Expr} {ts : List Token} → Commas x es ts → Headed 14 ts
commas_headed (G.lone p q) = more_headed _ (headed q)
commas_headed (G.several p q r) = more_headed _ (headed q)

pub tests_headed : {x : Marks} {es : List Expr} {t : Bool} {ts : List Token} → Tests x es t ts → Headed 14 ts
tests_headed (G.only r) = headed r
tests_headed (G.only_comma p r) = more_headed _ (headed r)
tests_headed (G.more_tests p r m) = more_headed _ (headed r)

pub begin : {n : ℕ} {ts : List Token} → Headed n ts → (vs : List Token) → comes n (first (ts ++ vs)) ≡ true
begin {n = n} h vs = subst (λ z. comes n (first (z ++ vs)) ≡ true) (sym h.split) h.may

pub long : {n : ℕ} {ts : List Token} → Headed n ts → 0 < length ts
long h = omega (arith, ap length h.split)

pub begin_op : (n : ℕ) → comes 14 (k.Op n) ≡ false → {ts : List Token} → Headed 14 ts → (vs : List Token) →
    is_op n (first (ts ++ vs)) ≡ false
begin_op n c {ts = ts} h vs = not_op n (first (ts ++ vs)) c (begin h vs)

pub as_value : {A : Type 0} (x : Marks) (r : Reads A) (a b : A) (us : List Token) → a ≡ b → Reaches x r a us →
    Reaches x r b us
as_value x r a b us e p = subst (λ z. Reaches x r z us) e p

-- ---- steps

pub s_name : (under : Below) (g : ℕ) (n : List ℕ) (p : Place) (us : List Token) →
    atom_at under g (at (k.Name n) p ∷ us) ≡ Ok (of_name n, us)
unfolding atom_at
s_name under g n p us = refl

pub s_int : (under : Below) (g : ℕ) (n : ℤ) (p : Place) (us : List Token) →
    atom_at under g (at (k.Int n) p ∷ us) ≡ Ok (of_int n, us)
unfolding atom_at
s_int under g n p us = refl

pub s_string : (under : Below) (g : ℕ) (s : List ℕ) (p : Place) (us : List Token) →
    atom_at under g (at (k.Str s) p ∷ us) ≡ (strings_at g s us >>= λ x. Ok (of_string x.0, x.1))
unfolding atom_at
s_string under g s p us = refl

pub s_other : (under : Below) (g : ℕ) (o : _) (p : Place) (us : List Token) → (d : Construct) →
    left_at 0 (k.Other o) ≡ Some d → atom_at under g (at (k.Other o) p ∷ us) ≡ Err (LeftOut d, at (k.Other o) p ∷ us)
unfolding atom_at
s_other under g o p us d h = rw h refl

pub s_backquote : (under : Below) (g : ℕ) (p : Place) (us : List Token) →
    atom_at under g (at c.backquote p ∷ us) ≡ Err (LeftOut left.Backquote, at c.backquote p ∷ us)
unfolding atom_at
s_backquote under g p us = refl

pub s_unit : (under : Below) (g : ℕ) (p q : Place) (us : List Token) →
    atom_at under g (at c.open_round p ∷ at c.close_round q ∷ us) ≡ Ok (unit, us)
unfolding atom_at round_at
s_unit under g p q us = refl

pub s_yield : (under : Below) (g : ℕ) (p q : Place) (us : List Token) →
    atom_at under g (at c.open_round p ∷ at c.yield_ q ∷ us) ≡ Err (LeftOut left.Generator, at c.yield_ q ∷ us)
unfolding atom_at round_at
s_yield under g p q us = refl

pub s_no_list : (under : Below) (g : ℕ) (p q : Place) (us : List Token) →
    atom_at under g (at c.open_square p ∷ at c.close_square q ∷ us) ≡ Ok (of_list none, us)
unfolding atom_at list_at
s_no_list under g p q us = refl

pub s_no_dict : (under : Below) (g : ℕ) (p q : Place) (us : List Token) →
    atom_at under g (at c.open_brace p ∷ at c.close_brace q ∷ us) ≡ Ok (of_dict (plain [] 0), us)
unfolding atom_at dict_at
s_no_dict under g p q us = refl

pub s_round : (under : Below) (g : ℕ) (p : Place) (us : List Token) → comes 14 (first us) ≡ true →
    atom_at under g (at c.open_round p ∷ us) ≡ (under.read 14 us >>= round_close under g)
unfolding atom_at round_at
s_round under g p us h = rw (not_op 33 (first us) refl h) (rw (not_keyword 14 30 (first us) refl h) refl)

pub s_list : (under : Below) (g : ℕ) (p : Place) (us : List Token) → comes 14 (first us) ≡ true →
    atom_at under g (at c.open_square p ∷ us) ≡ (under.read 14 us >>= list_close under g)
unfolding atom_at list_at
s_list under g p us h = rw (not_op 35 (first us) refl h) refl

pub s_dict : (under : Below) (g : ℕ) (p : Place) (us : List Token) → comes 14 (first us) ≡ true →
    atom_at under g (at c.open_brace p ∷ us) ≡ (under.read 14 us >>= dict_value under g)
unfolding atom_at dict_at
s_dict under g p us h = rw (not_op 37 (first us) refl h) refl

pub s_op : (n : ℕ) (p : Place) (us : List Token) → op_at n (at (k.Op n) p ∷ us) ≡ Ok (tt, us)
unfolding op_at
s_op n p us = rw (eq-eqb n n refl) refl

pub s_else : (p : Place) (us : List Token) → keyword_at 9 (at c.else_ p ∷ us) ≡ Ok (tt, us)
unfolding keyword_at
s_else p us = refl

pub s_trail : (under : Below) (g d : ℕ) (v : Tall Expr) (us : List Token) → trails (first us) ≡ true → v.tall + 1 ≤ d →
    trail_at under g d (v, us) ≡ (trailers_at under g g (plain [] 0) us >>= λ rs. Ok (of_trail v rs.0, rs.1))
unfolding trail_at
s_trail under g d v us h b = rw h (rw (le-ltb d (v.tall + 1) b) refl)

pub s_power : (under : Below) (d : ℕ) (v : Tall Expr) (p : Place) (us : List Token) → v.tall + 1 ≤ d →
    power_at under d (v, at c.power p ∷ us) ≡ (under.read 3 us >>= λ b. Ok (of_power v b.0, b.1))
unfolding power_at
s_power under d v p us b = rw (le-ltb d (v.tall + 1) b) refl

pub s_sign : (under : Below) (d : ℕ) (operand : Test) (s : Sign) (p : Place) (us : List Token) → 2 ≤ d →
    signed under d operand (sign_of (sign_word s)) (at (sign_word s) p ∷ us) ≡
    (under.read 3 us >>= λ a. Ok (of_sign s a.0, a.1))
s_sign under d operand sign.Plus p us b = rw (le-ltb d 2 b) refl
s_sign under d operand sign.Minus p us b = rw (le-ltb d 2 b) refl
s_sign under d operand sign.Invert p us b = rw (le-ltb d 2 b) refl

pub s_not : (under : Below) (g d : ℕ) (operand : Test) (p : Place) (us : List Token) → 2 ≤ d →
    rung_at Negated under g d operand (at c.not_ p ∷ us) ≡ (under.read 11 us >>= λ a. Ok (of_not a.0, a.1))
s_not under g d operand p us b = rw (le-ltb d 2 b) refl

pub s_chain : (l : Level) (next : Test) (g d : ℕ) (v : Tall Expr) (us : List Token) → links l (first us) ≡ true →
    v.tall + 1 ≤ d → chain_at l next g d (v, us) ≡ (links_at l next g (plain [] 0) us >>= λ ls.
    Ok (of_chain l v ls.0, ls.1))
unfolding chain_at
s_chain l next g d v us h b = rw h (rw (le-ltb d (v.tall + 1) b) refl)

pub s_choice : (under : Below) (d : ℕ) (v : Tall Expr) (p : Place) (us : List Token) → v.tall + 1 ≤ d →
    choice_at under d (v, at c.if_ p ∷ us) ≡
    (under.read 13 us >>= λ b. (keyword_at 9 b.1 >>= λ w. (under.read 14 w.1 >>= λ x. Ok (of_choice v b.0 x.0, x.1))))
unfolding choice_at
s_choice under d v p us b = rw (le-ltb d (v.tall + 1) b) refl

pub s_after : (under : Below) (g d : ℕ) (v : Tall Expr) (p : Place) (us : List Token) → v.tall + 1 ≤ d →
    after_at under g d v (at c.comma p ∷ us) ≡ (tests_at (under.read 14) g (start v) (at c.comma p ∷ us) >>= λ es.
    Ok (of_tuple (es.0).0, es.1))
unfolding after_at
s_after under g d v p us b = rw (le-ltb d (v.tall + 1) b) refl

pub s_tests : (next : Test) (f : ℕ) (found : Tall (List Expr)) (p : Place) (us : List Token) →
    comes 14 (first us) ≡ true → tests_at next (suc f) found (at c.comma p ∷ us) ≡
    (next us >>= λ a. tests_at next f (push found a.0) a.1)
unfolding tests_at
s_tests next f found p us h = rw h refl

pub s_tests_end : (next : Test) (f : ℕ) (found : Tall (List Expr)) (us : List Token) → is_op 38 (first us) ≡ false →
    tests_at next f found us ≡ Ok ((found, false), us)
unfolding tests_at
s_tests_end next zero found us h = refl
s_tests_end next (suc f) found us h = rw h refl

pub s_tests_comma : (next : Test) (f : ℕ) (found : Tall (List Expr)) (p : Place) (us : List Token) →
    comes 14 (first us) ≡ false → tests_at next (suc f) found (at c.comma p ∷ us) ≡ Ok ((found, true), us)
unfolding tests_at
s_tests_comma next f found p us h = rw h refl

pub no_comma : (kind : TokenKind) → stops 15 kind ≡ true → is_op 38 kind ≡ false
no_comma kind h = (or_parts (is_op 38 kind) _ (takes_not 14 kind h)).0

pub no_test : (kind : TokenKind) → stops 15 kind ≡ true → comes 14 kind ≡ false
no_test kind h = (or_parts (is_op 38 kind) _ (takes_not 14 kind h)).1

no_string : (kind : TokenKind) → stops 0 kind ≡ true → string_of kind ≡ None
no_string (k.Str s) h = no (sym h)
no_string (k.Name m) h = refl
no_string (k.Keyword m) h = refl
no_string (k.Int m) h = refl
no_string (k.Op m) h = refl
no_string k.Newline h = refl
no_string k.Indent h = refl
no_string k.Dedent h = refl
no_string k.End h = refl
no_string (k.Other o) h = refl

no_unicode : (kind : TokenKind) → stops 0 kind ≡ true → is_unicode kind ≡ false
no_unicode kind h = (or_parts (is_some (string_of kind)) _ (not_true _ h)).1

pub s_strings_end : (f : ℕ) (found : List ℕ) (us : List Token) → stops 0 (first us) ≡ true →
    strings_at f found us ≡ Ok (found, us)
unfolding strings_at
s_strings_end zero found us h = refl
s_strings_end (suc f) found us h = rw (no_string (first us) h) (rw (no_unicode (first us) h) refl)

pub s_strings : (f : ℕ) (found s : List ℕ) (p : Place) (us : List Token) →
    strings_at (suc f) found (at (k.Str s) p ∷ us) ≡ strings_at f (found ++ s) us
unfolding strings_at
s_strings f found s p us = refl

pub s_unicode : (f : ℕ) (found : List ℕ) (p : Place) (us : List Token) →
    strings_at (suc f) found (at (k.Other other.Unicode) p ∷ us) ≡ Err
    (LeftOut left.Unicode, at (k.Other other.Unicode) p ∷ us)
unfolding strings_at
s_unicode f found p us = refl

pub complete_strings : {x : Marks} {s : List ℕ} {ts : List Token} → Strings x s ts →
    (f : ℕ) (found : List ℕ) (rest : List Token) → length ts ≤ f → stops 0 (first rest) ≡ true →
    Reaches x (strings_at f found (ts ++ rest)) (found ++ s) rest
complete_strings (G.one x s p) zero found rest b h = absurd (omega arith)
complete_strings (G.one x s p) (suc f) found rest b h =
    inl (s_strings f found s p rest ∙ s_strings_end f (found ++ s) rest h)
complete_strings (G.more x s p q) zero found rest b h = absurd (omega arith)
complete_strings (G.more x s p {r = r} {ts = ts} q) (suc f) found rest b h =
    at_same x _ _ _ rest (s_strings f found s p (ts ++ rest))
    (as_value x _ _ _ rest (append_assoc found s r) (complete_strings q f (found ++ s) rest (omega arith) h))
complete_strings (G.unicode p) zero found rest b h = absurd (omega arith)
complete_strings (G.unicode p) (suc f) found rest b h = inr (left.Unicode, _, refl, s_unicode f found p rest)
