-- The equations of reading several expressions, pairs, arguments and trailers, and what such a list begins with.
use Rattle.std.proofs.Common.{◌≡◌, ℕ, zero, suc, ◌-◌, ◌<◌, ◌≤◌, Bool, true, false, ◌&&◌, List, [], ◌∷◌, ◌++◌, length, Ok, Err, Option, Some, None, inl, inr, refl, sym, ap, ◌∙◌, subst, append_assoc, append-nil, arith, length-append}
use Rattle.py_tokens.specs.declared.token.Token.{Token}
use Rattle.py_tokens.specs.declared.token.TokenKind.{TokenKind}
use Rattle.py_tokens.specs.declared.token.TokenKind.TheVariants as k
use Rattle.py_tokens.specs.declared.token.Other.TheVariants as other
use Rattle.py_tokens.specs.declared.token.Place.{Place}
use Rattle.py_tokens.specs.Place.{token_at as at}
use Rattle.py_tree.specs.declared.expr.Expr.{Expr}
use Rattle.py_tree.specs.declared.expr.Level.{Level}
use Rattle.py_tree.specs.declared.expr.Operator.{Operator}
use Rattle.py_tree.specs.Form.{form}
use Rattle.py_base.specs.declared.refusal.Construct.{Construct}
use Rattle.py_grammar.specs.declared.fault.Fault.TheVariants.{LeftOut}
use Rattle.py_grammar.specs.Words.{below, level_of}
use Rattle.py_grammar.specs.Grammar.{Marks}
use Rattle.py_grammar.specs.declared.tall.Tall.{Tall}
use Rattle.py_grammar.specs.inner.Tall.{plain, push, none, push_link, push_pair, push_named, push_trailer, of_name, of_string, of_dict, of_trail, of_attribute, of_call}
use Rattle.py_tree.specs.declared.form.Form.{Form}
use Rattle.py_tree.specs.declared.form.Form.TheVariants.{Plain}
use Rattle.py_tree.specs.declared.expr.Expr.TheVariants as e
use Rattle.py_tree.specs.declared.expr.Link.{Link}
use Rattle.py_tree.specs.declared.expr.Pair.{Pair}
use Rattle.py_tree.specs.declared.expr.Named.{Named}
use Rattle.py_tree.specs.declared.expr.Trailer.{Trailer}
use Rattle.py_grammar.specs.declared.rung.Rung.TheVariants.{Chosen}
use Rattle.py_grammar.specs.inner.Reading.{Reads, Test, ◌>>=◌, Below, first, rest, is_op, is_keyword, comes, is_some, rung_of, rung_at, reads, choice_at, after_at, trails, links, links_at}
use Rattle.py_grammar.proofs.Steps.{of, Reaches, then_reads, at_same, reads_atom, reads_up, quiet, none_of}
use Rattle.py_grammar.proofs.Facts.{no, no_head, not_op, stops_down, takes_not, rung_below, word_stops, word_links, operator_step}
use Rattle.py_grammar.proofs.Values.{plus_tests, push_tests, plus_links, plus_pairs, push_pairs, plus_named, push_nameds, plus_trailers, same, as_string, as_dict, as_trail}
use Rattle.py_grammar.specs.inner.Follow.{stops, takes}
use Rattle.py_grammar.specs.Words.{spelled}
use Rattle.py_grammar.proofs.Begin.{Headed, begin_op, more_headed, commas_headed, headed, as_value, s_name, s_string, s_other, s_tests_comma, s_strings_end, complete_strings}
use Rattle.py_grammar.specs.Grammar as G
use Rattle.py_grammar.specs.Grammar.{Strings, Exprs, Pairs, Links, Trailers, Trails, Args}
use Rattle.py_grammar.specs.inner.Reading.{is_bare, is_none, linked, operator_of, tests_at, pairs_at, op_at, name_at, trailers_at, trailer_at, subscript_at, index_close, slice_at, slice_close, call_at, args_at, arg_by, named_at, keyed}
use Rattle.py_grammar.specs.Codes as c
use Rattle.py_base.specs.declared.refusal.Construct.TheVariants as left

pub tests_nil : (r : Tall (List Expr)) → plus_tests r [] ≡ r
tests_nil r = same (append-nil r.tree) (omega arith) refl

pub links_nil : (r : Tall (List Link)) → r.form ≡ Plain → plus_links r [] ≡ r
links_nil r e = same (append-nil r.tree) (omega arith) (sym e)

pub tests_trailing : (next : Test) (f : ℕ) (found : Tall (List Expr)) (p : Place) (us : List Token) → 0 < f →
    comes 14 (first us) ≡ false → tests_at next f found (at c.comma p ∷ us) ≡ Ok ((found, true), us)
tests_trailing next zero found p us b h = absurd (omega arith)
tests_trailing next (suc f) found p us b h = s_tests_comma next f found p us h

pub three : (kind : TokenKind) → stops 2 kind ≡ true → stops 3 kind ≡ true
three kind h = rw h refl

pub links_first : {x : Marks} {l : Level} {ls : List Link} {us : List Token} → Links x l ls us → (rest : List Token) →
    (links l (first (us ++ rest)) ≡ true) × (stops (below l) (first (us ++ rest)) ≡ true)
links_first (G.link l o p q e a) rest = (word_links o l e, word_stops o l e)
links_first (G.more_links l o p q e a r) rest = (word_links o l e, word_stops o l e)

pub s_links_end : (l : Level) (next : Test) (f : ℕ) (found : Tall (List Link)) (us : List Token) →
    links l (first us) ≡ false → links_at l next f found us ≡ Ok (found, us)
unfolding links_at
s_links_end l next zero found us h = refl
s_links_end l next (suc f) found us h = ap (λ o. linked next (links_at l next f) o found us)
    (none_of (operator_of l (first us)) h)

pub s_links : (l : Level) (next : Test) (f : ℕ) (o : Operator) (p q : Place) (found : Tall (List Link))
    (us : List Token) →
    level_of o ≡ Some l → comes (below l) (first us) ≡ true → links_at l next (suc f) found (spelled o p q ++ us) ≡
    (next us >>= λ a. links_at l next f (push_link found o a.0) a.1)
unfolding links_at
s_links l next f o p q found us e h = operator_step next (links_at l next f) l o p q found us e h

pub pairs_headed : {x : Marks} {ps : List Pair} {ts : List Token} → Pairs x ps ts → Headed 14 ts
pairs_headed (G.pair p a b) = more_headed _ (headed a)
pairs_headed (G.pair_comma p q a b) = more_headed _ (more_headed _ (headed a))
pairs_headed (G.more_pairs p q a b r) = more_headed _ (more_headed _ (headed a))

pub links_none : (l : Level) (kind : TokenKind) → takes (rung_of (below l)) kind ≡ false → links l kind ≡ false
links_none l kind h = ap (λ r. takes r kind) (sym (rung_below l)) ∙ h

pub trail_first : {x : Marks} {r : Trailer} {us : List Token} → Trails x r us → (rest : List Token) →
    (trails (first (us ++ rest)) ≡ true) × (stops 0 (first (us ++ rest)) ≡ true)
trail_first (G.attribute x n p q) rest = (refl, refl)
trail_first (G.index p q a) rest = (refl, refl)
trail_first (G.slice p q r a b) rest = (refl, refl)
trail_first (G.no_call x p q) rest = (refl, refl)
trail_first (G.call p q a) rest = (refl, refl)
trail_first (G.generator_call p q a) rest = (refl, refl)
trail_first (G.long_slice p q r a b) rest = (refl, refl)
trail_first (G.slices p q r a b) rest = (refl, refl)

pub trailers_first : {x : Marks} {rs : List Trailer} {us : List Token} → Trailers x rs us → (rest : List Token) →
    (trails (first (us ++ rest)) ≡ true) × (stops 0 (first (us ++ rest)) ≡ true)
trailers_first (G.last r) rest = trail_first r rest
trailers_first (G.more_trailers {ts = ts} {us = us} r q) rest =
    subst (λ w. (trails (first w) ≡ true) × (stops 0 (first w) ≡ true)) (sym (append_assoc ts us rest))
    (trail_first r (us ++ rest))

pub trail_value : {x : Marks} (a : Expr) {rs : List Trailer} {us : List Token} → Trailers x rs us →
    of_trail (of a) (plus_trailers (plain [] 0) rs) ≡ of (e.Trail a rs)
trail_value a (G.last {r = r} q) = as_trail a r []
trail_value a (G.more_trailers {r = r} {rs = rs} q w) = as_trail a r rs

pub choice_plain : (g d : ℕ) (us : List Token) → is_keyword 20 (first us) ≡ false →
    rung_at Chosen (reads g (d - 1)) g d ((reads g d).read 13) us ≡
    ((reads g d).read 13 us >>= choice_at (reads g (d - 1)) d)
choice_plain g d us h = rw h refl

abbrev pub pair_value : Test → ℕ → Tall (List Pair) → Tall Expr → Unit {0} × List Token → Reads (Tall (List Pair))
pair_value next f found a colon = next colon.1 >>= λ b. pairs_at next f (push_pair found a b.0) b.1

abbrev pub pair_more : Test → ℕ → Tall (List Pair) → Tall Expr × List Token → Reads (Tall (List Pair))
pair_more next f found a = op_at 39 a.1 >>= pair_value next f found a.0

pub s_pairs : (next : Test) (f : ℕ) (found : Tall (List Pair)) (p : Place) (us : List Token) →
    comes 14 (first us) ≡ true → pairs_at next (suc f) found (at c.comma p ∷ us) ≡ (next us >>= pair_more next f found)
unfolding pairs_at
s_pairs next f found p us h = rw h refl

pub s_pairs_end : (next : Test) (f : ℕ) (found : Tall (List Pair)) (us : List Token) → is_op 38 (first us) ≡ false →
    pairs_at next f found us ≡ Ok (found, us)
unfolding pairs_at
s_pairs_end next zero found us h = refl
s_pairs_end next (suc f) found us h = rw h refl

pub pairs_trailing : (next : Test) (f : ℕ) (found : Tall (List Pair)) (p : Place) (us : List Token) → 0 < f →
    comes 14 (first us) ≡ false → pairs_at next f found (at c.comma p ∷ us) ≡ Ok (found, us)
unfolding pairs_at
pairs_trailing next zero found p us b h = absurd (omega arith)
pairs_trailing next (suc f) found p us b h = rw h refl

pub pairs_nil : (r : Tall (List Pair)) → r.form ≡ Plain → plus_pairs r [] ≡ r
pairs_nil r e = same (append-nil r.tree) (omega arith) (sym e)

pub pairs_one : (r : Tall (List Pair)) (a b : Expr) →
    push_pair r (of a) (of b) ≡ plus_pairs r (record { key = a; value = b } ∷ [])
pairs_one r a b = sym (pairs_nil (push_pair r (of a) (of b)) refl) ∙ push_pairs r a b []

pub dict_one : (a b : Expr) → of_dict (push_pair (plain [] 0) (of a) (of b)) ≡ of
    (e.Dict (record { key = a; value = b } ∷ []))
dict_one a b = ap of_dict (pairs_one (plain [] 0) a b) ∙ as_dict (record { key = a; value = b } ∷ [])

pub trailers_nil : (r : Tall (List Trailer)) → plus_trailers r [] ≡ r
trailers_nil r = same (append-nil r.tree) (omega arith) refl

pub trail_long : {x : Marks} {r : Trailer} {us : List Token} → Trails x r us → 0 < length us
trail_long (G.attribute x n p q) = omega arith
trail_long (G.index p q {ts = ts} a) = omega (arith, length-append ts (at c.close_square q ∷ []))
trail_long (G.slice p q r {ts = ts} {us = us} a b) =
    omega (arith, length-append (ts ++ at c.colon q ∷ us) (at c.close_square r ∷ []))
trail_long (G.no_call x p q) = omega arith
trail_long (G.call p q {ts = ts} a) = omega (arith, length-append ts (at c.close_round q ∷ []))
trail_long (G.generator_call p q {ts = ts} a) = omega (arith, length-append ts (at c.for_ q ∷ []))
trail_long (G.long_slice p q r {ts = ts} {us = us} a b) =
    omega (arith, length-append (ts ++ at c.colon q ∷ us) (at c.colon r ∷ []))
trail_long (G.slices p q r {ts = ts} {us = us} a b) =
    omega (arith, length-append (ts ++ at c.colon q ∷ us) (at c.comma r ∷ []))

pub s_trailers : (under : Below) (g f : ℕ) (found : Tall (List Trailer)) (us : List Token) → trails (first us) ≡ true →
    trailers_at under g (suc f) found us ≡
    (trailer_at under g us >>= λ r. trailers_at under g f (push_trailer found r.0) r.1)
unfolding trailers_at
s_trailers under g f found us h = rw h refl

pub s_trailers_end : (under : Below) (g f : ℕ) (found : Tall (List Trailer)) (us : List Token) →
    trails (first us) ≡ false → trailers_at under g f found us ≡ Ok (found, us)
unfolding trailers_at
s_trailers_end under g zero found us h = refl
s_trailers_end under g (suc f) found us h = rw h refl

pub s_attribute : (under : Below) (g : ℕ) (n : List ℕ) (p q : Place) (us : List Token) →
    trailer_at under g (at c.dot p ∷ at (k.Name n) q ∷ us) ≡ Ok (of_attribute n, us)
unfolding trailer_at name_at
s_attribute under g n p q us = refl

pub s_subscript : (under : Below) (g : ℕ) (p : Place) (us : List Token) →
    trailer_at under g (at c.open_square p ∷ us) ≡ subscript_at under us
unfolding trailer_at
s_subscript under g p us = refl

pub s_first : (under : Below) (us : List Token) → is_op 39 (first us) ≡ false →
    subscript_at under us ≡ (under.read 14 us >>= index_close under)
unfolding subscript_at
s_first under us h = rw h refl

pub s_colon : (under : Below) (q : Place) (us : List Token) →
    subscript_at under (at c.colon q ∷ us) ≡ slice_at under None us
unfolding subscript_at
s_colon under q us = refl

pub s_upper : (under : Below) (a : Option (Tall Expr)) (us : List Token) → comes 14 (first us) ≡ true →
    slice_at under a us ≡ (under.read 14 us >>= λ b. slice_close a (Some b.0) b.1)
unfolding slice_at
s_upper under a us h = rw h refl

pub s_no_upper : (under : Below) (a : Option (Tall Expr)) (us : List Token) → comes 14 (first us) ≡ false →
    slice_at under a us ≡ slice_close a None us
unfolding slice_at
s_no_upper under a us h = rw h refl

pub s_no_call : (under : Below) (g : ℕ) (p q : Place) (us : List Token) →
    trailer_at under g (at c.open_round p ∷ at c.close_round q ∷ us) ≡ Ok (of_call none (plain [] 0), us)
unfolding trailer_at call_at
s_no_call under g p q us = refl

pub s_call : (under : Below) (g : ℕ) (p : Place) (us : List Token) → is_op 33 (first us) ≡ false →
    trailer_at under g (at c.open_round p ∷ us) ≡ (args_at (under.read 14) g none us >>= λ x.
    (op_at 33 x.1 >>= λ close. Ok (x.0, close.1)))
unfolding trailer_at call_at
s_call under g p us h = rw h refl

at_after : (g d : ℕ) (v : Tall Expr) (us : List Token) → (reads g (suc d)).after v us ≡ after_at (reads g d) g (suc d)
    v us
unfolding reads
at_after g d v us = refl

pub reads_after : (g d : ℕ) (v : Tall Expr) (us : List Token) → 0 < d →
    (reads g d).after v us ≡ after_at (reads g (d - 1)) g d v us
reads_after g zero v us h = absurd (omega arith)
reads_after g (suc d) v us h = let e : suc d - 1 ≡ d = omega arith in rw e (at_after g d v us)

pub index_first : {x : Marks} {a : Expr} {ts : List Token} → Exprs x a ts → (us : List Token) →
    is_op 39 (first (ts ++ us)) ≡ false
index_first (G.single p) us = begin_op 39 refl (headed p) us
index_first (G.tuple r) us = begin_op 39 refl (commas_headed r) us

pub args_first : {x : Marks} {es : List Expr} {ns : List Named} {ts : List Token} → Args x es ns ts →
    (us : List Token) → is_op 33 (first (ts ++ us)) ≡ false
args_first (G.arg p) us = begin_op 33 refl (headed p) us
args_first (G.arg_comma p q) us = begin_op 33 refl (more_headed (at c.comma p ∷ []) (headed q)) us
args_first (G.more_args p {us = us'} q r) us = begin_op 33 refl (more_headed (at c.comma p ∷ us') (headed q)) us
args_first (G.named n p q a) us = refl
args_first (G.named_comma n p q r a) us = refl
args_first (G.more_named n p q r a w) us = refl
args_first (G.starred p) us = refl
args_first (G.double_starred p) us = refl

and_no : (a b : Bool) → b ≡ false → (a && b) ≡ false
and_no true b h = h
and_no false b h = refl

pub keyed_no : (f : Form) (w kind : TokenKind) → is_op 42 kind ≡ false → keyed f w kind ≡ None
keyed_no f w kind h = rw (and_no (is_bare f) (is_op 42 kind) h) refl

s_args : (next : Test) (f : ℕ) (found : Tall (List Expr)) (us : List Token) → comes 14 (first us) ≡ true →
    args_at next (suc f) found us ≡ (next us >>= λ a.
    arg_by next f (args_at next f) found a (keyed a.0.form (first us) (first a.1)))
unfolding args_at
s_args next f found us h = rw (not_op 23 (first us) refl h) (rw (not_op 4 (first us) refl h) refl)

pub args_go : (next : Test) (f : ℕ) (found : Tall (List Expr)) (us : List Token) → 0 < f → comes 14 (first us) ≡ true →
    args_at next f found us ≡ (next us >>= λ a.
    arg_by next (f - 1) (args_at next (f - 1)) found a (keyed a.0.form (first us) (first a.1)))
args_go next zero found us b h = absurd (omega arith)
args_go next (suc f) found us b h = let e : suc f - 1 ≡ f = omega arith in rw e (s_args next f found us h)

-- a name alone
name_read : (n : ℕ) → n < 15 → (g d : ℕ) (m : List ℕ) (p : Place) (us : List Token) → 0 < d → stops n (first us) ≡ true
    → Reaches None ((reads g d).read n (at (k.Name m) p ∷ us)) (of_name m) us
name_read zero l g d m p us b s = inl (reads_atom g d _ b ∙ s_name (reads g (d - 1)) g m p us)
name_read (suc n) l g d m p us b s =
    at_same None _ _ _ us (reads_up g d n _ b)
    (quiet None (rung_of n) (reads g (d - 1)) g d ((reads g d).read n) (at (k.Name m) p ∷ us) us (of_name m)
    (no_head n (k.Name m) (omega arith) refl) (takes_not n (first us) s)
    (name_read n (omega arith) g d m p us b (stops_down n (first us) s)))

pub tests_one : (r : Tall (List Expr)) (a : Expr) → push r (of a) ≡ plus_tests r (a ∷ [])
tests_one r a = sym (tests_nil (push r (of a))) ∙ push_tests r a []

abbrev pub arg_next : Test → ℕ → Tall (List Expr) → List Token → Tall Expr × List Token → Reads (Tall Trailer)
arg_next next f found us a = arg_by next f (args_at next f) found a (keyed a.0.form (first us) (first a.1))

pub arg_end : (next : Test) (f : ℕ) (found : Tall (List Expr)) (us : List Token) (a : Expr) (q : Place)
    (rest : List Token) → arg_next next f found us (of a, at c.close_round q ∷ rest) ≡ Ok (
      of_call (push found (of a)) (plain [] 0),
      at c.close_round q ∷ rest,
    )
arg_end next f found us a q rest = rw (keyed_no (form a) (first us) c.close_round refl)
    (rw (and_no (is_none found.tree) false refl) refl)

pub arg_comma : (next : Test) (f : ℕ) (found : Tall (List Expr)) (us : List Token) (a : Expr) (p q : Place)
    (rest : List Token) → arg_next next f found us (of a, at c.comma p ∷ at c.close_round q ∷ rest) ≡ Ok
    (of_call (push found (of a)) (plain [] 0), at c.close_round q ∷ rest)
arg_comma next f found us a p q rest = rw (keyed_no (form a) (first us) c.comma refl)
    (rw (and_no (is_none found.tree) false refl) refl)

pub arg_more : (next : Test) (f : ℕ) (found : Tall (List Expr)) (us : List Token) (a : Expr) (p : Place)
    (vs : List Token)
    → is_op 33 (first vs) ≡ false → arg_next next f found us (of a, at c.comma p ∷ vs) ≡ args_at next f
    (push found (of a)) vs
arg_more next f found us a p vs h = rw (keyed_no (form a) (first us) c.comma refl)
    (rw (and_no (is_none found.tree) false refl) (rw h refl))

-- two readers, of which the second refuses
pub two_reads : {A B C : Type 0} (x : Marks) (r : Reads A) (f : A × List Token → Reads B) (k : B × List Token → Reads C)
    (a : A) (us : List Token) (v : C) (vs : List Token) (y : Construct) (ws : List Token) → x ≡ Some y →
    Reaches x r a us → f (a, us) ≡ Err (LeftOut y, ws) → Reaches x ((r >>= f) >>= k) v vs
two_reads x r f k a us v vs y ws e (inl p) q = inr (y, ws, e, ap (λ z. (z >>= f) >>= k) p ∙ ap (λ z. z >>= k) q)
two_reads x r f k a us v vs y ws e (inr p) q = inr (p.0, p.1, p.2, ap (λ z. (z >>= f) >>= k) p.3)

pub strings : {x : Marks} {w : List ℕ} {ts : List Token} → Strings x w ts → (g d : ℕ) (rest : List Token) →
    length ts ≤ g →
    0 < d → stops 0 (first rest) ≡ true → Reaches x ((reads g d).read 0 (ts ++ rest)) (of (e.Str w)) rest
strings (G.one x w p) g d rest b h s = as_value x _ _ _ rest (as_string w)
    (inl (reads_atom g d _ h ∙ s_string (reads g (d - 1)) g w p rest ∙
    ap (λ r. r >>= λ x. Ok (of_string x.0, x.1)) (s_strings_end g w rest s)))
strings (G.more x w p {r = r} {ts = ts} q) g d rest b h s =
    at_same x _ _ _ rest (reads_atom g d _ h ∙ s_string (reads g (d - 1)) g w p (ts ++ rest))
    (then_reads x _ (λ x. Ok (of_string x.0, x.1)) (w ++ r) rest _ rest (complete_strings q g w rest (omega arith) s)
    (inl (ap (λ v. Ok (v, rest)) (as_string (w ++ r)))))
strings (G.unicode p) g d rest b h s = inr (
  left.Unicode,
  _,
  refl,
  reads_atom g d _ h ∙
      s_other (reads g (d - 1)) g other.Unicode p rest left.Unicode refl,
)

pub named_nil : (r : Tall (List Named)) → r.form ≡ Plain → plus_named r [] ≡ r
named_nil r e = same (append-nil r.tree) (omega arith) (sym e)

pub nameds_one : (r : Tall (List Named)) (n : List ℕ) (a : Expr) →
    push_named r n (of a) ≡ plus_named r (record { name = n; value = a } ∷ [])
nameds_one r n a = sym (named_nil (push_named r n (of a)) refl) ∙ push_nameds r n a []

pub call_one : (found : Tall (List Expr)) (n : List ℕ) (a : Expr) →
    of_call found (push_named (plain [] 0) n (of a)) ≡ of_call (plus_tests found [])
    (plus_named (plain [] 0) (record { name = n; value = a } ∷ []))
call_one found n a = ap (λ v. of_call v (push_named (plain [] 0) n (of a))) (sym (tests_nil found)) ∙
    ap (of_call (plus_tests found [])) (nameds_one (plain [] 0) n a)

pub call_more : (found : Tall (List Expr)) (n : List ℕ) (a : Expr) (ns : List Named) →
    of_call found (plus_named (push_named (plain [] 0) n (of a)) ns) ≡ of_call (plus_tests found [])
    (plus_named (plain [] 0) (record { name = n; value = a } ∷ ns))
call_more found n a ns = ap (λ v. of_call v (plus_named (push_named (plain [] 0) n (of a)) ns)) (sym (tests_nil found))
    ∙ ap (of_call (plus_tests found [])) (push_nameds (plain [] 0) n a ns)

pub ok_of : {A : Type 0} {r : Reads A} {v : A} {us : List Token} → Reaches None r v us → r ≡ Ok (v, us)
ok_of (inl p) = p
ok_of (inr p) = no (sym (ap is_some p.2))

pub name_14 : (g d : ℕ) (m : List ℕ) (p : Place) (us : List Token) → 0 < d → stops 14 (first us) ≡ true →
    (reads g d).read 14 (at (k.Name m) p ∷ us) ≡ Ok (of_name m, us)
name_14 g d m p us b s = ok_of (name_read 14 (omega arith) g d m p us b s)

abbrev pub named_next : Test → ℕ → Tall (List Expr) → List ℕ → Tall Expr × List Token → Reads (Tall Trailer)
named_next next f found n b = named_at next f (push_named (plain [] 0) n b.0) b.1 >>= λ ns.
    Ok (of_call found ns.0, ns.1)

pub s_named_end : (next : Test) (f : ℕ) (found : Tall (List Named)) (us : List Token) → is_op 38 (first us) ≡ false →
    named_at next f found us ≡ Ok (found, us)
unfolding named_at
s_named_end next zero found us h = refl
s_named_end next (suc f) found us h = rw h refl

pub s_named_comma : (next : Test) (f : ℕ) (found : Tall (List Named)) (j q : Place) (rest : List Token) → 0 < f →
    named_at next f found (at c.comma j ∷ at c.close_round q ∷ rest) ≡ Ok (found, at c.close_round q ∷ rest)
unfolding named_at
s_named_comma next zero found j q rest b = absurd (omega arith)
s_named_comma next (suc f) found j q rest b = refl

pub s_named : (next : Test) (f : ℕ) (found : Tall (List Named)) (j : Place) (n : List ℕ) (p i : Place)
    (us : List Token) → named_at next (suc f) found (at c.comma j ∷ at (k.Name n) p ∷ at c.assign i ∷ us) ≡
    (next us >>= λ a. named_at next f (push_named found n a.0) a.1)
unfolding named_at name_at op_at
s_named next f found j n p i us = refl

pub s_named_starred : (next : Test) (f : ℕ) (found : Tall (List Named)) (j p : Place) (us : List Token) →
    named_at next (suc f) found (at c.comma j ∷ at c.star p ∷ us) ≡ Err (LeftOut left.StarArgument, at c.star p ∷ us)
unfolding named_at
s_named_starred next f found j p us = refl

pub s_named_double : (next : Test) (f : ℕ) (found : Tall (List Named)) (j p : Place) (us : List Token) →
    named_at next (suc f) found (at c.comma j ∷ at c.power p ∷ us) ≡ Err (LeftOut left.StarArgument, at c.power p ∷ us)
unfolding named_at
s_named_double next f found j p us = refl

pub s_starred : (next : Test) (f : ℕ) (found : Tall (List Expr)) (p : Place) (us : List Token) →
    args_at next (suc f) found (at c.star p ∷ us) ≡ Err (LeftOut left.StarArgument, at c.star p ∷ us)
unfolding args_at
s_starred next f found p us = refl

pub s_double_starred : (next : Test) (f : ℕ) (found : Tall (List Expr)) (p : Place) (us : List Token) →
    args_at next (suc f) found (at c.power p ∷ us) ≡ Err (LeftOut left.StarArgument, at c.power p ∷ us)
unfolding args_at
s_double_starred next f found p us = refl
