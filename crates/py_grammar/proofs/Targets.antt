-- What reading several expressions and targets tells.
use Rattle.std.proofs.Common.{◌≡◌, ℕ, zero, suc, ◌≤◌, Bool, true, false, ◌&&◌, List, [], ◌∷◌, ◌++◌, length, Err, Some, None, refl, sym, ap, ◌∙◌, subst, arith}
use Rattle.std.proofs.lemmas.Bool.{and_parts}
use Rattle.py_tokens.specs.declared.token.Token.{Token}
use Rattle.py_tokens.specs.declared.token.TokenKind.{TokenKind}
use Rattle.py_tokens.specs.declared.token.TokenKind.TheVariants as k
use Rattle.py_tokens.specs.declared.token.Other.TheVariants as other
use Rattle.py_tokens.specs.declared.token.Place.{Place}
use Rattle.py_tokens.specs.Place.{token_at as at}
use Rattle.py_tree.specs.declared.expr.Expr.{Expr}
use Rattle.py_tree.specs.declared.expr.Expr.TheVariants as ex
use Rattle.py_tree.proofs.Forms as ff
use Rattle.py_tree.specs.Form.{last_form}
use Rattle.std.proofs.Common.{map}
use Rattle.py_tree.specs.declared.form.Form.{Form}
use Rattle.py_tree.specs.declared.form.Form.TheVariants.{Bare, Part, Cut, Many, Plain}
use Rattle.py_tree.specs.declared.expr.Trailer.{Trailer}
use Rattle.py_tree.specs.Height.{height}
use Rattle.py_tree.specs.Form.{is_target, is_single, all_targets, form, form_trailer}
use Rattle.py_base.specs.declared.refusal.Construct.TheVariants as left
use Rattle.py_grammar.specs.declared.fault.Fault.{Fault}
use Rattle.py_grammar.specs.declared.fault.Fault.TheVariants.{Unexpected, LeftOut}
use Rattle.py_grammar.specs.Grammar as G
use Rattle.py_grammar.specs.Grammar.{Marks, Is, Strings, Tests, Commas, Exprs, Pairs, Links, Trailers, Trails, Maybe, Args}
use Rattle.py_grammar.specs.declared.tall.Tall.{Tall}
use Rattle.py_grammar.specs.inner.Reading.{too_deep, Reads, Test, ◌>>=◌, first, level_at, reads, after_at}
use Rattle.py_grammar.proofs.Steps.{of}
use Rattle.py_grammar.proofs.Facts.{no}
use Rattle.py_grammar.proofs.Told.{Mode, low, marked, Fits, Opens, near, more, Told, told_refused, told_left, told_same, told_post, told_bind, told_err}
use Rattle.py_grammar.proofs.Tells.{Read, told_read, word, is_word, length_after, then_exprs}
use Rattle.py_tree.specs.Form.{is_target, is_single, all_targets}
use Rattle.py_grammar.proofs.Levels.{unders, tell_after}
use Rattle.py_grammar.specs.Statements.{slices, Target}
use Rattle.py_grammar.specs.inner.Lines.{checked, Stop}

-- ---- expressions

abbrev pub ExprsHole : ℕ → List Token → Type 0
ExprsHole d pre = (m : Mode) (a : Expr) (us : List Token) → Exprs m.marks a us → Fits m (height a) d →
    Opens m (pre ++ us)

abbrev pub ReadExprs : ℕ → Tall Expr → List Token → Type 0
ReadExprs d v fs = (a : Expr) × (v ≡ of a) × ((x : Marks) → Exprs x a fs) × (height a ≤ d)

abbrev pub TellExprs : ℕ → ℕ → ℕ → Test → Test → Type 0
TellExprs y g d next' next = (pre ts : List Token) → length ts ≤ g → Opens low pre → ExprsHole d pre →
    Told y pre ts next' (ReadExprs d) (next ts)

deep_15 : (κ : TokenKind) → too_deep 14 κ ≡ too_deep 15 κ
deep_15 (k.Op m) = refl
deep_15 (k.Keyword m) = refl
deep_15 (k.Name m) = refl
deep_15 (k.Int m) = refl
deep_15 (k.Str m) = refl
deep_15 k.Newline = refl
deep_15 k.Indent = refl
deep_15 k.Dedent = refl
deep_15 k.End = refl
deep_15 (k.Other other.Float) = refl
deep_15 (k.Other other.Long) = refl
deep_15 (k.Other other.Unicode) = refl

zero_15 : (g : ℕ) (ts : List Token) → (reads g 0).read 15 ts ≡ (Err (too_deep 14 (first ts), ts))
unfolding reads
zero_15 g ts = ap (λ z. Err (z, ts)) (sym (deep_15 (first ts)))

zero_14 : (g : ℕ) (ts : List Token) → (reads g 0).read 14 ts ≡ Err (too_deep 14 (first ts), ts)
unfolding reads
zero_14 g ts = refl

err_15 : (g y : ℕ) (f : Fault) (ts us : List Token) → (reads g y).read 14 ts ≡ Err (f, us) →
    (reads g y).read 15 ts ≡ Err (f, us)
unfolding reads level_at
err_15 g zero f ts us e = zero_15 g ts ∙ e
err_15 g (suc y) f ts us e = ap (λ r. r >>= λ a. after_at (reads g y) g (suc y) a.0 a.1) e

more_15 : (w y g d : ℕ) → TellExprs y g (suc d) ((reads (more w g) (more y (suc d))).read 15)
    ((reads g (suc d)).read 15)
unfolding reads level_at
more_15 w y g d pre ts l o hole =
    told_read 14 (suc d) _ _ ((unders w y g (suc d)).read 14 (omega arith) pre ts l o
    (λ m a us p h. hole m a us (G.single p) h))
    (λ a fs rest q is h. told_post (λ v us r. (r.0, r.1, (λ x. then_exprs (is x) (r.2 x)), r.3))
    (tell_after w y g d (reads (more w g) (more y d)) (reads g d) (unders w y g d) a (pre ++ fs) rest
    (omega (arith, l, length_after ts fs rest q)) h
    (λ m b us r j. near m pre fs us (hole m b (fs ++ us) (then_exprs (is m.marks) r) j))))

pub tell_exprs : (w y g d : ℕ) → TellExprs y g d ((reads (more w g) (more y d)).read 15) ((reads g d).read 15)
tell_exprs w y g zero pre ts l o hole = subst
    (λ z. Told y pre ts ((reads (more w g) (more y 0)).read 15) (ReadExprs 0) z) (sym (zero_15 g ts))
    (told_err (λ vs ws e. err_15 (more w g) y _ vs ws e)
    (subst (λ z. Told y pre ts ((reads (more w g) (more y 0)).read 14) (Read 14 0) z) (zero_14 g ts)
    ((unders w y g 0).read 14 (omega arith) pre ts l o (λ m a us p h. hole m a us (G.single p) h))))
tell_exprs w y g (suc d) pre ts l o hole = more_15 w y g d pre ts l o hole

pub told_exprs : {A : Type 0} {y : ℕ} {pre ts : List Token} {again : Test} {r : Reads (Tall Expr)}
    {Q : A → List Token → Type 0} (d : ℕ) (K' K : Tall Expr × List Token → Reads A) →
    Told y pre ts again (ReadExprs d) r →
    ((a : Expr) (fs rest : List Token) → ts ≡ fs ++ rest → ((x : Marks) → Exprs x a fs) → height a ≤ d →
    Told y (pre ++ fs) rest (λ us. K' (of a, us)) (λ b us. Q b (fs ++ us)) (K (of a, rest))) →
    Told y pre ts (λ us. again us >>= K') Q (r >>= K)
told_exprs {y = y} {pre = pre} {Q = Q} d K' K p h =
    told_bind K' K (ReadExprs d) p (λ v fs rest e q.
    subst (λ z. Told y (pre ++ fs) rest (λ us. K' (z, us)) (λ b us. Q b (fs ++ us)) (K (z, rest))) (sym q.1)
    (h q.0 fs rest e q.2 q.3))

-- a name as an expression
pub exprs_word : (x : Marks) → Exprs x (ex.Name []) word
exprs_word x = G.single (is_word 14 x (omega arith))

-- ---- forms: what is a target is one too where slices are

abbrev pub Good : Form → Type 0
Good f = is_target false f ≡ true → is_target true f ≡ true

good_all : List Form → Type 0
good_all fs = all_targets false fs ≡ true → all_targets true fs ≡ true

and_both : (a b a' b' : Bool) → (a ≡ true → a' ≡ true) → (b ≡ true → b' ≡ true) → (a && b) ≡ true → (a' && b') ≡ true
and_both true true a' b' f h e = rw (f refl) (h refl)
and_both true false a' b' f h e = no (sym e)
and_both false b a' b' f h e = no (sym e)

trailer_good : {x : Marks} {r : Trailer} {ts : List Token} → Trails x r ts → Good (form_trailer r)
trailer_good (G.attribute x n p q) = rw (ff.form_attribute n) (λ e. refl)
trailer_good (G.index p q {a = a} r) = rw (ff.form_index a) (λ e. refl)
trailer_good (G.slice p q r {a = a} {b = b} i j) = rw (ff.form_slice a b) (λ e. refl)
trailer_good (G.no_call x p q) = rw (ff.form_call [] []) (λ e. e)
trailer_good (G.call p q {es = es} {ns = ns} r) = rw (ff.form_call es ns) (λ e. e)
trailer_good (G.generator_call p q {a = a} r) = rw (ff.form_call (a ∷ []) []) (λ e. e)
trailer_good (G.long_slice p q r {a = a} {b = b} i j) = rw (ff.form_slice a b) (λ e. refl)
trailer_good (G.slices p q r {a = a} {b = b} i j) = rw (ff.form_slice a b) (λ e. refl)

trailers_good : {x : Marks} {rs : List Trailer} {ts : List Token} → Trailers x rs ts →
    Good (last_form (map form_trailer rs))
trailers_good (G.last r) = trailer_good r
trailers_good (G.more_trailers r (G.last q)) = trailer_good q
trailers_good (G.more_trailers r (G.more_trailers q w)) = trailers_good (G.more_trailers q w)

mutual
  unfolding good_all

  pub good : {x : Marks} {n : ℕ} {a : Expr} {ts : List Token} → Is x n a ts → Good (form a)
  good (G.up n l p) = good p
  good (G.name x n p) = rw (ff.form_name n) (λ e. refl)
  good (G.int x n p) = rw (ff.form_int n) (λ e. e)
  good (G.strings {s = s} p) = rw (ff.form_str s) (λ e. e)
  good (G.group p q {a = a} r) = rw (ff.form_group a) (and_both _ _ _ _ (good r) (λ e. e))
  good (G.unit x p q) = rw ff.form_unit (λ e. e)
  good (G.round p q r) = good_commas r
  good (G.no_list x p q) = rw (ff.form_list []) (λ e. e)
  good (G.list p q {es = es} r) = rw (ff.form_list es) (good_tests r)
  good (G.no_dict x p q) = rw (ff.form_dict []) (λ e. e)
  good (G.dict p q {ps = ps} r) = rw (ff.form_dict ps) (λ e. e)
  good (G.trail {a = a} {rs = rs} p q) = rw (ff.form_trail a rs) (trailers_good q)
  good (G.power p {a = a} {b = a'} q r) = rw (ff.form_power a a') (λ e. e)
  good (G.signed s p {a = a} q) = rw (ff.form_unary s a) (λ e. e)
  good (G.chain l {a = a} {ls = ls} q r) = rw (ff.form_chain l a ls) (λ e. e)
  good (G.negated p {a = a} q) = rw (ff.form_not a) (λ e. e)
  good (G.choice p q {a = a} {b = a'} {d = a''} i j m) = rw (ff.form_choice a a' a'') (λ e. e)
  good (G.float p) = rw ff.form_unit (λ e. e)
  good (G.long p) = rw ff.form_unit (λ e. e)
  good (G.backquote p) = rw ff.form_unit (λ e. e)
  good (G.lambda p) = rw ff.form_unit (λ e. e)
  good (G.yielded p q) = rw ff.form_unit (λ e. e)
  good (G.generator p q {a = a} r) = rw (ff.form_group a) (and_both _ _ _ _ (good r) (λ e. e))
  good (G.comprehension p q {a = a} r) = rw (ff.form_list (a ∷ [])) (and_both _ _ _ _ (good r) (λ e. e))
  good (G.set_of p q {a = a} r) = rw (ff.form_dict (record { key = a; value = a } ∷ [])) (λ e. e)
  good (G.dict_of p q r {a = a} {b = a'} i j) = rw (ff.form_dict (record { key = a; value = a' } ∷ [])) (λ e. e)
  good (G.set p q {a = a} r) = rw (ff.form_dict (record { key = a; value = a } ∷ [])) (λ e. e)
  good (G.set_one p q {a = a} r) = rw (ff.form_dict (record { key = a; value = a } ∷ [])) (λ e. e)

  good_commas : {x : Marks} {es : List Expr} {ts : List Token} → Commas x es ts → Good (form (ex.Tuple es))
  good_commas (G.lone p {a = a} q) = rw (ff.form_tuple a []) (and_both _ _ _ _ (good q) (λ e. e))
  good_commas (G.several p {a = a} {es = es} q r) = rw (ff.form_tuple a es) (and_both _ _ _ _ (good q) (good_tests r))

  good_tests : {x : Marks} {es : List Expr} {b : Bool} {ts : List Token} → Tests x es b ts → good_all (map form es)
  good_tests (G.only q) = and_both _ _ _ _ (good q) (λ e. e)
  good_tests (G.only_comma p q) = and_both _ _ _ _ (good q) (λ e. e)
  good_tests (G.more_tests p q r) = and_both _ _ _ _ (good q) (good_tests r)

good_exprs : {x : Marks} {a : Expr} {ts : List Token} → Exprs x a ts → Good (form a)
good_exprs (G.single p) = good p
good_exprs (G.tuple p) = good_commas p

pub by_marks : (P : Bool → Type 0) (x : Marks) → P false → P true → P (slices x)
by_marks P None f h = f
by_marks P (Some left.Float) f h = f
by_marks P (Some left.Long) f h = f
by_marks P (Some left.Unicode) f h = f
by_marks P (Some left.Backquote) f h = f
by_marks P (Some left.Lambda) f h = f
by_marks P (Some left.Decorator) f h = f
by_marks P (Some left.With) f h = f
by_marks P (Some left.Exec) f h = f
by_marks P (Some left.Generator) f h = f
by_marks P (Some left.Comprehension) f h = f
by_marks P (Some left.Set) f h = f
by_marks P (Some left.StarArgument) f h = f
by_marks P (Some left.TupleArgument) f h = f
by_marks P (Some left.Import) f h = f
by_marks P (Some left.PrintTo) f h = f
by_marks P (Some left.Traceback) f h = f
by_marks P (Some left.SliceForm) f h = h
by_marks P (Some left.MultipleBases) f h = f

-- a target is one with any marks
pub target_any : {a : Expr} {ts : List Token} → Exprs None a ts → is_target false (form a) ≡ true → (x : Marks) →
    is_target (slices x) (form a) ≡ true
target_any {a = a} p e x = by_marks (λ z. is_target z (form a) ≡ true) x e (good_exprs p e)

pub single_any : (a : Expr) → is_single false (form a) ≡ true → (x : Marks) → is_single (slices x) (form a) ≡ true
single_any a e x = by_marks (λ z. is_single z (form a) ≡ true) x e (wider (form a) e)
  where
    wider : (f : Form) → is_single false f ≡ true → is_single true f ≡ true
    wider Bare e = refl
    wider Part e = refl
    wider Cut e = refl
    wider (Many s w) e = e
    wider Plain e = e

pub target_of : {a : Expr} {ts : List Token} → ((x : Marks) → Is x 1 a ts) → is_target false (form a) ≡ true →
    (x : Marks) → Target x a ts
target_of {a = a} p e x = record {
  spells = p x;
  is =
      by_marks (λ z. is_target z (form a) ≡ true) x e (good (p None) e);
}

pub word_target : (x : Marks) → Target x (ex.Name []) word
word_target x = record {
  spells = is_word 1 x (omega arith);
  is =
      rw (ff.form_name []) (by_marks (λ z. is_target z Bare ≡ true) x refl refl);
}

-- ---- targets

pub told_checked : {A : Type 0} {y : ℕ} {pre ts : List Token} {Q : A → List Token → Type 0} (after : Stop) (a : Expr)
    (K' K : Tall Expr × List Token → Reads A) → Opens low pre →
    (is_target true (form a) ≡ true → after (first ts) ≡ true → (p : Place) →
    Opens (marked left.SliceForm) (pre ++ at (first ts) p ∷ [])) →
    (is_target false (form a) ≡ true → Told y pre ts (λ us. K' (of a, us)) Q (K (of a, ts))) →
    Told y pre ts (λ us. checked after (of a, us) >>= K') Q (checked after (of a, ts) >>= K)
unfolding checked
told_checked {y = y} {pre = pre} {ts = ts} {Q = Q} after a K' K o m h = go (is_target false (form a)) refl
  where
    go : (b : Bool) → is_target false (form a) ≡ b → Told y pre ts (λ us. checked after (of a, us) >>= K') Q
        (checked after (of a, ts) >>= K)
    go true e = told_same {X' = λ us. K' (of a, us)} {q = K (of a, ts)} (rw e refl) (λ us s. rw e refl) (h e)
    go false e = bad (is_target true (form a) && after (first ts)) refl
      where
        bad : (b : Bool) → (is_target true (form a) && after (first ts)) ≡ b →
            Told y pre ts (λ us. checked after (of a, us) >>= K') Q (checked after (of a, ts) >>= K)
        bad true q = told_same {X' = λ us. Err (LeftOut left.SliceForm, us)} {q = Err (LeftOut left.SliceForm, ts)}
            (rw e (rw q refl)) (λ us s. rw e (rw s (rw q refl)))
            (told_left (first ts) refl o (m (and_parts _ _ q).0 (and_parts (is_target true (form a)) _ q).1))
        bad false q = told_same {X' = λ us. Err (Unexpected, us)} {q = Err (Unexpected, ts)} (rw e (rw q refl))
            (λ us s. rw e (rw s (rw q refl))) (told_refused o)
