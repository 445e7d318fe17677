-- An expression of the level of targets, what its rungs add, and a test that is a target.
use Rattle.std.proofs.Common.{◌≡◌, ℕ, zero, suc, ◌-◌, ◌<◌, ◌≤◌, Bool, true, false, List, [], ◌∷◌, ◌++◌, length, Ok, Err, None, ◌⊎◌, inl, inr, refl, sym, ap, ◌∙◌, subst, append_assoc, arith, length-append}
use Rattle.std.proofs.lemmas.Bool.{and_parts, or_from}
use Rattle.py_tokens.specs.declared.token.Token.{Token}
use Rattle.py_tokens.specs.declared.token.TokenKind.{TokenKind}
use Rattle.py_tokens.specs.Place.{token_at as at}
use Rattle.py_tree.specs.declared.expr.Expr.{Expr}
use Rattle.py_tree.specs.declared.expr.Expr.TheVariants as ex
use Rattle.py_tree.specs.declared.expr.Level.{Level}
use Rattle.py_tree.specs.declared.expr.Level.TheVariants as level
use Rattle.py_tree.specs.declared.expr.Sign.{Sign}
use Rattle.py_tree.specs.declared.expr.Sign.TheVariants as sign
use Rattle.py_tree.specs.declared.form.Form.{Form}
use Rattle.py_tree.specs.declared.form.Form.TheVariants.{Bare, Part, Cut, Many, Plain}
use Rattle.py_tree.specs.Form.{is_target, form}
use Rattle.py_tree.specs.Height.{height}
use Rattle.py_tree.proofs.Heights as hh
use Rattle.py_tree.proofs.Forms as ff
use Rattle.py_grammar.specs.Codes as c
use Rattle.py_grammar.specs.Words.{below, sign_word}
use Rattle.py_grammar.specs.Grammar as G
use Rattle.py_grammar.specs.Grammar.{Marks, Is}
use Rattle.py_grammar.specs.inner.Tall.{plain, joined, of_power, of_chain, of_choice}
use Rattle.py_grammar.specs.inner.Follow.{stops}
use Rattle.py_grammar.specs.inner.Reading.{Reads, Test, ◌>>=◌, first, rest, is_some, starts, keyword_at, rung_of, power_at, chain_at, choice_at, reads}
use Rattle.py_grammar.specs.inner.Aiming.{after_rung, grown_at, grows}
use Rattle.py_grammar.proofs.Steps.{of, Reaches, then_reads, at_same}
use Rattle.py_grammar.proofs.Facts.{no, stops_down, takes_not, rung_below}
use Rattle.py_grammar.proofs.Values.{plus_links, all_joined, as_power, as_chain, as_choice}
use Rattle.py_grammar.proofs.Begin.{s_power, s_chain, s_choice, s_else}
use Rattle.py_grammar.proofs.Complete.{complete, complete_links}
use Rattle.py_grammar.proofs.ReadSteps.{links_first, three, ok_of}
use Rattle.py_grammar.proofs.Levels.{refuses}
use Rattle.py_grammar.proofs.AimedInside.{after_none}
use Rattle.py_grammar.proofs.AimUnfold.{grown_up}

-- What is left for: a target of a height of at most p, or any expression of less. With marks it is the second alone.
abbrev pub Meets : Marks → ℕ → Form → ℕ → Type 0
Meets x p f h = (h < p) ⊎ ((x ≡ None) × (is_target false f ≡ true) × (h ≤ p))

abbrev pub CompleteAim : ℕ → ℕ → Test → Type 0
CompleteAim g p aim = (x : Marks) (a : Expr) (ts rest : List Token) → Is x 1 a ts → Meets x p (form a) (height a) →
    length ts ≤ g → stops 1 (first rest) ≡ true → Reaches x (aim (ts ++ rest)) (of a) rest

-- ---- an expression of the level of targets, and what its rungs add

-- a test that begins with an expression of the level of targets, which n rungs make of it
pub record Climbs (x : Marks) (n : ℕ) (a : Expr) (whole : List Token) (g q : ℕ) (rest : List Token) : Type 0 where
  pub base : Expr
  pub front : List Token
  pub after : List Token
  pub spells : Is x 1 base front
  pub low : height base ≤ height a
  pub split : whole ≡ front ++ after
  pub stop : stops 1 (first after) ≡ true
  pub fits : length front ≤ g
  pub grow : Reaches x (grown_at (reads g (q - 1)) g q n (of base, after)) (of a) rest

pub high : (l : Level) → 3 ≤ below l
high level.Or = omega arith
high level.And = omega arith
high level.Compare = omega arith
high level.BitOr = omega arith
high level.BitXor = omega arith
high level.BitAnd = omega arith
high level.Shift = omega arith
high level.Sum = omega arith
high level.Term = omega arith

sign_no : (s : Sign) → starts 1 (sign_word s) ≡ false
sign_no sign.Plus = refl
sign_no sign.Minus = refl
sign_no sign.Invert = refl

begun : (ts us rest : List Token) → starts 1 (first ((ts ++ us) ++ rest)) ≡ true →
    starts 1 (first (ts ++ (us ++ rest))) ≡ true
begun ts us rest h = subst (λ z. starts 1 (first z) ≡ true) (append_assoc ts us rest) h

grown_here : {x : Marks} {a : Expr} {ts : List Token} → Is x 1 a ts → (n : ℕ) → n ≡ 0 → (g q : ℕ) (rest : List Token) →
    length ts ≤ g → stops 1 (first rest) ≡ true → Climbs x n a (ts ++ rest) g q rest
unfolding grown_at
grown_here {x = x} {a = a} {ts = ts} p n z g q rest b s = subst (λ m. Climbs x m a (ts ++ rest) g q rest) (sym z)
    (record {
      base = a;
      front = ts;
      after = rest;
      spells = p;
      low = omega arith;
      split = refl;
      stop = s;
      fits = b;
      grow = inl refl;
    })

pub climb : {x : Marks} {m : ℕ} {a : Expr} {ts : List Token} → Is x m a ts → (n : ℕ) → m ≡ suc n →
    (g q : ℕ) (rest : List Token) → length ts ≤ g → height a ≤ q → stops m (first rest) ≡ true →
    starts 1 (first (ts ++ rest)) ≡ true → Climbs x n a (ts ++ rest) g q rest
unfolding grown_at
climb (G.up zero l p) n e g q rest b h s i = grown_here (G.up zero l p) n (omega (arith, e)) g q rest b s
climb (G.up (suc m) {x = x} {a = a} {ts = ts} l p) n e g q rest b h s i =
    let z : n ≡ suc m = omega (arith, e) in let r = climb p m refl g q rest b h (stops_down (suc m) (first rest) s) i in
    subst (λ w. Climbs x w a (ts ++ rest) g q rest) (sym z) (record {
      base = r.base;
      front = r.front;
      after = r.after;
      spells = r.spells;
      low = r.low;
      split = r.split;
      stop = r.stop;
      fits = r.fits;
      grow = then_reads x _ (after_rung (rung_of (suc m)) (reads g (q - 1)) g q) (of a) rest _ rest r.grow
          (inl (after_none (rung_of (suc m)) (reads g (q - 1)) g q (of a) rest (takes_not (suc m) (first rest) s)));
    })
climb (G.trail {ts = ts} {us = us} p r) n e g q rest b h s i = grown_here (G.trail p r) n (omega (arith, e)) g q rest b
    s
climb (G.power p {x = x} {a = a} {b = a'} {ts = ts} {us = us} j r) n e g q rest b h s i =
    let up = hh.height_power a a' in let low = hh.height_pos a in let low' = hh.height_pos a' in let len =
    length-append ts (at c.power p ∷ us) in let z : n ≡ 1 = omega (arith, e) in
    let w = climb j 0 refl g q (at c.power p ∷ us ++ rest) (omega (arith, len, b)) (omega (arith, up, h)) refl
    (begun ts (at c.power p ∷ us) rest i) in
    subst (λ m. Climbs x m (ex.Power a a') ((ts ++ at c.power p ∷ us) ++ rest) g q rest) (sym z) (record {
      base = w.base;
      front = w.front;
      after = w.after;
      spells = w.spells;
      low = omega (arith, w.low, up);
      split = append_assoc ts (at c.power p ∷ us) rest ∙ w.split;
      stop = w.stop;
      fits = w.fits;
      grow = then_reads x _ (power_at (reads g (q - 1)) q) (of a) (at c.power p ∷ us ++ rest) _ rest w.grow
          (at_same x _ _ _ rest (s_power (reads g (q - 1)) q (of a) p (us ++ rest) (omega (arith, up, h)))
          (then_reads x _ (λ b. Ok (of_power (of a) b.0, b.1)) (of a') rest _ rest
          (complete r g (q - 1) rest (omega (arith, len, b)) (omega (arith, up, h)) (three (first rest) s))
          (inl (ap (λ v. Ok (v, rest)) (as_power a a')))));
    })
climb (G.chain l {x = x} {a = a} {ls = ls} {ts = ts} {us = us} p r) n e g q rest b h s i =
    let up = hh.height_chain l a ls in let low = hh.height_pos a in let len = length-append ts us in let first' =
    links_first r rest in let big = high l in
    let z : n ≡ below l = omega (arith, e) in let m : below l ≡ suc (below l - 1) = omega (arith, big) in
    let w = climb p (below l - 1) m g q (us ++ rest) (omega (arith, len, b)) (omega (arith, up, h)) first'.1
    (begun ts us rest i) in
    subst (λ v. Climbs x v (ex.Chain l a ls) ((ts ++ us) ++ rest) g q rest) (sym z) (record {
      base = w.base;
      front = w.front;
      after = w.after;
      spells = w.spells;
      low = omega (arith, w.low, up);
      split = append_assoc ts us rest ∙ w.split;
      stop = w.stop;
      fits = w.fits;
      grow = at_same x _ _ _ rest (grown_up (reads g (q - 1)) g q (below l) (of w.base, w.after) (omega (arith, big)) ∙
          ap (λ v. grown_at (reads g (q - 1)) g q (below l - 1) (of w.base, w.after) >>= after_rung v (reads g (q - 1))
          g q) (rung_below l))
          (then_reads x _ (chain_at l ((reads g (q - 1)).read (below l)) g q) (of a) (us ++ rest) _ rest w.grow
          (at_same x _ _ _ rest (s_chain l ((reads g (q - 1)).read (below l)) g q (of a) (us ++ rest) first'.0
          (omega (arith, up, h)))
          (then_reads x _ (λ ls. Ok (of_chain l (of a) ls.0, ls.1)) (plus_links (plain [] 0) ls) rest _ rest
          (complete_links r g (q - 1) g (plain [] 0) rest (omega (arith, len, b)) (omega (arith, len, b))
          (omega (arith, up, h)) s)
          (inl (ap (λ v. Ok (v, rest)) (as_chain l a ls))))));
    })
climb (G.choice p p' {x = x} {a = a} {b = b'} {d = d'} {ts = ts} {us = us} {vs = vs} j r m) n e g q rest b h s i =
    let up = hh.height_choice a b' d' in let low = hh.height_pos a in let low' = hh.height_pos b' in let low'' =
    hh.height_pos d' in
    let len = length-append (ts ++ at c.if_ p ∷ us) (at c.else_ p' ∷ vs) in let len' =
    length-append ts (at c.if_ p ∷ us) in let z : n ≡ 13 = omega (arith, e) in
    let same = append_assoc (ts ++ at c.if_ p ∷ us) (at c.else_ p' ∷ vs) rest ∙
    append_assoc ts (at c.if_ p ∷ us) (at c.else_ p' ∷ vs ++ rest) in
    let w = climb j 12 refl g q (at c.if_ p ∷ us ++ (at c.else_ p' ∷ vs ++ rest)) (omega (arith, len, len', b))
    (omega (arith, up, h)) refl (subst (λ z. starts 1 (first z) ≡ true) same i) in
    subst (λ v. Climbs x v (ex.Choice a b' d') (((ts ++ at c.if_ p ∷ us) ++ at c.else_ p' ∷ vs) ++ rest) g q rest)
    (sym z) (record {
      base = w.base;
      front = w.front;
      after = w.after;
      spells = w.spells;
      low = omega (arith, w.low, up);
      split = same ∙ w.split;
      stop = w.stop;
      fits = w.fits;
      grow = then_reads x _ (choice_at (reads g (q - 1)) q) (of a) (at c.if_ p ∷ us ++ (at c.else_ p' ∷ vs ++ rest)) _
          rest w.grow
          (at_same x _ _ _ rest (s_choice (reads g (q - 1)) q (of a) p (us ++ (at c.else_ p' ∷ vs ++ rest))
          (omega (arith, up, h)))
          (then_reads x _ (λ b. keyword_at 9 b.1 >>= λ w.
          ((reads g (q - 1)).read 14 w.1 >>= λ y. Ok (of_choice (of a) b.0 y.0, y.1))) (of b')
          (at c.else_ p' ∷ vs ++ rest) _ rest
          (complete r g (q - 1) _ (omega (arith, len, len', b)) (omega (arith, up, h)) refl)
          (at_same x _ _ _ rest (ap (λ r. r >>= λ w.
          ((reads g (q - 1)).read 14 w.1 >>= λ y. Ok (of_choice (of a) (of b') y.0, y.1))) (s_else p' (vs ++ rest)))
          (then_reads x _ (λ y. Ok (of_choice (of a) (of b') y.0, y.1)) (of d') rest _ rest
          (complete m g (q - 1) rest (omega (arith, len, b)) (omega (arith, up, h)) s)
          (inl (ap (λ v. Ok (v, rest)) (as_choice a b' d')))))));
    })
climb (G.signed w p q') n e g q rest b h s i = no (sym i ∙ sign_no w)
climb (G.negated p q') n e g q rest b h s i = no (sym i)
climb (G.lambda p) n e g q rest b h s i = no (sym i)
climb (G.name x m p) n e g q rest b h s i = absurd (omega (arith, e))
climb (G.int x m p) n e g q rest b h s i = absurd (omega (arith, e))
climb (G.strings p) n e g q rest b h s i = absurd (omega (arith, e))
climb (G.group p q' r) n e g q rest b h s i = absurd (omega (arith, e))
climb (G.unit x p q') n e g q rest b h s i = absurd (omega (arith, e))
climb (G.round p q' r) n e g q rest b h s i = absurd (omega (arith, e))
climb (G.no_list x p q') n e g q rest b h s i = absurd (omega (arith, e))
climb (G.list p q' r) n e g q rest b h s i = absurd (omega (arith, e))
climb (G.no_dict x p q') n e g q rest b h s i = absurd (omega (arith, e))
climb (G.dict p q' r) n e g q rest b h s i = absurd (omega (arith, e))
climb (G.float p) n e g q rest b h s i = absurd (omega (arith, e))
climb (G.long p) n e g q rest b h s i = absurd (omega (arith, e))
climb (G.backquote p) n e g q rest b h s i = absurd (omega (arith, e))
climb (G.yielded p q') n e g q rest b h s i = absurd (omega (arith, e))
climb (G.generator p q' r) n e g q rest b h s i = absurd (omega (arith, e))
climb (G.comprehension p q' r) n e g q rest b h s i = absurd (omega (arith, e))
climb (G.set_of p q' r) n e g q rest b h s i = absurd (omega (arith, e))
climb (G.dict_of p q' r j m) n e g q rest b h s i = absurd (omega (arith, e))
climb (G.set p q' r) n e g q rest b h s i = absurd (omega (arith, e))
climb (G.set_one p q' r) n e g q rest b h s i = absurd (omega (arith, e))

-- ---- a target as a test

pub not_plain : {A : Type 0} (f : Form) → is_target false f ≡ true → f ≡ Plain → A
not_plain f t e = no (sym t ∙ ap (is_target false) e)

-- a test that is a target is of the level of targets
pub to_trail : {x : Marks} {n : ℕ} {a : Expr} {ts : List Token} → Is x n a ts → 0 < n →
    is_target false (form a) ≡ true → Is x 1 a ts
to_trail (G.up zero l p) i t = G.up zero l p
to_trail (G.up (suc n) l p) i t = to_trail p (omega arith) t
to_trail (G.trail p q) i t = G.trail p q
to_trail (G.power p {a = a} {b = a'} q r) i t = not_plain _ t (ff.form_power a a')
to_trail (G.signed s p {a = a} q) i t = not_plain _ t (ff.form_unary s a)
to_trail (G.chain l {a = a} {ls = ls} q r) i t = not_plain _ t (ff.form_chain l a ls)
to_trail (G.negated p {a = a} q) i t = not_plain _ t (ff.form_not a)
to_trail (G.choice p q {a = a} {b = a'} {d = a''} j r m) i t = not_plain _ t (ff.form_choice a a' a'')
to_trail (G.lambda p) i t = not_plain _ t ff.form_unit
to_trail (G.name x n p) i t = absurd (omega (arith, i))
to_trail (G.int x n p) i t = absurd (omega (arith, i))
to_trail (G.strings p) i t = absurd (omega (arith, i))
to_trail (G.group p q r) i t = absurd (omega (arith, i))
to_trail (G.unit x p q) i t = absurd (omega (arith, i))
to_trail (G.round p q r) i t = absurd (omega (arith, i))
to_trail (G.no_list x p q) i t = absurd (omega (arith, i))
to_trail (G.list p q r) i t = absurd (omega (arith, i))
to_trail (G.no_dict x p q) i t = absurd (omega (arith, i))
to_trail (G.dict p q r) i t = absurd (omega (arith, i))
to_trail (G.float p) i t = absurd (omega (arith, i))
to_trail (G.long p) i t = absurd (omega (arith, i))
to_trail (G.backquote p) i t = absurd (omega (arith, i))
to_trail (G.yielded p q) i t = absurd (omega (arith, i))
to_trail (G.generator p q r) i t = absurd (omega (arith, i))
to_trail (G.comprehension p q r) i t = absurd (omega (arith, i))
to_trail (G.set_of p q r) i t = absurd (omega (arith, i))
to_trail (G.dict_of p q r j m) i t = absurd (omega (arith, i))
to_trail (G.set p q r) i t = absurd (omega (arith, i))
to_trail (G.set_one p q r) i t = absurd (omega (arith, i))

ok_err : {A B : Type 0} {r : Reads A} (v : A × List Token) (w : _) → r ≡ Ok v → r ≡ Err w → B
ok_err v w p q = absurd (let e : Ok v ≡ Err w = sym p ∙ q in cc)

-- without marks it begins as an atom does
pub trail_starts : {a : Expr} {ts : List Token} → Is None 1 a ts → (rest : List Token) → stops 1 (first rest) ≡ true →
    starts 1 (first (ts ++ rest)) ≡ true
trail_starts {a = a} {ts = ts} p rest s = go (starts 1 (first (ts ++ rest))) refl
  where
    go : (b : Bool) → starts 1 (first (ts ++ rest)) ≡ b → starts 1 (first (ts ++ rest)) ≡ true
    go true e = e
    go false e = ok_err _ _ (ok_of (complete p (length ts) (suc (height a)) rest (omega arith) (omega arith) s))
        (refuses 1 (omega arith) (length ts) (height a) (ts ++ rest) e)

-- where a test stops no rung grows
pub quiet_after : (n : ℕ) (κ : TokenKind) → stops (suc n) κ ≡ true → grows n κ ≡ false
quiet_after zero κ s = refl
quiet_after (suc n) κ s = or_from (grows n κ) _ (quiet_after n κ (stops_down (suc n) κ s)) (takes_not (suc n) κ s)

pub joined_parts : (f h : Form) → is_target false (joined f h) ≡ true →
    (is_target false f ≡ true) × (is_target false h ≡ true)
joined_parts (Many s w) h e = and_parts s _ e
joined_parts Bare h e = no (sym e)
joined_parts Part h e = no (sym e)
joined_parts Cut h e = no (sym e)
joined_parts Plain h e = no (sym e)

pub all_first : (f : Form) (es : List Expr) → is_target false (all_joined f es) ≡ true → is_target false f ≡ true
all_first f [] e = e
all_first f (a ∷ es) e = (joined_parts f (form a) (all_first (joined f (form a)) es e)).0
