-- What reading what is or becomes a target tells.
use Rattle.std.proofs.Common.{◌≡◌, ℕ, zero, suc, ◌+◌, ◌<◌, ◌≤◌, max, true, false, List, [], ◌∷◌, ◌++◌, length, map, Ok, Err, Option, Some, None, ◌⊎◌, inl, inr, refl, sym, ap, ◌∙◌, subst, append_assoc, append-nil, arith}
use Rattle.py_tokens.specs.declared.token.Token.{Token}
use Rattle.py_tokens.specs.declared.token.TokenKind.{TokenKind}
use Rattle.py_tokens.specs.declared.token.TokenKind.TheVariants as k
use Rattle.py_tokens.specs.declared.token.Place.{Place}
use Rattle.py_tokens.specs.Place.{token_at as at}
use Rattle.py_tree.specs.declared.expr.Expr.{Expr}
use Rattle.py_tree.specs.declared.expr.Expr.TheVariants as ex
use Rattle.py_tree.specs.declared.expr.Trailer.{Trailer}
use Rattle.py_tree.specs.declared.expr.Trailer.TheVariants as t
use Rattle.py_tree.specs.declared.expr.Level.{Level}
use Rattle.py_tree.specs.declared.expr.Level.TheVariants as level
use Rattle.py_tree.specs.declared.expr.Operator.{Operator}
use Rattle.py_tree.specs.declared.form.Form.{Form}
use Rattle.py_tree.specs.declared.form.Form.TheVariants.{Part}
use Rattle.py_tree.specs.Form.{is_target, form, form_trailer, last_form}
use Rattle.py_tree.specs.Height.{height, height_trailer, tops_trailers}
use Rattle.py_tree.proofs.Heights as hh
use Rattle.py_tree.proofs.Forms as ff
use Rattle.py_grammar.specs.declared.fault.Fault.{Fault}
use Rattle.py_grammar.specs.declared.fault.Fault.TheVariants.{Unexpected, LeftOut, Deep}
use Rattle.py_grammar.specs.Codes as c
use Rattle.py_grammar.specs.Words.{below}
use Rattle.py_grammar.specs.Grammar as G
use Rattle.py_grammar.specs.Grammar.{Marks, Is, Tests, Commas, Trailers, Trails}
use Rattle.py_grammar.specs.declared.tall.Tall.{Tall}
use Rattle.py_grammar.specs.inner.Tall.{plain, of_trail}
use Rattle.py_grammar.specs.inner.Follow.{takes}
use Rattle.py_grammar.specs.inner.Reading.{Reads, Reader, Test, Below, first, is_some, links, operator_of, rung_of, trails, trail_at}
use Rattle.py_grammar.specs.inner.Aiming.{after_rung, grown_at, grows}
use Rattle.py_grammar.proofs.Steps.{of}
use Rattle.py_grammar.proofs.Facts.{no, below_small}
use Rattle.py_grammar.proofs.Values.{plus_trailers, as_trail}
use Rattle.py_grammar.proofs.Told.{Stays, Mode, any, low, Opens, alone, same_first, more, Told, told_done, first_token, told_if, told_deep, told_post, told_bind, told_map, told_pre, on, here, move}
use Rattle.py_grammar.proofs.Tells.{only_op, only_keyword, Hole, Read, p0, word, is_word, free, length_after}
use Rattle.py_grammar.proofs.Atoms.{Unders, either}
use Rattle.py_grammar.proofs.Trails.{trail_start, tell_some_trailers}
use Rattle.py_grammar.proofs.Levels.{up_to, link_start, tell_power, tell_chain, tell_choice}

-- ---- a trailer more

-- a target with this much left, or what becomes one by a trailer
abbrev pub Suits : ℕ → Form → ℕ → Type 0
Suits p f h = ((is_target false f ≡ true) × (h ≤ p)) ⊎ (h < p)

dotted : List Token
dotted = at c.dot p0 ∷ at (k.Name []) p0 ∷ []

last_part : (rs : List Trailer) → last_form (map form_trailer (rs ++ t.Attribute [] ∷ [])) ≡ Part
last_part [] = ff.form_attribute []
last_part (r ∷ []) = ff.form_attribute []
last_part (r ∷ q ∷ rs) = last_part (q ∷ rs)

tops_dotted : (rs : List Trailer) → tops_trailers (rs ++ t.Attribute [] ∷ []) ≡ tops_trailers rs
tops_dotted [] = omega (arith, hh.height_attribute [])
tops_dotted (r ∷ rs) = ap (λ n. max (height_trailer r) n) (tops_dotted rs)

trailers_more : {x : Marks} {rs : List Trailer} {us : List Token} → Trailers x rs us →
    Trailers x (rs ++ t.Attribute [] ∷ []) (us ++ at c.dot p0 ∷ at (k.Name []) p0 ∷ [])
trailers_more {x = x} (G.last r) = G.more_trailers r (G.last (G.attribute x [] p0 p0))
trailers_more {x = x} (G.more_trailers r q) =
    move (Trailers x _) (simp append_assoc) (G.more_trailers r (trailers_more q))

part_target : (f : Form) → f ≡ Part → is_target false f ≡ true
part_target f e = rw e refl

trail_target : (a : Expr) (rs : List Trailer) → is_target false (form (ex.Trail a (rs ++ t.Attribute [] ∷ []))) ≡ true
trail_target a rs = part_target _ (ff.form_trail a (rs ++ t.Attribute [] ∷ []) ∙ last_part rs)

trail_height : (a : Expr) (rs : List Trailer) → height (ex.Trail a (rs ++ t.Attribute [] ∷ [])) ≡ max (height a)
    (tops_trailers rs) + 1
trail_height a rs = hh.height_trail a (rs ++ t.Attribute [] ∷ []) ∙ ap (λ n. max (height a) n + 1) (tops_dotted rs)

pub record Extended (x : Marks) (h : ℕ) (us : List Token) : Type 0 where
  pub tree : Expr
  pub spells : Is x 1 tree (us ++ at c.dot p0 ∷ at (k.Name []) p0 ∷ [])
  pub target : is_target false (form tree) ≡ true
  pub low : height tree ≤ h

high : (l : Level) → 3 ≤ below l
high level.Or = omega arith
high level.And = omega arith
high level.Compare = omega arith
high level.BitOr = omega arith
high level.BitXor = omega arith
high level.BitAnd = omega arith
high level.Shift = omega arith
high level.Sum = omega arith
high level.Term = omega arith

-- what is dotted is a node higher at most
pub extend : {x : Marks} {n : ℕ} {a : Expr} {us : List Token} → Is x n a us → n ≡ 1 → Extended x (height a + 1) us
extend {x = x} (G.up n {a = a} {ts = us} l p) e = let z : n ≡ 0 = omega (arith, e) in
    record {
      tree = ex.Trail a ([] ++ t.Attribute [] ∷ []);
      spells =
          G.trail (subst (λ m. Is x m a us) z p) (G.last (G.attribute x [] p0 p0));
      target = trail_target a [];
      low =
          omega (arith, trail_height a []);
    }
extend {x = x} (G.trail {a = a} {rs = rs} p q) e =
    record {
      tree = ex.Trail a (rs ++ t.Attribute [] ∷ []);
      spells =
          move (Is x 1 _) (simp append_assoc) (G.trail p (trailers_more q));
      target = trail_target a rs;
      low =
          omega (arith, trail_height a rs, hh.height_trail a rs);
    }
extend (G.chain l p q) e = absurd (omega (arith, e, high l))
extend (G.name x n p) e = absurd (omega (arith, e))
extend (G.int x n p) e = absurd (omega (arith, e))
extend (G.strings p) e = absurd (omega (arith, e))
extend (G.group p q r) e = absurd (omega (arith, e))
extend (G.unit x p q) e = absurd (omega (arith, e))
extend (G.round p q r) e = absurd (omega (arith, e))
extend (G.no_list x p q) e = absurd (omega (arith, e))
extend (G.list p q r) e = absurd (omega (arith, e))
extend (G.no_dict x p q) e = absurd (omega (arith, e))
extend (G.dict p q r) e = absurd (omega (arith, e))
extend (G.power p q r) e = absurd (omega (arith, e))
extend (G.signed s p q) e = absurd (omega (arith, e))
extend (G.negated p q) e = absurd (omega (arith, e))
extend (G.choice p q i j m) e = absurd (omega (arith, e))
extend (G.float p) e = absurd (omega (arith, e))
extend (G.long p) e = absurd (omega (arith, e))
extend (G.backquote p) e = absurd (omega (arith, e))
extend (G.lambda p) e = absurd (omega (arith, e))
extend (G.yielded p q) e = absurd (omega (arith, e))
extend (G.generator p q r) e = absurd (omega (arith, e))
extend (G.comprehension p q r) e = absurd (omega (arith, e))
extend (G.set_of p q r) e = absurd (omega (arith, e))
extend (G.dict_of p q r i j) e = absurd (omega (arith, e))
extend (G.set p q r) e = absurd (omega (arith, e))
extend (G.set_one p q r) e = absurd (omega (arith, e))

-- ---- places

-- What is a target of a height of at most d, or becomes one, may stand here.
abbrev pub AimHole : ℕ → ℕ → List Token → Type 0
AimHole n d pre = (m : Mode) (a : Expr) (us : List Token) → Is m.marks n a us →
    (m.bounded ≡ true → Suits d (form a) (height a)) → Opens m (pre ++ us)

-- It was taken, and a module begins so.
abbrev pub ReadAim : ℕ → List Token → Tall Expr → List Token → Type 0
ReadAim d pre v fs = (a : Expr) × (v ≡ of a) × ((x : Marks) → Is x 1 a fs) × (height a ≤ d) × Opens low (pre ++ fs)

abbrev pub TellAim : ℕ → ℕ → ℕ → Test → Test → Type 0
TellAim y g d aim' aim = (pre ts : List Token) → length ts ≤ g → Opens low pre → AimHole 1 d pre →
    Told y pre ts aim' (ReadAim d pre) (aim ts)

-- where a higher one is refused, whatever more of a budget
pub told_high : {A : Type 0} {y : ℕ} {pre ts : List Token} {again : Reader A} {Q : A → List Token → Type 0}
    (κ : TokenKind) → first ts ≡ κ → Opens low pre → ((p : Place) → Opens any (pre ++ at κ p ∷ [])) →
    (y ≡ 0 → (us : List Token) → first us ≡ first ts → again us ≡ Err (Deep, us)) →
    Told y pre ts again Q (Err (Deep, ts))
told_high {pre = pre} {ts = ts} κ w o b h = record {
  tells = record {
    front = [];
    ahead = λ dd r. subst (λ z. Opens any (z ++ at k.End (record { from = 0; to = 0; line = 0 }) ∷ []))
        (sym (append-nil pre)) (subst (λ z. Opens any (pre ++ at z (record { from = 0; to = 0; line = 0 }) ∷ []))
        (sym w ∙ ap first r) (b (record { from = 0; to = 0; line = 0 })));
    split = refl;
    before = alone low pre o;
    beyond = λ t us q. subst (λ z. Opens any (z ++ t ∷ [])) (sym (append-nil pre))
        (subst (λ z. Opens any (pre ++ z ∷ [])) (sym (first_token ts κ t us w q)) (b _));
    same = λ us s z. h z us (same_first ts us s);
  };
}

stays_weaken : (y z : ℕ) → (y ≡ 0 → z ≡ 0) → (f : Fault) → Stays y f → Stays z f
stays_weaken y z h Deep s = h s
stays_weaken y z h Unexpected s = tt
stays_weaken y z h (LeftOut d) s = tt

-- told with more of a budget
pub told_weaken : {A : Type 0} {y z : ℕ} {pre ts : List Token} {again : Reader A} {Q : A → List Token → Type 0}
    {r : Reads A} → (y ≡ 0 → z ≡ 0) → Told z pre ts again Q r → Told y pre ts again Q r
told_weaken {r = Ok x} h t = let p = t.tells in
    record { tells = record { front = p.front; split = p.split; holds = p.holds; same = p.same } }
told_weaken {y = y} {z = z} {r = Err x} h t = let p = t.tells in
    record {
      tells = record {
        front = p.front;
        split = p.split;
        before = p.before;
        beyond = p.beyond;
        ahead = p.ahead;
        same = λ us s st. p.same us s (stays_weaken y z h x.0 st);
      };
    }

-- ---- trailers

trailers_value : {x : Marks} (a : Expr) (v : Tall (List Trailer)) (rs : List Trailer) {us : List Token} →
    Trailers x rs us → v ≡ plus_trailers (plain [] 0) rs → of_trail (of a) v ≡ of (ex.Trail a rs)
trailers_value a v rs (G.last {r = r} p) e = ap (of_trail (of a)) e ∙ as_trail a r []
trailers_value a v rs (G.more_trailers {r = r} {rs = rs'} p q) e = ap (of_trail (of a)) e ∙ as_trail a r rs'

module _ (w y g d : ℕ) (under' under : Below) (below' : Unders y g d under' under) where
  pub tell_aimed_trail : (pre : List Token) (a : Expr) (fs ts : List Token) → length ts ≤ g →
      ((x : Marks) → Is x 0 a fs) → Suits (suc d) (form a) (height a) → AimHole 1 (suc d) pre →
      Told y (pre ++ fs) ts (λ us. trail_at under' (more w g) (more y (suc d)) (of a, us))
      (λ v us. ReadAim (suc d) pre v (fs ++ us)) (trail_at under g (suc d) (of a, ts))
  unfolding trail_at
  tell_aimed_trail pre a fs ts l is s hole =
      let o : Opens low (pre ++ fs) = hole low a _ (G.up 0 (omega arith) (is None)) (λ b. s) in
      told_if trails
      (λ e. told_deep (suc d) (height a + 1) (first ts) refl o (λ p. let q = trail_start (first ts) e p in
      on q.0 (simp append_assoc) (hole any (ex.Trail a (q.1 ∷ [])) _ (G.trail (is None) (G.last q.2)) free))
      (λ deep. told_map (of_trail (of a))
      (tell_some_trailers w y g d under' under below' g (plain [] 0) (pre ++ fs) ts l (omega arith)
      (omega (arith, deep, hh.height_pos a)) e
      (λ m rs us r j. longer m rs us (is m.marks) r (λ b. omega (arith, deep, j b, trail_height a rs))))
      (λ v us r. (
        ex.Trail a r.0,
        trailers_value a v r.0 (r.2 None) r.1,
        (λ x. G.trail (is x) (r.2 x)),
        omega (arith, deep, r.3, hh.height_trail a r.0),
        here (append_assoc pre fs us) (longer low r.0 us (is None) (r.2 None)
            (λ b. omega (arith, deep, r.3, trail_height a r.0))),
      ))))
      (λ e. told_done (
        a,
        refl,
        (λ x. move (Is x 1 a) (sym (append-nil fs)) (G.up 0 (omega arith) (is x))),
        height_fits s,
        here (sym (ap (λ z. pre ++ z) (append-nil fs))) o,
      ))
    where
      longer : (m : Mode) (rs : List Trailer) (us : List Token) → Is m.marks 0 a fs → Trailers m.marks rs us →
          (m.bounded ≡ true → height (ex.Trail a (rs ++ t.Attribute [] ∷ [])) ≤ suc d) → Opens m ((pre ++ fs) ++ us)
      longer m rs us p r j = on (at c.dot p0 ∷ at (k.Name []) p0 ∷ []) (simp append_assoc)
          (hole m (ex.Trail a (rs ++ t.Attribute [] ∷ [])) _ (G.trail p (trailers_more r))
          (λ b. inl (trail_target a rs, j b)))

      height_fits : Suits (suc d) (form a) (height a) → height a ≤ suc d
      height_fits (inl q) = q.1
      height_fits (inr q) = omega (arith, q)

-- ---- rungs

module _ (w y g d : ℕ) (under' under : Below) (below' : Unders y g d under' under) where
  abbrev TellAfter : ℕ → Type 0
  TellAfter n = (pre : List Token) (b : Expr) (fs ts : List Token) → length ts ≤ g → ((x : Marks) → Is x n b fs) →
      height b ≤ suc d → Hole (suc n) (suc d) pre →
      Told y (pre ++ fs) ts (λ us. after_rung (rung_of n) under' (more w g) (more y (suc d)) (of b, us))
      (λ v us. Read (suc n) (suc d) v (fs ++ us)) (after_rung (rung_of n) under g (suc d) (of b, ts))

  tell_quiet : (n : ℕ) → n < 14 → (pre : List Token) (b : Expr) (fs ts : List Token) → ((x : Marks) → Is x n b fs) →
      height b ≤ suc d → Told y (pre ++ fs) ts (λ us. Ok (of b, us)) (λ v us. Read (suc n) (suc d) v (fs ++ us))
      (Ok (of b, ts))
  tell_quiet n i pre b fs ts is h = told_done
      (b, refl, (λ x. move (Is x (suc n) b) (sym (append-nil fs)) (G.up n (omega (arith, i)) (is x))), h)

  tell_after_rung : (n : ℕ) → 0 < n → n < 14 → TellAfter n
  tell_after_rung zero z i pre b fs ts l is h hole = absurd (omega (arith, z))
  tell_after_rung (suc zero) z i pre b fs ts l is h hole = tell_power w y g d under' under below' pre b fs ts l is h
      hole
  tell_after_rung (suc (suc zero)) z i pre b fs ts l is h hole = tell_quiet 2 (omega arith) pre b fs ts is h
  tell_after_rung (suc (suc (suc zero))) z i pre b fs ts l is h hole =
      tell_chain w y g d under' under below' level.Term pre b fs ts l is h hole
  tell_after_rung (suc (suc (suc (suc zero)))) z i pre b fs ts l is h hole =
      tell_chain w y g d under' under below' level.Sum pre b fs ts l is h hole
  tell_after_rung (suc (suc (suc (suc (suc zero))))) z i pre b fs ts l is h hole =
      tell_chain w y g d under' under below' level.Shift pre b fs ts l is h hole
  tell_after_rung (suc (suc (suc (suc (suc (suc zero)))))) z i pre b fs ts l is h hole =
      tell_chain w y g d under' under below' level.BitAnd pre b fs ts l is h hole
  tell_after_rung (suc (suc (suc (suc (suc (suc (suc zero))))))) z i pre b fs ts l is h hole =
      tell_chain w y g d under' under below' level.BitXor pre b fs ts l is h hole
  tell_after_rung (suc (suc (suc (suc (suc (suc (suc (suc zero)))))))) z i pre b fs ts l is h hole =
      tell_chain w y g d under' under below' level.BitOr pre b fs ts l is h hole
  tell_after_rung (suc (suc (suc (suc (suc (suc (suc (suc (suc zero))))))))) z i pre b fs ts l is h hole =
      tell_chain w y g d under' under below' level.Compare pre b fs ts l is h hole
  tell_after_rung (suc (suc (suc (suc (suc (suc (suc (suc (suc (suc zero)))))))))) z i pre b fs ts l is h hole =
      tell_quiet 10 (omega arith) pre b fs ts is h
  tell_after_rung (suc (suc (suc (suc (suc (suc (suc (suc (suc (suc (suc zero))))))))))) z i pre b fs ts l is h hole =
      tell_chain w y g d under' under below' level.And pre b fs ts l is h hole
  tell_after_rung (suc (suc (suc (suc (suc (suc (suc (suc (suc (suc (suc (suc zero)))))))))))) z i pre b fs ts l is h
      hole = tell_chain w y g d under' under below' level.Or pre b fs ts l is h hole
  tell_after_rung (suc (suc (suc (suc (suc (suc (suc (suc (suc (suc (suc (suc (suc zero))))))))))))) z i pre b fs ts l
      is h hole = tell_choice w y g d under' under below' pre b fs ts l is h hole
  tell_after_rung (suc (suc (suc (suc (suc (suc (suc (suc (suc (suc (suc (suc (suc (suc n)))))))))))))) z i pre b fs ts
      l is h hole = absurd (omega (arith, i))

  pub tell_grown : (n : ℕ) → n < 14 → (pre : List Token) (a : Expr) (fs ts : List Token) → length ts ≤ g →
      ((x : Marks) → Is x 1 a fs) → height a ≤ suc d → Hole (suc n) (suc d) pre →
      Told y (pre ++ fs) ts (λ us. grown_at under' (more w g) (more y (suc d)) n (of a, us))
      (λ v us. Read (suc n) (suc d) v (fs ++ us)) (grown_at under g (suc d) n (of a, ts))
  unfolding grown_at
  tell_grown zero i pre a fs ts l is h hole =
      told_done (a, refl, (λ x. move (Is x 1 a) (sym (append-nil fs)) (is x)), h)
  tell_grown (suc n) i pre a fs ts l is h hole =
      told_bind (after_rung (rung_of (suc n)) under' (more w g) (more y (suc d)))
      (after_rung (rung_of (suc n)) under g (suc d)) (λ v us. Read (suc n) (suc d) v (fs ++ us))
      (tell_grown n (omega (arith, i)) pre a fs ts l is h
      (λ m b us r j. hole m b us (G.up (suc n) (omega (arith, i)) r) j))
      (λ v gs rest e r. rw r.1 (told_pre (sym (append_assoc pre fs gs))
      (told_post (λ b us q. (q.0, q.1, (λ x. move (Is x (suc (suc n)) q.0) (append_assoc fs gs us) (q.2 x)), q.3))
      (tell_after_rung (suc n) (omega arith) (omega (arith, i)) pre r.0 (fs ++ gs) rest
      (omega (arith, l, length_after ts gs rest e)) r.2 r.3 hole))))

-- ---- an operator after an expression of the level of targets

abbrev Grown : Expr → List Token → TokenKind → Type 0
Grown a fs κ = (p : Place) → (b : Expr) × (us : List Token) × Is None 14 b (fs ++ at κ p ∷ us)

link_grown : (l : Level) (a : Expr) (fs : List Token) (κ : TokenKind) → Is None 1 a fs → links l κ ≡ true → Grown a fs κ
link_grown l a fs κ q e = go (operator_of l κ) refl
  where
    go : (s : Option Operator) → operator_of l κ ≡ s → Grown a fs κ
    go None i = no (sym e ∙ ap is_some i)
    go (Some o) i = λ p. let s = link_start l κ o i p in (
      ex.Chain l a s.1,
      s.0,
      up_to (suc (below l)) 14 (omega (arith, below_small l)) (omega arith)
          (G.chain l (up_to 1 (below l) (omega (arith, high l)) (omega (arith, below_small l)) q) s.2),
    )

power_grown : (a : Expr) (fs : List Token) (κ : TokenKind) → Is None 1 a fs → κ ≡ c.power → Grown a fs κ
power_grown a fs κ q e = rw e (λ p. (
  ex.Power a (ex.Name []),
  word,
  up_to 2 14 (omega arith) (omega arith) (G.power p q (is_word 3 None (omega arith))),
))

choice_by : (a b d : Expr) (fs us vs : List Token) (p : Place) → Is None 13 a fs → Is None 13 b us → Is None 14 d vs →
    (e : Expr) × (ws : List Token) × Is None 14 e (fs ++ at c.if_ p ∷ ws)
choice_by a b d fs us vs p q i j = (
  ex.Choice a b d,
  us ++ at c.else_ p0 ∷ vs,
  move (Is None 14 (ex.Choice a b d)) (append_assoc fs (at c.if_ p ∷ us) (at c.else_ p0 ∷ vs)) (G.choice p p0 q i j),
)

choice_grown : (a : Expr) (fs : List Token) (κ : TokenKind) → Is None 1 a fs → κ ≡ c.if_ → Grown a fs κ
choice_grown a fs κ q e = rw e (λ p. choice_by a (ex.Name []) (ex.Name []) fs word word p
    (up_to 1 13 (omega arith) (omega arith) q) (is_word 13 None (omega arith)) (is_word 14 None (omega arith)))

taken : (n : ℕ) → 0 < n → n < 14 → (a : Expr) (fs : List Token) (κ : TokenKind) → Is None 1 a fs →
    takes (rung_of n) κ ≡ true → Grown a fs κ
taken zero z i a fs κ q e = absurd (omega (arith, z))
taken (suc zero) z i a fs κ q e = power_grown a fs κ q (only_op 4 κ e)
taken (suc (suc zero)) z i a fs κ q e = no (sym e)
taken (suc (suc (suc zero))) z i a fs κ q e = link_grown level.Term a fs κ q e
taken (suc (suc (suc (suc zero)))) z i a fs κ q e = link_grown level.Sum a fs κ q e
taken (suc (suc (suc (suc (suc zero))))) z i a fs κ q e = link_grown level.Shift a fs κ q e
taken (suc (suc (suc (suc (suc (suc zero)))))) z i a fs κ q e = link_grown level.BitAnd a fs κ q e
taken (suc (suc (suc (suc (suc (suc (suc zero))))))) z i a fs κ q e = link_grown level.BitXor a fs κ q e
taken (suc (suc (suc (suc (suc (suc (suc (suc zero)))))))) z i a fs κ q e = link_grown level.BitOr a fs κ q e
taken (suc (suc (suc (suc (suc (suc (suc (suc (suc zero))))))))) z i a fs κ q e = link_grown level.Compare a fs κ q e
taken (suc (suc (suc (suc (suc (suc (suc (suc (suc (suc zero)))))))))) z i a fs κ q e = no (sym e)
taken (suc (suc (suc (suc (suc (suc (suc (suc (suc (suc (suc zero))))))))))) z i a fs κ q e =
    link_grown level.And a fs κ q e
taken (suc (suc (suc (suc (suc (suc (suc (suc (suc (suc (suc (suc zero)))))))))))) z i a fs κ q e =
    link_grown level.Or a fs κ q e
taken (suc (suc (suc (suc (suc (suc (suc (suc (suc (suc (suc (suc (suc zero))))))))))))) z i a fs κ q e =
    choice_grown a fs κ q (only_keyword 16 κ e)
taken (suc (suc (suc (suc (suc (suc (suc (suc (suc (suc (suc (suc (suc (suc n)))))))))))))) z i a fs κ q e =
    absurd (omega (arith, i))

pub grows_on : (n : ℕ) → n < 14 → (a : Expr) (fs : List Token) (κ : TokenKind) → Is None 1 a fs → grows n κ ≡ true →
    Grown a fs κ
grows_on zero i a fs κ q e = no (sym e)
grows_on (suc n) i a fs κ q e = elim (either (grows n κ) _ e) [
  | inl j ↦ grows_on n (omega (arith, i)) a fs κ q j
  | inr j ↦ taken (suc n) (omega arith) i a fs κ q j
]
