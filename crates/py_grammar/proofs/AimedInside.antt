-- What reading tests in brackets tells, where the brackets stand in the place of a target.
use Rattle.std.proofs.Common.{◌≡◌, ℕ, zero, suc, ◌-◌, ◌<◌, ◌≤◌, nat_lt, nat_le, max, Bool, true, false, ◌||◌, List, [], ◌∷◌, ◌++◌, length, Ok, Err, None, inl, inr, refl, sym, ap, ◌∙◌, subst, append_assoc, append-nil, arith, if◌then◌else◌}
use Rattle.std.proofs.lemmas.Bool.{or_right}
use Rattle.py_tokens.specs.declared.token.Token.{Token}
use Rattle.py_tokens.specs.declared.token.TokenKind.TheVariants as k
use Rattle.py_tokens.specs.declared.token.Place.{Place}
use Rattle.py_tokens.specs.Place.{token_at as at}
use Rattle.py_tree.specs.declared.expr.Expr.{Expr}
use Rattle.py_tree.specs.declared.form.Form.{Form}
use Rattle.py_tree.specs.declared.form.Form.TheVariants.{Many}
use Rattle.py_tree.specs.Form.{is_target, form}
use Rattle.py_tree.specs.Height.{height}
use Rattle.py_tree.proofs.Heights as hh
use Rattle.py_grammar.specs.declared.fault.Fault.TheVariants.{Deep}
use Rattle.py_grammar.specs.declared.rung.Rung.{Rung}
use Rattle.py_grammar.specs.declared.rung.Rung.TheVariants.{Trailed, Powered, Signed, Chained, Negated, Chosen, Listed}
use Rattle.py_grammar.specs.Codes as c
use Rattle.py_grammar.specs.Grammar as G
use Rattle.py_grammar.specs.Grammar.{Marks, Is}
use Rattle.py_grammar.specs.declared.tall.Tall.{Tall}
use Rattle.py_grammar.specs.inner.Tall.{push, joined}
use Rattle.py_grammar.specs.inner.Follow.{takes}
use Rattle.py_grammar.specs.inner.Reading.{Test, ◌>>=◌, Below, first, rest, is_op, starts, comes, rung_of, power_at, chain_at, choice_at, reads}
use Rattle.py_grammar.specs.inner.Aiming.{after_rung, grown_at, grows, risen_at, element_at, fine, next_at, elements_at, closing_at, closed_at}
use Rattle.py_grammar.proofs.Steps.{of}
use Rattle.py_grammar.proofs.Facts.{no}
use Rattle.py_grammar.proofs.ReadSteps.{tests_nil}
use Rattle.py_grammar.proofs.Values.{plus_tests, push_tests}
use Rattle.py_grammar.proofs.Told.{Mode, any, low, Opens, alone, near, with_none, more, more_is, Told, told_done, told_ends, told_refused, there, told_as, told_same, told_if, told_post, told_take, told_word, told_bind, told_map, on, here, move}
use Rattle.py_grammar.proofs.Tells.{only_op, Hole, Read, p0, free, length_after, then_tests, Commaed, trailing, further, Following, no_more, commaed}
use Rattle.py_grammar.proofs.Atoms.{either}
use Rattle.py_grammar.proofs.Levels.{up_to, unders}
use Rattle.py_grammar.proofs.Aimed.{Suits, extend, AimHole, ReadAim, TellAim, told_high, told_weaken, tell_grown, grows_on}

-- ---- budgets

-- q is left, and q' with more of a budget
pub record Budgets (w y g q q' : ℕ) : Type 0 where
  pub still : y ≡ 0 → q' ≡ q
  pub grow : q ≤ q'
  pub plain : (pre ts : List Token) → length ts ≤ g → Opens low pre → Hole 14 q pre →
      Told y pre ts ((reads (more w g) q').read 14) (Read 14 q) ((reads g q).read 14 ts)
  pub ladder : (pre : List Token) (a : Expr) (fs ts : List Token) → length ts ≤ g → ((x : Marks) → Is x 1 a fs) →
      height a ≤ q → Hole 14 q pre →
      Told y (pre ++ fs) ts (λ us. grown_at (reads (more w g) (q' - 1)) (more w g) q' 13 (of a, us))
      (λ v us. Read 14 q v (fs ++ us)) (grown_at (reads g (q - 1)) g q 13 (of a, ts))

no_budgets : (w y g z : ℕ) → (y ≡ 0 → z ≡ 0) → Budgets w y g 0 z
no_budgets w y g z h = record {
  still = h;
  grow = omega arith;
  plain = λ pre ts l o hole. told_weaken h ((unders w z g 0).read 14 (omega arith) pre ts l o hole);
  ladder = λ pre a fs ts l is j hole. absurd (omega (arith, j, hh.height_pos a));
}

some_budgets : (w y g d : ℕ) → Budgets w y g (suc d) (more y (suc d))
some_budgets w y g d = record {
  still = λ e. omega (arith, more_is y (suc d), e);
  grow = omega (arith, more_is y (suc d));
  plain = λ pre ts l o hole. (unders w y g (suc d)).read 14 (omega arith) pre ts l o hole;
  ladder = λ pre a fs ts l is j hole. by (more y (suc d) - 1) (suc d - 1)
      (omega (arith, more_is y (suc d), more_is y d)) (omega arith) pre a fs ts l is j hole;
}
  where
    by : (u' u : ℕ) → u' ≡ more y d → u ≡ d → (pre : List Token) (a : Expr) (fs ts : List Token) → length ts ≤ g →
        ((x : Marks) → Is x 1 a fs) → height a ≤ suc d → Hole 14 (suc d) pre →
        Told y (pre ++ fs) ts (λ us. grown_at (reads (more w g) u') (more w g) (more y (suc d)) 13 (of a, us))
        (λ v us. Read 14 (suc d) v (fs ++ us)) (grown_at (reads g u) g (suc d) 13 (of a, ts))
    by u' u e' e pre a fs ts l is j hole =
        rw (e', e) (tell_grown w y g d (reads (more w g) (more y d)) (reads g d) (unders w y g d) 13 (omega arith) pre
        a fs ts l is j hole)

budgets : (w y g d : ℕ) → Budgets w y g d (more y d)
budgets w y g zero = no_budgets w y g y (λ z. z)
budgets w y g (suc d) = some_budgets w y g d

-- with one less
lower : (w y g p : ℕ) → 0 < p → Budgets w y g (p - 1) (more y p - 1)
lower w y g p z =
    let e : more y p - 1 ≡ more y (p - 1) = omega (arith, z, more_is y p, more_is y (p - 1)) in
    subst (λ n. Budgets w y g (p - 1) n) (sym e) (budgets w y g (p - 1))

-- ---- an expression of the level of targets, and what follows it

or_no_left : (a b : Bool) → (a || b) ≡ false → a ≡ false
or_no_left true b h = no h
or_no_left false b h = refl

or_no_right : (a b : Bool) → (a || b) ≡ false → b ≡ false
or_no_right true b h = no h
or_no_right false b h = h

pub after_none : (r : Rung) (under : Below) (g d : ℕ) (v : Tall Expr) (us : List Token) → takes r (first us) ≡ false →
    after_rung r under g d (v, us) ≡ Ok (v, us)
unfolding power_at chain_at choice_at
after_none Trailed under g d v us h = refl
after_none Powered under g d v us h = rw h refl
after_none Signed under g d v us h = refl
after_none (Chained l) under g d v us h = rw h refl
after_none Negated under g d v us h = refl
after_none Chosen under g d v us h = rw h refl
after_none Listed under g d v us h = refl

pub grown_none : (under : Below) (g d n : ℕ) (v : Tall Expr) (us : List Token) → grows n (first us) ≡ false →
    grown_at under g d n (v, us) ≡ Ok (v, us)
unfolding grown_at
grown_none under g d zero v us h = refl
grown_none under g d (suc n) v us h = ap (λ r. r >>= after_rung (rung_of (suc n)) under g d)
    (grown_none under g d n v us (or_no_left (grows n (first us)) _ h)) ∙
    after_none (rung_of (suc n)) under g d v us (or_no_right (grows n (first us)) _ h)

pub risen_none : (g q : ℕ) (v : Tall Expr) (us : List Token) → grows 13 (first us) ≡ false →
    risen_at g q (v, us) ≡ Ok (v, us)
unfolding risen_at
risen_none g q v us h = go (nat_le v.tall q) refl
  where
    go : (b : Bool) → nat_le v.tall q ≡ b → risen_at g q (v, us) ≡ Ok (v, us)
    go true e = rw e (grown_none (reads g (q - 1)) g q 13 v us h)
    go false e = rw e (rw h refl)

-- A test was taken, and a module begins so.
abbrev pub NextRead : ℕ → List Token → Tall Expr → List Token → Type 0
NextRead p pre v fs = (a : Expr) × (v ≡ of a) × ((x : Marks) → Is x 14 a fs) × (height a ≤ p) × Opens low (pre ++ fs)

module _ (w y g p q q' : ℕ) (bud : Budgets w y g q q') (below : q ≤ p) where
  tell_risen : (pre : List Token) (a : Expr) (fs ts : List Token) → length ts ≤ g → ((x : Marks) → Is x 1 a fs) →
      height a ≤ p → Opens low (pre ++ fs) → Hole 14 q pre →
      Told y (pre ++ fs) ts (λ us. risen_at (more w g) q' (of a, us)) (λ v us. NextRead p pre v (fs ++ us))
      (risen_at g q (of a, ts))
  unfolding risen_at
  tell_risen pre a fs ts l is h o hole = go (nat_le (height a) q) refl
    where
      big : nat_le (height a) q ≡ true → nat_le (height a) q' ≡ true
      big e = let i : height a ≤ q = grind (arith, e) in let j : height a ≤ q' = omega (arith, i, bud.grow) in
          grind (arith, j)

      go : (b : Bool) → nat_le (height a) q ≡ b → Told y (pre ++ fs) ts (λ us. risen_at (more w g) q' (of a, us))
          (λ v us. NextRead p pre v (fs ++ us)) (risen_at g q (of a, ts))
      go true e = told_same {X' = λ us. grown_at (reads (more w g) (q' - 1)) (more w g) q' 13 (of a, us)}
          {q = grown_at (reads g (q - 1)) g q 13 (of a, ts)} (rw e refl) (λ us s. rw (big e) refl)
          (told_post (λ v us r. (r.0, r.1, r.2, omega (arith, r.3, below), hole low r.0 _ (r.2 None) (λ b. r.3)))
          (bud.ladder pre a fs ts l is (grind (arith, e)) hole))
      go false e = up (grows 13 (first ts)) refl
        where
          up : (b : Bool) → grows 13 (first ts) ≡ b → Told y (pre ++ fs) ts (λ us. risen_at (more w g) q' (of a, us))
              (λ v us. NextRead p pre v (fs ++ us)) (risen_at g q (of a, ts))
          up true i = told_same {X' = λ us. risen_at (more w g) q' (of a, us)} {q = Err (Deep, ts)} (rw e (rw i refl))
              (λ us s. refl)
              (told_high (first ts) refl o (λ j. let s = grows_on 13 (omega arith) a fs (first ts) (is None) i j in
              on s.1 (simp append_assoc) (hole any s.0 _ s.2 free))
              (λ z us s. rw (bud.still z) (rw e (rw s (rw i refl)))))
          up false i = told_same {X' = λ us. Ok (of a, us)} {q = Ok (of a, ts)} (rw e (rw i refl))
              (λ us s. risen_none (more w g) q' (of a) us (ap (grows 13) s ∙ i))
              (told_done (
                a,
                refl,
                (λ x.
                    move (Is x 14 a) (sym (append-nil fs)) (up_to 1 14 (omega arith) (omega arith) (is x))),
                h,
                here (sym (ap (λ z. pre ++ z) (append-nil fs))) o,
              ))

  tell_element : (aim' aim : Test) → TellAim y g p aim' aim → (pre ts : List Token) → length ts ≤ g → Opens low pre →
      Hole 14 q pre → AimHole 1 p pre → Told y pre ts (element_at aim' (more w g) q') (NextRead p pre)
      (element_at aim g q ts)
  unfolding element_at
  tell_element aim' aim tell pre ts l o hole aims = told_if (starts 1)
      (λ e. told_bind (risen_at (more w g) q') (risen_at g q) (ReadAim p pre) (tell pre ts l o aims)
      (λ v fs rest e2 r. rw r.1 (tell_risen pre r.0 fs rest (omega (arith, l, length_after ts fs rest e2)) r.2 r.3
      r.4 hole)))
      (λ e. told_post (λ v fs r. (r.0, r.1, r.2, omega (arith, r.3, below), hole low r.0 fs (r.2 None) (λ b. r.3)))
      (bud.plain pre ts l o hole))

-- ---- lists of tests

abbrev pub IsMany : Form → Type 0
IsMany f = (s : Bool) × (z : Bool) × (f ≡ Many s z)

pub joined_listed : (f : Form) → IsMany f → (h : Form) → IsMany (joined f h)
joined_listed f q h = rw q.2 (_, _, refl)

joined_target : (f : Form) → IsMany f → (h : Form) → is_target false f ≡ true → is_target false h ≡ true →
    is_target false (joined f h) ≡ true
joined_target f q h e i = many q.0 q.1 q.2 (subst (λ z. is_target false z ≡ true) q.2 e)
  where
    many : (s z : Bool) → f ≡ Many s z → s ≡ true → is_target false (joined f h) ≡ true
    many s z j e2 = rw j (rw e2 (rw i refl))

module _ (w y g p : ℕ) (aim' aim : Test) (tell : TellAim y g p aim' aim) where
  abbrev pub SuitsAll : Tall (List Expr) → Type 0
  SuitsAll v = Suits p v.form v.tall

  fits_all : (v : Tall (List Expr)) → Suits p v.form v.tall → v.tall ≤ p
  fits_all v (inl q) = q.1
  fits_all v (inr q) = omega (arith, q)

  fine_suits : (v : Tall (List Expr)) → fine p v ≡ true → v.tall ≤ p → Suits p v.form v.tall
  fine_suits v e l = elim (either (is_target false v.form) _ e) [
    | inl q ↦ inl (q, l)
    | inr q ↦ inr (grind (arith, q))
  ]

  fine_more : (v : Tall (List Expr)) → fine p v ≡ true → fine (more y p) v ≡ true
  fine_more v e = elim (either (is_target false v.form) _ e) [
    | inl q ↦ rw q refl
    | inr q ↦ let i : v.tall < p = grind (arith, q) in let j : v.tall < more y p = omega (arith, i, more_is y p) in
        or_right (is_target false v.form) _ (grind (arith, j))
  ]

  abbrev pub NextHole : Tall (List Expr) → List Token → Type 0
  NextHole found pre = (m : Mode) (a : Expr) (us : List Token) → Is m.marks 14 a us →
      (m.bounded ≡ true → Suits p (joined found.form (form a)) (max found.tall (height a))) → Opens m (pre ++ us)

  aim_hole : (found : Tall (List Expr)) (pre : List Token) → IsMany found.form → is_target false found.form ≡ true →
      found.tall ≤ p → NextHole found pre → AimHole 1 p pre
  aim_hole found pre listed e l hole m a us r s = go m.bounded refl
    where
      go : (b : Bool) → m.bounded ≡ b → Opens m (pre ++ us)
      go false i = hole m a us (up_to 1 14 (omega arith) (omega arith) r) (λ z. no (sym z ∙ i))
      go true i = elim (s i) [
        | inl q ↦ hole m a us (up_to 1 14 (omega arith) (omega arith) r)
            (λ z. inl (joined_target found.form listed (form a) e q.0, omega (arith, q.1, l)))
        | inr q ↦ let x = extend r refl in on (at c.dot p0 ∷ at (k.Name []) p0 ∷ []) (simp append_assoc)
            (hole m x.tree _ (up_to 1 14 (omega arith) (omega arith) x.spells)
            (λ z. inl (joined_target found.form listed (form x.tree) e x.target, omega (arith, q, l, x.low))))
      ]

  pub tell_next : (found : Tall (List Expr)) → IsMany found.form → Suits p found.form found.tall →
      (pre ts : List Token) → length ts ≤ g → Opens low pre → NextHole found pre →
      Told y pre ts (next_at aim' (more w g) (more y p) found) (NextRead p pre) (next_at aim g p found ts)
  unfolding next_at
  tell_next found listed suits pre ts l o hole = go (is_target false found.form) refl
    where
      hole_under : found.tall < p → Hole 14 (p - 1) pre
      hole_under i m a us r h = hole m a us r (λ b. inr (omega (arith, i, h b)))

      less : is_target false found.form ≡ false → Suits p found.form found.tall → found.tall < p
      less e (inl q) = no (sym q.0 ∙ e)
      less e (inr q) = q

      strict : is_target false found.form ≡ true → (b : Bool) → nat_lt found.tall p ≡ b →
          Told y pre ts (λ us. element_at aim' (more w g) (if nat_lt found.tall (more y p) then more y p - 1 else 0)
          us) (NextRead p pre) (element_at aim g (if nat_lt found.tall p then p - 1 else 0) ts)
      strict e true i =
          let j : found.tall < p = grind (arith, i) in
          let j2 : found.tall < more y p = omega (arith, j, more_is y p) in
          let i2 : nat_lt found.tall (more y p) ≡ true = grind (arith, j2) in
          rw (i, i2) (tell_element w y g p (p - 1) (more y p - 1) (lower w y g p (omega (arith, j))) (omega arith) aim'
          aim tell pre ts l o (hole_under j) (aim_hole found pre listed e (fits_all found suits) hole))
      strict e false i =
          rw i (tell_element w y g p 0 (if nat_lt found.tall (more y p) then more y p - 1 else 0)
          (no_budgets w y g _ (λ z. let m : more y p ≡ p = omega (arith, more_is y p, z) in rw m (rw i refl)))
          (omega arith) aim' aim tell pre ts l o
          (λ m a us r h. hole m a us r (λ b. absurd (omega (arith, h b, hh.height_pos a))))
          (aim_hole found pre listed e (fits_all found suits) hole))

      go : (b : Bool) → is_target false found.form ≡ b → Told y pre ts (next_at aim' (more w g) (more y p) found)
          (NextRead p pre) (next_at aim g p found ts)
      go true e = told_same {X' = λ us. element_at aim' (more w g)
          (if nat_lt found.tall (more y p) then more y p - 1 else 0) us}
          {q = element_at aim g (if nat_lt found.tall p then p - 1 else 0) ts} (rw e refl) (λ us s. rw e refl)
          (strict e (nat_lt found.tall p) refl)
      go false e = let i = less e suits in
          told_same {X' = (reads (more w g) (more y p - 1)).read 14} {q = (reads g (p - 1)).read 14 ts} (rw e refl)
          (λ us s. rw e refl)
          (told_post (λ v fs r. (r.0, r.1, r.2, omega (arith, r.3), hole_under i low r.0 fs (r.2 None) (λ b. r.3)))
          ((lower w y g p (omega (arith, i))).plain pre ts l o (hole_under i)))

  -- ---- further tests

  abbrev pub Inner : Tall (List Expr) → List Token → Type 0
  Inner found pre = (m : Mode) (es : List Expr) (b : Bool) (us : List Token) → Following m.marks es b us →
      (m.bounded ≡ true → SuitsAll (plus_tests found es)) → Opens m (pre ++ us)

  abbrev pub InnerCommas : Tall (List Expr) → List Token → Type 0
  InnerCommas found pre = (m : Mode) (es : List Expr) (b : Bool) (us : List Token) → Commaed m.marks es b us →
      (m.bounded ≡ true → SuitsAll (plus_tests found es)) → Opens m (pre ++ us)

  abbrev pub ElementsRead : (Marks → List Expr → Bool → List Token → Type 0) → Tall (List Expr) → List Token →
      Tall (List Expr) → List Token → Type 0
  ElementsRead C found pre v fs = (es : List Expr) × (b : Bool) × (v ≡ plus_tests found es) ×
      ((x : Marks) → C x es b fs) × (v.tall ≤ p) × Opens low (pre ++ fs)

  abbrev TellElements : ℕ → Type 0
  TellElements f = (found : Tall (List Expr)) (pre ts : List Token) → IsMany found.form → found.tall ≤ p →
      length ts ≤ f → f ≤ g → Opens low pre → Inner found pre →
      Told y pre ts (elements_at aim' (more w g) (more y p) (more w f) found) (ElementsRead Following found pre)
      (elements_at aim g p f found ts)

  s_elements_end : (aim2 : Test) (g2 room f : ℕ) (found : Tall (List Expr)) (us : List Token) →
      is_op 38 (first us) ≡ false → elements_at aim2 g2 room f found us ≡ Ok (found, us)
  unfolding elements_at
  s_elements_end aim2 g2 room zero found us h = refl
  s_elements_end aim2 g2 room (suc f) found us h = rw h refl

  pushed : (found : Tall (List Expr)) (a : Expr) → push found (of a) ≡ plus_tests found (a ∷ [])
  pushed found a = sym (tests_nil (push found (of a))) ∙ push_tests found a []

  tell_comma : (f : ℕ) → TellElements f → (found : Tall (List Expr)) (pre : List Token) (i : Place) (us : List Token) →
      IsMany found.form → found.tall ≤ p → length us ≤ f → f ≤ g → Opens low pre → InnerCommas found pre →
      Told y pre (at c.comma i ∷ us) (elements_at aim' (more w g) (more y p) (more w (suc f)) found)
      (ElementsRead Commaed found pre) (elements_at aim g p (suc f) found (at c.comma i ∷ us))
  unfolding elements_at
  tell_comma f again found pre i us listed tall l j o hole = go (fine p found) refl
    where
      go : (b : Bool) → fine p found ≡ b →
          Told y pre (at c.comma i ∷ us) (elements_at aim' (more w g) (more y p) (more w (suc f)) found)
          (ElementsRead Commaed found pre) (elements_at aim g p (suc f) found (at c.comma i ∷ us))
      go false e = told_same {X' = elements_at aim' (more w g) (more y p) (more w (suc f)) found}
          {q = Err (Deep, at c.comma i ∷ us)} (rw e refl) (λ vs s. refl)
          (told_high c.comma refl o (λ q. hole any [] true _ (trailing None q) free)
          (λ z vs s. let m : more y p ≡ p = omega (arith, more_is y p, z) in rw m (rw s (rw e refl))))
      go true e =
          let o1 : Opens low (pre ++ at c.comma i ∷ []) =
          hole low [] true _ (trailing None i)
          (λ b. subst SuitsAll (sym (tests_nil found)) (fine_suits found e tall)) in
          told_same {X' = λ vs. if comes 14 (first (rest vs)) then
          (next_at aim' (more w g) (more y p) found (rest vs) >>= λ a.
          elements_at aim' (more w g) (more y p) (more w f) (push found a.0) a.1) else Ok (found, rest vs)}
          {q = if comes 14 (first us) then
          (next_at aim g p found us >>= λ a. elements_at aim g p f (push found a.0) a.1) else Ok (found, us)}
          (rw e refl) (λ vs s. rw s (rw (fine_more found e) refl))
          (told_take (told_if (comes 14)
          (λ c'. told_bind (λ a. elements_at aim' (more w g) (more y p) (more w f) (push found a.0) a.1)
          (λ a. elements_at aim g p f (push found a.0) a.1) (NextRead p (pre ++ at c.comma i ∷ []))
          (tell_next found listed (fine_suits found e tall) (pre ++ at c.comma i ∷ []) us (omega (arith, l, j)) o1
          (λ m a vs r h. near m pre (at c.comma i ∷ []) vs
          (hole m (a ∷ []) false _ (further i (G.only r)) (λ b. subst SuitsAll (pushed found a) (h b)))))
          (λ v fs rest' q r. rw r.1 (told_post
          (λ v2 vs r2. (
            r.0 ∷ r2.0,
            r2.1,
            r2.2 ∙ push_tests found r.0 r2.0,
            (λ x. further i (then_tests (r.2 x) (r2.3 x))),
            r2.4,
            here (simp append_assoc) r2.5,
          ))
          (again (push found (of r.0)) ((pre ++ at c.comma i ∷ []) ++ fs) rest'
          (joined_listed found.form listed (form r.0)) (omega (arith, tall, r.3))
          (omega (arith, l, length_after us fs rest' q)) j r.4
          (λ m es b vs r2 h. here (simp append_assoc)
          (hole m (r.0 ∷ es) b _ (further i (then_tests (r.2 m.marks) r2))
          (λ z. subst SuitsAll (push_tests found r.0 es) (h z))))))))
          (λ c'. told_done ([], true, sym (tests_nil found), (λ x. trailing x i), tall, o1))))

  pub tell_elements : (f : ℕ) → TellElements f
  unfolding elements_at
  tell_elements zero found pre [] listed tall l j o hole =
      told_ends found ([], false, sym (tests_nil found), no_more, tall, alone low pre o) refl
      (λ us s. with_none (λ z. elements_at aim' (more w g) (more y p) w found z ≡ Ok (found, z)) us
      (s_elements_end aim' (more w g) (more y p) w found [] refl) s)
  tell_elements zero found pre (t ∷ ts) listed tall l j o hole = absurd (omega (arith, l))
  tell_elements (suc f) found pre ts listed tall l j o hole =
      told_word (is_op 38) c.comma (only_op 38) refl
      (λ i us q. rw q (told_as {X' = elements_at aim' (more w g) (more y p) (more w (suc f)) found} (λ vs s. rw s refl)
      (told_post (λ v fs r. (r.0, r.1, r.2, (λ x. commaed (r.3 x)), r.4, r.5))
      (tell_comma f (tell_elements f) found pre i us listed tall (omega (arith, l, ap length q)) (omega (arith, j)) o
      (λ m es b vs r h. hole m es b vs (commaed r) h)))))
      (λ q. told_done ([], false, sym (tests_nil found), no_more, tall, alone low pre o))

  -- where a comma comes
  pub tell_commas : (f : ℕ) (found : Tall (List Expr)) (pre ts : List Token) → IsMany found.form → found.tall ≤ p →
      length ts ≤ f → f ≤ g → Opens low pre → is_op 38 (first ts) ≡ true → InnerCommas found pre →
      Told y pre ts (elements_at aim' (more w g) (more y p) (more w f) found) (ElementsRead Commaed found pre)
      (elements_at aim g p f found ts)
  tell_commas zero found pre [] listed tall l j o e hole = no (sym e)
  tell_commas zero found pre (t ∷ ts) listed tall l j o e hole = absurd (omega (arith, l))
  tell_commas (suc f) found pre ts listed tall l j o e hole = let h =
      there ts c.comma (only_op 38 (first ts) e) (λ z. cc) in
      rw h.2 (tell_comma f (tell_elements f) found pre h.0 h.1 listed tall (omega (arith, l, ap length h.2))
      (omega (arith, j)) o hole)

  -- ---- the closing bracket

  tell_closing : (n : ℕ) (v : Tall (List Expr)) (pre ts : List Token) → v.tall ≤ p → Opens low pre →
      ((i : Place) → Opens any (pre ++ at (k.Op n) i ∷ [])) →
      Told y pre ts (closing_at n (fine (more y p) v))
      (λ x fs. (i : Place) × (fs ≡ at (k.Op n) i ∷ []) × Suits p v.form v.tall) (closing_at n (fine p v) ts)
  tell_closing n v pre ts tall o above =
      told_word {X' = λ us. if fine (more y p) v then Ok (tt, rest us) else Err (Deep, us)}
      {X = if fine p v then Ok (tt, rest ts) else Err (Deep, ts)} (is_op n) (k.Op n) (only_op n) refl
      (λ i us q. rw q (go i us (fine p v) refl)) (λ q. told_refused o)
    where
      go : (i : Place) (us : List Token) (b : Bool) → fine p v ≡ b →
          Told {A = Unit {0}} y pre (at (k.Op n) i ∷ us)
          (λ vs. if fine (more y p) v then Ok (tt, rest vs) else Err (Deep, vs))
          (λ x fs. (j : Place) × (fs ≡ at (k.Op n) j ∷ []) × Suits p v.form v.tall)
          (if fine p v then Ok (tt, us) else Err (Deep, at (k.Op n) i ∷ us))
      go i us true e = told_same {X' = λ vs. Ok (tt, rest vs)} {q = Ok (tt, us)} (rw e refl)
          (λ vs s. rw (fine_more v e) refl) (told_take (told_done (i, refl, fine_suits v e tall)))
      go i us false e = told_same {X' = λ vs. if fine (more y p) v then Ok (tt, rest vs) else Err (Deep, vs)}
          {q = Err (Deep, at (k.Op n) i ∷ us)} (rw e refl) (λ vs s. refl)
          (told_high (k.Op n) refl o above (λ z vs s. let m : more y p ≡ p = omega (arith, more_is y p, z) in
          rw m (rw e refl)))

  pub tell_closed : {Q : Tall Expr → List Token → Type 0} (n : ℕ) (node : Tall (List Expr) → Tall Expr)
      (v : Tall (List Expr)) (pre ts : List Token) → v.tall ≤ p → Opens low pre →
      ((i : Place) → Opens any (pre ++ at (k.Op n) i ∷ [])) →
      ((i : Place) → Suits p v.form v.tall → Q (node v) (at (k.Op n) i ∷ [])) →
      Told y pre ts (λ us. closed_at n (more y p) node (v, us)) Q (closed_at n p node (v, ts))
  unfolding closed_at
  tell_closed {Q = Q} n node v pre ts tall o above done = told_map (λ x. node v) (tell_closing n v pre ts tall o above)
      (λ x fs r. subst (Q (node v)) (sym r.1) (done r.0 r.2))
