-- What the grammar has of the level of targets is read where a target stands, or refused as what is left out.
use Rattle.std.proofs.Common.{◌≡◌, ℕ, zero, suc, ◌+◌, ◌-◌, ◌<◌, ◌≤◌, ◌==◌, nat_lt, nat_le, Bool, true, false, ◌||◌, List, [], ◌∷◌, ◌++◌, length, Ok, Some, None, inl, inr, refl, sym, ap, ◌∙◌, subst, append_assoc, arith, length-append, if◌then◌else◌, le-ltb}
use Rattle.py_tokens.specs.declared.token.Token.{Token}
use Rattle.py_tokens.specs.declared.token.TokenKind.{TokenKind}
use Rattle.py_tokens.specs.declared.token.TokenKind.TheVariants as k
use Rattle.py_tokens.specs.declared.token.Place.{Place}
use Rattle.py_tokens.specs.Place.{token_at as at}
use Rattle.py_tree.specs.declared.expr.Expr.{Expr}
use Rattle.py_tree.specs.declared.expr.Expr.TheVariants as ex
use Rattle.py_tree.specs.declared.form.Form.{Form}
use Rattle.py_tree.specs.declared.form.Form.TheVariants.{Plain}
use Rattle.py_tree.specs.Form.{is_target, form}
use Rattle.py_tree.specs.Height.{height, tops}
use Rattle.py_tree.proofs.Heights as hh
use Rattle.py_tree.proofs.Forms as ff
use Rattle.py_base.specs.declared.refusal.Construct.TheVariants as left
use Rattle.py_grammar.specs.Codes as c
use Rattle.py_grammar.specs.Grammar as G
use Rattle.py_grammar.specs.Grammar.{Marks, Is, Tests, Commas}
use Rattle.py_grammar.specs.declared.tall.Tall.{Tall}
use Rattle.py_grammar.specs.inner.Tall.{plain, push, none, start, of_group, of_tuple, of_list, of_trail}
use Rattle.py_grammar.specs.inner.Follow.{stops}
use Rattle.py_grammar.specs.inner.Reading.{Test, ◌>>=◌, first, rest, is_op, starts, comes, trail_at, reads}
use Rattle.py_grammar.specs.inner.Aiming.{grown_at, risen_at, element_at, fine, next_at, elements_at, closed_at, round_rest, aim_round, list_rest, aim_list, aim_atom, aim_at}
use Rattle.py_grammar.proofs.Steps.{of, Reaches, then_reads, at_same, trail_quiet}
use Rattle.py_grammar.proofs.Facts.{not_op, not_keyword, stops_down, takes_not}
use Rattle.py_grammar.proofs.Values.{plus_tests, push_tests, plus_trailers, as_name, as_group, as_unit, as_no_list, as_tuple, as_list}
use Rattle.py_grammar.proofs.Begin.{headed, begin, long, as_value, s_trail, no_comma, no_test}
use Rattle.py_grammar.proofs.Complete.{complete, complete_trailers}
use Rattle.py_grammar.proofs.ReadSteps.{trailers_first, trail_value, tests_nil, ok_of}
use Rattle.py_grammar.proofs.AimedInside.{risen_none}
use Rattle.py_grammar.proofs.AimClimbs.{Meets, CompleteAim, high, climb, not_plain, to_trail, trail_starts, quiet_after, joined_parts, all_first}

-- ---- in brackets

abbrev pub All : Marks → ℕ → Tall (List Expr) → Type 0
All x p v = Meets x p v.form v.tall

-- the first of them meet it where all do
prefix : (x : Marks) (p : ℕ) (v : Tall (List Expr)) (es : List Expr) → All x p (plus_tests v es) → All x p v
prefix x p v es (inl h) = inl (omega (arith, h))
prefix x p v es (inr h) = inr (h.0, all_first v.form es h.1, omega (arith, h.2))

one_more : (x : Marks) (p : ℕ) (v : Tall (List Expr)) (a : Expr) (es : List Expr) → All x p (plus_tests v (a ∷ es)) →
    All x p (plus_tests (push v (of a)) es)
one_more x p v a es h = subst (All x p) (sym (push_tests v a es)) h

fine_if : (x : Marks) (p : ℕ) (v : Tall (List Expr)) → All x p v → fine p v ≡ true
fine_if x p v (inl h) = let i : nat_lt v.tall p ≡ true = grind (arith, h) in last (is_target false v.form) _ i
  where
    last : (a b : Bool) → b ≡ true → (a || b) ≡ true
    last true b h = refl
    last false b h = h
fine_if x p v (inr h) = rw (h.1) refl

pushed : (found : Tall (List Expr)) (a : Expr) → push found (of a) ≡ plus_tests found (a ∷ [])
pushed found a = sym (tests_nil (push found (of a))) ∙ push_tests found a []

module _ (g p : ℕ) (aim : Test) (whole : CompleteAim g p aim) where
  risen_low : (q : ℕ) (v : Tall Expr) (us : List Token) → v.tall ≤ q →
      risen_at g q (v, us) ≡ grown_at (reads g (q - 1)) g q 13 (v, us)
  unfolding risen_at
  risen_low q v us h = let i : nat_le v.tall q ≡ true = grind (arith, h) in rw i refl

  element_low : (x : Marks) (a : Expr) (ts : List Token) → Is x 14 a ts → (q : ℕ) → q < p → height a ≤ q →
      (rest : List Token) → length ts ≤ g → stops 14 (first rest) ≡ true →
      Reaches x (element_at aim g q (ts ++ rest)) (of a) rest
  unfolding element_at
  element_low x a ts is q l h rest b s = go (starts 1 (first (ts ++ rest))) refl
    where
      go : (i : Bool) → starts 1 (first (ts ++ rest)) ≡ i → Reaches x (element_at aim g q (ts ++ rest)) (of a) rest
      go true i = let w = climb is 13 refl g q rest b h s i in
          at_same x _ _ _ rest (rw i refl) (at_same x _ _ _ rest (ap (λ z. aim z >>= risen_at g q) w.split)
          (then_reads x _ (risen_at g q) (of w.base) w.after _ rest
          (whole x w.base w.front w.after w.spells (inl (omega (arith, w.low, h, l))) w.fits w.stop)
          (at_same x _ _ _ rest (risen_low q (of w.base) w.after (omega (arith, w.low, h))) w.grow)))
      go false i = at_same x _ _ _ rest (rw i refl) (complete is g q rest b h s)

  element_high : (a : Expr) (ts : List Token) → Is None 14 a ts → is_target false (form a) ≡ true → height a ≤ p →
      (q : ℕ) (rest : List Token) → length ts ≤ g → stops 14 (first rest) ≡ true →
      element_at aim g q (ts ++ rest) ≡ Ok (of a, rest)
  unfolding element_at
  element_high a ts is t h q rest b s =
      let s1 : stops 1 (first rest) ≡ true = stop_one (first rest) s in let r = to_trail is (omega arith) t in let i =
      trail_starts r rest s1 in
      rw i (ap (λ z. z >>= risen_at g q) (ok_of (whole None a ts rest r (inr (refl, t, h)) b s1)) ∙
      risen_none g q (of a) rest (quiet_after 13 (first rest) s))
    where
      stop_one : (κ : TokenKind) → stops 14 κ ≡ true → stops 1 κ ≡ true
      stop_one κ s = stops_down 1 κ (stops_down 2 κ
          (stops_down 3 κ (stops_down 4 κ
          (stops_down 5 κ (stops_down 6 κ
          (stops_down 7 κ (stops_down 8 κ
          (stops_down 9 κ (stops_down 10 κ (stops_down 11 κ (stops_down 12 κ (stops_down 13 κ s))))))))))))

  complete_next : (x : Marks) (a : Expr) (ts : List Token) → Is x 14 a ts → (found : Tall (List Expr)) →
      All x p (push found (of a)) → (rest : List Token) → length ts ≤ g → stops 14 (first rest) ≡ true →
      Reaches x (next_at aim g p found (ts ++ rest)) (of a) rest
  unfolding next_at
  complete_next x a ts is found (inl h) rest b s = go (is_target false found.form) refl
    where
      small : nat_lt found.tall p ≡ true
      small = let i : found.tall < p = omega (arith, h) in grind (arith, i)

      go : (i : Bool) → is_target false found.form ≡ i → Reaches x (next_at aim g p found (ts ++ rest)) (of a) rest
      go true i = at_same x _ (element_at aim g (p - 1) (ts ++ rest)) _ rest (rw i (rw small refl))
          (element_low x a ts is (p - 1) (omega (arith, h)) (omega (arith, h)) rest b s)
      go false i = at_same x _ ((reads g (p - 1)).read 14 (ts ++ rest)) _ rest (rw i refl)
          (complete is g (p - 1) rest b (omega (arith, h)) s)
  complete_next x a ts is found (inr h) rest b s =
      let t = joined_parts found.form (form a) h.1 in
      inl (rw (t.0) (element_high a ts (subst (λ z. Is z 14 a ts) h.0 is) t.1 (omega (arith, h.2))
      (if nat_lt found.tall p then p - 1 else 0) rest b s))

  -- ---- further tests

  s_elements : (f : ℕ) (found : Tall (List Expr)) (q : Place) (us : List Token) → fine p found ≡ true →
      comes 14 (first us) ≡ true → elements_at aim g p (suc f) found (at c.comma q ∷ us) ≡
      (next_at aim g p found us >>= λ a. elements_at aim g p f (push found a.0) a.1)
  unfolding elements_at
  s_elements f found q us h i = rw h (rw i refl)

  s_elements_trailing : (f : ℕ) (found : Tall (List Expr)) (q : Place) (us : List Token) → 0 < f → fine p found ≡ true
      → comes 14 (first us) ≡ false → elements_at aim g p f found (at c.comma q ∷ us) ≡ Ok (found, us)
  unfolding elements_at
  s_elements_trailing zero found q us l h i = absurd (omega (arith, l))
  s_elements_trailing (suc f) found q us l h i = rw h (rw i refl)

  s_elements_end : (f : ℕ) (found : Tall (List Expr)) (us : List Token) → is_op 38 (first us) ≡ false →
      elements_at aim g p f found us ≡ Ok (found, us)
  unfolding elements_at
  s_elements_end zero found us h = refl
  s_elements_end (suc f) found us h = rw h refl

  complete_elements : {x : Marks} {es : List Expr} {t : Bool} {ts : List Token} → Tests x es t ts →
      (f : ℕ) (found : Tall (List Expr)) (q : Place) (rest : List Token) → length ts ≤ g → length ts ≤ f →
      All x p (plus_tests found es) → stops 15 (first rest) ≡ true →
      Reaches x (elements_at aim g p f found (at c.comma q ∷ ts ++ rest)) (plus_tests found es) rest
  complete_elements (G.only r) zero found q rest b l h s = absurd (omega (arith, long (headed r), l))
  complete_elements (G.only {x = x} {a = a} {ts = ts} r) (suc f) found q rest b l h s =
      let all : All x p (push found (of a)) = subst (All x p) (sym (pushed found a)) h in
      at_same x _ _ _ rest (s_elements f found q (ts ++ rest) (fine_if x p found (prefix x p found (a ∷ []) h))
      (begin (headed r) rest))
      (then_reads x _ (λ a. elements_at aim g p f (push found a.0) a.1) (of a) rest _ rest
      (complete_next x a ts r found all rest b (stops_down 14 (first rest) s))
      (inl (s_elements_end f (push found (of a)) rest (no_comma (first rest) s) ∙
      ap (λ v. Ok (v, rest)) (pushed found a))))
  complete_elements (G.only_comma i {ts = ts} r) zero found q rest b l h s =
      absurd (omega (arith, long (headed r), length-append ts (at c.comma i ∷ []), l))
  complete_elements (G.only_comma i {x = x} {a = a} {ts = ts} r) (suc f) found q rest b l h s =
      let len = length-append ts (at c.comma i ∷ []) in let pos = long (headed r) in
      let all : All x p (push found (of a)) = subst (All x p) (sym (pushed found a)) h in
      at_same x _ _ _ rest (ap (λ w. elements_at aim g p (suc f) found (at c.comma q ∷ w))
      (append_assoc ts (at c.comma i ∷ []) rest) ∙
      s_elements f found q (ts ++ at c.comma i ∷ rest) (fine_if x p found (prefix x p found (a ∷ []) h))
      (begin (headed r) _))
      (then_reads x _ (λ a. elements_at aim g p f (push found a.0) a.1) (of a) (at c.comma i ∷ rest) _ rest
      (complete_next x a ts r found all _ (omega (arith, len, b)) refl)
      (inl (s_elements_trailing f (push found (of a)) i rest (omega (arith, len, pos, l))
      (fine_if x p (push found (of a)) all) (no_test (first rest) s) ∙ ap (λ v. Ok (v, rest)) (pushed found a))))
  complete_elements (G.more_tests i {ts = ts} {us = us} r m) zero found q rest b l h s =
      absurd (omega (arith, long (headed r), length-append ts (at c.comma i ∷ us), l))
  complete_elements (G.more_tests i {x = x} {a = a} {es = es} {b = t} {ts = ts} {us = us} r m) (suc f) found q rest b l
      h s =
      let len = length-append ts (at c.comma i ∷ us) in let pos = long (headed r) in let more' =
      one_more x p found a es h in let all = prefix x p (push found (of a)) es more' in
      at_same x _ _ _ rest (ap (λ w. elements_at aim g p (suc f) found (at c.comma q ∷ w))
      (append_assoc ts (at c.comma i ∷ us) rest) ∙ s_elements f found q (ts ++ (at c.comma i ∷ us ++ rest))
      (fine_if x p found (prefix x p found (a ∷ es) h)) (begin (headed r) _))
      (then_reads x _ (λ a. elements_at aim g p f (push found a.0) a.1) (of a) (at c.comma i ∷ us ++ rest) _ rest
      (complete_next x a ts r found all _ (omega (arith, len, b)) refl)
      (as_value x _ _ _ rest (push_tests found a es)
      (complete_elements m f (push found (of a)) i rest (omega (arith, len, b)) (omega (arith, len, l)) more' s)))

  -- ---- the brackets

  s_closed : (n : ℕ) (node : Tall (List Expr) → Tall Expr) (v : Tall (List Expr)) (q : Place) (rest : List Token) →
      fine p v ≡ true → closed_at n p node (v, at (k.Op n) q ∷ rest) ≡ Ok (node v, rest)
  unfolding closed_at
  s_closed n node v q rest h = let i : (n == n) ≡ true = grind arith in rw i (rw h refl)

  -- what is in a node has a height less
  inside : (x : Marks) (v : Tall (List Expr)) (f : Form) (h : ℕ) → Meets x (suc p) f h → f ≡ v.form → h ≡ v.tall + 1 →
      All x p v
  inside x v f h (inl i) e j = inl (omega (arith, i, j))
  inside x v f h (inr i) e j = inr (i.0, ap (is_target false) (sym e) ∙ i.1, omega (arith, i.2, j))

  in_group : (x : Marks) (a : Expr) → Meets x (suc p) (form (ex.Group a)) (height (ex.Group a)) → All x p (start (of a))
  in_group x a h = inside x (start (of a)) _ _ h (sym (ap (λ z. z.form) (as_group a)))
      (omega (arith, hh.height_group a))

  in_tuple : (x : Marks) (a : Expr) (es : List Expr) →
      Meets x (suc p) (form (ex.Tuple (a ∷ es))) (height (ex.Tuple (a ∷ es))) → All x p (plus_tests (start (of a)) es)
  in_tuple x a es h = inside x (plus_tests (start (of a)) es) _ _ h (sym (ap (λ z. z.form) (as_tuple a es)))
      (sym (ap (λ z. z.tall) (as_tuple a es)))

  in_list : (x : Marks) (a : Expr) (es : List Expr) →
      Meets x (suc p) (form (ex.List (a ∷ es))) (height (ex.List (a ∷ es))) → All x p (plus_tests (start (of a)) es)
  in_list x a es h = inside x (plus_tests (start (of a)) es) _ _ h (sym (ap (λ z. z.form) (as_list a es)))
      (sym (ap (λ z. z.tall) (as_list a es)))

  s_round : (us : List Token) → comes 14 (first us) ≡ true →
      aim_round aim g p us ≡ (next_at aim g p none us >>= round_rest aim g p)
  unfolding aim_round
  s_round us h = rw (not_op 33 (first us) refl h) (rw (not_keyword 14 30 (first us) refl h) refl)

  s_list : (us : List Token) → comes 14 (first us) ≡ true →
      aim_list aim g p us ≡ (next_at aim g p none us >>= list_rest aim g p)
  unfolding aim_list
  s_list us h = rw (not_op 35 (first us) refl h) refl

  complete_group : {x : Marks} {a : Expr} {ts : List Token} → Is x 14 a ts → All x p (start (of a)) →
      (q : Place) (rest : List Token) → length ts ≤ g → Reaches x (aim_round aim g p (ts ++ at c.close_round q ∷ rest))
      (of (ex.Group a)) rest
  complete_group {x = x} {a = a} {ts = ts} r h q rest b =
      at_same x _ _ _ rest (s_round (ts ++ at c.close_round q ∷ rest) (begin (headed r) _))
      (then_reads x _ (round_rest aim g p) (of a) (at c.close_round q ∷ rest) _ rest
      (complete_next x a ts r none h _ b refl)
      (inl (s_closed 33 (λ es. of_group (of a)) (start (of a)) q rest (fine_if x p (start (of a)) h) ∙
      ap (λ v. Ok (v, rest)) (as_group a))))

  complete_round : {x : Marks} {es : List Expr} {ts : List Token} → Commas x es ts →
      Meets x (suc p) (form (ex.Tuple es)) (height (ex.Tuple es)) → (q : Place) (rest : List Token) → length ts ≤ g →
      Reaches x (aim_round aim g p (ts ++ at c.close_round q ∷ rest)) (of (ex.Tuple es)) rest
  complete_round (G.lone i {x = x} {a = a} {ts = ts} r) h q rest b =
      let len = length-append ts (at c.comma i ∷ []) in let pos = long (headed r) in
      let all = subst (All x p) (tests_nil (start (of a))) (in_tuple x a [] h) in
      at_same x _ _ _ rest (ap (aim_round aim g p) (append_assoc ts (at c.comma i ∷ []) (at c.close_round q ∷ rest)) ∙
      s_round (ts ++ at c.comma i ∷ at c.close_round q ∷ rest) (begin (headed r) _))
      (then_reads x _ (round_rest aim g p) (of a) (at c.comma i ∷ at c.close_round q ∷ rest) _ rest
      (complete_next x a ts r none all _ (omega (arith, len, b)) refl)
      (inl (ap (λ z. z >>= closed_at 33 p of_tuple)
      (s_elements_trailing g (start (of a)) i (at c.close_round q ∷ rest) (omega (arith, len, b))
      (fine_if x p (start (of a)) all) refl)
      ∙ s_closed 33 of_tuple (start (of a)) q rest (fine_if x p (start (of a)) all) ∙
      ap (λ v. Ok (v, rest)) (ap of_tuple (sym (tests_nil (start (of a)))) ∙ as_tuple a []))))
  complete_round (G.several i {x = x} {a = a} {es = es} {b = t} {ts = ts} {us = us} r m) h q rest b =
      let len = length-append ts (at c.comma i ∷ us) in let all = in_tuple x a es h in
      at_same x _ _ _ rest (ap (aim_round aim g p) (append_assoc ts (at c.comma i ∷ us) (at c.close_round q ∷ rest)) ∙
      s_round (ts ++ (at c.comma i ∷ us ++ at c.close_round q ∷ rest)) (begin (headed r) _))
      (then_reads x _ (round_rest aim g p) (of a) (at c.comma i ∷ us ++ at c.close_round q ∷ rest) _ rest
      (complete_next x a ts r none (prefix x p (start (of a)) es all) _ (omega (arith, len, b)) refl)
      (then_reads x _ (closed_at 33 p of_tuple) (plus_tests (start (of a)) es) (at c.close_round q ∷ rest) _ rest
      (complete_elements m g (start (of a)) i (at c.close_round q ∷ rest) (omega (arith, len, b))
      (omega (arith, len, b)) all refl)
      (inl (s_closed 33 of_tuple (plus_tests (start (of a)) es) q rest (fine_if x p (plus_tests (start (of a)) es) all)
      ∙ ap (λ v. Ok (v, rest)) (as_tuple a es)))))

  complete_list : {x : Marks} {es : List Expr} {t : Bool} {ts : List Token} → Tests x es t ts →
      Meets x (suc p) (form (ex.List es)) (height (ex.List es)) → (q : Place) (rest : List Token) → length ts ≤ g →
      Reaches x (aim_list aim g p (ts ++ at c.close_square q ∷ rest)) (of (ex.List es)) rest
  complete_list (G.only {x = x} {a = a} {ts = ts} r) h q rest b =
      let all = subst (All x p) (tests_nil (start (of a))) (in_list x a [] h) in
      at_same x _ _ _ rest (s_list (ts ++ at c.close_square q ∷ rest) (begin (headed r) _))
      (then_reads x _ (list_rest aim g p) (of a) (at c.close_square q ∷ rest) _ rest
      (complete_next x a ts r none all _ b refl)
      (inl (ap (λ z. z >>= closed_at 35 p of_list) (s_elements_end g (start (of a)) (at c.close_square q ∷ rest) refl)
      ∙ s_closed 35 of_list (start (of a)) q rest (fine_if x p (start (of a)) all) ∙
      ap (λ v. Ok (v, rest)) (ap of_list (sym (tests_nil (start (of a)))) ∙ as_list a []))))
  complete_list (G.only_comma i {x = x} {a = a} {ts = ts} r) h q rest b =
      let len = length-append ts (at c.comma i ∷ []) in let pos = long (headed r) in
      let all = subst (All x p) (tests_nil (start (of a))) (in_list x a [] h) in
      at_same x _ _ _ rest (ap (aim_list aim g p) (append_assoc ts (at c.comma i ∷ []) (at c.close_square q ∷ rest)) ∙
      s_list (ts ++ at c.comma i ∷ at c.close_square q ∷ rest) (begin (headed r) _))
      (then_reads x _ (list_rest aim g p) (of a) (at c.comma i ∷ at c.close_square q ∷ rest) _ rest
      (complete_next x a ts r none all _ (omega (arith, len, b)) refl)
      (inl (ap (λ z. z >>= closed_at 35 p of_list)
      (s_elements_trailing g (start (of a)) i (at c.close_square q ∷ rest) (omega (arith, len, b))
      (fine_if x p (start (of a)) all) refl)
      ∙ s_closed 35 of_list (start (of a)) q rest (fine_if x p (start (of a)) all) ∙
      ap (λ v. Ok (v, rest)) (ap of_list (sym (tests_nil (start (of a)))) ∙ as_list a []))))
  complete_list (G.more_tests i {x = x} {a = a} {es = es} {b = t} {ts = ts} {us = us} r m) h q rest b =
      let len = length-append ts (at c.comma i ∷ us) in let all = in_list x a es h in
      at_same x _ _ _ rest (ap (aim_list aim g p) (append_assoc ts (at c.comma i ∷ us) (at c.close_square q ∷ rest)) ∙
      s_list (ts ++ (at c.comma i ∷ us ++ at c.close_square q ∷ rest)) (begin (headed r) _))
      (then_reads x _ (list_rest aim g p) (of a) (at c.comma i ∷ us ++ at c.close_square q ∷ rest) _ rest
      (complete_next x a ts r none (prefix x p (start (of a)) es all) _ (omega (arith, len, b)) refl)
      (then_reads x _ (closed_at 35 p of_list) (plus_tests (start (of a)) es) (at c.close_square q ∷ rest) _ rest
      (complete_elements m g (start (of a)) i (at c.close_square q ∷ rest) (omega (arith, len, b))
      (omega (arith, len, b)) all refl)
      (inl (s_closed 35 of_list (plus_tests (start (of a)) es) q rest (fine_if x p (plus_tests (start (of a)) es) all)
      ∙ ap (λ v. Ok (v, rest)) (as_list a es)))))

  -- ---- atoms

  -- what is no target is at most as high as what stands in brackets
  plain_low : (x : Marks) (f : Form) (h : ℕ) → f ≡ Plain → Meets x (suc p) f h → h ≤ p
  plain_low x f h e (inl i) = omega (arith, i)
  plain_low x f h e (inr i) = not_plain f i.1 e

  s_open : (q : Place) (us : List Token) → 0 < p → aim_atom aim g p c.open_round (at c.open_round q ∷ us) ≡ aim_round
      aim g p us
  s_open q us h = rw (le-ltb p 1 (omega (arith, h))) refl

  all_pos : (x : Marks) (v : Tall (List Expr)) → 0 < v.tall → All x p v → 0 < p
  all_pos x v h (inl i) = omega (arith, i)
  all_pos x v h (inr i) = omega (arith, i.2, h)

  complete_atom : {x : Marks} {n : ℕ} {a : Expr} {ts : List Token} → Is x n a ts → n ≡ 0 →
      Meets x (suc p) (form a) (height a) → (rest : List Token) → length ts ≤ g → stops n (first rest) ≡ true →
      Reaches x (aim_atom aim g p (first (ts ++ rest)) (ts ++ rest)) (of a) rest
  unfolding aim_round aim_list
  complete_atom (G.name x n q) e h rest b s = inl (ap (λ v. Ok (v, rest)) (as_name n))
  complete_atom (G.int x n q) e h rest b s = complete (G.int x n q) g p rest b (plain_low x _ _ (ff.form_int n) h) s
  complete_atom (G.strings {s = w} (G.one x m q)) e h rest b s =
      complete (G.strings (G.one x m q)) g p rest b (plain_low x _ _ (ff.form_str w) h) s
  complete_atom (G.strings {s = w} (G.more x m q r)) e h rest b s =
      complete (G.strings (G.more x m q r)) g p rest b (plain_low x _ _ (ff.form_str w) h) s
  complete_atom (G.strings {s = w} (G.unicode q)) e h rest b s =
      complete (G.strings (G.unicode q)) g p rest b (plain_low _ _ _ (ff.form_str w) h) s
  complete_atom (G.group i q {x = x} {a = a} {ts = ts} r) e h rest b s =
      let all = in_group x a h in
      at_same x _ _ _ rest (s_open i _ (all_pos x (start (of a)) (omega (arith, hh.height_pos a)) all) ∙
      ap (aim_round aim g p) (append_assoc ts (at c.close_round q ∷ []) rest))
      (complete_group r all q rest (omega (arith, b, length-append ts (at c.close_round q ∷ []))))
  complete_atom (G.unit x i q) e h rest b s =
      inl (s_open i _ (omega (arith, plain_low x _ _ ff.form_unit h, hh.height_tuple [])) ∙
      ap (λ v. Ok (v, rest)) as_unit)
  complete_atom (G.round i q {x = x} {es = es} {ts = ts} r) e h rest b s =
      at_same x _ _ _ rest (s_open i _ (low_tuple es (pos r) h) ∙
      ap (aim_round aim g p) (append_assoc ts (at c.close_round q ∷ []) rest))
      (complete_round r h q rest (omega (arith, b, length-append ts (at c.close_round q ∷ []))))
    where
      pos : {x : Marks} {es : List Expr} {ts : List Token} → Commas x es ts → 0 < tops es
      pos (G.lone i {a = a} r) = omega (arith, hh.height_pos a)
      pos (G.several i {a = a} r m) = omega (arith, hh.height_pos a)

      low_tuple : (es : List Expr) → 0 < tops es → Meets x (suc p) (form (ex.Tuple es)) (height (ex.Tuple es)) → 0 < p
      low_tuple es i (inl j) = omega (arith, i, j, hh.height_tuple es)
      low_tuple es i (inr j) = omega (arith, i, j.2, hh.height_tuple es)
  complete_atom (G.no_list x i q) e h rest b s = inl (ap (λ v. Ok (v, rest)) as_no_list)
  complete_atom (G.list i q {x = x} {es = es} {ts = ts} r) e h rest b s =
      at_same x _ _ _ rest (ap (aim_list aim g p) (append_assoc ts (at c.close_square q ∷ []) rest))
      (complete_list r h q rest (omega (arith, b, length-append ts (at c.close_square q ∷ []))))
  complete_atom (G.no_dict x i q) e h rest b s =
      complete (G.no_dict x i q) g p rest b (plain_low x _ _ (ff.form_dict []) h) s
  complete_atom (G.dict i q {x = x} {ps = ps} r) e h rest b s =
      complete (G.dict i q r) g p rest b (plain_low x _ _ (ff.form_dict ps) h) s
  complete_atom (G.float i) e h rest b s = complete (G.float i) g p rest b (plain_low _ _ _ ff.form_unit h) s
  complete_atom (G.long i) e h rest b s = complete (G.long i) g p rest b (plain_low _ _ _ ff.form_unit h) s
  complete_atom (G.backquote i) e h rest b s = complete (G.backquote i) g p rest b (plain_low _ _ _ ff.form_unit h) s
  complete_atom (G.yielded i q) e h rest b s =
      inr (
        left.Generator,
        _,
        refl,
        s_open i _
            (omega (arith, plain_low (Some left.Generator) _ _ ff.form_unit h, hh.height_tuple [])),
      )
  complete_atom (G.generator i q {a = a} {ts = ts} r) e h rest b s =
      let all = in_group (Some left.Comprehension) a h in
      at_same (Some left.Comprehension) _ _ _ rest
      (s_open i _ (all_pos (Some left.Comprehension) (start (of a)) (omega (arith, hh.height_pos a)) all) ∙
      ap (aim_round aim g p) (append_assoc ts (at c.for_ q ∷ []) rest) ∙
      s_round (ts ++ at c.for_ q ∷ rest) (begin (headed r) _))
      (then_reads (Some left.Comprehension) _ (round_rest aim g p) (of a) (at c.for_ q ∷ rest) _ rest
      (complete_next (Some left.Comprehension) a ts r none all _
      (omega (arith, b, length-append ts (at c.for_ q ∷ []))) refl)
      (inr (left.Comprehension, _, refl, refl)))
  complete_atom (G.comprehension i q {a = a} {ts = ts} r) e h rest b s =
      let all = subst (All (Some left.Comprehension) p) (tests_nil (start (of a)))
      (in_list (Some left.Comprehension) a [] h) in
      at_same (Some left.Comprehension) _ _ _ rest (ap (aim_list aim g p) (append_assoc ts (at c.for_ q ∷ []) rest) ∙
      s_list (ts ++ at c.for_ q ∷ rest) (begin (headed r) _))
      (then_reads (Some left.Comprehension) _ (list_rest aim g p) (of a) (at c.for_ q ∷ rest) _ rest
      (complete_next (Some left.Comprehension) a ts r none all _
      (omega (arith, b, length-append ts (at c.for_ q ∷ []))) refl)
      (inr (left.Comprehension, _, refl, refl)))
  complete_atom (G.set_of i q {a = a} r) e h rest b s =
      complete (G.set_of i q r) g p rest b (plain_low _ _ _ (ff.form_dict _) h) s
  complete_atom (G.dict_of i q q' r m) e h rest b s =
      complete (G.dict_of i q q' r m) g p rest b (plain_low _ _ _ (ff.form_dict _) h) s
  complete_atom (G.set i q r) e h rest b s = complete (G.set i q r) g p rest b (plain_low _ _ _ (ff.form_dict _) h) s
  complete_atom (G.set_one i q r) e h rest b s =
      complete (G.set_one i q r) g p rest b (plain_low _ _ _ (ff.form_dict _) h) s
  complete_atom (G.up n l r) e h rest b s = absurd (omega (arith, e))
  complete_atom (G.trail r m) e h rest b s = absurd (omega (arith, e))
  complete_atom (G.power i r m) e h rest b s = absurd (omega (arith, e))
  complete_atom (G.signed w i r) e h rest b s = absurd (omega (arith, e))
  complete_atom (G.chain l r m) e h rest b s = absurd (omega (arith, e))
  complete_atom (G.negated i r) e h rest b s = absurd (omega (arith, e))
  complete_atom (G.choice i q r m n) e h rest b s = absurd (omega (arith, e))
  complete_atom (G.lambda i) e h rest b s = absurd (omega (arith, e))

  -- ---- with trailers

  aim_trail : {x : Marks} {n : ℕ} {a : Expr} {ts : List Token} → Is x n a ts → n ≡ 1 →
      Meets x (suc p) (form a) (height a) → (rest : List Token) → length ts ≤ g → stops n (first rest) ≡ true →
      Reaches x (aim_atom aim g p (first (ts ++ rest)) (ts ++ rest) >>= trail_at (reads g p) g (suc p)) (of a) rest
  aim_trail (G.up n {x = x} {a = a} {ts = ts} l r) e h rest b s =
      let z : n ≡ 0 = omega (arith, e) in let s2 = subst (λ m. stops (suc m) (first rest) ≡ true) z s in
      then_reads x _ (trail_at (reads g p) g (suc p)) (of a) rest _ rest
      (complete_atom r z h rest b (stops_down n (first rest) s))
      (inl (trail_quiet (reads g p) g (suc p) (of a) rest (takes_not 0 (first rest) s2)))
  aim_trail (G.trail {x = x} {a = a} {rs = rs} {ts = ts} {us = us} r m) e h rest b s =
      let up = hh.height_trail a rs in let low = hh.height_pos a in let len = length-append ts us in let first' =
      trailers_first m rest in let tall = meets_low h in
      at_same x _ _ _ rest (ap (λ w. aim_atom aim g p (first w) w >>= trail_at (reads g p) g (suc p))
      (append_assoc ts us rest))
      (then_reads x _ (trail_at (reads g p) g (suc p)) (of a) (us ++ rest) _ rest
      (complete_atom r refl (inl (omega (arith, tall, up))) (us ++ rest) (omega (arith, len, b)) first'.1)
      (at_same x _ _ _ rest (s_trail (reads g p) g (suc p) (of a) (us ++ rest) first'.0 (omega (arith, tall, up)))
      (then_reads x _ (λ rs. Ok (of_trail (of a) rs.0, rs.1)) (plus_trailers (plain [] 0) rs) rest _ rest
      (complete_trailers m g p g (plain [] 0) rest (omega (arith, len, b)) (omega (arith, len, b))
      (omega (arith, tall, up)) (takes_not 0 (first rest) s))
      (inl (ap (λ v. Ok (v, rest)) (trail_value a m))))))
    where
      meets_low : Meets x (suc p) (form (ex.Trail a rs)) (height (ex.Trail a rs)) → height (ex.Trail a rs) ≤ suc p
      meets_low (inl i) = omega (arith, i)
      meets_low (inr i) = i.2
  aim_trail (G.chain l r m) e h rest b s = absurd (omega (arith, e, high l))
  aim_trail (G.name x n q) e h rest b s = absurd (omega (arith, e))
  aim_trail (G.int x n q) e h rest b s = absurd (omega (arith, e))
  aim_trail (G.strings r) e h rest b s = absurd (omega (arith, e))
  aim_trail (G.group i q r) e h rest b s = absurd (omega (arith, e))
  aim_trail (G.unit x i q) e h rest b s = absurd (omega (arith, e))
  aim_trail (G.round i q r) e h rest b s = absurd (omega (arith, e))
  aim_trail (G.no_list x i q) e h rest b s = absurd (omega (arith, e))
  aim_trail (G.list i q r) e h rest b s = absurd (omega (arith, e))
  aim_trail (G.no_dict x i q) e h rest b s = absurd (omega (arith, e))
  aim_trail (G.dict i q r) e h rest b s = absurd (omega (arith, e))
  aim_trail (G.power i r m) e h rest b s = absurd (omega (arith, e))
  aim_trail (G.signed w i r) e h rest b s = absurd (omega (arith, e))
  aim_trail (G.negated i r) e h rest b s = absurd (omega (arith, e))
  aim_trail (G.choice i q r m n) e h rest b s = absurd (omega (arith, e))
  aim_trail (G.float i) e h rest b s = absurd (omega (arith, e))
  aim_trail (G.long i) e h rest b s = absurd (omega (arith, e))
  aim_trail (G.backquote i) e h rest b s = absurd (omega (arith, e))
  aim_trail (G.lambda i) e h rest b s = absurd (omega (arith, e))
  aim_trail (G.yielded i q) e h rest b s = absurd (omega (arith, e))
  aim_trail (G.generator i q r) e h rest b s = absurd (omega (arith, e))
  aim_trail (G.comprehension i q r) e h rest b s = absurd (omega (arith, e))
  aim_trail (G.set_of i q r) e h rest b s = absurd (omega (arith, e))
  aim_trail (G.dict_of i q q' r m) e h rest b s = absurd (omega (arith, e))
  aim_trail (G.set i q r) e h rest b s = absurd (omega (arith, e))
  aim_trail (G.set_one i q r) e h rest b s = absurd (omega (arith, e))

pub complete_aim : (g d : ℕ) → CompleteAim g d (aim_at g d)
unfolding aim_at
complete_aim g zero x a ts rest is (inl h) b s = absurd (omega (arith, h))
complete_aim g zero x a ts rest is (inr h) b s = absurd (omega (arith, h.2, hh.height_pos a))
complete_aim g (suc d) x a ts rest is h b s = aim_trail g d (aim_at g d) (complete_aim g d) is refl h rest b s
