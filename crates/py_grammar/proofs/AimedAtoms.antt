-- What reading a target tells.
use Rattle.std.proofs.Common.{◌≡◌, ℕ, zero, suc, ◌+◌, ◌≤◌, ◌==◌, nat_lt, max, Bool, true, false, ◌||◌, List, [], ◌∷◌, ◌++◌, length, Err, Some, None, inl, inr, refl, sym, ap, ◌∙◌, subst, append_assoc, arith, if◌then◌else◌}
use Rattle.py_tokens.specs.declared.token.Token.{Token}
use Rattle.py_tokens.specs.declared.token.TokenKind.{TokenKind}
use Rattle.py_tokens.specs.declared.token.TokenKind.TheVariants as k
use Rattle.py_tokens.specs.declared.token.Other.TheVariants as other
use Rattle.py_tokens.specs.declared.token.Place.{Place}
use Rattle.py_tokens.specs.Place.{token_at as at}
use Rattle.py_tree.specs.declared.expr.Expr.{Expr}
use Rattle.py_tree.specs.declared.expr.Expr.TheVariants as ex
use Rattle.py_tree.specs.declared.form.Form.{Form}
use Rattle.py_tree.specs.declared.form.Form.TheVariants.{Many}
use Rattle.py_tree.specs.Form.{is_target, form}
use Rattle.py_tree.specs.Height.{height}
use Rattle.py_tree.proofs.Heights as hh
use Rattle.py_tree.proofs.Forms as ff
use Rattle.py_base.specs.declared.refusal.Construct.TheVariants as left
use Rattle.py_grammar.specs.declared.fault.Fault.TheVariants.{Deep}
use Rattle.py_grammar.specs.Codes as c
use Rattle.py_grammar.specs.Grammar as G
use Rattle.py_grammar.specs.Grammar.{Marks, Is}
use Rattle.py_grammar.specs.declared.tall.Tall.{Tall}
use Rattle.py_grammar.specs.inner.Tall.{none, start as start', joined, of_group, of_tuple, of_list}
use Rattle.py_grammar.specs.inner.Reading.{Test, ◌>>=◌, first, rest, is_op, is_keyword, starts, left_at, no_start, trail_at, reads}
use Rattle.py_grammar.specs.inner.Aiming.{closed_at, round_rest, aim_round, list_rest, aim_list, aim_atom, aim_at}
use Rattle.py_grammar.proofs.Steps.{of}
use Rattle.py_grammar.proofs.Facts.{no}
use Rattle.py_grammar.proofs.ReadSteps.{tests_nil}
use Rattle.py_grammar.proofs.Values.{plus_tests, as_name, as_group, as_unit, as_no_list, as_tuple, as_list}
use Rattle.py_grammar.proofs.Told.{any, low, marked, Opens, more, Told, told_done, told_refused, there, told_left, told_same, told_if, told_deep, told_post, told_take, told_word, told_bind, told_kind, on, here, move}
use Rattle.py_grammar.proofs.Tells.{only_keyword, only_op, p0, free, length_after, then_tests, then_commas, Commaed, Following}
use Rattle.py_grammar.proofs.Atoms.{told_no_start}
use Rattle.py_grammar.proofs.Levels.{unders, start, refuses}
use Rattle.py_grammar.proofs.Aimed.{Suits, AimHole, ReadAim, TellAim, told_high, tell_aimed_trail}
use Rattle.py_grammar.proofs.AimedInside.{NextRead, ElementsRead, tell_next, tell_elements, tell_commas, tell_closed}

-- An atom was taken, which is a target or may become one.
abbrev pub AtomRead : ℕ → Tall Expr → List Token → Type 0
AtomRead d v fs = (a : Expr) × (v ≡ of a) × ((x : Marks) → Is x 0 a fs) × Suits d (form a) (height a)

-- a node round tests
up_suits : (p : ℕ) (v : Tall (List Expr)) (f : Form) (h : ℕ) → Suits p v.form v.tall → f ≡ v.form → h ≡ v.tall + 1 →
    Suits (suc p) f h
up_suits p v f h (inl q) e i = inl (subst (λ z. is_target false z ≡ true) (sym e) q.0, omega (arith, q.1, i))
up_suits p v f h (inr q) e i = inr (omega (arith, q, i))

group_suits : (p : ℕ) (a : Expr) → Suits p (joined (Many true true) (form a)) (max 0 (height a)) →
    Suits (suc p) (form (ex.Group a)) (height (ex.Group a))
group_suits p a s = up_suits p (start' (of a)) (form (ex.Group a)) (height (ex.Group a)) s
    (sym (ap (λ z. z.form) (as_group a))) (omega (arith, hh.height_group a))

tuple_suits : (p : ℕ) (a : Expr) (es : List Expr) (v : Tall (List Expr)) → v ≡ plus_tests (start' (of a)) es →
    Suits p v.form v.tall → Suits (suc p) (form (ex.Tuple (a ∷ es))) (height (ex.Tuple (a ∷ es)))
tuple_suits p a es v e s = up_suits p v (form (ex.Tuple (a ∷ es))) (height (ex.Tuple (a ∷ es))) s
    (sym (ap (λ z. z.form) (as_tuple a es)) ∙ ap (λ z. z.form) (sym e)) (sym (ap (λ z. z.tall) (as_tuple a es)) ∙
    ap (λ z. z.tall + 1) (sym e))

list_suits : (p : ℕ) (a : Expr) (es : List Expr) (v : Tall (List Expr)) → v ≡ plus_tests (start' (of a)) es →
    Suits p v.form v.tall → Suits (suc p) (form (ex.List (a ∷ es))) (height (ex.List (a ∷ es)))
list_suits p a es v e s = up_suits p v (form (ex.List (a ∷ es))) (height (ex.List (a ∷ es))) s
    (sym (ap (λ z. z.form) (as_list a es)) ∙ ap (λ z. z.form) (sym e)) (sym (ap (λ z. z.tall) (as_list a es)) ∙
    ap (λ z. z.tall + 1) (sym e))

empty_suits : (p : ℕ) → Suits (suc p) (form (ex.List [])) (height (ex.List []))
empty_suits p = inl (rw (ff.form_list []) refl, omega (arith, hh.height_list []))

unit_suits : (p : ℕ) → 1 ≤ p → Suits (suc p) (form (ex.Tuple [])) (height (ex.Tuple []))
unit_suits p z = inr (omega (arith, hh.height_tuple [], z))

name_suits : (p : ℕ) (n : List ℕ) → Suits (suc p) (form (ex.Name n)) (height (ex.Name n))
name_suits p n = inl (rw (ff.form_name n) refl, omega (arith, hh.height_name n))

module _ (w y g p : ℕ) (aim' aim : Test) (tell : TellAim y g p aim' aim) where
  tell_round_rest : (i : Place) (pre : List Token) (a : Expr) (fs ts : List Token) → length ts ≤ g →
      ((x : Marks) → Is x 14 a fs) → height a ≤ p → Opens low ((pre ++ at c.open_round i ∷ []) ++ fs) →
      AimHole 0 (suc p) pre →
      Told y ((pre ++ at c.open_round i ∷ []) ++ fs) ts (λ us. round_rest aim' (more w g) (more y p) (of a, us))
      (λ v us. AtomRead (suc p) v (at c.open_round i ∷ (fs ++ us))) (round_rest aim g p (of a, ts))
  tell_round_rest i pre a fs ts l is h o hole =
      told_if (is_op 33)
      (λ e. tell_closed w y g p aim' aim tell 33 (λ es. of_group (of a)) (start' (of a))
      ((pre ++ at c.open_round i ∷ []) ++ fs) ts (omega (arith, h)) o
      (λ j. here (simp append_assoc) (hole any (ex.Group a) _ (G.group i j (is None)) free))
      (λ j s. (ex.Group a, as_group a, (λ x. G.group i j (is x)), group_suits p a s)))
      (λ e1. told_if (is_op 38)
      (λ e. told_bind (closed_at 33 (more y p) of_tuple) (closed_at 33 p of_tuple)
      (ElementsRead w y g p aim' aim tell Commaed (start' (of a)) ((pre ++ at c.open_round i ∷ []) ++ fs))
      (tell_commas w y g p aim' aim tell g (start' (of a)) ((pre ++ at c.open_round i ∷ []) ++ fs) ts (_, _, refl)
      (omega (arith, h)) l (omega arith) o e
      (λ m es b vs r j. on (at c.close_round p0 ∷ []) (simp append_assoc)
      (hole m (ex.Tuple (a ∷ es)) _ (G.round i p0 (then_commas (is m.marks) r))
      (λ z. tuple_suits p a es _ refl (j z)))))
      (λ v gs rest' e2 r. tell_closed w y g p aim' aim tell 33 of_tuple v
      (((pre ++ at c.open_round i ∷ []) ++ fs) ++ gs) rest' r.4 r.5
      (λ j. here (simp append_assoc) (hole any (ex.Tuple (a ∷ r.0)) _ (G.round i j (then_commas (is None) (r.3 None)))
      free))
      (λ j s. (
        ex.Tuple (a ∷ r.0),
        ap of_tuple r.2 ∙ as_tuple a r.0,
        (λ x. move (Is x 0 _) (simp append_assoc) (G.round i j (then_commas (is x) (r.3 x)))),
        tuple_suits p a r.0 v r.2 s,
      ))))
      (λ e2. told_word (is_keyword 13) c.for_ (only_keyword 13) refl
      (λ q us e. told_left c.for_ (ap first e) o
      (λ j. here (simp append_assoc)
      (hole (marked left.Comprehension) (ex.Group a) _ (G.generator i j (is (Some left.Comprehension))) free)))
      (λ e3. told_refused o)))

  tell_round : (i : Place) (pre ts : List Token) → 1 ≤ p → length ts ≤ g → AimHole 0 (suc p) pre →
      Told y (pre ++ at c.open_round i ∷ []) ts (aim_round aim' (more w g) (more y p))
      (λ v us. AtomRead (suc p) v (at c.open_round i ∷ us)) (aim_round aim g p ts)
  unfolding aim_round
  tell_round i pre ts z l hole =
      let o : Opens low (pre ++ at c.open_round i ∷ []) =
      on (at c.close_round p0 ∷ []) (simp append_assoc)
      (hole low (ex.Tuple []) _ (G.unit None i p0) (λ b. unit_suits p z)) in
      told_word (is_op 33) c.close_round (only_op 33) refl
      (λ q us e. rw e (told_take (told_done (ex.Tuple [], as_unit, (λ x. G.unit x i q), unit_suits p z))))
      (λ e1. told_word (is_keyword 30) c.yield_ (only_keyword 30) refl
      (λ q us e. told_left c.yield_ (ap first e) o
      (λ j. here (simp append_assoc) (hole (marked left.Generator) (ex.Tuple []) _ (G.yielded i j) free)))
      (λ e2. told_bind (round_rest aim' (more w g) (more y p)) (round_rest aim g p)
      (NextRead p (pre ++ at c.open_round i ∷ []))
      (tell_next w y g p aim' aim tell none (true, true, refl) (inl (refl, omega arith))
      (pre ++ at c.open_round i ∷ []) ts l o
      (λ m a us r h. on (at c.close_round p0 ∷ []) (simp append_assoc)
      (hole m (ex.Group a) _ (G.group i p0 r) (λ b. group_suits p a (h b)))))
      (λ v fs rest' e r. rw r.1 (tell_round_rest i pre r.0 fs rest' (omega (arith, l, length_after ts fs rest' e)) r.2
      r.3 r.4 hole))))

  tell_list_rest : (i : Place) (pre : List Token) (a : Expr) (fs ts : List Token) → length ts ≤ g →
      ((x : Marks) → Is x 14 a fs) → height a ≤ p → Opens low ((pre ++ at c.open_square i ∷ []) ++ fs) →
      AimHole 0 (suc p) pre →
      Told y ((pre ++ at c.open_square i ∷ []) ++ fs) ts (λ us. list_rest aim' (more w g) (more y p) (of a, us))
      (λ v us. AtomRead (suc p) v (at c.open_square i ∷ (fs ++ us))) (list_rest aim g p (of a, ts))
  tell_list_rest i pre a fs ts l is h o hole =
      told_word (is_keyword 13) c.for_ (only_keyword 13) refl
      (λ q us e. told_left c.for_ (ap first e) o
      (λ j. here (simp append_assoc)
      (hole (marked left.Comprehension) (ex.List (a ∷ [])) _ (G.comprehension i j (is (Some left.Comprehension)))
      free)))
      (λ e1. told_bind (closed_at 35 (more y p) of_list) (closed_at 35 p of_list)
      (ElementsRead w y g p aim' aim tell Following (start' (of a)) ((pre ++ at c.open_square i ∷ []) ++ fs))
      (tell_elements w y g p aim' aim tell g (start' (of a)) ((pre ++ at c.open_square i ∷ []) ++ fs) ts (_, _, refl)
      (omega (arith, h)) l (omega arith) o
      (λ m es b vs r j. on (at c.close_square p0 ∷ []) (simp append_assoc)
      (hole m (ex.List (a ∷ es)) _ (G.list i p0 (then_tests (is m.marks) r))
      (λ z. list_suits p a es _ refl (j z)))))
      (λ v gs rest' e2 r. tell_closed w y g p aim' aim tell 35 of_list v
      (((pre ++ at c.open_square i ∷ []) ++ fs) ++ gs) rest' r.4 r.5
      (λ j. here (simp append_assoc) (hole any (ex.List (a ∷ r.0)) _ (G.list i j (then_tests (is None) (r.3 None)))
      free))
      (λ j s. (
        ex.List (a ∷ r.0),
        ap of_list r.2 ∙ as_list a r.0,
        (λ x. move (Is x 0 _) (simp append_assoc) (G.list i j (then_tests (is x) (r.3 x)))),
        list_suits p a r.0 v r.2 s,
      ))))

  tell_list : (i : Place) (pre ts : List Token) → length ts ≤ g → AimHole 0 (suc p) pre →
      Told y (pre ++ at c.open_square i ∷ []) ts (aim_list aim' (more w g) (more y p))
      (λ v us. AtomRead (suc p) v (at c.open_square i ∷ us)) (aim_list aim g p ts)
  unfolding aim_list
  tell_list i pre ts l hole =
      let o : Opens low (pre ++ at c.open_square i ∷ []) =
      on (at c.close_square p0 ∷ []) (simp append_assoc)
      (hole low (ex.List []) _ (G.no_list None i p0) (λ b. empty_suits p)) in
      told_word (is_op 35) c.close_square (only_op 35) refl
      (λ q us e. rw e (told_take (told_done (ex.List [], as_no_list, (λ x. G.no_list x i q), empty_suits p))))
      (λ e1. told_bind (list_rest aim' (more w g) (more y p)) (list_rest aim g p)
      (NextRead p (pre ++ at c.open_square i ∷ []))
      (tell_next w y g p aim' aim tell none (true, true, refl) (inl (refl, omega arith))
      (pre ++ at c.open_square i ∷ []) ts l o
      (λ m a us r h. on (at c.close_square p0 ∷ []) (simp append_assoc)
      (hole m (ex.List (a ∷ [])) _ (G.list i p0 (G.only r))
      (λ b. list_suits p a [] (start' (of a)) (sym (tests_nil (start' (of a)))) (h b)))))
      (λ v fs rest' e r. rw r.1 (tell_list_rest i pre r.0 fs rest' (omega (arith, l, length_after ts fs rest' e)) r.2
      r.3 r.4 hole)))

  tell_plain : (pre ts : List Token) → length ts ≤ g → Opens low pre → AimHole 0 (suc p) pre →
      Told y pre ts ((reads (more w g) (more y p)).read 0) (AtomRead (suc p)) ((reads g p).read 0 ts)
  tell_plain pre ts l o hole = told_post (λ v fs r. (r.0, r.1, r.2, inr (omega (arith, r.3))))
      ((unders w y g p).read 0 (omega arith) pre ts l o (λ m a us r h. hole m a us r (λ b. inr (omega (arith, h b)))))

  tell_op : (n : ℕ) (pre ts : List Token) → first ts ≡ k.Op n → length ts ≤ g → Opens low pre → AimHole 0 (suc p) pre →
      Told y pre ts (aim_atom aim' (more w g) (more y p) (k.Op n)) (AtomRead (suc p)) (aim_atom aim g p (k.Op n) ts)
  tell_op n pre ts q l o hole = go (n == 32) (n == 34) refl refl
    where
      is_the : (m : ℕ) → (n == m) ≡ true → first ts ≡ k.Op m
      is_the m e = q ∙ ap (λ z. k.Op z) (grind (arith, e))

      go : (a b : Bool) → (n == 32) ≡ a → (n == 34) ≡ b → Told y pre ts (aim_atom aim' (more w g) (more y p) (k.Op n))
          (AtomRead (suc p)) (aim_atom aim g p (k.Op n) ts)
      go true b i j = let h = there ts c.open_round (is_the 32 i) (λ z. cc) in
          told_same {X' = λ us. if nat_lt (more y p) 1 then Err (Deep, us) else aim_round aim' (more w g) (more y p)
          (rest us)} {q = if nat_lt p 1 then Err (Deep, ts) else aim_round aim g p (rest ts)} (rw i refl)
          (λ us s. rw i refl)
          (told_deep p 1 c.open_round (is_the 32 i) o
          (λ j2. on (at c.close_round p0 ∷ []) (simp append_assoc)
          (hole any (ex.Tuple []) _ (G.unit None j2 p0) free))
          (λ z. rw h.2 (told_take (tell_round h.0 pre h.1 z (omega (arith, l, ap length h.2)) hole))))
      go false true i j = let h = there ts c.open_square (is_the 34 j) (λ z. cc) in
          told_same {X' = λ us. aim_list aim' (more w g) (more y p) (rest us)} {q = aim_list aim g p (rest ts)}
          (rw i (rw j refl)) (λ us s. rw i (rw j refl))
          (rw h.2 (told_take (tell_list h.0 pre h.1 (omega (arith, l, ap length h.2)) hole)))
      go false false i j = told_same {X' = (reads (more w g) (more y p)).read 0} {q = (reads g p).read 0 ts}
          (rw i (rw j refl)) (λ us s. rw i (rw j refl)) (tell_plain pre ts l o hole)

  pub tell_aimed_atom : (pre ts : List Token) → length ts ≤ g → Opens low pre → AimHole 0 (suc p) pre →
      Told y pre ts (λ us. aim_atom aim' (more w g) (more y p) (first us) us) (AtomRead (suc p))
      (aim_atom aim g p (first ts) ts)
  tell_aimed_atom pre ts l o hole = told_kind (λ κ us. aim_atom aim' (more w g) (more y p) κ us) (go (first ts) refl)
    where
      go : (κ : TokenKind) → first ts ≡ κ → Told y pre ts (aim_atom aim' (more w g) (more y p) κ) (AtomRead (suc p))
          (aim_atom aim g p κ ts)
      go (k.Name n) q = let h = there ts (k.Name n) q (λ z. cc) in
          rw h.2 (told_take (told_done (ex.Name n, as_name n, (λ x. G.name x n h.0), name_suits p n)))
      go (k.Op n) q = tell_op n pre ts q l o hole
      go (k.Int n) q = tell_plain pre ts l o hole
      go (k.Str n) q = tell_plain pre ts l o hole
      go (k.Keyword n) q = tell_plain pre ts l o hole
      go k.Newline q = tell_plain pre ts l o hole
      go k.Indent q = tell_plain pre ts l o hole
      go k.Dedent q = tell_plain pre ts l o hole
      go k.End q = tell_plain pre ts l o hole
      go (k.Other x) q = tell_plain pre ts l o hole

-- ---- where nothing begins

plain_none : (g d : ℕ) (us : List Token) → starts 0 (first us) ≡ false →
    (reads g d).read 0 us ≡ Err (no_start (left_at 0 (first us)), us)
unfolding reads
plain_none g zero us e = rw e refl
plain_none g (suc d) us e = refuses 0 (omega arith) g d us e

or_no_left : (a b : Bool) → (a || b) ≡ false → a ≡ false
or_no_left true b h = no h
or_no_left false b h = refl

or_no_right : (a b : Bool) → (a || b) ≡ false → b ≡ false
or_no_right true b h = no h
or_no_right false b h = h

low_op : (m : ℕ) → starts 1 (k.Op m) ≡ false → starts 0 (k.Op m) ≡ false
low_op m h = h

atom_none : (aim : Test) (g d : ℕ) (κ : TokenKind) (us : List Token) → first us ≡ κ → starts 1 κ ≡ false →
    aim_atom aim g d κ us ≡ Err (no_start (left_at 1 κ), us)
atom_none aim g d (k.Name n) us q h = no h
atom_none aim g d (k.Int n) us q h = no h
atom_none aim g d (k.Str n) us q h = no h
atom_none aim g d (k.Op m) us q h = rw (or_no_left (m == 32) _ h)
    (rw (or_no_left (m == 34) _ (or_no_right (m == 32) _ h)) (plain_none g d us (ap (starts 0) q ∙ low_op m h) ∙
    ap (λ z. Err (no_start (left_at 0 z), us)) q))
atom_none aim g d (k.Keyword m) us q h = plain_none g d us (ap (starts 0) q) ∙
    ap (λ z. Err (no_start (left_at 0 z), us)) q
atom_none aim g d k.Newline us q h = plain_none g d us (ap (starts 0) q) ∙ ap (λ z. Err (no_start (left_at 0 z), us)) q
atom_none aim g d k.Indent us q h = plain_none g d us (ap (starts 0) q) ∙ ap (λ z. Err (no_start (left_at 0 z), us)) q
atom_none aim g d k.Dedent us q h = plain_none g d us (ap (starts 0) q) ∙ ap (λ z. Err (no_start (left_at 0 z), us)) q
atom_none aim g d k.End us q h = plain_none g d us (ap (starts 0) q) ∙ ap (λ z. Err (no_start (left_at 0 z), us)) q
atom_none aim g d (k.Other other.Float) us q h = plain_none g d us (ap (starts 0) q) ∙
    ap (λ z. Err (no_start (left_at 0 z), us)) q
atom_none aim g d (k.Other other.Long) us q h = plain_none g d us (ap (starts 0) q) ∙
    ap (λ z. Err (no_start (left_at 0 z), us)) q
atom_none aim g d (k.Other other.Unicode) us q h = plain_none g d us (ap (starts 0) q) ∙
    ap (λ z. Err (no_start (left_at 0 z), us)) q

pub aim_none : (g d : ℕ) (us : List Token) → starts 1 (first us) ≡ false →
    aim_at g d us ≡ Err (no_start (left_at 1 (first us)), us)
unfolding aim_at
aim_none g zero us h = rw h refl
aim_none g (suc d) us h = ap (λ r. r >>= trail_at (reads g d) g (suc d))
    (atom_none (aim_at g d) g d (first us) us refl h)

-- ---- with a budget

aim_zero : (w y g : ℕ) → TellAim y g 0 (aim_at (more w g) y) (aim_at g 0)
unfolding aim_at
aim_zero w y g pre ts l o hole = go (starts 1 (first ts)) refl
  where
    deep_at : (g2 : ℕ) (us : List Token) → starts 1 (first us) ≡ true → aim_at g2 0 us ≡ Err (Deep, us)
    deep_at g2 us e = rw e refl

    go : (b : Bool) → starts 1 (first ts) ≡ b → Told y pre ts (aim_at (more w g) y) (ReadAim 0 pre) (aim_at g 0 ts)
    go true e = told_same {X' = aim_at (more w g) y} {q = Err (Deep, ts)} (deep_at g ts e) (λ us s. refl)
        (told_high (first ts) refl o (λ i. let s = start 1 (first ts) (omega arith) e i in
        on s.0 (simp append_assoc) (hole any s.1 _ s.2 free))
        (λ z us s. rw z (deep_at (more w g) us (ap (starts 1) s ∙ e))))
    go false e = told_same {X' = λ us. Err (no_start (left_at 1 (first ts)), us)}
        {q = Err (no_start (left_at 1 (first ts)), ts)} (aim_none g 0 ts e)
        (λ us s. aim_none (more w g) y us (ap (starts 1) s ∙ e) ∙ ap (λ z. Err (no_start (left_at 1 z), us)) s)
        (told_no_start 1 0 (first ts) (omega arith) refl o
        (λ m a us r h. hole m a us r (λ b. absurd (omega (arith, h b, hh.height_pos a)))))

pub tell_aim : (w y g d : ℕ) → TellAim y g d (aim_at (more w g) (more y d)) (aim_at g d)
unfolding aim_at
tell_aim w y g zero pre ts l o hole = aim_zero w y g pre ts l o hole
tell_aim w y g (suc d) pre ts l o hole =
    told_bind (trail_at (reads (more w g) (more y d)) (more w g) (more y (suc d))) (trail_at (reads g d) g (suc d))
    (AtomRead (suc d))
    (tell_aimed_atom w y g d (aim_at (more w g) (more y d)) (aim_at g d) (tell_aim w y g d) pre ts l o
    (λ m a us r h. hole m a us (G.up 0 (omega arith) r) h))
    (λ v fs rest' e r. rw r.1 (tell_aimed_trail w y g d (reads (more w g) (more y d)) (reads g d) (unders w y g d) pre
    r.0 fs rest' (omega (arith, l, length_after ts fs rest' e)) r.2 r.3 hole))
