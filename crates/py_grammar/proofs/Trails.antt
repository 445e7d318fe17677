-- What reading arguments, slices and trailers tells.
use Rattle.std.proofs.Common.{◌≡◌, ℕ, zero, suc, ◌+◌, ◌<◌, ◌≤◌, max, Bool, true, false, ◌&&◌, ◌||◌, List, [], ◌∷◌, ◌++◌, length, Ok, Option, Some, None, inl, inr, refl, sym, ap, ◌∙◌, subst, append_assoc, append-nil, arith, length-append, if◌then◌else◌}
use Rattle.std.proofs.lemmas.Bool.{and_parts}
use Rattle.py_tokens.specs.declared.token.Token.{Token}
use Rattle.py_tokens.specs.declared.token.TokenKind.{TokenKind}
use Rattle.py_tokens.specs.declared.token.TokenKind.TheVariants as k
use Rattle.py_tokens.specs.declared.token.Place.{Place}
use Rattle.py_tokens.specs.Place.{token_at as at}
use Rattle.py_tree.specs.declared.expr.Expr.{Expr}
use Rattle.py_tree.specs.declared.expr.Expr.TheVariants as ex
use Rattle.py_tree.proofs.Forms as ff
use Rattle.py_tree.specs.Form.{last_form}
use Rattle.std.proofs.Common.{map}
use Rattle.py_tree.specs.declared.form.Form.{Form}
use Rattle.py_tree.specs.declared.form.Form.TheVariants.{Plain}
use Rattle.py_tree.specs.declared.expr.Named.{Named}
use Rattle.py_tree.specs.declared.expr.Trailer.{Trailer}
use Rattle.py_tree.specs.declared.expr.Trailer.TheVariants as t
use Rattle.py_tree.specs.Height.{height, tops, tops_named, tops_trailers, height_trailer, top_or}
use Rattle.py_tree.specs.Form.{form, form_trailer}
use Rattle.py_tree.proofs.Heights as hh
use Rattle.py_base.specs.declared.refusal.Construct.TheVariants as left
use Rattle.py_grammar.specs.Codes as c
use Rattle.py_grammar.specs.Grammar as G
use Rattle.py_grammar.specs.Grammar.{Marks, Is, Strings, Tests, Commas, Exprs, Pairs, Links, Trailers, Trails, Maybe, Args}
use Rattle.py_grammar.specs.declared.tall.Tall.{Tall}
use Rattle.py_grammar.specs.inner.Tall.{plain, push, none, push_named, push_trailer, of_trail, of_index, of_call}
use Rattle.py_grammar.specs.inner.Reading.{named_at, args_at, arg_by, keyed, is_bare, is_none, slice_close, slice_at, index_close, subscript_at, call_at, trailer_at, trailers_at, name_of, Test, ◌>>=◌, Below, first, is_op, is_keyword, comes, is_some, trail_at, trails}
use Rattle.py_grammar.proofs.Steps.{of}
use Rattle.py_grammar.proofs.Facts.{no}
use Rattle.py_grammar.proofs.ReadSteps.{tests_nil, named_nil, trailers_nil, s_trailers_end, s_named_end, trail_long}
use Rattle.py_grammar.proofs.Begin.{long, headed}
use Rattle.py_grammar.proofs.Values.{plus_tests, push_tests, plus_named, push_nameds, plus_trailers, push_trailers, of_r, of_or, as_trail, as_attribute, as_index, as_slice, as_call}
use Rattle.py_grammar.proofs.Told.{Mode, any, low, marked, Fits, Opens, near, with_none, more, Told, told_done, told_ends, told_left, told_as, told_same, told_if, told_deep, told_post, told_take, told_word, told_bind, told_map, told_kind, told_pre, on, here, move, there}
use Rattle.py_grammar.proofs.Tells.{only_op, only_keyword, Hole, Read, Tell, told_read, told_need, told_need_name, only_name, p0, word, is_word, free, length_after, then_exprs}
use Rattle.py_grammar.proofs.Atoms.{Unders, either}

-- ---- what is a bare name

trailer_bare : {x : Marks} {r : Trailer} {ts : List Token} → Trails x r ts → is_bare (form_trailer r) ≡ false
trailer_bare (G.attribute x n p q) = ap is_bare (ff.form_attribute n)
trailer_bare (G.index p q {a = a} r) = ap is_bare (ff.form_index a)
trailer_bare (G.slice p q r {a = a} {b = b} i j) = ap is_bare (ff.form_slice a b)
trailer_bare (G.no_call x p q) = ap is_bare (ff.form_call [] [])
trailer_bare (G.call p q {es = es} {ns = ns} r) = ap is_bare (ff.form_call es ns)
trailer_bare (G.generator_call p q {a = a} r) = ap is_bare (ff.form_call (a ∷ []) [])
trailer_bare (G.long_slice p q r {a = a} {b = b} i j) = ap is_bare (ff.form_slice a b)
trailer_bare (G.slices p q r {a = a} {b = b} i j) = ap is_bare (ff.form_slice a b)

trailers_bare : {x : Marks} {rs : List Trailer} {ts : List Token} → Trailers x rs ts →
    is_bare (last_form (map form_trailer rs)) ≡ false
trailers_bare (G.last r) = trailer_bare r
trailers_bare (G.more_trailers r (G.last q)) = trailer_bare q
trailers_bare (G.more_trailers r (G.more_trailers q w)) = trailers_bare (G.more_trailers q w)

commas_bare : {x : Marks} {es : List Expr} {ts : List Token} → Commas x es ts → is_bare (form (ex.Tuple es)) ≡ false
commas_bare (G.lone p {a = a} q) = ap is_bare (ff.form_tuple a [])
commas_bare (G.several p {a = a} {es = es} q r) = ap is_bare (ff.form_tuple a es)

abbrev BareName : Expr → List Token → Type 0
BareName a ts = (n : List ℕ) × (p : Place) × (a ≡ ex.Name n) × (ts ≡ at (k.Name n) p ∷ [])

bare_name : {x : Marks} {n : ℕ} {a : Expr} {ts : List Token} → Is x n a ts → is_bare (form a) ≡ true → BareName a ts
bare_name (G.up n l p) b = bare_name p b
bare_name (G.name x n p) b = (n, p, refl, refl)
bare_name (G.int x n p) b = no (sym b ∙ ap is_bare (ff.form_int n))
bare_name (G.strings {s = s} p) b = no (sym b ∙ ap is_bare (ff.form_str s))
bare_name (G.group p q {a = a} r) b = no (sym b ∙ ap is_bare (ff.form_group a))
bare_name (G.unit x p q) b = no (sym b ∙ ap is_bare ff.form_unit)
bare_name (G.round p q r) b = no (sym b ∙ commas_bare r)
bare_name (G.no_list x p q) b = no (sym b ∙ ap is_bare (ff.form_list []))
bare_name (G.list p q {es = es} r) b = no (sym b ∙ ap is_bare (ff.form_list es))
bare_name (G.no_dict x p q) b = no (sym b ∙ ap is_bare (ff.form_dict []))
bare_name (G.dict p q {ps = ps} r) b = no (sym b ∙ ap is_bare (ff.form_dict ps))
bare_name (G.trail {a = a} {rs = rs} p q) b = no (sym b ∙ ap is_bare (ff.form_trail a rs) ∙ trailers_bare q)
bare_name (G.power p {a = a} {b = a'} q r) b = no (sym b ∙ ap is_bare (ff.form_power a a'))
bare_name (G.signed s p {a = a} q) b = no (sym b ∙ ap is_bare (ff.form_unary s a))
bare_name (G.chain l {a = a} {ls = ls} q r) b = no (sym b ∙ ap is_bare (ff.form_chain l a ls))
bare_name (G.negated p {a = a} q) b = no (sym b ∙ ap is_bare (ff.form_not a))
bare_name (G.choice p q {a = a} {b = a'} {d = a''} i j m) b = no (sym b ∙ ap is_bare (ff.form_choice a a' a''))
bare_name (G.float p) b = no (sym b ∙ ap is_bare ff.form_unit)
bare_name (G.long p) b = no (sym b ∙ ap is_bare ff.form_unit)
bare_name (G.backquote p) b = no (sym b ∙ ap is_bare ff.form_unit)
bare_name (G.lambda p) b = no (sym b ∙ ap is_bare ff.form_unit)
bare_name (G.yielded p q) b = no (sym b ∙ ap is_bare ff.form_unit)
bare_name (G.generator p q {a = a} r) b = no (sym b ∙ ap is_bare (ff.form_group a))
bare_name (G.comprehension p q {a = a} r) b = no (sym b ∙ ap is_bare (ff.form_list (a ∷ [])))
bare_name (G.set_of p q {a = a} r) b = no (sym b ∙ ap is_bare (ff.form_dict (record { key = a; value = a } ∷ [])))
bare_name (G.dict_of p q r {a = a} {b = a'} i j) b =
    no (sym b ∙ ap is_bare (ff.form_dict (record { key = a; value = a' } ∷ [])))
bare_name (G.set p q {a = a} r) b = no (sym b ∙ ap is_bare (ff.form_dict (record { key = a; value = a } ∷ [])))
bare_name (G.set_one p q {a = a} r) b = no (sym b ∙ ap is_bare (ff.form_dict (record { key = a; value = a } ∷ [])))

-- ---- arguments

pub data FollowNamed : Marks → List Named → List Token → Type 0 where
  no_named : (x : Marks) → FollowNamed x [] []
  named_comma : (x : Marks) (p : Place) → FollowNamed x [] (at c.comma p ∷ [])
  further_named : (p : Place) {x : Marks} {ns : List Named} {us : List Token} → Args x [] ns us →
      FollowNamed x ns (at c.comma p ∷ us)

then_named : {x : Marks} {a : Expr} {ts : List Token} (n : List ℕ) (p q : Place) → Is x 14 a ts →
    {ns : List Named} {us : List Token} → FollowNamed x ns us →
    Args x [] (record { name = n; value = a } ∷ ns) (at (k.Name n) p ∷ at c.assign q ∷ (ts ++ us))
then_named {x = x} {a = a} {ts = ts} n p q i (no_named _) =
    move (λ z. Args x [] (record { name = n; value = a } ∷ []) (at (k.Name n) p ∷ at c.assign q ∷ z))
    (sym (append-nil ts)) (G.named n p q i)
then_named n p q i (named_comma _ r) = G.named_comma n p q r i
then_named n p q i (further_named r j) = G.more_named n p q r i j

module _ (w y g d : ℕ) (next' next : Test) (tell : Tell y g d 14 next' next) where
  abbrev Naming : List Token → Type 0
  Naming pre = (m : Mode) (ns : List Named) (us : List Token) → FollowNamed m.marks ns us → Fits m (tops_named ns) d →
      Opens m (pre ++ us)

  abbrev ToldNamed : ℕ → Tall (List Named) → List Token → List Token → Type 0
  ToldNamed f found pre ts = Told y pre ts (named_at next' (more w f) found)
      (λ v fs. (ns : List Named) × (v ≡ plus_named found ns) × ((x : Marks) → FollowNamed x ns fs) ×
      (tops_named ns ≤ d)) (named_at next f found ts)

  tell_named : 0 < d → (f : ℕ) (found : Tall (List Named)) → found.form ≡ Plain → (pre ts : List Token) →
      length ts ≤ f → f ≤ g → Naming pre → ToldNamed f found pre ts
  unfolding named_at
  tell_named z' zero found k' pre [] l i hole = told_ends found ([], sym (named_nil found k'), no_named, omega arith)
      refl (λ us s. with_none (λ z. named_at next' w found z ≡ Ok (found, z)) us (s_named_end next' w found [] refl) s)
  tell_named z' zero found k' pre (t ∷ ts) l i hole = absurd (omega (arith, l))
  tell_named z' (suc f) found k' pre ts l i hole =
      told_word (is_op 38) c.comma (only_op 38) refl
      (λ p us q. let o : Opens low (pre ++ at c.comma p ∷ []) = hole low [] _ (named_comma None p) (λ b. omega arith) in
      let wn : Named = record { name = []; value = ex.Name [] } in
      rw q (told_take (told_if (is_op 33)
      (λ c'. told_done ([], sym (named_nil found k'), (λ x. named_comma x p), omega arith))
      (λ c'. told_if (λ κ. is_op 23 κ || is_op 4 κ)
      (λ t. elim (either (is_op 23 (first us)) (is_op 4 (first us)) t) [
        | inl j ↦ told_left c.star (only_op 23 (first us) j) o
            (λ b. here (simp append_assoc) (hole (marked left.StarArgument) [] _ (further_named p (G.starred b)) free))
        | inr j ↦ told_left c.power (only_op 4 (first us) j) o
            (λ b. here (simp append_assoc)
            (hole (marked left.StarArgument) [] _ (further_named p (G.double_starred b)) free))
      ])
      (λ e1. told_need_name _ _ o
      (λ n p2 us2 q2. told_need 42 _ _ (on (at c.assign p0 ∷ word) (simp append_assoc)
      (hole low (record { name = n; value = ex.Name [] } ∷ []) _
      (further_named p (G.named n p2 p0 (is_word 14 None (omega arith))))
      (λ b. omega (arith, z', hh.height_name []))))
      (λ p3 us3 q3. told_read 14 d _ _ (tell
      (((pre ++ at c.comma p ∷ []) ++ at (k.Name n) p2 ∷ []) ++ at c.assign p3 ∷ []) us3
      (omega (arith, l, i, ap length q, ap length q2, ap length q3))
      (on word (simp append_assoc) (hole low (record { name = n; value = ex.Name [] } ∷ []) _
      (further_named p (G.named n p2 p3 (is_word 14 None (omega arith))))
      (λ b. omega (arith, z', hh.height_name []))))
      (λ m a vs r j. here (simp append_assoc)
      (hole m (record { name = n; value = a } ∷ []) _ (further_named p (G.named n p2 p3 r))
      (λ b. omega (arith, j b)))))
      (λ a fs rest q4 is h. told_post (λ v vs r. (
        record { name = n; value = a } ∷ r.0,
        r.1 ∙ push_nameds found n a r.0,
        (λ x. further_named p (then_named n p2 p3 (is x) (r.2 x))),
        omega (arith, r.3, h),
      ))
      (tell_named z' f (push_named found n (of a)) refl
      ((((pre ++ at c.comma p ∷ []) ++ at (k.Name n) p2 ∷ []) ++ at c.assign p3 ∷ []) ++ fs) rest
      (omega (arith, l, ap length q, ap length q2, ap length q3, length_after us3 fs rest q4)) (omega (arith, i))
      (λ m ns vs r j. here (simp append_assoc)
      (hole m (record { name = n; value = a } ∷ ns) _ (further_named p (then_named n p2 p3 (is m.marks) r))
      (λ b. omega (arith, h, j b)))))))))))))
      (λ q. told_done ([], sym (named_nil found k'), no_named, omega arith))

  abbrev Arguing : List Token → Type 0
  Arguing pre = (m : Mode) (es : List Expr) (ns : List Named) (us : List Token) → Args m.marks es ns us →
      Fits m (max (tops es) (tops_named ns)) d → Opens m (pre ++ us)

  -- A comprehension may begin after the first argument.
  abbrev Generating : Tall (List Expr) → List Token → Type 0
  Generating found pre = is_none found.tree ≡ true → (a : Expr) (us : List Token) (p : Place) →
      Is (Some left.Comprehension) 14 a us → Opens (marked left.Comprehension) (pre ++ (us ++ at c.for_ p ∷ []))

  abbrev Argued : Tall (List Expr) → Tall Trailer → List Token → Type 0
  Argued found v fs = (es : List Expr) × (ns : List Named) ×
      (v ≡ of_call (plus_tests found es) (plus_named (plain [] 0) ns)) × ((x : Marks) → Args x es ns fs) ×
      (max (tops es) (tops_named ns) ≤ d)

  abbrev TellArgs : ℕ → Type 0
  TellArgs f = (found : Tall (List Expr)) (pre ts : List Token) → length ts < f → f ≤ g → Opens low pre → Arguing pre →
      Generating found pre → Told y pre ts (args_at next' (more w f) found) (Argued found) (args_at next f found ts)

  call_arg : (found : Tall (List Expr)) (a : Expr) →
      of_call (push found (of a)) (plain [] 0) ≡ of_call (plus_tests found (a ∷ [])) (plus_named (plain [] 0) [])
  call_arg found a = ap (λ z. of_call z (plain [] 0)) (sym (tests_nil (push found (of a))) ∙ push_tests found a []) ∙
      ap (λ z. of_call (plus_tests found (a ∷ [])) z) (sym (named_nil (plain [] 0) refl))

  none_push : (xs : List Expr) (a : Expr) → is_none (xs ++ a ∷ []) ≡ false
  none_push [] a = refl
  none_push (x ∷ xs) a = refl

  keyed_is : (f : Form) (κ next : TokenKind) (n : List ℕ) → keyed f κ next ≡ Some n →
      (is_bare f ≡ true) × (is_op 42 next ≡ true) × (κ ≡ k.Name n)
  keyed_is f κ next n e = go (is_bare f) (is_op 42 next) refl refl e
    where
      go : (a b : Bool) → is_bare f ≡ a → is_op 42 next ≡ b → (if a && b then name_of κ else None) ≡ Some n →
          (is_bare f ≡ true) × (is_op 42 next ≡ true) × (κ ≡ k.Name n)
      go true true i j r = (i, j, only_name κ n r)
      go true false i j r = no (sym (ap is_some r))
      go false b i j r = no (sym (ap is_some r))

  bare_first : (ts : List Token) (a : Expr) (fs us : List Token) (n : List ℕ) → ts ≡ fs ++ us → BareName a fs →
      first ts ≡ k.Name n → (p : Place) × (fs ≡ at (k.Name n) p ∷ [])
  bare_first ts a fs us n q b e = let i : first ts ≡ k.Name b.0 = ap first (q ∙ ap (λ z. z ++ us) b.3) in
      (b.1, b.3 ∙ ap (λ z. at z b.1 ∷ []) (sym i ∙ e))

  tell_arg : (f : ℕ) → TellArgs f → (found : Tall (List Expr)) (pre : List Token) (a : Expr) (fs ts : List Token) →
      length ts < f → f ≤ g → Arguing pre → Generating found pre → ((x : Marks) → Is x 14 a fs) → height a ≤ d →
      Told y (pre ++ fs) ts (λ us. arg_by next' (more w f) (args_at next' (more w f)) found (of a, us) None)
      (λ v us. Argued found v (fs ++ us)) (arg_by next f (args_at next f) found (of a, ts) None)
  tell_arg f again found pre a fs ts l i hole gen is h =
      let o : Opens low (pre ++ fs) = hole low (a ∷ []) [] _ (G.arg (is None)) (λ b. omega (arith, h)) in
      told_if (λ κ. is_none found.tree && is_keyword 13 κ)
      (λ t. told_left c.for_ (only_keyword 13 (first ts) (and_parts (is_none found.tree) _ t).1) o
      (λ p. here (simp append_assoc)
      (gen (and_parts (is_none found.tree) _ t).0 a fs p (is (Some left.Comprehension)))))
      (λ e1. told_word (is_op 38) c.comma (only_op 38) refl
      (λ p us q. rw q (told_take (told_if (is_op 33)
      (λ c'. told_done (a ∷ [], [], call_arg found a, (λ x. G.arg_comma p (is x)), omega (arith, h)))
      (λ c'. told_post (λ v vs r. (
        a ∷ r.0,
        r.1,
        r.2 ∙
            ap (λ z. of_call z (plus_named (plain [] 0) r.1)) (push_tests found a r.0),
        (λ x. G.more_args p (is x) (r.3 x)),
        omega (arith, h, r.4),
      ))
      (again (push found (of a)) ((pre ++ fs) ++ at c.comma p ∷ []) us (omega (arith, l, ap length q)) i
      (here (simp append_assoc) (hole low (a ∷ []) [] _ (G.arg_comma p (is None)) (λ b. omega (arith, h))))
      (λ m es ns vs r j. here (simp append_assoc)
      (hole m (a ∷ es) ns _ (G.more_args p (is m.marks) r) (λ b. omega (arith, h, j b))))
      (λ e. no (sym e ∙ none_push found.tree a)))))))
      (λ e2. told_done (
        a ∷ [],
        [],
        call_arg found a,
        (λ x. move (Args x (a ∷ []) []) (sym (append-nil fs)) (G.arg (is x))),
        omega (arith, h),
      )))

  tell_keyed : (f : ℕ) (found : Tall (List Expr)) (pre : List Token) (a : Expr) (fs ts : List Token) (n : List ℕ)
      (p : Place) → fs ≡ at (k.Name n) p ∷ [] → is_op 42 (first ts) ≡ true → length ts ≤ f → f ≤ g → 0 < d →
      Arguing pre →
      Told y (pre ++ fs) ts (λ us. arg_by next' (more w f) (args_at next' (more w f)) found (of a, us) (Some n))
      (λ v us. Argued found v (fs ++ us)) (arg_by next f (args_at next f) found (of a, ts) (Some n))
  tell_keyed f found pre a fs ts n p e e2 l i z' hole = let h = there ts c.assign (only_op 42 (first ts) e2) (λ z. cc)
      in
      rw e (rw h.2 (told_take (told_read 14 d _ _
      (tell ((pre ++ at (k.Name n) p ∷ []) ++ at c.assign h.0 ∷ []) h.1 (omega (arith, l, i, ap length h.2))
      (on word (simp append_assoc) (hole low [] (record { name = n; value = ex.Name [] } ∷ []) _
      (G.named n p h.0 (is_word 14 None (omega arith))) (λ b. omega (arith, z', hh.height_name []))))
      (λ m b vs r j. here (simp append_assoc)
      (hole m [] (record { name = n; value = b } ∷ []) _ (G.named n p h.0 r) (λ z. omega (arith, j z)))))
      (λ b gs rest q is j. told_map (of_call found)
      (tell_named z' f (push_named (plain [] 0) n (of b)) refl
      (((pre ++ at (k.Name n) p ∷ []) ++ at c.assign h.0 ∷ []) ++ gs) rest
      (omega (arith, l, ap length h.2, length_after h.1 gs rest q)) i
      (λ m ns vs r k'. here (simp append_assoc)
      (hole m [] (record { name = n; value = b } ∷ ns) _ (then_named n p h.0 (is m.marks) r)
      (λ z. omega (arith, j, k' z)))))
      (λ v vs r. (
        [],
        record { name = n; value = b } ∷ r.0,
        ap (of_call found) (r.1 ∙ push_nameds (plain [] 0) n b r.0)
            ∙ ap (λ z. of_call z (plus_named (plain [] 0) (record { name = n; value = b } ∷ r.0)))
            (sym (tests_nil found)),
        (λ x. then_named n p h.0 (is x) (r.2 x)),
        omega (arith, j, r.3),
      ))))))

  tell_arg_by : (f : ℕ) → TellArgs f → (found : Tall (List Expr)) (pre ts : List Token) (a : Expr) (fs us : List Token)
      → ts ≡ fs ++ us → length us < f → f ≤ g → Arguing pre → Generating found pre → ((x : Marks) → Is x 14 a fs) →
      height a ≤ d →
      Told y (pre ++ fs) us (λ vs. arg_by next' (more w f) (args_at next' (more w f)) found (of a, vs)
      (keyed (form a) (first ts) (first us))) (λ v vs. Argued found v (fs ++ vs))
      (arg_by next f (args_at next f) found (of a, us) (keyed (form a) (first ts) (first us)))
  tell_arg_by f again found pre ts a fs us q l i hole gen is h = go (keyed (form a) (first ts) (first us)) refl
    where
      go : (o : Option (List ℕ)) → keyed (form a) (first ts) (first us) ≡ o →
          Told y (pre ++ fs) us (λ vs. arg_by next' (more w f) (args_at next' (more w f)) found (of a, vs)
          (keyed (form a) (first ts) (first us))) (λ v vs. Argued found v (fs ++ vs))
          (arg_by next f (args_at next f) found (of a, us) (keyed (form a) (first ts) (first us)))
      go None e = rw e (tell_arg f again found pre a fs us l i hole gen is h)
      go (Some n) e = let r = keyed_is (form a) (first ts) (first us) n e in let b =
          bare_first ts a fs us n q (bare_name (is None) r.0) r.2 in
          rw e (tell_keyed f found pre a fs us n b.0 b.1 r.1 (omega (arith, l)) i (omega (arith, h, hh.height_pos a))
          hole)

  pub tell_args : (f : ℕ) → TellArgs f
  unfolding args_at
  tell_args zero found pre ts l i o hole gen = absurd (omega (arith, l))
  tell_args (suc f) found pre ts l i o hole gen =
      told_if (λ κ. is_op 23 κ || is_op 4 κ)
      (λ t. elim (either (is_op 23 (first ts)) (is_op 4 (first ts)) t) [
        | inl j ↦ told_left c.star (only_op 23 (first ts) j) o
            (λ b. hole (marked left.StarArgument) [] [] _ (G.starred b) free)
        | inr j ↦ told_left c.power (only_op 4 (first ts) j) o
            (λ b. hole (marked left.StarArgument) [] [] _ (G.double_starred b) free)
      ])
      (λ e1. told_as {X' = λ us. next' us >>= λ a. arg_by next' (more w f) (args_at next' (more w f)) found a
      (keyed a.0.form (first ts) (first a.1))} (λ us s. rw s refl)
      (told_read 14 d _ _ (tell pre ts (omega (arith, l, i)) o
      (λ m a us r h. hole m (a ∷ []) [] us (G.arg r) (λ b. omega (arith, h b))))
      (λ a fs rest q is h. told_kind (λ κ us. arg_by next' (more w f) (args_at next' (more w f)) found (of a, us)
      (keyed (form a) (first ts) κ))
      (tell_arg_by f (tell_args f) found pre ts a fs rest q (shorter a fs rest q (is None)) (omega (arith, i)) hole gen
      is h))))
    where
      shorter : (a : Expr) (fs us : List Token) → ts ≡ fs ++ us → Is None 14 a fs → length us < f
      shorter a fs us q p = omega (arith, l, ap length q, length-append fs us, long (headed p))

-- ---- slices and trailers

pub data FollowTrailers : Marks → List Trailer → List Token → Type 0 where
  no_trailer : (x : Marks) → FollowTrailers x [] []
  trailed : {x : Marks} {rs : List Trailer} {us : List Token} → Trailers x rs us → FollowTrailers x rs us

then_trailers : {x : Marks} {r : Trailer} {rs : List Trailer} {ts us : List Token} → Trails x r ts →
    FollowTrailers x rs us → Trailers x (r ∷ rs) (ts ++ us)
then_trailers {x = x} {r = r} {ts = ts} p (no_trailer _) = move (Trailers x (r ∷ [])) (sym (append-nil ts)) (G.last p)
then_trailers p (trailed q) = G.more_trailers p q

pub trail_start : (κ : TokenKind) → trails κ ≡ true → (p : Place) →
    (us : List Token) × (r : Trailer) × Trails None r (at κ p ∷ us)
trail_start κ h p = elim (either (is_op 40 κ) _ h) [
  | inl e ↦ rw (only_op 40 κ e) (at (k.Name []) p0 ∷ [], t.Attribute [], G.attribute None [] p p0)
  | inr i ↦ elim (either (is_op 34 κ) _ i) [
    | inl e ↦ rw (only_op 34 κ e) (
      word ++ at c.close_square p0 ∷ [],
      t.Index (ex.Name []),
      G.index p p0 (G.single (is_word 14 None (omega arith))),
    )
    | inr e ↦ rw (only_op 32 κ e) (at c.close_round p0 ∷ [], t.Call [] [], G.no_call None p p0)
  ]
]

is_call : (κ : TokenKind) → trails κ ≡ true → is_op 40 κ ≡ false → is_op 34 κ ≡ false → is_op 32 κ ≡ true
is_call κ h i j = elim (either (is_op 40 κ) _ h) [
  | inl e ↦ no (sym e ∙ i)
  | inr m ↦ elim (either (is_op 34 κ) _ m) [ inl e ↦ no (sym e ∙ j) | inr e ↦ e ]
]

module _ (w y g d : ℕ) (under' under : Below) (below : Unders y g d under' under) where
  abbrev TrailHole : List Token → Type 0
  TrailHole pre = (m : Mode) (r : Trailer) (us : List Token) → Trails m.marks r us → Fits m (height_trailer r) d →
      Opens m (pre ++ us)

  abbrev ReadTrail : Tall Trailer → List Token → Type 0
  ReadTrail v fs = (r : Trailer) × (v ≡ of_r r) × ((x : Marks) → Trails x r fs) × (height_trailer r ≤ d)

  tell_slice_close : (p p2 : Place) (pre : List Token) (a b : Option Expr) (fs gs ts : List Token) →
      ((x : Marks) → Maybe x a fs) → ((x : Marks) → Maybe x b gs) → top_or a ≤ d → top_or b ≤ d → TrailHole pre →
      Told y ((((pre ++ at c.open_square p ∷ []) ++ fs) ++ at c.colon p2 ∷ []) ++ gs) ts
      (slice_close (of_or a) (of_or b))
      (λ v us. ReadTrail v (at c.open_square p ∷ (fs ++ at c.colon p2 ∷ (gs ++ us))))
      (slice_close (of_or a) (of_or b) ts)
  tell_slice_close p p2 pre a b fs gs ts is is2 h h2 hole =
      let o : Opens low ((((pre ++ at c.open_square p ∷ []) ++ fs) ++ at c.colon p2 ∷ []) ++ gs) =
      on (at c.close_square p0 ∷ []) (simp append_assoc)
      (hole low (t.Slice a b) _ (G.slice p p2 p0 (is None) (is2 None))
      (λ z. omega (arith, h, h2, hh.height_slice a b))) in
      told_if (λ κ. is_op 39 κ || is_op 38 κ)
      (λ z. elim (either (is_op 39 (first ts)) (is_op 38 (first ts)) z) [
        | inl q ↦ told_left c.colon (only_op 39 (first ts) q) o
            (λ i. here (simp append_assoc)
            (hole (marked left.SliceForm) (t.Slice a b) _
            (G.long_slice p p2 i (is (Some left.SliceForm)) (is2 (Some left.SliceForm))) free))
        | inr q ↦ told_left c.comma (only_op 38 (first ts) q) o
            (λ i. here (simp append_assoc)
            (hole (marked left.SliceForm) (t.Slice a b) _
            (G.slices p p2 i (is (Some left.SliceForm)) (is2 (Some left.SliceForm))) free))
      ])
      (λ e1. told_need 35 _ _ o (λ q us e.
      told_done (
        t.Slice a b,
        as_slice a b,
        (λ x. move (Trails x _) (simp append_assoc) (G.slice p p2 q (is x) (is2 x))),
        omega (arith, h, h2, hh.height_slice a b),
      )))

  tell_slice : (p p2 : Place) (pre : List Token) (a : Option Expr) (fs ts : List Token) → length ts ≤ g →
      ((x : Marks) → Maybe x a fs) → top_or a ≤ d → TrailHole pre →
      Told y (((pre ++ at c.open_square p ∷ []) ++ fs) ++ at c.colon p2 ∷ []) ts (slice_at under' (of_or a))
      (λ v us. ReadTrail v (at c.open_square p ∷ (fs ++ at c.colon p2 ∷ us))) (slice_at under (of_or a) ts)
  unfolding slice_at
  tell_slice p p2 pre a fs ts l is h hole =
      told_if (comes 14)
      (λ c'. told_read 14 d _ _ (below.read 14 (omega arith)
      (((pre ++ at c.open_square p ∷ []) ++ fs) ++ at c.colon p2 ∷ []) ts l
      (on (at c.close_square p0 ∷ []) (simp append_assoc)
      (hole low (t.Slice a None) _ (G.slice p p2 p0 (is None) (G.nothing None))
      (λ z. omega (arith, h, hh.height_slice a None))))
      (λ m b us r j. on (at c.close_square p0 ∷ []) (simp append_assoc)
      (hole m (t.Slice a (Some b)) _ (G.slice p p2 p0 (is m.marks) (G.just r))
      (λ z. omega (arith, h, j z, hh.height_slice a (Some b))))))
      (λ b gs rest q is2 h2. tell_slice_close p p2 pre a (Some b) fs gs rest is (λ x. G.just (is2 x)) h h2 hole))
      (λ c'. told_pre (append-nil (((pre ++ at c.open_square p ∷ []) ++ fs) ++ at c.colon p2 ∷ []))
      (tell_slice_close p p2 pre a None fs [] ts is G.nothing h (omega arith) hole))

  tell_index_close : (p : Place) (pre : List Token) (a : Expr) (fs ts : List Token) → length ts ≤ g →
      ((x : Marks) → Is x 14 a fs) → height a ≤ d → TrailHole pre →
      Told y ((pre ++ at c.open_square p ∷ []) ++ fs) ts (λ us. index_close under' (of a, us))
      (λ v us. ReadTrail v (at c.open_square p ∷ (fs ++ us))) (index_close under (of a, ts))
  tell_index_close p pre a fs ts l is h hole =
      told_word (is_op 39) c.colon (only_op 39) refl
      (λ p2 us q. rw q (told_take (tell_slice p p2 pre (Some a) fs us (omega (arith, l, ap length q))
      (λ x. G.just (is x)) h hole)))
      (λ e1. told_bind _ _ _ (below.after a h ((pre ++ at c.open_square p ∷ []) ++ fs) ts l
      (λ m b us r j. on (at c.close_square p0 ∷ []) (simp append_assoc)
      (hole m (t.Index b) _ (G.index p p0 (then_exprs (is m.marks) r))
      (λ z. omega (arith, j z, hh.height_index b)))))
      (λ v gs rest q r. told_need 35 _ _
      (on (at c.close_square p0 ∷ []) (simp append_assoc)
      (hole low (t.Index r.0) _ (G.index p p0 (then_exprs (is None) (r.2 None)))
      (λ z. omega (arith, r.3, hh.height_index r.0))))
      (λ p2 us2 q2. told_done (
        t.Index r.0,
        ap of_index r.1 ∙ as_index r.0,
        (λ x. move (Trails x _) (simp append_assoc) (G.index p p2 (then_exprs (is x) (r.2 x)))),
        omega (arith, r.3, hh.height_index r.0),
      ))))

  tell_subscript : (p : Place) (pre ts : List Token) → length ts ≤ g → 0 < d → TrailHole pre →
      Told y (pre ++ at c.open_square p ∷ []) ts (subscript_at under') (λ v us. ReadTrail v (at c.open_square p ∷ us))
      (subscript_at under ts)
  unfolding subscript_at
  tell_subscript p pre ts l z' hole =
      told_word (is_op 39) c.colon (only_op 39) refl
      (λ p2 us q. rw q (told_take (told_pre
      (ap (λ z. z ++ at c.colon p2 ∷ []) (append-nil (pre ++ at c.open_square p ∷ [])))
      (tell_slice p p2 pre None [] us (omega (arith, l, ap length q)) G.nothing (omega arith) hole))))
      (λ e1. told_read 14 d _ _ (below.read 14 (omega arith) (pre ++ at c.open_square p ∷ []) ts l
      (on (word ++ at c.close_square p0 ∷ []) (simp append_assoc)
      (hole low (t.Index (ex.Name [])) _ (G.index p p0 (G.single (is_word 14 None (omega arith))))
      (λ z. omega (arith, z', hh.height_name [], hh.height_index (ex.Name [])))))
      (λ m a us r h. on (at c.close_square p0 ∷ []) (simp append_assoc)
      (hole m (t.Index a) _ (G.index p p0 (G.single r)) (λ z. omega (arith, h z, hh.height_index a)))))
      (λ a fs rest q is h. tell_index_close p pre a fs rest (omega (arith, l, length_after ts fs rest q)) is h hole))

  tell_call : (p : Place) (pre ts : List Token) → length ts < g → TrailHole pre →
      Told y (pre ++ at c.open_round p ∷ []) ts (call_at under' (more w g))
      (λ v us. ReadTrail v (at c.open_round p ∷ us)) (call_at under g ts)
  unfolding call_at
  tell_call p pre ts l hole =
      told_word (is_op 33) c.close_round (only_op 33) refl
      (λ p2 us q. rw q (told_take (told_done (
        t.Call [] [],
        as_call [] [],
        (λ x. G.no_call x p p2),
        omega (arith, hh.height_call [] []),
      ))))
      (λ e1. told_bind _ _ _ (tell_args w y g d (under'.read 14) (under.read 14) (below.read 14 (omega arith)) g none
      (pre ++ at c.open_round p ∷ []) ts l (omega arith)
      (on (at c.close_round p0 ∷ []) (simp append_assoc)
      (hole low (t.Call [] []) _ (G.no_call None p p0) (λ z. omega (arith, hh.height_call [] []))))
      (λ m es ns us r j. on (at c.close_round p0 ∷ []) (simp append_assoc)
      (hole m (t.Call es ns) _ (G.call p p0 r) (λ z. omega (arith, j z, hh.height_call es ns))))
      (λ e a us i r. here (simp append_assoc)
      (hole (marked left.Comprehension) (t.Call (a ∷ []) []) _ (G.generator_call p i r) free)))
      (λ v fs rest q r. told_need 33 _ _
      (on (at c.close_round p0 ∷ []) (simp append_assoc)
      (hole low (t.Call r.0 r.1) _ (G.call p p0 (r.3 None)) (λ z. omega (arith, r.4, hh.height_call r.0 r.1))))
      (λ p2 us2 q2. told_done (
        t.Call r.0 r.1,
        r.2 ∙ as_call r.0 r.1,
        (λ x. G.call p p2 (r.3 x)),
        omega (arith, r.4, hh.height_call r.0 r.1),
      ))))

  tell_trailer : (pre ts : List Token) → length ts ≤ g → 0 < d → trails (first ts) ≡ true → TrailHole pre →
      Told y pre ts (trailer_at under' (more w g)) ReadTrail (trailer_at under g ts)
  unfolding trailer_at
  tell_trailer pre ts l z' e hole =
      told_word (is_op 40) c.dot (only_op 40) refl
      (λ p us q. rw q (told_take (told_need_name _ _
      (on word (simp append_assoc) (hole low (t.Attribute []) _ (G.attribute None [] p p0)
      (λ z. omega (arith, hh.height_attribute []))))
      (λ n p2 us2 q2. told_done (
        t.Attribute n,
        as_attribute n,
        (λ x. G.attribute x n p p2),
        omega (arith, hh.height_attribute n),
      )))))
      (λ e1. told_word (is_op 34) c.open_square (only_op 34) refl
      (λ p us q. rw q (told_take (tell_subscript p pre us (omega (arith, l, ap length q)) z' hole)))
      (λ e2. let h = there ts c.open_round (only_op 32 (first ts) (is_call (first ts) e e1 e2)) (λ z. cc) in
      rw h.2 (told_take (tell_call h.0 pre h.1 (omega (arith, l, ap length h.2)) hole))))

  abbrev TrailersHole : List Token → Type 0
  TrailersHole pre = (m : Mode) (rs : List Trailer) (us : List Token) → Trailers m.marks rs us →
      Fits m (tops_trailers rs) d → Opens m (pre ++ us)

  abbrev TellTrailers : ℕ → Type 0
  TellTrailers f = (found : Tall (List Trailer)) (pre ts : List Token) → length ts ≤ f → f ≤ g → 0 < d →
      TrailersHole pre →
      Told y pre ts (trailers_at under' (more w g) (more w f) found)
      (λ v fs. (rs : List Trailer) × (v ≡ plus_trailers found rs) × ((x : Marks) → FollowTrailers x rs fs) ×
      (tops_trailers rs ≤ d)) (trailers_at under g f found ts)

  tell_trailed : (f : ℕ) → TellTrailers f → (found : Tall (List Trailer)) (pre ts : List Token) → length ts ≤ suc f →
      suc f ≤ g → 0 < d → trails (first ts) ≡ true → TrailersHole pre →
      Told y pre ts (λ us. trailer_at under' (more w g) us >>= λ r.
      trailers_at under' (more w g) (more w f) (push_trailer found r.0) r.1)
      (λ v fs. (rs : List Trailer) × (v ≡ plus_trailers found rs) × ((x : Marks) → Trailers x rs fs) ×
      (tops_trailers rs ≤ d)) (trailer_at under g ts >>= λ r. trailers_at under g f (push_trailer found r.0) r.1)
  tell_trailed f again found pre ts l i z' e hole =
      told_bind _ _ _ (tell_trailer pre ts (omega (arith, l, i)) z' e
      (λ m r us q h. hole m (r ∷ []) us (G.last q) (λ b. omega (arith, h b))))
      (λ v fs rest q r. subst (λ z. Told y (pre ++ fs) rest
      (λ us. trailers_at under' (more w g) (more w f) (push_trailer found z) us)
      (λ v us. (rs : List Trailer) × (v ≡ plus_trailers found rs) × ((x : Marks) → Trailers x rs (fs ++ us)) ×
      (tops_trailers rs ≤ d)) (trailers_at under g f (push_trailer found z) rest)) (sym r.1)
      (told_post (λ v us s. (
        r.0 ∷ s.0,
        s.1 ∙ push_trailers found r.0 s.0,
        (λ x. then_trailers (r.2 x) (s.2 x)),
        omega (arith, r.3, s.3),
      ))
      (again (push_trailer found (of_r r.0)) (pre ++ fs) rest
      (omega (arith, l, ap length q, length-append fs rest, trail_long (r.2 None))) (omega (arith, i)) z'
      (λ m rs us s j. near m pre fs us (hole m (r.0 ∷ rs) _ (G.more_trailers (r.2 m.marks) s)
      (λ b. omega (arith, r.3, j b)))))))

  tell_trailers : (f : ℕ) → TellTrailers f
  unfolding trailers_at
  tell_trailers zero found pre [] l i z' hole = told_ends found ([], sym (trailers_nil found), no_trailer, omega arith)
      refl (λ us s. with_none (λ z. trailers_at under' (more w g) w found z ≡ Ok (found, z)) us
      (s_trailers_end under' (more w g) w found [] refl) s)
  tell_trailers zero found pre (u ∷ ts) l i z' hole = absurd (omega (arith, l))
  tell_trailers (suc f) found pre ts l i z' hole = told_if trails
      (λ e. told_post (λ v fs r. (r.0, r.1, (λ x. trailed (r.2 x)), r.3))
      (tell_trailed f (tell_trailers f) found pre ts l i z' e hole))
      (λ e. told_done ([], sym (trailers_nil found), no_trailer, omega arith))

  -- where a trailer comes
  pub tell_some_trailers : (f : ℕ) (found : Tall (List Trailer)) (pre ts : List Token) → length ts ≤ f → f ≤ g →
      0 < d → trails (first ts) ≡ true → TrailersHole pre →
      Told y pre ts (trailers_at under' (more w g) (more w f) found)
      (λ v fs. (rs : List Trailer) × (v ≡ plus_trailers found rs) × ((x : Marks) → Trailers x rs fs) ×
      (tops_trailers rs ≤ d)) (trailers_at under g f found ts)
  unfolding trailers_at
  tell_some_trailers zero found pre [] l i z' e hole = no (sym e)
  tell_some_trailers zero found pre (u ∷ ts) l i z' e hole = absurd (omega (arith, l))
  tell_some_trailers (suc f) found pre ts l i z' e hole =
      told_same {X' = λ us. trailer_at under' (more w g) us >>= λ r.
      trailers_at under' (more w g) (more w f) (push_trailer found r.0) r.1} {q = trailer_at under g ts >>= λ r.
      trailers_at under g f (push_trailer found r.0) r.1} (rw e refl) (λ us s. rw s (rw e refl))
      (tell_trailed f (tell_trailers f) found pre ts l i z' e hole)

  trailers_value : (a : Expr) (v : Tall (List Trailer)) (rs : List Trailer) {fs : List Token} → Trailers None rs fs →
      v ≡ plus_trailers (plain [] 0) rs → of_trail (of a) v ≡ of (ex.Trail a rs)
  trailers_value a v rs (G.last {r = r} p) e = ap (of_trail (of a)) e ∙ as_trail a r []
  trailers_value a v rs (G.more_trailers {r = r} {rs = rs'} p q) e = ap (of_trail (of a)) e ∙ as_trail a r rs'

  pub tell_trail : (pre : List Token) (a : Expr) (fs ts : List Token) → length ts ≤ g → ((x : Marks) → Is x 0 a fs) →
      height a ≤ suc d → Hole 1 (suc d) pre →
      Told y (pre ++ fs) ts (λ us. trail_at under' (more w g) (more y (suc d)) (of a, us))
      (λ v us. Read 1 (suc d) v (fs ++ us)) (trail_at under g (suc d) (of a, ts))
  unfolding trail_at
  tell_trail pre a fs ts l is h hole =
      let o : Opens low (pre ++ fs) = hole low a _ (G.up 0 (omega arith) (is None)) (λ b. h) in
      told_if trails
      (λ e. told_deep (suc d) (height a + 1) (first ts) refl o (λ p. let s = trail_start (first ts) e p in
      on s.0 (simp append_assoc) (hole any (ex.Trail a (s.1 ∷ [])) _ (G.trail (is None) (G.last s.2)) free))
      (λ deep. told_map (of_trail (of a))
      (tell_some_trailers g (plain [] 0) (pre ++ fs) ts l (omega arith) (omega (arith, deep, hh.height_pos a)) e
      (λ m rs us r j. near m pre fs us (hole m (ex.Trail a rs) _ (G.trail (is m.marks) r)
      (λ b. omega (arith, deep, j b, hh.height_trail a rs)))))
      (λ v us r. (
        ex.Trail a r.0,
        trailers_value a v r.0 (r.2 None) r.1,
        (λ x. G.trail (is x) (r.2 x)),
        omega (arith, deep, r.3, hh.height_trail a r.0),
      ))))
      (λ e. told_done (a, refl, (λ x. move (Is x 1 a) (sym (append-nil fs)) (G.up 0 (omega arith) (is x))), h))
