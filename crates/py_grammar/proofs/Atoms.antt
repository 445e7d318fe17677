-- What reading atoms and trailers tells.
use Rattle.std.proofs.Common.{◌≡◌, ℕ, zero, suc, ◌≤◌, ◌==◌, nat_le, Bool, true, false, ◌&&◌, ◌||◌, List, [], ◌∷◌, ◌++◌, length, Ok, Err, Option, Some, None, ◌⊎◌, inl, inr, refl, sym, ap, ◌∙◌, subst, append_assoc, append-nil, arith, if◌then◌else◌}
use Rattle.py_tokens.specs.declared.token.Token.{Token}
use Rattle.py_tokens.specs.declared.token.TokenKind.{TokenKind}
use Rattle.py_tokens.specs.declared.token.TokenKind.TheVariants as k
use Rattle.py_tokens.specs.declared.token.Other.TheVariants as other
use Rattle.py_tokens.specs.declared.token.Place.{Place}
use Rattle.py_tokens.specs.Place.{token_at as at}
use Rattle.py_tree.specs.declared.expr.Expr.{Expr}
use Rattle.py_tree.specs.declared.expr.Expr.TheVariants as ex
use Rattle.py_tree.specs.declared.form.Form.TheVariants.{Plain}
use Rattle.py_tree.specs.declared.expr.Pair.{Pair}
use Rattle.py_tree.specs.Height.{height, tops_pairs}
use Rattle.py_tree.proofs.Heights as hh
use Rattle.py_base.specs.declared.refusal.Construct.{Construct}
use Rattle.py_base.specs.declared.refusal.Construct.TheVariants as left
use Rattle.py_grammar.specs.Codes as c
use Rattle.py_grammar.specs.Grammar as G
use Rattle.py_grammar.specs.Grammar.{Marks, Is, Strings, Tests, Commas, Exprs, Pairs, Links, Trailers, Trails, Maybe, Args}
use Rattle.py_grammar.specs.declared.tall.Tall.{Tall}
use Rattle.py_grammar.specs.inner.Tall.{plain, start, push_pair, of_string, of_tuple, of_list, of_dict}
use Rattle.py_grammar.specs.inner.Reading.{no_start, Test, Below, first, rest, is_op, is_keyword, comes, left_at, is_some, atom_at, round_at, round_close, list_at, list_close, dict_at, dict_close, dict_value, atom_of, pairs_at}
use Rattle.py_grammar.proofs.Steps.{of}
use Rattle.py_grammar.proofs.Facts.{no, some_inj}
use Rattle.py_grammar.proofs.ReadSteps.{pairs_nil, s_pairs_end}
use Rattle.py_grammar.proofs.Values.{plus_pairs, push_pairs, as_name, as_int, as_string, as_group, as_unit, as_tuple, as_no_list, as_list, as_dict}
use Rattle.py_grammar.proofs.Told.{Mode, low, marked, Fits, Opens, with_none, more, Told, told_done, told_ends, told_refused, told_left, told_same, told_if, told_post, told_take, told_word, told_bind, told_map, told_kind, on, here, move, there}
use Rattle.py_grammar.proofs.Tells.{only_op, only_keyword, Hole, Read, Tell, told_read, told_need, p0, word, is_word, free, length_after, then_tests, then_commas, AfterTest, then_strings, tell_strings, tell_tests, tell_commas}

-- What expressions below tell: a level of them, and a comma after a test.
pub record Unders (y g d : ℕ) (under' under : Below) : Type 0 where
  pub read : (n : ℕ) → n ≤ 14 → Tell y g d n (under'.read n) (under.read n)
  pub after : (a : Expr) → height a ≤ d → (pre ts : List Token) → length ts ≤ g →
      ((m : Mode) (b : Expr) (us : List Token) → AfterTest m.marks a b us → Fits m (height b) d → Opens m (pre ++ us)) →
      Told y pre ts (under'.after (of a))
      (λ v fs. (b : Expr) × (v ≡ of b) × ((x : Marks) → AfterTest x a b fs) × (height b ≤ d))
      (under.after (of a) ts)

module _ (w y g d : ℕ) (under' under : Below) (below : Unders y g d under' under) where
  tell_round_close : (p : Place) (pre : List Token) (a : Expr) (fs ts : List Token) → length ts ≤ g →
      ((x : Marks) → Is x 14 a fs) → height a ≤ d → Hole 0 (suc d) pre →
      Told y ((pre ++ at c.open_round p ∷ []) ++ fs) ts (λ us. round_close under' (more w g) (of a, us))
      (λ v us. Read 0 (suc d) v (at c.open_round p ∷ (fs ++ us))) (round_close under g (of a, ts))
  tell_round_close p pre a fs ts l is h hole =
      let fit : height (ex.Group a) ≤ suc d = omega (arith, h, hh.height_group a) in
      let o : Opens low ((pre ++ at c.open_round p ∷ []) ++ fs) =
      on (at c.close_round p0 ∷ []) (simp append_assoc)
      (hole low (ex.Group a) _ (G.group p p0 (is None)) (λ b. fit)) in
      told_word (is_op 33) c.close_round (only_op 33) refl
      (λ q us e. rw e (told_take (told_done (ex.Group a, as_group a, (λ x. G.group p q (is x)), fit))))
      (λ e1. told_word (is_op 38) c.comma (only_op 38) refl
      (λ q us e. told_bind _ _ _ (tell_commas w y g d (under'.read 14) (under.read 14) (below.read 14 (omega arith)) g
      (start (of a)) ((pre ++ at c.open_round p ∷ []) ++ fs) ts l (omega arith) (ap (λ z. is_op 38 (first z)) e)
      (λ m es b vs r j. on (at c.close_round p0 ∷ []) (simp append_assoc)
      (hole m (ex.Tuple (a ∷ es)) _ (G.round p p0 (then_commas (is m.marks) r))
      (λ z. omega (arith, j z, h, hh.height_tuple (a ∷ es))))))
      (λ v gs rest e2 r. told_need 33 _ _
      (on (at c.close_round p0 ∷ []) (simp append_assoc)
      (hole low (ex.Tuple (a ∷ r.0)) _ (G.round p p0 (then_commas (is None) (r.2 None)))
      (λ z. omega (arith, r.3, h, hh.height_tuple (a ∷ r.0)))))
      (λ q2 us2 e3. told_done (
        ex.Tuple (a ∷ r.0),
        ap of_tuple r.1 ∙ as_tuple a r.0,
        (λ x. move (Is x 0 _) (simp append_assoc) (G.round p q2 (then_commas (is x) (r.2 x)))),
        omega (arith, r.3, h, hh.height_tuple (a ∷ r.0)),
      ))))
      (λ e2. told_word (is_keyword 13) c.for_ (only_keyword 13) refl
      (λ q us e. told_left c.for_ (ap first e) o
      (λ i. here (simp append_assoc)
      (hole (marked left.Comprehension) (ex.Group a) _ (G.generator p i (is (Some left.Comprehension))) free)))
      (λ e3. told_refused o)))

  tell_round : (p : Place) (pre ts : List Token) → length ts ≤ g → Hole 0 (suc d) pre →
      Told y (pre ++ at c.open_round p ∷ []) ts (round_at under' (more w g))
      (λ v us. Read 0 (suc d) v (at c.open_round p ∷ us)) (round_at under g ts)
  unfolding round_at
  tell_round p pre ts l hole =
      let o : Opens low (pre ++ at c.open_round p ∷ []) =
      on (at c.close_round p0 ∷ []) (simp append_assoc)
      (hole low (ex.Tuple []) _ (G.unit None p p0) (λ b. omega (arith, hh.height_tuple []))) in
      told_word (is_op 33) c.close_round (only_op 33) refl
      (λ q us e. rw e (told_take (told_done (
        ex.Tuple [],
        as_unit,
        (λ x. G.unit x p q),
        omega (arith, hh.height_tuple []),
      ))))
      (λ e1. told_word (is_keyword 30) c.yield_ (only_keyword 30) refl
      (λ q us e. told_left c.yield_ (ap first e) o
      (λ i. here (simp append_assoc) (hole (marked left.Generator) (ex.Tuple []) _ (G.yielded p i) free)))
      (λ e2. told_read 14 d _ _ (below.read 14 (omega arith) (pre ++ at c.open_round p ∷ []) ts l o
      (λ m a us r h. on (at c.close_round p0 ∷ []) (simp append_assoc)
      (hole m (ex.Group a) _ (G.group p p0 r) (λ b. omega (arith, h b, hh.height_group a)))))
      (λ a fs rest q is h. tell_round_close p pre a fs rest (omega (arith, l, length_after ts fs rest q)) is h hole)))

  tell_list_close : (p : Place) (pre : List Token) (a : Expr) (fs ts : List Token) → length ts ≤ g →
      ((x : Marks) → Is x 14 a fs) → height a ≤ d → Hole 0 (suc d) pre →
      Told y ((pre ++ at c.open_square p ∷ []) ++ fs) ts (λ us. list_close under' (more w g) (of a, us))
      (λ v us. Read 0 (suc d) v (at c.open_square p ∷ (fs ++ us))) (list_close under g (of a, ts))
  tell_list_close p pre a fs ts l is h hole =
      let fit : height (ex.List (a ∷ [])) ≤ suc d = omega (arith, h, hh.height_list (a ∷ [])) in
      let o : Opens low ((pre ++ at c.open_square p ∷ []) ++ fs) =
      on (at c.close_square p0 ∷ []) (simp append_assoc)
      (hole low (ex.List (a ∷ [])) _ (G.list p p0 (G.only (is None))) (λ b. fit)) in
      told_word (is_keyword 13) c.for_ (only_keyword 13) refl
      (λ q us e. told_left c.for_ (ap first e) o
      (λ i. here (simp append_assoc)
      (hole (marked left.Comprehension) (ex.List (a ∷ [])) _ (G.comprehension p i (is (Some left.Comprehension)))
      free)))
      (λ e1. told_bind _ _ _ (tell_tests w y g d (under'.read 14) (under.read 14) (below.read 14 (omega arith)) g
      (start (of a)) ((pre ++ at c.open_square p ∷ []) ++ fs) ts l (omega arith)
      (λ m es b vs r j. on (at c.close_square p0 ∷ []) (simp append_assoc)
      (hole m (ex.List (a ∷ es)) _ (G.list p p0 (then_tests (is m.marks) r))
      (λ z. omega (arith, j z, h, hh.height_list (a ∷ es))))))
      (λ v gs rest e2 r. told_need 35 _ _
      (on (at c.close_square p0 ∷ []) (simp append_assoc)
      (hole low (ex.List (a ∷ r.0)) _ (G.list p p0 (then_tests (is None) (r.2 None)))
      (λ z. omega (arith, r.3, h, hh.height_list (a ∷ r.0)))))
      (λ q2 us2 e3. told_done (
        ex.List (a ∷ r.0),
        ap of_list r.1 ∙ as_list a r.0,
        (λ x. move (Is x 0 _) (simp append_assoc) (G.list p q2 (then_tests (is x) (r.2 x)))),
        omega (arith, r.3, h, hh.height_list (a ∷ r.0)),
      ))))

  tell_list : (p : Place) (pre ts : List Token) → length ts ≤ g → Hole 0 (suc d) pre →
      Told y (pre ++ at c.open_square p ∷ []) ts (list_at under' (more w g))
      (λ v us. Read 0 (suc d) v (at c.open_square p ∷ us)) (list_at under g ts)
  unfolding list_at
  tell_list p pre ts l hole =
      let o : Opens low (pre ++ at c.open_square p ∷ []) =
      on (at c.close_square p0 ∷ []) (simp append_assoc)
      (hole low (ex.List []) _ (G.no_list None p p0) (λ b. omega (arith, hh.height_list []))) in
      told_word (is_op 35) c.close_square (only_op 35) refl
      (λ q us e. rw e (told_take (told_done (
        ex.List [],
        as_no_list,
        (λ x. G.no_list x p q),
        omega (arith, hh.height_list []),
      ))))
      (λ e1. told_read 14 d _ _ (below.read 14 (omega arith) (pre ++ at c.open_square p ∷ []) ts l o
      (λ m a us r h. on (at c.close_square p0 ∷ []) (simp append_assoc)
      (hole m (ex.List (a ∷ [])) _ (G.list p p0 (G.only r)) (λ b. omega (arith, h b, hh.height_list (a ∷ []))))))
      (λ a fs rest q is h. tell_list_close p pre a fs rest (omega (arith, l, length_after ts fs rest q)) is h hole))

-- ---- dictionaries

pub data FollowPairs : Marks → List Pair → List Token → Type 0 where
  no_pair : (x : Marks) → FollowPairs x [] []
  last_comma : (x : Marks) (p : Place) → FollowPairs x [] (at c.comma p ∷ [])
  further_pairs : (p : Place) {x : Marks} {ps : List Pair} {us : List Token} → Pairs x ps us →
      FollowPairs x ps (at c.comma p ∷ us)

pub then_pairs : {x : Marks} {a b : Expr} {ts us : List Token} (p : Place) → Is x 14 a ts → Is x 14 b us →
    {ps : List Pair} {vs : List Token} → FollowPairs x ps vs →
    Pairs x (record { key = a; value = b } ∷ ps) ((ts ++ at c.colon p ∷ us) ++ vs)
then_pairs {x = x} {ts = ts} {us = us} p i j (no_pair _) =
    move (Pairs x _) (sym (append-nil (ts ++ at c.colon p ∷ us))) (G.pair p i j)
then_pairs p i j (last_comma _ q) = G.pair_comma p q i j
then_pairs p i j (further_pairs q r) = G.more_pairs p q i j r

module _ (w y g d : ℕ) (next' next : Test) (tell : Tell y g d 14 next' next) where
  abbrev Pairing : List Token → Type 0
  Pairing pre = (m : Mode) (ps : List Pair) (us : List Token) → FollowPairs m.marks ps us → Fits m (tops_pairs ps) d →
      Opens m (pre ++ us)

  pub tell_pairs : (f : ℕ) (found : Tall (List Pair)) → found.form ≡ Plain → (pre ts : List Token) → length ts ≤ f →
      f ≤ g → Pairing pre →
      Told y pre ts (pairs_at next' (more w f) found)
      (λ v fs. (ps : List Pair) × (v ≡ plus_pairs found ps) × ((x : Marks) → FollowPairs x ps fs) ×
      (tops_pairs ps ≤ d)) (pairs_at next f found ts)
  unfolding pairs_at
  tell_pairs zero found k' pre [] l i hole = told_ends found ([], sym (pairs_nil found k'), no_pair, omega arith) refl
      (λ us s. with_none (λ z. pairs_at next' w found z ≡ Ok (found, z)) us (s_pairs_end next' w found [] refl) s)
  tell_pairs zero found k' pre (t ∷ ts) l i hole = absurd (omega (arith, l))
  tell_pairs (suc f) found k' pre ts l i hole =
      told_word (is_op 38) c.comma (only_op 38) refl
      (λ p us q. let o : Opens low (pre ++ at c.comma p ∷ []) = hole low [] _ (last_comma None p) (λ b. omega arith) in
      rw q (told_take (told_if (comes 14)
      (λ c'. told_read 14 d _ _ (tell (pre ++ at c.comma p ∷ []) us (omega (arith, l, ap length q, i)) o
      (λ m a vs r h. on (at c.colon p0 ∷ word) (simp append_assoc)
      (hole m (record { key = a; value = ex.Name [] } ∷ []) _
      (further_pairs p (G.pair p0 r (is_word 14 m.marks (omega arith))))
      (λ b. omega (arith, h b, hh.height_pos a, hh.height_name [])))))
      (λ a fs rest q2 is h. told_need 39 _ _
      (on (at c.colon p0 ∷ word) (simp append_assoc)
      (hole low (record { key = a; value = ex.Name [] } ∷ []) _
      (further_pairs p (G.pair p0 (is None) (is_word 14 None (omega arith))))
      (λ b. omega (arith, h, hh.height_pos a, hh.height_name []))))
      (λ p2 us2 q3. told_read 14 d _ _ (tell (((pre ++ at c.comma p ∷ []) ++ fs) ++ at c.colon p2 ∷ []) us2
      (omega (arith, l, ap length q, i, length_after us fs rest q2, ap length q3))
      (on word (simp append_assoc) (hole low (record { key = a; value = ex.Name [] } ∷ []) _
      (further_pairs p (G.pair p2 (is None) (is_word 14 None (omega arith))))
      (λ b. omega (arith, h, hh.height_pos a, hh.height_name []))))
      (λ m b vs r j. here (simp append_assoc)
      (hole m (record { key = a; value = b } ∷ []) _ (further_pairs p (G.pair p2 (is m.marks) r))
      (λ z. omega (arith, h, j z)))))
      (λ b gs rest2 q4 is2 h2. told_post
      (λ v vs r. (
        record { key = a; value = b } ∷ r.0,
        r.1 ∙ push_pairs found a b r.0,
        (λ x. move (FollowPairs x _) (simp append_assoc) (further_pairs p (then_pairs p2 (is x) (is2 x) (r.2 x)))),
        omega (arith, r.3, h, h2),
      ))
      (tell_pairs f (push_pair found (of a) (of b)) refl
      ((((pre ++ at c.comma p ∷ []) ++ fs) ++ at c.colon p2 ∷ []) ++ gs) rest2
      (omega (arith, l, ap length q, length_after us fs rest q2, ap length q3, length_after us2 gs rest2 q4))
      (omega (arith, i))
      (λ m ps vs r j. here (simp append_assoc)
      (hole m (record { key = a; value = b } ∷ ps) _ (further_pairs p (then_pairs p2 (is m.marks) (is2 m.marks) r))
      (λ z. omega (arith, h, h2, j z)))))))))
      (λ c'. told_done ([], sym (pairs_nil found k'), (λ x. last_comma x p), omega arith)))))
      (λ q. told_done ([], sym (pairs_nil found k'), no_pair, omega arith))

pub either : (a b : Bool) → (a || b) ≡ true → (a ≡ true) ⊎ (b ≡ true)
either true b h = inl refl
either false b h = inr h

-- ---- where nothing begins

pub lift : {x : Marks} {a : Expr} {ts : List Token} (n : ℕ) → n ≤ 14 → Is x 0 a ts → Is x n a ts
lift zero l p = p
lift (suc n) l p = G.up n (omega (arith, l)) (lift n (omega (arith, l)) p)

abbrev LeftStart : ℕ → TokenKind → Construct → Type 0
LeftStart n κ x = (p : Place) → (a : Expr) × Is (Some x) n a (at κ p ∷ [])

left_op : (n m : ℕ) (x : Construct) → n ≤ 14 → left_at n (k.Op m) ≡ Some x → LeftStart n (k.Op m) x
left_op n m x l e = go (m == 44) refl e
  where
    go : (b : Bool) → (m == 44) ≡ b → (if b then Some left.Backquote else None) ≡ Some x → LeftStart n (k.Op m) x
    go true q r = let i : m ≡ 44 = grind (arith, q) in
        rw i (subst (λ z. LeftStart n (k.Op 44) z) (some_inj left.Backquote x r) (λ p. (_, lift n l (G.backquote p))))
    go false q r = no (sym (ap is_some r))

left_word : (n m : ℕ) (x : Construct) → n ≤ 14 → left_at n (k.Keyword m) ≡ Some x → LeftStart n (k.Keyword m) x
left_word n m x l e = go (nat_le 14 n) (m == 20) refl refl e
  where
    go : (a b : Bool) → nat_le 14 n ≡ a → (m == 20) ≡ b → (if a && b then Some left.Lambda else None) ≡ Some x →
        LeftStart n (k.Keyword m) x
    go true true i j r = let m20 : m ≡ 20 = grind (arith, j) in let n14 : n ≡ 14 = omega (arith, l, le_of i) in
        rw (m20, n14) (subst (λ z. LeftStart 14 (k.Keyword 20) z) (some_inj left.Lambda x r) (λ p. (_, G.lambda p)))
      where
        le_of : nat_le 14 n ≡ true → 14 ≤ n
        le_of h = grind (arith, h)
    go true false i j r = no (sym (ap is_some r))
    go false b i j r = no (sym (ap is_some r))

pub left_start : (n : ℕ) (κ : TokenKind) (x : Construct) → n ≤ 14 → left_at n κ ≡ Some x → LeftStart n κ x
left_start n (k.Other other.Float) x l e = subst (λ z. LeftStart n (k.Other other.Float) z) (some_inj left.Float x e)
    (λ p. (_, lift n l (G.float p)))
left_start n (k.Other other.Long) x l e = subst (λ z. LeftStart n (k.Other other.Long) z) (some_inj left.Long x e)
    (λ p. (_, lift n l (G.long p)))
left_start n (k.Other other.Unicode) x l e =
    subst (λ z. LeftStart n (k.Other other.Unicode) z) (some_inj left.Unicode x e)
    (λ p. (_, lift n l (G.strings (G.unicode p))))
left_start n (k.Op m) x l e = left_op n m x l e
left_start n (k.Keyword m) x l e = left_word n m x l e
left_start n (k.Name m) x l e = no (sym (ap is_some e))
left_start n (k.Int m) x l e = no (sym (ap is_some e))
left_start n (k.Str m) x l e = no (sym (ap is_some e))
left_start n k.Newline x l e = no (sym (ap is_some e))
left_start n k.Indent x l e = no (sym (ap is_some e))
left_start n k.Dedent x l e = no (sym (ap is_some e))
left_start n k.End x l e = no (sym (ap is_some e))

pub told_no_start : {A : Type 0} {y : ℕ} {pre ts : List Token} {Q : A → List Token → Type 0} (n d : ℕ) (κ : TokenKind)
    → n ≤ 14 → first ts ≡ κ → Opens low pre → Hole n d pre → Told y pre ts (λ us. Err (no_start (left_at n κ), us)) Q
    (Err (no_start (left_at n κ), ts))
told_no_start {y = y} {pre = pre} {ts = ts} {Q = Q} n d κ l e o hole = go (left_at n κ) refl
  where
    go : (x : Option Construct) → left_at n κ ≡ x → Told y pre ts (λ us. Err (no_start (left_at n κ), us)) Q
        (Err (no_start (left_at n κ), ts))
    go (Some x) q = rw q (told_left κ e o (λ p. hole (marked x) _ _ (left_start n κ x l q p).1 free))
    go None q = rw q (told_refused o)

module _ (w y g d : ℕ) (under' under : Below) (below : Unders y g d under' under) where
  tell_dict_close : (p p2 : Place) (pre : List Token) (a b : Expr) (fs gs ts : List Token) → length ts ≤ g →
      ((x : Marks) → Is x 14 a fs) → ((x : Marks) → Is x 14 b gs) → height a ≤ d → height b ≤ d → Hole 0 (suc d) pre →
      Told y ((((pre ++ at c.open_brace p ∷ []) ++ fs) ++ at c.colon p2 ∷ []) ++ gs) ts
      (λ us. dict_close under' (more w g) (of a) (of b, us))
      (λ v us. Read 0 (suc d) v (at c.open_brace p ∷ (fs ++ at c.colon p2 ∷ (gs ++ us))))
      (dict_close under g (of a) (of b, ts))
  tell_dict_close p p2 pre a b fs gs ts l is is2 h h2 hole =
      let ab : Pair = record { key = a; value = b } in
      let o : Opens low ((((pre ++ at c.open_brace p ∷ []) ++ fs) ++ at c.colon p2 ∷ []) ++ gs) =
      on (at c.close_brace p0 ∷ []) (simp append_assoc)
      (hole low (ex.Dict (ab ∷ [])) _ (G.dict p p0 (G.pair p2 (is None) (is2 None)))
      (λ z. omega (arith, h, h2, hh.height_dict (ab ∷ [])))) in
      told_word (is_keyword 13) c.for_ (only_keyword 13) refl
      (λ q us e. told_left c.for_ (ap first e) o
      (λ i. here (simp append_assoc)
      (hole (marked left.Comprehension) (ex.Dict (ab ∷ [])) _
      (G.dict_of p p2 i (is (Some left.Comprehension)) (is2 (Some left.Comprehension))) free)))
      (λ e1. told_bind _ _ _ (tell_pairs w y g d (under'.read 14) (under.read 14) (below.read 14 (omega arith)) g
      (push_pair (plain [] 0) (of a) (of b)) refl _ ts l (omega arith)
      (λ m ps vs r j. on (at c.close_brace p0 ∷ []) (simp append_assoc)
      (hole m (ex.Dict (ab ∷ ps)) _ (G.dict p p0 (then_pairs p2 (is m.marks) (is2 m.marks) r))
      (λ z. omega (arith, j z, h, h2, hh.height_dict (ab ∷ ps))))))
      (λ v ks rest e2 r. told_need 37 _ _
      (on (at c.close_brace p0 ∷ []) (simp append_assoc)
      (hole low (ex.Dict (ab ∷ r.0)) _ (G.dict p p0 (then_pairs p2 (is None) (is2 None) (r.2 None)))
      (λ z. omega (arith, r.3, h, h2, hh.height_dict (ab ∷ r.0)))))
      (λ q2 us2 e3. told_done (
        ex.Dict (ab ∷ r.0),
        ap of_dict (r.1 ∙ push_pairs (plain [] 0) a b r.0) ∙
            as_dict (ab ∷ r.0),
        (λ x. move (Is x 0 _) (simp append_assoc)
            (G.dict p q2 (then_pairs p2 (is x) (is2 x) (r.2 x)))),
        omega (arith, r.3, h, h2, hh.height_dict (ab ∷ r.0)),
      ))))

  tell_dict_value : (p : Place) (pre : List Token) (a : Expr) (fs ts : List Token) → length ts ≤ g →
      ((x : Marks) → Is x 14 a fs) → height a ≤ d → Hole 0 (suc d) pre →
      Told y ((pre ++ at c.open_brace p ∷ []) ++ fs) ts (λ us. dict_value under' (more w g) (of a, us))
      (λ v us. Read 0 (suc d) v (at c.open_brace p ∷ (fs ++ us))) (dict_value under g (of a, ts))
  tell_dict_value p pre a fs ts l is h hole =
      let aa : Pair = record { key = a; value = a } in let an : Pair = record { key = a; value = ex.Name [] } in
      let o : Opens low ((pre ++ at c.open_brace p ∷ []) ++ fs) = on (at c.colon p0 ∷ word ++ at c.close_brace p0 ∷ [])
      (simp append_assoc) (hole low (ex.Dict (an ∷ [])) _
      (G.dict p p0 (G.pair p0 (is None) (is_word 14 None (omega arith))))
      (λ z. omega (arith, h, hh.height_pos a, hh.height_name [], hh.height_dict (an ∷ [])))) in
      told_word (is_op 39) c.colon (only_op 39) refl
      (λ p2 us q. rw q (told_take (told_read 14 d _ _
      (below.read 14 (omega arith) (((pre ++ at c.open_brace p ∷ []) ++ fs) ++ at c.colon p2 ∷ []) us
      (omega (arith, l, ap length q))
      (on (word ++ at c.close_brace p0 ∷ []) (simp append_assoc)
      (hole low (ex.Dict (an ∷ [])) _ (G.dict p p0 (G.pair p2 (is None) (is_word 14 None (omega arith))))
      (λ z. omega (arith, h, hh.height_pos a, hh.height_name [], hh.height_dict (an ∷ [])))))
      (λ m b vs r j. let ab : Pair = record { key = a; value = b } in
      on (at c.close_brace p0 ∷ []) (simp append_assoc)
      (hole m (ex.Dict (ab ∷ [])) _ (G.dict p p0 (G.pair p2 (is m.marks) r))
      (λ z. omega (arith, h, j z, hh.height_dict (ab ∷ []))))))
      (λ b gs rest q2 is2 h2. tell_dict_close p p2 pre a b fs gs rest
      (omega (arith, l, ap length q, length_after us gs rest q2)) is is2 h h2 hole))))
      (λ e1. told_if (λ κ. is_op 38 κ || is_op 37 κ)
      (λ t. elim (either (is_op 38 (first ts)) (is_op 37 (first ts)) t) [
        | inl q ↦ told_left c.comma (only_op 38 (first ts) q) o
            (λ i. here (simp append_assoc)
            (hole (marked left.Set) (ex.Dict (aa ∷ [])) _ (G.set p i (is (Some left.Set))) free))
        | inr q ↦ told_left c.close_brace (only_op 37 (first ts) q) o
            (λ i. here (simp append_assoc)
            (hole (marked left.Set) (ex.Dict (aa ∷ [])) _ (G.set_one p i (is (Some left.Set))) free))
      ])
      (λ e2. told_word (is_keyword 13) c.for_ (only_keyword 13) refl
      (λ q us e. told_left c.for_ (ap first e) o
      (λ i. here (simp append_assoc)
      (hole (marked left.Comprehension) (ex.Dict (aa ∷ [])) _ (G.set_of p i (is (Some left.Comprehension))) free)))
      (λ e3. told_refused o)))

  tell_dict : (p : Place) (pre ts : List Token) → length ts ≤ g → Hole 0 (suc d) pre →
      Told y (pre ++ at c.open_brace p ∷ []) ts (dict_at under' (more w g))
      (λ v us. Read 0 (suc d) v (at c.open_brace p ∷ us)) (dict_at under g ts)
  unfolding dict_at
  tell_dict p pre ts l hole =
      let o : Opens low (pre ++ at c.open_brace p ∷ []) =
      on (at c.close_brace p0 ∷ []) (simp append_assoc)
      (hole low (ex.Dict []) _ (G.no_dict None p p0) (λ b. omega (arith, hh.height_dict []))) in
      told_word (is_op 37) c.close_brace (only_op 37) refl
      (λ q us e. rw e (told_take (told_done (
        ex.Dict [],
        as_dict [],
        (λ x. G.no_dict x p q),
        omega (arith, hh.height_dict []),
      ))))
      (λ e1. told_read 14 d _ _ (below.read 14 (omega arith) (pre ++ at c.open_brace p ∷ []) ts l o
      (λ m a us r h. let an : Pair = record { key = a; value = ex.Name [] } in
      on (at c.colon p0 ∷ word ++ at c.close_brace p0 ∷ []) (simp append_assoc)
      (hole m (ex.Dict (an ∷ [])) _ (G.dict p p0 (G.pair p0 r (is_word 14 m.marks (omega arith))))
      (λ b. omega (arith, h b, hh.height_pos a, hh.height_name [], hh.height_dict (an ∷ []))))))
      (λ a fs rest q is h. tell_dict_value p pre a fs rest (omega (arith, l, length_after ts fs rest q)) is h hole))

  tell_op_atom : (n : ℕ) (pre ts : List Token) → first ts ≡ k.Op n → length ts ≤ g → Opens low pre → Hole 0 (suc d) pre
      → Told y pre ts (atom_of under' (more w g) (k.Op n)) (Read 0 (suc d)) (atom_of under g (k.Op n) ts)
  tell_op_atom n pre ts q l o hole = go (n == 32) (n == 34) (n == 36) refl refl refl
    where
      is_the : (m : ℕ) → (n == m) ≡ true → first ts ≡ k.Op m
      is_the m e = q ∙ ap (λ z. k.Op z) (grind (arith, e))

      go : (a b d' : Bool) → (n == 32) ≡ a → (n == 34) ≡ b → (n == 36) ≡ d' →
          Told y pre ts (atom_of under' (more w g) (k.Op n)) (Read 0 (suc d)) (atom_of under g (k.Op n) ts)
      go true b d' i j m = let h = there ts c.open_round (is_the 32 i) (λ z. cc) in
          told_same {X' = λ us. round_at under' (more w g) (rest us)} {q = round_at under g (rest ts)} (rw i refl)
          (λ us s. rw i refl) (rw h.2
          (told_take (tell_round w y g d under' under below h.0 pre h.1 (omega (arith, l, ap length h.2)) hole)))
      go false true d' i j m = let h = there ts c.open_square (is_the 34 j) (λ z. cc) in
          told_same {X' = λ us. list_at under' (more w g) (rest us)} {q = list_at under g (rest ts)} (rw i (rw j refl))
          (λ us s. rw i (rw j refl))
          (rw h.2 (told_take (tell_list w y g d under' under below h.0 pre h.1 (omega (arith, l, ap length h.2))
          hole)))
      go false false true i j m = let h = there ts c.open_brace (is_the 36 m) (λ z. cc) in
          told_same {X' = λ us. dict_at under' (more w g) (rest us)} {q = dict_at under g (rest ts)}
          (rw i (rw j (rw m refl))) (λ us s. rw i (rw j (rw m refl)))
          (rw h.2 (told_take (tell_dict h.0 pre h.1 (omega (arith, l, ap length h.2)) hole)))
      go false false false i j m =
          told_same {X' = λ us. Err (no_start (left_at 0 (k.Op n)), us)} {q = Err (no_start (left_at 0 (k.Op n)), ts)}
          (rw i (rw j (rw m refl))) (λ us s. rw i (rw j (rw m refl)))
          (told_no_start 0 (suc d) (k.Op n) (omega arith) q o hole)

  pub tell_atom : (pre ts : List Token) → length ts ≤ g → Opens low pre → Hole 0 (suc d) pre →
      Told y pre ts (atom_at under' (more w g)) (Read 0 (suc d)) (atom_at under g ts)
  unfolding atom_at
  tell_atom pre ts l o hole = told_kind (λ κ us. atom_of under' (more w g) κ us) (go (first ts) refl)
    where
      go : (κ : TokenKind) → first ts ≡ κ → Told y pre ts (atom_of under' (more w g) κ) (Read 0 (suc d))
          (atom_of under g κ ts)
      go (k.Name n) q = let h = there ts (k.Name n) q (λ z. cc) in
          rw h.2 (told_take (told_done (ex.Name n, as_name n, (λ x. G.name x n h.0), omega (arith, hh.height_name n))))
      go (k.Int n) q = let h = there ts (k.Int n) q (λ z. cc) in
          rw h.2 (told_take (told_done (ex.Int n, as_int n, (λ x. G.int x n h.0), omega (arith, hh.height_int n))))
      go (k.Str n) q = let h = there ts (k.Str n) q (λ z. cc) in rw h.2 (told_take (told_map of_string
          (tell_strings w y g n (pre ++ at (k.Str n) h.0 ∷ []) h.1 (omega (arith, l, ap length h.2))
          (λ m r us i. here (simp append_assoc)
          (hole m (ex.Str (n ++ r)) _ (G.strings (then_strings n h.0 i))
          (λ b. omega (arith, hh.height_str (n ++ r))))))
          (λ v fs r. (
            ex.Str (n ++ r.0),
            ap of_string r.1 ∙ as_string (n ++ r.0),
            (λ x. G.strings (then_strings n h.0 (r.2 x))),
            omega (arith, hh.height_str (n ++ r.0)),
          ))))
      go (k.Op n) q = tell_op_atom n pre ts q l o hole
      go (k.Keyword n) q = told_no_start 0 (suc d) (k.Keyword n) (omega arith) q o hole
      go k.Newline q = told_no_start 0 (suc d) k.Newline (omega arith) q o hole
      go k.Indent q = told_no_start 0 (suc d) k.Indent (omega arith) q o hole
      go k.Dedent q = told_no_start 0 (suc d) k.Dedent (omega arith) q o hole
      go k.End q = told_no_start 0 (suc d) k.End (omega arith) q o hole
      go (k.Other x) q = told_no_start 0 (suc d) (k.Other x) (omega arith) q o hole
