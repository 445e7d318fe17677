-- What reading a level of expressions tells, and reading with a budget.
use Rattle.std.proofs.Common.{◌≡◌, ℕ, zero, suc, ◌+◌, ◌-◌, ◌<◌, ◌≤◌, ◌==◌, nat_lt, nat_le, Bool, true, false, ◌&&◌, ◌||◌, List, [], ◌∷◌, ◌++◌, length, Ok, Err, Option, Some, None, inl, inr, refl, sym, ap, ◌∙◌, subst, append_assoc, append-nil, arith, if◌then◌else◌}
use Rattle.std.proofs.lemmas.Bool.{and_parts}
use Rattle.py_tokens.specs.declared.token.Token.{Token}
use Rattle.py_tokens.specs.declared.token.TokenKind.{TokenKind}
use Rattle.py_tokens.specs.declared.token.TokenKind.TheVariants as k
use Rattle.py_tokens.specs.declared.token.Other.TheVariants as other
use Rattle.py_tokens.specs.declared.token.Place.{Place}
use Rattle.py_tokens.specs.Place.{token_at as at}
use Rattle.py_tree.specs.declared.expr.Expr.{Expr}
use Rattle.py_tree.specs.declared.expr.Expr.TheVariants as ex
use Rattle.py_tree.specs.declared.expr.Link.{Link}
use Rattle.py_tree.specs.declared.expr.Sign.{Sign}
use Rattle.py_tree.specs.declared.expr.Sign.TheVariants as sign
use Rattle.py_tree.specs.declared.expr.Level.{Level}
use Rattle.py_tree.specs.declared.expr.Level.TheVariants as level
use Rattle.py_tree.specs.declared.expr.Operator.{Operator}
use Rattle.py_tree.specs.Height.{height}
use Rattle.py_tree.proofs.Heights as hh
use Rattle.py_base.specs.declared.refusal.Construct.{Construct}
use Rattle.py_base.specs.declared.refusal.Construct.TheVariants as left
use Rattle.py_grammar.specs.declared.fault.Fault.{Fault}
use Rattle.py_grammar.specs.declared.fault.Fault.TheVariants.{Unexpected, Deep}
use Rattle.py_grammar.specs.Codes as c
use Rattle.py_grammar.specs.Words.{more_words, below, sign_word}
use Rattle.py_grammar.specs.Grammar as G
use Rattle.py_grammar.specs.Grammar.{Marks, Is, Strings, Tests, Commas, Exprs, Pairs, Links, Trailers, Trails, Maybe, Args}
use Rattle.py_grammar.specs.declared.tall.Tall.{Tall}
use Rattle.py_grammar.specs.inner.Tall.{plain, start as start', of_tuple, of_power, of_sign, of_chain, of_not, of_choice}
use Rattle.py_grammar.specs.declared.rung.Rung.{Rung}
use Rattle.py_grammar.specs.declared.rung.Rung.TheVariants.{Trailed, Powered, Signed, Chained, Negated, Chosen, Listed}
use Rattle.py_grammar.specs.inner.Reading.{operator_of, too_deep, no_start, Test, ◌>>=◌, Below, first, is_op, is_keyword, starts, left_at, is_some, rung_of, rung_at, level_at, reads, atom_at, trail_at, power_at, chain_at, choice_at, after_at, signed, sign_of, links, links_at, atom_of}
use Rattle.py_grammar.proofs.Steps.{of, none_of}
use Rattle.py_grammar.proofs.Facts.{or_mono, and_mono, below_small, no, some_inj}
use Rattle.py_grammar.proofs.Values.{plus_links, as_tuple, as_power, as_sign, as_chain, as_not, as_choice}
use Rattle.py_grammar.specs.inner.Follow.{heads}
use Rattle.py_grammar.proofs.Told.{Stays, Beyond, Mode, any, low, marked, Fits, Opens, alone, same_first, more, Told, told_done, told_left, told_if, told_deep, told_post, told_take, told_word, told_map, told_kind, on, here, move, bare, there}
use Rattle.py_grammar.proofs.Tells.{only_op, only_keyword, Hole, Read, Tell, told_read, told_need_word, p0, word, is_word, free, length_after, trailing, AfterTest, itself, tupled, tell_commas}
use Rattle.py_grammar.proofs.Atoms.{tell_atom, Unders, lift, left_start, either}
use Rattle.py_grammar.proofs.Trails.{tell_trail}
use Rattle.py_grammar.proofs.Rungs.{known, tell_some_links, low_level}

raise : {x : Marks} {a : Expr} {ts : List Token} (j n m : ℕ) → m ≡ j + n → m ≤ 14 → Is x n a ts → Is x m a ts
raise zero n m e l p = let i : m ≡ n = omega (arith, e) in rw i p
raise {x = x} {a = a} {ts = ts} (suc j) n m e l p = let i : m ≡ suc (j + n) = omega (arith, e) in
    rw i (G.up (j + n) (omega (arith, l, i)) (raise j n (j + n) refl (omega (arith, l, i)) p))

pub up_to : {x : Marks} {a : Expr} {ts : List Token} (n m : ℕ) → n ≤ m → m ≤ 14 → Is x n a ts → Is x m a ts
up_to n m i l p = raise (m - n) n m (omega (arith, i)) l p

-- ---- what begins an expression of a level

abbrev Started : ℕ → TokenKind → Type 0
Started n κ = (p : Place) → (us : List Token) × (a : Expr) × Is None n a (at κ p ∷ us)

start_op : (n m : ℕ) → n ≤ 14 → starts n (k.Op m) ≡ true → Started n (k.Op m)
start_op n m l e = elim (either (m == 32) _ e) [
  | inl q ↦ rw (op_eq m 32 q) (λ p. (at c.close_round p0 ∷ [], ex.Tuple [], lift n l (G.unit None p p0)))
  | inr e2 ↦ elim (either (m == 34) _ e2) [
    | inl q ↦ rw (op_eq m 34 q) (λ p. (at c.close_square p0 ∷ [], ex.List [], lift n l (G.no_list None p p0)))
    | inr e3 ↦ elim (either (m == 36) _ e3) [
      | inl q ↦ rw (op_eq m 36 q) (λ p. (at c.close_brace p0 ∷ [], ex.Dict [], lift n l (G.no_dict None p p0)))
      | inr e4 ↦ let h = (and_parts (nat_le 3 n) _ e4).0 in let three : 3 ≤ n = grind (arith, h) in
          elim (either (m == 21) _ (and_parts (nat_le 3 n) _ e4).1) [
            | inl q ↦ rw (op_eq m 21 q) (λ p. (
              word,
              ex.Unary sign.Plus (ex.Name []),
              up_to 3 n three l (G.signed sign.Plus p (is_word 3 None (omega arith))),
            ))
            | inr e5 ↦ elim (either (m == 22) _ e5) [
              | inl q ↦ rw (op_eq m 22 q) (λ p. (
                word,
                ex.Unary sign.Minus (ex.Name []),
                up_to 3 n three l (G.signed sign.Minus p (is_word 3 None (omega arith))),
              ))
              | inr q ↦ rw (op_eq m 29 q) (λ p. (
                word,
                ex.Unary sign.Invert (ex.Name []),
                up_to 3 n three l (G.signed sign.Invert p (is_word 3 None (omega arith))),
              ))
            ]
          ]
    ]
  ]
]
  where
    op_eq : (m n : ℕ) → (m == n) ≡ true → k.Op m ≡ k.Op n
    op_eq m n b = ap (λ z. k.Op z) (grind (arith, b))

pub start : (n : ℕ) (κ : TokenKind) → n ≤ 14 → starts n κ ≡ true → Started n κ
start n (k.Name s) l e = λ p. ([], ex.Name s, lift n l (G.name None s p))
start n (k.Int s) l e = λ p. ([], ex.Int s, lift n l (G.int None s p))
start n (k.Str s) l e = λ p. ([], ex.Str s, lift n l (G.strings (G.one None s p)))
start n (k.Op m) l e = start_op n m l e
start n (k.Keyword m) l e = let h = (and_parts (nat_le 11 n) _ e).0 in let eleven : 11 ≤ n = grind (arith, h) in
    let q = (and_parts (nat_le 11 n) _ e).1 in let i : m ≡ 21 = grind (arith, q) in
    rw i (λ p. (word, ex.Not (ex.Name []), up_to 11 n eleven l (G.negated p (is_word 11 None (omega arith)))))
start n k.Newline l e = no (sym e)
start n k.Indent l e = no (sym e)
start n k.Dedent l e = no (sym e)
start n k.End l e = no (sym e)
start n (k.Other o) l e = no (sym e)

sign_is : (κ : TokenKind) (s : Sign) → sign_of κ ≡ Some s → κ ≡ sign_word s
sign_is (k.Op n) s e = go (n == 21) (n == 22) (n == 29) refl refl refl e
  where
    go : (a b d : Bool) → (n == 21) ≡ a → (n == 22) ≡ b → (n == 29) ≡ d →
        (if a then Some sign.Plus else (if b then Some sign.Minus else (if d then Some sign.Invert else None))) ≡ Some
        s → k.Op n ≡ sign_word s
    go true b d i j m r = ap (λ z. k.Op z) (grind (arith, i)) ∙ ap sign_word (some_sign sign.Plus s r)
      where
        some_sign : (a b : Sign) → Some a ≡ Some b → a ≡ b
        some_sign a b q = some_inj a b q
    go false true d i j m r = ap (λ z. k.Op z) (grind (arith, j)) ∙ ap sign_word (some_inj sign.Minus s r)
    go false false true i j m r = ap (λ z. k.Op z) (grind (arith, m)) ∙ ap sign_word (some_inj sign.Invert s r)
    go false false false i j m r = no (sym (ap is_some r))
sign_is κ s e = no (sym (ap is_some e))

sign_begins : (s : Sign) → sign_word s ≡ k.End → ⊥
sign_begins sign.Plus e = cc
sign_begins sign.Minus e = cc
sign_begins sign.Invert e = cc

pub link_start : (l : Level) (κ : TokenKind) (o : Operator) → operator_of l κ ≡ Some o → (p : Place) →
    (us : List Token) × (ls : List Link) × Links None l ls (at κ p ∷ us)
link_start l κ o e p = let kn = known l κ o e in
    rw kn.1 (
      more_words o p0 ++ word,
      record { operator = o; operand = ex.Name [] } ∷ [],
      G.link l o p p0 kn.0 (is_word (below l) None (low_level l)),
    )

module _ (w y g d : ℕ) (under' under : Below) (below' : Unders y g d under' under) where
  pub tell_power : (pre : List Token) (a : Expr) (fs ts : List Token) → length ts ≤ g → ((x : Marks) → Is x 1 a fs) →
      height a ≤ suc d → Hole 2 (suc d) pre →
      Told y (pre ++ fs) ts (λ us. power_at under' (more y (suc d)) (of a, us)) (λ v us. Read 2 (suc d) v (fs ++ us))
      (power_at under (suc d) (of a, ts))
  unfolding power_at
  tell_power pre a fs ts l is h hole =
      let o : Opens low (pre ++ fs) = hole low a _ (G.up 1 (omega arith) (is None)) (λ b. h) in
      told_word (is_op 4) c.power (only_op 4) refl
      (λ p us q. told_deep (suc d) (height a + 1) c.power (ap first q) o
      (λ i. on word (simp append_assoc)
      (hole any (ex.Power a (ex.Name [])) _ (G.power i (is None) (is_word 3 None (omega arith))) free))
      (λ deep. rw q (told_take (told_map (of_power (of a))
      (below'.read 3 (omega arith) ((pre ++ fs) ++ at c.power p ∷ []) us (omega (arith, l, ap length q))
      (on word (simp append_assoc) (hole low (ex.Power a (ex.Name [])) _
      (G.power p (is None) (is_word 3 None (omega arith)))
      (λ b. omega (arith, deep, hh.height_pos a, hh.height_name [], hh.height_power a (ex.Name [])))))
      (λ m b us r j. here (simp append_assoc)
      (hole m (ex.Power a b) _ (G.power p (is m.marks) r) (λ z. omega (arith, deep, j z, hh.height_power a b)))))
      (λ v us r. (
        ex.Power a r.0,
        ap (of_power (of a)) r.1 ∙ as_power a r.0,
        (λ x. G.power p (is x) (r.2 x)),
        omega (arith, deep, r.3, hh.height_power a r.0),
      ))))))
      (λ e. told_done (a, refl, (λ x. move (Is x 2 a) (sym (append-nil fs)) (G.up 1 (omega arith) (is x))), h))

  tell_signed : (operand' operand : Test) (pre ts : List Token) → length ts ≤ g → Opens low pre → Hole 3 (suc d) pre →
      Told y pre ts operand' (Read 2 (suc d)) (operand ts) →
      Told y pre ts (λ us. signed under' (more y (suc d)) operand' (sign_of (first us)) us) (Read 3 (suc d))
      (signed under (suc d) operand (sign_of (first ts)) ts)
  tell_signed operand' operand pre ts l o hole tell =
      told_kind (λ κ us. signed under' (more y (suc d)) operand' (sign_of κ) us) (go (sign_of (first ts)) refl)
    where
      go : (s : Option Sign) → sign_of (first ts) ≡ s →
          Told y pre ts (signed under' (more y (suc d)) operand' (sign_of (first ts))) (Read 3 (suc d))
          (signed under (suc d) operand (sign_of (first ts)) ts)
      go None e = rw e (told_post (λ v fs r. (r.0, r.1, (λ x. G.up 2 (omega arith) (r.2 x)), r.3)) tell)
      go (Some s) e = let i = sign_is (first ts) s e in
          rw e (told_deep (suc d) 2 (sign_word s) i o
          (λ p. on word (simp append_assoc)
          (hole any (ex.Unary s (ex.Name [])) _ (G.signed s p (is_word 3 None (omega arith))) free))
          (λ deep. let t = there ts (sign_word s) i (sign_begins s) in
          rw t.2 (told_take (told_map (of_sign s)
          (below'.read 3 (omega arith) (pre ++ at (sign_word s) t.0 ∷ []) t.1 (omega (arith, l, ap length t.2))
          (on word (simp append_assoc) (hole low (ex.Unary s (ex.Name [])) _
          (G.signed s t.0 (is_word 3 None (omega arith)))
          (λ b. omega (arith, deep, hh.height_name [], hh.height_unary s (ex.Name [])))))
          (λ m a us r j. here (simp append_assoc)
          (hole m (ex.Unary s a) _ (G.signed s t.0 r) (λ b. omega (arith, j b, hh.height_unary s a)))))
          (λ v us r. (
            ex.Unary s r.0,
            ap (of_sign s) r.1 ∙ as_sign s r.0,
            (λ x. G.signed s t.0 (r.2 x)),
            omega (arith, r.3, hh.height_unary s r.0),
          ))))))

  pub tell_chain : (l : Level) (pre : List Token) (a : Expr) (fs ts : List Token) → length ts ≤ g →
      ((x : Marks) → Is x (below l) a fs) → height a ≤ suc d → Hole (suc (below l)) (suc d) pre →
      Told y (pre ++ fs) ts (λ us. chain_at l (under'.read (below l)) (more w g) (more y (suc d)) (of a, us))
      (λ v us. Read (suc (below l)) (suc d) v (fs ++ us)) (chain_at l (under.read (below l)) g (suc d) (of a, ts))
  unfolding chain_at
  tell_chain l pre a fs ts len is h hole = told_if (links l) (λ e. some (operator_of l (first ts)) refl e)
      (λ e. told_done (
        a,
        refl,
        (λ x. move (Is x (suc (below l)) a) (sym (append-nil fs))
            (G.up (below l) (omega (arith, below_small l)) (is x))),
        h,
      ))
    where
      chain_value : (v : Tall (List Link)) (ls : List Link) → v ≡ plus_links (plain [] 0) ls →
          of_chain l (of a) v ≡ of (ex.Chain l a ls)
      chain_value v ls e = ap (of_chain l (of a)) e ∙ as_chain l a ls

      some : (s : Option Operator) → operator_of l (first ts) ≡ s → links l (first ts) ≡ true →
          Told y (pre ++ fs) ts (λ us. if nat_lt (more y (suc d)) (height a + 1) then Err (Deep, us) else
          (links_at l (under'.read (below l)) (more w g) (plain [] 0) us >>= λ ls. Ok (of_chain l (of a) ls.0, ls.1)))
          (λ v us. Read (suc (below l)) (suc d) v (fs ++ us))
          (if nat_lt (suc d) (height a + 1) then Err (Deep, ts) else
          (links_at l (under.read (below l)) g (plain [] 0) ts >>= λ ls. Ok (of_chain l (of a) ls.0, ls.1)))
      some None q e = no (sym e ∙ ap is_some q)
      some (Some o) q e = told_deep (suc d) (height a + 1) (first ts) refl
          (hole low a _ (G.up (below l) (omega (arith, below_small l)) (is None)) (λ b. h))
          (λ p. let s = link_start l (first ts) o q p in
          on s.0 (simp append_assoc) (hole any (ex.Chain l a s.1) _ (G.chain l (is None) s.2) free))
          (λ deep. told_map (of_chain l (of a))
          (tell_some_links w y g d l (under'.read (below l)) (under.read (below l))
          (below'.read (below l) (low_level l)) g (plain [] 0) (pre ++ fs) ts o q len (omega arith)
          (omega (arith, deep, hh.height_pos a))
          (λ m ls us r j. here (simp append_assoc)
          (hole m (ex.Chain l a ls) _ (G.chain l (is m.marks) r)
          (λ b. omega (arith, deep, j b, hh.height_chain l a ls)))))
          (λ v us r. (
            ex.Chain l a r.0,
            chain_value v r.0 r.1,
            (λ x. G.chain l (is x) (r.2 x)),
            omega (arith, deep, r.3, hh.height_chain l a r.0),
          )))

  tell_negated : (operand' operand : Test) (pre ts : List Token) → length ts ≤ g → Opens low pre → Hole 11 (suc d) pre
      → Told y pre ts operand' (Read 10 (suc d)) (operand ts) →
      Told y pre ts (rung_at Negated under' (more w g) (more y (suc d)) operand') (Read 11 (suc d))
      (rung_at Negated under g (suc d) operand ts)
  tell_negated operand' operand pre ts l o hole tell = told_word (is_keyword 21) c.not_ (only_keyword 21) refl
      (λ p us q. told_deep (suc d) 2 c.not_ (ap first q) o
      (λ i. on word (simp append_assoc)
      (hole any (ex.Not (ex.Name [])) _ (G.negated i (is_word 11 None (omega arith))) free))
      (λ deep. rw q (told_take (told_map of_not
      (below'.read 11 (omega arith) (pre ++ at c.not_ p ∷ []) us (omega (arith, l, ap length q))
      (on word (simp append_assoc) (hole low (ex.Not (ex.Name [])) _ (G.negated p (is_word 11 None (omega arith)))
      (λ b. omega (arith, deep, hh.height_name [], hh.height_not (ex.Name [])))))
      (λ m a us r j. here (simp append_assoc)
      (hole m (ex.Not a) _ (G.negated p r) (λ b. omega (arith, j b, hh.height_not a)))))
      (λ v us r. (
        ex.Not r.0,
        ap of_not r.1 ∙ as_not r.0,
        (λ x. G.negated p (r.2 x)),
        omega (arith, r.3, hh.height_not r.0),
      ))))))
      (λ e. told_post (λ v fs r. (r.0, r.1, (λ x. G.up 10 (omega arith) (r.2 x)), r.3)) tell)

  pub tell_choice : (pre : List Token) (a : Expr) (fs ts : List Token) → length ts ≤ g → ((x : Marks) → Is x 13 a fs) →
      height a ≤ suc d → Hole 14 (suc d) pre →
      Told y (pre ++ fs) ts (λ us. choice_at under' (more y (suc d)) (of a, us)) (λ v us. Read 14 (suc d) v (fs ++ us))
      (choice_at under (suc d) (of a, ts))
  unfolding choice_at
  tell_choice pre a fs ts l is h hole =
      let n14 : (x : Marks) → Is x 14 (ex.Name []) word = λ x. is_word 14 x (omega arith) in
      let n13 : (x : Marks) → Is x 13 (ex.Name []) word = λ x. is_word 13 x (omega arith) in
      let o : Opens low (pre ++ fs) = hole low a _ (G.up 13 (omega arith) (is None)) (λ b. h) in
      told_word (is_keyword 16) c.if_ (only_keyword 16) refl
      (λ p us q. told_deep (suc d) (height a + 1) c.if_ (ap first q) o
      (λ i. on (word ++ at c.else_ p0 ∷ word) (simp append_assoc)
      (hole any (ex.Choice a (ex.Name []) (ex.Name [])) _ (G.choice i p0 (is None) (n13 None) (n14 None)) free))
      (λ deep. rw q (told_take (told_read 13 d _ _
      (below'.read 13 (omega arith) ((pre ++ fs) ++ at c.if_ p ∷ []) us (omega (arith, l, ap length q))
      (on (word ++ at c.else_ p0 ∷ word) (simp append_assoc)
      (hole low (ex.Choice a (ex.Name []) (ex.Name [])) _ (G.choice p p0 (is None) (n13 None) (n14 None))
      (λ b. omega (arith, deep, hh.height_pos a, hh.height_name [], hh.height_choice a (ex.Name []) (ex.Name [])))))
      (λ m b us r j. on (at c.else_ p0 ∷ word) (simp append_assoc)
      (hole m (ex.Choice a b (ex.Name [])) _ (G.choice p p0 (is m.marks) r (n14 m.marks))
      (λ z. omega (arith, deep, j z, hh.height_pos a, hh.height_name [], hh.height_choice a b (ex.Name []))))))
      (λ b gs rest q2 is2 h2. told_need_word 9 _ _
      (on (at c.else_ p0 ∷ word) (simp append_assoc)
      (hole low (ex.Choice a b (ex.Name [])) _ (G.choice p p0 (is None) (is2 None) (n14 None))
      (λ z. omega (arith, deep, h2, hh.height_pos a, hh.height_name [], hh.height_choice a b (ex.Name [])))))
      (λ p2 us2 q3. told_map (of_choice (of a) (of b))
      (below'.read 14 (omega arith) ((((pre ++ fs) ++ at c.if_ p ∷ []) ++ gs) ++ at c.else_ p2 ∷ []) us2
      (omega (arith, l, ap length q, length_after us gs rest q2, ap length q3))
      (on word (simp append_assoc) (hole low (ex.Choice a b (ex.Name [])) _
      (G.choice p p2 (is None) (is2 None) (n14 None))
      (λ z. omega (arith, deep, h2, hh.height_pos a, hh.height_name [], hh.height_choice a b (ex.Name [])))))
      (λ m x' us r j. here (simp append_assoc)
      (hole m (ex.Choice a b x') _ (G.choice p p2 (is m.marks) (is2 m.marks) r)
      (λ z. omega (arith, deep, h2, j z, hh.height_choice a b x')))))
      (λ v us r. (
        ex.Choice a b r.0,
        ap (of_choice (of a) (of b)) r.1 ∙ as_choice a b r.0,
        (λ x. move (Is x 14 _) (simp append_assoc) (G.choice p p2 (is x) (is2 x) (r.2 x))),
        omega (arith, deep, h2, r.3, hh.height_choice a b r.0),
      ))))))))
      (λ e. told_done (a, refl, (λ x. move (Is x 14 a) (sym (append-nil fs)) (G.up 13 (omega arith) (is x))), h))

  pub tell_after : (a : Expr) (pre ts : List Token) → length ts ≤ g → height a ≤ suc d →
      ((m : Mode) (b : Expr) (us : List Token) → AfterTest m.marks a b us → Fits m (height b) (suc d) →
      Opens m (pre ++ us)) →
      Told y pre ts (after_at under' (more w g) (more y (suc d)) (of a))
      (λ v fs. (b : Expr) × (v ≡ of b) × ((x : Marks) → AfterTest x a b fs) × (height b ≤ suc d))
      (after_at under g (suc d) (of a) ts)
  unfolding after_at
  tell_after a pre ts l h hole = told_word (is_op 38) c.comma (only_op 38) refl
      (λ p us q. told_deep (suc d) (height a + 1) c.comma (ap first q)
      (bare low pre (hole low a [] (itself None a) (λ b. h)))
      (λ i. hole any (ex.Tuple (a ∷ [])) _ (tupled (trailing None i)) free)
      (λ deep. told_map (λ v. of_tuple v.0)
      (tell_commas w y g d (under'.read 14) (under.read 14) (below'.read 14 (omega arith)) g (start' (of a)) pre ts
      l (omega arith) (ap (λ z. is_op 38 (first z)) q)
      (λ m es b us r j. hole m (ex.Tuple (a ∷ es)) us (tupled r)
      (λ z. omega (arith, deep, j z, hh.height_tuple (a ∷ es)))))
      (λ v fs r. (
        ex.Tuple (a ∷ r.0),
        ap of_tuple r.1 ∙ as_tuple a r.0,
        (λ x. tupled (r.2 x)),
        omega (arith, deep, r.3, hh.height_tuple (a ∷ r.0)),
      ))))
      (λ e. told_done (a, refl, (λ x. itself x a), h))

  tell_chained : (l : Level) (operand' operand : Test) → Tell y g (suc d) (below l) operand' operand →
      Tell y g (suc d) (suc (below l)) (rung_at (Chained l) under' (more w g) (more y (suc d)) operand')
      (rung_at (Chained l) under g (suc d) operand)
  tell_chained l operand' operand tell pre ts len o hole =
      told_read (below l) (suc d) _ _ (tell pre ts len o
      (λ m a us r h. hole m a us (G.up (below l) (omega (arith, below_small l)) r) h))
      (λ a fs rest q is h. tell_chain l pre a fs rest (omega (arith, len, length_after ts fs rest q)) is h hole)

  tell_rung : (n : ℕ) → n < 14 → (operand' operand : Test) → Tell y g (suc d) n operand' operand →
      Tell y g (suc d) (suc n) (rung_at (rung_of n) under' (more w g) (more y (suc d)) operand')
      (rung_at (rung_of n) under g (suc d) operand)
  tell_rung zero i operand' operand tell pre ts l o hole =
      told_read 0 (suc d) _ _ (tell pre ts l o (λ m a us r h. hole m a us (G.up 0 (omega arith) r) h))
      (λ a fs rest q is h. tell_trail w y g d under' under below' pre a fs rest
      (omega (arith, l, length_after ts fs rest q)) is h hole)
  tell_rung (suc zero) i operand' operand tell pre ts l o hole =
      told_read 1 (suc d) _ _ (tell pre ts l o (λ m a us r h. hole m a us (G.up 1 (omega arith) r) h))
      (λ a fs rest q is h. tell_power pre a fs rest (omega (arith, l, length_after ts fs rest q)) is h hole)
  tell_rung (suc (suc zero)) i operand' operand tell pre ts l o hole =
      tell_signed operand' operand pre ts l o hole
      (tell pre ts l o (λ m a us r h. hole m a us (G.up 2 (omega arith) r) h))
  tell_rung (suc (suc (suc zero))) i operand' operand tell pre ts l o hole =
      tell_chained level.Term operand' operand tell pre ts l o hole
  tell_rung (suc (suc (suc (suc zero)))) i operand' operand tell pre ts l o hole =
      tell_chained level.Sum operand' operand tell pre ts l o hole
  tell_rung (suc (suc (suc (suc (suc zero))))) i operand' operand tell pre ts l o hole =
      tell_chained level.Shift operand' operand tell pre ts l o hole
  tell_rung (suc (suc (suc (suc (suc (suc zero)))))) i operand' operand tell pre ts l o hole =
      tell_chained level.BitAnd operand' operand tell pre ts l o hole
  tell_rung (suc (suc (suc (suc (suc (suc (suc zero))))))) i operand' operand tell pre ts l o hole =
      tell_chained level.BitXor operand' operand tell pre ts l o hole
  tell_rung (suc (suc (suc (suc (suc (suc (suc (suc zero)))))))) i operand' operand tell pre ts l o hole =
      tell_chained level.BitOr operand' operand tell pre ts l o hole
  tell_rung (suc (suc (suc (suc (suc (suc (suc (suc (suc zero))))))))) i operand' operand tell pre ts l o hole =
      tell_chained level.Compare operand' operand tell pre ts l o hole
  tell_rung (suc (suc (suc (suc (suc (suc (suc (suc (suc (suc zero)))))))))) i operand' operand tell pre ts l o hole =
      tell_negated operand' operand pre ts l o hole
      (tell pre ts l o (λ m a us r h. hole m a us (G.up 10 (omega arith) r) h))
  tell_rung (suc (suc (suc (suc (suc (suc (suc (suc (suc (suc (suc zero))))))))))) i operand' operand tell pre ts l o
      hole = tell_chained level.And operand' operand tell pre ts l o hole
  tell_rung (suc (suc (suc (suc (suc (suc (suc (suc (suc (suc (suc (suc zero)))))))))))) i operand' operand tell pre ts
      l o hole = tell_chained level.Or operand' operand tell pre ts l o hole
  tell_rung (suc (suc (suc (suc (suc (suc (suc (suc (suc (suc (suc (suc (suc zero))))))))))))) i operand' operand tell
      pre ts l o hole =
      told_word (is_keyword 20) c.lambda_ (only_keyword 20) refl
      (λ p us q. told_left c.lambda_ (ap first q) o (λ i. hole (marked left.Lambda) (ex.Tuple []) _ (G.lambda i) free))
      (λ e. told_read 13 (suc d) _ _ (tell pre ts l o (λ m a us r h. hole m a us (G.up 13 (omega arith) r) h))
      (λ a fs rest q is h. tell_choice pre a fs rest (omega (arith, l, length_after ts fs rest q)) is h hole))
  tell_rung (suc (suc (suc (suc (suc (suc (suc (suc (suc (suc (suc (suc (suc (suc n)))))))))))))) i operand' operand
      tell pre ts l o hole = absurd (omega (arith, i))

  pub tell_level : (n : ℕ) → n ≤ 14 → Tell y g (suc d) n (level_at under' (more w g) (more y (suc d)) n)
      (level_at under g (suc d) n)
  unfolding level_at
  tell_level zero i pre ts l o hole = tell_atom w y g d under' under below' pre ts l o hole
  tell_level (suc n) i pre ts l o hole = tell_rung n (omega (arith, i)) (level_at under' (more w g) (more y (suc d)) n)
      (level_at under g (suc d) n) (tell_level n (omega (arith, i))) pre ts l o hole

-- ---- where nothing begins

abbrev Refuses : Below → ℕ → ℕ → ℕ → List Token → Type 0
Refuses under g d n ts = level_at under g d n ts ≡ Err (no_start (left_at n (first ts)), ts)

or_no_left : (a b : Bool) → (a || b) ≡ false → a ≡ false
or_no_left true b h = no h
or_no_left false b h = refl

or_no_right : (a b : Bool) → (a || b) ≡ false → b ≡ false
or_no_right true b h = no h
or_no_right false b h = h

and_no_right : (a b : Bool) → a ≡ true → (a && b) ≡ false → b ≡ false
and_no_right true b e h = h
and_no_right false b e h = no (sym e)

refuses_atom : (under : Below) (g d : ℕ) (ts : List Token) → starts 0 (first ts) ≡ false → Refuses under g d 0 ts
unfolding level_at atom_at
refuses_atom under g d ts h = go (first ts) h
  where
    go : (κ : TokenKind) → starts 0 κ ≡ false → atom_of under g κ ts ≡ Err (no_start (left_at 0 κ), ts)
    go (k.Name s) h = no h
    go (k.Int s) h = no h
    go (k.Str s) h = no h
    go (k.Op m) h = rw (or_no_left (m == 32) _ h)
        (rw (or_no_left (m == 34) _ (or_no_right (m == 32) _ h))
        (rw (or_no_left (m == 36) _ (or_no_right (m == 34) _ (or_no_right (m == 32) _ h))) refl))
    go (k.Keyword m) h = refl
    go k.Newline h = refl
    go k.Indent h = refl
    go k.Dedent h = refl
    go k.End h = refl
    go (k.Other o) h = refl

starts_up : (n : ℕ) (κ : TokenKind) → starts n κ ≡ true → starts (suc n) κ ≡ true
starts_up n (k.Op m) h = or_mono (m == 32) _ (m == 32) _ (λ e. e)
    (or_mono (m == 34) _ (m == 34) _ (λ e. e)
    (or_mono (m == 36) _ (m == 36) _ (λ e. e) (and_mono (nat_le 3 n) _ (nat_le 3 (suc n)) (λ e. grind (arith, e))))) h
starts_up n (k.Keyword m) h = and_mono (nat_le 11 n) _ (nat_le 11 (suc n)) (λ e. grind (arith, e)) h
starts_up n (k.Name m) h = h
starts_up n (k.Int m) h = h
starts_up n (k.Str m) h = h
starts_up n k.Newline h = h
starts_up n k.Indent h = h
starts_up n k.Dedent h = h
starts_up n k.End h = h
starts_up n (k.Other o) h = h

starts_down : (n : ℕ) (κ : TokenKind) → starts (suc n) κ ≡ false → starts n κ ≡ false
starts_down n κ h = go (starts n κ) refl
  where
    go : (b : Bool) → starts n κ ≡ b → starts n κ ≡ false
    go true e = no (sym (starts_up n κ e) ∙ h)
    go false e = e

no_sign : (κ : TokenKind) → starts 3 κ ≡ false → sign_of κ ≡ None
no_sign (k.Op m) h =
    let signs = and_no_right (nat_le 3 3) _ refl
    (or_no_right (m == 36) _ (or_no_right (m == 34) _ (or_no_right (m == 32) _ h))) in
    rw (or_no_left (m == 21) _ signs) (rw (or_no_left (m == 22) _ (or_no_right (m == 21) _ signs))
    (rw (or_no_right (m == 22) _ (or_no_right (m == 21) _ signs)) refl))
no_sign κ h = refl

no_not : (κ : TokenKind) → starts 11 κ ≡ false → is_keyword 21 κ ≡ false
no_not (k.Keyword m) h = and_no_right (nat_le 11 11) _ refl h
no_not κ h = refl

left_up : (n : ℕ) (κ : TokenKind) → n < 13 → left_at n κ ≡ left_at (suc n) κ
left_up n (k.Keyword m) l = let a : nat_le 14 n ≡ false = grind (arith, l) in let b : nat_le 14 (suc n) ≡ false =
    grind (arith, l) in rw a (rw b refl)
left_up n (k.Op m) l = refl
left_up n (k.Name m) l = refl
left_up n (k.Int m) l = refl
left_up n (k.Str m) l = refl
left_up n k.Newline l = refl
left_up n k.Indent l = refl
left_up n k.Dedent l = refl
left_up n k.End l = refl
left_up n (k.Other other.Float) l = refl
left_up n (k.Other other.Long) l = refl
left_up n (k.Other other.Unicode) l = refl

left_same : (κ : TokenKind) → is_keyword 20 κ ≡ false → left_at 13 κ ≡ left_at 14 κ
left_same (k.Keyword m) e = rw e refl
left_same (k.Op m) e = refl
left_same (k.Name m) e = refl
left_same (k.Int m) e = refl
left_same (k.Str m) e = refl
left_same k.Newline e = refl
left_same k.Indent e = refl
left_same k.Dedent e = refl
left_same k.End e = refl
left_same (k.Other other.Float) e = refl
left_same (k.Other other.Long) e = refl
left_same (k.Other other.Unicode) e = refl

left_lambda : (κ : TokenKind) → is_keyword 20 κ ≡ true → left_at 14 κ ≡ Some left.Lambda
left_lambda κ e = rw (only_keyword 20 κ e) refl

-- a rung that passes on the refusal of the level below it
passes : (r : Rung) (under : Below) (g d : ℕ) (operand : Test) (ts : List Token) (f : Fault) →
    heads r (first ts) ≡ false → operand ts ≡ Err (f, ts) → rung_at r under g d operand ts ≡ Err (f, ts)
passes Trailed under g d operand ts f h e = ap (λ r. r >>= trail_at under g d) e
passes Powered under g d operand ts f h e = ap (λ r. r >>= power_at under d) e
passes Signed under g d operand ts f h e = ap (λ s. signed under d operand s ts) (none_of (sign_of (first ts)) h) ∙ e
passes (Chained l) under g d operand ts f h e = ap (λ r. r >>= chain_at l (under.read (below l)) g d) e
passes Negated under g d operand ts f h e = rw h e
passes Chosen under g d operand ts f h e = rw h (ap (λ r. r >>= choice_at under d) e)
passes Listed under g d operand ts f h e = ap (λ r. r >>= λ a. after_at under g d a.0 a.1) e

refuses_up : (n : ℕ) → n < 13 → (under : Below) (g d : ℕ) (ts : List Token) → heads (rung_of n) (first ts) ≡ false →
    Refuses under g d n ts → Refuses under g d (suc n) ts
unfolding level_at
refuses_up n l under g d ts h e = passes (rung_of n) under g d (level_at under g d n) ts _ h e ∙
    ap (λ z. Err (no_start z, ts)) (left_up n (first ts) l)

heads_not : (n : ℕ) → n < 13 → (κ : TokenKind) → starts (suc n) κ ≡ false → heads (rung_of n) κ ≡ false
heads_not zero l κ h = refl
heads_not (suc zero) l κ h = refl
heads_not (suc (suc zero)) l κ h = ap is_some (no_sign κ h)
heads_not (suc (suc (suc zero))) l κ h = refl
heads_not (suc (suc (suc (suc zero)))) l κ h = refl
heads_not (suc (suc (suc (suc (suc zero))))) l κ h = refl
heads_not (suc (suc (suc (suc (suc (suc zero)))))) l κ h = refl
heads_not (suc (suc (suc (suc (suc (suc (suc zero))))))) l κ h = refl
heads_not (suc (suc (suc (suc (suc (suc (suc (suc zero)))))))) l κ h = refl
heads_not (suc (suc (suc (suc (suc (suc (suc (suc (suc zero))))))))) l κ h = refl
heads_not (suc (suc (suc (suc (suc (suc (suc (suc (suc (suc zero)))))))))) l κ h = no_not κ h
heads_not (suc (suc (suc (suc (suc (suc (suc (suc (suc (suc (suc zero))))))))))) l κ h = refl
heads_not (suc (suc (suc (suc (suc (suc (suc (suc (suc (suc (suc (suc zero)))))))))))) l κ h = refl
heads_not (suc (suc (suc (suc (suc (suc (suc (suc (suc (suc (suc (suc (suc n))))))))))))) l κ h =
    absurd (omega (arith, l))

refuses_low : (n : ℕ) → n < 14 → (under : Below) (g d : ℕ) (ts : List Token) → starts n (first ts) ≡ false →
    Refuses under g d n ts
refuses_low zero l under g d ts h = refuses_atom under g d ts h
refuses_low (suc n) l under g d ts h = refuses_up n (omega (arith, l)) under g d ts
    (heads_not n (omega (arith, l)) (first ts) h)
    (refuses_low n (omega (arith, l)) under g d ts (starts_down n (first ts) h))

refuses_test : (under : Below) (g d : ℕ) (ts : List Token) → starts 14 (first ts) ≡ false → Refuses under g d 14 ts
unfolding level_at
refuses_test under g d ts h = go (is_keyword 20 (first ts)) refl
  where
    go : (b : Bool) → is_keyword 20 (first ts) ≡ b → rung_at Chosen under g d (level_at under g d 13) ts ≡ Err
        (no_start (left_at 14 (first ts)), ts)
    go true e = rw e (ap (λ z. Err (no_start z, ts)) (sym (left_lambda (first ts) e)))
    go false e = passes Chosen under g d (level_at under g d 13) ts _ e
        (refuses_low 13 (omega arith) under g d ts (starts_down 13 (first ts) h)) ∙
        ap (λ z. Err (no_start z, ts)) (left_same (first ts) e)

pub refuses : (n : ℕ) → n ≤ 14 → (g d : ℕ) (ts : List Token) → starts n (first ts) ≡ false →
    (reads g (suc d)).read n ts ≡ Err (no_start (left_at n (first ts)), ts)
unfolding reads
refuses n l g d ts h = go (nat_lt n 14) refl
  where
    go : (b : Bool) → nat_lt n 14 ≡ b → level_at (reads g d) g (suc d) n ts ≡ Err (no_start (left_at n (first ts)), ts)
    go true e = refuses_low n (grind (arith, e)) (reads g d) g (suc d) ts h
    go false e = let i : 14 ≤ n = grind (arith, e) in let j : n ≡ 14 = omega (arith, i, l) in
        subst (λ z. level_at (reads g d) g (suc d) z ts ≡ Err (no_start (left_at z (first ts)), ts)) (sym j)
        (refuses_test (reads g d) g (suc d) ts (subst (λ z. starts z (first ts) ≡ false) j h))

-- ---- with a budget

stays : (g y n : ℕ) → n ≤ 14 → (κ : TokenKind) (us : List Token) → first us ≡ κ → Stays y (too_deep n κ) →
    (reads g y).read n us ≡ Err (too_deep n κ, us)
unfolding reads
stays g zero n l κ us e z = ap (λ w. Err (too_deep n w, us)) e
stays g (suc y) n l κ us e z = go (starts n κ) refl
  where
    go : (b : Bool) → starts n κ ≡ b → (reads g (suc y)).read n us ≡ Err (too_deep n κ, us)
    go true q = absurd (let deep : too_deep n κ ≡ Deep = rw q refl in let i : suc y ≡ 0 =
        subst (Stays (suc y)) deep z in omega (arith, i))
    go false q = refuses n l g y us (ap (starts n) e ∙ q) ∙ ap (λ w. Err (no_start (left_at n w), us)) e ∙
        sym (rw q refl)

unexpected_deep : Unexpected ≡ Deep → ⊥
unexpected_deep e = cc

no_budget : (w y g n : ℕ) → n ≤ 14 → Tell y g 0 n ((reads (more w g) (more y 0)).read n) ((reads g 0).read n)
unfolding reads
no_budget w y g n l pre ts len o hole = record {
  tells = record {
    front = [];
    split = refl;
    before = alone low pre o;
    beyond = λ t us e. above t us e (starts n (first ts)) refl;
    ahead = λ dd r. absurd (unexpected_deep (sym (ap (λ z. too_deep n (first z)) r) ∙ dd));
    same = λ us s z. stays (more w g) y n l (first ts) us (same_first ts us s) z;
  };
}
  where
    above : (t : Token) (us : List Token) → ts ≡ t ∷ us → (b : Bool) → starts n (first ts) ≡ b →
        Beyond (too_deep n (first ts)) ((pre ++ []) ++ t ∷ [])
    above t us e true q = rw q (rw (append-nil pre)
        (let s = start n t.kind l (ap (λ z. starts n (first z)) (sym e) ∙ q)
        (record { from = t.from; to = t.to; line = t.line }) in on s.0 (simp append_assoc) (hole any s.1 _ s.2 free)))
    above t us e false q = rw q (rw (append-nil pre) (marks t us e (left_at n (first ts)) refl))
      where
        marks : (t : Token) (us : List Token) → ts ≡ t ∷ us → (x : Option Construct) → left_at n (first ts) ≡ x →
            Beyond (no_start (left_at n (first ts))) (pre ++ t ∷ [])
        marks t us e (Some x) r = rw r (hole (marked x) _ _
            (left_start n t.kind x l (ap (λ z. left_at n (first z)) (sym e) ∙ r)
            (record { from = t.from; to = t.to; line = t.line })).1 free)
        marks t us e None r = rw r tt

pub unders : (w y g d : ℕ) → Unders y g d (reads (more w g) (more y d)) (reads g d)
unfolding reads
unders w y g zero = record {
  read = no_budget w y g;
  after = λ a h pre ts l hole.
      absurd (omega (arith, h, hh.height_pos a));
}
unders w y g (suc d) = record {
  read = λ n i pre ts l o hole. tell_level w y g d (reads (more w g) (more y d)) (reads g d) (unders w y g d) n i pre
      ts l o hole;
  after = λ a h pre ts l hole. tell_after w y g d (reads (more w g) (more y d)) (reads g d) (unders w y g d) a pre ts l
      h hole;
}
