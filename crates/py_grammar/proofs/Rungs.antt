-- What reading operators, tests and expressions tells.
use Rattle.std.proofs.Common.{◌≡◌, ℕ, zero, suc, ◌<◌, ◌≤◌, ◌==◌, Bool, true, false, List, [], ◌∷◌, ◌++◌, length, Ok, Option, Some, None, refl, sym, ap, ◌∙◌, subst, append_assoc, append-nil, arith, if◌then◌else◌}
use Rattle.py_tokens.specs.declared.token.Token.{Token}
use Rattle.py_tokens.specs.declared.token.TokenKind.{TokenKind}
use Rattle.py_tokens.specs.declared.token.TokenKind.TheVariants as k
use Rattle.py_tokens.specs.declared.token.Place.{Place}
use Rattle.py_tokens.specs.Place.{token_at as at}
use Rattle.py_tree.specs.declared.expr.Expr.{Expr}
use Rattle.py_tree.specs.declared.expr.Expr.TheVariants as ex
use Rattle.py_tree.specs.declared.form.Form.TheVariants.{Plain}
use Rattle.py_tree.specs.declared.expr.Link.{Link}
use Rattle.py_tree.specs.declared.expr.Level.{Level}
use Rattle.py_tree.specs.declared.expr.Level.TheVariants as level
use Rattle.py_tree.specs.declared.expr.Operator.{Operator}
use Rattle.py_tree.specs.declared.expr.Operator.TheVariants as op
use Rattle.py_tree.specs.Height.{height, tops_links}
use Rattle.py_tree.proofs.Heights as hh
use Rattle.py_grammar.specs.Codes as c
use Rattle.py_grammar.specs.Words.{more_words, below, level_of, first_word, spelled}
use Rattle.py_grammar.specs.Grammar as G
use Rattle.py_grammar.specs.Grammar.{Marks, Is, Strings, Tests, Commas, Exprs, Pairs, Links, Trailers, Trails, Maybe, Args}
use Rattle.py_grammar.specs.declared.tall.Tall.{Tall}
use Rattle.py_grammar.specs.inner.Tall.{push_link}
use Rattle.py_grammar.specs.inner.Reading.{linked, operator_of, operator_rest, Test, first, is_keyword, is_some, links, links_at}
use Rattle.py_grammar.proofs.Steps.{of}
use Rattle.py_grammar.proofs.Facts.{word_links, below_small, no, some_inj}
use Rattle.py_grammar.proofs.ReadSteps.{links_nil, s_links_end}
use Rattle.py_grammar.proofs.Values.{plus_links, push_links}
use Rattle.py_grammar.proofs.Told.{Mode, low, Fits, Opens, cut, with_none, more, Told, told_done, told_ends, told_same, told_post, told_take, told_word, told_bind, told_kind, on, here, move, there}
use Rattle.py_grammar.proofs.Tells.{only_keyword, Tell, told_read, told_need_word, p0, word, is_word, length_after}

-- ---- operators

pub two : Operator → Bool
two op.IsNot = true
two _ = false

-- the operator that a token begins, for one that begins with it
abbrev pub Known : Level → TokenKind → Operator → Type 0
Known l κ o = (level_of o ≡ Some l) × (κ ≡ first_word o) × (two o ≡ false)

pick : (P : Operator → Type 0) (b : Bool) (o' : Operator) (r : Option Operator) (o : Operator) →
    (if b then Some o' else r) ≡ Some o → (b ≡ true → P o') → (r ≡ Some o → P o) → P o
pick P true o' r o e h i = subst P (some_inj o' o e) (h refl)
pick P false o' r o e h i = i e

op_eq : (m n : ℕ) → (m == n) ≡ true → k.Op m ≡ k.Op n
op_eq m n b = ap (λ z. k.Op z) (grind (arith, b))

word_eq : (m n : ℕ) → (m == n) ≡ true → k.Keyword m ≡ k.Keyword n
word_eq m n b = ap (λ z. k.Keyword z) (grind (arith, b))

nothing : {A : Type 0} {o : Operator} → None ≡ Some o → A
nothing e = no (sym (ap is_some e))

known_op : (l : Level) (m : ℕ) (o : Operator) → operator_of l (k.Op m) ≡ Some o → Known l (k.Op m) o
unfolding two
known_op level.Or m o e = nothing e
known_op level.And m o e = nothing e
known_op level.Compare m o e = pick (Known level.Compare (k.Op m)) (m == 30) op.Less _ o e
    (λ b. (refl, op_eq m 30 b, refl))
    (λ e. pick (Known level.Compare (k.Op m)) (m == 31) op.Greater _ o e (λ b. (refl, op_eq m 31 b, refl))
    (λ e. pick (Known level.Compare (k.Op m)) (m == 10) op.Equal _ o e (λ b. (refl, op_eq m 10 b, refl))
    (λ e. pick (Known level.Compare (k.Op m)) (m == 9) op.GreaterEqual _ o e (λ b. (refl, op_eq m 9 b, refl))
    (λ e. pick (Known level.Compare (k.Op m)) (m == 8) op.LessEqual _ o e (λ b. (refl, op_eq m 8 b, refl))
    (λ e. pick (Known level.Compare (k.Op m)) (m == 11) op.NotEqual _ o e (λ b. (refl, op_eq m 11 b, refl)) nothing)))))
known_op level.BitOr m o e = pick (Known level.BitOr (k.Op m)) (m == 27) op.BitOr _ o e
    (λ b. (refl, op_eq m 27 b, refl)) nothing
known_op level.BitXor m o e = pick (Known level.BitXor (k.Op m)) (m == 28) op.BitXor _ o e
    (λ b. (refl, op_eq m 28 b, refl)) nothing
known_op level.BitAnd m o e = pick (Known level.BitAnd (k.Op m)) (m == 26) op.BitAnd _ o e
    (λ b. (refl, op_eq m 26 b, refl)) nothing
known_op level.Shift m o e = pick (Known level.Shift (k.Op m)) (m == 6) op.ShiftLeft _ o e
    (λ b. (refl, op_eq m 6 b, refl)) (λ e. pick (Known level.Shift (k.Op m)) (m == 7) op.ShiftRight _ o e
    (λ b. (refl, op_eq m 7 b, refl)) nothing)
known_op level.Sum m o e = pick (Known level.Sum (k.Op m)) (m == 21) op.Plus _ o e (λ b. (refl, op_eq m 21 b, refl))
    (λ e. pick (Known level.Sum (k.Op m)) (m == 22) op.Minus _ o e (λ b. (refl, op_eq m 22 b, refl)) nothing)
known_op level.Term m o e = pick (Known level.Term (k.Op m)) (m == 23) op.Times _ o e (λ b. (refl, op_eq m 23 b, refl))
    (λ e. pick (Known level.Term (k.Op m)) (m == 24) op.Divide _ o e (λ b. (refl, op_eq m 24 b, refl))
    (λ e. pick (Known level.Term (k.Op m)) (m == 5) op.Floor _ o e (λ b. (refl, op_eq m 5 b, refl))
    (λ e. pick (Known level.Term (k.Op m)) (m == 25) op.Remainder _ o e (λ b. (refl, op_eq m 25 b, refl)) nothing)))

known_word : (l : Level) (m : ℕ) (o : Operator) → operator_of l (k.Keyword m) ≡ Some o → Known l (k.Keyword m) o
unfolding two
known_word level.Or m o e = pick (Known level.Or (k.Keyword m)) (m == 22) op.Or _ o e
    (λ b. (refl, word_eq m 22 b, refl)) nothing
known_word level.And m o e = pick (Known level.And (k.Keyword m)) (m == 0) op.And _ o e
    (λ b. (refl, word_eq m 0 b, refl)) nothing
known_word level.Compare m o e = pick (Known level.Compare (k.Keyword m)) (m == 18) op.In _ o e
    (λ b. (refl, word_eq m 18 b, refl))
    (λ e. pick (Known level.Compare (k.Keyword m)) (m == 21) op.NotIn _ o e (λ b. (refl, word_eq m 21 b, refl))
    (λ e. pick (Known level.Compare (k.Keyword m)) (m == 19) op.Is _ o e (λ b. (refl, word_eq m 19 b, refl)) nothing))
known_word level.BitOr m o e = nothing e
known_word level.BitXor m o e = nothing e
known_word level.BitAnd m o e = nothing e
known_word level.Shift m o e = nothing e
known_word level.Sum m o e = nothing e
known_word level.Term m o e = nothing e

other_none : (l : Level) (κ : TokenKind) → ((m : ℕ) → κ ≡ k.Op m → ⊥) → ((m : ℕ) → κ ≡ k.Keyword m → ⊥) →
    operator_of l κ ≡ None
other_none l (k.Op m) h i = absurd (h m refl)
other_none l (k.Keyword m) h i = absurd (i m refl)
other_none level.Or κ h i = refl
other_none level.And κ h i = refl
other_none level.Compare κ h i = refl
other_none level.BitOr κ h i = refl
other_none level.BitXor κ h i = refl
other_none level.BitAnd κ h i = refl
other_none level.Shift κ h i = refl
other_none level.Sum κ h i = refl
other_none level.Term κ h i = refl

pub known : (l : Level) (κ : TokenKind) (o : Operator) → operator_of l κ ≡ Some o → Known l κ o
known l (k.Op m) o e = known_op l m o e
known l (k.Keyword m) o e = known_word l m o e
known l κ o e = nothing (sym (other_none l κ (λ m q. cc) (λ m q. cc)) ∙ e)

pub data FollowLinks : Marks → Level → List Link → List Token → Type 0 where
  no_link : (x : Marks) (l : Level) → FollowLinks x l [] []
  linking : {x : Marks} {l : Level} {ls : List Link} {us : List Token} → Links x l ls us → FollowLinks x l ls us

then_links : {x : Marks} (l : Level) (o : Operator) (p q : Place) {a : Expr} {ls : List Link} {ts us : List Token} →
    level_of o ≡ Some l → Is x (below l) a ts → FollowLinks x l ls us →
    Links x l (record { operator = o; operand = a } ∷ ls) ((spelled o p q ++ ts) ++ us)
then_links {x = x} l o p q {a = a} {ts = ts} e i (no_link _ _) =
    move (Links x l (record { operator = o; operand = a } ∷ [])) (sym (append-nil (spelled o p q ++ ts)))
    (G.link l o p q e i)
then_links l o p q e i (linking j) = G.more_links l o p q e i j

abbrev Spelt : Level → Operator → Place → Operator → List Token → Type 0
Spelt l o p o' fs = (q : Place) × (level_of o' ≡ Some l) × (at (first_word o) p ∷ fs ≡ spelled o' p q)

tell_rest : {y : ℕ} (l : Level) (o : Operator) → level_of o ≡ Some l → two o ≡ false →
    (pre us : List Token) (p : Place) → Opens low pre →
    Told y pre us (operator_rest o) (Spelt l o p) (operator_rest o us)
unfolding two
tell_rest l op.NotIn lv t pre us p o = told_need_word 18 _ _ o (λ q vs e. told_done (q, lv, refl))
tell_rest l op.Is lv t pre us p o = told_word (is_keyword 21) c.not_ (only_keyword 21) refl
    (λ q vs e. rw e (told_take (told_done (q, lv, refl)))) (λ e. told_done (p0, lv, refl))
tell_rest l op.IsNot lv t pre us p o = no t
tell_rest l op.Or lv t pre us p o = told_done (p0, lv, refl)
tell_rest l op.And lv t pre us p o = told_done (p0, lv, refl)
tell_rest l op.Less lv t pre us p o = told_done (p0, lv, refl)
tell_rest l op.Greater lv t pre us p o = told_done (p0, lv, refl)
tell_rest l op.Equal lv t pre us p o = told_done (p0, lv, refl)
tell_rest l op.GreaterEqual lv t pre us p o = told_done (p0, lv, refl)
tell_rest l op.LessEqual lv t pre us p o = told_done (p0, lv, refl)
tell_rest l op.NotEqual lv t pre us p o = told_done (p0, lv, refl)
tell_rest l op.In lv t pre us p o = told_done (p0, lv, refl)
tell_rest l op.BitOr lv t pre us p o = told_done (p0, lv, refl)
tell_rest l op.BitXor lv t pre us p o = told_done (p0, lv, refl)
tell_rest l op.BitAnd lv t pre us p o = told_done (p0, lv, refl)
tell_rest l op.ShiftLeft lv t pre us p o = told_done (p0, lv, refl)
tell_rest l op.ShiftRight lv t pre us p o = told_done (p0, lv, refl)
tell_rest l op.Plus lv t pre us p o = told_done (p0, lv, refl)
tell_rest l op.Minus lv t pre us p o = told_done (p0, lv, refl)
tell_rest l op.Times lv t pre us p o = told_done (p0, lv, refl)
tell_rest l op.Divide lv t pre us p o = told_done (p0, lv, refl)
tell_rest l op.Floor lv t pre us p o = told_done (p0, lv, refl)
tell_rest l op.Remainder lv t pre us p o = told_done (p0, lv, refl)
tell_rest l op.Power lv t pre us p o = told_done (p0, lv, refl)

-- End is no operator of a level
ends : (l : Level) → links l k.End ≡ false
ends level.Or = refl
ends level.And = refl
ends level.Compare = refl
ends level.BitOr = refl
ends level.BitXor = refl
ends level.BitAnd = refl
ends level.Shift = refl
ends level.Sum = refl
ends level.Term = refl

begins : (l : Level) (o : Operator) → level_of o ≡ Some l → first_word o ≡ k.End → ⊥
begins l o e q = no (sym (word_links o l e) ∙ ap (links l) q ∙ ends l)

pub low_level : (l : Level) → below l ≤ 14
low_level l = omega (arith, below_small l)

module _ (w y g d : ℕ) (l : Level) (next' next : Test) (tell : Tell y g d (below l) next' next) where
  abbrev pub LinksHole : List Token → Type 0
  LinksHole pre = (m : Mode) (ls : List Link) (us : List Token) → Links m.marks l ls us → Fits m (tops_links ls) d →
      Opens m (pre ++ us)

  abbrev TellLinks : ℕ → Type 0
  TellLinks f = (found : Tall (List Link)) → found.form ≡ Plain → (pre ts : List Token) → length ts ≤ f → f ≤ g →
      0 < d → LinksHole pre →
      Told y pre ts (links_at l next' (more w f) found)
      (λ v fs. (ls : List Link) × (v ≡ plus_links found ls) × ((x : Marks) → FollowLinks x l ls fs) ×
      (tops_links ls ≤ d)) (links_at l next f found ts)

  tell_linked : (f : ℕ) → TellLinks f → (found : Tall (List Link)) (pre ts : List Token) (o : Operator) →
      operator_of l (first ts) ≡ Some o → length ts ≤ suc f → suc f ≤ g → 0 < d → LinksHole pre →
      Told y pre ts (linked next' (links_at l next' (more w f)) (Some o) found)
      (λ v fs. (ls : List Link) × (v ≡ plus_links found ls) × ((x : Marks) → Links x l ls fs) ×
      (tops_links ls ≤ d)) (linked next (links_at l next f) (Some o) found ts)
  tell_linked f again found pre ts o e len i z' hole =
      let kn = known l (first ts) o e in
      let h = there ts (first_word o) kn.1 (begins l o kn.0) in
      rw h.2 (told_take (told_bind _ _ _ (tell_rest l o kn.0 kn.2 (pre ++ at (first_word o) h.0 ∷ []) h.1 h.0
      (on (more_words o p0 ++ word) (simp append_assoc)
      (hole low (record { operator = o; operand = ex.Name [] } ∷ []) _
      (G.link l o h.0 p0 kn.0 (is_word (below l) None (low_level l))) (λ b. omega (arith, z', hh.height_name [])))))
      (λ o' fs rest q r.
      let link : (m : Mode) (a : Expr) (us : List Token) → Is m.marks (below l) a us → Fits m (height a) d →
      Opens m (((pre ++ at (first_word o) h.0 ∷ []) ++ fs) ++ us) =
      λ m a us p j. here (simp append_assoc)
      (hole m (record { operator = o'; operand = a } ∷ []) _
      (move (λ z. Links m.marks l (record { operator = o'; operand = a } ∷ []) (z ++ us)) (sym r.2)
      (G.link l o' h.0 r.0 r.1 p)) (λ b. omega (arith, j b))) in
      told_read (below l) d _ _ (tell ((pre ++ at (first_word o) h.0 ∷ []) ++ fs) rest
      (omega (arith, len, i, ap length h.2, length_after h.1 fs rest q))
      (cut low _ word (link low (ex.Name []) word (is_word (below l) None (low_level l))
      (λ b. omega (arith, z', hh.height_name [])))) link)
      (λ a gs rest2 q2 is j. told_post (λ v us s. (
        record { operator = o'; operand = a } ∷ s.0,
        s.1 ∙ push_links found o' a s.0,
        (λ x. move (Links x l _) (ap (λ z. (z ++ gs) ++ us) (sym r.2) ∙ simp append_assoc)
            (then_links l o' h.0 r.0 r.1 (is x) (s.2 x))),
        omega (arith, j, s.3),
      ))
      (again (push_link found o' (of a)) refl (((pre ++ at (first_word o) h.0 ∷ []) ++ fs) ++ gs) rest2
      (omega (arith, len, ap length h.2, length_after h.1 fs rest q, length_after rest gs rest2 q2))
      (omega (arith, i)) z'
      (λ m ls us s j2. here (simp append_assoc)
      (hole m (record { operator = o'; operand = a } ∷ ls) _
      (move (λ z. Links m.marks l (record { operator = o'; operand = a } ∷ ls) ((z ++ gs) ++ us)) (sym r.2)
      (G.more_links l o' h.0 r.0 r.1 (is m.marks) s)) (λ b. omega (arith, j, j2 b)))))))))

  tell_links : (f : ℕ) → TellLinks f
  unfolding links_at
  tell_links zero found k' pre [] len i z' hole =
      told_ends found ([], sym (links_nil found k'), (λ x. no_link x l), omega arith) refl
      (λ us s. with_none (λ z. links_at l next' w found z ≡ Ok (found, z)) us (s_links_end l next' w found [] (ends l))
      s)
  tell_links zero found k' pre (t ∷ ts) len i z' hole = absurd (omega (arith, len))
  tell_links (suc f) found k' pre ts len i z' hole =
      told_kind (λ κ us. linked next' (links_at l next' (more w f)) (operator_of l κ) found us)
      (go (tell_links f) (operator_of l (first ts)) refl)
    where
      go : TellLinks f → (o : Option Operator) → operator_of l (first ts) ≡ o →
          Told y pre ts (linked next' (links_at l next' (more w f)) (operator_of l (first ts)) found)
          (λ v fs. (ls : List Link) × (v ≡ plus_links found ls) × ((x : Marks) → FollowLinks x l ls fs) ×
          (tops_links ls ≤ d)) (linked next (links_at l next f) (operator_of l (first ts)) found ts)
      go again (Some o) e = rw e (told_post (λ v fs r. (r.0, r.1, (λ x. linking (r.2 x)), r.3))
          (tell_linked f again found pre ts o e len i z' hole))
      go again None e = rw e (told_done ([], sym (links_nil found k'), (λ x. no_link x l), omega arith))

  -- where an operator comes
  pub tell_some_links : (f : ℕ) (found : Tall (List Link)) (pre ts : List Token) (o : Operator) →
      operator_of l (first ts) ≡ Some o → length ts ≤ f → f ≤ g → 0 < d → LinksHole pre →
      Told y pre ts (links_at l next' (more w f) found)
      (λ v fs. (ls : List Link) × (v ≡ plus_links found ls) × ((x : Marks) → Links x l ls fs) ×
      (tops_links ls ≤ d)) (links_at l next f found ts)
  unfolding links_at
  tell_some_links zero found pre [] o e len i z' hole =
      absurd (begins l o (known l k.End o e).0 (sym (known l k.End o e).1))
  tell_some_links zero found pre (t ∷ ts) o e len i z' hole = absurd (omega (arith, len))
  tell_some_links (suc f) found pre ts o e len i z' hole =
      told_same {X' = linked next' (links_at l next' (more w f)) (Some o) found}
      {q = linked next (links_at l next f) (Some o) found ts} (rw e refl) (λ us s. rw s (rw e refl))
      (tell_linked f (tell_links f) found pre ts o e len i z' hole)
