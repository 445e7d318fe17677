-- What reading bodies and clauses tells.
use Rattle.std.proofs.Common.{◌≡◌, ℕ, zero, suc, ◌≤◌, max, true, ◌||◌, List, [], ◌∷◌, ◌++◌, length, Ok, Option, Some, None, inl, inr, refl, sym, ap, ◌∙◌, subst, append_assoc, append-nil, arith, if◌then◌else◌}
use Rattle.py_tokens.specs.declared.token.Token.{Token}
use Rattle.py_tokens.specs.declared.token.TokenKind.TheVariants as k
use Rattle.py_tokens.specs.declared.token.Place.{Place}
use Rattle.py_tokens.specs.Place.{token_at as at}
use Rattle.py_tree.specs.declared.expr.Expr.{Expr}
use Rattle.py_tree.specs.declared.expr.Expr.TheVariants as ex
use Rattle.py_tree.specs.Height.{height, top_or}
use Rattle.py_tree.proofs.Heights as hh
use Rattle.py_base.specs.declared.refusal.Construct.TheVariants as left
use Rattle.py_grammar.specs.Codes as c
use Rattle.py_grammar.specs.Grammar.{Marks, Is}
use Rattle.py_grammar.specs.inner.Aiming.{Readers}
use Rattle.py_grammar.specs.inner.Reading.{Reads, ◌>>=◌, first, rest, is_op, is_keyword, comes, is_some}
use Rattle.py_grammar.proofs.Facts.{no}
use Rattle.py_grammar.proofs.Told.{Mode, low, marked, Fits, Opens, with_none, more, Told, told_done, told_ends, told_refused, told_if, told_post, told_take, told_word, told_bind, told_map, told_when, on, here, move, there}
use Rattle.py_grammar.proofs.Tells.{only_op, only_keyword, told_read, told_need, p0, word, is_word, free, length_after}
use Rattle.py_grammar.proofs.Atoms.{either}
use Rattle.py_grammar.specs.Statements as S
use Rattle.py_grammar.specs.inner.Lines.{ends_caught}
use Rattle.py_grammar.proofs.Targets.{word_target}
use Rattle.py_tree.specs.declared.stmt.Stmt.{Stmt}
use Rattle.py_tree.specs.declared.stmt.Stmt.TheVariants as st
use Rattle.py_tree.specs.Tall.{tall}
use Rattle.py_tree.proofs.Talls as ht
use Rattle.py_grammar.proofs.Simples.{Lowers, Targeting, told_target}
use Rattle.py_grammar.specs.Statements.{Caught, Block, Elifs, Else, Finally, Excepts, Compound}
use Rattle.py_grammar.specs.inner.Lines.{Suite, body_at, arm_at, elifs_at, clause_at, caught_at, handler_at, handlers_at, try_at}
use Rattle.py_tree.specs.declared.stmt.Arm.{Arm}
use Rattle.py_tree.specs.declared.stmt.Clause.{Clause}
use Rattle.py_tree.specs.declared.stmt.Handler.{Handler}
use Rattle.py_tree.specs.Tall.{tall_block, tall_arm, tall_arms, tall_clause, tall_handler, tall_handlers}

-- ---- bodies

abbrev pub BlockHole : ℕ → List Token → Type 0
BlockHole d pre = (m : Mode) (ss : List Stmt) (us : List Token) → Block m.marks ss us → Fits m (tall_block ss) d →
    Opens m (pre ++ us)

abbrev pub ReadBlock : ℕ → List Stmt → List Token → Type 0
ReadBlock d v fs = ((x : Marks) → Block x v fs) × (tall_block v ≤ d)

abbrev pub TellBlock : ℕ → ℕ → ℕ → Suite → Suite → Type 0
TellBlock y g d block' block = (pre ts : List Token) → length ts ≤ g → Opens low pre → BlockHole d pre →
    Told y pre ts block' (ReadBlock d) (block ts)

-- the least block
abbrev pub body0 : List Token
body0 = at c.pass_ p0 ∷ at k.Newline p0 ∷ []

abbrev pub pass0 : List Stmt
pass0 = st.Pass 0 ∷ []

pub block0 : (x : Marks) → Block x pass0 body0
block0 x = S.short (S.Line.end p0 (S.Simple.pass x p0))

pub tall0 : tall_block pass0 ≡ 2
tall0 = omega (arith, ht.tall_pass 0)

-- Where a colon and a block come, after which more may.
pub told_body : {A : Type 0} {y : ℕ} {pre ts : List Token} {Q : A → List Token → Type 0} (g d : ℕ)
    (block' block : Suite) (K' K : List Stmt × List Token → Reads A) → TellBlock y g d block' block → length ts ≤ g →
    2 ≤ d →
    ((m : Mode) (p : Place) (ss : List Stmt) (us : List Token) → Block m.marks ss us → Fits m (tall_block ss) d →
    Opens m (pre ++ at c.colon p ∷ us)) →
    ((p : Place) (ss : List Stmt) (fs rest : List Token) → ts ≡ at c.colon p ∷ (fs ++ rest) →
    ((x : Marks) → Block x ss fs) → tall_block ss ≤ d → Told y (pre ++ at c.colon p ∷ fs) rest (λ us. K' (ss, us))
    (λ b us. Q b (at c.colon p ∷ (fs ++ us))) (K (ss, rest))) →
    Told y pre ts (λ us. body_at block' us >>= K') Q (body_at block ts >>= K)
unfolding body_at
told_body {A = A} {y = y} {pre = pre} {ts = ts} {Q = Q} g d block' block K' K tell l z hole h =
    told_bind K' K (λ ss fs. (p : Place) × (us : List Token) × (fs ≡ at c.colon p ∷ us) × ((x : Marks) → Block x ss us)
    × (tall_block ss ≤ d))
    (told_need 39 _ _ (on (at c.colon p0 ∷ body0) refl
    (hole low p0 pass0 body0 (block0 None) (λ b. omega (arith, z, tall0))))
    (λ p us q. told_post (λ v vs r. (p, vs, refl, r.0, r.1))
    (tell (pre ++ at c.colon p ∷ []) us (omega (arith, l, ap length q))
    (on body0 (simp append_assoc) (hole low p pass0 body0 (block0 None) (λ b. omega (arith, z, tall0))))
    (λ m ss vs r j. here (simp append_assoc) (hole m p ss vs r j)))))
    (λ ss fs rest q r. move_front fs (at c.colon r.0 ∷ r.1) ss rest r.2
    (h r.0 ss r.1 rest (q ∙ ap (λ z. z ++ rest) r.2) r.3 r.4))
  where
    move_front : (fs gs : List Token) (ss : List Stmt) (rest : List Token) → fs ≡ gs →
        Told y (pre ++ gs) rest (λ us. K' (ss, us)) (λ b us. Q b (gs ++ us)) (K (ss, rest)) →
        Told y (pre ++ fs) rest (λ us. K' (ss, us)) (λ b us. Q b (fs ++ us)) (K (ss, rest))
    move_front fs gs ss rest e t = subst
        (λ z. Told y (pre ++ z) rest (λ us. K' (ss, us)) (λ b us. Q b (z ++ us)) (K (ss, rest))) (sym e) t

module _ (w y g d : ℕ) (under' under : Readers) (below : Lowers y g d under' under)
    (targets : Targeting y g d under' under) (block' block : Suite) (tell : TellBlock y g d block' block) (z2 : 2 ≤ d)
  where
    -- an arm: a test, a colon and a block
    abbrev pub ArmHole : List Token → Type 0
    ArmHole pre = (m : Mode) (a : Expr) (ss : List Stmt) (q : Place) (ts us : List Token) → Is m.marks 14 a ts →
        Block m.marks ss us → Fits m (max (height a) (tall_block ss)) d → Opens m (pre ++ (ts ++ at c.colon q ∷ us))

    abbrev pub ArmRead : ℕ → Arm → List Token → Type 0
    ArmRead l v fs = (q : Place) × (ts us : List Token) × (fs ≡ ts ++ at c.colon q ∷ us) ×
        ((x : Marks) → Is x 14 v.test ts) × ((x : Marks) → Block x v.body us) ×
        (v ≡ record { line = l; test = v.test; body = v.body }) × (tall_arm v ≤ d)

    pub tell_arm : (line : ℕ) (pre ts : List Token) → length ts ≤ g → ArmHole pre →
        Told y pre ts (arm_at under' block' line) (ArmRead line) (arm_at under block line ts)
    unfolding arm_at
    tell_arm line pre ts l hole =
        told_read 14 d _ _ (below.read 14 (omega arith) pre ts l
        (on (word ++ at c.colon p0 ∷ body0) refl
        (hole low (ex.Name []) pass0 p0 word body0 (is_word 14 None (omega arith)) (block0 None)
        (λ b. omega (arith, z2, tall0, hh.height_name []))))
        (λ m a us r h. on (at c.colon p0 ∷ body0) (simp append_assoc)
        (hole m a pass0 p0 us body0 r (block0 m.marks) (λ b. omega (arith, z2, tall0, h b)))))
        (λ a fs rest q is h. told_body g d block' block _ _ tell (omega (arith, l, length_after ts fs rest q)) z2
        (λ m p ss us r j. here (simp append_assoc) (hole m a ss p fs us (is m.marks) r (λ b. omega (arith, h, j b))))
        (λ p ss gs rest2 q2 bs h2. told_done (
          p,
          fs,
          gs,
          ap (λ z. fs ++ at c.colon p ∷ z) (append-nil gs),
          is,
          bs,
          refl,
          omega (arith, h, h2),
        )))

    abbrev pub ElifsHole : List Token → Type 0
    ElifsHole pre = (m : Mode) (rs : List Arm) (us : List Token) → Elifs m.marks rs us → Fits m (tall_arms rs) d →
        Opens m (pre ++ us)

    then_elif : {x : Marks} (p : Place) (v : Arm) (fs : List Token) → ArmRead p.line v fs →
        {rs : List Arm} {us : List Token} → Elifs x rs us → Elifs x (v ∷ rs) (at c.elif_ p ∷ (fs ++ us))
    then_elif {x = x} p v fs r {rs = rs} {us = us} e = subst (λ z. Elifs x (z ∷ rs) (at c.elif_ p ∷ (fs ++ us)))
        (sym r.6) (subst (λ z. Elifs x (record { line = p.line; test = v.test; body = v.body } ∷ rs)
        (at c.elif_ p ∷ (z ++ us))) (sym r.3) (S.elif p r.0 (r.4 x) (r.5 x) e))

    pub tell_elifs : (f : ℕ) (found : List Arm) (pre ts : List Token) → length ts ≤ f → f ≤ g → ElifsHole pre →
        Told y pre ts (elifs_at under' block' (more w f) found)
        (λ v fs. (rs : List Arm) × (v ≡ found ++ rs) × ((x : Marks) → Elifs x rs fs) × (tall_arms rs ≤ d))
        (elifs_at under block f found ts)
    unfolding elifs_at
    tell_elifs zero found pre [] l i hole = told_ends found ([], sym (append-nil found), S.no_elif, omega arith) refl
        (λ us s. with_none (λ z. elifs_at under' block' w found z ≡ Ok (found, z)) us (ends w) s)
      where
        ends : (n : ℕ) → elifs_at under' block' n found [] ≡ Ok (found, [])
        ends zero = refl
        ends (suc n) = refl
    tell_elifs zero found pre (t ∷ ts) l i hole = absurd (omega (arith, l))
    tell_elifs (suc f) found pre ts l i hole = told_word (is_keyword 8) c.elif_ (only_keyword 8) refl
        (λ p us q. rw q (told_take (told_bind _ _ _
        (tell_arm p.line (pre ++ at c.elif_ p ∷ []) us (omega (arith, l, i, ap length q))
        (λ m a ss p2 ts2 us2 r b h. on [] (simp (append_assoc, append-nil))
        (hole m (record { line = p.line; test = a; body = ss } ∷ []) _ (S.elif p p2 r b (S.no_elif m.marks))
        (λ z. omega (arith, h z)))))
        (λ v fs rest q2 r. told_post (λ v2 vs s.
        (v ∷ s.0, s.1 ∙ append_assoc found (v ∷ []) s.0, (λ x. then_elif p v fs r (s.2 x)), omega (arith, r.7, s.3)))
        (tell_elifs f (found ++ v ∷ []) ((pre ++ at c.elif_ p ∷ []) ++ fs) rest
        (omega (arith, l, ap length q, length_after us fs rest q2)) (omega (arith, i))
        (λ m rs vs s j. here (simp append_assoc)
        (hole m (v ∷ rs) _ (then_elif p v fs r s) (λ z. omega (arith, r.7, j z)))))))))
        (λ e. told_done ([], sym (append-nil found), S.no_elif, omega arith))

    -- a clause that a keyword begins, or none
    pub tell_clause : (n : ℕ) (F : Marks → Option Clause → List Token → Type 0) → ((x : Marks) → F x None []) →
        ((x : Marks) (p q : Place) (ss : List Stmt) (us : List Token) → Block x ss us →
        F x (Some (record { line = p.line; body = ss })) (at (k.Keyword n) p ∷ at c.colon q ∷ us)) →
        (pre ts : List Token) → length ts ≤ g →
        ((m : Mode) (o : Option Clause) (us : List Token) → F m.marks o us → Fits m (tall_clause o) d →
        Opens m (pre ++ us)) →
        Told y pre ts (clause_at n block') (λ v fs. ((x : Marks) → F x v fs) × (tall_clause v ≤ d))
        (clause_at n block ts)
    unfolding clause_at
    tell_clause n F none' some' pre ts l hole = told_word (is_keyword n) (k.Keyword n) (only_keyword n) refl
        (λ p us q. rw q (told_take (told_body g d block' block _ _ tell (omega (arith, l, ap length q)) z2
        (λ m p2 ss vs r j. here (simp append_assoc)
        (hole m (Some (record { line = p.line; body = ss })) _ (some' m.marks p p2 ss vs r) j))
        (λ p2 ss fs rest q2 r h. told_done (
          (λ x. move (F x (Some (record { line = p.line; body = ss })))
              (ap (λ z. at (k.Keyword n) p ∷ at c.colon p2 ∷ z) (sym (append-nil fs))) (some' x p p2 ss fs (r x))),
          h,
        )))))
        (λ e. told_done (none', omega arith))

    -- ---- `except` clauses

    abbrev pub CaughtHole : List Token → Type 0
    CaughtHole pre = (m : Mode) (a b : Option Expr) (us : List Token) → Caught m.marks a b us →
        Fits m (max (top_or a) (top_or b)) d → Opens m (pre ++ us)

    pub tell_caught : (pre ts : List Token) → length ts ≤ g → Opens low pre → CaughtHole pre →
        ((a b : Expr) (us : List Token) (p : Place) → Caught (Some left.SliceForm) (Some a) (Some b) us →
        Opens (marked left.SliceForm) (pre ++ (us ++ at c.colon p ∷ []))) →
        Told y pre ts (caught_at under') (λ v fs.
        ((x : Marks) → Caught x v.0 v.1 fs) × (max (top_or v.0) (top_or v.1) ≤ d)) (caught_at under ts)
    unfolding caught_at
    tell_caught pre ts l o hole slice = told_if (comes 14)
        (λ c'. told_read 14 d _ _ (below.read 14 (omega arith) pre ts l o
        (λ m a us r h. hole m (Some a) None us (S.Caught.test r) (λ b. omega (arith, h b))))
        (λ a fs rest q is h. let l2 : length rest ≤ g = omega (arith, l, length_after ts fs rest q) in
        told_if (λ κ. is_keyword 1 κ || is_op 38 κ)
        (λ t. elim (either (is_keyword 1 (first rest)) (is_op 38 (first rest)) t) [
          | inl e ↦ let f = there rest c.as_ (only_keyword 1 (first rest) e) (λ z. cc) in let f0 = f.0 in
              rw f.2 (told_take (told_target d _ _
              (targets.target ends_caught ((pre ++ fs) ++ at c.as_ f.0 ∷ []) f.1 (omega (arith, l2, ap length f.2))
              (on word (simp append_assoc)
              (hole low (Some a) (Some (ex.Name [])) _ (S.Caught.named f0 (is None) (word_target None))
              (λ b. omega (arith, h, hh.height_pos a, hh.height_name []))))
              (λ m b vs r j. here (simp append_assoc)
              (hole m (Some a) (Some b) _ (S.Caught.named f0 (is m.marks) r) (λ z. omega (arith, h, j z))))
              (λ b vs κ p r e2. rw (only_op 39 κ e2)
              (here (simp append_assoc) (slice a b _ p (S.Caught.named f0 (is (Some left.SliceForm)) r)))))
              (λ b gs rest2 q2 is2 h2. told_done (
                (λ x. move (Caught x (Some a) (Some b)) (ap (λ z. fs ++ at c.as_ f0 ∷ z) (sym (append-nil gs)))
                    (S.Caught.named f0 (is x) (is2 x))),
                omega (arith, h, h2),
              ))))
          | inr e ↦ let f = there rest c.comma (only_op 38 (first rest) e) (λ z. cc) in let f0 = f.0 in
              rw f.2 (told_take (told_target d _ _
              (targets.target ends_caught ((pre ++ fs) ++ at c.comma f.0 ∷ []) f.1 (omega (arith, l2, ap length f.2))
              (on word (simp append_assoc)
              (hole low (Some a) (Some (ex.Name [])) _ (S.Caught.comma f0 (is None) (word_target None))
              (λ b. omega (arith, h, hh.height_pos a, hh.height_name []))))
              (λ m b vs r j. here (simp append_assoc)
              (hole m (Some a) (Some b) _ (S.Caught.comma f0 (is m.marks) r) (λ z. omega (arith, h, j z))))
              (λ b vs κ p r e2. rw (only_op 39 κ e2)
              (here (simp append_assoc) (slice a b _ p (S.Caught.comma f0 (is (Some left.SliceForm)) r)))))
              (λ b gs rest2 q2 is2 h2. told_done (
                (λ x. move (Caught x (Some a) (Some b)) (ap (λ z. fs ++ at c.comma f0 ∷ z) (sym (append-nil gs)))
                    (S.Caught.comma f0 (is x) (is2 x))),
                omega (arith, h, h2),
              ))))
        ])
        (λ e. told_done (
          (λ x. move (Caught x (Some a) None) (sym (append-nil fs)) (S.Caught.test (is x))),
          omega (arith, h),
        ))))
        (λ c'. told_done (S.Caught.all, omega arith))

    -- one clause: what it catches, a colon and a block
    abbrev pub HandlerHole : List Token → Type 0
    HandlerHole pre = (m : Mode) (a b : Option Expr) (ss : List Stmt) (q : Place) (ts us : List Token) →
        Caught m.marks a b ts → Block m.marks ss us → Fits m (max (max (top_or a) (top_or b)) (tall_block ss)) d →
        Opens m (pre ++ (ts ++ at c.colon q ∷ us))

    abbrev pub HandlerRead : ℕ → Handler → List Token → Type 0
    HandlerRead l v fs = (q : Place) × (ts us : List Token) × (fs ≡ ts ++ at c.colon q ∷ us) ×
        ((x : Marks) → Caught x v.test v.target ts) × ((x : Marks) → Block x v.body us) ×
        (v ≡ record { line = l; test = v.test; target = v.target; body = v.body }) × (tall_handler v ≤ d)

    pub tell_handler : (line : ℕ) (pre ts : List Token) → length ts ≤ g → HandlerHole pre →
        Told y pre ts (handler_at under' block' line) (HandlerRead line) (handler_at under block line ts)
    unfolding handler_at
    tell_handler line pre ts l hole =
        told_bind _ _ _ (tell_caught pre ts l
        (on (at c.colon p0 ∷ body0) refl (hole low None None pass0 p0 [] body0 (S.Caught.all None) (block0 None)
        (λ b. omega (arith, z2, tall0))))
        (λ m a b us r h. on (at c.colon p0 ∷ body0) (simp append_assoc)
        (hole m a b pass0 p0 us body0 r (block0 m.marks) (λ z. omega (arith, z2, tall0, h z))))
        (λ a b us p r. on body0 (simp append_assoc)
        (hole (marked left.SliceForm) (Some a) (Some b) pass0 p us body0 r (block0 (Some left.SliceForm)) free)))
        (λ v fs rest q is. told_body g d block' block _ _ tell (omega (arith, l, length_after ts fs rest q)) z2
        (λ m p ss us r j. here (simp append_assoc)
        (hole m v.0 v.1 ss p fs us (is.0 m.marks) r (λ b. omega (arith, is.1, j b))))
        (λ p ss gs rest2 q2 bs h2. told_done (
          p,
          fs,
          gs,
          ap (λ z. fs ++ at c.colon p ∷ z) (append-nil gs),
          is.0,
          bs,
          refl,
          omega (arith, is.1, h2),
        )))

    pub data FollowExcepts : Marks → List Handler → List Token → Type 0 where
      no_except : (x : Marks) → FollowExcepts x [] []
      excepting : {x : Marks} {hs : List Handler} {us : List Token} → Excepts x hs us → FollowExcepts x hs us

    abbrev pub ExceptsHole : List Token → Type 0
    ExceptsHole pre = (m : Mode) (hs : List Handler) (us : List Token) → Excepts m.marks hs us →
        Fits m (tall_handlers hs) d → Opens m (pre ++ us)

    except_follow : {x : Marks} (p q : Place) {a : Expr} {b : Option Expr} {ss : List Stmt} {ts us : List Token} →
        Caught x (Some a) b ts → Block x ss us → {hs : List Handler} {vs : List Token} → FollowExcepts x hs vs →
        Excepts x (record { line = p.line; test = Some a; target = b; body = ss } ∷ hs)
        (at c.except_ p ∷ ((ts ++ at c.colon q ∷ us) ++ vs))
    except_follow {x = x} p q {a = a} {b = b} {ss = ss} {ts = ts} {us = us} i j (no_except _) =
        move (λ z. Excepts x (record { line = p.line; test = Some a; target = b; body = ss } ∷ []) (at c.except_ p ∷ z))
        (sym (append-nil (ts ++ at c.colon q ∷ us))) (S.except_one p q i j)
    except_follow p q i j (excepting r) = S.except_more p q i j r

    then_except : {x : Marks} (p : Place) (v : Handler) (fs : List Token) → HandlerRead p.line v fs → (a : Expr) →
        v.test ≡ Some a → {hs : List Handler} {us : List Token} → FollowExcepts x hs us →
        Excepts x (v ∷ hs) (at c.except_ p ∷ (fs ++ us))
    then_except {x = x} p v fs r a e {hs = hs} {us = us} f =
        subst (λ z. Excepts x (z ∷ hs) (at c.except_ p ∷ (fs ++ us)))
        (sym (r.6 ∙ ap (λ z. record { line = p.line; test = z; target = v.target; body = v.body }) e))
        (subst (λ z. Excepts x (record { line = p.line; test = Some a; target = v.target; body = v.body } ∷ hs)
        (at c.except_ p ∷ (z ++ us))) (sym r.3)
        (except_follow p r.0 (subst (λ z. Caught x z v.target r.1) e (r.4 x)) (r.5 x) f))

    last_except : {x : Marks} (p : Place) (v : Handler) (fs : List Token) → HandlerRead p.line v fs →
        Excepts x (v ∷ []) (at c.except_ p ∷ fs)
    last_except {x = x} p v fs r = subst (λ z. Excepts x (z ∷ []) (at c.except_ p ∷ fs)) (sym r.6)
        (subst (λ z. Excepts x (record { line = p.line; test = v.test; target = v.target; body = v.body } ∷ [])
        (at c.except_ p ∷ z)) (sym r.3) (S.except_one p r.0 (r.4 x) (r.5 x)))

    abbrev pub TellHandlers : ℕ → Type 0
    TellHandlers f = (found : List Handler) (pre ts : List Token) → length ts ≤ f → f ≤ g → ExceptsHole pre →
        Told y pre ts (handlers_at under' block' (more w f) found)
        (λ v fs. (hs : List Handler) × (v ≡ found ++ hs) × ((x : Marks) → FollowExcepts x hs fs) ×
        (tall_handlers hs ≤ d)) (handlers_at under block f found ts)

    pub tell_excepting : (f : ℕ) → TellHandlers f → (found : List Handler) (pre ts : List Token) (p : Place)
        (us : List Token) → ts ≡ at c.except_ p ∷ us → length ts ≤ suc f → suc f ≤ g → ExceptsHole pre →
        Told y (pre ++ at c.except_ p ∷ []) us (λ vs. handler_at under' block' p.line vs >>= λ h.
        (if is_some h.0.test then handlers_at under' block' (more w f) (found ++ h.0 ∷ []) h.1 else Ok
        (found ++ h.0 ∷ [], h.1))) (λ v fs.
        (hs : List Handler) × (v ≡ found ++ hs) × ((x : Marks) → Excepts x hs (at c.except_ p ∷ fs)) ×
        (tall_handlers hs ≤ d)) (handler_at under block p.line us >>= λ h.
        (if is_some h.0.test then handlers_at under block f (found ++ h.0 ∷ []) h.1 else Ok (found ++ h.0 ∷ [], h.1)))
    tell_excepting f again found pre ts p us e l i hole =
        told_bind _ _ _ (tell_handler p.line (pre ++ at c.except_ p ∷ []) us (omega (arith, l, i, ap length e))
        (λ m a b ss q vs ws r bl h. here (simp append_assoc)
        (hole m (record { line = p.line; test = a; target = b; body = ss } ∷ []) _ (S.except_one p q r bl)
        (λ z. omega (arith, h z)))))
        (λ v fs rest q r. go v fs rest q r v.test refl)
      where
        go : (v : Handler) (fs rest : List Token) → us ≡ fs ++ rest → HandlerRead p.line v fs → (t : Option Expr) →
            v.test ≡ t →
            Told y ((pre ++ at c.except_ p ∷ []) ++ fs) rest
            (λ vs. if is_some v.test then handlers_at under' block' (more w f) (found ++ v ∷ []) vs else Ok
            (found ++ v ∷ [], vs)) (λ v2 vs.
            (hs : List Handler) × (v2 ≡ found ++ hs) × ((x : Marks) → Excepts x hs (at c.except_ p ∷ (fs ++ vs))) ×
            (tall_handlers hs ≤ d)) (if is_some v.test then handlers_at under block f (found ++ v ∷ []) rest else Ok
            (found ++ v ∷ [], rest))
        go v fs rest q r None t = told_when (is_some v.test) (λ e2. no (sym e2 ∙ ap is_some t))
            (λ e2. told_done (
              v ∷ [],
              refl,
              (λ x. move (λ z. Excepts x (v ∷ []) (at c.except_ p ∷ z)) (sym (append-nil fs)) (last_except p v fs r)),
              omega (arith, r.7),
            ))
        go v fs rest q r (Some a) t = told_when (is_some v.test)
            (λ e2. told_post (λ v2 vs s. (
              v ∷ s.0,
              s.1 ∙ append_assoc found (v ∷ []) s.0,
              (λ x. then_except p v fs r a t (s.2 x)),
              omega (arith, r.7, s.3),
            ))
            (again (found ++ v ∷ []) ((pre ++ at c.except_ p ∷ []) ++ fs) rest
            (omega (arith, l, ap length e, length_after us fs rest q)) (omega (arith, i))
            (λ m hs vs s j. here (simp append_assoc)
            (hole m (v ∷ hs) _ (then_except p v fs r a t (excepting s)) (λ b. omega (arith, r.7, j b))))))
            (λ e2. no (sym (ap is_some t) ∙ e2))

    pub tell_handlers : (f : ℕ) → TellHandlers f
    unfolding handlers_at
    tell_handlers zero found pre [] l i hole = told_ends found ([], sym (append-nil found), no_except, omega arith) refl
        (λ us s. with_none (λ z. handlers_at under' block' w found z ≡ Ok (found, z)) us (ends w) s)
      where
        ends : (n : ℕ) → handlers_at under' block' n found [] ≡ Ok (found, [])
        ends zero = refl
        ends (suc n) = refl
    tell_handlers zero found pre (t ∷ ts) l i hole = absurd (omega (arith, l))
    tell_handlers (suc f) found pre ts l i hole = told_word (is_keyword 10) c.except_ (only_keyword 10) refl
        (λ p us q. told_post {Q = λ v fs. (hs : List Handler) × (v ≡ found ++ hs) × ((x : Marks) → Excepts x hs fs) ×
        (tall_handlers hs ≤ d)} (λ v fs r. (r.0, r.1, (λ x. excepting (r.2 x)), r.3))
        (rw q (told_take (tell_excepting f (tell_handlers f) found pre (at c.except_ p ∷ us) p us refl
        (omega (arith, l, ap length q)) i hole))))
        (λ e. told_done ([], sym (append-nil found), no_except, omega arith))

    -- where `except` comes
    pub tell_some_handlers : (f : ℕ) (found : List Handler) (pre ts : List Token) → is_keyword 10 (first ts) ≡ true →
        length ts ≤ f → f ≤ g → ExceptsHole pre →
        Told y pre ts (handlers_at under' block' (more w f) found)
        (λ v fs. (hs : List Handler) × (v ≡ found ++ hs) × ((x : Marks) → Excepts x hs fs) × (tall_handlers hs ≤ d))
        (handlers_at under block f found ts)
    unfolding handlers_at
    tell_some_handlers zero found pre [] e l i hole = no (sym e)
    tell_some_handlers zero found pre (t ∷ ts) e l i hole = absurd (omega (arith, l))
    tell_some_handlers (suc f) found pre ts e l i hole = told_word (is_keyword 10) c.except_ (only_keyword 10) refl
        (λ p us q. rw q (told_take (tell_excepting f (tell_handlers f) found pre (at c.except_ p ∷ us) p us refl
        (omega (arith, l, ap length q)) i hole)))
        (λ e2. no (sym e ∙ e2))

    -- ---- compound statements

    abbrev pub CompoundHole : List Token → Type 0
    CompoundHole pre = (m : Mode) (a : Stmt) (us : List Token) → Compound m.marks a us → Fits m (tall a) (suc d) →
        Opens m (pre ++ us)

    abbrev pub ReadCompound : Stmt → List Token → Type 0
    ReadCompound v fs = ((x : Marks) → Compound x v fs) × (tall v ≤ suc d)

    finally_some : (m : Mode) (o : Option Clause) (us : List Token) → Finally m.marks o us → is_some o ≡ true →
        (f : Clause) × (o ≡ Some f)
    finally_some m None us q e = no (sym e)
    finally_some m (Some f) us q e = (f, refl)

    pub tell_try_excepts : (p p2 : Place) (ss : List Stmt) (fs : List Token) → ((x : Marks) → Block x ss fs) →
        tall_block ss ≤ d → (pre ts : List Token) → is_keyword 10 (first ts) ≡ true → length ts ≤ g → CompoundHole pre →
        Told y ((pre ++ at c.try_ p ∷ []) ++ at c.colon p2 ∷ fs) ts
        (λ us. handlers_at under' block' (more w g) [] us >>= λ hs.
        (clause_at 9 block' hs.1 >>= λ o.
        (clause_at 12 block' o.1 >>= λ f. Ok (st.Try (record { line = p.line; body = ss }) hs.0 o.0 f.0, f.1))))
        (λ v us. ReadCompound v (at c.try_ p ∷ (at c.colon p2 ∷ (fs ++ us))))
        (handlers_at under block g [] ts >>= λ hs.
        (clause_at 9 block hs.1 >>= λ o.
        (clause_at 12 block o.1 >>= λ f. Ok (st.Try (record { line = p.line; body = ss }) hs.0 o.0 f.0, f.1))))
    tell_try_excepts p p2 ss fs is h pre ts e l hole =
        let b : Clause = record { line = p.line; body = ss } in
        told_bind _ _ _ (tell_some_handlers g [] ((pre ++ at c.try_ p ∷ []) ++ at c.colon p2 ∷ fs) ts e l (omega arith)
        (λ m hs us r j. on [] (simp append_assoc)
        (hole m (st.Try b hs None None) _ (S.try p p2 (is m.marks) r (S.no_else m.marks) (S.no_finally m.marks))
        (λ z. omega (arith, h, j z, ht.tall_try b hs None None)))))
        (λ hs gs rest q r. rw r.1 (told_bind _ _ _
        (tell_clause 9 Else S.no_else (λ x p3 p4 ss2 us2 b2. S.else' p3 p4 b2)
        (((pre ++ at c.try_ p ∷ []) ++ at c.colon p2 ∷ fs) ++ gs) rest (omega (arith, l, length_after ts gs rest q))
        (λ m o us r2 j. on [] (simp append_assoc)
        (hole m (st.Try b r.0 o None) _ (S.try p p2 (is m.marks) (r.2 m.marks) r2 (S.no_finally m.marks))
        (λ z. omega (arith, h, r.3, j z, ht.tall_try b r.0 o None)))))
        (λ o ks rest2 q2 r2. told_map (λ f. st.Try b r.0 o f)
        (tell_clause 12 Finally S.no_finally (λ x p3 p4 ss2 us2 b2. S.finally p3 p4 b2)
        ((((pre ++ at c.try_ p ∷ []) ++ at c.colon p2 ∷ fs) ++ gs) ++ ks) rest2
        (omega (arith, l, length_after ts gs rest q, length_after rest ks rest2 q2))
        (λ m f us r3 j. here (simp append_assoc)
        (hole m (st.Try b r.0 o f) _ (S.try p p2 (is m.marks) (r.2 m.marks) (r2.0 m.marks) r3)
        (λ z. omega (arith, h, r.3, r2.1, j z, ht.tall_try b r.0 o f)))))
        (λ f us r3. (
          (λ x. move (Compound x (st.Try b r.0 o f)) (simp append_assoc)
              (S.try p p2 (is x) (r.2 x) (r2.0 x) (r3.0 x))),
          omega (arith, h, r.3, r2.1, r3.1, ht.tall_try b r.0 o f),
        )))))

    pub tell_try : (p p2 : Place) (ss : List Stmt) (fs : List Token) → ((x : Marks) → Block x ss fs) → tall_block ss ≤ d
        → (pre ts : List Token) → length ts ≤ g → CompoundHole pre →
        Told y ((pre ++ at c.try_ p ∷ []) ++ at c.colon p2 ∷ fs) ts
        (try_at under' block' (more w g) (record { line = p.line; body = ss }))
        (λ v us. ReadCompound v (at c.try_ p ∷ (at c.colon p2 ∷ (fs ++ us))))
        (try_at under block g (record { line = p.line; body = ss }) ts)
    unfolding try_at clause_at
    tell_try p p2 ss fs is h pre ts l hole =
        let b : Clause = record { line = p.line; body = ss } in let f0 : Clause = record { line = 0; body = pass0 } in
        told_if (is_keyword 10) (λ e. tell_try_excepts p p2 ss fs is h pre ts e l hole)
        (λ e1. told_word (is_keyword 12) c.finally_ (only_keyword 12) refl
        (λ p3 us q. rw q (told_take (told_map2 p3 us (omega (arith, l, ap length q)) b h hole)))
        (λ e2. told_refused (on (at c.finally_ p0 ∷ at c.colon p0 ∷ body0) (simp append_assoc)
        (hole low (st.Try b [] None (Some f0)) _ (S.try_finally p p2 (is None) (S.finally p0 p0 (block0 None)))
        (λ z. omega (arith, h, z2, tall0, ht.tall_try b [] None (Some f0)))))))
      where
        told_map2 : (p3 : Place) (us : List Token) → length us ≤ g → (b : Clause) → tall_block ss ≤ d →
            CompoundHole pre →
            Told y (((pre ++ at c.try_ p ∷ []) ++ at c.colon p2 ∷ fs) ++ at c.finally_ p3 ∷ []) us
            (λ vs. (body_at block' vs >>= λ b2. Ok (Some (record { line = p3.line; body = b2.0 }), b2.1)) >>= λ f.
            Ok (st.Try (record { line = p.line; body = ss }) [] None f.0, f.1))
            (λ v vs. ReadCompound v (at c.try_ p ∷ (at c.colon p2 ∷ (fs ++ at c.finally_ p3 ∷ vs))))
            ((body_at block us >>= λ b2. Ok (Some (record { line = p3.line; body = b2.0 }), b2.1)) >>= λ f.
            Ok (st.Try (record { line = p.line; body = ss }) [] None f.0, f.1))
        told_map2 p3 us l3 b h hole = told_map (λ f. st.Try (record { line = p.line; body = ss }) [] None f)
            (told_body {Q = λ v vs. (ss2 : List Stmt) × (p4 : Place) × (gs : List Token) ×
            (v ≡ Some (record { line = p3.line; body = ss2 })) × (vs ≡ at c.colon p4 ∷ gs) ×
            ((x : Marks) → Block x ss2 gs) × (tall_block ss2 ≤ d)} g d block' block _ _ tell l3 z2
            (λ m p4 ss2 vs r j. here (simp append_assoc)
            (hole m (st.Try (record { line = p.line; body = ss }) [] None
            (Some (record { line = p3.line; body = ss2 }))) _ (S.try_finally p p2 (is m.marks) (S.finally p3 p4 r))
            (λ z. omega (
              arith,
              h,
              j z,
              ht.tall_try (record { line = p.line; body = ss }) [] None
                  (Some (record { line = p3.line; body = ss2 })),
            ))))
            (λ p4 ss2 gs rest2 q2 r h2. told_done (
              ss2,
              p4,
              gs,
              refl,
              ap (λ z. at c.colon p4 ∷ z) (append-nil gs),
              r,
              h2,
            )))
            (λ v vs r. subst (λ z. ReadCompound (st.Try (record { line = p.line; body = ss }) [] None z)
            (at c.try_ p ∷ (at c.colon p2 ∷ (fs ++ at c.finally_ p3 ∷ vs)))) (sym r.3)
            (rw r.4 (
              (λ x. S.try_finally p p2 (is x) (S.finally p3 r.1 (r.5 x))),
              omega (
                arith,
                h,
                r.6,
                ht.tall_try (record { line = p.line; body = ss }) [] None
                    (Some (record { line = p3.line; body = r.0 })),
              ),
            )))
