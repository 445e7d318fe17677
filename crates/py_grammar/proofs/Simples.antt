-- What reading simple statements tells.
use Rattle.std.proofs.Common.{◌≡◌, ℕ, zero, suc, ◌+◌, ◌<◌, ◌≤◌, max, ◌==◌, Bool, true, false, ◌||◌, List, [], ◌∷◌, ◌++◌, length, Ok, Err, Option, Some, None, refl, sym, ap, ◌∙◌, subst, append_assoc, append-nil, arith, length-append, if◌then◌else◌}
use Rattle.py_tokens.specs.declared.token.Token.{Token}
use Rattle.py_tokens.specs.declared.token.TokenKind.{TokenKind}
use Rattle.py_tokens.specs.declared.token.TokenKind.TheVariants as k
use Rattle.py_tokens.specs.declared.token.Place.{Place}
use Rattle.py_tokens.specs.Place.{token_at as at}
use Rattle.py_tree.specs.declared.expr.Expr.{Expr}
use Rattle.py_tree.specs.declared.expr.Expr.TheVariants as ex
use Rattle.py_tree.specs.declared.expr.Operator.{Operator}
use Rattle.py_tree.specs.declared.expr.Operator.TheVariants as op
use Rattle.py_tree.specs.Height.{height, tops}
use Rattle.py_tree.specs.Form.{is_single, form}
use Rattle.py_tree.proofs.Heights as hh
use Rattle.py_base.specs.declared.refusal.Construct.TheVariants as left
use Rattle.py_grammar.specs.declared.fault.Fault.TheVariants.{Unexpected, LeftOut}
use Rattle.py_grammar.specs.Codes as c
use Rattle.py_grammar.specs.Grammar.{Marks, Exprs}
use Rattle.py_grammar.specs.declared.tall.Tall.{Tall}
use Rattle.py_grammar.specs.inner.Tall.{push}
use Rattle.py_grammar.specs.inner.Aiming.{Readers}
use Rattle.py_grammar.specs.inner.Reading.{is_none, name_of, Reads, Test, ◌>>=◌, first, rest, is_op, is_keyword, is_some, name_at}
use Rattle.py_grammar.proofs.Steps.{of}
use Rattle.py_grammar.proofs.Facts.{no, some_inj}
use Rattle.py_grammar.proofs.Begin.{long}
use Rattle.py_grammar.proofs.Told.{Mode, low, marked, Fits, Opens, with_none, more, Told, told_done, told_ends, told_refused, told_left, told_same, told_post, told_take, told_word, told_bind, told_map, told_line, told_kind, on, here, move, there}
use Rattle.py_grammar.proofs.Tells.{Tell, only_op, only_keyword, told_need_name, only_name, p0, word, free, length_after}
use Rattle.py_tree.specs.Form.{is_single}
use Rattle.py_grammar.specs.Words.{line_of}
use Rattle.py_grammar.specs.Statements as S
use Rattle.py_grammar.specs.Statements.{slices, Target, Targets, Loops, Equals}
use Rattle.py_grammar.specs.inner.Lines.{Stop, target_at, targets_at, equals_at, ends_del, is_newline}
use Rattle.py_grammar.proofs.Targets.{TellExprs, told_exprs, exprs_word, told_checked, target_any, single_any, word_target}
use Rattle.py_grammar.proofs.AssignReads.{exprs_headed}
use Rattle.py_grammar.specs.Words.{assigned, augment_word}
use Rattle.py_grammar.specs.Statements.{Names, Renamed, Imports, Simple}
use Rattle.py_grammar.specs.inner.Lines.{run_or_assign, assigned_of, run_at, names_at, import_name_at, renamed_at, imported_at, imports_at, running_at}
use Rattle.py_tree.specs.declared.stmt.Stmt.{Stmt}
use Rattle.py_tree.specs.declared.stmt.Stmt.TheVariants as st
use Rattle.py_tree.specs.declared.stmt.Imported.{Imported}
use Rattle.py_tree.specs.Tall.{tall}
use Rattle.py_tree.proofs.Talls as ht

-- What the expressions of a statement tell, by their levels.
pub record Lowers (y g d : ℕ) (under' under : Readers) : Type 0 where
  pub read : (n : ℕ) → n ≤ 14 → Tell y g d n (under'.read n) (under.read n)

-- ---- targets

abbrev pub TargetHole : ℕ → List Token → Type 0
TargetHole d pre = (m : Mode) (a : Expr) (us : List Token) → Target m.marks a us → Fits m (height a) d →
    Opens m (pre ++ us)

-- a slice as a target is left out before what may follow a target
abbrev pub SliceHole : Stop → List Token → Type 0
SliceHole after pre = (a : Expr) (us : List Token) (κ : TokenKind) (p : Place) → Target (Some left.SliceForm) a us →
    after κ ≡ true → Opens (marked left.SliceForm) (pre ++ (us ++ at κ p ∷ []))

abbrev pub Targeted : ℕ → Tall Expr → List Token → Type 0
Targeted d v fs = (a : Expr) × (v ≡ of a) × ((x : Marks) → Target x a fs) × (height a ≤ d)

-- Reading a target tells.
pub record Targeting (y g d : ℕ) (under' under : Readers) : Type 0 where
  pub target : (after : Stop) (pre ts : List Token) → length ts ≤ g → Opens low pre → TargetHole d pre →
      SliceHole after pre → Told y pre ts (target_at under' after) (Targeted d) (target_at under after ts)

pub told_target : {A : Type 0} {y : ℕ} {pre ts : List Token} {again : Test} {r : Reads (Tall Expr)}
    {Q : A → List Token → Type 0} (d : ℕ) (K' K : Tall Expr × List Token → Reads A) →
    Told y pre ts again (Targeted d) r →
    ((a : Expr) (fs rest : List Token) → ts ≡ fs ++ rest → ((x : Marks) → Target x a fs) → height a ≤ d →
    Told y (pre ++ fs) rest (λ us. K' (of a, us)) (λ b us. Q b (fs ++ us)) (K (of a, rest))) →
    Told y pre ts (λ us. again us >>= K') Q (r >>= K)
told_target {y = y} {pre = pre} {Q = Q} d K' K p h =
    told_bind K' K (Targeted d) p (λ v fs rest e q.
    subst (λ z. Told y (pre ++ fs) rest (λ us. K' (z, us)) (λ b us. Q b (fs ++ us)) (K (z, rest))) (sym q.1)
    (h q.0 fs rest e q.2 q.3))

pub data FollowTargets : Marks → List Expr → List Token → Type 0 where
  no_target : (x : Marks) → FollowTargets x [] []
  another : (p : Place) {x : Marks} {es : List Expr} {us : List Token} → Targets x es us →
      FollowTargets x es (at c.comma p ∷ us)

pub then_targets : {x : Marks} {a : Expr} {es : List Expr} {ts us : List Token} → Target x a ts → FollowTargets x es us
    → Targets x (a ∷ es) (ts ++ us)
then_targets {x = x} {a = a} {ts = ts} p (no_target _) =
    move (Targets x (a ∷ [])) (sym (append-nil ts)) (S.Targets.one p)
then_targets p (another q r) = S.Targets.more q p r

-- ---- lines

line_front : (fs us : List Token) → 0 < length fs → line_of (fs ++ us) ≡ line_of fs
line_front [] us h = absurd (omega (arith, h))
line_front (t ∷ fs) us h = refl

pub exprs_line : {x : Marks} {a : Expr} {fs : List Token} → Exprs x a fs → (ts us : List Token) → ts ≡ fs ++ us →
    line_of ts ≡ line_of fs
exprs_line {fs = fs} p ts us e = ap line_of e ∙ line_front fs us (long (exprs_headed p))

pick_assign : (P : Operator → Type 0) (b : Bool) (o' : Operator) (r : Option Operator) (o : Operator) →
    (if b then Some o' else r) ≡ Some o → (b ≡ true → P o') → (r ≡ Some o → P o) → P o
pick_assign P true o' r o e h i = subst P (some_inj o' o e) (h refl)
pick_assign P false o' r o e h i = i e

assigned_is : (n : ℕ) (o : Operator) → assigned n ≡ Some o → augment_word o ≡ Some n
assigned_is n o e =
    pick_assign P (n == 0) op.Power _ o e (λ b. num 0 b)
    (λ e. pick_assign P (n == 1) op.Floor _ o e (λ b. num 1 b)
    (λ e. pick_assign P (n == 2) op.ShiftRight _ o e (λ b. num 2 b)
    (λ e. pick_assign P (n == 3) op.ShiftLeft _ o e (λ b. num 3 b)
    (λ e. pick_assign P (n == 13) op.Plus _ o e (λ b. num 13 b)
    (λ e. pick_assign P (n == 14) op.Minus _ o e (λ b. num 14 b)
    (λ e. pick_assign P (n == 15) op.Times _ o e (λ b. num 15 b)
    (λ e. pick_assign P (n == 16) op.Divide _ o e (λ b. num 16 b)
    (λ e. pick_assign P (n == 17) op.Remainder _ o e (λ b. num 17 b)
    (λ e. pick_assign P (n == 18) op.BitAnd _ o e (λ b. num 18 b)
    (λ e. pick_assign P (n == 19) op.BitOr _ o e (λ b. num 19 b)
    (λ e. pick_assign P (n == 20) op.BitXor _ o e (λ b. num 20 b) (λ e. no (sym (ap is_some e))))))))))))))
  where
    P : Operator → Type 0
    P o = augment_word o ≡ Some n

    num : (m : ℕ) → (n == m) ≡ true → Some m ≡ Some n
    num m b = ap (λ z. Some z) (grind (arith, b))

assigned_op : (κ : TokenKind) (o : Operator) → assigned_of κ ≡ Some o →
    (n : ℕ) × (κ ≡ k.Op n) × (augment_word o ≡ Some n)
assigned_op (k.Op n) o e = (n, refl, assigned_is n o e)
assigned_op κ o e = no (sym (ap is_some e))

-- ---- names and imports

pub data FollowNames : List (List ℕ) → List Token → Type 0 where
  no_name : FollowNames [] []
  more_names : (p : Place) {ns : List (List ℕ)} {ts : List Token} → Names ns ts → FollowNames ns (at c.comma p ∷ ts)

pub then_names : (n : List ℕ) (p : Place) {ns : List (List ℕ)} {us : List Token} → FollowNames ns us →
    Names (n ∷ ns) (at (k.Name n) p ∷ us)
then_names n p no_name = S.Names.one n p
then_names n p (more_names q r) = S.Names.more n p q r

pub data FollowImports : (List ℕ → Bool) → Marks → List Imported → List Token → Type 0 where
  no_import : (may : List ℕ → Bool) (x : Marks) → FollowImports may x [] []
  more_imports : (p : Place) {may : List ℕ → Bool} {x : Marks} {is : List Imported} {us : List Token} →
      Imports may x is us → FollowImports may x is (at c.comma p ∷ us)

abbrev pub OneImport : (List ℕ → Bool) → Imported → List Token → Type 0
OneImport may i fs = (n : List ℕ) × (p : Place) × (m : Option (List ℕ)) × (ts : List Token) ×
    (i ≡ record { name = n; bound = m }) × (fs ≡ at (k.Name n) p ∷ ts) × (may n ≡ true) × Renamed m ts

pub then_imports : (may : List ℕ → Bool) (x : Marks) (i : Imported) (fs : List Token) → OneImport may i fs →
    {is : List Imported} {us : List Token} → FollowImports may x is us → Imports may x (i ∷ is) (fs ++ us)
then_imports may x i fs o (no_import _ _) =
    rw o.4 (rw o.5 (move (λ z. Imports may x (record { name = o.0; bound = o.2 } ∷ []) (at (k.Name o.0) o.1 ∷ z))
    (sym (append-nil o.3)) (S.Imports.one may x o.0 o.1 o.6 o.7)))
then_imports may x i fs o {is = is} (more_imports q r) = rw o.4 (rw o.5 (S.Imports.more may o.0 o.1 q o.6 o.7 r))

module _ (w y : ℕ) where
  pub tell_names : (f : ℕ) (found : List (List ℕ)) (pre ts : List Token) → length ts ≤ f →
      ((m : Mode) (ns : List (List ℕ)) (us : List Token) → FollowNames ns us → Opens m (pre ++ us)) →
      Told y pre ts (names_at (more w f) found) (λ v fs. (ns : List (List ℕ)) × (v ≡ found ++ ns) × FollowNames ns fs)
      (names_at f found ts)
  unfolding names_at
  tell_names zero found pre [] l hole = told_ends found ([], sym (append-nil found), no_name) refl
      (λ us s. with_none (λ z. names_at w found z ≡ Ok (found, z)) us (ends w) s)
    where
      ends : (n : ℕ) → names_at n found [] ≡ Ok (found, [])
      ends zero = refl
      ends (suc n) = refl
  tell_names zero found pre (t ∷ ts) l hole = absurd (omega (arith, l))
  tell_names (suc f) found pre ts l hole = told_word (is_op 38) c.comma (only_op 38) refl
      (λ p us q. rw q (told_take (told_need_name _ _
      (on word (simp append_assoc) (hole low ([] ∷ []) _ (more_names p (S.Names.one [] p0))))
      (λ n p2 us2 q2. told_post (λ v vs r.
      (n ∷ r.0, r.1 ∙ append_assoc found (n ∷ []) r.0, more_names p (then_names n p2 r.2)))
      (tell_names f (found ++ n ∷ []) ((pre ++ at c.comma p ∷ []) ++ at (k.Name n) p2 ∷ []) us2
      (omega (arith, l, ap length q, ap length q2))
      (λ m ns vs r. here (simp append_assoc) (hole m (n ∷ ns) _ (more_names p (then_names n p2 r)))))))))
      (λ e. told_done ([], sym (append-nil found), no_name))

  pub tell_renamed : (pre ts : List Token) →
      ((m : Mode) (o : Option (List ℕ)) (us : List Token) → Renamed o us → Opens m (pre ++ us)) →
      Told y pre ts renamed_at Renamed (renamed_at ts)
  unfolding renamed_at
  tell_renamed pre ts hole = told_word (is_keyword 1) c.as_ (only_keyword 1) refl
      (λ p us q. rw q (told_take (told_need_name _ _
      (on word (simp append_assoc) (hole low (Some []) _ (S.Renamed.renamed [] p p0)))
      (λ n p2 us2 q2. told_done (S.Renamed.renamed n p p2)))))
      (λ e. told_done S.Renamed.same)

  pub tell_import_name : (may : List ℕ → Bool) (pre ts : List Token) → Opens low pre →
      ((n : List ℕ) (p : Place) → may n ≡ false → Opens (marked left.Import) (pre ++ at (k.Name n) p ∷ [])) →
      Told y pre ts (import_name_at may) (λ n fs. (p : Place) × (fs ≡ at (k.Name n) p ∷ []) × (may n ≡ true))
      (import_name_at may ts)
  unfolding import_name_at name_at
  tell_import_name may pre ts o wrong = go (name_of (first ts)) refl
    where
      known : (n : List ℕ) → name_of (first ts) ≡ Some n → (b : Bool) → may n ≡ b →
          Told y pre ts (import_name_at may) (λ n fs. (p : Place) × (fs ≡ at (k.Name n) p ∷ []) × (may n ≡ true))
          (import_name_at may ts)
      known n e true m = let h = there ts (k.Name n) (only_name (first ts) n e) (λ z. cc) in
          told_same {X' = λ us. Ok (n, rest us)} {q = Ok (n, rest ts)} (rw e (rw m refl))
          (λ us s. rw s (rw e (rw m refl))) (rw h.2 (told_take (told_done (h.0, refl, m))))
      known n e false m = told_same {X' = λ us. Err (LeftOut left.Import, us)} {q = Err (LeftOut left.Import, ts)}
          (rw e (rw m refl)) (λ us s. rw s (rw e (rw m refl)))
          (told_left (k.Name n) (only_name (first ts) n e) o (λ p. wrong n p m))

      go : (x : Option (List ℕ)) → name_of (first ts) ≡ x →
          Told y pre ts (import_name_at may) (λ n fs. (p : Place) × (fs ≡ at (k.Name n) p ∷ []) × (may n ≡ true))
          (import_name_at may ts)
      go None e = told_same {X' = λ us. Err (Unexpected, us)} {q = Err (Unexpected, ts)} (rw e refl)
          (λ us s. rw s (rw e refl)) (told_refused o)
      go (Some n) e = known n e (may n) refl

  pub tell_imported : (may : List ℕ → Bool) (pre ts : List Token) → Opens low pre →
      ((n : List ℕ) (p : Place) → may n ≡ false → Opens (marked left.Import) (pre ++ at (k.Name n) p ∷ [])) →
      ((m : Mode) (i : Imported) (us : List Token) → OneImport may i us → Opens m (pre ++ us)) →
      Told y pre ts (imported_at may) (OneImport may) (imported_at may ts)
  unfolding imported_at
  tell_imported may pre ts o wrong hole = told_bind _ _ _ (tell_import_name may pre ts o wrong)
      (λ n fs us q r. told_map (λ m. record { name = n; bound = m }) (tell_renamed (pre ++ fs) us
      (λ m b vs j. here (simp append_assoc)
      (hole m (record { name = n; bound = b }) (fs ++ vs) (n, r.0, b, vs, refl, ap (λ z. z ++ vs) r.1, r.2, j))))
      (λ b vs j. (n, r.0, b, vs, refl, ap (λ z. z ++ vs) r.1, r.2, j)))

  pub tell_imports : (may : List ℕ → Bool) (n0 : List ℕ) → may n0 ≡ true →
      (f : ℕ) (found : List Imported) (pre ts : List Token) → length ts ≤ f →
      ((m : Mode) (is : List Imported) (us : List Token) → FollowImports may m.marks is us → Opens m (pre ++ us)) →
      Told y pre ts (imports_at may (more w f) found)
      (λ v fs. (is : List Imported) × (v ≡ found ++ is) × ((x : Marks) → FollowImports may x is fs))
      (imports_at may f found ts)
  unfolding imports_at
  tell_imports may n0 e0 zero found pre [] l hole = told_ends found ([], sym (append-nil found), no_import may) refl
      (λ us s. with_none (λ z. imports_at may w found z ≡ Ok (found, z)) us (ends w) s)
    where
      ends : (n : ℕ) → imports_at may n found [] ≡ Ok (found, [])
      ends zero = refl
      ends (suc n) = refl
  tell_imports may n0 e0 zero found pre (t ∷ ts) l hole = absurd (omega (arith, l))
  tell_imports may n0 e0 (suc f) found pre ts l hole = told_word (is_op 38) c.comma (only_op 38) refl
      (λ p us q. rw q (told_take (told_bind _ _ _ (tell_imported may (pre ++ at c.comma p ∷ []) us
      (on (at (k.Name n0) p0 ∷ []) (simp append_assoc)
      (hole low (record { name = n0; bound = None } ∷ []) _
      (more_imports p (S.Imports.one may None n0 p0 e0 S.Renamed.same))))
      (λ n p2 e. here (simp append_assoc)
      (hole (marked left.Import) [] _ (more_imports p (S.Imports.wrong may n p2 e))))
      (λ m i vs j. here (simp append_assoc)
      (hole m (i ∷ []) _ (more_imports p
      (move (Imports may m.marks (i ∷ [])) (append-nil vs)
      (then_imports may m.marks i vs j (no_import may m.marks)))))))
      (λ i fs us2 q2 j. told_post (λ v vs r.
      (i ∷ r.0, r.1 ∙ append_assoc found (i ∷ []) r.0, λ x. more_imports p (then_imports may x i fs j (r.2 x))))
      (tell_imports may n0 e0 f (found ++ i ∷ []) ((pre ++ at c.comma p ∷ []) ++ fs) us2
      (omega (arith, l, ap length q, length_after us fs us2 q2))
      (λ m is vs r. here (simp append_assoc)
      (hole m (i ∷ is) _ (more_imports p (then_imports may m.marks i fs j r)))))))))
      (λ e. told_done ([], sym (append-nil found), no_import may))

module _ (w y g d : ℕ) (under' under : Readers) (below : Lowers y g d under' under)
    (exprs : TellExprs y g d (under'.read 15) (under.read 15)) (targets : Targeting y g d under' under) where
  abbrev pub TargetsHole : List Token → Type 0
  TargetsHole pre = (m : Mode) (es : List Expr) (us : List Token) → FollowTargets m.marks es us → Fits m (tops es) d →
      Opens m (pre ++ us)

  abbrev pub SlicesHole : List Token → Type 0
  SlicesHole pre = (es : List Expr) (us : List Token) (κ : TokenKind) (p : Place) →
      FollowTargets (Some left.SliceForm) es us → ends_del κ ≡ true →
      Opens (marked left.SliceForm) (pre ++ (us ++ at κ p ∷ []))

  pub tell_targets : (f : ℕ) (found : Tall (List Expr)) (pre ts : List Token) → length ts ≤ f → f ≤ g → 0 < d →
      TargetsHole pre → SlicesHole pre →
      Told y pre ts (targets_at under' (more w f) found)
      (λ v fs. (es : List Expr) × (v.tree ≡ found.tree ++ es) × ((x : Marks) → FollowTargets x es fs) ×
      (tops es ≤ d)) (targets_at under f found ts)
  unfolding targets_at
  tell_targets zero found pre [] l i z' hole slice =
      told_ends found ([], sym (append-nil found.tree), no_target, omega arith) refl
      (λ us s. with_none (λ z. targets_at under' w found z ≡ Ok (found, z)) us (ends w) s)
    where
      ends : (n : ℕ) → targets_at under' n found [] ≡ Ok (found, [])
      ends zero = refl
      ends (suc n) = refl
  tell_targets zero found pre (t ∷ ts) l i z' hole slice = absurd (omega (arith, l))
  tell_targets (suc f) found pre ts l i z' hole slice = told_word (is_op 38) c.comma (only_op 38) refl
      (λ p us q. rw q (told_take (told_target d _ _
      (targets.target ends_del (pre ++ at c.comma p ∷ []) us (omega (arith, l, i, ap length q))
      (on word (simp append_assoc) (hole low (ex.Name [] ∷ []) _ (another p (S.Targets.one (word_target None)))
      (λ b. omega (arith, z', hh.height_name []))))
      (λ m a us r h. here (simp append_assoc)
      (hole m (a ∷ []) _ (another p (S.Targets.one r)) (λ b. omega (arith, h b))))
      (λ a us κ p2 r e. here (simp append_assoc) (slice (a ∷ []) _ κ p2 (another p (S.Targets.one r)) e)))
      (λ a fs rest q2 is h. told_post (λ v us r. (
        a ∷ r.0,
        r.1 ∙ append_assoc found.tree (a ∷ []) r.0,
        (λ x. another p (then_targets (is x) (r.2 x))),
        omega (arith, h, r.3),
      ))
      (tell_targets f (push found (of a)) ((pre ++ at c.comma p ∷ []) ++ fs) rest
      (omega (arith, l, ap length q, length_after us fs rest q2)) (omega (arith, i)) z'
      (λ m es us r j. here (simp append_assoc)
      (hole m (a ∷ es) _ (another p (then_targets (is m.marks) r)) (λ b. omega (arith, h, j b))))
      (λ es us κ p2 r e. here (simp append_assoc)
      (slice (a ∷ es) _ κ p2 (another p (then_targets (is (Some left.SliceForm)) r)) e)))))))
      (λ e. told_done ([], sym (append-nil found.tree), no_target, omega arith))

  abbrev pub EqualsHole : List Token → Type 0
  EqualsHole pre = (m : Mode) (es : List Expr) (b : Expr) (us : List Token) → Equals m.marks es b us →
      Fits m (max (tops es) (height b)) d → Opens m (pre ++ us)

  -- the expression a was read
  pub tell_equals : (f : ℕ) (found : List Expr) (pre : List Token) (a : Expr) (fs ts : List Token) → length ts ≤ f →
      f ≤ g → ((x : Marks) → Exprs x a fs) → height a ≤ d → EqualsHole pre →
      Told y (pre ++ fs) ts (λ us. equals_at under' (more w f) found (of a, us))
      (λ v us. (es : List Expr) × (b : Expr) × (v ≡ (found ++ es, b)) × ((x : Marks) → Equals x es b (fs ++ us)) ×
      (max (tops es) (height b) ≤ d) × (is_none es ≡ true → (x : Marks) → Exprs x b (fs ++ us)))
      (equals_at under f found (of a, ts))
  unfolding equals_at
  tell_equals zero found pre a fs [] l i is h hole =
      told_ends (found, a) (
        [],
        a,
        ap (λ z. (z, a)) (sym (append-nil found)),
        (λ x. S.Equals.value (move (Exprs x a) (sym (append-nil fs)) (is x))),
        omega (arith, h),
        λ e x.
            move (Exprs x a) (sym (append-nil fs)) (is x),
      ) refl
      (λ us s. with_none (λ z. equals_at under' w found (of a, z) ≡ Ok ((found, a), z)) us (ends w) s)
    where
      ends : (n : ℕ) → equals_at under' n found (of a, []) ≡ Ok ((found, a), [])
      ends zero = refl
      ends (suc n) = refl
  tell_equals zero found pre a fs (t ∷ ts) l i is h hole = absurd (omega (arith, l))
  tell_equals (suc f) found pre a fs ts l i is h hole =
      let o : Opens low (pre ++ fs) = hole low [] a _ (S.Equals.value (is None)) (λ b. omega (arith, h)) in
      told_word (is_op 42) c.assign (only_op 42) refl
      (λ p us q. told_checked (is_op 42) a _ _ o
      (λ t e p2. move (λ z. Opens (marked left.SliceForm) ((pre ++ fs) ++ z))
      (ap (λ z. at z p2 ∷ []) (ap first (sym q)))
      (on word (simp append_assoc) (hole (marked left.SliceForm) (a ∷ []) (ex.Name []) _
      (S.Equals.equals p2 (is (Some left.SliceForm)) t (S.Equals.value (exprs_word (Some left.SliceForm)))) free)))
      (λ t. let o2 : Opens low ((pre ++ fs) ++ at c.assign p ∷ []) =
      on word (simp append_assoc) (hole low (a ∷ []) (ex.Name []) _
      (S.Equals.equals p (is None) (target_any (is None) t None) (S.Equals.value (exprs_word None)))
      (λ b. omega (arith, h, hh.height_pos a, hh.height_name []))) in
      rw q (told_take (told_word (is_keyword 30) c.yield_ (only_keyword 30) refl
      (λ p3 us3 q3. told_left c.yield_ (ap first q3) o2
      (λ p4. here (simp append_assoc)
      (hole (marked left.Generator) (a ∷ []) (ex.Tuple []) _
      (S.Equals.equals p (is (Some left.Generator)) (target_any (is None) t (Some left.Generator))
      (S.Equals.yielded p4)) free)))
      (λ e2. told_exprs d _ _ (exprs ((pre ++ fs) ++ at c.assign p ∷ []) us (omega (arith, l, i, ap length q)) o2
      (λ m b us r j. here (simp append_assoc)
      (hole m (a ∷ []) b _ (S.Equals.equals p (is m.marks) (target_any (is None) t m.marks) (S.Equals.value r))
      (λ z. omega (arith, h, j z)))))
      (λ b gs rest q4 is2 h2. told_post (λ v vs r. (
        a ∷ r.0,
        r.1,
        r.2 ∙ ap (λ z. (z, r.1)) (append_assoc found (a ∷ []) r.0),
        (λ x. S.Equals.equals p (is x) (target_any (is None) t x) (r.3 x)),
        omega (arith, h, r.4),
        λ e. no (sym e),
      ))
      (tell_equals f (found ++ a ∷ []) ((pre ++ fs) ++ at c.assign p ∷ []) b gs rest
      (omega (arith, l, ap length q, length_after us gs rest q4)) (omega (arith, i)) is2 h2
      (λ m es b us r j. here (simp append_assoc)
      (hole m (a ∷ es) b _ (S.Equals.equals p (is m.marks) (target_any (is None) t m.marks) r)
      (λ z. omega (arith, h, j z)))))))))))
      (λ e. told_done (
        [],
        a,
        ap (λ z. (z, a)) (sym (append-nil found)),
        (λ x. S.Equals.value (move (Exprs x a) (sym (append-nil fs)) (is x))),
        omega (arith, h),
        λ e x.
            move (Exprs x a) (sym (append-nil fs)) (is x),
      ))

  abbrev pub SimpleHole : List Token → Type 0
  SimpleHole pre = (m : Mode) (a : Stmt) (us : List Token) → Simple m.marks a us → Fits m (tall a) (suc d) →
      Opens m (pre ++ us)

  -- what may follow a simple statement
  abbrev pub EndHole : List Token → Type 0
  EndHole pre = (a : Stmt) (us : List Token) (κ : TokenKind) (p : Place) → Simple (Some left.SliceForm) a us →
      (is_op 41 κ || is_newline κ) ≡ true → Opens (marked left.SliceForm) (pre ++ (us ++ at κ p ∷ []))

  abbrev pub ReadSimple : Stmt → List Token → Type 0
  ReadSimple v fs = ((x : Marks) → Simple x v fs) × (tall v ≤ suc d)

  line_same : (P : ℕ → List Token → Type 0) {a : Expr} {fs : List Token} (ts us vs : List Token) → Exprs None a fs →
      ts ≡ fs ++ us → P (line_of (fs ++ vs)) (fs ++ vs) → P (line_of ts) (fs ++ vs)
  line_same P {fs = fs} ts us vs p e h =
      subst (λ z. P z (fs ++ vs)) (line_front fs vs (long (exprs_headed p)) ∙ sym (exprs_line p ts us e)) h

  pub tell_augment : (o : Operator) (n : ℕ) → augment_word o ≡ Some n →
      (pre ts : List Token) (a : Expr) (fs us : List Token) → ts ≡ fs ++ us → first us ≡ k.Op n → length us ≤ g →
      ((x : Marks) → Exprs x a fs) → height a ≤ d → SimpleHole pre →
      Told y (pre ++ fs) us (λ vs. run_at under' (more w g) (line_of ts) (of a, vs) (Some o))
      (λ v vs. ReadSimple v (fs ++ vs)) (run_at under g (line_of ts) (of a, us) (Some o))
  unfolding run_at
  tell_augment o n aw pre ts a fs us q fw l is h hole = go (is_single false (form a)) refl
    where
      v : Opens low (pre ++ fs)
      v = hole low (st.Do (line_of fs) a) _ (S.Simple.run (is None)) (λ b. omega (arith, h, ht.tall_do (line_of fs) a))

      go : (b : Bool) → is_single false (form a) ≡ b →
          Told y (pre ++ fs) us (λ vs. run_at under' (more w g) (line_of ts) (of a, vs) (Some o))
          (λ v vs. ReadSimple v (fs ++ vs)) (run_at under g (line_of ts) (of a, us) (Some o))
      go true e =
          let f = there us (k.Op n) fw (λ z. cc) in let f0 = f.0 in
          let o2 : Opens low ((pre ++ fs) ++ at (k.Op n) f.0 ∷ []) =
          on word (simp append_assoc)
          (hole low (st.Augment (line_of fs) a o (ex.Name [])) _
          (S.Simple.augment n o f.0 aw (is None) (single_any a e None) (exprs_word None))
          (λ b. omega (
            arith,
            h,
            hh.height_pos a,
            hh.height_name [],
            ht.tall_augment (line_of fs) a o (ex.Name []),
          ))) in
          told_same {X' = λ vs. if is_keyword 30 (first (rest vs)) then Err (LeftOut left.Generator, rest vs) else
          (under'.read 15 (rest vs) >>= λ b. Ok (st.Augment (line_of ts) a o b.0.tree, b.1))}
          {q = if is_keyword 30 (first (rest us)) then Err (LeftOut left.Generator, rest us) else
          (under.read 15 (rest us) >>= λ b. Ok (st.Augment (line_of ts) a o b.0.tree, b.1))} (rw e refl)
          (λ vs s. rw e refl)
          (rw f.2 (told_take (told_word (is_keyword 30) c.yield_ (only_keyword 30) refl
          (λ p us2 q2. told_left c.yield_ (ap first q2) o2
          (λ p2. here (simp append_assoc)
          (hole (marked left.Generator) (st.Augment (line_of fs) a o a) _
          (S.Simple.augment_yield n o f0 p2 aw (is (Some left.Generator)) e) free)))
          (λ e2. told_map (λ b. st.Augment (line_of ts) a o b.tree)
          (exprs ((pre ++ fs) ++ at (k.Op n) f.0 ∷ []) f.1 (omega (arith, l, ap length f.2)) o2
          (λ m b vs r j. here (simp append_assoc)
          (hole m (st.Augment (line_of fs) a o b) _
          (S.Simple.augment n o f0 aw (is m.marks) (single_any a e m.marks) r)
          (λ z. omega (arith, h, j z, ht.tall_augment (line_of fs) a o b)))))
          (λ v vs r. let val : st.Augment (line_of ts) a o v.tree ≡ st.Augment (line_of fs) a o r.0 =
          ap (λ z. st.Augment z a o v.tree) (exprs_line (is None) ts us q) ∙
          ap (λ z. st.Augment (line_of fs) a o z.tree) r.1 in
          rw val (
            (λ x. S.Simple.augment n o f0 aw (is x) (single_any a e x) (r.2 x)),
            omega (arith, h, r.3, ht.tall_augment (line_of fs) a o r.0),
          ))))))
      go false e = go2 (is_single true (form a)) refl
        where
          go2 : (b : Bool) → is_single true (form a) ≡ b →
              Told y (pre ++ fs) us (λ vs. run_at under' (more w g) (line_of ts) (of a, vs) (Some o))
              (λ v vs. ReadSimple v (fs ++ vs)) (run_at under g (line_of ts) (of a, us) (Some o))
          go2 true e2 = told_same {X' = λ vs. Err (LeftOut left.SliceForm, vs)} {q = Err (LeftOut left.SliceForm, us)}
              (rw e (rw e2 refl)) (λ vs s. rw e (rw e2 refl))
              (told_left (k.Op n) fw v (λ p.
              on word (simp append_assoc)
              (hole (marked left.SliceForm) (st.Augment (line_of fs) a o (ex.Name [])) _
              (S.Simple.augment n o p aw (is (Some left.SliceForm)) e2 (exprs_word (Some left.SliceForm))) free)))
          go2 false e2 = told_same {X' = λ vs. Err (Unexpected, vs)} {q = Err (Unexpected, us)} (rw e (rw e2 refl))
              (λ vs s. rw e (rw e2 refl)) (told_refused v)

  run_value : (l : ℕ) (es : List Expr) (b : Expr) (fs : List Token) (x : Marks) → l ≡ line_of fs → Equals x es b fs →
      (is_none es ≡ true → Exprs x b fs) → Simple x (run_or_assign l es b) fs
  run_value l [] b fs x e q h = rw e (S.Simple.run (h refl))
  run_value l (a ∷ es) b fs x e p h = rw e (S.Simple.assign p)

  run_height : (l : ℕ) (es : List Expr) (b : Expr) → tall (run_or_assign l es b) ≡ max (tops es) (height b) + 1
  run_height l [] b = omega (arith, ht.tall_do l b)
  run_height l (a ∷ es) b = omega (arith, ht.tall_assign l (a ∷ es) b)

  equals_long : {x : Marks} {es : List Expr} {b : Expr} {fs : List Token} → Equals x es b fs → 0 < length fs
  equals_long (S.Equals.value p) = long (exprs_headed p)
  equals_long (S.Equals.equals p {ts = ts} {us = us} q t r) = omega (arith, length-append ts (at c.assign p ∷ us))
  equals_long (S.Equals.yielded p) = omega arith

  -- with a mark, a value left out alone is no statement, and the statement `yield` stands for it
  equals_simple : (m : Mode) (es : List Expr) (b : Expr) (us : List Token) → Equals m.marks es b us →
      (a : Stmt) × Simple m.marks a us × (tall a ≤ max (tops es) (height b) + 1)
  equals_simple m [] b us (S.Equals.value p) =
      (st.Do (line_of us) b, S.Simple.run p, omega (arith, ht.tall_do (line_of us) b))
  equals_simple m [] b us (S.Equals.yielded p) =
      (st.Pass p.line, S.Simple.yield p, omega (arith, ht.tall_pass p.line, hh.height_tuple []))
  equals_simple m (a ∷ es) b us p = (
    st.Assign (line_of us) (a ∷ es) b,
    S.Simple.assign p,
    omega (arith, ht.tall_assign (line_of us) (a ∷ es) b),
  )

  pub tell_running : (pre ts : List Token) → length ts ≤ g → Opens low pre → SimpleHole pre →
      Told y pre ts (running_at under' (more w g)) ReadSimple (running_at under g ts)
  unfolding running_at run_at
  tell_running pre ts l o hole = told_line (λ line us. under'.read 15 us >>= λ a.
      run_at under' (more w g) line a (assigned_of (first a.1)))
      (told_exprs d _ _ (exprs pre ts l o
      (λ m a us p h. hole m (st.Do (line_of us) a) us (S.Simple.run p)
      (λ b. omega (arith, h b, ht.tall_do (line_of us) a))))
      (λ a fs rest q is h. told_kind (λ κ us. run_at under' (more w g) (line_of ts) (of a, us) (assigned_of κ))
      (go a fs rest q is h (assigned_of (first rest)) refl)))
    where
      go : (a : Expr) (fs us : List Token) → ts ≡ fs ++ us → ((x : Marks) → Exprs x a fs) → height a ≤ d →
          (o : Option Operator) → assigned_of (first us) ≡ o →
          Told y (pre ++ fs) us (λ vs. run_at under' (more w g) (line_of ts) (of a, vs) (assigned_of (first us)))
          (λ v vs. ReadSimple v (fs ++ vs)) (run_at under g (line_of ts) (of a, us) (assigned_of (first us)))
      go a fs us q is h (Some o) e = let k' = assigned_op (first us) o e in
          rw e (tell_augment o k'.0 k'.2 pre ts a fs us q k'.1 (omega (arith, l, length_after ts fs us q)) is h hole)
      go a fs us q is h None e = rw e (told_map (λ v. run_or_assign (line_of ts) v.0 v.1)
          (tell_equals g [] pre a fs us (omega (arith, l, length_after ts fs us q)) (omega arith) is h
          (λ m es b vs r j. let s = equals_simple m es b vs r in hole m s.0 vs s.1 (λ z. omega (arith, j z, s.2))))
          (λ v vs r. let val : run_or_assign (line_of ts) v.0 v.1 ≡ run_or_assign (line_of ts) r.0 r.1 =
          ap (λ z. run_or_assign (line_of ts) z.0 z.1) r.2 in
          rw val (
            (λ x. run_value (line_of ts) r.0 r.1 (fs ++ vs) x
                (exprs_line (is None) ts us q ∙ sym (line_front fs vs (long (exprs_headed (is None))))) (r.3 x)
                (λ e. r.5 e x)),
            omega (arith, r.4, run_height (line_of ts) r.0 r.1),
          )))
