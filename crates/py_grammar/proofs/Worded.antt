-- What reading a simple statement tells.
use Rattle.std.proofs.Common.{◌≡◌, ℕ, suc, ◌<◌, ◌≤◌, Bool, true, false, ◌||◌, List, [], ◌∷◌, ◌++◌, length, Ok, Option, Some, None, inl, inr, refl, sym, ap, ◌∙◌, append_assoc, append-nil, arith, if◌then◌else◌}
use Rattle.py_tokens.specs.declared.token.Token.{Token}
use Rattle.py_tokens.specs.declared.token.TokenKind.{TokenKind}
use Rattle.py_tokens.specs.declared.token.TokenKind.TheVariants as k
use Rattle.py_tokens.specs.declared.token.Place.{Place}
use Rattle.py_tokens.specs.Place.{token_at as at}
use Rattle.py_tree.specs.declared.expr.Expr.{Expr}
use Rattle.py_tree.specs.declared.expr.Expr.TheVariants as ex
use Rattle.py_tree.specs.Height.{height, top_or}
use Rattle.py_tree.proofs.Heights as hh
use Rattle.py_base.specs.declared.refusal.Construct.TheVariants as left
use Rattle.py_grammar.specs.Codes as c
use Rattle.py_grammar.specs.Grammar as G
use Rattle.py_grammar.specs.Grammar.{Marks, Is, Strings, Tests, Commas, Exprs, Pairs, Links, Trailers, Trails, Maybe, Args}
use Rattle.py_grammar.specs.inner.Tall.{tree_or, start as start'}
use Rattle.py_grammar.specs.inner.Aiming.{Readers}
use Rattle.py_grammar.specs.inner.Reading.{◌>>=◌, first, is_op, comes, name_at}
use Rattle.py_grammar.proofs.Steps.{of}
use Rattle.py_grammar.proofs.Facts.{no}
use Rattle.py_grammar.proofs.Values.{of_or}
use Rattle.py_grammar.proofs.Told.{Mode, any, low, marked, Fits, Opens, more, Told, told_done, told_left, told_if, told_deep, told_take, told_word, told_bind, told_map, told_case, told_kind, on, here, move}
use Rattle.py_grammar.proofs.Tells.{only_op, told_read, told_need_word, told_need_name, p0, word, is_word, free, length_after, then_tests, tell_tests}
use Rattle.py_grammar.proofs.Atoms.{either}
use Rattle.py_grammar.specs.Statements as S
use Rattle.py_grammar.specs.Statements.{slices, Target, Targets, Loops, Equals}
use Rattle.py_grammar.specs.inner.Lines.{target_at, targets_at, maybe_at, ends_del}
use Rattle.py_grammar.proofs.Targets.{TellExprs, word_target}
use Rattle.py_grammar.specs.Words.{is_module, is_member}
use Rattle.py_grammar.specs.Statements.{Names, Renamed, Imports, Simple}
use Rattle.py_grammar.specs.inner.Lines.{names_at, imported_at, imports_at, print_at, raise_at, assert_at, from_at, worded_at, running_at, simple_by, simple_at}
use Rattle.py_tree.specs.declared.stmt.Stmt.{Stmt}
use Rattle.py_tree.specs.declared.stmt.Stmt.TheVariants as st
use Rattle.py_tree.specs.declared.stmt.Imported.{Imported}
use Rattle.py_tree.specs.Tall.{tall}
use Rattle.py_tree.proofs.Talls as ht
use Rattle.py_grammar.proofs.Simples.{Lowers, Targeting, told_target, FollowTargets, no_target, another, then_targets, then_names, no_import, then_imports, tell_names, tell_imported, tell_imports, tell_import_name, tell_targets, tell_running, SimpleHole, EndHole, ReadSimple}
use Rattle.std.proofs.Common.{codes}
use Rattle.std.specs.Str.{bytes_eq}

pub data MaybeExprs : Marks → Option Expr → List Token → Type 0 where
  no_exprs : (x : Marks) → MaybeExprs x None []
  some_exprs : {x : Marks} {a : Expr} {us : List Token} → Exprs x a us → MaybeExprs x (Some a) us

tree_of : (o : Option Expr) → tree_or (of_or o) ≡ o
tree_of None = refl
tree_of (Some a) = refl

returned : {x : Marks} (p : Place) {o : Option Expr} {us : List Token} → MaybeExprs x o us →
    Simple x (st.Return p.line o) (at c.return_ p ∷ us)
returned {x = x} p (no_exprs _) = S.Simple.return_none x p
returned p (some_exprs q) = S.Simple.return p q

member : (m : List ℕ) → is_module m ≡ true → (n : List ℕ) × (is_member m n ≡ true)
member m e = go (bytes_eq m (codes "thread")) (bytes_eq m (codes "threading")) refl refl e
  where
    go : (a b : Bool) → bytes_eq m (codes "thread") ≡ a → bytes_eq m (codes "threading") ≡ b → (a || b) ≡ true →
        (n : List ℕ) × (is_member m n ≡ true)
    go true b i j h = (codes "error", rw i refl)
    go false true i j h = (codes "Lock", rw i (rw j refl))
    go false false i j h = no (sym h)

module _ (w y g d : ℕ) (under' under : Readers) (below : Lowers y g d under' under)
    (exprs : TellExprs y g d (under'.read 15) (under.read 15)) (targets : Targeting y g d under' under) where
  abbrev Hole' : List Token → Type 0
  Hole' pre = SimpleHole w y g d under' under below exprs targets pre

  abbrev Read' : Stmt → List Token → Type 0
  Read' = ReadSimple w y g d under' under below exprs targets

  n14 : (x : Marks) → Is x 14 (ex.Name []) word
  n14 x = is_word 14 x (omega arith)

  tell_print : (p : Place) (pre ts : List Token) → length ts ≤ g → Hole' pre →
      Told y (pre ++ at c.print_ p ∷ []) ts (print_at under' (more w g) p.line) (λ v us. Read' v (at c.print_ p ∷ us))
      (print_at under g p.line ts)
  unfolding print_at
  tell_print p pre ts l hole =
      let o : Opens low (pre ++ at c.print_ p ∷ []) = hole low (st.Print p.line [] false) _ (S.Simple.print_end None p)
      (λ b. omega (arith, ht.tall_print p.line [] false)) in
      told_word (is_op 7) c.shift_right (only_op 7) refl
      (λ q us e. told_left c.shift_right (ap first e) o
      (λ i. here (simp append_assoc) (hole (marked left.PrintTo) (st.Pass p.line) _ (S.Simple.print_to p i) free)))
      (λ e1. told_if (comes 14)
      (λ c'. told_read 14 d _ _ (below.read 14 (omega arith) (pre ++ at c.print_ p ∷ []) ts l o
      (λ m a us r h. here (simp append_assoc)
      (hole m (st.Print p.line (a ∷ []) false) _ (S.Simple.print p (G.only r))
      (λ b. omega (arith, h b, ht.tall_print p.line (a ∷ []) false)))))
      (λ a fs rest q is h. told_map (λ v. st.Print p.line v.0.tree v.1)
      (tell_tests w y g d (under'.read 14) (under.read 14) (below.read 14 (omega arith)) g (start' (of a))
      ((pre ++ at c.print_ p ∷ []) ++ fs) rest (omega (arith, l, length_after ts fs rest q)) (omega arith)
      (λ m es b vs r j. here (simp append_assoc)
      (hole m (st.Print p.line (a ∷ es) b) _ (S.Simple.print p (then_tests (is m.marks) r))
      (λ z. omega (arith, h, j z, ht.tall_print p.line (a ∷ es) b)))))
      (λ v vs r. let val : st.Print p.line v.0.tree v.1 ≡ st.Print p.line (a ∷ r.0) v.1 =
      ap (λ z. st.Print p.line z.tree v.1) r.1 in
      rw val (
        (λ x. S.Simple.print p (then_tests (is x) (r.2 x))),
        omega (arith, h, r.3, ht.tall_print p.line (a ∷ r.0) v.1),
      ))))
      (λ c'. told_done ((λ x. S.Simple.print_end x p), omega (arith, ht.tall_print p.line [] false))))

  tell_maybe : (pre ts : List Token) → length ts ≤ g → Opens low pre →
      ((m : Mode) (o : Option Expr) (us : List Token) → MaybeExprs m.marks o us → Fits m (top_or o) d →
      Opens m (pre ++ us)) →
      Told y pre ts (maybe_at under' 15)
      (λ v fs. (o : Option Expr) × (v ≡ of_or o) × ((x : Marks) → MaybeExprs x o fs) × (top_or o ≤ d))
      (maybe_at under 15 ts)
  unfolding maybe_at
  tell_maybe pre ts l o hole = told_if (comes 15)
      (λ c'. told_map (λ a. Some a) (exprs pre ts l o (λ m a us r h. hole m (Some a) us (some_exprs r) h))
      (λ v fs r. (Some r.0, ap (λ z. Some z) r.1, (λ x. some_exprs (r.2 x)), r.3)))
      (λ c'. told_done (None, refl, no_exprs, omega arith))

  tell_return : (p : Place) (pre ts : List Token) → length ts ≤ g → Hole' pre →
      Told y (pre ++ at c.return_ p ∷ []) ts (λ us. maybe_at under' 15 us >>= λ a.
      Ok (st.Return p.line (tree_or a.0), a.1)) (λ v us. Read' v (at c.return_ p ∷ us))
      (maybe_at under 15 ts >>= λ a. Ok (st.Return p.line (tree_or a.0), a.1))
  tell_return p pre ts l hole = told_map (λ v. st.Return p.line (tree_or v))
      (tell_maybe (pre ++ at c.return_ p ∷ []) ts l
      (hole low (st.Return p.line None) _ (S.Simple.return_none None p)
      (λ b. omega (arith, ht.tall_return p.line None)))
      (λ m o us r h. here (simp append_assoc)
      (hole m (st.Return p.line o) _ (returned p r) (λ b. omega (arith, h b, ht.tall_return p.line o)))))
      (λ v us r. let val : st.Return p.line (tree_or v) ≡ st.Return p.line r.0 =
      ap (λ z. st.Return p.line (tree_or z)) r.1 ∙ ap (λ z. st.Return p.line z) (tree_of r.0) in
      rw val ((λ x. returned p (r.2 x)), omega (arith, r.3, ht.tall_return p.line r.0)))

  tell_raise_at : (p : Place) (pre : List Token) (a : Expr) (fs ts : List Token) → length ts ≤ g →
      ((x : Marks) → Is x 14 a fs) → height a ≤ d → Hole' pre →
      Told y ((pre ++ at c.raise_ p ∷ []) ++ fs) ts (λ us. raise_at under' p.line (of a, us))
      (λ v us. Read' v (at c.raise_ p ∷ (fs ++ us))) (raise_at under p.line (of a, ts))
  unfolding raise_at
  tell_raise_at p pre a fs ts l is h hole = told_word (is_op 38) c.comma (only_op 38) refl
      (λ q us e. rw e (told_take (told_read 14 d _ _
      (below.read 14 (omega arith) (((pre ++ at c.raise_ p ∷ []) ++ fs) ++ at c.comma q ∷ []) us
      (omega (arith, l, ap length e))
      (on word (simp append_assoc) (hole low (st.Raise p.line (Some a) (Some (ex.Name []))) _
      (S.Simple.raise_two p q (is None) (n14 None))
      (λ b. omega (
        arith,
        h,
        hh.height_pos a,
        hh.height_name [],
        ht.tall_raise p.line (Some a) (Some (ex.Name [])),
      ))))
      (λ m b vs r j. here (simp append_assoc)
      (hole m (st.Raise p.line (Some a) (Some b)) _ (S.Simple.raise_two p q (is m.marks) r)
      (λ z. omega (arith, h, j z, ht.tall_raise p.line (Some a) (Some b))))))
      (λ b gs rest q2 is2 h2. told_word (is_op 38) c.comma (only_op 38) refl
      (λ q3 us3 e3. told_left c.comma (ap first e3)
      (here (simp append_assoc) (hole low (st.Raise p.line (Some a) (Some b)) _
      (S.Simple.raise_two p q (is None) (is2 None))
      (λ z. omega (arith, h, h2, ht.tall_raise p.line (Some a) (Some b)))))
      (λ i. here (simp append_assoc) (hole (marked left.Traceback) (st.Raise p.line (Some a) (Some b)) _
      (S.Simple.traceback p q i (is (Some left.Traceback)) (is2 (Some left.Traceback))) free)))
      (λ e3. told_done (
        (λ x. move (Simple x (st.Raise p.line (Some a) (Some b)))
            (ap (λ z. at c.raise_ p ∷ (fs ++ at c.comma q ∷ z)) (sym (append-nil gs)))
            (S.Simple.raise_two p q (is x) (is2 x))),
        omega (arith, h, h2, ht.tall_raise p.line (Some a) (Some b)),
      ))))))
      (λ e. told_done (
        (λ x. move (Simple x (st.Raise p.line (Some a) None))
            (ap (λ z. at c.raise_ p ∷ z) (sym (append-nil fs))) (S.Simple.raise_one p (is x))),
        omega (arith, h, ht.tall_raise p.line (Some a) None),
      ))

  tell_raise : (p : Place) (pre ts : List Token) → length ts ≤ g → Hole' pre →
      Told y (pre ++ at c.raise_ p ∷ []) ts
      (λ us. if comes 14 (first us) then (under'.read 14 us >>= raise_at under' p.line) else Ok
      (st.Raise p.line None None, us)) (λ v us. Read' v (at c.raise_ p ∷ us))
      (if comes 14 (first ts) then (under.read 14 ts >>= raise_at under p.line) else Ok (st.Raise p.line None None, ts))
  tell_raise p pre ts l hole =
      let o : Opens low (pre ++ at c.raise_ p ∷ []) =
      hole low (st.Raise p.line None None) _ (S.Simple.raise_none None p)
      (λ b. omega (arith, ht.tall_raise p.line None None)) in
      told_if (comes 14)
      (λ c'. told_read 14 d _ _ (below.read 14 (omega arith) (pre ++ at c.raise_ p ∷ []) ts l o
      (λ m a us r h. here (simp append_assoc)
      (hole m (st.Raise p.line (Some a) None) _ (S.Simple.raise_one p r)
      (λ b. omega (arith, h b, ht.tall_raise p.line (Some a) None)))))
      (λ a fs rest q is h. tell_raise_at p pre a fs rest (omega (arith, l, length_after ts fs rest q)) is h hole))
      (λ c'. told_done ((λ x. S.Simple.raise_none x p), omega (arith, ht.tall_raise p.line None None)))

  tell_assert_at : (p : Place) (pre : List Token) (a : Expr) (fs ts : List Token) → length ts ≤ g →
      ((x : Marks) → Is x 14 a fs) → height a ≤ d → Hole' pre →
      Told y ((pre ++ at c.assert_ p ∷ []) ++ fs) ts (λ us. assert_at under' p.line (of a, us))
      (λ v us. Read' v (at c.assert_ p ∷ (fs ++ us))) (assert_at under p.line (of a, ts))
  unfolding assert_at
  tell_assert_at p pre a fs ts l is h hole = told_word (is_op 38) c.comma (only_op 38) refl
      (λ q us e. rw e (told_take (told_map (λ b. st.Assert p.line a (Some b.tree))
      (below.read 14 (omega arith) (((pre ++ at c.assert_ p ∷ []) ++ fs) ++ at c.comma q ∷ []) us
      (omega (arith, l, ap length e))
      (on word (simp append_assoc) (hole low (st.Assert p.line a (Some (ex.Name []))) _
      (S.Simple.assert_two p q (is None) (n14 None))
      (λ b. omega (arith, h, hh.height_pos a, hh.height_name [], ht.tall_assert p.line a (Some (ex.Name []))))))
      (λ m b vs r j. here (simp append_assoc)
      (hole m (st.Assert p.line a (Some b)) _ (S.Simple.assert_two p q (is m.marks) r)
      (λ z. omega (arith, h, j z, ht.tall_assert p.line a (Some b))))))
      (λ v vs r. let val : st.Assert p.line a (Some v.tree) ≡ st.Assert p.line a (Some r.0) =
      ap (λ z. st.Assert p.line a (Some z.tree)) r.1 in
      rw val (
        (λ x. S.Simple.assert_two p q (is x) (r.2 x)),
        omega (arith, h, r.3, ht.tall_assert p.line a (Some r.0)),
      )))))
      (λ e. told_done (
        (λ x. move (Simple x (st.Assert p.line a None))
            (ap (λ z. at c.assert_ p ∷ z) (sym (append-nil fs))) (S.Simple.assert_one p (is x))),
        omega (arith, h, ht.tall_assert p.line a None),
      ))

  tell_from : (p : Place) (pre ts : List Token) → length ts ≤ g → Opens low (pre ++ at c.from_ p ∷ []) → Hole' pre →
      Told y (pre ++ at c.from_ p ∷ []) ts (from_at (more w g) p.line) (λ v us. Read' v (at c.from_ p ∷ us))
      (from_at g p.line ts)
  unfolding from_at
  tell_from p pre ts l o hole =
      let tf : (m : List ℕ) (is : List Imported) → tall (st.From p.line m is) ≡ 1 = λ m is. ht.tall_from p.line m is in
      told_bind _ _ _ (tell_import_name w y is_module (pre ++ at c.from_ p ∷ []) ts o
      (λ n i e. here (simp append_assoc)
      (hole (marked left.Import) (st.Pass p.line) _ (S.Simple.from_wrong n p i e) free)))
      (λ m fs us q r. let mem = member m r.2 in let n0 = mem.0 in let e0 = mem.1 in
      rw r.1 (told_need_word 17 _ _ (on (at c.import_ p0 ∷ at (k.Name n0) p0 ∷ []) (simp append_assoc)
      (hole low (st.From p.line m (record { name = n0; bound = None } ∷ [])) _
      (S.Simple.from m p r.0 p0 r.2 (S.Imports.one (is_member m) None n0 p0 e0 S.Renamed.same))
      (λ b. omega (arith, tf m (record { name = n0; bound = None } ∷ [])))))
      (λ p2 us2 q2. told_bind _ _ _ (tell_imported w y (is_member m)
      (((pre ++ at c.from_ p ∷ []) ++ at (k.Name m) r.0 ∷ []) ++ at c.import_ p2 ∷ []) us2
      (on (at (k.Name n0) p0 ∷ []) (simp append_assoc)
      (hole low (st.From p.line m (record { name = n0; bound = None } ∷ [])) _
      (S.Simple.from m p r.0 p2 r.2 (S.Imports.one (is_member m) None n0 p0 e0 S.Renamed.same))
      (λ b. omega (arith, tf m (record { name = n0; bound = None } ∷ [])))))
      (λ n p3 e3. here (simp append_assoc)
      (hole (marked left.Import) (st.From p.line m []) _
      (S.Simple.from m p r.0 p2 r.2 (S.Imports.wrong (is_member m) n p3 e3)) free))
      (λ z i vs j. here (simp append_assoc)
      (hole z (st.From p.line m (i ∷ [])) _
      (S.Simple.from m p r.0 p2 r.2 (move (Imports (is_member m) z.marks (i ∷ [])) (append-nil vs)
      (then_imports (is_member m) z.marks i vs j (no_import (is_member m) z.marks))))
      (λ b. omega (arith, tf m (i ∷ []))))))
      (λ i gs us3 q3 j. told_map (λ is. st.From p.line m is)
      (tell_imports w y (is_member m) n0 e0 g (i ∷ [])
      ((((pre ++ at c.from_ p ∷ []) ++ at (k.Name m) r.0 ∷ []) ++ at c.import_ p2 ∷ []) ++ gs) us3
      (omega (arith, l, length_after ts fs us q, ap length q2, length_after us2 gs us3 q3))
      (λ z is vs s. here (simp append_assoc)
      (hole z (st.From p.line m (i ∷ is)) _
      (S.Simple.from m p r.0 p2 r.2 (then_imports (is_member m) z.marks i gs j s))
      (λ b. omega (arith, tf m (i ∷ is))))))
      (λ v vs s. rw s.1 (
        (λ x. S.Simple.from m p r.0 p2 r.2 (then_imports (is_member m) x i gs j (s.2 x))),
        omega (arith, tf m (i ∷ s.0)),
      ))))))

  abbrev End' : List Token → Type 0
  End' pre = EndHole w y g d under' under below exprs targets pre

  tell_del : (p : Place) (pre ts : List Token) → length ts ≤ g → 0 < d → Hole' pre → End' pre →
      Told y (pre ++ at c.del_ p ∷ []) ts (λ us. target_at under' ends_del us >>= λ a.
      (targets_at under' (more w g) (start' a.0) a.1 >>= λ es. Ok (st.Del p.line es.0.tree, es.1)))
      (λ v us. Read' v (at c.del_ p ∷ us)) (target_at under ends_del ts >>= λ a.
      (targets_at under g (start' a.0) a.1 >>= λ es. Ok (st.Del p.line es.0.tree, es.1)))
  tell_del p pre ts l z' hole end =
      told_target d _ _ (targets.target ends_del (pre ++ at c.del_ p ∷ []) ts l
      (on word (simp append_assoc) (hole low (st.Del p.line (ex.Name [] ∷ [])) _
      (S.Simple.del p (S.Targets.one (word_target None)))
      (λ b. omega (arith, z', hh.height_name [], ht.tall_del p.line (ex.Name [] ∷ [])))))
      (λ m a us r h. here (simp append_assoc)
      (hole m (st.Del p.line (a ∷ [])) _ (S.Simple.del p (S.Targets.one r))
      (λ b. omega (arith, h b, ht.tall_del p.line (a ∷ [])))))
      (λ a us κ p2 r e. ended (a ∷ []) us κ p2 (S.Targets.one r) (λ i q. S.Targets.more i r q) e))
      (λ a fs rest q is h. told_map (λ v. st.Del p.line v.tree)
      (tell_targets w y g d under' under below exprs targets g (start' (of a)) ((pre ++ at c.del_ p ∷ []) ++ fs)
      rest (omega (arith, l, length_after ts fs rest q)) (omega arith) z'
      (λ m es us r j. here (simp append_assoc)
      (hole m (st.Del p.line (a ∷ es)) _ (S.Simple.del p (then_targets (is m.marks) r))
      (λ b. omega (arith, h, j b, ht.tall_del p.line (a ∷ es)))))
      (λ es us κ p2 r e. here (simp append_assoc)
      (ended (a ∷ es) (fs ++ us) κ p2 (then_targets (is (Some left.SliceForm)) r)
      (λ i q. move (Targets (Some left.SliceForm) _) (simp append_assoc)
      (then_targets (is (Some left.SliceForm)) (appended i r q))) e)))
      (λ v us r. let val : st.Del p.line v.tree ≡ st.Del p.line (a ∷ r.0) = ap (λ z. st.Del p.line z) r.1 in
      rw val (
        (λ x. S.Simple.del p (then_targets (is x) (r.2 x))),
        omega (arith, h, r.3, ht.tall_del p.line (a ∷ r.0)),
      )))
    where
      -- targets followed by another one
      targets_then : {es : List Expr} {us : List Token} (i : Place) → Targets (Some left.SliceForm) es us →
          Targets (Some left.SliceForm) (ex.Name [] ∷ []) word →
          Targets (Some left.SliceForm) (es ++ ex.Name [] ∷ []) (us ++ at c.comma i ∷ word)
      targets_then i (S.Targets.one r) q = S.Targets.more i r q
      targets_then i (S.Targets.more j {ts = ts} {us = us} r s) q =
          move (Targets (Some left.SliceForm) _) (simp append_assoc) (S.Targets.more j r (targets_then i s q))

      appended : (i : Place) {es : List Expr} {us : List Token} → FollowTargets (Some left.SliceForm) es us →
          Targets (Some left.SliceForm) (ex.Name [] ∷ []) word →
          FollowTargets (Some left.SliceForm) (es ++ ex.Name [] ∷ []) (us ++ at c.comma i ∷ word)
      appended i (no_target _) q = another i q
      appended i (another j r) q = another j (targets_then i r q)

      ended : (es : List Expr) (us : List Token) (κ : TokenKind) (p2 : Place) → Targets (Some left.SliceForm) es us →
          ((i : Place) → Targets (Some left.SliceForm) (ex.Name [] ∷ []) word →
          Targets (Some left.SliceForm) (es ++ ex.Name [] ∷ []) (us ++ at c.comma i ∷ word)) → ends_del κ ≡ true →
          Opens (marked left.SliceForm) ((pre ++ at c.del_ p ∷ []) ++ (us ++ at κ p2 ∷ []))
      ended es us κ p2 r more' e = elim (either (is_op 38 κ) _ e) [
        | inl q ↦ rw (only_op 38 κ q) (on word (simp append_assoc)
            (hole (marked left.SliceForm) (st.Del p.line (es ++ ex.Name [] ∷ [])) _
            (S.Simple.del p (more' p2 (S.Targets.one (word_target (Some left.SliceForm))))) free))
        | inr q ↦ here (simp append_assoc) (end (st.Del p.line es) _ κ p2 (S.Simple.del p r) q)
      ]

  tell_global : (p : Place) (pre ts : List Token) → length ts ≤ g → Hole' pre →
      Told y (pre ++ at c.global_ p ∷ []) ts
      (λ us. name_at us >>= λ m. (names_at (more w g) (m.0 ∷ []) m.1 >>= λ ns. Ok (st.Global p.line ns.0, ns.1)))
      (λ v us. Read' v (at c.global_ p ∷ us))
      (name_at ts >>= λ m. (names_at g (m.0 ∷ []) m.1 >>= λ ns. Ok (st.Global p.line ns.0, ns.1)))
  tell_global p pre ts l hole =
      told_need_name _ _ (on word (simp append_assoc)
      (hole low (st.Global p.line ([] ∷ [])) _ (S.Simple.global None p (S.Names.one [] p0))
      (λ b. omega (arith, ht.tall_global p.line ([] ∷ [])))))
      (λ n p2 us2 q2. told_map (λ ns. st.Global p.line ns)
      (tell_names w y g (n ∷ []) ((pre ++ at c.global_ p ∷ []) ++ at (k.Name n) p2 ∷ []) us2
      (omega (arith, l, ap length q2))
      (λ m ns us r. here (simp append_assoc)
      (hole m (st.Global p.line (n ∷ ns)) _ (S.Simple.global m.marks p (then_names n p2 r))
      (λ b. omega (arith, ht.tall_global p.line (n ∷ ns))))))
      (λ v us r. rw r.1 (
        (λ x. S.Simple.global x p (then_names n p2 r.2)),
        omega (arith, ht.tall_global p.line (n ∷ r.0)),
      )))

  tell_import : (p : Place) (pre ts : List Token) → length ts ≤ g → Hole' pre →
      Told y (pre ++ at c.import_ p ∷ []) ts (λ us. imported_at is_module us >>= λ i.
      (imports_at is_module (more w g) (i.0 ∷ []) i.1 >>= λ is. Ok (st.Import p.line is.0, is.1)))
      (λ v us. Read' v (at c.import_ p ∷ us))
      (imported_at is_module ts >>= λ i.
      (imports_at is_module g (i.0 ∷ []) i.1 >>= λ is. Ok (st.Import p.line is.0, is.1)))
  tell_import p pre ts l hole =
      let n0 = codes "thread" in
      told_bind _ _ _ (tell_imported w y is_module (pre ++ at c.import_ p ∷ []) ts
      (on (at (k.Name n0) p0 ∷ []) (simp append_assoc)
      (hole low (st.Import p.line (record { name = n0; bound = None } ∷ [])) _
      (S.Simple.import p (S.Imports.one is_module None n0 p0 refl S.Renamed.same))
      (λ b. omega (arith, ht.tall_import p.line (record { name = n0; bound = None } ∷ [])))))
      (λ n i e. here (simp append_assoc)
      (hole (marked left.Import) (st.Import p.line []) _ (S.Simple.import p (S.Imports.wrong is_module n i e))
      free))
      (λ m i us j. here (simp append_assoc)
      (hole m (st.Import p.line (i ∷ [])) _
      (S.Simple.import p (move (Imports is_module m.marks (i ∷ [])) (append-nil us)
      (then_imports is_module m.marks i us j (no_import is_module m.marks))))
      (λ b. omega (arith, ht.tall_import p.line (i ∷ []))))))
      (λ i fs us q j. told_map (λ is. st.Import p.line is)
      (tell_imports w y is_module n0 refl g (i ∷ []) ((pre ++ at c.import_ p ∷ []) ++ fs) us
      (omega (arith, l, length_after ts fs us q))
      (λ m is us r. here (simp append_assoc)
      (hole m (st.Import p.line (i ∷ is)) _ (S.Simple.import p (then_imports is_module m.marks i fs j r))
      (λ b. omega (arith, ht.tall_import p.line (i ∷ is))))))
      (λ v us r. rw r.1 (
        (λ x. S.Simple.import p (then_imports is_module x i fs j (r.2 x))),
        omega (arith, ht.tall_import p.line (i ∷ r.0)),
      )))

  tell_worded : (n : ℕ) (pre ts : List Token) → first ts ≡ k.Keyword n → length ts ≤ g → Opens low pre → Hole' pre →
      End' pre →
      Told y pre ts (worded_at under' (more w g) (more y (suc d)) n (running_at under' (more w g))) Read'
      (worded_at under g (suc d) n (running_at under g) ts)
  tell_worded n pre ts f l o hole end =
      told_case n 24 f (λ p us e. rw e (told_take (tell_print p pre us (omega (arith, l, ap length e)) hole)))
      (λ e1. told_case n 23 f (λ p us e.
      rw e (told_take (told_done ((λ x. S.Simple.pass x p), omega (arith, ht.tall_pass p.line)))))
      (λ e2. told_case n 3 f (λ p us e. rw e
      (told_take (told_done ((λ x. S.Simple.break x p), omega (arith, ht.tall_break p.line)))))
      (λ e3. told_case n 5 f (λ p us e. rw e
      (told_take (told_done ((λ x. S.Simple.continue x p), omega (arith, ht.tall_continue p.line)))))
      (λ e4. told_case n 26 f (λ p us e. rw e (told_take (tell_return p pre us (omega (arith, l, ap length e)) hole)))
      (λ e5. told_case n 25 f (λ p us e. rw e (told_take (tell_raise p pre us (omega (arith, l, ap length e)) hole)))
      (λ e6. told_case n 7 f (λ p us e. told_deep (suc d) 2 c.del_ (ap first e) o
      (λ i. on word (simp append_assoc)
      (hole any (st.Del i.line (ex.Name [] ∷ [])) _ (S.Simple.del i (S.Targets.one (word_target None))) free))
      (λ deep. rw e (told_take (tell_del p pre us (omega (arith, l, ap length e)) (omega (arith, deep)) hole end))))
      (λ e7. told_case n 15 f (λ p us e. rw e (told_take (tell_global p pre us (omega (arith, l, ap length e)) hole)))
      (λ e8. told_case n 2 f (λ p us e. told_deep (suc d) 2 c.assert_ (ap first e) o
      (λ i. on word (simp append_assoc)
      (hole any (st.Assert i.line (ex.Name []) None) _ (S.Simple.assert_one i (n14 None)) free))
      (λ deep. rw e (told_take (told_read 14 d _ _
      (below.read 14 (omega arith) (pre ++ at c.assert_ p ∷ []) us (omega (arith, l, ap length e))
      (on word (simp append_assoc) (hole low (st.Assert p.line (ex.Name []) None) _ (S.Simple.assert_one p (n14 None))
      (λ b. omega (arith, deep, hh.height_name [], ht.tall_assert p.line (ex.Name []) None))))
      (λ m a vs r h. here (simp append_assoc)
      (hole m (st.Assert p.line a None) _ (S.Simple.assert_one p r)
      (λ b. omega (arith, h b, ht.tall_assert p.line a None)))))
      (λ a fs rest q is h. tell_assert_at p pre a fs rest (omega (arith, l, ap length e, length_after us fs rest q)) is
      h hole)))))
      (λ e9. told_case n 17 f (λ p us e. rw e (told_take (tell_import p pre us (omega (arith, l, ap length e)) hole)))
      (λ e10. told_case n 14 f (λ p us e. rw e (told_take (tell_from p pre us (omega (arith, l, ap length e))
      (on (at (k.Name (codes "thread")) p0 ∷ at c.import_ p0 ∷ at (k.Name (codes "error")) p0 ∷ []) (simp append_assoc)
      (hole low (st.From p.line (codes "thread") (record { name = codes "error"; bound = None } ∷ [])) _
      (S.Simple.from (codes "thread") p p0 p0 refl
      (S.Imports.one (is_member (codes "thread")) None (codes "error") p0 refl S.Renamed.same))
      (λ b. omega (
        arith,
        ht.tall_from p.line (codes "thread")
            (record { name = codes "error"; bound = None } ∷ []),
      )))) hole)))
      (λ e11. told_case n 11 f (λ p us e.
      told_left c.exec_ (ap first e) o (λ i. hole (marked left.Exec) (st.Pass i.line) _ (S.Simple.exec i) free))
      (λ e12. told_case n 30 f (λ p us e.
      told_left c.yield_ (ap first e) o
      (λ i. hole (marked left.Generator) (st.Pass i.line) _ (S.Simple.yield i) free))
      (λ e13. tell_running w y g d under' under below exprs targets pre ts l o hole)))))))))))))

  pub tell_simple : (pre ts : List Token) → length ts ≤ g → Opens low pre → Hole' pre → End' pre →
      Told y pre ts (simple_at under' (more w g) (more y (suc d))) Read' (simple_at under g (suc d) ts)
  unfolding simple_at
  tell_simple pre ts l o hole end = told_kind (λ κ us. simple_by under' (more w g) (more y (suc d)) κ us)
      (go (first ts) refl)
    where
      go : (κ : TokenKind) → first ts ≡ κ → Told y pre ts (simple_by under' (more w g) (more y (suc d)) κ) Read'
          (simple_by under g (suc d) κ ts)
      go (k.Keyword n) q = tell_worded n pre ts q l o hole end
      go (k.Op n) q = tell_running w y g d under' under below exprs targets pre ts l o hole
      go (k.Name n) q = tell_running w y g d under' under below exprs targets pre ts l o hole
      go (k.Int n) q = tell_running w y g d under' under below exprs targets pre ts l o hole
      go (k.Str n) q = tell_running w y g d under' under below exprs targets pre ts l o hole
      go k.Newline q = tell_running w y g d under' under below exprs targets pre ts l o hole
      go k.Indent q = tell_running w y g d under' under below exprs targets pre ts l o hole
      go k.Dedent q = tell_running w y g d under' under below exprs targets pre ts l o hole
      go k.End q = tell_running w y g d under' under below exprs targets pre ts l o hole
      go (k.Other x) q = tell_running w y g d under' under below exprs targets pre ts l o hole
