-- Expressions and targets lead from shape to shape.
use Rattle.std.proofs.Common.{◌≡◌, ℕ, suc, ◌+◌, ◌<◌, ◌≤◌, ◌^◌, List, [], ◌∷◌, Option, Some, None, refl, ap, subst, arith, length, map, get_or}
use Rattle.py_code.specs.declared.instr.Instr.{Instr}
use Rattle.py_code.specs.declared.instr.Instr.TheVariants.{Pop, Dup, Rot2, Rot3, LoadAttr, StoreAttr, LoadMethod, LoadItem, StoreItem, Slice, Compare, Jump, JumpFalse, KeepFalse, BuildDict, Unpack, Call, CallMethod}
use Rattle.py_code.specs.Effects.{Limits, effect, On, Sh, floor_of, IsKeys, IsKnown, IsText}
use Rattle.py_templates.specs.Template.{Piece, Op, To, Here, Alone, Sub, size_of, row}
use Rattle.py_templates.specs.Table.{E, F, N, one_value, two_values, link, operators, kept, all_kept, between, chained, conditional, attribute, index, slice, call, method_call, trail, built, pair, one, to_attr, to_item, to_all, also}
use Rattle.py_templates.proofs.Typed.{Ring, ring_at, Typed, Goes, Jumps, PartsOk, template_typed}
use Rattle.compiler_laws.proofs.Ops.{sh, op, jump_op, jump_false, keep_false}

abbrev pub Each : (Piece → Type 0) → List Piece → Type 0
Each P [] = Unit {0}
Each P (x ∷ xs) = P x × Each P xs

-- the height stays in its bound
abbrev pub Room : ℕ → Piece → Type 0
Room h b = h + b.size + 8 < 2 ^ 32

abbrev pub own_ring : ℕ → List (Option Sh) → Ring
own_ring own labels = record { labels = labels; own = own }

module _ (k : Limits) where
  -- pushes a value; takes a value; leaves the stack as it is
  pub record Value (b : Piece) : Type 0 where
    pub some : 0 < b.size
    pub typed : (h : ℕ) (bs : List ℕ) → floor_of bs ≤ h → Room h b → Typed k b [] (sh h bs) (sh (h + 1) bs)

  pub record Store (b : Piece) : Type 0 where
    pub some : 0 < b.size
    pub typed : (h : ℕ) (bs : List ℕ) → floor_of bs ≤ h → Room h b → Typed k b [] (sh (h + 1) bs) (sh h bs)

  -- changes the value on top
  pub record Change (b : Piece) : Type 0 where
    pub typed : (h : ℕ) (bs : List ℕ) → floor_of bs ≤ h → Room h b → Typed k b [] (sh (h + 1) bs) (sh (h + 1) bs)

  -- an instruction over one, two values that gives one
  abbrev pub IsOver : ℕ → Instr → Type 0
  IsOver n i = ((effect k i).flow ≡ On) × ((effect k i).pops ≡ n) × ((effect k i).pushes ≡ 1) × IsKnown k i

  over : (n : ℕ) (i : Instr) (h g : ℕ) (bs : List ℕ) → IsOver n i → g ≡ h + n → floor_of bs ≤ h → g + 2 < 2 ^ 32 →
      Goes k i (sh g bs) (sh (h + 1) bs)
  over n i h g bs (a, b, c, d) eg le room = op k i g (h + 1) bs a d (omega (arith, b, le, eg)) (omega (arith, c, room))
      (omega (arith, b, c, eg))

  -- n values, one after another
  values_ok : (g : Ring) (ps : List Piece) (h : ℕ) (bs : List ℕ) → Each Value ps → floor_of bs ≤ h →
      h + size_of (map (Sub 1) ps) + 8 < 2 ^ 32 → PartsOk k (g ∷ []) (sh h bs) (map (Sub 1) ps) (sh (h + length ps) bs)
  values_ok g [] h bs vs le room = let e : h ≡ h + 0 = omega arith in ap (λ x. sh x bs) e
  values_ok g (p ∷ ps) h bs (v, vs) le room =
      let e : h + 1 + length ps ≡ h + suc (length ps) = omega arith in
      let some = v.some in (
        sh (h + 1) bs,
        v.typed h bs le (omega (arith, room)),
        subst (λ x. PartsOk k (g ∷ []) (sh (h + 1) bs) (map (Sub 1) ps) (sh x bs)) e
            (values_ok g ps (h + 1) bs vs (omega (arith, le)) (omega (arith, room, some))),
      )

  pub values : (ps : List Piece) (h : ℕ) (bs : List ℕ) → Each Value ps → floor_of bs ≤ h →
      h + (row ps).size + 8 < 2 ^ 32 → Typed k (row ps) [] (sh h bs) (sh (h + length ps) bs)
  values ps h bs vs le room = template_typed k 0 0 0 (map (Sub 1) ps) [] [] (sh h bs) (sh (h + length ps) bs) refl refl
      (values_ok (own_ring 0 []) ps h bs vs le room)

  -- n stores, one after another
  stores_ok : (g : Ring) (ps : List Piece) (h : ℕ) (bs : List ℕ) → Each Store ps → floor_of bs ≤ h →
      h + size_of (map (Sub 1) ps) + 8 < 2 ^ 32 → PartsOk k (g ∷ []) (sh (h + length ps) bs) (map (Sub 1) ps) (sh h bs)
  stores_ok g [] h bs vs le room = let e : h + 0 ≡ h = omega arith in ap (λ x. sh x bs) e
  stores_ok g (p ∷ ps) h bs (v, vs) le room =
      let e : h + length ps + 1 ≡ h + suc (length ps) = omega arith in (
        sh (h + length ps) bs,
        subst (λ x. Typed k p [] (sh x bs) (sh (h + length ps) bs)) e
            (v.typed (h + length ps) bs (omega (arith, le)) (omega (arith, room, many ps vs))),
        stores_ok g ps h bs vs le (omega (arith, room)),
      )
    where
      many : (qs : List Piece) → Each Store qs → length qs ≤ size_of (map (Sub 1) qs)
      many [] w = omega arith
      many (q ∷ qs) (a, b) = let r = many qs b in let s = a.some in omega (arith, r, s)

  pub many_stores : (qs : List Piece) → Each Store qs → length qs ≤ size_of (map (Sub 1) qs)
  many_stores [] w = omega arith
  many_stores (q ∷ qs) (a, b) = let r = many_stores qs b in let s = a.some in omega (arith, r, s)

  pub many_values : (qs : List Piece) → Each Value qs → length qs ≤ size_of (map (Sub 1) qs)
  many_values [] w = omega arith
  many_values (q ∷ qs) (a, b) = let r = many_values qs b in let s = a.some in omega (arith, r, s)

  -- each piece leads from the one shape to itself
  pub same_ok : (g : Ring) (gs : List Ring) (ps : List Piece) (s : Sh) → Each (λ b. Typed k b gs s s) ps →
      PartsOk k (g ∷ gs) s (map (Sub 1) ps) s
  same_ok g gs [] s vs = refl
  same_ok g gs (p ∷ ps) s (v, vs) = (s, v, same_ok g gs ps s vs)

  pub same : (gs : List Ring) (ps : List Piece) (s : Sh) → Each (λ b. Typed k b gs s s) ps → Typed k (row ps) gs s s
  same gs ps s vs = template_typed k 0 0 0 (map (Sub 1) ps) [] gs s s refl refl (same_ok (own_ring 0 []) gs ps s vs)

  module _ (ln : ℕ) where
    pub one_is : (i : Instr) → IsOver 0 i → Value (one ln i)
    one_is i (a, b, c, d) = record {
      some = omega arith;
      typed = λ h bs le room.
          template_typed k ln 0 0 (Op i ∷ []) [] [] _ _ refl refl (
            sh (h + 1) bs,
            op k i h (h + 1) bs a d (omega (arith, b, le)) (omega (arith, c, room)) (omega (arith, b, c)),
            refl,
          );
    }

    pub one_value_is : (i : Instr) (a : Piece) → IsOver 1 i → Value a → Value (one_value ln i a)
    one_value_is i a oi va = record {
      some = omega arith;
      typed = λ h bs le room. template_typed k ln 0 0 (Alone a ∷ Op i ∷ []) [] [] _ _ refl refl (
        sh (h + 1) bs,
        va.typed h bs le (omega (arith, room)),
        (sh (h + 1) bs, over 1 i h (h + 1) bs oi refl le (omega (arith, room)), refl),
      );
    }

    pub two_values_is : (i : Instr) (a b : Piece) → IsOver 2 i → Value a → Value b → Value (two_values ln i a b)
    two_values_is i a b oi va vb = record {
      some = omega arith;
      typed = λ h bs le room. template_typed k ln 0 0 (Alone a ∷ Alone b ∷ Op i ∷ []) [] [] _ _ refl refl (
        sh (h + 1) bs,
        va.typed h bs le (omega (arith, room)),
        (
          sh (h + 1 + 1) bs,
          vb.typed (h + 1) bs (omega (arith, le)) (omega (arith, room, va.some)),
          (sh (h + 1) bs, over 2 i h (h + 1 + 1) bs oi (omega arith) le (omega (arith, room, va.some)), refl),
        ),
      );
    }

    pub link_is : (i : Instr) (b : Piece) → IsOver 2 i → Value b → Change (link ln i b)
    link_is i b oi vb = record {
      typed = λ h bs le room. template_typed k ln 0 0 (Alone b ∷ Op i ∷ []) [] [] _ _ refl refl (
        sh (h + 1 + 1) bs,
        vb.typed (h + 1) bs (omega (arith, le)) (omega (arith, room)),
        (sh (h + 1) bs, over 2 i h (h + 1 + 1) bs oi (omega arith) le (omega (arith, room)), refl),
      );
    }

    pub changes : (ps : List Piece) (h : ℕ) (bs : List ℕ) → Each Change ps → floor_of bs ≤ h →
        h + size_of (map (Sub 1) ps) + 8 < 2 ^ 32 → Each (λ b. Typed k b [] (sh (h + 1) bs) (sh (h + 1) bs)) ps
    changes [] h bs vs le room = tt
    changes (p ∷ ps) h bs (v, vs) le room =
        (v.typed h bs le (omega (arith, room)), changes ps h bs vs le (omega (arith, room)))

    pub operators_is : (a : Piece) (links : List Piece) → Value a → Each Change links → Value (operators ln a links)
    operators_is a links va vs = record {
      some = omega (arith, va.some);
      typed = λ h bs le room. template_typed k ln 0 0 (Alone a ∷ Alone (row links) ∷ []) [] [] _ _ refl refl (
        sh (h + 1) bs,
        va.typed h bs le (omega (arith, room)),
        (sh (h + 1) bs, same [] links (sh (h + 1) bs) (changes links h bs vs le (omega (arith, room))), refl),
      );
    }

    -- KEEP_FALSE or KEEP_TRUE
    abbrev pub IsKeep : (ℕ → Instr) → Type 0
    IsKeep j = (h : ℕ) (bs : List ℕ) → floor_of bs ≤ h → h + 2 < 2 ^ 32 →
        Jumps k j (sh (h + 1) bs) (sh (h + 1) bs) (sh h bs)

    -- an operand that keeps or goes on: E has the shape with the value
    pub record Kept (b : Piece) : Type 0 where
      pub typed : (gs : List Ring) (h : ℕ) (bs : List ℕ) → get_or (ring_at gs 0).labels E None ≡ Some (sh (h + 1) bs) →
          floor_of bs ≤ h → Room h b → Typed k b gs (sh h bs) (sh h bs)

    each_kept : (gs : List Ring) (h : ℕ) (bs : List ℕ) (ps : List Piece) →
        get_or (ring_at gs 0).labels E None ≡ Some (sh (h + 1) bs) → floor_of bs ≤ h → Each Kept ps →
        h + size_of (map (Sub 1) ps) + 8 < 2 ^ 32 → Each (λ b. Typed k b gs (sh h bs) (sh h bs)) ps
    each_kept gs h bs [] far le vs room = tt
    each_kept gs h bs (p ∷ ps) far le (v, vs) room =
        (v.typed gs h bs far le (omega (arith, room)), each_kept gs h bs ps far le vs (omega (arith, room)))

    pub kept_is : (j : ℕ → Instr) (a : Piece) → IsKeep j → Value a → Kept (kept ln j a)
    kept_is j a kj va = record {
      typed = λ gs h bs far le room. template_typed k ln 0 0 (Alone a ∷ To 1 j E ∷ []) [] gs _ _ refl refl (
        sh (h + 1) bs,
        va.typed h bs le (omega (arith, room)),
        (sh h bs, (sh (h + 1) bs, far, kj h bs le (omega (arith, room))), refl),
      );
    }

    pub all_kept_is : (ps : List Piece) (b : Piece) → Each Kept ps → Value b → Value (all_kept ln ps b)
    all_kept_is ps b vs vb = record {
      some = omega (arith, vb.some);
      typed = λ h bs le room.
          let g : Ring = own_ring 0 (Some (sh (h + 1) bs) ∷ []) in
          template_typed k ln 0 1 (Sub 0 (row ps) ∷ Alone b ∷ Here E ∷ []) (Some (sh (h + 1) bs) ∷ []) [] _ _ refl
          refl (
            sh h bs,
            same (g ∷ []) ps (sh h bs) (each_kept (g ∷ []) h bs ps refl le vs (omega (arith, room))),
            (sh (h + 1) bs, vb.typed h bs le (omega (arith, room)), (sh (h + 1) bs, (refl, refl), refl)),
          );
    }

    -- chained comparisons: an operand between, where F has the shape with the two values
    pub record Between (b : Piece) : Type 0 where
      pub typed : (gs : List Ring) (h : ℕ) (bs : List ℕ) →
          get_or (ring_at gs 0).labels F None ≡ Some (sh (h + 1 + 1) bs) → floor_of bs ≤ h → Room h b →
          Typed k b gs (sh (h + 1) bs) (sh (h + 1) bs)

    each_between : (gs : List Ring) (h : ℕ) (bs : List ℕ) (ps : List Piece) →
        get_or (ring_at gs 0).labels F None ≡ Some (sh (h + 1 + 1) bs) → floor_of bs ≤ h → Each Between ps →
        h + size_of (map (Sub 1) ps) + 8 < 2 ^ 32 → Each (λ b. Typed k b gs (sh (h + 1) bs) (sh (h + 1) bs)) ps
    each_between gs h bs [] far le vs room = tt
    each_between gs h bs (p ∷ ps) far le (v, vs) room =
        (v.typed gs h bs far le (omega (arith, room)), each_between gs h bs ps far le vs (omega (arith, room)))

    compare_op : (o h : ℕ) (bs : List ℕ) → o < 10 → floor_of bs ≤ h → h + 4 < 2 ^ 32 →
        Goes k (Compare o) (sh (h + 1 + 1) bs) (sh (h + 1) bs)
    compare_op o h bs lt le room = op k (Compare o) (h + 1 + 1) (h + 1) bs refl lt (omega (arith, le))
        (omega (arith, room)) (omega arith)

    pub between_is : (o : ℕ) (b : Piece) → o < 10 → Value b → Between (between ln o b)
    between_is o b lt vb = record {
      typed = λ gs h bs far le room. template_typed k ln 0 0
          (Alone b ∷ Op Dup ∷ Op Rot3 ∷ Op (Compare o) ∷ To 1 KeepFalse F ∷ []) [] gs _ _ refl refl (
            sh (h + 1 + 1) bs,
            vb.typed (h + 1) bs (omega (arith, le)) (omega (arith, room)),
            (
              sh (h + 1 + 1 + 1) bs,
              op k Dup (h + 1 + 1) (h + 1 + 1 + 1) bs refl tt (omega (arith, le)) (omega (arith, room)) (omega arith),
              (
                sh (h + 1 + 1 + 1) bs,
                op k Rot3 (h + 1 + 1 + 1) (h + 1 + 1 + 1) bs refl tt (omega (arith, le)) (omega (arith, room))
                    (omega arith),
                (
                  sh (h + 1 + 1) bs,
                  compare_op o (h + 1) bs lt (omega (arith, le)) (omega (arith, room)),
                  (
                    sh (h + 1) bs,
                    (
                      sh (h + 1 + 1) bs,
                      far,
                      keep_false k (h + 1) bs (omega (arith, le)) (omega (arith, room)),
                    ),
                    refl,
                  ),
                ),
              ),
            ),
          );
    }

    pub chained_is : (a : Piece) (ps : List Piece) (b : Piece) (o : ℕ) → o < 10 → Value a → Each Between ps → Value b →
        Value (chained ln a ps b o)
    chained_is a ps b o lt va vs vb = record {
      some = omega (arith, va.some);
      typed = λ h bs le room.
          let g : Ring = own_ring 0 (Some (sh (h + 1) bs) ∷ Some (sh (h + 1 + 1) bs) ∷ []) in
          template_typed k ln 0 2 (Alone a ∷ Sub 0 (row ps) ∷ Alone b ∷ Op (Compare o) ∷ To 0 Jump E ∷ Here F ∷ Op Rot2
          ∷ Op Pop ∷ Here E ∷ []) (Some (sh (h + 1) bs) ∷ Some (sh (h + 1 + 1) bs) ∷ []) [] _ _ refl refl (
            sh (h + 1) bs,
            va.typed h bs le (omega (arith, room)),
            (
              sh (h + 1) bs,
              same (g ∷ []) ps (sh (h + 1) bs) (each_between (g ∷ []) h bs ps refl le vs (omega (arith, room))),
              (
                sh (h + 1 + 1) bs,
                vb.typed (h + 1) bs (omega (arith, le)) (omega (arith, room)),
                (
                  sh (h + 1) bs,
                  compare_op o h bs lt le (omega (arith, room)),
                  (
                    sh (h + 1 + 1) bs,
                    (
                      sh (h + 1) bs,
                      refl,
                      jump_op k (h + 1) bs (sh (h + 1 + 1) bs) (omega (arith, le))
                          (omega (arith, room)),
                    ),
                    (
                      sh (h + 1 + 1) bs,
                      (refl, refl),
                      (
                        sh (h + 1 + 1) bs,
                        op k Rot2 (h + 1 + 1) (h + 1 + 1) bs refl tt (omega (arith, le)) (omega (arith, room))
                            (omega arith),
                        (
                          sh (h + 1) bs,
                          op k Pop (h + 1 + 1) (h + 1) bs refl tt (omega (arith, le)) (omega (arith, room))
                              (omega arith),
                          (sh (h + 1) bs, (refl, refl), refl),
                        ),
                      ),
                    ),
                  ),
                ),
              ),
            ),
          );
    }

    pub conditional_is : (x c y : Piece) → Value x → Value c → Value y → Value (conditional ln x c y)
    conditional_is x c y vx vc vy = record {
      some = omega arith;
      typed = λ h bs le room.
          template_typed k ln 0 2 (Alone c ∷ To 0 JumpFalse N ∷ Alone x ∷ To 0 Jump E ∷ Here N ∷ Alone y ∷ Here E ∷ [])
          (Some (sh (h + 1) bs) ∷ Some (sh h bs) ∷ []) [] _ _ refl refl (
            sh (h + 1) bs,
            vc.typed h bs le (omega (arith, room)),
            (
              sh h bs,
              (sh h bs, refl, jump_false k h bs le (omega (arith, room))),
              (
                sh (h + 1) bs,
                vx.typed h bs le (omega (arith, room)),
                (
                  sh h bs,
                  (sh (h + 1) bs, refl, jump_op k (h + 1) bs (sh h bs) (omega (arith, le)) (omega (arith, room))),
                  (
                    sh h bs,
                    (refl, refl),
                    (
                      sh (h + 1) bs,
                      vy.typed h bs le (omega (arith, room)),
                      (sh (h + 1) bs, (refl, refl), refl),
                    ),
                  ),
                ),
              ),
            ),
          );
    }

    pub trail_is : (o : Piece) (behind : List Piece) → Value o → Each Change behind → Value (trail ln o behind)
    trail_is o behind vo vs = operators_is o behind vo vs

    pub attribute_is : (n : ℕ) → IsText k n → Change (attribute ln n)
    attribute_is n kn = record {
      typed = λ h bs le room. template_typed k ln 0 0 (Op (LoadAttr n) ∷ []) [] [] _ _ refl refl (
        sh (h + 1) bs,
        op k (LoadAttr n) (h + 1) (h + 1) bs refl kn (omega (arith, le)) (omega (arith, room))
            (omega arith),
        refl,
      );
    }

    pub index_is : (i : Piece) → Value i → Change (index ln i)
    index_is i vi = record {
      typed = λ h bs le room. template_typed k ln 0 0 (Alone i ∷ Op LoadItem ∷ []) [] [] _ _ refl refl (
        sh (h + 1 + 1) bs,
        vi.typed (h + 1) bs (omega (arith, le)) (omega (arith, room)),
        (
          sh (h + 1) bs,
          op k LoadItem (h + 1 + 1) (h + 1) bs refl tt (omega (arith, le)) (omega (arith, room))
              (omega arith),
          refl,
        ),
      );
    }

    pub slice_is : (i j : Piece) → Value i → Value j → Change (slice ln i j)
    slice_is i j vi vj = record {
      typed = λ h bs le room.
          template_typed k ln 0 0 (Alone i ∷ Alone j ∷ Op Slice ∷ []) [] [] _ _ refl refl (
            sh (h + 1 + 1) bs,
            vi.typed (h + 1) bs (omega (arith, le)) (omega (arith, room)),
            (
              sh (h + 1 + 1 + 1) bs,
              vj.typed (h + 1 + 1) bs (omega (arith, le)) (omega (arith, room, vi.some)),
              (
                sh (h + 1) bs,
                op k Slice (h + 1 + 1 + 1) (h + 1) bs refl tt (omega (arith, le))
                    (omega (arith, room, vi.some)) (omega arith),
                refl,
              ),
            ),
          );
    }

    pub built_is : (i : Instr) (ps : List Piece) → IsOver (length ps) i → Each Value ps → Value (built ln i ps)
    built_is i ps oi vs = record {
      some = omega arith;
      typed = λ h bs le room.
          template_typed k ln 0 0 (Alone (row ps) ∷ Op i ∷ []) [] [] _ _ refl refl (
            sh (h + length ps) bs,
            values ps h bs vs le (omega (arith, room)),
            (
              sh (h + 1) bs,
              over (length ps) i h (h + length ps) bs oi refl le
                  (omega (arith, room, many_values ps vs)),
              refl,
            ),
          );
    }

    pub call_is : (args : List Piece) (l : ℕ) (vs : List Piece) → Each Value args → Each Value vs → IsKeys k l →
        length vs ≡ length (get_or k.keys l []) → Change (call ln args l vs)
    call_is args l vs va vv lt count = record {
      typed = λ h bs le room.
          template_typed k ln 0 0 (Alone (row args) ∷ Alone (row vs) ∷ Op (Call (length args) l) ∷ []) [] [] _ _ refl
          refl (
            sh (h + 1 + length args) bs,
            values args (h + 1) bs va (omega (arith, le)) (omega (arith, room)),
            (
              sh (h + 1 + length args + length vs) bs,
              values vs (h + 1 + length args) bs vv (omega (arith, le)) (omega (arith, room, many_values args va)),
              (
                sh (h + 1) bs,
                op k (Call (length args) l) (h + 1 + length args + length vs) (h + 1) bs refl lt
                    (omega (arith, le, count)) (omega (arith, room, many_values args va, many_values vs vv))
                    (omega (arith, count)),
                refl,
              ),
            ),
          );
    }

    pub method_call_is : (m : ℕ) (args : List Piece) (l : ℕ) (vs : List Piece) → IsText k m → Each Value args →
        Each Value vs → IsKeys k l → length vs ≡ length (get_or k.keys l []) → Change (method_call ln m args l vs)
    method_call_is m args l vs im va vv lt count = record {
      typed = λ h bs le room.
          template_typed k ln 0 0 (Op (LoadMethod m) ∷ Alone (row args) ∷ Alone (row vs) ∷ Op
          (CallMethod (length args) l) ∷ []) [] [] _ _ refl refl (
            sh (h + 1 + 1) bs,
            op k (LoadMethod m) (h + 1) (h + 1 + 1) bs refl im (omega (arith, le)) (omega (arith, room)) (omega arith),
            (
              sh (h + 1 + 1 + length args) bs,
              values args (h + 1 + 1) bs va (omega (arith, le)) (omega (arith, room)),
              (
                sh (h + 1 + 1 + length args + length vs) bs,
                values vs (h + 1 + 1 + length args) bs vv (omega (arith, le))
                    (omega (arith, room, many_values args va)),
                (
                  sh (h + 1) bs,
                  op k (CallMethod (length args) l) (h + 1 + 1 + length args + length vs) (h + 1) bs refl
                      lt (omega (arith, le, count)) (omega (arith, room, many_values args va, many_values vs vv))
                      (omega (arith, count)),
                  refl,
                ),
              ),
            ),
          );
    }

    -- Targets.

    pub to_attr_is : (o : Piece) (n : ℕ) → Value o → IsText k n → Store (to_attr ln o n)
    to_attr_is o n vo kn = record {
      some = omega arith;
      typed = λ h bs le room. template_typed k ln 0 0 (Alone o ∷ Op (StoreAttr n) ∷ []) [] [] _ _ refl refl (
        sh (h + 1 + 1) bs,
        vo.typed (h + 1) bs (omega (arith, le)) (omega (arith, room)),
        (
          sh h bs,
          op k (StoreAttr n) (h + 1 + 1) h bs refl kn (omega (arith, le)) (omega (arith, room)) (omega arith),
          refl,
        ),
      );
    }

    pub to_item_is : (o i : Piece) → Value o → Value i → Store (to_item ln o i)
    to_item_is o i vo vi = record {
      some = omega arith;
      typed = λ h bs le room. template_typed k ln 0 0 (Alone o ∷ Alone i ∷ Op StoreItem ∷ []) [] [] _ _ refl refl (
        sh (h + 1 + 1) bs,
        vo.typed (h + 1) bs (omega (arith, le)) (omega (arith, room)),
        (
          sh (h + 1 + 1 + 1) bs,
          vi.typed (h + 1 + 1) bs (omega (arith, le)) (omega (arith, room, vo.some)),
          (
            sh h bs,
            op k StoreItem (h + 1 + 1 + 1) h bs refl tt (omega (arith, le)) (omega (arith, room, vo.some))
                (omega arith),
            refl,
          ),
        ),
      );
    }

    pub to_all_is : (ts : List Piece) → Each Store ts → Store (to_all ln ts)
    to_all_is ts vs = record {
      some = omega arith;
      typed = λ h bs le room. template_typed k ln 0 0 (Op (Unpack (length ts)) ∷ Alone (row ts) ∷ []) [] [] _ _ refl
          refl (
            sh (h + length ts) bs,
            op k (Unpack (length ts)) (h + 1) (h + length ts) bs refl tt (omega (arith, le))
                (omega (arith, room, many_stores ts vs)) (omega arith),
            (
              sh h bs,
              template_typed k 0 0 0 (map (Sub 1) ts) [] [] (sh (h + length ts) bs) (sh h bs) refl refl
                  (stores_ok (own_ring 0 []) ts h bs vs le (omega (arith, room))),
              refl,
            ),
          );
    }

    -- a store that keeps the value
    pub also_is : (t : Piece) → Store t → Change (also ln t)
    also_is t vt = record {
      typed = λ h bs le room. template_typed k ln 0 0 (Op Dup ∷ Alone t ∷ []) [] [] _ _ refl refl (
        sh (h + 1 + 1) bs,
        op k Dup (h + 1) (h + 1 + 1) bs refl tt (omega (arith, le)) (omega (arith, room)) (omega arith),
        (sh (h + 1) bs, vt.typed (h + 1) bs (omega (arith, le)) (omega (arith, room)), refl),
      );
    }

    -- a template of one instruction that takes the top
    pub one_takes : (i : Instr) → (effect k i).flow ≡ On → (effect k i).pops ≡ 1 → (effect k i).pushes ≡ 0 →
        IsKnown k i → Store (one ln i)
    one_takes i a b c d = record {
      some = omega arith;
      typed = λ h bs le room.
          template_typed k ln 0 0 (Op i ∷ []) [] [] _ _ refl refl (
            sh h bs,
            op k i (h + 1) h bs a d (omega (arith, b, le)) (omega (arith, c, room)) (omega (arith, b, c)),
            refl,
          );
    }

    -- the value is a row of two: a pair of a dictionary
    pub record Pair (b : Piece) : Type 0 where
      pub some : 1 < b.size
      pub typed : (h : ℕ) (bs : List ℕ) → floor_of bs ≤ h → Room h b → Typed k b [] (sh h bs) (sh (h + 1 + 1) bs)

    pub pair_is : (a b : Piece) → Value a → Value b → Pair (pair ln a b)
    pair_is a b va vb = record {
      some = omega (arith, va.some, vb.some);
      typed = λ h bs le room. template_typed k ln 0 0 (Alone a ∷ Alone b ∷ []) [] [] _ _ refl refl (
        sh (h + 1) bs,
        va.typed h bs le (omega (arith, room)),
        (sh (h + 1 + 1) bs, vb.typed (h + 1) bs (omega (arith, le)) (omega (arith, room, va.some)), refl),
      );
    }

    pairs_ok : (g : Ring) (ps : List Piece) (h : ℕ) (bs : List ℕ) → Each Pair ps → floor_of bs ≤ h →
        h + size_of (map (Sub 1) ps) + 8 < 2 ^ 32 →
        PartsOk k (g ∷ []) (sh h bs) (map (Sub 1) ps) (sh (h + (length ps + length ps)) bs)
    pairs_ok g [] h bs vs le room = let e : h ≡ h + (0 + 0) = omega arith in ap (λ x. sh x bs) e
    pairs_ok g (p ∷ ps) h bs (v, vs) le room =
        let e : h + 1 + 1 + (length ps + length ps) ≡ h + (suc (length ps) + suc (length ps)) = omega arith in
        let some = v.some in (
          sh (h + 1 + 1) bs,
          v.typed h bs le (omega (arith, room)),
          subst (λ x. PartsOk k (g ∷ []) (sh (h + 1 + 1) bs) (map (Sub 1) ps) (sh x bs)) e
              (pairs_ok g ps (h + 1 + 1) bs vs (omega (arith, le)) (omega (arith, room, some))),
        )

    many_pairs : (qs : List Piece) → Each Pair qs → length qs + length qs ≤ size_of (map (Sub 1) qs)
    many_pairs [] w = omega arith
    many_pairs (q ∷ qs) (a, b) = let r = many_pairs qs b in let s = a.some in omega (arith, r, s)

    pub dictionary_is : (ps : List Piece) → Each Pair ps → Value (built ln (BuildDict (length ps)) ps)
    dictionary_is ps vs = record {
      some = omega arith;
      typed = λ h bs le room.
          template_typed k ln 0 0 (Alone (row ps) ∷ Op (BuildDict (length ps)) ∷ []) [] [] _ _ refl refl (
            sh (h + (length ps + length ps)) bs,
            template_typed k 0 0 0 (map (Sub 1) ps) [] [] (sh h bs) (sh (h + (length ps + length ps)) bs) refl refl
                (pairs_ok (own_ring 0 []) ps h bs vs le (omega (arith, room))),
            (
              sh (h + 1) bs,
              op k (BuildDict (length ps)) (h + (length ps + length ps)) (h + 1) bs refl tt
                  (omega (arith, le)) (omega (arith, room, many_pairs ps vs)) (omega arith),
              refl,
            ),
          );
    }
