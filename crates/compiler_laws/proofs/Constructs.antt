-- Compound statements lead from a shape to itself, whatever surrounds them.
use Rattle.std.proofs.Common.{◌≡◌, ℕ, ◌+◌, ◌<◌, ◌≤◌, ◌^◌, List, [], ◌∷◌, Some, None, refl, arith, length, map, get_or, drop}
use Rattle.std.specs.Prelude.{IsTrue}
use Rattle.py_code.specs.declared.instr.Instr.TheVariants.{LoadLocal, StoreLocal, Jump, JumpFalse, Iter, Next, MakeFunction, ClassBody, Try, PopTry, ExcMatch, Raise}
use Rattle.py_code.specs.Effects.{Limits, floor_of, IsKnown}
use Rattle.py_templates.specs.declared.home.Home.{Home}
use Rattle.py_templates.specs.Template.{Piece, Part, Op, Hidden, To, Here, Alone, Sub, size_of, template, row}
use Rattle.py_templates.specs.Table.{E, A, H, M, B, store, def, class, arm, all_arms, while, for, try_except, clause_bare, clause_test, clause_target, try_finally, Around, InWhile, InFor, InTry, InClause, InFinally}
use Rattle.py_templates.proofs.Typed.{Ring, ring_at, Typed, Goes, PartsOk, all_stand, template_typed}
use Rattle.compiler_laws.proofs.Ops.{sh, op, load_op, store_op, pop_try_op, raise_op, jump_op, jump_false, next_op, try_op}
use Rattle.compiler_laws.proofs.Values.{Each, Room, own_ring, Value, Store, same, values, many_values}
use Rattle.compiler_laws.proofs.Surrounds.{AroundFits, low, Does, Clause}
use Rattle.compiler_laws.proofs.Blocks.{IsHome, store_home}

module _ (k : Limits) where
  module _ (ln : ℕ) where
    pub def_does : (c : List Around) (ds : List Piece) (f : ℕ) (x : Home) → IsHome k ln x → Each (Value k) ds →
        IsKnown k (MakeFunction f (length ds)) → Does k c (def ln ds f x)
    def_does c ds f x ix vs kn = record {
      typed = λ gs h bs fits room. let le = low k c gs h bs fits in
          template_typed k ln 0 0 (Alone (row ds) ∷ Op (MakeFunction f (length ds)) ∷ Op (store x) ∷ []) [] gs _ _ refl
          refl (
            sh (h + length ds) bs,
            values k ds h bs vs le (omega (arith, room)),
            (
              sh (h + 1) bs,
              op k (MakeFunction f (length ds)) (h + length ds) (h + 1) bs refl kn (omega (arith, le))
                  (omega (arith, room, many_values k ds vs)) (omega arith),
              (sh h bs, store_home k ln x h bs ix le (omega (arith, room)), refl),
            ),
          );
    }

    pub class_does : (c : List Around) (b : Piece) (f : ℕ) (x : Home) → IsHome k ln x → Value k b →
        IsKnown k (ClassBody f) → Does k c (class ln b f x)
    class_does c b f x ix vb kn = record {
      typed = λ gs h bs fits room. let le = low k c gs h bs fits in
          template_typed k ln 0 0 (Alone b ∷ Op (ClassBody f) ∷ Op (store x) ∷ []) [] gs _ _ refl refl (
            sh (h + 1) bs,
            vb.typed h bs le (omega (arith, room)),
            (
              sh (h + 1) bs,
              op k (ClassBody f) (h + 1) (h + 1) bs refl kn (omega (arith, le)) (omega (arith, room)) (omega arith),
              (sh h bs, store_home k ln x h bs ix le (omega (arith, room)), refl),
            ),
          );
    }

    -- an arm: E is the end of its `if`
    pub record Arm (c : List Around) (b : Piece) : Type 0 where
      pub typed : (gs : List Ring) (h : ℕ) (bs : List ℕ) → AroundFits k c (drop 1 gs) h bs →
          get_or (ring_at gs 0).labels E None ≡ Some (sh h bs) → Room h b → Typed k b gs (sh h bs) (sh h bs)

    each_arm : (c : List Around) (gs : List Ring) (h : ℕ) (bs : List ℕ) (ps : List Piece) →
        AroundFits k c (drop 1 gs) h bs → get_or (ring_at gs 0).labels E None ≡ Some (sh h bs) → Each (Arm c) ps →
        h + size_of (map (Sub 1) ps) + 8 < 2 ^ 32 → Each (λ b. Typed k b gs (sh h bs) (sh h bs)) ps
    each_arm c gs h bs [] f far vs room = tt
    each_arm c gs h bs (p ∷ ps) f far (v, vs) room =
        (v.typed gs h bs f far (omega (arith, room)), each_arm c gs h bs ps f far vs (omega (arith, room)))

    pub arm_is : (c : List Around) (t body : Piece) → Value k t → Does k c body → Arm c (arm ln t body)
    arm_is c t body vt vb = record {
      typed = λ gs h bs f far room. let le = low k c (drop 1 gs) h bs f in
          template_typed k ln 0 1 (Alone t ∷ To 0 JumpFalse M ∷ Sub 2 body ∷ To 1 Jump E ∷ Here M ∷ [])
          (Some (sh h bs) ∷ []) gs _ _ refl refl (
            sh (h + 1) bs,
            vt.typed h bs le (omega (arith, room)),
            (
              sh h bs,
              (sh h bs, refl, jump_false k h bs le (omega (arith, room))),
              (
                sh h bs,
                vb.typed (drop 1 gs) h bs f (omega (arith, room)),
                (
                  sh h bs,
                  (sh h bs, far, jump_op k h bs (sh h bs) le (omega (arith, room))),
                  (sh h bs, (refl, refl), refl),
                ),
              ),
            ),
          );
    }

    pub all_arms_does : (c : List Around) (ps : List Piece) (other : Piece) → Each (Arm c) ps → Does k c other →
        Does k c (all_arms ln ps other)
    all_arms_does c ps other vs vo = record {
      typed = λ gs h bs f room.
          let g : Ring = own_ring 0 (Some (sh h bs) ∷ []) in
          template_typed k ln 0 1 (Sub 0 (row ps) ∷ Sub 1 other ∷ Here E ∷ []) (Some (sh h bs) ∷ []) gs _ _ refl refl (
            sh h bs,
            same k (g ∷ gs) ps (sh h bs) (each_arm c (g ∷ gs) h bs ps f refl vs (omega (arith, room))),
            (sh h bs, vo.typed gs h bs f (omega (arith, room)), (sh h bs, (refl, refl), refl)),
          );
    }

    pub while_does : (c : List Around) (t body other : Piece) → Value k t → Does k (InWhile ∷ c) body →
        Does k c other → Does k c (while ln t body other)
    while_does c t body other vt vb vo = record {
      typed = λ gs h bs f room. let le = low k c gs h bs f in
          template_typed k ln 0 3 (Here A ∷ Alone t ∷ To 0 JumpFalse B ∷ Sub 0 body ∷ To 0 Jump A ∷ Here B ∷ Sub 1
          other ∷ Here E ∷ []) (Some (sh h bs) ∷ Some (sh h bs) ∷ Some (sh h bs) ∷ []) gs _ _ refl refl (
            sh h bs,
            (refl, refl),
            (
              sh (h + 1) bs,
              vt.typed h bs le (omega (arith, room)),
              (
                sh h bs,
                (sh h bs, refl, jump_false k h bs le (omega (arith, room))),
                (
                  sh h bs,
                  vb.typed _ h bs (refl, refl, f) (omega (arith, room)),
                  (
                    sh h bs,
                    (sh h bs, refl, jump_op k h bs (sh h bs) le (omega (arith, room))),
                    (
                      sh h bs,
                      (refl, refl),
                      (
                        sh h bs,
                        vo.typed gs h bs f (omega (arith, room)),
                        (sh h bs, (refl, refl), refl),
                      ),
                    ),
                  ),
                ),
              ),
            ),
          );
    }

    pub for_does : (c : List Around) (t e body other : Piece) → Store k t → Value k e → Does k (InFor ∷ c) body →
        Does k c other → Does k c (for ln t e body other)
    for_does c t e body other vt ve vb vo = record {
      typed = λ gs h bs f room. let le = low k c gs h bs f in
          template_typed k ln 0 3 (Alone e ∷ Op Iter ∷ Here A ∷ To 0 Next B ∷ Alone t ∷ Sub 0 body ∷ To 0 Jump A ∷ Here
          B ∷ Sub 1 other ∷ Here E ∷ []) (Some (sh h bs) ∷ Some (sh (h + 1) bs) ∷ Some (sh h bs) ∷ []) gs _ _ refl
          refl (
            sh (h + 1) bs,
            ve.typed h bs le (omega (arith, room)),
            (
              sh (h + 1) bs,
              op k Iter (h + 1) (h + 1) bs refl tt (omega (arith, le)) (omega (arith, room)) (omega arith),
              (
                sh (h + 1) bs,
                (refl, refl),
                (
                  sh (h + 1 + 1) bs,
                  (sh h bs, refl, next_op k h bs le (omega (arith, room))),
                  (
                    sh (h + 1) bs,
                    vt.typed (h + 1) bs (omega (arith, le)) (omega (arith, room)),
                    (
                      sh (h + 1) bs,
                      vb.typed _ (h + 1) bs (h, refl, refl, refl, f) (omega (arith, room)),
                      (
                        sh h bs,
                        (sh (h + 1) bs, refl, jump_op k (h + 1) bs (sh h bs) (omega (arith, le)) (omega (arith, room))),
                        (
                          sh h bs,
                          (refl, refl),
                          (
                            sh h bs,
                            vo.typed gs h bs f (omega (arith, room)),
                            (sh h bs, (refl, refl), refl),
                          ),
                        ),
                      ),
                    ),
                  ),
                ),
              ),
            ),
          );
    }

    match_op : (h : ℕ) (bs : List ℕ) → floor_of bs ≤ h → h + 4 < 2 ^ 32 →
        Goes k ExcMatch (sh (h + 1 + 1) bs) (sh (h + 1) bs)
    match_op h bs le room = op k ExcMatch (h + 1 + 1) (h + 1) bs refl tt (omega (arith, le)) (omega (arith, room))
        (omega arith)

    pub clause_bare_is : (c : List Around) (body : Piece) → Does k (InClause ∷ c) body →
        Clause k c (clause_bare ln body)
    clause_bare_is c body vb = record {
      typed = λ gs h bs f end room. let le = low k (InClause ∷ c) gs h bs f in
          template_typed k ln 0 0 (Sub 1 body ∷ To 1 Jump E ∷ []) [] gs _ _ refl refl (
            sh h bs,
            vb.typed gs h bs f (omega (arith, room)),
            (sh h bs, (sh h bs, end, jump_op k h bs (sh h bs) le (omega (arith, room))), refl),
          );
    }

    -- behind the test of a clause
    abbrev tested : Piece → List Part → List Part
    tested t more = Hidden 1 LoadLocal ∷ Alone t ∷ Op ExcMatch ∷ To 0 JumpFalse M ∷ more

    tested_is : (c : List Around) (t : Piece) (more : List Part) (gs : List Ring) (h : ℕ) (bs : List ℕ) → Value k t →
        AroundFits k (InClause ∷ c) gs h bs → Room h (template ln 0 1 (tested t more)) → IsTrue (all_stand 1 more) →
        PartsOk k (own_ring 0 (Some (sh h bs) ∷ []) ∷ gs) (sh h bs) more (sh h bs) →
        Typed k (template ln 0 1 (tested t more)) gs (sh h bs) (sh h bs)
    tested_is c t more gs h bs vt f room st rest = let le = low k (InClause ∷ c) gs h bs f in
        template_typed k ln 0 1 (tested t more) (Some (sh h bs) ∷ []) gs _ _ refl st (
          sh (h + 1) bs,
          (f.0, λ r lt. load_op k r h bs lt le (omega (arith, room))),
          (
            sh (h + 1 + 1) bs,
            vt.typed (h + 1) bs (omega (arith, le)) (omega (arith, room)),
            (
              sh (h + 1) bs,
              match_op h bs le (omega (arith, room)),
              (sh h bs, (sh h bs, refl, jump_false k h bs le (omega (arith, room))), rest),
            ),
          ),
        )

    -- the body of a clause that has a test, to its end
    clause_end : (c : List Around) (body : Piece) (gs : List Ring) (h : ℕ) (bs : List ℕ) → Does k (InClause ∷ c) body →
        AroundFits k (InClause ∷ c) gs h bs → get_or (ring_at gs 0).labels E None ≡ Some (sh h bs) → Room h body →
        PartsOk k (own_ring 0 (Some (sh h bs) ∷ []) ∷ gs) (sh h bs) (Sub 1 body ∷ To 1 Jump E ∷ Here M ∷ []) (sh h bs)
    clause_end c body gs h bs vb f end room = (
      sh h bs,
      vb.typed gs h bs f (omega (arith, room)),
      (
        sh h bs,
        (sh h bs, end, jump_op k h bs (sh h bs) (low k (InClause ∷ c) gs h bs f) (omega (arith, room))),
        (sh h bs, (refl, refl), refl),
      ),
    )

    pub clause_test_is : (c : List Around) (t body : Piece) → Value k t → Does k (InClause ∷ c) body →
        Clause k c (clause_test ln t body)
    clause_test_is c t body vt vb = record {
      typed = λ gs h bs f end room. tested_is c t (Sub 1 body ∷ To 1 Jump E ∷ Here M ∷ []) gs h bs vt f
          (omega (arith, room)) refl (clause_end c body gs h bs vb f end (omega (arith, room)));
    }

    pub clause_target_is : (c : List Around) (t x body : Piece) → Value k t → Store k x → Does k (InClause ∷ c) body →
        Clause k c (clause_target ln t x body)
    clause_target_is c t x body vt vx vb = record {
      typed = λ gs h bs f end room. let le = low k (InClause ∷ c) gs h bs f in
          tested_is c t (Hidden 1 LoadLocal ∷ Alone x ∷ Sub 1 body ∷ To 1 Jump E ∷ Here M ∷ []) gs h bs vt f
          (omega (arith, room)) refl (
            sh (h + 1) bs,
            (f.0, λ r lt. load_op k r h bs lt le (omega (arith, room))),
            (
              sh h bs,
              vx.typed h bs le (omega (arith, room)),
              clause_end c body gs h bs vb f end (omega (arith, room)),
            ),
          );
    }

    each_clause : (c : List Around) (gs : List Ring) (h : ℕ) (bs : List ℕ) (ps : List Piece) →
        AroundFits k (InClause ∷ c) gs h bs → get_or (ring_at gs 0).labels E None ≡ Some (sh h bs) →
        Each (Clause k c) ps → h + size_of (map (Sub 1) ps) + 8 < 2 ^ 32 →
        Each (λ b. Typed k b gs (sh h bs) (sh h bs)) ps
    each_clause c gs h bs [] f end vs room = tt
    each_clause c gs h bs (p ∷ ps) f end (v, vs) room =
        (v.typed gs h bs f end (omega (arith, room)), each_clause c gs h bs ps f end vs (omega (arith, room)))

    -- a body whose errors go to a handler: q stands behind the store of the error
    abbrev guarded : Piece → Piece → ℕ → Piece → Piece
    guarded x y d q = template ln 1 2 (To 0 Try H ∷ Sub 0 x ∷ Op PopTry ∷ Sub 1 y ∷ To 0 Jump E ∷ Here H ∷ Hidden 0
        StoreLocal ∷ Sub d q ∷ Hidden 0 LoadLocal ∷ Op Raise ∷ Here E ∷ [])

    abbrev guard : ℕ → List ℕ → Ring
    guard h bs = own_ring 1 (Some (sh h bs) ∷ Some (sh (h + 1) bs) ∷ [])

    guarded_is : (x y : Piece) (d : ℕ) (q : Piece) (gs : List Ring) (h : ℕ) (bs : List ℕ) → floor_of bs ≤ h →
        Room h (guarded x y d q) → Typed k x (guard h bs ∷ gs) (sh h (h ∷ bs)) (sh h (h ∷ bs)) →
        Typed k y gs (sh h bs) (sh h bs) → Typed k q (drop d (guard h bs ∷ gs)) (sh h bs) (sh h bs) →
        Typed k (guarded x y d q) gs (sh h bs) (sh h bs)
    guarded_is x y d q gs h bs le room vx vy vq =
        template_typed k ln 1 2 (To 0 Try H ∷ Sub 0 x ∷ Op PopTry ∷ Sub 1 y ∷ To 0 Jump E ∷ Here H ∷ Hidden 0
        StoreLocal ∷ Sub d q ∷ Hidden 0 LoadLocal ∷ Op Raise ∷ Here E ∷ [])
        (Some (sh h bs) ∷ Some (sh (h + 1) bs) ∷ []) gs _ _ refl refl (
          sh h (h ∷ bs),
          (sh (h + 1) bs, refl, try_op k h bs le (omega (arith, room))),
          (
            sh h (h ∷ bs),
            vx,
            (
              sh h bs,
              pop_try_op k h bs (omega (arith, room)),
              (
                sh h bs,
                vy,
                (
                  sh (h + 1) bs,
                  (sh h bs, refl, jump_op k h bs (sh (h + 1) bs) le (omega (arith, room))),
                  (
                    sh (h + 1) bs,
                    (refl, refl),
                    (
                      sh h bs,
                      (omega arith, λ r lt. store_op k r h bs lt le (omega (arith, room))),
                      (
                        sh h bs,
                        vq,
                        (
                          sh (h + 1) bs,
                          (omega arith, λ r lt. load_op k r h bs lt le (omega (arith, room))),
                          (sh h bs, raise_op k h bs (sh h bs) le (omega (arith, room)), (sh h bs, (refl, refl), refl)),
                        ),
                      ),
                    ),
                  ),
                ),
              ),
            ),
          ),
        )

    pub try_except_does : (c : List Around) (body : Piece) (clauses : List Piece) (other : Piece) →
        Does k (InTry ∷ c) body → Each (Clause k c) clauses → Does k c other →
        Does k c (try_except ln body clauses other)
    try_except_does c body clauses other vb vs vo = record {
      typed = λ gs h bs f room. let g = guard h bs in
          guarded_is body other 0 (row clauses) gs h bs (low k c gs h bs f) (omega (arith, room))
          (vb.typed (g ∷ gs) h (h ∷ bs) (bs, refl, f) (omega (arith, room)))
          (vo.typed gs h bs f (omega (arith, room)))
          (same k (g ∷ gs) clauses (sh h bs)
          (each_clause c (g ∷ gs) h bs clauses (omega arith, f) refl vs (omega (arith, room))));
    }

    pub try_finally_does : (c : List Around) (inner fin : Piece) → Does k (InFinally fin ∷ c) inner → Does k c fin →
        Does k c (try_finally ln inner fin)
    try_finally_does c inner fin vi vf = record {
      typed = λ gs h bs f room. let ft = vf.typed gs h bs f (omega (arith, room)) in
          guarded_is inner fin 1 fin gs h bs (low k c gs h bs f) (omega (arith, room))
          (vi.typed (guard h bs ∷ gs) h (h ∷ bs) (bs, refl, ft, f) (omega (arith, room))) ft ft;
    }
