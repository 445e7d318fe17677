-- Simple statements lead from a shape to itself, whatever surrounds them, and so do the ways out of constructs.
use Rattle.std.proofs.Common.{◌≡◌, ℕ, ◌+◌, ◌<◌, ◌≤◌, ◌^◌, List, [], ◌∷◌, Some, Bool, true, false, refl, ap, sym, subst, arith, length, map, get_or, drop}
use Rattle.std.specs.Prelude.{IsTrue}
use Rattle.py_code.specs.declared.instr.Constant.{Constant}
use Rattle.py_code.specs.declared.instr.Constant.TheVariants.{Root}
use Rattle.py_code.specs.declared.instr.Instr.{Instr}
use Rattle.py_code.specs.declared.instr.Instr.TheVariants.{Const, Pop, Dup, Rot2, Dup2, Rot3, LoadLocal, StoreLocal, LoadAttr, StoreAttr, LoadItem, StoreItem, DelAttr, DelItem, Not, InPlace, Jump, JumpFalse, Call, Return, PopTry, MakeRaised, Raise, PrintItem, PrintNewline}
use Rattle.py_code.specs.Effects.{Limits, effect, On, Sh, floor_of, IsKnown, IsText}
use Rattle.py_templates.specs.declared.way.Way.{Way}
use Rattle.py_templates.specs.declared.way.Way.TheVariants as way
use Rattle.py_templates.specs.declared.home.Home.{Home}
use Rattle.py_templates.specs.Template.{Piece, Part, Op, Hidden, To, Here, Alone, Sub, template, row}
use Rattle.py_templates.specs.Table.{E, A, load, store, nothing, one, assign, del_attr, del_item, add_name, add_attr, add_item, expression, print_one, print_line, import_one, raise_one, raise_two, assert_with, assert_alone, Around, InWhile, InFor, InTry, InClause, InFinally, way_out, return, raise_again}
use Rattle.std.specs.Prelude.{All}
use Rattle.py_templates.proofs.Typed.{Ring, Typed, Goes, PartsOk, all_stand, template_typed}
use Rattle.compiler_laws.proofs.Ops.{sh, op, load_op, store_op, pop_op, pop_try_op, raise_op, return_op, jump_op, jump_false}
use Rattle.compiler_laws.proofs.Values.{Each, Room, own_ring, Value, Store, Change, changes, same}
use Rattle.compiler_laws.proofs.Surrounds.{AroundFits, low, Does, Leaves, block_does, in_loop, in_clause, SlotFits, slot_fits}

no_keys : (k : Limits) → All (IsText k) []
no_keys k n d lt = absurd (omega (arith, lt))

module _ (k : Limits) where
  module _ (ln : ℕ) where
    pub nothing_does : (c : List Around) → Does k c (nothing ln)
    nothing_does c = record { typed = λ gs h bs f room. template_typed k ln 0 0 [] [] gs _ _ refl refl refl }

    -- the end of a block, where the blocks are these
    pop_here : (h : ℕ) (bs outer : List ℕ) → bs ≡ h ∷ outer → h + 1 < 2 ^ 32 → Goes k PopTry (sh h bs) (sh h outer)
    pop_here h bs outer e room = subst (λ z. Goes k PopTry (sh h z) (sh h outer)) (sym e) (pop_try_op k h outer room)

    -- break and continue
    abbrev pub jumps : Way → Bool
    jumps way.Out = false
    jumps _ = true

    pub jump_does : (w : Way) → IsTrue (jumps w) → (c : List Around) → IsTrue (in_loop k c) →
        Leaves k c (way_out ln w c)
    jump_does w q [] i = cc
    jump_does way.Break q (InWhile ∷ c) i = record {
      typed = λ gs h bs s f room. template_typed k ln 0 0 (To 1 Jump E ∷ []) [] gs _ _ refl refl
          (s, (sh h bs, f.0, jump_op k h bs s (low k (InWhile ∷ c) gs h bs f) (omega (arith, room))), refl);
    }
    jump_does way.Continue q (InWhile ∷ c) i = record {
      typed = λ gs h bs s f room. template_typed k ln 0 0 (To 1 Jump A ∷ []) [] gs _ _ refl refl
          (s, (sh h bs, f.1, jump_op k h bs s (low k (InWhile ∷ c) gs h bs f) (omega (arith, room))), refl);
    }
    jump_does way.Out q (InWhile ∷ c) i = cc
    jump_does way.Break q (InFor ∷ c) i = record {
      typed = λ gs h bs s f room. let (l, e, a, b, g) = f in
          let floor = low k c (drop 1 gs) l bs g in
          template_typed k ln 0 0 (Op Pop ∷ To 1 Jump E ∷ []) [] gs _ _ refl refl (
            sh l bs,
            subst (λ z. Goes k Pop (sh z bs) (sh l bs)) (sym e) (pop_op k l bs floor (omega (arith, room, e))),
            (s, (sh l bs, a, jump_op k l bs s floor (omega (arith, room, e))), refl),
          );
    }
    jump_does way.Continue q (InFor ∷ c) i = record {
      typed = λ gs h bs s f room. template_typed k ln 0 0 (To 1 Jump A ∷ []) [] gs _ _ refl refl
          (s, (sh h bs, f.3, jump_op k h bs s (low k (InFor ∷ c) gs h bs f) (omega (arith, room))), refl);
    }
    jump_does way.Out q (InFor ∷ c) i = cc
    jump_does w q (InTry ∷ c) i = let r = jump_does w q c i in record {
      typed = λ gs h bs s f room. let (o, e, g) = f in
          template_typed k ln 0 0 (Op PopTry ∷ Sub 2 (way_out ln w c) ∷ []) [] gs _ _ refl refl (
            sh h o,
            pop_here h bs o e (omega (arith, room)),
            (s, r.typed (drop 1 gs) h o s g (omega (arith, room)), refl),
          );
    }
    jump_does w q (InClause ∷ c) i = let r = jump_does w q c i in record {
      typed = λ gs h bs s f room.
          template_typed k ln 0 0 (Sub 2 (way_out ln w c) ∷ []) [] gs _ _ refl refl
          (s, r.typed (drop 1 gs) h bs s f.1 (omega (arith, room)), refl);
    }
    jump_does w q (InFinally fin ∷ c) i = let r = jump_does w q c i in record {
      typed = λ gs h bs s f room. let (o, e, t, g) = f in
          template_typed k ln 0 0 (Op PopTry ∷ Sub 2 fin ∷ Sub 2 (way_out ln w c) ∷ []) [] gs _ _ refl refl (
            sh h o,
            pop_here h bs o e (omega (arith, room)),
            (sh h o, t, (s, r.typed (drop 1 gs) h o s g (omega (arith, room)), refl)),
          );
    }

    -- the shape on the way out of the body
    record Out (gs : List Ring) (h : ℕ) (bs : List ℕ) (c : List Around) : Type 0 where
      height : ℕ
      blocks : List ℕ
      typed : Typed k (way_out ln way.Out c) gs (sh h bs) (sh height blocks)
      floor : floor_of blocks ≤ height
      less : height ≤ h

    out : (c : List Around) (gs : List Ring) (h : ℕ) (bs : List ℕ) → AroundFits k c gs h bs →
        Room h (way_out ln way.Out c) → Out gs h bs c
    out [] gs h bs f room = record {
      height = h;
      blocks = bs;
      typed =
          template_typed k ln 0 0 [] [] gs _ _ refl refl refl;
      floor = f;
      less = omega arith;
    }
    out (InWhile ∷ c) gs h bs f room = let o = out c (drop 1 gs) h bs f.2 (omega (arith, room)) in
        record {
          height = o.height;
          blocks = o.blocks;
          typed =
              template_typed k ln 0 0 (Sub 2 (way_out ln way.Out c) ∷ []) [] gs _ _ refl refl
              (sh o.height o.blocks, o.typed, refl);
          floor = o.floor;
          less = o.less;
        }
    out (InFor ∷ c) gs h bs (l, e, a, b, g) room =
        let o = out c (drop 1 gs) l bs g (omega (arith, room, e)) in
        record {
          height = o.height;
          blocks = o.blocks;
          typed = template_typed k ln 0 0 (Op Pop ∷ Sub 2 (way_out ln way.Out c) ∷ []) [] gs _ _ refl refl (
            sh l bs,
            subst (λ z. Goes k Pop (sh z bs) (sh l bs)) (sym e)
                (pop_op k l bs (low k c (drop 1 gs) l bs g) (omega (arith, room, e))),
            (sh o.height o.blocks, o.typed, refl),
          );
          floor = o.floor;
          less = omega (arith, e, o.less);
        }
    out (InTry ∷ c) gs h bs (l, e, g) room =
        let o = out c (drop 1 gs) h l g (omega (arith, room)) in
        record {
          height = o.height;
          blocks = o.blocks;
          typed = template_typed k ln 0 0 (Op PopTry ∷ Sub 2 (way_out ln way.Out c) ∷ []) [] gs _ _ refl refl
              (sh h l, pop_here h bs l e (omega (arith, room)), (sh o.height o.blocks, o.typed, refl));
          floor = o.floor;
          less = o.less;
        }
    out (InClause ∷ c) gs h bs f room = let o = out c (drop 1 gs) h bs f.1 (omega (arith, room)) in
        record {
          height = o.height;
          blocks = o.blocks;
          typed =
              template_typed k ln 0 0 (Sub 2 (way_out ln way.Out c) ∷ []) [] gs _ _ refl refl
              (sh o.height o.blocks, o.typed, refl);
          floor = o.floor;
          less = o.less;
        }
    out (InFinally fin ∷ c) gs h bs (l, e, t, g) room =
        let o = out c (drop 1 gs) h l g (omega (arith, room)) in
        record {
          height = o.height;
          blocks = o.blocks;
          typed = template_typed k ln 0 0 (Op PopTry ∷ Sub 2 fin ∷ Sub 2 (way_out ln way.Out c) ∷ []) [] gs _ _ refl
              refl
              (sh h l, pop_here h bs l e (omega (arith, room)), (sh h l, t, (sh o.height o.blocks, o.typed, refl)));
          floor = o.floor;
          less = o.less;
        }

    pub return_does : (e : Piece) (c : List Around) → Value k e → Leaves k c (return ln e c)
    return_does e c ve = record {
      typed = λ gs h bs s f room.
          let le = low k c gs h bs f in
          let o = out c gs h bs f (omega (arith, room)) in
          template_typed k ln 1 0 (Alone e ∷ Hidden 0 StoreLocal ∷ Sub 1 (way_out ln way.Out c) ∷ Hidden 0 LoadLocal ∷
          Op Return ∷ []) [] gs _ _ refl refl (
            sh (h + 1) bs,
            ve.typed h bs le (omega (arith, room)),
            (
              sh h bs,
              (omega arith, λ r lt. store_op k r h bs lt le (omega (arith, room))),
              (
                sh o.height o.blocks,
                o.typed,
                (
                  sh (o.height + 1) o.blocks,
                  (omega arith, λ r lt. load_op k r o.height o.blocks lt o.floor (omega (arith, room, o.less))),
                  (s, return_op k o.height o.blocks s o.floor (omega (arith, room, o.less)), refl),
                ),
              ),
            ),
          );
    }

    raise_again_typed : (c : List Around) (gs : List Ring) (h : ℕ) (bs : List ℕ) (s : Sh) → SlotFits k c gs →
        floor_of bs ≤ h → Room h (raise_again ln c) → Typed k (raise_again ln c) gs (sh h bs) s
    raise_again_typed [] gs h bs s i le room = absurd i
    raise_again_typed (InClause ∷ c) gs h bs s i le room = template_typed k ln 0 0 (Hidden 1 LoadLocal ∷ Op Raise ∷ [])
        [] gs _ _ refl refl (
          sh (h + 1) bs,
          (i, λ r lt. load_op k r h bs lt le (omega (arith, room))),
          (s, raise_op k h bs s le (omega (arith, room)), refl),
        )
    raise_again_typed (InWhile ∷ c) gs h bs s i le room = template_typed k ln 0 0 (Sub 2 (raise_again ln c) ∷ []) [] gs
        _ _ refl refl (s, raise_again_typed c (drop 1 gs) h bs s i le (omega (arith, room)), refl)
    raise_again_typed (InFor ∷ c) gs h bs s i le room = template_typed k ln 0 0 (Sub 2 (raise_again ln c) ∷ []) [] gs _
        _ refl refl (s, raise_again_typed c (drop 1 gs) h bs s i le (omega (arith, room)), refl)
    raise_again_typed (InTry ∷ c) gs h bs s i le room = template_typed k ln 0 0 (Sub 2 (raise_again ln c) ∷ []) [] gs _
        _ refl refl (s, raise_again_typed c (drop 1 gs) h bs s i le (omega (arith, room)), refl)
    raise_again_typed (InFinally fin ∷ c) gs h bs s i le room = template_typed k ln 0 0 (Sub 2 (raise_again ln c) ∷ [])
        [] gs _ _ refl refl (s, raise_again_typed c (drop 1 gs) h bs s i le (omega (arith, room)), refl)

    pub raise_again_does : (c : List Around) → IsTrue (in_clause k c) → Leaves k c (raise_again ln c)
    raise_again_does c i = record {
      typed = λ gs h bs s f room. raise_again_typed c gs h bs s (slot_fits k c gs h bs f i)
          (low k c gs h bs f) room;
    }

    -- Simple statements.

    inplace_op : (o h : ℕ) (bs : List ℕ) → o < 12 → floor_of bs ≤ h → h + 4 < 2 ^ 32 →
        Goes k (InPlace o) (sh (h + 1 + 1) bs) (sh (h + 1) bs)
    inplace_op o h bs lt le room = op k (InPlace o) (h + 1 + 1) (h + 1) bs refl lt (omega (arith, le))
        (omega (arith, room)) (omega arith)

    pub assign_does : (c : List Around) (e : Piece) (ts : List Piece) (t : Piece) → Value k e → Each (Change k) ts →
        Store k t → Does k c (assign ln e ts t)
    assign_does c e ts t ve vs vt = record {
      typed = λ gs h bs f room. let le = low k c gs h bs f in
          template_typed k ln 0 0 (Alone e ∷ Alone (row ts) ∷ Alone t ∷ []) [] gs _ _ refl refl (
            sh (h + 1) bs,
            ve.typed h bs le (omega (arith, room)),
            (
              sh (h + 1) bs,
              same k [] ts (sh (h + 1) bs) (changes k ln ts h bs vs le (omega (arith, room))),
              (sh h bs, vt.typed h bs le (omega (arith, room)), refl),
            ),
          );
    }

    -- an instruction that leaves the stack as it is, as the deletion of a name
    pub one_does : (c : List Around) (i : Instr) → (effect k i).flow ≡ On → (effect k i).pops ≡ 0 →
        (effect k i).pushes ≡ 0 → IsKnown k i → Does k c (one ln i)
    one_does c i a b p d = record {
      typed = λ gs h bs f room. let le = low k c gs h bs f in
          template_typed k ln 0 0 (Op i ∷ []) [] gs _ _ refl refl
          (sh h bs, op k i h h bs a d (omega (arith, b, le)) (omega (arith, p, room)) (omega (arith, b, p)), refl);
    }

    pub del_attr_does : (c : List Around) (o : Piece) (n : ℕ) → Value k o → IsText k n → Does k c (del_attr ln o n)
    del_attr_does c o n vo kn = record {
      typed = λ gs h bs f room. let le = low k c gs h bs f in
          template_typed k ln 0 0 (Alone o ∷ Op (DelAttr n) ∷ []) [] gs _ _ refl refl (
            sh (h + 1) bs,
            vo.typed h bs le (omega (arith, room)),
            (
              sh h bs,
              op k (DelAttr n) (h + 1) h bs refl kn (omega (arith, le)) (omega (arith, room)) (omega arith),
              refl,
            ),
          );
    }

    pub del_item_does : (c : List Around) (o i : Piece) → Value k o → Value k i → Does k c (del_item ln o i)
    del_item_does c o i vo vi = record {
      typed = λ gs h bs f room. let le = low k c gs h bs f in
          template_typed k ln 0 0 (Alone o ∷ Alone i ∷ Op DelItem ∷ []) [] gs _ _ refl refl (
            sh (h + 1) bs,
            vo.typed h bs le (omega (arith, room)),
            (
              sh (h + 1 + 1) bs,
              vi.typed (h + 1) bs (omega (arith, le)) (omega (arith, room, vo.some)),
              (
                sh h bs,
                op k DelItem (h + 1 + 1) h bs refl tt (omega (arith, le)) (omega (arith, room)) (omega arith),
                refl,
              ),
            ),
          );
    }

    -- a name's home is known
    abbrev pub IsHome : Home → Type 0
    IsHome x = ((effect k (load x)).flow ≡ On) × ((effect k (load x)).pops ≡ 0) × ((effect k (load x)).pushes ≡ 1) ×
        IsKnown k (load x) × ((effect k (store x)).flow ≡ On) × ((effect k (store x)).pops ≡ 1) ×
        ((effect k (store x)).pushes ≡ 0) × IsKnown k (store x)

    load_home : (x : Home) (h : ℕ) (bs : List ℕ) → IsHome x → floor_of bs ≤ h → h + 4 < 2 ^ 32 →
        Goes k (load x) (sh h bs) (sh (h + 1) bs)
    load_home x h bs (a, b, c, d, p, q, r, s) le room = op k (load x) h (h + 1) bs a d (omega (arith, le, b))
        (omega (arith, room, c)) (omega (arith, b, c))

    pub store_home : (x : Home) (h : ℕ) (bs : List ℕ) → IsHome x → floor_of bs ≤ h → h + 4 < 2 ^ 32 →
        Goes k (store x) (sh (h + 1) bs) (sh h bs)
    store_home x h bs (a, b, c, d, p, q, r, s) le room = op k (store x) (h + 1) h bs p s (omega (arith, le, q))
        (omega (arith, room, r)) (omega (arith, q, r))

    pub add_name_does : (c : List Around) (x : Home) (o : ℕ) (e : Piece) → IsHome x → o < 12 → Value k e →
        Does k c (add_name ln x o e)
    add_name_does c x o e ix lt ve = record {
      typed = λ gs h bs f room. let le = low k c gs h bs f in
          template_typed k ln 0 0 (Op (load x) ∷ Alone e ∷ Op (InPlace o) ∷ Op (store x) ∷ []) [] gs _ _ refl refl (
            sh (h + 1) bs,
            load_home x h bs ix le (omega (arith, room)),
            (
              sh (h + 1 + 1) bs,
              ve.typed (h + 1) bs (omega (arith, le)) (omega (arith, room)),
              (
                sh (h + 1) bs,
                inplace_op o h bs lt le (omega (arith, room)),
                (sh h bs, store_home x h bs ix le (omega (arith, room)), refl),
              ),
            ),
          );
    }

    pub add_attr_does : (c : List Around) (a : Piece) (n o : ℕ) (e : Piece) → IsText k n → o < 12 → Value k a →
        Value k e → Does k c (add_attr ln a n o e)
    add_attr_does c a n o e kn lt va ve = record {
      typed = λ gs h bs f room. let le = low k c gs h bs f in
          template_typed k ln 0 0 (Alone a ∷ Op Dup ∷ Op (LoadAttr n) ∷ Alone e ∷ Op (InPlace o) ∷ Op Rot2 ∷ Op
          (StoreAttr n) ∷ []) [] gs _ _ refl refl (
            sh (h + 1) bs,
            va.typed h bs le (omega (arith, room)),
            (
              sh (h + 1 + 1) bs,
              op k Dup (h + 1) (h + 1 + 1) bs refl tt (omega (arith, le)) (omega (arith, room)) (omega arith),
              (
                sh (h + 1 + 1) bs,
                op k (LoadAttr n) (h + 1 + 1) (h + 1 + 1) bs refl kn (omega (arith, le)) (omega (arith, room))
                    (omega arith),
                (
                  sh (h + 1 + 1 + 1) bs,
                  ve.typed (h + 1 + 1) bs (omega (arith, le)) (omega (arith, room)),
                  (
                    sh (h + 1 + 1) bs,
                    inplace_op o (h + 1) bs lt (omega (arith, le)) (omega (arith, room)),
                    (
                      sh (h + 1 + 1) bs,
                      op k Rot2 (h + 1 + 1) (h + 1 + 1) bs refl tt (omega (arith, le)) (omega (arith, room))
                          (omega arith),
                      (
                        sh h bs,
                        op k (StoreAttr n) (h + 1 + 1) h bs refl kn (omega (arith, le)) (omega (arith, room))
                            (omega arith),
                        refl,
                      ),
                    ),
                  ),
                ),
              ),
            ),
          );
    }

    pub add_item_does : (c : List Around) (a i : Piece) (o : ℕ) (e : Piece) → o < 12 → Value k a → Value k i →
        Value k e → Does k c (add_item ln a i o e)
    add_item_does c a i o e lt va vi ve = record {
      typed = λ gs h bs f room. let le = low k c gs h bs f in
          template_typed k ln 0 0 (Alone a ∷ Alone i ∷ Op Dup2 ∷ Op LoadItem ∷ Alone e ∷ Op (InPlace o) ∷ Op Rot3 ∷ Op
          StoreItem ∷ []) [] gs _ _ refl refl (
            sh (h + 1) bs,
            va.typed h bs le (omega (arith, room)),
            (
              sh (h + 1 + 1) bs,
              vi.typed (h + 1) bs (omega (arith, le)) (omega (arith, room)),
              (
                sh (h + 1 + 1 + 1 + 1) bs,
                op k Dup2 (h + 1 + 1) (h + 1 + 1 + 1 + 1) bs refl tt (omega (arith, le)) (omega (arith, room))
                    (omega arith),
                (
                  sh (h + 1 + 1 + 1) bs,
                  op k LoadItem (h + 1 + 1 + 1 + 1) (h + 1 + 1 + 1) bs refl tt (omega (arith, le))
                      (omega (arith, room)) (omega arith),
                  (
                    sh (h + 1 + 1 + 1 + 1) bs,
                    ve.typed (h + 1 + 1 + 1) bs (omega (arith, le)) (omega (arith, room)),
                    (
                      sh (h + 1 + 1 + 1) bs,
                      inplace_op o (h + 1 + 1) bs lt (omega (arith, le)) (omega (arith, room)),
                      (
                        sh (h + 1 + 1 + 1) bs,
                        op k Rot3 (h + 1 + 1 + 1) (h + 1 + 1 + 1) bs refl tt (omega (arith, le)) (omega (arith, room))
                            (omega arith),
                        (
                          sh h bs,
                          op k StoreItem (h + 1 + 1 + 1) h bs refl tt (omega (arith, le)) (omega (arith, room))
                              (omega arith),
                          refl,
                        ),
                      ),
                    ),
                  ),
                ),
              ),
            ),
          );
    }

    pub expression_does : (c : List Around) (e : Piece) → Value k e → Does k c (expression ln e)
    expression_does c e ve = record {
      typed = λ gs h bs f room. let le = low k c gs h bs f in
          template_typed k ln 0 0 (Alone e ∷ Op Pop ∷ []) [] gs _ _ refl refl (
            sh (h + 1) bs,
            ve.typed h bs le (omega (arith, room)),
            (sh h bs, pop_op k h bs le (omega (arith, room)), refl),
          );
    }

    pub print_one_does : (c : List Around) (e : Piece) → Value k e → Does k c (print_one ln e)
    print_one_does c e ve = record {
      typed = λ gs h bs f room. let le = low k c gs h bs f in
          template_typed k ln 0 0 (Alone e ∷ Op PrintItem ∷ []) [] gs _ _ refl refl (
            sh (h + 1) bs,
            ve.typed h bs le (omega (arith, room)),
            (
              sh h bs,
              op k PrintItem (h + 1) h bs refl tt (omega (arith, le)) (omega (arith, room)) (omega arith),
              refl,
            ),
          );
    }

    each_print : (es : List Piece) → Each (Value k) es → Each (Does k []) (map (print_one ln) es)
    each_print [] vs = tt
    each_print (e ∷ es) (v, vs) = (print_one_does [] e v, each_print es vs)

    pub print_line_does : (c : List Around) (es : List Piece) → Each (Value k) es → Does k c (print_line ln es)
    print_line_does c es vs = let b = block_does k [] (map (print_one ln) es) (each_print es vs) in record {
      typed = λ gs h bs f room. let le = low k c gs h bs f in
          template_typed k ln 0 0 (Alone (row (map (print_one ln) es)) ∷ Op PrintNewline ∷ []) [] gs _ _ refl refl (
            sh h bs,
            b.typed [] h bs le (omega (arith, room)),
            (
              sh h bs,
              op k PrintNewline h h bs refl tt (omega (arith, le)) (omega (arith, room)) (omega arith),
              refl,
            ),
          );
    }

    pub import_does : (c : List Around) (t : Constant) (x : Home) → IsHome x → IsKnown k (Const t) →
        Does k c (import_one ln t x)
    import_does c t x ix kn = record {
      typed = λ gs h bs f room. let le = low k c gs h bs f in
          template_typed k ln 0 0 (Op (Const t) ∷ Op (store x) ∷ []) [] gs _ _ refl refl (
            sh (h + 1) bs,
            op k (Const t) h (h + 1) bs refl kn (omega (arith, le)) (omega (arith, room)) (omega arith),
            (sh h bs, store_home x h bs ix le (omega (arith, room)), refl),
          );
    }

    pub raise_one_does : (c : List Around) (e : Piece) → Value k e → Leaves k c (raise_one ln e)
    raise_one_does c e ve = record {
      typed = λ gs h bs s f room. let le = low k c gs h bs f in
          template_typed k ln 0 0 (Alone e ∷ Op (MakeRaised 0) ∷ Op Raise ∷ []) [] gs _ _ refl refl (
            sh (h + 1) bs,
            ve.typed h bs le (omega (arith, room)),
            (
              sh (h + 1) bs,
              op k (MakeRaised 0) (h + 1) (h + 1) bs refl (omega arith) (omega (arith, le)) (omega (arith, room))
                  (omega arith),
              (s, raise_op k h bs s le (omega (arith, room)), refl),
            ),
          );
    }

    pub raise_two_does : (c : List Around) (e v : Piece) → Value k e → Value k v → Leaves k c (raise_two ln e v)
    raise_two_does c e v ve vv = record {
      typed = λ gs h bs s f room. let le = low k c gs h bs f in
          template_typed k ln 0 0 (Alone e ∷ Alone v ∷ Op (MakeRaised 1) ∷ Op Raise ∷ []) [] gs _ _ refl refl (
            sh (h + 1) bs,
            ve.typed h bs le (omega (arith, room)),
            (
              sh (h + 1 + 1) bs,
              vv.typed (h + 1) bs (omega (arith, le)) (omega (arith, room)),
              (
                sh (h + 1) bs,
                op k (MakeRaised 1) (h + 1 + 1) (h + 1) bs refl (omega arith) (omega (arith, le)) (omega (arith, room))
                    (omega arith),
                (s, raise_op k h bs s le (omega (arith, room)), refl),
              ),
            ),
          );
    }

    root_op : (h : ℕ) (bs : List ℕ) → 13 < k.cells → floor_of bs ≤ h → h + 4 < 2 ^ 32 →
        Goes k (Const (Root 13)) (sh h bs) (sh (h + 1) bs)
    root_op h bs lt le room = op k (Const (Root 13)) h (h + 1) bs refl (omega arith, lt) (omega (arith, le))
        (omega (arith, room)) (omega arith)

    not_op : (h : ℕ) (bs : List ℕ) → floor_of bs ≤ h → h + 4 < 2 ^ 32 → Goes k Not (sh (h + 1) bs) (sh (h + 1) bs)
    not_op h bs le room = op k Not (h + 1) (h + 1) bs refl tt (omega (arith, le)) (omega (arith, room)) (omega arith)

    -- behind the test of an `assert`
    abbrev tested : Piece → List Part → List Part
    tested t more = Alone t ∷ Op Not ∷ To 0 JumpFalse E ∷ Op (Const (Root 13)) ∷ more

    tested_does : (c : List Around) (t : Piece) (more : List Part) → 13 < k.cells → Value k t →
        IsTrue (all_stand 1 more) → ((gs : List Ring) (h : ℕ) (bs : List ℕ) → floor_of bs ≤ h →
        Room h (template ln 0 1 (tested t more)) →
        PartsOk k (own_ring 0 (Some (sh h bs) ∷ []) ∷ gs) (sh (h + 1) bs) more (sh h bs)) →
        Does k c (template ln 0 1 (tested t more))
    tested_does c t more root vt st rest = record {
      typed = λ gs h bs f room. let le = low k c gs h bs f in
          template_typed k ln 0 1 (tested t more) (Some (sh h bs) ∷ []) gs _ _ refl st (
            sh (h + 1) bs,
            vt.typed h bs le (omega (arith, room)),
            (
              sh (h + 1) bs,
              not_op h bs le (omega (arith, room)),
              (
                sh h bs,
                (sh h bs, refl, jump_false k h bs le (omega (arith, room))),
                (sh (h + 1) bs, root_op h bs root le (omega (arith, room)), rest gs h bs le room),
              ),
            ),
          );
    }

    pub assert_with_does : (c : List Around) (t m : Piece) → 13 < k.cells → 0 < length k.keys → get_or k.keys 0 [] ≡ []
        → Value k t → Value k m → Does k c (assert_with ln t m)
    assert_with_does c t m root some none vt vm =
        tested_does c t (Alone m ∷ Op (Call 1 0) ∷ Op Raise ∷ Here E ∷ []) root vt refl (λ gs h bs le room. (
          sh (h + 1 + 1) bs,
          vm.typed (h + 1) bs (omega (arith, le)) (omega (arith, room)),
          (
            sh (h + 1) bs,
            op k (Call 1 0) (h + 1 + 1) (h + 1) bs refl (some, rw none (no_keys k))
                (omega (arith, le, ap length none)) (omega (arith, room)) (omega (arith, ap length none)),
            (sh h bs, raise_op k h bs (sh h bs) le (omega (arith, room)), (sh h bs, (refl, refl), refl)),
          ),
        ))

    pub assert_alone_does : (c : List Around) (t : Piece) → 13 < k.cells → Value k t → Does k c (assert_alone ln t)
    assert_alone_does c t root vt =
        tested_does c t (Op (MakeRaised 0) ∷ Op Raise ∷ Here E ∷ []) root vt refl (λ gs h bs le room. (
          sh (h + 1) bs,
          op k (MakeRaised 0) (h + 1) (h + 1) bs refl (omega arith) (omega (arith, le)) (omega (arith, room))
              (omega arith),
          (sh h bs, raise_op k h bs (sh h bs) le (omega (arith, room)), (sh h bs, (refl, refl), refl)),
        ))
