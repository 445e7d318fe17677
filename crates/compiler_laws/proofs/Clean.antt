-- Which instructions stand in the code of a body, reached or not: expressions.
use Rattle.std.proofs.Common.{◌≡◌, ◌∙◌, ℕ, ℤ, ◌+◌, List, [], ◌∷◌, ◌++◌, Option, Some, None, Bool, true, false, refl, sym, ap, subst, length, map, drop}
use Rattle.std.specs.Prelude.{if◌then◌else◌}
use Rattle.py_code.specs.declared.instr.Constant.TheVariants.{None as NoValue, Root, Int as IntValue}
use Rattle.py_code.specs.declared.instr.Instr.{Instr}
use Rattle.py_code.specs.declared.instr.Instr.TheVariants.{Const, Pop, Dup, Rot2, Dup2, Rot3, LoadAttr, StoreAttr, DelAttr, LoadMethod, LoadItem, StoreItem, DelItem, Slice, Unary, Not, Binary, InPlace, Compare, Jump, JumpFalse, KeepFalse, KeepTrue, BuildTuple, BuildList, BuildDict, Unpack, Call, CallMethod}
use Rattle.py_base.specs.declared.operator.binary.TheConstants.{POWER}
use Rattle.py_tree.specs.declared.expr.Expr.{Expr}
use Rattle.py_tree.specs.declared.expr.Trailer.{Trailer}
use Rattle.py_tree.specs.declared.expr.Link.{Link}
use Rattle.py_tree.specs.declared.expr.Named.{Named}
use Rattle.py_tree.specs.declared.expr.Pair.{Pair}
use Rattle.py_tree.specs.declared.expr.Level.{Level}
use Rattle.py_tree.specs.declared.expr.Level.TheVariants as level
use Rattle.py_tree.specs.declared.expr.Sign.{Sign}
use Rattle.py_tree.specs.declared.expr.Expr.TheVariants as e
use Rattle.py_tree.specs.declared.expr.Trailer.TheVariants as t
use Rattle.py_templates.specs.declared.home.Home.TheVariants.{Slot, Body}
use Rattle.py_templates.specs.Template.{Frame, Piece, Part, Op, Hidden, To, Here, Alone, Sub, part_size, part_slots, part_code, code_of, template, row, labels_from, own_slot, label_at, slot_at}
use Rattle.py_templates.specs.Table.{E, F, N, constant, name, one, operators, all_kept, to_all, load, store, del}
use Rattle.py_templates.specs.Names.{Known, text, home_at, home, find_name, key_list}
use Rattle.py_base.specs.NameLists.{has}
use Rattle.py_names.specs.Outline.{is_none}
use Rattle.py_templates.specs.Expressions.{sign_number, Place, Spread, NoPlace, Trailed, Attr, Index, Cut, Called, store_at, del_at, add_at, front_of, last_link, key_names, firsts, last_operand, betweens, comparison, links, chain, behind, trailed, place_by, coded, coded_trailer, value, values, all_stored, all_deleted, linked, pairs, key_values, trailers, value_some}
use Rattle.py_templates.specs.Uses.{Use, Text, Global, Keys, Inside, own_read, name_read, used_trailer, read, target, read_all, target_all, read_some}
use Rattle.py_templates.proofs.Coded as rows
use Rattle.py_templates.specs.inner.Reads.{read_links, read_pairs, read_named, read_trailers}
use Rattle.py_templates.proofs.Used as uses
use Rattle.py_templates.proofs.ExprInduct.{Every, IfThere, OfLink, OfNamed, OfPair, expr_induct, every_front, every_back, every_join}
use Rattle.py_templates.proofs.Homes.{find_some}
use Rattle.compiler_laws.proofs.Fit.{Fit, NoteOk}

module _ (ok : ℕ → Type 0) (flags : ℕ → Bool) (z : Bool) where
  abbrev pub Good : Instr → Type 0
  Good i = Fit ok flags z i

  -- each instruction of a piece, wherever it stands
  abbrev pub IsClean : Piece → Type 0
  IsClean b = (env : List Frame) (p h : ℕ) → Every Good (b.code env p h)

  abbrev pub PartClean : Part → Type 0
  PartClean (Op i) = Good i
  PartClean (Hidden d j) = (s : ℕ) → Good (j s)
  PartClean (To d j l) = (q : ℕ) → Good (j q)
  PartClean (Here l) = Unit {0}
  PartClean (Alone b) = IsClean b
  PartClean (Sub d b) = IsClean b

  part_clean : (x : Part) → PartClean x → (env : List Frame) (p h : ℕ) → Every Good (part_code env x p h)
  part_clean (Op i) c env p h = (c, tt)
  part_clean (Hidden d j) c env p h = (c (slot_at env d), tt)
  part_clean (To d j l) c env p h = (c (label_at env d l), tt)
  part_clean (Here l) c env p h = tt
  part_clean (Alone b) c env p h = c [] p h
  part_clean (Sub d b) c env p h = c (drop d env) p h

  pub parts_clean : (xs : List Part) → Every PartClean xs → (env : List Frame) (p h : ℕ) →
      Every Good (code_of env xs p h)
  parts_clean [] c env p h = tt
  parts_clean (x ∷ xs) c env p h = every_join Good (part_code env x p h)
      (code_of env xs (p + part_size x) (h + part_slots x)) (part_clean x c.0 env p h)
      (parts_clean xs c.1 env (p + part_size x) (h + part_slots x))

  pub template_clean : (ln own count : ℕ) (xs : List Part) → Every PartClean xs → IsClean (template ln own count xs)
  template_clean ln own count xs c env p h =
      parts_clean xs c (record { labels = labels_from xs p count 0; slot = own_slot own h } ∷ env) p (h + own)

  rows_clean : (ps : List Piece) → Every IsClean ps → Every PartClean (map (Sub 1) ps)
  rows_clean [] c = tt
  rows_clean (p ∷ ps) c = (c.0, rows_clean ps c.1)

  pub row_clean : (ps : List Piece) → Every IsClean ps → IsClean (row ps)
  row_clean ps c = template_clean 0 0 0 (map (Sub 1) ps) (rows_clean ps c)

  pub one_clean : (ln : ℕ) (i : Instr) → Good i → IsClean (one ln i)
  one_clean ln i q = template_clean ln 0 0 (Op i ∷ []) (q, tt)

  -- operators
  abbrev LinksClean : List (ℕ × Piece) → Type 0
  LinksClean xs = Every (λ x. IsClean x.1) xs

  firsts_clean : (ln : ℕ) (j : ℕ → Instr) (a : Piece) (xs : List (ℕ × Piece)) → ((q : ℕ) → Good (j q)) → IsClean a →
      LinksClean xs → Every IsClean (firsts ln j a xs)
  firsts_clean ln j a [] i c h = tt
  firsts_clean ln j a (x ∷ xs) i c h = (
    template_clean ln 0 0 (Alone a ∷ To 1 j E ∷ []) (c, (i, tt)),
    firsts_clean ln j x.1 xs i h.0 h.1,
  )

  last_clean : (ln : ℕ) (a : Piece) (xs : List (ℕ × Piece)) → IsClean a → LinksClean xs → IsClean (last_operand ln a xs)
  last_clean ln a [] c h = c
  last_clean ln a (x ∷ xs) c h = last_clean ln x.1 xs h.0 h.1

  logical_clean : (ln : ℕ) (j : ℕ → Instr) (a : Piece) (xs : List (ℕ × Piece)) → ((q : ℕ) → Good (j q)) → IsClean a →
      LinksClean xs → IsClean (all_kept ln (firsts ln j a xs) (last_operand ln a xs))
  logical_clean ln j a xs i c h = template_clean ln 0 1
      (Sub 0 (row (firsts ln j a xs)) ∷ Alone (last_operand ln a xs) ∷ Here E ∷ [])
      (row_clean (firsts ln j a xs) (firsts_clean ln j a xs i c h), (last_clean ln a xs c h, (tt, tt)))

  betweens_clean : (ln : ℕ) (x : ℕ × Piece) (xs : List (ℕ × Piece)) → IsClean x.1 → LinksClean xs →
      Every IsClean (betweens ln x xs)
  betweens_clean ln x [] c h = tt
  betweens_clean ln x (y ∷ ys) c h = (
    template_clean ln 0 0
        (Alone x.1 ∷ Op Dup ∷ Op Rot3 ∷ Op (Compare x.0) ∷ To 1 KeepFalse F ∷ [])
        (c, (tt, (tt, (tt, ((λ q. tt), tt))))),
    betweens_clean ln y ys h.0 h.1,
  )

  last_link_clean : (x : ℕ × Piece) (xs : List (ℕ × Piece)) → IsClean x.1 → LinksClean xs → IsClean (last_link x xs).1
  last_link_clean x [] c h = c
  last_link_clean x (y ∷ ys) c h = last_link_clean y ys h.0 h.1

  comparison_clean : (ln : ℕ) (a : Piece) (xs : List (ℕ × Piece)) → IsClean a → LinksClean xs →
      IsClean (comparison ln a xs)
  comparison_clean ln a [] c h = c
  comparison_clean ln a (x ∷ []) c h = template_clean ln 0 0 (Alone a ∷ Alone x.1 ∷ Op (Compare x.0) ∷ [])
      (c, (h.0, (tt, tt)))
  comparison_clean ln a (x ∷ y ∷ ys) c h =
      template_clean ln 0 2 (Alone a ∷ Sub 0 (row (betweens ln x (y ∷ ys))) ∷ Alone (last_link x (y ∷ ys)).1 ∷ Op
      (Compare (last_link x (y ∷ ys)).0) ∷ To 0 Jump E ∷ Here F ∷ Op Rot2 ∷ Op Pop ∷ Here E ∷ []) (
        c,
        (
          row_clean (betweens ln x (y ∷ ys)) (betweens_clean ln x (y ∷ ys) h.0 h.1),
          (last_link_clean x (y ∷ ys) h.0 h.1, (tt, ((λ q. tt), (tt, (tt, (tt, (tt, tt))))))),
        ),
      )

  links_clean : (ln : ℕ) (xs : List (ℕ × Piece)) → LinksClean xs → Every IsClean (links ln xs)
  links_clean ln [] h = tt
  links_clean ln (x ∷ xs) h = (
    template_clean ln 0 0 (Alone x.1 ∷ Op (Binary x.0) ∷ []) (h.0, (tt, tt)),
    links_clean ln xs h.1,
  )

  operated_clean : (ln : ℕ) (a : Piece) (xs : List (ℕ × Piece)) → IsClean a → LinksClean xs →
      IsClean (operators ln a (links ln xs))
  operated_clean ln a xs c h = template_clean ln 0 0 (Alone a ∷ Alone (row (links ln xs)) ∷ [])
      (c, (row_clean (links ln xs) (links_clean ln xs h), tt))

  chain_clean : (ln : ℕ) (v : Level) (a : Piece) (xs : List (ℕ × Piece)) → IsClean a → LinksClean xs →
      IsClean (chain ln v a xs)
  chain_clean ln level.Or a xs c h = logical_clean ln KeepTrue a xs (λ q. tt) c h
  chain_clean ln level.And a xs c h = logical_clean ln KeepFalse a xs (λ q. tt) c h
  chain_clean ln level.Compare a xs c h = comparison_clean ln a xs c h
  chain_clean ln level.BitOr a xs c h = operated_clean ln a xs c h
  chain_clean ln level.BitXor a xs c h = operated_clean ln a xs c h
  chain_clean ln level.BitAnd a xs c h = operated_clean ln a xs c h
  chain_clean ln level.Shift a xs c h = operated_clean ln a xs c h
  chain_clean ln level.Sum a xs c h = operated_clean ln a xs c h
  chain_clean ln level.Term a xs c h = operated_clean ln a xs c h

  -- trailers
  abbrev pub TrailedClean : Trailed → Type 0
  TrailedClean (Attr m) = Unit {0}
  TrailedClean (Index i) = IsClean i
  TrailedClean (Cut i j) = IsClean i × IsClean j
  TrailedClean (Called args ks vs) = Every IsClean args × Every IsClean vs

  front_clean : (ts : List Trailed) → Every TrailedClean ts → Every TrailedClean (front_of ts)
  front_clean [] h = tt
  front_clean (x ∷ []) h = tt
  front_clean (x ∷ y ∷ ts) h = (h.0, front_clean (y ∷ ts) h.1)

  -- a target
  pub record PlaceClean (ln : ℕ) (p : Place) : Type 0 where
    pub store : IsClean (store_at ln p)
    pub delete : IsClean (del_at ln p)

  nothing_clean : (ln : ℕ) → IsClean (template ln 0 0 [])
  nothing_clean ln = template_clean ln 0 0 [] tt

  module _ (n : Known) (b : Inside) (names : n.locals ≡ b.locals) (kind : n.is_class ≡ b.is_class)
      (class : n.is_class ≡ z) (to go : List ℕ → Type 0) (both : (x : List ℕ) → to x → go x → ok (text n x))
      (free : (x : List ℕ) → is_none x ≡ true → has x n.locals ≡ false) where
    abbrev pub Noted : List Use → Type 0
    Noted us = Every (NoteOk to go) us

    front : (a c : List Use) → Noted (a ++ c) → Noted a
    front a c h = every_front (NoteOk to go) a c h

    back : (a c : List Use) → Noted (a ++ c) → Noted c
    back a c h = every_back (NoteOk to go) a c h

    own_load : (x : List ℕ) (i : ℕ) (c : Bool) → n.is_class ≡ c → Noted (own_read c x) →
        Good (load (if c then Body (text n x) else Slot i))
    own_load x i true e w = (sym class ∙ e, both x w.0 w.1.0)
    own_load x i false e w = tt

    own_store : (x : List ℕ) (i : ℕ) (c : Bool) → n.is_class ≡ c → Good (store (if c then Body (text n x) else Slot i))
    own_store x i true e = sym class ∙ e
    own_store x i false e = tt

    own_del : (x : List ℕ) (i : ℕ) (c : Bool) → n.is_class ≡ c → Good (del (if c then Body (text n x) else Slot i))
    own_del x i true e = sym class ∙ e
    own_del x i false e = tt

    pub store_clean : (x : List ℕ) → Good (store (home n x))
    store_clean x = by_find (find_name x n.locals) refl
      where
        by_find : (o : Option ℕ) → find_name x n.locals ≡ o → Good (store (home n x))
        by_find None e = subst (λ h. Good (store h)) (sym (ap (home_at n x) e)) tt
        by_find (Some i) e = subst (λ h. Good (store h)) (sym (ap (home_at n x) e)) (own_store x i n.is_class refl)

    pub del_clean : (x : List ℕ) → Good (del (home n x))
    del_clean x = by_find (find_name x n.locals) refl
      where
        by_find : (o : Option ℕ) → find_name x n.locals ≡ o → Good (del (home n x))
        by_find None e = subst (λ h. Good (del h)) (sym (ap (home_at n x) e)) tt
        by_find (Some i) e = subst (λ h. Good (del h)) (sym (ap (home_at n x) e)) (own_del x i n.is_class refl)

    load_if : (x : List ℕ) (c : Bool) → is_none x ≡ c → Noted (name_read b x) → (i : ℕ) →
        find_name x n.locals ≡ Some i →
        Noted (own_read n.is_class x)
    load_if x true e w i f = let s = (find_some x n.locals i f).0 in let m = free x e in absurd (cc)
    load_if x false e w i f =
        let h : has x b.locals ≡ true = ap (has x) (sym names) ∙ (find_some x n.locals i f).0 in
        let a : Noted (if has x b.locals then own_read b.is_class x else Global x ∷ []) =
        subst (λ y. Noted (if y then [] else (if has x b.locals then own_read b.is_class x else Global x ∷ []))) e w in
        let d : Noted (own_read b.is_class x) =
        subst (λ y. Noted (if y then own_read b.is_class x else Global x ∷ [])) h a in
        subst (λ y. Noted (own_read y x)) (sym kind) d

    pub load_clean : (x : List ℕ) → Noted (name_read b x) → Good (load (home n x))
    load_clean x w = by_find (find_name x n.locals) refl
      where
        by_find : (o : Option ℕ) → find_name x n.locals ≡ o → Good (load (home n x))
        by_find None e = subst (λ h. Good (load h)) (sym (ap (home_at n x) e)) tt
        by_find (Some i) e = subst (λ h. Good (load h)) (sym (ap (home_at n x) e))
            (own_load x i n.is_class refl (load_if x (is_none x) refl w i e))

    pub record ECl (x : Expr) : Type 0 where
      pub value : (ln : ℕ) → Noted (read b x) → IsClean (value n ln x)
      pub place : (ln : ℕ) → Noted (target b x) → PlaceClean ln (coded n ln x).place
      pub add : (ln o : ℕ) (y : Piece) → Noted (read b x) → IsClean y → IsClean (add_at ln (coded n ln x).place o y)

    pub record TCl (x : Trailer) : Type 0 where
      pub parts : (ln : ℕ) → Noted (used_trailer b x) → TrailedClean (coded_trailer n ln x)

    -- no target
    no_place : (ln : ℕ) → PlaceClean ln NoPlace
    no_place ln = record { store = nothing_clean ln; delete = nothing_clean ln }

    plain : (x : Expr) → ((ln : ℕ) → (coded n ln x).place ≡ NoPlace) →
        ((ln : ℕ) → Noted (read b x) → IsClean (value n ln x)) → ECl x
    plain x e v = record {
      value = v;
      place = λ ln w. subst (PlaceClean ln) (sym (e ln)) (no_place ln);
      add =
          λ ln o y w c. subst (λ p. IsClean (add_at ln p o y)) (sym (e ln)) (nothing_clean ln);
    }

    pub values_clean : (ln : ℕ) (xs : List Expr) → Every ECl xs → Noted (read_all b xs) → Every IsClean (values n ln xs)
    values_clean ln [] os w = tt
    values_clean ln (x ∷ xs) os w = (
      os.0.value ln (front (read b x) (read_all b xs) w),
      values_clean ln xs os.1 (back (read b x) (read_all b xs) w),
    )

    pub stores_clean : (ln : ℕ) (xs : List Expr) → Every ECl xs → Noted (target_all b xs) →
        Every IsClean (all_stored n ln xs)
    stores_clean ln [] os w = tt
    stores_clean ln (x ∷ xs) os w = (
      (os.0.place ln (front (target b x) (target_all b xs) w)).store,
      stores_clean ln xs os.1 (back (target b x) (target_all b xs) w),
    )

    pub deletes_clean : (ln : ℕ) (xs : List Expr) → Every ECl xs → Noted (target_all b xs) →
        Every IsClean (all_deleted n ln xs)
    deletes_clean ln [] os w = tt
    deletes_clean ln (x ∷ xs) os w = (
      (os.0.place ln (front (target b x) (target_all b xs) w)).delete,
      deletes_clean ln xs os.1 (back (target b x) (target_all b xs) w),
    )

    spread_clean : (ln : ℕ) (xs : List Expr) → Every ECl xs → Noted (target_all b xs) →
        PlaceClean ln (Spread (to_all ln (all_stored n ln xs)) (row (all_deleted n ln xs)))
    spread_clean ln xs os w = record {
      store = template_clean ln 0 0 (Op (Unpack (length (all_stored n ln xs))) ∷ Alone (row (all_stored n ln xs)) ∷ [])
          (tt, (row_clean (all_stored n ln xs) (stores_clean ln xs os w), tt));
      delete = row_clean (all_deleted n ln xs) (deletes_clean ln xs os w);
    }

    links_parts : (ln : ℕ) (ls : List Link) → Every (OfLink ECl TCl) ls → Noted (read_links b ls) →
        Every (λ x. IsClean x.1) (linked n ln ls)
    links_parts ln [] os w = tt
    links_parts ln (l ∷ ls) os w = (
      os.0.value ln (front (read b l.operand) (read_links b ls) w),
      links_parts ln ls os.1 (back (read b l.operand) (read_links b ls) w),
    )

    pairs_clean : (ln : ℕ) (ps : List Pair) → Every (OfPair ECl TCl) ps → Noted (read_pairs b ps) →
        Every IsClean (pairs n ln ps)
    pairs_clean ln [] os w = tt
    pairs_clean ln (p ∷ ps) os w =
        let d = front (read b p.key ++ read b p.value) (read_pairs b ps) w in (
          template_clean ln 0 0 (Alone (value n ln p.key) ∷ Alone (value n ln p.value) ∷ []) (
            os.0.0.value ln (front (read b p.key) (read b p.value) d),
            (os.0.1.value ln (back (read b p.key) (read b p.value) d), tt),
          ),
          pairs_clean ln ps os.1 (back (read b p.key ++ read b p.value) (read_pairs b ps) w),
        )

    named_clean : (ln : ℕ) (ks : List Named) → Every (OfNamed ECl TCl) ks → Noted (read_named b ks) →
        Every IsClean (key_values n ln ks)
    named_clean ln [] os w = tt
    named_clean ln (x ∷ xs) os w =
        let d = front (Text x.name ∷ read b x.value) (read_named b xs) w in (
          os.0.value ln (back (Text x.name ∷ []) (read b x.value) d),
          named_clean ln xs os.1 (back (Text x.name ∷ read b x.value) (read_named b xs) w),
        )

    pub some_clean : (ln : ℕ) (x : Option Expr) → IfThere ECl x → Noted (read_some b x) → IsClean (value_some n ln x)
    some_clean ln None o w = one_clean ln (Const NoValue) tt
    some_clean ln (Some x) o w = o.value ln w

    trailers_clean : (ln : ℕ) (ts : List Trailer) → Every TCl ts → Noted (read_trailers b ts) →
        Every TrailedClean (trailers n ln ts)
    trailers_clean ln [] os w = tt
    trailers_clean ln (x ∷ xs) os w = (
      os.0.parts ln (front (used_trailer b x) (read_trailers b xs) w),
      trailers_clean ln xs os.1 (back (used_trailer b x) (read_trailers b xs) w),
    )

    behind_clean : (ln : ℕ) (ts : List Trailed) → Every TrailedClean ts → Every IsClean (behind n ln ts)
    behind_clean ln [] h = tt
    behind_clean ln (Attr m ∷ []) h = (one_clean ln (LoadAttr (text n m)) tt, tt)
    behind_clean ln (Attr m ∷ Attr q ∷ ts) h =
        (one_clean ln (LoadAttr (text n m)) tt, behind_clean ln (Attr q ∷ ts) h.1)
    behind_clean ln (Attr m ∷ Index i ∷ ts) h =
        (one_clean ln (LoadAttr (text n m)) tt, behind_clean ln (Index i ∷ ts) h.1)
    behind_clean ln (Attr m ∷ Cut i j ∷ ts) h =
        (one_clean ln (LoadAttr (text n m)) tt, behind_clean ln (Cut i j ∷ ts) h.1)
    behind_clean ln (Attr m ∷ Called args ks vs ∷ ts) h = (
      template_clean ln 0 0 (Op (LoadMethod (text n m)) ∷ Alone (row args) ∷ Alone (row vs) ∷ Op
          (CallMethod (length args) (key_list n ks)) ∷ [])
          (tt, (row_clean args h.1.0.0, (row_clean vs h.1.0.1, (tt, tt)))),
      behind_clean ln ts h.1.1,
    )
    behind_clean ln (Index i ∷ ts) h = (
      template_clean ln 0 0 (Alone i ∷ Op LoadItem ∷ []) (h.0, (tt, tt)),
      behind_clean ln ts h.1,
    )
    behind_clean ln (Cut i j ∷ ts) h = (
      template_clean ln 0 0 (Alone i ∷ Alone j ∷ Op Slice ∷ [])
          (h.0.0, (h.0.1, (tt, tt))),
      behind_clean ln ts h.1,
    )
    behind_clean ln (Called args ks vs ∷ ts) h = (
      template_clean ln 0 0 (Alone (row args) ∷ Alone (row vs) ∷ Op (Call (length args) (key_list n ks)) ∷ [])
          (row_clean args h.0.0, (row_clean vs h.0.1, (tt, tt))),
      behind_clean ln ts h.1,
    )

    trailed_clean : (ln : ℕ) (o : Piece) (ts : List Trailed) → IsClean o → Every TrailedClean ts →
        IsClean (trailed n ln o ts)
    trailed_clean ln o ts c h = template_clean ln 0 0 (Alone o ∷ Alone (row (behind n ln ts)) ∷ [])
        (c, (row_clean (behind n ln ts) (behind_clean ln ts h), tt))

    place_by_clean : (ln : ℕ) (o : Piece) (ts : List Trailed) → IsClean o → Every TrailedClean ts →
        PlaceClean ln (place_by n ln o ts)
    place_by_clean ln o [] c h = no_place ln
    place_by_clean ln o (Attr m ∷ []) c h =
        record {
          store = template_clean ln 0 0 (Alone o ∷ Op (StoreAttr (text n m)) ∷ []) (c, (tt, tt));
          delete =
              template_clean ln 0 0 (Alone o ∷ Op (DelAttr (text n m)) ∷ []) (c, (tt, tt));
        }
    place_by_clean ln o (Index i ∷ []) c h =
        record {
          store = template_clean ln 0 0 (Alone o ∷ Alone i ∷ Op StoreItem ∷ []) (c, (h.0, (tt, tt)));
          delete =
              template_clean ln 0 0 (Alone o ∷ Alone i ∷ Op DelItem ∷ []) (c, (h.0, (tt, tt)));
        }
    place_by_clean ln o (Cut i j ∷ []) c h = no_place ln
    place_by_clean ln o (Called args ks vs ∷ []) c h = no_place ln
    place_by_clean ln o (x ∷ y ∷ ts) c h = place_by_clean ln o (y ∷ ts) c h.1

    add_by_clean : (ln : ℕ) (o : Piece) (ts : List Trailed) → IsClean o → Every TrailedClean ts → (q : ℕ) (y : Piece) →
        IsClean y → IsClean (add_at ln (place_by n ln o ts) q y)
    add_by_clean ln o [] c h q y d = nothing_clean ln
    add_by_clean ln o (Attr m ∷ []) c h q y d =
        template_clean ln 0 0 (Alone o ∷ Op Dup ∷ Op (LoadAttr (text n m)) ∷ Alone y ∷ Op (InPlace q) ∷ Op Rot2 ∷ Op
        (StoreAttr (text n m)) ∷ []) (c, (tt, (tt, (d, (tt, (tt, (tt, tt)))))))
    add_by_clean ln o (Index i ∷ []) c h q y d =
        template_clean ln 0 0 (Alone o ∷ Alone i ∷ Op Dup2 ∷ Op LoadItem ∷ Alone y ∷ Op (InPlace q) ∷ Op Rot3 ∷ Op
        StoreItem ∷ []) (c, (h.0, (tt, (tt, (d, (tt, (tt, (tt, tt))))))))
    add_by_clean ln o (Cut i j ∷ []) c h q y d = nothing_clean ln
    add_by_clean ln o (Called args ks vs ∷ []) c h q y d = nothing_clean ln
    add_by_clean ln o (x ∷ y' ∷ ts) c h q y d = add_by_clean ln o (y' ∷ ts) c h.1 q y d

    -- one arm for each kind of node
    clean_name : (x : List ℕ) → ECl (e.Name x)
    clean_name x = record {
      value = λ ln w.
          let u : Noted (name_read b x) = subst (λ q. Noted q.read) (uses.used_name b x) w in
          subst (λ q. IsClean q.value) (sym (rows.coded_name n ln x)) (by_none ln (is_none x) u);
      place = λ ln w. subst (λ q. PlaceClean ln q.place) (sym (rows.coded_name n ln x))
          (record {
            store = one_clean ln (store (home n x)) (store_clean x);
            delete =
                one_clean ln (del (home n x)) (del_clean x);
          });
      add = λ ln o y w c.
          let u : Noted (name_read b x) = subst (λ q. Noted q.read) (uses.used_name b x) w in
          subst (λ q. IsClean (add_at ln q.place o y)) (sym (rows.coded_name n ln x))
          (template_clean ln 0 0 (Op (load (home n x)) ∷ Alone y ∷ Op (InPlace o) ∷ Op (store (home n x)) ∷ [])
          (load_clean x u, (c, (tt, (store_clean x, tt)))));
    }
      where
        by_none : (ln : ℕ) (c : Bool) → Noted (name_read b x) →
            IsClean (if c then constant ln NoValue else name ln (home n x))
        by_none ln true u = one_clean ln (Const NoValue) tt
        by_none ln false u = one_clean ln (load (home n x)) (load_clean x u)

    clean_int : (i : ℤ) → ECl (e.Int i)
    clean_int i = plain (e.Int i) (λ ln. ap (λ q. q.place) (rows.coded_int n ln i))
        (λ ln w. subst (λ q. IsClean q.value) (sym (rows.coded_int n ln i)) (one_clean ln (Const (IntValue i)) tt))

    clean_str : (x : List ℕ) → ECl (e.Str x)
    clean_str x = plain (e.Str x) (λ ln. ap (λ q. q.place) (rows.coded_str n ln x))
        (λ ln w. subst (λ q. IsClean q.value) (sym (rows.coded_str n ln x)) (one_clean ln (Const (Root (text n x))) tt))

    clean_group : (a : Expr) → ECl a → ECl (e.Group a)
    clean_group a o = record {
      value = λ ln w. subst (λ q. IsClean q.value) (sym (rows.coded_group n ln a))
          (o.value ln (subst (λ q. Noted q.read) (uses.used_group b a) w));
      place = λ ln w. subst (λ q. PlaceClean ln q.place) (sym (rows.coded_group n ln a))
          (o.place ln (subst (λ q. Noted q.target) (uses.used_group b a) w));
      add = λ ln q y w c. subst (λ r. IsClean (add_at ln r.place q y)) (sym (rows.coded_group n ln a))
          (o.add ln q y (subst (λ q. Noted q.read) (uses.used_group b a) w) c);
    }

    clean_tuple : (xs : List Expr) → Every ECl xs → ECl (e.Tuple xs)
    clean_tuple xs os = record {
      value = λ ln w. subst (λ q. IsClean q.value) (sym (rows.coded_tuple n ln xs))
          (template_clean ln 0 0 (Alone (row (values n ln xs)) ∷ Op (BuildTuple (length xs)) ∷ []) (
            row_clean (values n ln xs) (values_clean ln xs os (subst (λ q. Noted q.read) (uses.used_tuple b xs) w)),
            (tt, tt),
          ));
      place = λ ln w. subst (λ q. PlaceClean ln q.place) (sym (rows.coded_tuple n ln xs))
          (spread_clean ln xs os (subst (λ q. Noted q.target) (uses.used_tuple b xs) w));
      add = λ ln q y w c. subst (λ r. IsClean (add_at ln r.place q y)) (sym (rows.coded_tuple n ln xs))
          (nothing_clean ln);
    }

    clean_list : (xs : List Expr) → Every ECl xs → ECl (e.List xs)
    clean_list xs os = record {
      value = λ ln w. subst (λ q. IsClean q.value) (sym (rows.coded_list n ln xs))
          (template_clean ln 0 0 (Alone (row (values n ln xs)) ∷ Op (BuildList (length xs)) ∷ []) (
            row_clean (values n ln xs) (values_clean ln xs os (subst (λ q. Noted q.read) (uses.used_list b xs) w)),
            (tt, tt),
          ));
      place = λ ln w. subst (λ q. PlaceClean ln q.place) (sym (rows.coded_list n ln xs))
          (spread_clean ln xs os (subst (λ q. Noted q.target) (uses.used_list b xs) w));
      add = λ ln q y w c. subst (λ r. IsClean (add_at ln r.place q y)) (sym (rows.coded_list n ln xs))
          (nothing_clean ln);
    }

    clean_dict : (ps : List Pair) → Every (OfPair ECl TCl) ps → ECl (e.Dict ps)
    clean_dict ps os = plain (e.Dict ps) (λ ln. ap (λ q. q.place) (rows.coded_dict n ln ps))
        (λ ln w. subst (λ q. IsClean q.value) (sym (rows.coded_dict n ln ps))
        (template_clean ln 0 0 (Alone (row (pairs n ln ps)) ∷ Op (BuildDict (length ps)) ∷ []) (
          row_clean (pairs n ln ps) (pairs_clean ln ps os (subst (λ q. Noted q.read) (uses.used_dict b ps) w)),
          (tt, tt),
        )))

    clean_trail : (a : Expr) (ts : List Trailer) → ECl a → Every TCl ts → ECl (e.Trail a ts)
    clean_trail a ts o os = record {
      value = λ ln w. let u = reads w in subst (λ q. IsClean q.value) (sym (rows.coded_trail n ln a ts))
          (trailed_clean ln (value n ln a) (trailers n ln ts) (o.value ln (front (read b a) (read_trailers b ts) u))
          (trailers_clean ln ts os (back (read b a) (read_trailers b ts) u)));
      place = λ ln w.
          let u : Noted (read b a ++ read_trailers b ts) = subst (λ q. Noted q.target) (uses.used_trail b a ts) w in
          let r = trailers_clean ln ts os (back (read b a) (read_trailers b ts) u) in
          subst (λ q. PlaceClean ln q.place) (sym (rows.coded_trail n ln a ts))
          (place_by_clean ln (trailed n ln (value n ln a) (front_of (trailers n ln ts))) (trailers n ln ts)
          (object ln u r) r);
      add = λ ln q y w c.
          let u = reads w in
          let r = trailers_clean ln ts os (back (read b a) (read_trailers b ts) u) in
          subst (λ d. IsClean (add_at ln d.place q y)) (sym (rows.coded_trail n ln a ts))
          (add_by_clean ln (trailed n ln (value n ln a) (front_of (trailers n ln ts))) (trailers n ln ts)
          (object ln u r) r q y c);
    }
      where
        reads : Noted (read b (e.Trail a ts)) → Noted (read b a ++ read_trailers b ts)
        reads w = subst (λ q. Noted q.read) (uses.used_trail b a ts) w

        object : (ln : ℕ) → Noted (read b a ++ read_trailers b ts) → Every TrailedClean (trailers n ln ts) →
            IsClean (trailed n ln (value n ln a) (front_of (trailers n ln ts)))
        object ln u r = trailed_clean ln (value n ln a) (front_of (trailers n ln ts))
            (o.value ln (front (read b a) (read_trailers b ts) u)) (front_clean (trailers n ln ts) r)

    clean_power : (a d : Expr) → ECl a → ECl d → ECl (e.Power a d)
    clean_power a d o q = plain (e.Power a d) (λ ln. ap (λ q. q.place) (rows.coded_power n ln a d)) (λ ln w.
        let u : Noted (read b a ++ read b d) = subst (λ q. Noted q.read) (uses.used_power b a d) w in
        subst (λ q. IsClean q.value) (sym (rows.coded_power n ln a d))
        (template_clean ln 0 0 (Alone (value n ln a) ∷ Alone (value n ln d) ∷ Op (Binary POWER) ∷ [])
        (o.value ln (front (read b a) (read b d) u), (q.value ln (back (read b a) (read b d) u), (tt, tt)))))

    clean_unary : (g : Sign) (a : Expr) → ECl a → ECl (e.Unary g a)
    clean_unary g a o = plain (e.Unary g a) (λ ln. ap (λ q. q.place) (rows.coded_unary n ln g a))
        (λ ln w. subst (λ q. IsClean q.value) (sym (rows.coded_unary n ln g a))
        (template_clean ln 0 0 (Alone (value n ln a) ∷ Op (Unary (sign_number g)) ∷ [])
        (o.value ln (subst (λ q. Noted q.read) (uses.used_unary b g a) w), (tt, tt))))

    clean_chain : (l : Level) (a : Expr) (ls : List Link) → ECl a → Every (OfLink ECl TCl) ls → ECl (e.Chain l a ls)
    clean_chain l a ls o os = plain (e.Chain l a ls) (λ ln. ap (λ q. q.place) (rows.coded_chain n ln l a ls)) (λ ln w.
        let u : Noted (read b a ++ read_links b ls) = subst (λ q. Noted q.read) (uses.used_chain b l a ls) w in
        subst (λ q. IsClean q.value) (sym (rows.coded_chain n ln l a ls))
        (chain_clean ln l (value n ln a) (linked n ln ls) (o.value ln (front (read b a) (read_links b ls) u))
        (links_parts ln ls os (back (read b a) (read_links b ls) u))))

    clean_not : (a : Expr) → ECl a → ECl (e.Not a)
    clean_not a o = plain (e.Not a) (λ ln. ap (λ q. q.place) (rows.coded_not n ln a))
        (λ ln w. subst (λ q. IsClean q.value) (sym (rows.coded_not n ln a))
        (template_clean ln 0 0 (Alone (value n ln a) ∷ Op Not ∷ [])
        (o.value ln (subst (λ q. Noted q.read) (uses.used_not b a) w), (tt, tt))))

    clean_choice : (a d g : Expr) → ECl a → ECl d → ECl g → ECl (e.Choice a d g)
    clean_choice a d g o q r = plain (e.Choice a d g) (λ ln. ap (λ q. q.place) (rows.coded_choice n ln a d g)) (λ ln w.
        let u : Noted (read b a ++ read b d ++ read b g) = subst (λ q. Noted q.read) (uses.used_choice b a d g) w in
        let v = front (read b a ++ read b d) (read b g) u in
        subst (λ q. IsClean q.value) (sym (rows.coded_choice n ln a d g))
        (template_clean ln 0 2 (Alone (value n ln d) ∷ To 0 JumpFalse N ∷ Alone (value n ln a) ∷ To 0 Jump E ∷ Here
        N ∷ Alone (value n ln g) ∷ Here E ∷ []) (
          q.value ln (back (read b a) (read b d) v),
          (
            (λ q. tt),
            (
              o.value ln (front (read b a) (read b d) v),
              ((λ q. tt), (tt, (r.value ln (back (read b a ++ read b d) (read b g) u), (tt, tt)))),
            ),
          ),
        )))

    clean_attribute : (x : List ℕ) → TCl (t.Attribute x)
    clean_attribute x = record { parts = λ ln w. subst TrailedClean (sym (rows.coded_attribute n ln x)) tt }

    clean_index : (a : Expr) → ECl a → TCl (t.Index a)
    clean_index a o = record {
      parts = λ ln w.
          subst TrailedClean (sym (rows.coded_index n ln a)) (o.value ln (subst Noted (uses.used_index b a) w));
    }

    clean_slice : (a d : Option Expr) → IfThere ECl a → IfThere ECl d → TCl (t.Slice a d)
    clean_slice a d o q = record {
      parts = λ ln w. let u : Noted (read_some b a ++ read_some b d) =
          subst Noted (uses.used_slice b a d) w in
          subst TrailedClean (sym (rows.coded_slice n ln a d)) (
            some_clean ln a o (front (read_some b a) (read_some b d) u),
            some_clean ln d q (back (read_some b a) (read_some b d) u),
          );
    }

    clean_call : (xs : List Expr) (ks : List Named) → Every ECl xs → Every (OfNamed ECl TCl) ks → TCl (t.Call xs ks)
    clean_call xs ks os qs = record {
      parts = λ ln w.
          let u : Noted (read_all b xs ++ read_named b ks ++ Keys b.number (key_names ks) ∷ []) =
          subst Noted (uses.used_call b xs ks) w in
          let v = front (read_all b xs ++ read_named b ks) (Keys b.number (key_names ks) ∷ []) u in
          subst TrailedClean (sym (rows.coded_call n ln xs ks)) (
            values_clean ln xs os (front (read_all b xs) (read_named b ks) v),
            named_clean ln ks qs (back (read_all b xs) (read_named b ks) v),
          );
    }

    pub expr_clean : (x : Expr) → ECl x
    expr_clean = expr_induct ECl TCl (record {
      name = clean_name;
      int = clean_int;
      str = clean_str;
      group =
          clean_group;
      tuple = clean_tuple;
      list = clean_list;
      dict = clean_dict;
      trail = clean_trail;
      power =
          clean_power;
      unary = clean_unary;
      chain = clean_chain;
      not = clean_not;
      choice = clean_choice;
      attribute =
          clean_attribute;
      index = clean_index;
      slice = clean_slice;
      call = clean_call;
    })

    pub exprs_clean : (xs : List Expr) → Every ECl xs
    exprs_clean [] = tt
    exprs_clean (x ∷ xs) = (expr_clean x, exprs_clean xs)

    pub if_clean : (x : Option Expr) → IfThere ECl x
    if_clean None = tt
    if_clean (Some x) = expr_clean x
