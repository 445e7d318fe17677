-- The code of each expression whose uses have numbers pushes a value; as a target it takes one.
use Rattle.std.proofs.Common.{◌≡◌, ◌∙◌, ◌&&◌, ℕ, ℤ, ◌<◌, List, [], ◌∷◌, ◌++◌, Option, Some, None, Bool, true, false, refl, sym, ap, subst, arith, length, map, get_or}
use Rattle.std.specs.Prelude.{if◌then◌else◌, nat_lt}
use Rattle.std.specs.Prelude.{All}
use Rattle.std.proofs.lemmas.Bool.{and_parts, ltb-true}
use Rattle.std.proofs.lemmas.List.{length-map}
use Rattle.std.proofs.lemmas.List.Elements.{All-nil, All-cons}
use Rattle.py_code.specs.declared.instr.Constant.TheVariants.{None as NoValue, Root, Int as IntValue}
use Rattle.py_code.specs.declared.instr.Instr.{Instr}
use Rattle.py_code.specs.declared.instr.Instr.TheVariants.{Const, Unary, Not, Binary, Compare, KeepFalse, KeepTrue, BuildTuple, BuildList, BuildDict}
use Rattle.py_base.specs.declared.operator.binary.TheConstants.{POWER}
use Rattle.py_code.specs.Effects.{IsKeys, Limits, IsText}
use Rattle.py_tree.specs.declared.expr.Expr.{Expr}
use Rattle.py_tree.specs.declared.expr.Trailer.{Trailer}
use Rattle.py_tree.specs.declared.expr.Link.{Link}
use Rattle.py_tree.specs.declared.expr.Named.{Named}
use Rattle.py_tree.specs.declared.expr.Pair.{Pair}
use Rattle.py_tree.specs.declared.expr.Level.{Level}
use Rattle.py_tree.specs.declared.expr.Level.TheVariants as level
use Rattle.py_tree.specs.declared.expr.Sign.{Sign}
use Rattle.py_tree.specs.declared.expr.Expr.TheVariants as e
use Rattle.py_tree.specs.declared.expr.Trailer.TheVariants as t
use Rattle.py_tree.specs.declared.form.Form.TheVariants.{Cut as CutForm, Plain}
use Rattle.py_tree.specs.Form.{form, form_trailer, is_target, is_single, all_targets, many, last_form}
use Rattle.py_tree.proofs.Forms as forms
use Rattle.py_templates.specs.declared.home.Home.{Home}
use Rattle.py_templates.specs.Template.{Piece, row}
use Rattle.py_templates.specs.Table.{Around, constant, name, built, to_all, load, store, del}
use Rattle.py_templates.specs.Names.{Known, text, home, key_list}
use Rattle.py_names.specs.Outline.{is_none}
use Rattle.py_templates.specs.Expressions.{operator, sign_number, Place, AtName, AtAttr, AtItem, Spread, Trailed, Attr, Index, Cut, Called, store_at, del_at, add_at, front_of, last_link, key_names, firsts, last_operand, logical, betweens, comparison, links, operated, chain, behind, trailed, last_place, place_by, place_of_trail, coded, coded_trailer, value, values, all_stored, all_deleted, linked, pairs, key_values, trailers, value_some}
use Rattle.py_templates.specs.Uses.{Use, Text, Keys, Inside, name_read, name_bound, used_trailer, read, target, read_all, target_all, read_some}
use Rattle.compiler_laws.proofs.Sane.{fits_level, sane, sane_trailer, all_sane, sane_some, sane_links, sane_named, sane_pairs, sane_trailers}
use Rattle.compiler_laws.proofs.Ops.{keep_false, keep_true}
use Rattle.compiler_laws.proofs.Values.{Each, Value, Store, Change, one_is, one_value_is, two_values_is, link_is, operators_is, IsKeep, Kept, kept_is, all_kept_is, Between, between_is, chained_is, conditional_is, trail_is, attribute_is, index_is, slice_is, built_is, call_is, method_call_is, to_attr_is, to_item_is, to_all_is, one_takes, Pair as IsPair, pair_is, dictionary_is}
use Rattle.compiler_laws.proofs.Surrounds.{Does, block_does}
use Rattle.compiler_laws.proofs.Blocks.{one_does, del_attr_does, del_item_does, add_name_does, add_attr_does, add_item_does}
use Rattle.py_templates.proofs.Coded as rows
use Rattle.py_templates.specs.inner.Reads.{read_links, read_pairs, read_named, read_trailers}
use Rattle.py_templates.proofs.Used as uses
use Rattle.compiler_laws.proofs.SaneRows as sanes
use Rattle.py_templates.proofs.ExprInduct.{Every, IfThere, Arms, OfLink, OfNamed, OfPair, expr_induct, every_front, every_back}
use Rattle.py_templates.proofs.Homes.{IsHomed, KeysFit, Covered, Fits, home_bound, read_bound}
use Rattle.py_templates.proofs.Lengths.{values_length, pairs_length, named_length}
use Rattle.compiler_laws.proofs.SmallNumbers.{operator_small, sign_small}
use Rattle.compiler_laws.proofs.SingleTargets.{single_target}

module _ (k : Limits) (n : Known) (b : Inside) (fits : Fits k n b) where
  abbrev pub Cover : List Use → Type 0
  Cover us = Every (Covered k n b) us

  front : (a c : List Use) → Cover (a ++ c) → Cover a
  front a c h = every_front (Covered k n b) a c h

  back : (a c : List Use) → Cover (a ++ c) → Cover c
  back a c h = every_back (Covered k n b) a c h

  -- a place to store to, to delete, to add to
  pub record PlaceOk (ln : ℕ) (p : Place) : Type 0 where
    pub store : Store k (store_at ln p)
    pub delete : Does k [] (del_at ln p)

  pub record AddOk (ln : ℕ) (p : Place) : Type 0 where
    pub add : (c : List Around) (o : ℕ) (x : Piece) → o < 12 → Value k x → Does k c (add_at ln p o x)

  name_place : (ln : ℕ) (h : Home) → IsHomed k h → PlaceOk ln (AtName h)
  name_place ln h i = record {
    store = one_takes k ln (store h) i.store_flow i.store_pops i.store_pushes i.store_known;
    delete = one_does k ln [] (del h) i.del_flow i.del_pops i.del_pushes i.del_known;
  }

  name_add : (ln : ℕ) (h : Home) → IsHomed k h → AddOk ln (AtName h)
  name_add ln h i = record {
    add = λ c o x lt v.
        add_name_does k ln c h o x (
          i.load_flow,
          i.load_pops,
          i.load_pushes,
          i.load_known,
          i.store_flow,
          i.store_pops,
          i.store_pushes,
          i.store_known,
        ) lt v;
  }

  attr_place : (ln : ℕ) (o : Piece) (m : ℕ) → Value k o → IsText k m → PlaceOk ln (AtAttr o m)
  attr_place ln o m v i = record { store = to_attr_is k ln o m v i; delete = del_attr_does k ln [] o m v i }

  item_place : (ln : ℕ) (o i : Piece) → Value k o → Value k i → PlaceOk ln (AtItem o i)
  item_place ln o i v w = record { store = to_item_is k ln o i v w; delete = del_item_does k ln [] o i v w }

  -- a call's keyword list is a list of as many strings
  abbrev pub KeysOk : List (List ℕ) → Type 0
  KeysOk ks = IsKeys k (key_list n ks) × (length ks ≡ length (get_or k.keys (key_list n ks) []))

  -- what stands behind an atom
  abbrev pub TrailedOk : Trailed → Type 0
  TrailedOk (Attr m) = IsText k (text n m)
  TrailedOk (Index i) = Value k i
  TrailedOk (Cut i j) = Value k i × Value k j
  TrailedOk (Called args ks vs) = Each (Value k) args × Each (Value k) vs × KeysOk ks × (length vs ≡ length ks)

  behind_ok : (ln : ℕ) (ts : List Trailed) → Every TrailedOk ts → Each (Change k) (behind n ln ts)
  behind_ok ln [] h = tt
  behind_ok ln (Attr m ∷ []) h = (attribute_is k ln (text n m) h.0, tt)
  behind_ok ln (Attr m ∷ Attr p ∷ ts) h = (attribute_is k ln (text n m) h.0, behind_ok ln (Attr p ∷ ts) h.1)
  behind_ok ln (Attr m ∷ Index i ∷ ts) h = (attribute_is k ln (text n m) h.0, behind_ok ln (Index i ∷ ts) h.1)
  behind_ok ln (Attr m ∷ Cut i j ∷ ts) h = (attribute_is k ln (text n m) h.0, behind_ok ln (Cut i j ∷ ts) h.1)
  behind_ok ln (Attr m ∷ Called args ks vs ∷ ts) h = let c = h.1.0 in
      (method_call_is k ln (text n m) args (key_list n ks) vs h.0 c.0 c.1 c.2.0 (c.3 ∙ c.2.1), behind_ok ln ts h.1.1)
  behind_ok ln (Index i ∷ ts) h = (index_is k ln i h.0, behind_ok ln ts h.1)
  behind_ok ln (Cut i j ∷ ts) h = (slice_is k ln i j h.0.0 h.0.1, behind_ok ln ts h.1)
  behind_ok ln (Called args ks vs ∷ ts) h = let c = h.0 in
      (call_is k ln args (key_list n ks) vs c.0 c.1 c.2.0 (c.3 ∙ c.2.1), behind_ok ln ts h.1)

  trailed_ok : (ln : ℕ) (o : Piece) (ts : List Trailed) → Value k o → Every TrailedOk ts → Value k (trailed n ln o ts)
  trailed_ok ln o ts v h = trail_is k ln o (behind n ln ts) v (behind_ok ln ts h)

  front_ok : (ts : List Trailed) → Every TrailedOk ts → Every TrailedOk (front_of ts)
  front_ok [] h = tt
  front_ok (x ∷ []) h = tt
  front_ok (x ∷ y ∷ ts) h = (h.0, front_ok (y ∷ ts) h.1)

  -- what holds of an expression and of a trailer
  pub record Ok (x : Expr) : Type 0 where
    pub value : (ln : ℕ) → sane x ≡ true → Cover (read b x) → Value k (value n ln x)
    pub place : (ln : ℕ) → is_target false (form x) ≡ true → sane x ≡ true → Cover (target b x) →
        PlaceOk ln (coded n ln x).place
    pub add : (ln : ℕ) → is_single false (form x) ≡ true → sane x ≡ true → Cover (target b x) →
        AddOk ln (coded n ln x).place

  pub record TrailerOk (x : Trailer) : Type 0 where
    pub parts : (ln : ℕ) → sane_trailer x ≡ true → Cover (used_trailer b x) → TrailedOk (coded_trailer n ln x)
    pub last : (ln : ℕ) (o : Piece) → is_target false (form_trailer x) ≡ true → sane_trailer x ≡ true →
        Cover (used_trailer b x) → Value k o → PlaceOk ln (last_place n ln o (coded_trailer n ln x)) × AddOk ln
        (last_place n ln o (coded_trailer n ln x))

  -- no target
  plain : (x : Expr) → form x ≡ Plain → ((ln : ℕ) → sane x ≡ true → Cover (read b x) → Value k (value n ln x)) → Ok x
  plain x f v = record {
    value = v;
    place = λ ln h s c. let z : is_target false Plain ≡ true = ap (is_target false) (sym f) ∙ h in absurd (cc);
    add = λ ln h s c. let z : is_single false Plain ≡ true = ap (is_single false) (sym f) ∙ h in absurd (cc);
  }

  -- lists of parts
  pub values_ok : (ln : ℕ) (xs : List Expr) → Every Ok xs → all_sane xs ≡ true → Cover (read_all b xs) →
      Each (Value k) (values n ln xs)
  values_ok ln [] os s c = tt
  values_ok ln (x ∷ xs) os s c = let p = and_parts (sane x) (all_sane xs) s in (
    os.0.value ln p.0 (front (read b x) (read_all b xs) c),
    values_ok ln xs os.1 p.1 (back (read b x) (read_all b xs) c),
  )

  pub stores_ok : (ln : ℕ) (xs : List Expr) → Every Ok xs → all_targets false (map form xs) ≡ true → all_sane xs ≡ true
      → Cover (target_all b xs) → Each (Store k) (all_stored n ln xs)
  stores_ok ln [] os h s c = tt
  stores_ok ln (x ∷ xs) os h s c =
      let p = and_parts (sane x) (all_sane xs) s in
      let q = and_parts (is_target false (form x)) (all_targets false (map form xs)) h in (
        (os.0.place ln q.0 p.0 (front (target b x) (target_all b xs) c)).store,
        stores_ok ln xs os.1 q.1 p.1 (back (target b x) (target_all b xs) c),
      )

  pub deletes_ok : (ln : ℕ) (xs : List Expr) → Every Ok xs → all_targets false (map form xs) ≡ true →
      all_sane xs ≡ true → Cover (target_all b xs) → Each (Does k []) (all_deleted n ln xs)
  deletes_ok ln [] os h s c = tt
  deletes_ok ln (x ∷ xs) os h s c =
      let p = and_parts (sane x) (all_sane xs) s in
      let q = and_parts (is_target false (form x)) (all_targets false (map form xs)) h in (
        (os.0.place ln q.0 p.0 (front (target b x) (target_all b xs) c)).delete,
        deletes_ok ln xs os.1 q.1 p.1 (back (target b x) (target_all b xs) c),
      )

  spread_ok : (ln : ℕ) (xs : List Expr) → Every Ok xs → all_targets false (map form xs) ≡ true → all_sane xs ≡ true →
      Cover (target_all b xs) → PlaceOk ln (Spread (to_all ln (all_stored n ln xs)) (row (all_deleted n ln xs)))
  spread_ok ln xs os h s c = record {
    store = to_all_is k ln (all_stored n ln xs) (stores_ok ln xs os h s c);
    delete =
        block_does k [] (all_deleted n ln xs) (deletes_ok ln xs os h s c);
  }

  -- operators with their operands
  abbrev pub LinkOk : ℕ → ℕ × Piece → Type 0
  LinkOk most l = (l.0 < most) × Value k l.1

  links_ok : (ln : ℕ) (v : Level) (ls : List Link) → Every (OfLink Ok TrailerOk) ls → sane_links v ls ≡ true →
      Cover (read_links b ls) → Every (LinkOk 12) (linked n ln ls)
  links_ok ln v [] os s c = tt
  links_ok ln v (l ∷ ls) os s c =
      let p = and_parts (fits_level v (operator l.operator, sane l.operand)) (sane_links v ls) s in (
        (
          operator_small l.operator,
          os.0.value ln (operand_sane v (operator l.operator) (sane l.operand) p.0)
              (front (read b l.operand) (read_links b ls) c),
        ),
        links_ok ln v ls os.1 p.1 (back (read b l.operand) (read_links b ls) c),
      )
    where
      operand_sane : (v : Level) (o : ℕ) (s : Bool) → fits_level v (o, s) ≡ true → s ≡ true
      operand_sane level.Or o s h = h
      operand_sane level.And o s h = h
      operand_sane level.Compare o s h = (and_parts (nat_lt o 10) s h).1
      operand_sane level.BitOr o s h = h
      operand_sane level.BitXor o s h = h
      operand_sane level.BitAnd o s h = h
      operand_sane level.Shift o s h = h
      operand_sane level.Sum o s h = h
      operand_sane level.Term o s h = h

  compares_ok : (ln : ℕ) (ls : List Link) → Every (OfLink Ok TrailerOk) ls → sane_links level.Compare ls ≡ true →
      Cover (read_links b ls) → Every (LinkOk 10) (linked n ln ls)
  compares_ok ln [] os s c = tt
  compares_ok ln (l ∷ ls) os s c =
      let p = and_parts (nat_lt (operator l.operator) 10 && sane l.operand) (sane_links level.Compare ls) s in
      let q = and_parts (nat_lt (operator l.operator) 10) (sane l.operand) p.0 in (
        (ltb-true (operator l.operator) 10 q.0, os.0.value ln q.1 (front (read b l.operand) (read_links b ls) c)),
        compares_ok ln ls os.1 p.1 (back (read b l.operand) (read_links b ls) c),
      )

  firsts_ok : (ln : ℕ) (j : ℕ → Instr) (a : Piece) (xs : List (ℕ × Piece)) → IsKeep k ln j → Value k a →
      Every (LinkOk 12) xs → Each (Kept k ln) (firsts ln j a xs)
  firsts_ok ln j a [] i v h = tt
  firsts_ok ln j a (x ∷ xs) i v h = (kept_is k ln j a i v, firsts_ok ln j x.1 xs i h.0.1 h.1)

  last_ok : (ln : ℕ) (a : Piece) (xs : List (ℕ × Piece)) → Value k a → Every (LinkOk 12) xs →
      Value k (last_operand ln a xs)
  last_ok ln a [] v h = v
  last_ok ln a (x ∷ xs) v h = last_ok ln x.1 xs h.0.1 h.1

  logical_ok : (ln : ℕ) (j : ℕ → Instr) (a : Piece) (xs : List (ℕ × Piece)) → IsKeep k ln j → Value k a →
      Every (LinkOk 12) xs → Value k (logical ln j a xs)
  logical_ok ln j a xs i v h = all_kept_is k ln (firsts ln j a xs) (last_operand ln a xs) (firsts_ok ln j a xs i v h)
      (last_ok ln a xs v h)

  betweens_ok : (ln : ℕ) (x : ℕ × Piece) (xs : List (ℕ × Piece)) → LinkOk 10 x → Every (LinkOk 10) xs →
      Each (Between k ln) (betweens ln x xs)
  betweens_ok ln x [] l h = tt
  betweens_ok ln x (y ∷ ys) l h = (between_is k ln x.0 x.1 l.0 l.1, betweens_ok ln y ys h.0 h.1)

  last_link_ok : (x : ℕ × Piece) (xs : List (ℕ × Piece)) → LinkOk 10 x → Every (LinkOk 10) xs →
      LinkOk 10 (last_link x xs)
  last_link_ok x [] l h = l
  last_link_ok x (y ∷ ys) l h = last_link_ok y ys h.0 h.1

  comparison_ok : (ln : ℕ) (a : Piece) (xs : List (ℕ × Piece)) → Value k a → Every (LinkOk 10) xs →
      Value k (comparison ln a xs)
  comparison_ok ln a [] v h = v
  comparison_ok ln a (x ∷ []) v h = two_values_is k ln (Compare x.0) a x.1 (refl, refl, refl, h.0.0) v h.0.1
  comparison_ok ln a (x ∷ y ∷ ys) v h =
      let l = last_link_ok x (y ∷ ys) h.0 h.1 in
      chained_is k ln a (betweens ln x (y ∷ ys)) (last_link x (y ∷ ys)).1 (last_link x (y ∷ ys)).0 l.0 v
      (betweens_ok ln x (y ∷ ys) h.0 h.1) l.1

  binaries_ok : (ln : ℕ) (xs : List (ℕ × Piece)) → Every (LinkOk 12) xs → Each (Change k) (links ln xs)
  binaries_ok ln [] h = tt
  binaries_ok ln (x ∷ xs) h = (link_is k ln (Binary x.0) x.1 (refl, refl, refl, h.0.0) h.0.1, binaries_ok ln xs h.1)

  operated_ok : (ln : ℕ) (a : Piece) (xs : List (ℕ × Piece)) → Value k a → Every (LinkOk 12) xs →
      Value k (operated ln a xs)
  operated_ok ln a xs v h = operators_is k ln a (links ln xs) v (binaries_ok ln xs h)

  chain_ok : (ln : ℕ) (v : Level) (a : Piece) (ls : List Link) → Value k a → Every (OfLink Ok TrailerOk) ls →
      sane_links v ls ≡ true → Cover (read_links b ls) → Value k (chain ln v a (linked n ln ls))
  chain_ok ln level.Or a ls va os s c = logical_ok ln KeepTrue a (linked n ln ls) (keep_true k) va
      (links_ok ln level.Or ls os s c)
  chain_ok ln level.And a ls va os s c = logical_ok ln KeepFalse a (linked n ln ls) (keep_false k) va
      (links_ok ln level.And ls os s c)
  chain_ok ln level.Compare a ls va os s c = comparison_ok ln a (linked n ln ls) va (compares_ok ln ls os s c)
  chain_ok ln level.BitOr a ls va os s c = operated_ok ln a (linked n ln ls) va (links_ok ln level.BitOr ls os s c)
  chain_ok ln level.BitXor a ls va os s c = operated_ok ln a (linked n ln ls) va (links_ok ln level.BitXor ls os s c)
  chain_ok ln level.BitAnd a ls va os s c = operated_ok ln a (linked n ln ls) va (links_ok ln level.BitAnd ls os s c)
  chain_ok ln level.Shift a ls va os s c = operated_ok ln a (linked n ln ls) va (links_ok ln level.Shift ls os s c)
  chain_ok ln level.Sum a ls va os s c = operated_ok ln a (linked n ln ls) va (links_ok ln level.Sum ls os s c)
  chain_ok ln level.Term a ls va os s c = operated_ok ln a (linked n ln ls) va (links_ok ln level.Term ls os s c)

  -- dictionaries
  pairs_ok : (ln : ℕ) (ps : List Pair) → Every (OfPair Ok TrailerOk) ps → sane_pairs ps ≡ true →
      Cover (read_pairs b ps) → Each (IsPair k ln) (pairs n ln ps)
  pairs_ok ln [] os s c = tt
  pairs_ok ln (p ∷ ps) os s c =
      let q = and_parts (sane p.key && sane p.value) (sane_pairs ps) s in
      let r = and_parts (sane p.key) (sane p.value) q.0 in
      let d = front (read b p.key ++ read b p.value) (read_pairs b ps) c in (
        pair_is k ln (value n ln p.key) (value n ln p.value)
            (os.0.0.value ln r.0 (front (read b p.key) (read b p.value) d))
            (os.0.1.value ln r.1 (back (read b p.key) (read b p.value) d)),
        pairs_ok ln ps os.1 q.1 (back (read b p.key ++ read b p.value) (read_pairs b ps) c),
      )

  -- trailers
  trailers_ok : (ln : ℕ) (ts : List Trailer) → Every TrailerOk ts → sane_trailers ts ≡ true →
      Cover (read_trailers b ts) → Every TrailedOk (trailers n ln ts)
  trailers_ok ln [] os s c = tt
  trailers_ok ln (x ∷ xs) os s c = let p = and_parts (sane_trailer x) (sane_trailers xs) s in (
    os.0.parts ln p.0 (front (used_trailer b x) (read_trailers b xs) c),
    trailers_ok ln xs os.1 p.1 (back (used_trailer b x) (read_trailers b xs) c),
  )

  last_place_ok : (ln : ℕ) (o : Piece) (ts : List Trailer) → Value k o →
      is_target false (last_form (map form_trailer ts)) ≡ true → Every TrailerOk ts → sane_trailers ts ≡ true →
      Cover (read_trailers b ts) → PlaceOk ln (place_by n ln o (trailers n ln ts)) × AddOk ln
      (place_by n ln o (trailers n ln ts))
  last_place_ok ln o [] v h os s c = absurd (cc)
  last_place_ok ln o (x ∷ []) v h os s c = let p = and_parts (sane_trailer x) (sane_trailers []) s in
      os.0.last ln o h p.0 (front (used_trailer b x) (read_trailers b []) c) v
  last_place_ok ln o (x ∷ y ∷ ts) v h os s c = let p = and_parts (sane_trailer x) (sane_trailers (y ∷ ts)) s in
      last_place_ok ln o (y ∷ ts) v h os.1 p.1 (back (used_trailer b x) (read_trailers b (y ∷ ts)) c)

  named_ok : (ln : ℕ) (ks : List Named) → Every (OfNamed Ok TrailerOk) ks → sane_named ks ≡ true →
      Cover (read_named b ks) → Each (Value k) (key_values n ln ks)
  named_ok ln [] os s c = tt
  named_ok ln (x ∷ xs) os s c =
      let p = and_parts (sane x.value) (sane_named xs) s in
      let d = front (Text x.name ∷ read b x.value) (read_named b xs) c in (
        os.0.value ln p.0 (back (Text x.name ∷ []) (read b x.value) d),
        named_ok ln xs os.1 p.1 (back (Text x.name ∷ read b x.value) (read_named b xs) c),
      )

  keys_texts : (ks : List Named) → Cover (read_named b ks) → All (IsText k) (map (text n) (key_names ks))
  keys_texts [] c = All-nil (IsText k)
  keys_texts (x ∷ xs) c = All-cons (IsText k) (text n x.name) (map (text n) (key_names xs))
      (front (Text x.name ∷ read b x.value) (read_named b xs) c).0
      (keys_texts xs (back (Text x.name ∷ read b x.value) (read_named b xs) c))

  keys_ok : (ks : List Named) → Cover (read_named b ks) → Cover (Keys b.number (key_names ks) ∷ []) →
      KeysOk (key_names ks)
  keys_ok ks c d =
      let f : KeysFit k n b (key_names ks) = d.0 refl in (
        (f.0, subst (All (IsText k)) (sym f.1) (keys_texts ks c)),
        sym (ap length f.1 ∙ length-map (key_names ks) (text n)),
      )

  pub some_ok : (ln : ℕ) (x : Option Expr) → IfThere Ok x → sane_some x ≡ true → Cover (read_some b x) →
      Value k (value_some n ln x)
  some_ok ln None o s c = one_is k ln (Const NoValue) (refl, refl, refl, tt)
  some_ok ln (Some x) o s c = o.value ln s c

  -- one arm for each kind of node
  name_ok : (x : List ℕ) → Ok (e.Name x)
  name_ok x = record {
    value = λ ln s c.
        let u : Cover (name_read b x) = subst (λ z. Cover z.read) (uses.used_name b x) c in
        subst (λ z. Value k z.value) (sym (rows.coded_name n ln x)) (by_none ln (is_none x) refl u);
    place = λ ln h s c.
        let u : Cover (name_bound b x) = subst (λ z. Cover z.target) (uses.used_name b x) c in
        subst (λ z. PlaceOk ln z.place) (sym (rows.coded_name n ln x))
        (name_place ln (home n x) (home_bound k n b fits x u));
    add = λ ln h s c.
        let u : Cover (name_bound b x) = subst (λ z. Cover z.target) (uses.used_name b x) c in
        subst (λ z. AddOk ln z.place) (sym (rows.coded_name n ln x))
        (name_add ln (home n x) (home_bound k n b fits x u));
  }
    where
      by_none : (ln : ℕ) (z : Bool) → is_none x ≡ z → Cover (name_read b x) →
          Value k (if z then constant ln NoValue else name ln (home n x))
      by_none ln true q u = one_is k ln (Const NoValue) (refl, refl, refl, tt)
      by_none ln false q u = let h = home_bound k n b fits x (read_bound k n b x q u) in
          one_is k ln (load (home n x)) (h.load_flow, h.load_pops, h.load_pushes, h.load_known)

  int_ok : (i : ℤ) → Ok (e.Int i)
  int_ok i = plain (e.Int i) (forms.form_int i)
      (λ ln s c. subst (λ z. Value k z.value) (sym (rows.coded_int n ln i))
      (one_is k ln (Const (IntValue i)) (refl, refl, refl, tt)))

  str_ok : (x : List ℕ) → Ok (e.Str x)
  str_ok x = plain (e.Str x) (forms.form_str x) (λ ln s c.
      let u : Cover (Text x ∷ []) = subst (λ z. Cover z.read) (uses.used_str b x) c in
      let m = fits.strings in
      let lo = u.0.0 in
      subst (λ z. Value k z.value) (sym (rows.coded_str n ln x))
      (one_is k ln (Const (Root (text n x))) (refl, refl, refl, (omega (arith, m, lo), u.0.1))))

  group_ok : (a : Expr) → Ok a → Ok (e.Group a)
  group_ok a o = record {
    value = λ ln s c. subst (λ z. Value k z.value) (sym (rows.coded_group n ln a))
        (o.value ln (sym (sanes.sane_group a) ∙ s) (subst (λ z. Cover z.read) (uses.used_group b a) c));
    place = λ ln h s c.
        let q = and_parts (is_target false (form a)) true (ap (is_target false) (sym (forms.form_group a)) ∙ h) in
        subst (λ z. PlaceOk ln z.place) (sym (rows.coded_group n ln a))
        (o.place ln q.0 (sym (sanes.sane_group a) ∙ s) (subst (λ z. Cover z.target) (uses.used_group b a) c));
    add = λ ln h s c. let z : is_single false (many (form a ∷ [])) ≡ true =
        ap (is_single false) (sym (forms.form_group a)) ∙ h in absurd (cc);
  }

  tuple_ok : (xs : List Expr) → Every Ok xs → Ok (e.Tuple xs)
  tuple_ok xs os = record {
    value = λ ln s c.
        let u : Cover (read_all b xs) = subst (λ z. Cover z.read) (uses.used_tuple b xs) c in
        let v = built_is k ln (BuildTuple (length xs)) (values n ln xs) (refl, sym (values_length n ln xs), refl, tt)
        (values_ok ln xs os (sym (sanes.sane_tuple xs) ∙ s) u) in
        subst (λ z. Value k z.value) (sym (rows.coded_tuple n ln xs)) v;
    place = λ ln h s c.
        let u : Cover (target_all b xs) = subst (λ z. Cover z.target) (uses.used_tuple b xs) c in
        subst (λ z. PlaceOk ln z.place) (sym (rows.coded_tuple n ln xs))
        (spread_ok ln xs os (targets xs h) (sym (sanes.sane_tuple xs) ∙ s) u);
    add = λ ln h s c. single xs h;
  }
    where
      targets : (xs : List Expr) → is_target false (form (e.Tuple xs)) ≡ true → all_targets false (map form xs) ≡ true
      targets [] h = refl
      targets (x ∷ xs) h = ap (is_target false) (sym (forms.form_tuple x xs)) ∙ h

      single : {A : Type 0} (xs : List Expr) → is_single false (form (e.Tuple xs)) ≡ true → A
      single [] h = let z : is_single false Plain ≡ true = ap (is_single false) (sym forms.form_unit) ∙ h in absurd (cc)
      single (x ∷ xs) h = let z : is_single false (many (map form (x ∷ xs))) ≡ true =
          ap (is_single false) (sym (forms.form_tuple x xs)) ∙ h in absurd (cc)

  list_ok : (xs : List Expr) → Every Ok xs → Ok (e.List xs)
  list_ok xs os = record {
    value = λ ln s c.
        let u : Cover (read_all b xs) = subst (λ z. Cover z.read) (uses.used_list b xs) c in
        let v = built_is k ln (BuildList (length xs)) (values n ln xs) (refl, sym (values_length n ln xs), refl, tt)
        (values_ok ln xs os (sym (sanes.sane_list xs) ∙ s) u) in
        subst (λ z. Value k z.value) (sym (rows.coded_list n ln xs)) v;
    place = λ ln h s c.
        let u : Cover (target_all b xs) = subst (λ z. Cover z.target) (uses.used_list b xs) c in
        subst (λ z. PlaceOk ln z.place) (sym (rows.coded_list n ln xs))
        (spread_ok ln xs os (ap (is_target false) (sym (forms.form_list xs)) ∙ h) (sym (sanes.sane_list xs) ∙ s) u);
    add = λ ln h s c. let z : is_single false (many (map form xs)) ≡ true =
        ap (is_single false) (sym (forms.form_list xs)) ∙ h in absurd (cc);
  }

  dict_ok : (ps : List Pair) → Every (OfPair Ok TrailerOk) ps → Ok (e.Dict ps)
  dict_ok ps os = plain (e.Dict ps) (forms.form_dict ps) (λ ln s c.
      let u : Cover (read_pairs b ps) = subst (λ z. Cover z.read) (uses.used_dict b ps) c in
      let v : Value k (built ln (BuildDict (length (pairs n ln ps))) (pairs n ln ps)) =
      dictionary_is k ln (pairs n ln ps) (pairs_ok ln ps os (sym (sanes.sane_dict ps) ∙ s) u) in
      let w : Value k (built ln (BuildDict (length ps)) (pairs n ln ps)) =
      subst (λ z. Value k (built ln (BuildDict z) (pairs n ln ps))) (pairs_length n ln ps) v in
      subst (λ z. Value k z.value) (sym (rows.coded_dict n ln ps)) w)

  trail_ok : (a : Expr) (ts : List Trailer) → Ok a → Every TrailerOk ts → Ok (e.Trail a ts)
  trail_ok a ts o os = record {
    value = worth;
    place = λ ln h s c.
        subst (λ z. PlaceOk ln z.place) (sym (rows.coded_trail n ln a ts)) (both ln h s c).0;
    add = λ ln h s c.
        subst (λ z. AddOk ln z.place) (sym (rows.coded_trail n ln a ts))
        (both ln (single_target (form (e.Trail a ts)) h) s c).1;
  }
    where
      worth : (ln : ℕ) → sane (e.Trail a ts) ≡ true → Cover (read b (e.Trail a ts)) →
          Value k (value n ln (e.Trail a ts))
      worth ln s c =
          let u : Cover (read b a ++ read_trailers b ts) = subst (λ z. Cover z.read) (uses.used_trail b a ts) c in
          let p = and_parts (sane a) (sane_trailers ts) (sym (sanes.sane_trail a ts) ∙ s) in
          subst (λ z. Value k z.value) (sym (rows.coded_trail n ln a ts))
          (trailed_ok ln (value n ln a) (trailers n ln ts)
          (o.value ln p.0 (front (read b a) (read_trailers b ts) u))
          (trailers_ok ln ts os p.1 (back (read b a) (read_trailers b ts) u)))

      both : (ln : ℕ) → is_target false (form (e.Trail a ts)) ≡ true → sane (e.Trail a ts) ≡ true →
          Cover (target b (e.Trail a ts)) → PlaceOk ln (place_of_trail n ln (value n ln a) (trailers n ln ts)) × AddOk
          ln (place_of_trail n ln (value n ln a) (trailers n ln ts))
      both ln h s c =
          let u : Cover (read b a ++ read_trailers b ts) = subst (λ z. Cover z.target) (uses.used_trail b a ts) c in
          let p = and_parts (sane a) (sane_trailers ts) (sym (sanes.sane_trail a ts) ∙ s) in
          let w = back (read b a) (read_trailers b ts) u in
          let r = trailers_ok ln ts os p.1 w in
          let v = trailed_ok ln (value n ln a) (front_of (trailers n ln ts))
          (o.value ln p.0 (front (read b a) (read_trailers b ts) u)) (front_ok (trailers n ln ts) r) in
          last_place_ok ln (trailed n ln (value n ln a) (front_of (trailers n ln ts))) ts v
          (ap (is_target false) (sym (forms.form_trail a ts)) ∙ h) os p.1 w

  power_ok : (a d : Expr) → Ok a → Ok d → Ok (e.Power a d)
  power_ok a d o q = plain (e.Power a d) (forms.form_power a d) (λ ln s c.
      let u : Cover (read b a ++ read b d) = subst (λ z. Cover z.read) (uses.used_power b a d) c in
      let p = and_parts (sane a) (sane d) (sym (sanes.sane_power a d) ∙ s) in
      subst (λ z. Value k z.value) (sym (rows.coded_power n ln a d))
      (two_values_is k ln (Binary POWER) (value n ln a) (value n ln d) (refl, refl, refl, omega arith)
      (o.value ln p.0 (front (read b a) (read b d) u)) (q.value ln p.1 (back (read b a) (read b d) u))))

  unary_ok : (g : Sign) (a : Expr) → Ok a → Ok (e.Unary g a)
  unary_ok g a o = plain (e.Unary g a) (forms.form_unary g a) (λ ln s c.
      let u : Cover (read b a) = subst (λ z. Cover z.read) (uses.used_unary b g a) c in
      subst (λ z. Value k z.value) (sym (rows.coded_unary n ln g a))
      (one_value_is k ln (Unary (sign_number g)) (value n ln a) (refl, refl, refl, sign_small g)
      (o.value ln (sym (sanes.sane_unary g a) ∙ s) u)))

  chains_ok : (l : Level) (a : Expr) (ls : List Link) → Ok a → Every (OfLink Ok TrailerOk) ls → Ok (e.Chain l a ls)
  chains_ok l a ls o os = plain (e.Chain l a ls) (forms.form_chain l a ls) (λ ln s c.
      let u : Cover (read b a ++ read_links b ls) = subst (λ z. Cover z.read) (uses.used_chain b l a ls) c in
      let p = and_parts (sane a) (sane_links l ls) (sym (sanes.sane_chain l a ls) ∙ s) in
      subst (λ z. Value k z.value) (sym (rows.coded_chain n ln l a ls))
      (chain_ok ln l (value n ln a) ls (o.value ln p.0 (front (read b a) (read_links b ls) u)) os p.1
      (back (read b a) (read_links b ls) u)))

  not_ok : (a : Expr) → Ok a → Ok (e.Not a)
  not_ok a o = plain (e.Not a) (forms.form_not a) (λ ln s c.
      let u : Cover (read b a) = subst (λ z. Cover z.read) (uses.used_not b a) c in
      subst (λ z. Value k z.value) (sym (rows.coded_not n ln a))
      (one_value_is k ln Not (value n ln a) (refl, refl, refl, tt) (o.value ln (sym (sanes.sane_not a) ∙ s) u)))

  choice_ok : (a d g : Expr) → Ok a → Ok d → Ok g → Ok (e.Choice a d g)
  choice_ok a d g o q r = plain (e.Choice a d g) (forms.form_choice a d g) (λ ln s c.
      let u : Cover (read b a ++ read b d ++ read b g) = subst (λ z. Cover z.read) (uses.used_choice b a d g) c in
      let p = and_parts (sane a) (sane d && sane g) (sym (sanes.sane_choice a d g) ∙ s) in
      let p2 = and_parts (sane d) (sane g) p.1 in
      let w = front (read b a ++ read b d) (read b g) u in
      subst (λ z. Value k z.value) (sym (rows.coded_choice n ln a d g))
      (conditional_is k ln (value n ln a) (value n ln d) (value n ln g)
      (o.value ln p.0 (front (read b a) (read b d) w)) (q.value ln p2.0 (back (read b a) (read b d) w))
      (r.value ln p2.1 (back (read b a ++ read b d) (read b g) u))))

  attribute_ok : (x : List ℕ) → TrailerOk (t.Attribute x)
  attribute_ok x = record {
    parts = λ ln s c. subst TrailedOk (sym (rows.coded_attribute n ln x)) (known c);
    last = λ ln o h s c v. subst (λ z. PlaceOk ln (last_place n ln o z) × AddOk ln (last_place n ln o z))
        (sym (rows.coded_attribute n ln x)) (
          attr_place ln o (text n x) v (known c),
          record { add = λ g q y lt w. add_attr_does k ln g o (text n x) q y (known c) lt v w },
        );
  }
    where
      known : Cover (used_trailer b (t.Attribute x)) → IsText k (text n x)
      known c = (subst Cover (uses.used_attribute b x) c).0

  index_ok : (a : Expr) → Ok a → TrailerOk (t.Index a)
  index_ok a o = record {
    parts = λ ln s c. subst TrailedOk (sym (rows.coded_index n ln a)) (inner ln s c);
    last = λ ln p h s c v. subst (λ z. PlaceOk ln (last_place n ln p z) × AddOk ln (last_place n ln p z))
        (sym (rows.coded_index n ln a)) (
          item_place ln p (value n ln a) v (inner ln s c),
          record { add = λ g q y lt w. add_item_does k ln g p (value n ln a) q y lt v (inner ln s c) w },
        );
  }
    where
      inner : (ln : ℕ) → sane_trailer (t.Index a) ≡ true → Cover (used_trailer b (t.Index a)) → Value k (value n ln a)
      inner ln s c = o.value ln (sym (sanes.sane_index a) ∙ s) (subst Cover (uses.used_index b a) c)

  slice_ok : (a d : Option Expr) → IfThere Ok a → IfThere Ok d → TrailerOk (t.Slice a d)
  slice_ok a d o q = record {
    parts = λ ln s c.
        let u : Cover (read_some b a ++ read_some b d) = subst Cover (uses.used_slice b a d) c in
        let p = and_parts (sane_some a) (sane_some d) (sym (sanes.sane_slice a d) ∙ s) in
        subst TrailedOk (sym (rows.coded_slice n ln a d)) (
          some_ok ln a o p.0 (front (read_some b a) (read_some b d) u),
          some_ok ln d q p.1 (back (read_some b a) (read_some b d) u),
        );
    last = λ ln o h s c v. let z : is_target false CutForm ≡ true = ap (is_target false) (sym (forms.form_slice a d)) ∙
        h in absurd (cc);
  }

  call_ok : (xs : List Expr) (ks : List Named) → Every Ok xs → Every (OfNamed Ok TrailerOk) ks →
      TrailerOk (t.Call xs ks)
  call_ok xs ks os qs = record {
    parts = λ ln s c.
        let u : Cover (read_all b xs ++ read_named b ks ++ Keys b.number (key_names ks) ∷ []) =
        subst Cover (uses.used_call b xs ks) c in
        let p = and_parts (all_sane xs) (sane_named ks) (sym (sanes.sane_call xs ks) ∙ s) in
        let w = front (read_all b xs ++ read_named b ks) (Keys b.number (key_names ks) ∷ []) u in
        subst TrailedOk (sym (rows.coded_call n ln xs ks)) (
          values_ok ln xs os p.0 (front (read_all b xs) (read_named b ks) w),
          named_ok ln ks qs p.1 (back (read_all b xs) (read_named b ks) w),
          keys_ok ks (back (read_all b xs) (read_named b ks) w)
              (back (read_all b xs ++ read_named b ks) (Keys b.number (key_names ks) ∷ []) u),
          named_length n ln ks,
        );
    last = λ ln o h s c v. let z : is_target false Plain ≡ true = ap (is_target false) (sym (forms.form_call xs ks)) ∙
        h in absurd (cc);
  }

  arms : Arms Ok TrailerOk
  arms = record {
    name = name_ok;
    int = int_ok;
    str = str_ok;
    group = group_ok;
    tuple = tuple_ok;
    list = list_ok;
    dict = dict_ok;
    trail = trail_ok;
    power = power_ok;
    unary = unary_ok;
    chain = chains_ok;
    not = not_ok;
    choice =
        choice_ok;
    attribute = attribute_ok;
    index = index_ok;
    slice = slice_ok;
    call = call_ok;
  }

  pub expr_ok : (x : Expr) → Ok x
  expr_ok = expr_induct Ok TrailerOk arms

  pub all_ok : (xs : List Expr) → Every Ok xs
  all_ok [] = tt
  all_ok (x ∷ xs) = (expr_ok x, all_ok xs)

  pub if_ok : (x : Option Expr) → IfThere Ok x
  if_ok None = tt
  if_ok (Some x) = expr_ok x
