-- The equations of the code of expressions.
use Rattle.std.proofs.Common.{◌≡◌, ℕ, ℤ, List, [], ◌∷◌, map, length, Option, Some, None, refl, sym, ap, ◌∙◌}
use Rattle.std.proofs.lemmas.List.{length-map}
use Rattle.py_code.specs.declared.instr.Constant.TheVariants.{Root, Int as IntValue}
use Rattle.py_code.specs.declared.instr.Instr.TheVariants.{Unary, Not, Binary, BuildTuple, BuildList, BuildDict}
use Rattle.py_base.specs.declared.operator.binary.TheConstants.{POWER}
use Rattle.py_tree.specs.declared.expr.Expr.{Expr}
use Rattle.py_tree.specs.declared.expr.Trailer.{Trailer}
use Rattle.py_tree.specs.declared.expr.Link.{Link}
use Rattle.py_tree.specs.declared.expr.Named.{Named}
use Rattle.py_tree.specs.declared.expr.Pair.{Pair}
use Rattle.py_tree.specs.declared.expr.Level.{Level}
use Rattle.py_tree.specs.declared.expr.Sign.{Sign}
use Rattle.py_tree.specs.declared.expr.Expr.TheVariants as e
use Rattle.py_tree.specs.declared.expr.Trailer.TheVariants as t
use Rattle.py_tree.specs.declared.expr.Expr.TheOpen as open'
use Rattle.py_tree.specs.declared.expr.Expr.TheFolds.{fold-roll-Expr, fold-roll-Trailer, fold-Link, fold-Named, fold-Pair, fold_out-Link, fold_out-Named, fold_out-Pair}
use Rattle.py_tree.proofs.Heights.{height_group, height_tuple, height_list, height_dict, height_trail, height_power, height_unary, height_chain, height_not, height_choice, height_index, height_slice, height_call}
use Rattle.py_templates.specs.Template.{Piece, row}
use Rattle.py_templates.specs.Table.{constant, one_value, two_values, conditional, built, pair, to_all}
use Rattle.py_templates.specs.Names.{Known, home, text}
use Rattle.py_templates.specs.Expressions.{operator, sign_number, AtName, Spread, NoPlace, Coded, coded_values, Trailed, Attr, Index, Cut, Called, store_at, del_at, spread, chain, key_names, name_value, trailed, place_of_trail, expr_step, trailer_step, link_step, named_step, pair_step, coded, coded_trailer, value, stored, deleted, values, all_stored, all_deleted, linked, pairs, key_values, trailers, value_some}

module _ (n : Known) (ln : ℕ) where
  link : Link → ℕ × Piece
  link = fold-Link Coded Trailed (ℕ × Piece) (List ℕ × Piece) Piece (expr_step n ln) (trailer_step n ln)
      (link_step n ln) (named_step n ln) (pair_step n ln)

  named : Named → List ℕ × Piece
  named = fold-Named Coded Trailed (ℕ × Piece) (List ℕ × Piece) Piece (expr_step n ln) (trailer_step n ln)
      (link_step n ln) (named_step n ln) (pair_step n ln)

  pair_code : Pair → Piece
  pair_code = fold-Pair Coded Trailed (ℕ × Piece) (List ℕ × Piece) Piece (expr_step n ln) (trailer_step n ln)
      (link_step n ln) (named_step n ln) (pair_step n ln)

  one_link : (l : Link) → link l ≡ (operator l.operator, value n ln l.operand)
  unfolding link coded
  one_link l = fold_out-Link Coded Trailed (ℕ × Piece) (List ℕ × Piece) Piece (expr_step n ln) (trailer_step n ln)
      (link_step n ln) (named_step n ln) (pair_step n ln) l

  one_named : (k : Named) → named k ≡ (k.name, value n ln k.value)
  unfolding named coded
  one_named k = fold_out-Named Coded Trailed (ℕ × Piece) (List ℕ × Piece) Piece (expr_step n ln) (trailer_step n ln)
      (link_step n ln) (named_step n ln) (pair_step n ln) k

  one_pair : (p : Pair) → pair_code p ≡ pair ln (value n ln p.key) (value n ln p.value)
  unfolding pair_code coded
  one_pair p = fold_out-Pair Coded Trailed (ℕ × Piece) (List ℕ × Piece) Piece (expr_step n ln) (trailer_step n ln)
      (link_step n ln) (named_step n ln) (pair_step n ln) p

  all_values : (xs : List Expr) → coded_values (map (coded n ln) xs) ≡ values n ln xs
  all_values [] = refl
  all_values (x ∷ xs) = ap (λ z. value n ln x ∷ z) (all_values xs)

  all_stores : (xs : List Expr) → map (λ c. store_at ln c.place) (map (coded n ln) xs) ≡ all_stored n ln xs
  all_stores [] = refl
  all_stores (x ∷ xs) = ap (λ z. stored n ln x ∷ z) (all_stores xs)

  all_deletes : (xs : List Expr) → map (λ c. del_at ln c.place) (map (coded n ln) xs) ≡ all_deleted n ln xs
  all_deletes [] = refl
  all_deletes (x ∷ xs) = ap (λ z. deleted n ln x ∷ z) (all_deletes xs)

  all_links : (ls : List Link) → map link ls ≡ linked n ln ls
  all_links [] = refl
  all_links (l ∷ ls) = ap (λ z. z ∷ map link ls) (one_link l) ∙
      ap (λ z. (operator l.operator, value n ln l.operand) ∷ z) (all_links ls)

  all_pairs : (ps : List Pair) → map pair_code ps ≡ pairs n ln ps
  all_pairs [] = refl
  all_pairs (p ∷ ps) = ap (λ z. z ∷ map pair_code ps) (one_pair p) ∙
      ap (λ z. pair ln (value n ln p.key) (value n ln p.value) ∷ z) (all_pairs ps)

  all_names : (ks : List Named) → map (λ k. k.0) (map named ks) ≡ key_names ks
  all_names [] = refl
  all_names (k ∷ ks) = ap (λ z. z.0 ∷ map (λ k. k.0) (map named ks)) (one_named k) ∙ ap (λ z. k.name ∷ z) (all_names ks)

  all_key_values : (ks : List Named) → map (λ k. k.1) (map named ks) ≡ key_values n ln ks
  all_key_values [] = refl
  all_key_values (k ∷ ks) = ap (λ z. z.1 ∷ map (λ k. k.1) (map named ks)) (one_named k) ∙
      ap (λ z. value n ln k.value ∷ z) (all_key_values ks)

  all_trailers : (ts : List Trailer) → map (coded_trailer n ln) ts ≡ trailers n ln ts
  all_trailers [] = refl
  all_trailers (t ∷ ts) = ap (λ z. coded_trailer n ln t ∷ z) (all_trailers ts)

  all_spread : (xs : List Expr) → spread ln (map (coded n ln) xs) ≡ Spread (to_all ln (all_stored n ln xs))
      (row (all_deleted n ln xs))
  all_spread xs = ap (λ z. Spread (to_all ln z) (row (map (λ c. del_at ln c.place) (map (coded n ln) xs))))
      (all_stores xs) ∙ ap (λ z. Spread (to_all ln (all_stored n ln xs)) (row z)) (all_deletes xs)

  pub coded_name : (x : List ℕ) → coded n ln (e.Name x) ≡ record {
    value = name_value n ln x;
    place =
        AtName (home n x);
  }
  unfolding coded coded_trailer link named pair_code
  coded_name x = ap (coded n ln) (sym (e.rolls-Name x)) ∙ fold-roll-Expr Coded Trailed (ℕ × Piece) (List ℕ × Piece)
      Piece (expr_step n ln) (trailer_step n ln) (link_step n ln) (named_step n ln) (pair_step n ln) (open'.Name x)

  pub coded_int : (i : ℤ) → coded n ln (e.Int i) ≡ record { value = constant ln (IntValue i); place = NoPlace }
  unfolding coded coded_trailer link named pair_code
  coded_int i = ap (coded n ln) (sym (e.rolls-Int i)) ∙ fold-roll-Expr Coded Trailed (ℕ × Piece) (List ℕ × Piece) Piece
      (expr_step n ln) (trailer_step n ln) (link_step n ln) (named_step n ln) (pair_step n ln) (open'.Int i)

  pub coded_str : (s : List ℕ) → coded n ln (e.Str s) ≡ record {
    value = constant ln (Root (text n s));
    place =
        NoPlace;
  }
  unfolding coded coded_trailer link named pair_code
  coded_str s = ap (coded n ln) (sym (e.rolls-Str s)) ∙ fold-roll-Expr Coded Trailed (ℕ × Piece) (List ℕ × Piece) Piece
      (expr_step n ln) (trailer_step n ln) (link_step n ln) (named_step n ln) (pair_step n ln) (open'.Str s)

  pub coded_group : (a : Expr) → coded n ln (e.Group a) ≡ coded n ln a
  unfolding coded coded_trailer link named pair_code
  coded_group a = ap (coded n ln) (sym (e.rolls-Group a)) ∙ fold-roll-Expr Coded Trailed (ℕ × Piece) (List ℕ × Piece)
      Piece (expr_step n ln) (trailer_step n ln) (link_step n ln) (named_step n ln) (pair_step n ln) (open'.Group a)

  pub coded_tuple : (xs : List Expr) → coded n ln (e.Tuple xs) ≡ record {
    value = built ln (BuildTuple (length xs)) (values n ln xs);
    place =
        Spread (to_all ln (all_stored n ln xs)) (row (all_deleted n ln xs));
  }
  unfolding coded coded_trailer link named pair_code
  coded_tuple xs = ap (coded n ln) (sym (e.rolls-Tuple xs)) ∙ fold-roll-Expr Coded Trailed (ℕ × Piece) (List ℕ × Piece)
      Piece (expr_step n ln) (trailer_step n ln) (link_step n ln) (named_step n ln) (pair_step n ln) (open'.Tuple xs)
      ∙ ap (λ z. record {
        value = built ln (BuildTuple z) (coded_values (map (coded n ln) xs));
        place =
            spread ln (map (coded n ln) xs);
      }) (length-map xs (coded n ln))
      ∙ ap (λ z. record { value = built ln (BuildTuple (length xs)) z; place = spread ln (map (coded n ln) xs) })
      (all_values xs)
      ∙ ap (λ z. record { value = built ln (BuildTuple (length xs)) (values n ln xs); place = z }) (all_spread xs)

  pub coded_list : (xs : List Expr) → coded n ln (e.List xs) ≡ record {
    value = built ln (BuildList (length xs)) (values n ln xs);
    place =
        Spread (to_all ln (all_stored n ln xs)) (row (all_deleted n ln xs));
  }
  unfolding coded coded_trailer link named pair_code
  coded_list xs = ap (coded n ln) (sym (e.rolls-List xs)) ∙ fold-roll-Expr Coded Trailed (ℕ × Piece) (List ℕ × Piece)
      Piece (expr_step n ln) (trailer_step n ln) (link_step n ln) (named_step n ln) (pair_step n ln) (open'.List xs)
      ∙ ap (λ z. record {
        value = built ln (BuildList z) (coded_values (map (coded n ln) xs));
        place =
            spread ln (map (coded n ln) xs);
      }) (length-map xs (coded n ln))
      ∙ ap (λ z. record { value = built ln (BuildList (length xs)) z; place = spread ln (map (coded n ln) xs) })
      (all_values xs)
      ∙ ap (λ z. record { value = built ln (BuildList (length xs)) (values n ln xs); place = z }) (all_spread xs)

  pub coded_dict : (ps : List Pair) → coded n ln (e.Dict ps) ≡ record
      { value = built ln (BuildDict (length ps)) (pairs n ln ps); place = NoPlace }
  unfolding coded coded_trailer link named pair_code
  coded_dict ps = ap (coded n ln) (sym (e.rolls-Dict ps)) ∙ fold-roll-Expr Coded Trailed (ℕ × Piece) (List ℕ × Piece)
      Piece (expr_step n ln) (trailer_step n ln) (link_step n ln) (named_step n ln) (pair_step n ln) (open'.Dict ps)
      ∙ ap (λ z. record { value = built ln (BuildDict z) (map pair_code ps); place = NoPlace })
      (length-map ps pair_code)
      ∙ ap (λ z. record { value = built ln (BuildDict (length ps)) z; place = NoPlace }) (all_pairs ps)

  pub coded_trail : (a : Expr) (ts : List Trailer) →
      coded n ln (e.Trail a ts) ≡ record {
        value = trailed n ln (value n ln a) (trailers n ln ts);
        place =
            place_of_trail n ln (value n ln a) (trailers n ln ts);
      }
  unfolding coded coded_trailer link named pair_code
  coded_trail a ts = ap (coded n ln) (sym (e.rolls-Trail a ts)) ∙
      fold-roll-Expr Coded Trailed (ℕ × Piece) (List ℕ × Piece) Piece (expr_step n ln) (trailer_step n ln)
      (link_step n ln) (named_step n ln) (pair_step n ln) (open'.Trail a ts) ∙
      ap (λ z. record { value = trailed n ln (value n ln a) z; place = place_of_trail n ln (value n ln a) z })
      (all_trailers ts)

  pub coded_power : (a : Expr) (b : Expr) →
      coded n ln (e.Power a b) ≡ record {
        value = two_values ln (Binary POWER) (value n ln a) (value n ln b);
        place =
            NoPlace;
      }
  unfolding coded coded_trailer link named pair_code
  coded_power a b = ap (coded n ln) (sym (e.rolls-Power a b)) ∙
      fold-roll-Expr Coded Trailed (ℕ × Piece) (List ℕ × Piece) Piece (expr_step n ln) (trailer_step n ln)
      (link_step n ln) (named_step n ln) (pair_step n ln) (open'.Power a b)

  pub coded_unary : (g : Sign) (a : Expr) →
      coded n ln (e.Unary g a) ≡ record { value = one_value ln (Unary (sign_number g)) (value n ln a); place = NoPlace }
  unfolding coded coded_trailer link named pair_code
  coded_unary g a = ap (coded n ln) (sym (e.rolls-Unary g a)) ∙
      fold-roll-Expr Coded Trailed (ℕ × Piece) (List ℕ × Piece) Piece (expr_step n ln) (trailer_step n ln)
      (link_step n ln) (named_step n ln) (pair_step n ln) (open'.Unary g a)

  pub coded_chain : (l : Level) (a : Expr) (ls : List Link) →
      coded n ln (e.Chain l a ls) ≡ record { value = chain ln l (value n ln a) (linked n ln ls); place = NoPlace }
  unfolding coded coded_trailer link named pair_code
  coded_chain l a ls = ap (coded n ln) (sym (e.rolls-Chain l a ls)) ∙
      fold-roll-Expr Coded Trailed (ℕ × Piece) (List ℕ × Piece) Piece (expr_step n ln) (trailer_step n ln)
      (link_step n ln) (named_step n ln) (pair_step n ln) (open'.Chain l a ls) ∙
      ap (λ z. record { value = chain ln l (value n ln a) z; place = NoPlace }) (all_links ls)

  pub coded_not : (a : Expr) → coded n ln (e.Not a) ≡ record {
    value = one_value ln Not (value n ln a);
    place =
        NoPlace;
  }
  unfolding coded coded_trailer link named pair_code
  coded_not a = ap (coded n ln) (sym (e.rolls-Not a)) ∙ fold-roll-Expr Coded Trailed (ℕ × Piece) (List ℕ × Piece) Piece
      (expr_step n ln) (trailer_step n ln) (link_step n ln) (named_step n ln) (pair_step n ln) (open'.Not a)

  pub coded_choice : (a : Expr) (b : Expr) (d : Expr) →
      coded n ln (e.Choice a b d) ≡ record {
        value = conditional ln (value n ln a) (value n ln b) (value n ln d);
        place = NoPlace;
      }
  unfolding coded coded_trailer link named pair_code
  coded_choice a b d = ap (coded n ln) (sym (e.rolls-Choice a b d)) ∙
      fold-roll-Expr Coded Trailed (ℕ × Piece) (List ℕ × Piece) Piece (expr_step n ln) (trailer_step n ln)
      (link_step n ln) (named_step n ln) (pair_step n ln) (open'.Choice a b d)

  pub coded_attribute : (x : List ℕ) → coded_trailer n ln (t.Attribute x) ≡ Attr x
  unfolding coded coded_trailer link named pair_code
  coded_attribute x = ap (coded_trailer n ln) (sym (t.rolls-Attribute x)) ∙
      fold-roll-Trailer Coded Trailed (ℕ × Piece) (List ℕ × Piece) Piece (expr_step n ln) (trailer_step n ln)
      (link_step n ln) (named_step n ln) (pair_step n ln) (open'.Attribute x)

  pub coded_index : (a : Expr) → coded_trailer n ln (t.Index a) ≡ Index (value n ln a)
  unfolding coded coded_trailer link named pair_code
  coded_index a = ap (coded_trailer n ln) (sym (t.rolls-Index a)) ∙
      fold-roll-Trailer Coded Trailed (ℕ × Piece) (List ℕ × Piece) Piece (expr_step n ln) (trailer_step n ln)
      (link_step n ln) (named_step n ln) (pair_step n ln) (open'.Index a)

  pub coded_slice : (a b : Option Expr) → coded_trailer n ln (t.Slice a b) ≡ Cut (value_some n ln a) (value_some n ln b)
  unfolding coded coded_trailer link named pair_code
  coded_slice None None = ap (coded_trailer n ln) (sym (t.rolls-Slice None None)) ∙
      fold-roll-Trailer Coded Trailed (ℕ × Piece) (List ℕ × Piece) Piece (expr_step n ln) (trailer_step n ln)
      (link_step n ln) (named_step n ln) (pair_step n ln) (open'.Slice None None)
  coded_slice None (Some b) = ap (coded_trailer n ln) (sym (t.rolls-Slice None (Some b))) ∙
      fold-roll-Trailer Coded Trailed (ℕ × Piece) (List ℕ × Piece) Piece (expr_step n ln) (trailer_step n ln)
      (link_step n ln) (named_step n ln) (pair_step n ln) (open'.Slice None (Some b))
  coded_slice (Some a) None = ap (coded_trailer n ln) (sym (t.rolls-Slice (Some a) None)) ∙
      fold-roll-Trailer Coded Trailed (ℕ × Piece) (List ℕ × Piece) Piece (expr_step n ln) (trailer_step n ln)
      (link_step n ln) (named_step n ln) (pair_step n ln) (open'.Slice (Some a) None)
  coded_slice (Some a) (Some b) = ap (coded_trailer n ln) (sym (t.rolls-Slice (Some a) (Some b))) ∙
      fold-roll-Trailer Coded Trailed (ℕ × Piece) (List ℕ × Piece) Piece (expr_step n ln) (trailer_step n ln)
      (link_step n ln) (named_step n ln) (pair_step n ln) (open'.Slice (Some a) (Some b))

  pub coded_call : (xs : List Expr) (ks : List Named) → coded_trailer n ln (t.Call xs ks) ≡ Called (values n ln xs)
      (key_names ks) (key_values n ln ks)
  unfolding coded coded_trailer link named pair_code
  coded_call xs ks = ap (coded_trailer n ln) (sym (t.rolls-Call xs ks)) ∙
      fold-roll-Trailer Coded Trailed (ℕ × Piece) (List ℕ × Piece) Piece (expr_step n ln) (trailer_step n ln)
      (link_step n ln) (named_step n ln) (pair_step n ln) (open'.Call xs ks)
      ∙ ap (λ z. Called z (map (λ k. k.0) (map named ks)) (map (λ k. k.1) (map named ks))) (all_values xs)
      ∙ ap (λ z. Called (values n ln xs) z (map (λ k. k.1) (map named ks))) (all_names ks)
      ∙ ap (λ z. Called (values n ln xs) (key_names ks) z) (all_key_values ks)

pub ruleset coded_rules = (
  coded_name,
  coded_int,
  coded_str,
  coded_group,
  coded_tuple,
  coded_list,
  coded_dict,
  coded_trail,
  coded_power,
  coded_unary,
  coded_chain,
  coded_not,
  coded_choice,
  coded_attribute,
  coded_index,
  coded_slice,
  coded_call,
  height_group,
  height_tuple,
  height_list,
  height_dict,
  height_trail,
  height_power,
  height_unary,
  height_chain,
  height_not,
  height_choice,
  height_index,
  height_slice,
  height_call,
)
