-- The turns of the loops over values, over items that are compared and over the pieces of a template.
use Rattle.std.proofs.Common.{arith, ◌≡◌, ℕ, ◌+◌, ◌-◌, ◌<◌, ◌≤◌, ◌==◌, Bool, true, false, cond, List, [], ◌∷◌, ◌++◌, length, drop, get_or, Ok, sym, ap, subst, ◌∙◌, append_assoc, append-nil}
use Rattle.std.proofs.Math.ListN.{drop_of_length-le}
use Rattle.std.proofs.lemmas.List.{drop_more}
use Rattle.py_data.specs.declared.value.Value.{Value}
use Rattle.py_data.specs.declared.value.Value.TheVariants.{Unset}
use Rattle.py_data.specs.declared.change.Change.TheVariants as change
use Rattle.py_data.specs.declared.record.Got.TheVariants.{Is}
use Rattle.py_data.specs.Row.{Do, Edit}
use Rattle.py_data.specs.Looking.{until_row, each_row}
use Rattle.py_data.specs.Sense.{Sense, Safe, Meets, IsLive}
use Rattle.py_data.specs.inner.Rest.{Leads}
use Rattle.py_data.proofs.Steps.{leads_begin, leads_ret}
use Rattle.obj_ops.specs.declared.format.Piece.{Piece}
use Rattle.obj_ops.specs.declared.format.Piece.TheVariants.{Byte, Number, Text, Unknown}
use Rattle.obj_ops.specs.InPlace.{push_row}
use Rattle.obj_ops.specs.Contains.{item_row, items_row, goes_on}
use Rattle.obj_ops.specs.Format.{piece_row, piece_at, pieces_row, conversion, takes, asked, pieces}

module _ {S X : Type 0} {u : Sense S X} where
  -- ---- values at the end of a list
  module _ (a : ℕ) (vs : List Value) {v w : X} where
    pub push_next : (i : ℕ) (y : Value) → i < length vs → ((d : Value) → y ≡ get_or vs i d) →
        Leads u (push_row {S = S} a vs) v (push_row a (drop i vs)) w →
        Leads u (push_row {S = S} a vs) v (Do (Edit a (change.Push y)) (λ _. push_row a (drop (i + 1) vs))) w
    unfolding push_row
    push_next i y l e h = subst (λ xs. Leads u (push_row {S = S} a vs) v (push_row a xs) w)
        (drop_more vs i Unset l ∙ ap (λ x. x ∷ drop (i + 1) vs) (sym (e Unset))) h

    pub push_last : (i : ℕ) → length vs ≤ i → Leads u (push_row {S = S} a vs) v (push_row a (drop i vs)) w →
        Meets u (push_row {S = S} a vs) v w (Ok tt)
    unfolding push_row
    push_last i l h = leads_ret (subst (λ xs. Leads u (push_row {S = S} a vs) v (push_row a xs) w)
        (drop_of_length-le vs l) h)

  -- ---- items that are compared
  pub items_begin : (x : Value) (a n : ℕ) (v : X) → Safe u.partial (items_row {S = S} x a n) (u.heap v) → IsLive u v →
      Leads u (items_row {S = S} x a n) v (until_row (item_row x a) goes_on (Is false) 0 (n - 0)) v
  unfolding items_row
  items_begin x a n v s l =
      let e : n - 0 ≡ n = omega arith in
      subst (λ m. Leads u (items_row {S = S} x a n) v (until_row (item_row x a) goes_on (Is false) 0 m) v) (sym e)
      (leads_begin u (items_row {S = S} x a n) v s l)

  -- ---- pieces that are written
  pub pieces_begin : (roots : ℕ) (ps : List Piece) (args : List Value) (n : ℕ) (out : List ℕ) (v : X) → n ≡ length ps →
      out ≡ [] → Safe u.partial (pieces_row {S = S} roots ps args) (u.heap v) → IsLive u v
      → Leads u (pieces_row {S = S} roots ps args) v
      (each_row (λ i. piece_row roots args (piece_at ps i)) 0 (n - 0) out) v
  unfolding pieces_row
  pieces_begin roots ps args n out v c o s l =
      let e : n - 0 ≡ length ps = omega (arith, c) in
      subst (λ m. Leads u (pieces_row {S = S} roots ps args) v
      (each_row (λ i. piece_row roots args (piece_at ps i)) 0 m out) v) (sym e)
      (subst (λ t. Leads u (pieces_row {S = S} roots ps args) v
      (each_row (λ i. piece_row roots args (piece_at ps i)) 0 (length ps) t) v) (sym o)
      (leads_begin u (pieces_row {S = S} roots ps args) v s l))

-- ---- how many arguments the pieces take
pub asked_more : (ps : List Piece) (i all t : ℕ) (d : Piece) → i < length ps → t ≡ takes (get_or ps i d) →
    all + asked (drop i ps) ≡ asked ps → all + t + asked (drop (i + 1) ps) ≡ asked ps
asked_more ps i all t d l e h =
    let s : asked (drop i ps) ≡ takes (get_or ps i d) + asked (drop (i + 1) ps) = ap asked (drop_more ps i d l) in
    omega (arith, s, e, h)

pub asked_all : (ps : List Piece) (i all : ℕ) → length ps ≤ i → all + asked (drop i ps) ≡ asked ps → all ≡ asked ps
asked_all ps i all l h =
    let s : asked (drop i ps) ≡ 0 = ap asked (drop_of_length-le ps l) in
    omega (arith, s, h)

takes_one : (p : Piece) → takes p ≤ 1
takes_one (Byte x) = omega arith
takes_one (Number n) = omega arith
takes_one (Text n) = omega arith
takes_one Unknown = omega arith

pub takes_most : (t : ℕ) (p : Piece) → t ≡ takes p → t ≤ 1
takes_most t p e = let one = takes_one p in omega (arith, one, e)

-- ---- the pieces of a template
module _ (bs : List ℕ) (i n : ℕ) (found all : List Piece) (within : i < length bs) where
  -- the byte behind a percent sign
  pub piece_behind : (p : Piece) → p ≡ conversion n (get_or bs i 0) → found ++ pieces true n (drop i bs) ≡ all →
      (found ++ p ∷ []) ++ pieces false (n + takes p) (drop (i + 1) bs) ≡ all
  unfolding pieces
  piece_behind p e h =
      append_assoc found (p ∷ []) (pieces false (n + takes p) (drop (i + 1) bs)) ∙
      (ap (λ q. found ++ q ∷ pieces false (n + takes q) (drop (i + 1) bs)) e ∙
      (ap (λ ds. found ++ pieces true n ds) (sym (drop_more bs i 0 within)) ∙ h))

  -- a percent sign
  pub piece_begun : (get_or bs i 0 == 37) ≡ true → found ++ pieces false n (drop i bs) ≡ all →
      found ++ pieces true n (drop (i + 1) bs) ≡ all
  unfolding pieces
  piece_begun e h =
      ap (λ b. found ++ cond b (pieces true n (drop (i + 1) bs))
      (Byte (get_or bs i 0) ∷ pieces false n (drop (i + 1) bs))) (sym e) ∙
      (ap (λ ds. found ++ pieces false n ds) (sym (drop_more bs i 0 within)) ∙ h)

  -- another byte
  pub piece_plain : (get_or bs i 0 == 37) ≡ false → found ++ pieces false n (drop i bs) ≡ all →
      (found ++ Byte (get_or bs i 0) ∷ []) ++ pieces false n (drop (i + 1) bs) ≡ all
  unfolding pieces
  piece_plain e h =
      append_assoc found (Byte (get_or bs i 0) ∷ []) (pieces false n (drop (i + 1) bs))
      ∙ (ap (λ b. found ++ cond b (pieces true n (drop (i + 1) bs))
      (Byte (get_or bs i 0) ∷ pieces false n (drop (i + 1) bs))) (sym e) ∙
      (ap (λ ds. found ++ pieces false n ds) (sym (drop_more bs i 0 within)) ∙ h))

-- what is found so far by its parts
pub pieces_as : (ds : List ℕ) (all f g : List Piece) (b c : Bool) (m n : ℕ) → f ≡ g → b ≡ c → m ≡ n →
    g ++ pieces c n ds ≡ all → f ++ pieces b m ds ≡ all
pieces_as ds all f g b c m n e d t h = ap (λ z. z ++ pieces b m ds) e ∙
    (ap (λ z. g ++ pieces z m ds) d ∙ (ap (λ z. g ++ pieces c z ds) t ∙ h))

-- at the template's end
pub pieces_end : (bs : List ℕ) (i n : ℕ) (found all : List Piece) → length bs ≤ i →
    found ++ pieces false n (drop i bs) ≡ all → found ≡ all
unfolding pieces
pieces_end bs i n found all l h = sym (append-nil found) ∙
    (ap (λ ds. found ++ pieces false n ds) (sym (drop_of_length-le bs l)) ∙ h)

pub pieces_end_behind : (bs : List ℕ) (i n : ℕ) (found all : List Piece) → length bs ≤ i →
    found ++ pieces true n (drop i bs) ≡ all → found ++ Unknown ∷ [] ≡ all
unfolding pieces
pieces_end_behind bs i n found all l h = ap (λ ds. found ++ pieces true n ds) (sym (drop_of_length-le bs l)) ∙ h

pub flag_as : (bs : List ℕ) (n : ℕ) (found all : List Piece) (b c : Bool) → b ≡ c → found ++ pieces b n bs ≡ all →
    found ++ pieces c n bs ≡ all
flag_as bs n found all b c e h = subst (λ z. found ++ pieces z n bs ≡ all) e h
