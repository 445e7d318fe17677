-- Keys that differ, once a pair came or went.
use Rattle.std.proofs.Common.{◌≡◌, ℕ, zero, suc, ◌+◌, ◌*◌, ◌<◌, List, [], ◌∷◌, length, remove, sym, ap, ◌∙◌, inl, inr, arith}
use Rattle.py_data.specs.declared.value.Value.{Value}
use Rattle.py_data.specs.Heap.{value_at}
use Rattle.py_data.proofs.PairLists.{pairs_last, differ_last, gone, pairs_gone, differ_gone}
use Rattle.dict_index.specs.Laws.{PairLaw, DropLaw}
use Rattle.dict_index.specs.Leaving.{skip}
use Rattle.dict_index.proofs.Lowering.{skip_is, skip_suc}
use Rattle.dict_index.proofs.Pairs.{later}

pub pair_law : PairLaw
pair_law h vs key v p d k e = (pairs_last h vs key v p k, differ_last h vs key v p d e)

gone_later : (k v : Value) (rest : List Value) (p : ℕ) → gone (k ∷ v ∷ rest) (suc p) ≡ k ∷ v ∷ gone rest p
gone_later k v rest p =
    let two : 2 * suc p ≡ suc (suc (2 * p)) = omega arith in
    ap (λ i. remove (remove (k ∷ v ∷ rest) i) i) two

-- the key of a pair, once another is gone
pub key_gone : (vs : List Value) (p j : ℕ) → 2 * p + 1 < length vs →
    value_at (gone vs p) (2 * j) ≡ value_at vs (2 * skip p j)
key_gone [] p j l = absurd (omega arith)
key_gone (k ∷ []) p j l = absurd (omega arith)
key_gone (k ∷ v ∷ rest) zero j l = elim (skip_is 0 j) [
  | inl x ↦ absurd (omega arith)
  | inr x ↦
      let e : skip 0 j ≡ suc j = omega arith in
      sym (ap (λ i. value_at (k ∷ v ∷ rest) (2 * i)) e ∙ later k v rest j)
]
key_gone (k ∷ v ∷ rest) (suc p) zero l =
    ap (λ us. value_at us 0) (gone_later k v rest p)
    ∙ elim (skip_is (suc p) 0) [
      | inl x ↦ sym (ap (λ i. value_at (k ∷ v ∷ rest) (2 * i)) x.1)
      | inr x ↦ absurd (omega arith)
    ]
key_gone (k ∷ v ∷ rest) (suc p) (suc j) l =
    ap (λ us. value_at us (2 * suc j)) (gone_later k v rest p)
    ∙ later k v (gone rest p) j ∙ key_gone rest p j (omega arith)
    ∙ sym (ap (λ i. value_at (k ∷ v ∷ rest) (2 * i)) (skip_suc p j) ∙ later k v rest (skip p j))

pub drop_law : DropLaw
drop_law h vs p q d l = (pairs_gone h vs p q, differ_gone h vs p q d, λ j. key_gone vs p j l)
