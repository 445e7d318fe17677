-- What `get`, `has_key` and `pop` of a dictionary answer and leave.
use Rattle.std.proofs.Common.{◌≡◌, Option, Some, None, refl, sym, ap, subst, ◌∙◌, true, false}
use Rattle.std.specs.Prelude.{unwrap_or, remove}
use Rattle.py_data.specs.declared.record.Got.{Got}
use Rattle.py_data.specs.declared.record.Got.TheVariants.{Is, Raise}
use Rattle.py_data.specs.declared.value.Value.{Value}
use Rattle.py_data.specs.declared.value.Value.TheVariants.{None as NoneValue}
use Rattle.py_data.specs.Fault.{key_fault, hash_fault}
use Rattle.py_data.specs.Row.{Row, Ret, bind}
use Rattle.py_data.specs.Sense.{Sense, Lawful, Run}
use Rattle.py_data.proofs.Rows.{bind_run}
use Rattle.obj_dict.specs.Dict.{get_row, del_row}
use Rattle.obj_dict.specs.Laws.{Leaves}
use Rattle.obj_dict.specs.Listing.{half}
use Rattle.obj_dict.proofs.Whole.{hash_law_shown, get_law_shown, del_law, lack_law}
use Rattle.obj_methods.specs.Dicts.{found_or, get_with, has_with, is_there, or_given, pop_with}
use Rattle.obj_methods.specs.KeyLaws.{GetLaw, HasLaw, HashLaw, PopGivenLaw, PopLackLaw, PopLaw}

or_else : (o : Option Value) (x : Value) → found_or x (Is o) ≡ Is (unwrap_or o x)
or_else (Some y) x = refl
or_else None x = refl

module _ {S X : Type 0} {u : Sense S X} (L : Lawful u) where
  -- a part, and an answer that is made of what it answers
  answered : {A : Type 0} (row : Row S A) (f : A → Got Value) (v w : X) (res : Got Value) →
      Run u (bind row (λ a. Ret (f a))) v res w → (a : A) × (m : X) × Run u row v a m × (res ≡ f a) × (w ≡ m)
  unfolding Run
  answered row f v w res d = let b = bind_run u row (λ a. Ret (f a)) v res w d in (b.0, b.1, b.2, b.3.0, b.3.1)

  -- where the part has left all records
  unchanged : {A : Type 0} (row : Row S A) (f : A → Got Value) (y : A) (v w : X) (res : Got Value) →
      ((a : A) (m : X) → Run u row v a m → (a ≡ y) × (u.heap m ≡ u.heap v)) → Run u (bind row (λ a. Ret (f a))) v res w
      → (res ≡ f y) × (u.heap w ≡ u.heap v)
  unchanged row f y v w res n d =
      let a = answered row f v w res d in
      let k = n a.0 a.1 a.2 in
      (a.3 ∙ ap f k.0, ap u.heap a.4 ∙ k.1)

  pub get_law : GetLaw u
  unfolding get_with
  get_law d key given r v w res e i g =
      let t = unchanged (get_row d key) (found_or (unwrap_or given NoneValue)) _ v w res
      (λ a m k. get_law_shown L d key r v m a e i k) g in
      (t.0 ∙ or_else _ (unwrap_or given NoneValue), t.1)

  pub has_law : HasLaw u
  unfolding has_with
  has_law d key r v w res e i g = unchanged (get_row d key) is_there _ v w res (λ a m k. get_law_shown L d key r v m a e i k)
      g

  pub pop_law : PopLaw u
  unfolding pop_with
  pop_law d key given r i v w res e k p g =
      let a = answered (del_row d key) (or_given given) v w res g in
      let t = del_law L d key r i v a.1 a.0 e k p a.2 in (
        t.0,
        a.3 ∙ ap (or_given given) t.1,
        t.2,
        subst (λ z. Leaves d r (remove (half false r.values) i) (remove (half true r.values) i) (u.heap v)
            (u.heap z)) (sym a.4) t.3,
      )

  pub pop_given_law : PopGivenLaw u
  unfolding pop_with
  pop_given_law d key x r v w res e k p g = unchanged (del_row d key) (or_given (Some x)) (Raise (key_fault key)) v w
      res (λ a m n. lack_law L d key r v m a e k p n) g

  pub pop_lack_law : PopLackLaw u
  unfolding pop_with
  pop_lack_law d key r v w res e k p g = unchanged (del_row d key) (or_given None) (Raise (key_fault key)) v w res
      (λ a m n. lack_law L d key r v m a e k p n) g

  if_hash : (given : Option Value) → or_given given (Raise hash_fault) ≡ Raise hash_fault
  if_hash (Some x) = refl
  if_hash None = refl

  pub hash_law : HashLaw u
  unfolding get_with has_with pop_with
  hash_law = (
    λ given d key v w res n g. unchanged (get_row d key) (found_or (unwrap_or given NoneValue)) (Raise hash_fault) v w
        res (λ a m k. (hash_law_shown L).0 d key v m a n k) g,
    λ d key v w res n g. unchanged (get_row d key) is_there (Raise hash_fault) v w res
        (λ a m k. (hash_law_shown L).0 d key v m a n k) g,
    λ given d key v w res n g.
        let t = unchanged (del_row d key) (or_given given) (Raise hash_fault) v w res
        (λ a m k. (hash_law_shown L).2 d key v m a n k) g in
        (t.0 ∙ if_hash given, t.1),
  )
