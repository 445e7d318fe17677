-- All operations on classes, attributes and exceptions are steady.
use Rattle.std.proofs.Common.{ℕ, zero, suc, ◌+◌, pos, false, List, [], ◌∷◌, ◌++◌}
use Rattle.py_base.specs.Numbers.{class_count}
use Rattle.py_base.specs.declared.kind.Kind.TheVariants.{Str, Tuple, Dict, Cell, Class}
use Rattle.py_data.specs.declared.value.Value.{Value}
use Rattle.py_data.specs.declared.value.Value.TheVariants.{Int}
use Rattle.py_data.specs.Heap.{Rec, new_rec}
use Rattle.py_data.specs.Row.{Ret}
use Rattle.py_data.specs.Steady.{Calm}
use Rattle.py_data.proofs.CalmRows.{ret_calm, bind_calm, make_calm}
use Rattle.obj_class.specs.AttrRows.{find_attr_row}
use Rattle.obj_class.specs.Bases.{MOST_BASES, ref, sub_step, is_sub_row}
use Rattle.obj_class.specs.Exceptions.{made_row}
use Rattle.obj_class.specs.HoldsLaws.{ClassSteady}
use Rattle.obj_class.specs.NewRoots.{class_of_row, new_class_row, next_root_row, roots_behind_row, roots_from, roots_listed_row, roots_row}
use Rattle.obj_class.specs.Roots.{own_name, root_base}
use Rattle.py_data.proofs.OnlyLooks.{only_steady, only_walk}
use Rattle.obj_class.proofs.SteadyRows.{attr_steady, del_steady, fault_steady, only_find, only_sub, set_steady}
use Rattle.obj_class.proofs.TellingCalm.{told_calm}

module _ (S : Type 0) where
  made_calm : (r : Rec) → Calm {S = S} (made_row r)
  unfolding made_row
  made_calm r = make_calm S r (λ a. Ret (ref a)) (λ a. ret_calm S _)

  next_calm : (n : ℕ) (vs : List Value) → Calm {S = S} (next_root_row n vs)
  unfolding next_root_row new_class_row class_of_row
  next_calm n vs =
      bind_calm S (new_class_row (root_base vs n) (own_name n)) (λ c. Ret (vs ++ c ∷ []))
      (bind_calm S (made_row (new_rec Str [] (own_name n))) (λ name. class_of_row (root_base vs n) name) (made_calm _)
      (λ name. bind_calm S (made_row (new_rec Dict [] []))
      (λ dict. made_row (new_rec Class (name ∷ root_base vs n ∷ dict ∷ []) [])) (made_calm _)
      (λ dict. made_calm _)))
      (λ c. ret_calm S _)

  from_calm : (m n : ℕ) (vs : List Value) → Calm {S = S} (roots_from n m vs)
  unfolding roots_from
  from_calm zero n vs = ret_calm S vs
  from_calm (suc m) n vs = bind_calm S (next_root_row n vs) (λ ws. roots_from (n + 1) m ws) (next_calm n vs)
      (λ ws. from_calm m (n + 1) ws)

  roots_calm : Calm {S = S} roots_row
  unfolding roots_row roots_behind_row roots_listed_row
  roots_calm =
      bind_calm S (made_row (new_rec Cell (Int (pos 1) ∷ []) [])) (λ cell. roots_behind_row cell) (made_calm _)
      (λ cell. bind_calm S (roots_from 0 class_count (cell ∷ [])) (λ vs. roots_listed_row vs)
      (from_calm class_count 0 (cell ∷ []))
      (λ vs. make_calm S (new_rec Tuple vs []) (λ a. Ret (record { 0 = a })) (λ a. ret_calm S _)))

pub class_steady : (S : Type 0) → ClassSteady S
class_steady S = record {
  is_sub = λ c base. only_steady (is_sub_row c base)
      (only_walk (sub_step base) false (only_sub S base) MOST_BASES (ref c));
  find_attr = λ roots name x. only_steady (find_attr_row roots x name) (only_find S roots name x);
  attr = attr_steady S;
  set_attr = set_steady S;
  del_attr = del_steady S;
  make_fault = fault_steady S;
  make_roots = roots_calm S;
  text = told_calm S;
}
