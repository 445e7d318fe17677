-- Targets one by one are deleted by the code of the whole.
use Rattle.std.proofs.Common.{◌≡◌, ◌∙◌, ℕ, ℤ, List, [], ◌∷◌, ◌++◌, refl, sym, ap, append_assoc, append-nil}
use Rattle.py_tree.specs.declared.expr.Expr.{Expr}
use Rattle.py_tree.specs.declared.expr.Expr.TheVariants as e
use Rattle.py_tree.specs.declared.expr.Level.{Level}
use Rattle.py_tree.specs.declared.expr.Link.{Link}
use Rattle.py_tree.specs.declared.expr.Pair.{Pair}
use Rattle.py_tree.specs.declared.expr.Sign.{Sign}
use Rattle.py_tree.proofs.Heights.{height_group, height_tuple, height_list}
use Rattle.py_templates.specs.Template.{row}
use Rattle.py_templates.specs.Names.{Known}
use Rattle.py_templates.specs.Expressions.{NoPlace, coded, deleted, del_at, all_deleted}
use Rattle.py_compile.specs.inner.Deletions.{SameDeletions}
use Rattle.py_templates.proofs.Coded.{coded_group, coded_tuple, coded_list, coded_int, coded_str, coded_dict, coded_power, coded_unary, coded_chain, coded_not, coded_choice}
use Rattle.py_templates.proofs.RowsEqual.{row_flat, row_front}

all_deleted_append : (n : Known) (ln : ℕ) (xs ys : List Expr) →
    all_deleted n ln (xs ++ ys) ≡ all_deleted n ln xs ++ all_deleted n ln ys
all_deleted_append n ln [] ys = refl
all_deleted_append n ln (x ∷ xs) ys = ap (λ z. deleted n ln x ∷ z) (all_deleted_append n ln xs ys)

pub same : (xs ys : List Expr) → xs ≡ ys → SameDeletions xs ys
same xs ys q = record { code = λ n ln. ap (λ z. row (all_deleted n ln z)) q }

pub chain : (xs ys zs : List Expr) → SameDeletions xs ys → SameDeletions ys zs → SameDeletions xs zs
chain xs ys zs s t = record { code = λ n ln. s.code n ln ∙ t.code n ln }

-- before the same targets
before : (xs ys zs : List Expr) → SameDeletions xs ys → SameDeletions (xs ++ zs) (ys ++ zs)
before xs ys zs s = record {
  code = λ n ln. ap row (all_deleted_append n ln xs zs)
      ∙ row_front (all_deleted n ln xs) (all_deleted n ln ys) (all_deleted n ln zs) (s.code n ln)
      ∙ ap row (sym (all_deleted_append n ln ys zs));
}

-- a target that is deleted by a row, behind others
in_row : (xs ys : List Expr) (x : Expr) → ((n : Known) (ln : ℕ) → deleted n ln x ≡ row (all_deleted n ln ys)) →
    SameDeletions (xs ++ ys) (xs ++ x ∷ [])
in_row xs ys x q = record {
  code = λ n ln. ap row (all_deleted_append n ln xs ys)
      ∙ ap (λ z. row (all_deleted n ln xs ++ z)) (sym (append-nil (all_deleted n ln ys)))
      ∙ sym (row_flat (all_deleted n ln xs) (all_deleted n ln ys) [])
      ∙ ap (λ z. row (all_deleted n ln xs ++ z ∷ [])) (sym (q n ln))
      ∙ ap row (sym (all_deleted_append n ln xs (x ∷ [])));
}

-- what isn't a target has no deletion
none : (xs : List Expr) (x : Expr) → ((n : Known) (ln : ℕ) → (coded n ln x).place ≡ NoPlace) →
    SameDeletions xs (xs ++ x ∷ [])
none xs x q = chain xs (xs ++ []) (xs ++ x ∷ []) (same xs (xs ++ []) (sym (append-nil xs)))
    (in_row xs [] x (λ n ln. ap (del_at ln) (q n ln)))

pub none_int : (xs : List Expr) (i : ℤ) → SameDeletions xs (xs ++ e.Int i ∷ [])
none_int xs i = none xs (e.Int i) (λ n ln. ap (λ c. c.place) (coded_int n ln i))

pub none_str : (xs : List Expr) (s : List ℕ) → SameDeletions xs (xs ++ e.Str s ∷ [])
none_str xs s = none xs (e.Str s) (λ n ln. ap (λ c. c.place) (coded_str n ln s))

pub none_dict : (xs : List Expr) (ps : List Pair) → SameDeletions xs (xs ++ e.Dict ps ∷ [])
none_dict xs ps = none xs (e.Dict ps) (λ n ln. ap (λ c. c.place) (coded_dict n ln ps))

pub none_power : (xs : List Expr) (a b : Expr) → SameDeletions xs (xs ++ e.Power a b ∷ [])
none_power xs a b = none xs (e.Power a b) (λ n ln. ap (λ c. c.place) (coded_power n ln a b))

pub none_unary : (xs : List Expr) (g : Sign) (a : Expr) → SameDeletions xs (xs ++ e.Unary g a ∷ [])
none_unary xs g a = none xs (e.Unary g a) (λ n ln. ap (λ c. c.place) (coded_unary n ln g a))

pub none_chain : (xs : List Expr) (l : Level) (a : Expr) (ls : List Link) → SameDeletions xs (xs ++ e.Chain l a ls ∷ [])
none_chain xs l a ls = none xs (e.Chain l a ls) (λ n ln. ap (λ c. c.place) (coded_chain n ln l a ls))

pub none_not : (xs : List Expr) (a : Expr) → SameDeletions xs (xs ++ e.Not a ∷ [])
none_not xs a = none xs (e.Not a) (λ n ln. ap (λ c. c.place) (coded_not n ln a))

pub none_choice : (xs : List Expr) (a b d : Expr) → SameDeletions xs (xs ++ e.Choice a b d ∷ [])
none_choice xs a b d = none xs (e.Choice a b d) (λ n ln. ap (λ c. c.place) (coded_choice n ln a b d))

-- a group, a tuple and a list are deleted as what stands in them
pub in_group : (xs os : List Expr) (a : Expr) → SameDeletions xs (os ++ a ∷ []) →
    SameDeletions xs (os ++ e.Group a ∷ [])
in_group xs os a s = chain xs (os ++ a ∷ []) (os ++ e.Group a ∷ []) s (record {
  code = λ n ln. ap row (all_deleted_append n ln os (a ∷ []))
      ∙ ap (λ c. row (all_deleted n ln os ++ del_at ln c.place ∷ [])) (sym (coded_group n ln a))
      ∙ ap row (sym (all_deleted_append n ln os (e.Group a ∷ [])));
})

pub in_tuple : (xs os ys : List Expr) → SameDeletions xs (os ++ ys) → SameDeletions xs (os ++ e.Tuple ys ∷ [])
in_tuple xs os ys s = chain xs (os ++ ys) (os ++ e.Tuple ys ∷ []) s
    (in_row os ys (e.Tuple ys) (λ n ln. ap (λ c. del_at ln c.place) (coded_tuple n ln ys)))

pub in_list : (xs os ys : List Expr) → SameDeletions xs (os ++ ys) → SameDeletions xs (os ++ e.List ys ∷ [])
in_list xs os ys s = chain xs (os ++ ys) (os ++ e.List ys ∷ []) s
    (in_row os ys (e.List ys) (λ n ln. ap (λ c. del_at ln c.place) (coded_list n ln ys)))

-- one more target
pub one_more : (xs os more : List Expr) (x : Expr) (zs : List Expr) → SameDeletions xs (os ++ x ∷ []) →
    SameDeletions (os ++ x ∷ more) zs → SameDeletions (xs ++ more) zs
one_more xs os more x zs s t = chain (xs ++ more) (os ++ x ∷ more) zs
    (chain (xs ++ more) ((os ++ x ∷ []) ++ more) (os ++ x ∷ more) (before xs (os ++ x ∷ []) more s)
    (same ((os ++ x ∷ []) ++ more) (os ++ x ∷ more) (append_assoc os (x ∷ []) more))) t

pub ruleset deletion_rules = (
  none_int,
  none_str,
  none_dict,
  none_power,
  none_unary,
  none_chain,
  none_not,
  none_choice,
  in_group,
  in_tuple,
  in_list,
  one_more,
  height_group,
  height_tuple,
  height_list,
)
