-- What builtins of other numbers do.
use Rattle.std.proofs.Common.{◌≡◌, ◌≢◌, ℕ, ◌==◌, Bool, true, false, cond, List, refl, sym, subst, ◌∙◌}
use Rattle.std.specs.Prelude.{MatchResult, Result}
use Rattle.std.proofs.lemmas.Bool.{eqb-true}
use Rattle.py_data.specs.declared.value.Value.{Value}
use Rattle.py_data.specs.declared.stop.Stop.{Stop}
use Rattle.py_data.specs.declared.stop.Stop.TheVariants.{OutOfMemory}
use Rattle.py_data.specs.declared.record.Got.{Got}
use Rattle.py_data.specs.declared.record.Got.TheVariants.{Raise}
use Rattle.py_data.specs.Fault.{operand_fault}
use Rattle.py_data.specs.Heap.{Heap}
use Rattle.py_data.specs.Row.{Ret}
use Rattle.py_data.specs.Sense.{Sense, Safe, Meets}
use Rattle.py_data.proofs.Rows.{meets_answer}
use Rattle.obj_builtins.specs.Functions.{later_row, function_row}

unlike : {A : Type 0} (m n : ℕ) (x y : A) → m ≢ n → cond (m == n) x y ≡ y
unlike m n x y i = by (m == n) refl
  where
    by : (t : Bool) → (m == n) ≡ t → cond t x y ≡ y
    by true e = absurd (i (eqb-true m n e))
    by false e = refl

-- not the number of a function up to `tuple`
pub later_is : (S : Type 0) (roots b : ℕ) (args : List Value) → b ≢ 0 → b ≢ 1 → b ≢ 2 → b ≢ 3 → b ≢ 4 → b ≢ 5 → b ≢ 6 →
    b ≢ 7 → b ≢ 8 → function_row {S = S} roots b args ≡ later_row roots b args
unfolding function_row
later_is S roots b args l r x s p i t k u =
    unlike b 0 _ _ l ∙ (unlike b 1 _ _ r ∙
    (unlike b 2 _ _ x ∙ (unlike b 3 _ _ s ∙
    (unlike b 4 _ _ p ∙ (unlike b 5 _ _ i ∙ (unlike b 6 _ _ t ∙ (unlike b 7 _ _ k ∙ unlike b 8 _ _ u)))))))

pub later_safe : (S : Type 0) (roots b : ℕ) (args : List Value) (p : Bool) (h : Heap) → b ≢ 0 → b ≢ 1 → b ≢ 2 → b ≢ 3 →
    b ≢ 4 → b ≢ 5 → b ≢ 6 → b ≢ 7 → b ≢ 8 → Safe p (function_row {S = S} roots b args) h →
    Safe p (later_row {S = S} roots b args) h
later_safe S roots b args p h l r x s t i k u w safe =
    subst (λ row. Safe p row h) (later_is S roots b args l r x s t i k u w) safe

pub later_met : {S X : Type 0} (u : Sense S X) (roots b : ℕ) (args : List Value) (v w : X)
    (res : Result (Got Value) Stop) → b ≢ 0 → b ≢ 1 → b ≢ 2 → b ≢ 3 → b ≢ 4 → b ≢ 5 → b ≢ 6 → b ≢ 7 → b ≢ 8
    → Meets u (later_row roots b args) v w res → Meets u (function_row roots b args) v w res
later_met {S = S} u roots b args v w res l r x s t i k y z m =
    subst (λ row. Meets u row v w res) (sym (later_is S roots b args l r x s t i k y z)) m

-- nor of one behind it
other_row : (S : Type 0) (roots b : ℕ) (args : List Value) → b ≢ 9 → b ≢ 10 → b ≢ 11 → b ≢ 12 → b ≢ 13 → b ≢ 14 →
    b ≢ 15 → b ≢ 16 → b ≢ 17 → later_row {S = S} roots b args ≡ Ret (Raise operand_fault)
unfolding later_row
other_row S roots b args d i o c a l g s t =
    unlike b 9 _ _ d ∙ (unlike b 10 _ _ i ∙
    (unlike b 11 _ _ o ∙ (unlike b 12 _ _ c ∙
    (unlike b 13 _ _ a ∙ (unlike b 14 _ _ l ∙ (unlike b 15 _ _ g ∙ (unlike b 16 _ _ s ∙ unlike b 17 _ _ t)))))))

pub other_met : {S X : Type 0} (u : Sense S X) (roots b : ℕ) (args : List Value) (v : X)
    (res : Result (Got Value) Stop) → b ≢ 9 → b ≢ 10 → b ≢ 11 → b ≢ 12 → b ≢ 13 → b ≢ 14 → b ≢ 15 → b ≢ 16 → b ≢ 17
    → MatchResult res (λ g. g ≡ Raise operand_fault) (λ e. e ≡ OutOfMemory) → Meets u (later_row roots b args) v v res
other_met {S = S} u roots b args v res d i o c a l g s t r =
    subst (λ row. Meets u row v v res) (sym (other_row S roots b args d i o c a l g s t))
    (meets_answer u (Raise operand_fault) v res r)
