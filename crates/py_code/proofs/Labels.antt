-- One more instruction marks the place that it names, and no other.
use Rattle.std.proofs.Common.{◌≡◌, ◌∙◌, ◌+◌, ◌<◌, ◌≤◌, ◌==◌, ◌++◌, ℕ, List, [], ◌∷◌, zero, suc, true, false, Bool, refl, length, arith, ap, sym}
use Rattle.std.specs.Prelude.{slice_set, replicate}
use Rattle.std.specs.List.{list_any}
use Rattle.std.proofs.lemmas.Grind.{common_steps}
use Rattle.std.proofs.lemmas.Bool.Decides.{nat_tests}
use Rattle.std.proofs.lemmas.List.Folds.{list_any-append}
use Rattle.py_code.specs.declared.instr.Instr.{Instr}
use Rattle.py_code.specs.declared.assembly.operand.Operand.{Operand}
use Rattle.py_code.specs.declared.assembly.operand.Operand.TheVariants.{Nothing, Pushed, Slot, Record, Body, UnarySign, BinarySign, CompareSign, Place, Count, Arguments, Defaults}
use Rattle.py_code.specs.Operands.{operand_of}
use Rattle.py_code.specs.Listing.{marks, jumps_to, is_place}

any_kept : (f : Instr → Bool) (all : List Instr) (i : Instr) → f i ≡ false → list_any f (all ++ i ∷ []) ≡ list_any f all
any_kept f all i h = grind (arith, common_steps, list_any-append f all (i ∷ []))

any_more : (f : Instr → Bool) (all : List Instr) (i : Instr) → f i ≡ true → list_any f (all ++ i ∷ []) ≡ true
any_more f all i h = grind (arith, common_steps, list_any-append f all (i ∷ []))

-- places that it doesn't name
pub marks_kept : (all : List Instr) (i : Instr) (p : ℕ) (is : List Instr) →
    ((q : ℕ) → p ≤ q → q < p + length is → jumps_to q i ≡ false) → marks (all ++ i ∷ []) p is ≡ marks all p is
unfolding marks
marks_kept all i p [] h = refl
marks_kept all i p (x ∷ is) h =
    let here : jumps_to p i ≡ false = h p (omega arith) (omega arith) in
    let more : marks (all ++ i ∷ []) (p + 1) is ≡ marks all (p + 1) is =
    marks_kept all i (p + 1) is (λ q a b. h q (omega arith) (omega arith)) in
    cc (any_kept (jumps_to p) all i here)

-- the place that it names
pub marks_set : (all : List Instr) (i : Instr) (p : ℕ) (is : List Instr) (t : ℕ) → t < length is →
    ((q : ℕ) → jumps_to q i ≡ (p + t == q)) → slice_set (marks all p is) t true ≡ marks (all ++ i ∷ []) p is
unfolding marks
marks_set all i p [] t within h = absurd (omega arith)
marks_set all i p (x ∷ is) zero within h =
    let here : jumps_to p i ≡ true = grind (arith, nat_tests, h p) in
    let more : marks (all ++ i ∷ []) (p + 1) is ≡ marks all (p + 1) is =
    marks_kept all i (p + 1) is (λ q a b. grind (arith, nat_tests, h q)) in
    cc (any_more (jumps_to p) all i here)
marks_set all i p (x ∷ is) (suc t) within h =
    let here : jumps_to p i ≡ false = grind (arith, nat_tests, h p) in
    let more : slice_set (marks all (p + 1) is) t true ≡ marks (all ++ i ∷ []) (p + 1) is =
    marks_set all i (p + 1) is t (omega arith) (λ q. grind (arith, nat_tests, h q)) in
    cc (any_kept (jumps_to p) all i here)

-- before the first instruction no place is named
pub unmarked : (p : ℕ) (is : List Instr) → replicate (length is) false ≡ marks [] p is
unfolding marks
unmarked p [] = refl
unmarked p (x ∷ is) = cc (unmarked (p + 1) is)

long : (all : List Instr) (p : ℕ) (is : List Instr) → length (marks all p is) ≡ length is
unfolding marks
long all p [] = refl
long all p (x ∷ is) = let k = long all (p + 1) is in omega (arith, k)

-- what an instruction with one of these operands names
names_place : (i : Instr) (t : ℕ) → operand_of i ≡ Place t → (q : ℕ) → jumps_to q i ≡ (t == q)
names_place i t e q = ap (is_place q) e

-- the marks before an instruction and behind it
pub mark_set : (i : Instr) (t : ℕ) (named : List Bool) → operand_of i ≡ Place t → t < length named →
    (all is : List Instr) → named ≡ marks all 0 is → slice_set named t true ≡ marks (all ++ i ∷ []) 0 is
mark_set i t named e lt all is h =
    let k = long all 0 is in
    let n = ap length h in
    ap (λ ms. slice_set ms t true) h ∙ marks_set all i 0 is t (omega (arith, k, n, lt))
    (λ q. let z : 0 + t ≡ t = omega arith in names_place i t e q ∙ ap (λ y. y == q) (sym z))

pub mark_past : (i : Instr) (t : ℕ) (named : List Bool) → operand_of i ≡ Place t → length named ≤ t →
    (all is : List Instr) → named ≡ marks all 0 is → named ≡ marks (all ++ i ∷ []) 0 is
mark_past i t named e le all is h =
    let k = long all 0 is in
    let n = ap length h in
    h ∙ sym (marks_kept all i 0 is (λ q a b. let m = names_place i t e q in grind (arith, nat_tests, m, k, n, le, b)))

is_other : (o : Operand) → ((t : ℕ) → o ≡ Place t → ⊥) → (q : ℕ) → is_place q o ≡ false
is_other Nothing h q = refl
is_other (Pushed k) h q = refl
is_other (Slot s) h q = refl
is_other (Record r) h q = refl
is_other (Body f) h q = refl
is_other (UnarySign o) h q = refl
is_other (BinarySign o) h q = refl
is_other (CompareSign o) h q = refl
is_other (Place t) h q = absurd (h t refl)
is_other (Count n) h q = refl
is_other (Arguments n l) h q = refl
is_other (Defaults f n) h q = refl

pub mark_none : (i : Instr) (named : List Bool) → ((t : ℕ) → operand_of i ≡ Place t → ⊥) → (all is : List Instr) →
    named ≡ marks all 0 is → named ≡ marks (all ++ i ∷ []) 0 is
mark_none i named other all is h = h ∙ sym (marks_kept all i 0 is (λ q a b. is_other (operand_of i) other q))
