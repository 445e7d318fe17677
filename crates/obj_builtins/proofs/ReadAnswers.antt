-- The text of a number is read as that number.
use Rattle.std.proofs.Common.{arith, ◌≡◌, inl, inr, ℕ, suc, ℤ, pos, negsuc, ◌<◌, ◌≤◌, ◌==◌, ◌&&◌, Bool, true, false, cond, List, [], ◌∷◌, ◌++◌, length, refl, sym, ap, subst, ◌∙◌, append_assoc, append-nil}
use Rattle.std.specs.Fmt.{decimal, signed_decimal}
use Rattle.std.specs.Str.Parse.{AllDigits, digits_value}
use Rattle.std.proofs.lemmas.Bool.{cases_lt, cond-true, cond-false}
use Rattle.std.proofs.lemmas.Bool.Decides.{nat_tests}
use Rattle.std.proofs.lemmas.Fmt.{decimal_is_IsNumeral}
use Rattle.std.proofs.lemmas.Str.Parse.{digit_from_value, FoldsDigits, numerals_by_fold, tells_digits}
use Rattle.py_data.specs.declared.record.Got.{Got}
use Rattle.py_data.specs.declared.record.Got.TheVariants.{Is, Raise}
use Rattle.py_data.specs.declared.value.Value.{Value}
use Rattle.py_data.specs.declared.value.Value.TheVariants.{Int}
use Rattle.py_data.specs.Every.{Every}
use Rattle.py_data.specs.Looking.{Looks, bytes_row}
use Rattle.py_data.specs.Row.{Ret}
use Rattle.py_data.proofs.Looking.{looks_ret, looks_then, bytes_looks}
use Rattle.obj_class.specs.Bases.{ref}
use Rattle.obj_ops.specs.Numbers.{is_narrow, narrowed, overflow_fault}
use Rattle.obj_ops.proofs.Powers.{too_wide}
use Rattle.obj_str.specs.Pieces.{is_blank, without_front, kept, without_end, strip}
use Rattle.obj_str.proofs.BlankLemmas.{end_last}
use Rattle.obj_builtins.specs.declared.arguments.Form.{Form}
use Rattle.obj_builtins.specs.declared.arguments.Form.TheVariants.{Text}
use Rattle.obj_builtins.specs.Arguments.{form_of, form_row}
use Rattle.obj_builtins.specs.Functions.{function_row}
use Rattle.obj_builtins.specs.Laws.{IsBlank, IntLaw}
use Rattle.obj_builtins.specs.Literals.{literal_fault, is_digit, are_digits, is_numeral, value_after, with_sign, signed_number, stripped_number, text_number}
use Rattle.obj_builtins.specs.Numbers.{read_row, int_of, int_alone, int_row}
use Rattle.obj_builtins.proofs.FormLooks.{form_is}
use lib.Signed.{mag}

-- ---- blanks at both ends
abbrev IsOther : ℕ → Type 0
IsOther b = is_blank b ≡ false

front_off : (front xs : List ℕ) → Every IsBlank front → without_front (front ++ xs) ≡ without_front xs
front_off [] xs i = refl
front_off (b ∷ bs) xs i = cond-true (is_blank b) (without_front (bs ++ xs)) (b ∷ (bs ++ xs)) i.0 ∙ front_off bs xs i.1

end_off : (xs back : List ℕ) → Every IsBlank back → without_end (xs ++ back) ≡ without_end xs
end_off xs [] i = ap without_end (append-nil xs)
end_off xs (b ∷ bs) i =
    ap without_end (sym (append_assoc xs (b ∷ []) bs)) ∙
    (end_off (xs ++ b ∷ []) bs i.1 ∙ (end_last xs b ∙ cond-true (is_blank b) (without_end xs) (xs ++ b ∷ []) i.0))

end_stays : (bs : List ℕ) → Every IsOther bs → without_end bs ≡ bs
end_stays [] i = refl
end_stays (b ∷ bs) i = ap (kept b) (end_stays bs i.1) ∙ by bs
  where
    by : (bs : List ℕ) → kept b bs ≡ b ∷ bs
    by [] = cond-false (is_blank b) [] (b ∷ []) i.0
    by (x ∷ xs) = refl

stripped : (b : ℕ) (bs front back : List ℕ) → Every IsBlank front → Every IsBlank back → Every IsOther (b ∷ bs) →
    strip (front ++ ((b ∷ bs) ++ back)) ≡ b ∷ bs
stripped b bs front back f e i =
    ap without_end (front_off front ((b ∷ bs) ++ back) f ∙
    cond-false (is_blank b) (without_front (bs ++ back)) (b ∷ (bs ++ back)) i.0) ∙
    (end_off (b ∷ bs) back e ∙ end_stays (b ∷ bs) i)

-- ---- digits
digit_other : (c : ℕ) → 48 ≤ c → is_blank c ≡ false
digit_other c l = grind (arith, nat_tests)

digit_is : (c : ℕ) → 48 ≤ c → c ≤ 57 → is_digit c ≡ true
digit_is c l m = grind (arith, nat_tests)

others : (ds : List ℕ) → AllDigits 10 ds → Every IsOther ds
others [] d = tt
others (c ∷ cs) d = (digit_other c (digit_from_value c d.0).0, others cs d.1)

all_digits : (ds : List ℕ) → AllDigits 10 ds → are_digits ds ≡ true
all_digits [] d = refl
all_digits (c ∷ cs) d = let k = digit_from_value c d.0 in ap (λ b. b && are_digits cs) (digit_is c k.0 k.1) ∙
    all_digits cs d.1

numeral : (ds : List ℕ) → 0 < length ds → AllDigits 10 ds → is_numeral ds ≡ true
numeral [] l d = absurd (omega (arith, l))
numeral (c ∷ cs) l d = all_digits (c ∷ cs) d

folds : FoldsDigits value_after
folds = record { empty = λ n. refl; more = λ n c cs r. refl }

value_is : (ds : List ℕ) → AllDigits 10 ds → value_after 0 ds ≡ digits_value 10 ds
value_is ds d = (numerals_by_fold _ tells_digits value_after folds).same ds d

-- ---- numbers
narrow_is : (z : ℤ) → is_narrow z ≡ true → narrowed z ≡ Is (Int z)
unfolding narrowed
narrow_is z e = cond-true (is_narrow z) (Is (Int z)) (Raise overflow_fault) e

above : (n : ℕ) → 9_223_372_036_854_775_808 ≤ n → mag (pos n) < 9_223_372_036_854_775_808 → ⊥
above n l f = omega (arith, l, f)

under : (n : ℕ) → 9_223_372_036_854_775_808 ≤ n → mag (negsuc n) < 9_223_372_036_854_775_808 → ⊥
under n l f = omega (arith, l, f)

-- a number of 64 bits is no greater
small : (z : ℤ) (n : ℕ) → is_narrow z ≡ true → (9_223_372_036_854_775_808 ≤ n → mag z < 9_223_372_036_854_775_808 → ⊥)
    → n < 9_223_372_036_854_775_808
small z n e f =
    elim (cases_lt n 9_223_372_036_854_775_808) [
      | inl l ↦ l
      | inr l ↦ absurd (let q : ◌≡◌ {A = Got Value} (Is (Int z)) (Raise overflow_fault) = sym (narrow_is z e) ∙
          too_wide z (f l) in cc)
    ]

signed_is : (text : List ℕ) (negative : Bool) (ds : List ℕ) (n : ℕ) (z : ℤ) → 0 < length ds → AllDigits 10 ds →
    digits_value 10 ds ≡ n → with_sign negative n ≡ z → is_narrow z ≡ true → signed_number text negative ds ≡ Is (Int z)
unfolding signed_number
signed_is text negative ds n z some d v s e =
    cond-true (is_numeral ds) (narrowed (with_sign negative (value_after 0 ds))) (Raise (literal_fault text))
    (numeral ds some d)
    ∙ (ap (λ m. narrowed (with_sign negative m)) (value_is ds d ∙ v) ∙ (ap narrowed s ∙ narrow_is z e))

unlike : (d n : ℕ) → n < d → (d == n) ≡ false
unlike d n l = grind (arith, nat_tests)

-- digits alone
plain_is : (text ds : List ℕ) (n : ℕ) → 0 < length ds → AllDigits 10 ds → digits_value 10 ds ≡ n →
    is_narrow (pos n) ≡ true → stripped_number text ds ≡ Is (Int (pos n))
unfolding stripped_number
plain_is text [] n some d v e = absurd (omega (arith, some))
plain_is text (c ∷ cs) n some d v e =
    let k = digit_from_value c d.0 in
    let minus : (c == 45) ≡ false = unlike c 45 (let l = k.0 in omega (arith, l)) in
    let plus : (c == 43) ≡ false = unlike c 43 (let l = k.0 in omega (arith, l)) in
    cond-false (c == 45) (signed_number text true cs)
    (cond (c == 43) (signed_number text false cs) (signed_number text false (c ∷ cs))) minus
    ∙ (cond-false (c == 43) (signed_number text false cs) (signed_number text false (c ∷ cs)) plus ∙
    signed_is text false (c ∷ cs) n (pos n) some d v refl e)

-- behind a minus sign
minus_is : (text ds : List ℕ) (n : ℕ) → 0 < length ds → AllDigits 10 ds → digits_value 10 ds ≡ suc n →
    is_narrow (negsuc n) ≡ true → stripped_number text (45 ∷ ds) ≡ Is (Int (negsuc n))
unfolding stripped_number
minus_is text ds n some d v e = signed_is text true ds (suc n) (negsuc n) some d v refl e

reads : (text : List ℕ) (i : ℤ) → is_narrow i ≡ true → stripped_number text (signed_decimal i) ≡ Is (Int i)
reads text (pos n) e =
    let l = small (pos n) n e (above n) in
    let k = decimal_is_IsNumeral n (omega (arith, l)) in
    plain_is text (decimal n) n k.0.0 k.0.1 k.1 e
reads text (negsuc n) e =
    let l = small (negsuc n) n e (under n) in
    let k = decimal_is_IsNumeral (suc n) (omega (arith, l)) in
    minus_is text (decimal (suc n)) n k.0.0 k.0.1 k.1 e

strips : (i : ℤ) (front back : List ℕ) → is_narrow i ≡ true → Every IsBlank front → Every IsBlank back →
    strip (front ++ (signed_decimal i ++ back)) ≡ signed_decimal i
strips (pos n) front back e f b =
    let l = small (pos n) n e (above n) in
    let k = decimal_is_IsNumeral n (omega (arith, l)) in
    by (decimal n) k.0.0 (others (decimal n) k.0.1)
  where
    by : (ds : List ℕ) → 0 < length ds → Every IsOther ds → strip (front ++ (ds ++ back)) ≡ ds
    by [] l i = absurd (omega (arith, l))
    by (c ∷ cs) l i = stripped c cs front back f b i
strips (negsuc n) front back e f b =
    let l = small (negsuc n) n e (under n) in
    let k = decimal_is_IsNumeral (suc n) (omega (arith, l)) in
    stripped 45 (decimal (suc n)) front back f b (refl, others (decimal (suc n)) k.0.1)

text_is : (i : ℤ) (front back : List ℕ) → is_narrow i ≡ true → Every IsBlank front → Every IsBlank back →
    text_number (front ++ (signed_decimal i ++ back)) ≡ Is (Int i)
text_is i front back e f b =
    let text = front ++ (signed_decimal i ++ back) in
    ap (stripped_number text) (strips i front back e f b) ∙ reads text i e

pub int_law : (S : Type 0) → IntLaw S
unfolding function_row int_row int_alone int_of read_row
int_law S h roots a r i front back e k fits f b t =
    let p : Got Value → Type 0 = λ g. g ≡ Is (Int i) in
    let text : Form = Text (record { 0 = a }) in
    looks_then (λ q. q ≡ text) p (form_row (ref a)) (λ q. int_of q) h
    (subst (λ z. Looks {S = S} (λ q. q ≡ z) (form_row (ref a)) h) (ap (λ z. form_of z (record { 0 = a })) k)
    (form_is S h a r e))
    (λ q s. subst (λ z. Looks {S = S} p (int_of z) h) (sym s)
    (looks_then (λ bs. bs ≡ r.bytes) p (bytes_row a) (λ bs. Ret (text_number bs)) h (bytes_looks S h a r e)
    (λ bs s. looks_ret S p (text_number bs) h (ap text_number (s ∙ t) ∙ text_is i front back fits f b))))
