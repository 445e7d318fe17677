-- What a program has at a number that is past its end.
use Rattle.std.proofs.Common.{arith, ◌≡◌, ℕ, zero, suc, ◌+◌, Bool, true, false, List, [], ◌∷◌, None, Some, Option, option_map, refl, ap, subst, add-zero, ◌∙◌, slice_get, get_or, if◌then◌else◌}
use Rattle.std.specs.Str.{bytes_eq}
use Rattle.py_base.specs.Numbers.{number_from}
use Rattle.py_code.specs.declared.program.Code.{Code}
use Rattle.py_code.specs.declared.program.Program.{Program}
use Rattle.py_code.specs.declared.program.Root.{Root}
use Rattle.py_code.specs.Right.{first_text, names_of, texts_of}
use Rattle.py_frames.specs.GlobalRows.{cell_number, first_cell, text_number}
use Rattle.py_frames.specs.State.{no_code, code_at, no_root, root_name}

pub none_at : {A : Type 0} (xs : List A) (i : ℕ) (d : A) → None ≡ slice_get xs i → d ≡ get_or xs i d
none_at [] i d e = refl
none_at (x ∷ xs) zero d e = absurd (let q : ◌≡◌ {A = Option _} None (Some x) = e in cc)
none_at (x ∷ xs) (suc i) d e = none_at xs i d e

pub root_none : (p : Program) (n : ℕ) → None ≡ slice_get p.roots n → ◌≡◌ {A = List ℕ} [] (root_name p n)
root_none p n e = let f : Root → List ℕ = λ r. r.bytes in ap f (none_at p.roots n no_root e)

pub slots_none : (p : Program) (n : ℕ) → None ≡ slice_get p.codes n → ◌≡◌ {A = List (List ℕ)} [] (code_at p n).slots
slots_none p n e = let f : Code → List (List ℕ) = λ c. c.slots in ap f (none_at p.codes n no_code e)

pub params_none : (p : Program) (n : ℕ) → None ≡ slice_get p.codes n → 0 ≡ (code_at p n).params
params_none p n e = let f : Code → ℕ = λ c. c.params in ap f (none_at p.codes n no_code e)

number_step : (a n : ℕ) (b : Bool) (o q : Option ℕ) → q ≡ option_map (λ k. a + k) o →
    (if b then Some (a + n) else q) ≡ option_map (λ k. a + k) (if b then Some n else o)
number_step a n true o q e = refl
number_step a n false o q e = e

-- the number of a name, where the names are numbered from another number on
pub number_later : (a n : ℕ) (xs : List (List ℕ)) (x : List ℕ) →
    number_from (a + n) xs x ≡ option_map (λ k. a + k) (number_from n xs x)
number_later a n [] x = refl
number_later a n (y ∷ ys) x = number_step a n (bytes_eq y x) (number_from (n + 1) ys x) (number_from (a + n + 1) ys x)
    (subst (λ m. number_from m ys x ≡ option_map (λ k. a + k) (number_from (n + 1) ys x)) (omega arith)
    (number_later a (n + 1) ys x))

pub text_numbered : (p : Program) (text : List ℕ) → number_from first_text (texts_of p.roots) text ≡ text_number p text
text_numbered p text = number_later first_text 0 (texts_of p.roots) text

pub name_none : (p : Program) (n : ℕ) → None ≡ slice_get p.codes n → ◌≡◌ {A = List ℕ} [] (code_at p n).name
name_none p n e = let f : Code → List ℕ = λ c. c.name in ap f (none_at p.codes n no_code e)

pub keys_none : (p : Program) (n : ℕ) → None ≡ slice_get p.codes n → ◌≡◌ {A = List (List ℕ)} [] (code_at p n).keys
keys_none p n e = let f : Code → List (List ℕ) = λ c. c.keys in ap f (none_at p.codes n no_code e)

-- the cell of a name, where the cells are numbered from the first one of a global name on
pub cell_numbered : (p : Program) (name : List ℕ) (n : ℕ) (xs : List (List ℕ)) → n ≡ first_cell p →
    xs ≡ names_of p.roots → number_from n xs name ≡ cell_number p name
cell_numbered p name n xs e q =
    let a = first_cell p in
    (λ i. number_from (e i) (q i) name)
    ∙ subst (λ m. number_from m (names_of p.roots) name ≡ cell_number p name) (add-zero a)
    (number_later a 0 (names_of p.roots) name)
