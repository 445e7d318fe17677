-- What holds of an instruction wherever it stands in its code follows from where it stands: the rows of `Belongs`.
use Rattle.std.proofs.Common.{◌≡◌, ◌∙◌, ◌||◌, ℕ, zero, suc, ◌+◌, ◌<◌, List, [], ◌∷◌, Some, None, Bool, true, false, cond, not, nat_lt, refl, sym, ap, subst, arith, length, get_or, unwrap_or}
use Rattle.std.specs.Prelude.{All, slice_get}
use Rattle.std.specs.List.{list_any, position_or_len}
use Rattle.std.specs.Str.{bytes_eq}
use Rattle.std.proofs.lemmas.Bool.{eqb-true, ltb-true}
use Rattle.std.proofs.lemmas.List.Elements.{All-nil, All-cons}
use Rattle.py_code.specs.declared.instr.Instr.{Instr}
use Rattle.py_code.specs.declared.instr.Instr.TheVariants.{Setup, Const, Pop, Dup, Rot2, Dup2, Rot3, LoadLocal, StoreLocal, DelLocal, LoadGlobal, StoreGlobal, DelGlobal, LoadName, StoreName, DelName, LoadAttr, StoreAttr, DelAttr, LoadMethod, LoadItem, StoreItem, DelItem, Slice, Unary, Not, Binary, InPlace, Compare, Jump, JumpFalse, KeepFalse, KeepTrue, BuildTuple, BuildList, BuildDict, Unpack, Iter, Next, Call, CallMethod, Return, MakeFunction, ClassBody, Try, PopTry, ExcMatch, MakeRaised, Raise, PrintItem, PrintNewline}
use Rattle.py_code.specs.declared.program.Root.{Root}
use Rattle.py_code.specs.declared.program.Code.{Code}
use Rattle.py_code.specs.Typing.{HasNoSetup}
use Rattle.py_code.specs.Right.{opens_body, is_body, HasCellAt, Belongs, names_of}
use Rattle.py_templates.specs.Names.{number_in}
use Rattle.py_base.specs.NameLists.{has}
use Rattle.py_templates.proofs.ExprInduct.{Every}
use Rattle.py_templates.proofs.Homes.{any_place}
use Rattle.compiler_laws.proofs.Fit.{Fit}

-- what holds of each instruction
pub no_setup : (ok : ℕ → Type 0) (flags : ℕ → Bool) (z : Bool) (is : List Instr) → Every (Fit ok flags z) is →
    HasNoSetup is
no_setup ok flags z [] h p e = absurd (cc)
no_setup ok flags z (i ∷ is) h zero e = let k : i ≡ Setup = cc in absurd (subst (Fit ok flags z) k h.0)
no_setup ok flags z (i ∷ is) h (suc p) e = no_setup ok flags z is h.1 p e

pub every_all : (P Q : Instr → Type 0) → ((i : Instr) → P i → Q i) → (is : List Instr) → Every P is → All Q is
every_all P Q f [] h = All-nil Q
every_all P Q f (i ∷ is) h = All-cons Q i is (f i h.0) (every_all P Q f is h.1)

-- where no code of a class body is f, nothing opens it
opens_not : (ok : ℕ → Type 0) (flags : ℕ → Bool) (z : Bool) (f : ℕ) (i : Instr) → Fit ok flags z i → flags f ≡ false →
    opens_body f i ≡ true → false ≡ true
opens_not ok flags z f (ClassBody g) q e o = let k : g ≡ f = eqb-true g f o in let m : flags f ≡ true =
    subst (λ x. flags x ≡ true) k q.1 in sym e ∙ m
opens_not ok flags z f Setup q e o = o
opens_not ok flags z f (Const a) q e o = o
opens_not ok flags z f Pop q e o = o
opens_not ok flags z f Dup q e o = o
opens_not ok flags z f Rot2 q e o = o
opens_not ok flags z f Dup2 q e o = o
opens_not ok flags z f Rot3 q e o = o
opens_not ok flags z f (LoadLocal a) q e o = o
opens_not ok flags z f (StoreLocal a) q e o = o
opens_not ok flags z f (DelLocal a) q e o = o
opens_not ok flags z f (LoadGlobal a) q e o = o
opens_not ok flags z f (StoreGlobal a) q e o = o
opens_not ok flags z f (DelGlobal a) q e o = o
opens_not ok flags z f (LoadName a) q e o = o
opens_not ok flags z f (StoreName a) q e o = o
opens_not ok flags z f (DelName a) q e o = o
opens_not ok flags z f (LoadAttr a) q e o = o
opens_not ok flags z f (StoreAttr a) q e o = o
opens_not ok flags z f (DelAttr a) q e o = o
opens_not ok flags z f (LoadMethod a) q e o = o
opens_not ok flags z f LoadItem q e o = o
opens_not ok flags z f StoreItem q e o = o
opens_not ok flags z f DelItem q e o = o
opens_not ok flags z f Slice q e o = o
opens_not ok flags z f (Unary a) q e o = o
opens_not ok flags z f Not q e o = o
opens_not ok flags z f (Binary a) q e o = o
opens_not ok flags z f (InPlace a) q e o = o
opens_not ok flags z f (Compare a) q e o = o
opens_not ok flags z f (Jump a) q e o = o
opens_not ok flags z f (JumpFalse a) q e o = o
opens_not ok flags z f (KeepFalse a) q e o = o
opens_not ok flags z f (KeepTrue a) q e o = o
opens_not ok flags z f (BuildTuple a) q e o = o
opens_not ok flags z f (BuildList a) q e o = o
opens_not ok flags z f (BuildDict a) q e o = o
opens_not ok flags z f (Unpack a) q e o = o
opens_not ok flags z f Iter q e o = o
opens_not ok flags z f (Next a) q e o = o
opens_not ok flags z f (Call a b) q e o = o
opens_not ok flags z f (CallMethod a b) q e o = o
opens_not ok flags z f Return q e o = o
opens_not ok flags z f (MakeFunction a b) q e o = o
opens_not ok flags z f (Try a) q e o = o
opens_not ok flags z f PopTry q e o = o
opens_not ok flags z f ExcMatch q e o = o
opens_not ok flags z f (MakeRaised a) q e o = o
opens_not ok flags z f Raise q e o = o
opens_not ok flags z f PrintItem q e o = o
opens_not ok flags z f PrintNewline q e o = o

pub opens_none : (ok : ℕ → Type 0) (flags : ℕ → Bool) (z : Bool) (f : ℕ) (is : List Instr) → Every (Fit ok flags z) is
    → flags f ≡ false → list_any (opens_body f) is ≡ false
opens_none ok flags z f [] h e = refl
opens_none ok flags z f (i ∷ is) h e = by_test (opens_body f i) refl (opens_none ok flags z f is h.1 e)
  where
    by_test : (b : Bool) → opens_body f i ≡ b → list_any (opens_body f) is ≡ false →
        (b || list_any (opens_body f) is) ≡ false
    by_test true o m = let k = opens_not ok flags z f i h.0 e o in absurd (cc)
    by_test false o m = m

-- what fits in a body belongs in its code
pub belongs_from : (cs : List Code) (rs : List Root) (j : ℕ) (flags : ℕ → Bool) (z : Bool) →
    (z ≡ true → is_body cs j ≡ true) → ((f : ℕ) → flags f ≡ false → is_body cs f ≡ false) → (i : Instr) →
    Fit (λ r. HasCellAt (names_of rs) (slice_get rs r)) flags z i → Belongs cs rs j i
belongs_from cs rs j flags z own other (LoadName a) h = (own h.0, h.1)
belongs_from cs rs j flags z own other (StoreName a) h = own h
belongs_from cs rs j flags z own other (DelName a) h = own h
belongs_from cs rs j flags z own other (MakeFunction a b) h = (h.0, other a h.1)
belongs_from cs rs j flags z own other (ClassBody a) h = h.0
belongs_from cs rs j flags z own other Setup h = absurd h
belongs_from cs rs j flags z own other (Const a) h = tt
belongs_from cs rs j flags z own other Pop h = tt
belongs_from cs rs j flags z own other Dup h = tt
belongs_from cs rs j flags z own other Rot2 h = tt
belongs_from cs rs j flags z own other Dup2 h = tt
belongs_from cs rs j flags z own other Rot3 h = tt
belongs_from cs rs j flags z own other (LoadLocal a) h = tt
belongs_from cs rs j flags z own other (StoreLocal a) h = tt
belongs_from cs rs j flags z own other (DelLocal a) h = tt
belongs_from cs rs j flags z own other (LoadGlobal a) h = tt
belongs_from cs rs j flags z own other (StoreGlobal a) h = tt
belongs_from cs rs j flags z own other (DelGlobal a) h = tt
belongs_from cs rs j flags z own other (LoadAttr a) h = tt
belongs_from cs rs j flags z own other (StoreAttr a) h = tt
belongs_from cs rs j flags z own other (DelAttr a) h = tt
belongs_from cs rs j flags z own other (LoadMethod a) h = tt
belongs_from cs rs j flags z own other LoadItem h = tt
belongs_from cs rs j flags z own other StoreItem h = tt
belongs_from cs rs j flags z own other DelItem h = tt
belongs_from cs rs j flags z own other Slice h = tt
belongs_from cs rs j flags z own other (Unary a) h = tt
belongs_from cs rs j flags z own other Not h = tt
belongs_from cs rs j flags z own other (Binary a) h = tt
belongs_from cs rs j flags z own other (InPlace a) h = tt
belongs_from cs rs j flags z own other (Compare a) h = tt
belongs_from cs rs j flags z own other (Jump a) h = tt
belongs_from cs rs j flags z own other (JumpFalse a) h = tt
belongs_from cs rs j flags z own other (KeepFalse a) h = tt
belongs_from cs rs j flags z own other (KeepTrue a) h = tt
belongs_from cs rs j flags z own other (BuildTuple a) h = tt
belongs_from cs rs j flags z own other (BuildList a) h = tt
belongs_from cs rs j flags z own other (BuildDict a) h = tt
belongs_from cs rs j flags z own other (Unpack a) h = tt
belongs_from cs rs j flags z own other Iter h = tt
belongs_from cs rs j flags z own other (Next a) h = tt
belongs_from cs rs j flags z own other (Call a b) h = tt
belongs_from cs rs j flags z own other (CallMethod a b) h = tt
belongs_from cs rs j flags z own other Return h = tt
belongs_from cs rs j flags z own other (Try a) h = tt
belongs_from cs rs j flags z own other PopTry h = tt
belongs_from cs rs j flags z own other ExcMatch h = tt
belongs_from cs rs j flags z own other (MakeRaised a) h = tt
belongs_from cs rs j flags z own other Raise h = tt
belongs_from cs rs j flags z own other PrintItem h = tt
belongs_from cs rs j flags z own other PrintNewline h = tt

-- the string that a number of a name is
pub number_is : (x : List ℕ) (ns : List (List ℕ)) (d : List ℕ) → has x ns ≡ true →
    (number_in x ns < length ns) × (bytes_eq x (get_or ns (number_in x ns) d) ≡ true)
number_is x ns d h =
    let e : nat_lt (position_or_len (bytes_eq x) ns) (length ns) ≡ true = sym (any_place (bytes_eq x) ns) ∙ h in
    let l = ltb-true (position_or_len (bytes_eq x) ns) (length ns) e in
    let n : number_in x ns ≡ position_or_len (bytes_eq x) ns =
    ap (λ b. unwrap_or (cond b (Some (position_or_len (bytes_eq x) ns)) None) 0) e in (
      subst (λ i. i < length ns) (sym n) l,
      subst (λ i. bytes_eq x (get_or ns i d) ≡ true) (sym n)
          (first_is (bytes_eq x) ns d l),
    )
  where
    first_is : (p : List ℕ → Bool) (ns : List (List ℕ)) (d : List ℕ) → position_or_len p ns < length ns →
        p (get_or ns (position_or_len p ns) d) ≡ true
    first_is p [] d lt = absurd (omega (arith, lt))
    first_is p (y ∷ ys) d lt = by_test (p y) refl lt (first_is p ys d)
      where
        by_test : (b : Bool) → p y ≡ b → cond (not b) (1 + position_or_len p ys) 0 < suc (length ys) →
            (position_or_len p ys < length ys → p (get_or ys (position_or_len p ys) d) ≡ true) →
            p (get_or (y ∷ ys) (cond (not b) (1 + position_or_len p ys) 0) d) ≡ true
        by_test true e lt more = e
        by_test false e lt more = let k : suc (position_or_len p ys) ≡ 1 + position_or_len p ys = omega arith in
            subst (λ i. p (get_or (y ∷ ys) i d) ≡ true) k (more (omega (arith, lt)))
