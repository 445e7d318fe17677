-- SETUP is looked for instruction by instruction.
use Rattle.std.proofs.Common.{◌≡◌, ◌∙◌, ◌↔◌, zero, suc, List, [], ◌∷◌, Bool, true, false, Some, ap, sym, refl}
use Rattle.std.specs.Prelude.{if◌then◌else◌, IsTrue}
use Rattle.py_code.specs.declared.instr.Instr.{Instr}
use Rattle.py_code.specs.declared.instr.Instr.TheVariants.{Setup, Const, Pop, Dup, Rot2, Dup2, Rot3, LoadLocal, StoreLocal, DelLocal, LoadGlobal, StoreGlobal, DelGlobal, LoadName, StoreName, DelName, LoadAttr, StoreAttr, DelAttr, LoadMethod, LoadItem, StoreItem, DelItem, Slice, Unary, Not, Binary, InPlace, Compare, Jump, JumpFalse, KeepFalse, KeepTrue, BuildTuple, BuildList, BuildDict, Unpack, Iter, Next, Call, CallMethod, Return, MakeFunction, ClassBody, Try, PopTry, ExcMatch, MakeRaised, Raise, PrintItem, PrintNewline}
use Rattle.py_code.specs.Typing.{HasNoSetup}
use Rattle.py_verify.specs.inner.Tests.{is_setup, no_setup}

setup_is : (i : Instr) → is_setup i ≡ true → i ≡ Setup
setup_is Setup h = refl
setup_is (Const a) h = absurd (cc)
setup_is Pop h = absurd (cc)
setup_is Dup h = absurd (cc)
setup_is Rot2 h = absurd (cc)
setup_is Dup2 h = absurd (cc)
setup_is Rot3 h = absurd (cc)
setup_is (LoadLocal a) h = absurd (cc)
setup_is (StoreLocal a) h = absurd (cc)
setup_is (DelLocal a) h = absurd (cc)
setup_is (LoadGlobal a) h = absurd (cc)
setup_is (StoreGlobal a) h = absurd (cc)
setup_is (DelGlobal a) h = absurd (cc)
setup_is (LoadName a) h = absurd (cc)
setup_is (StoreName a) h = absurd (cc)
setup_is (DelName a) h = absurd (cc)
setup_is (LoadAttr a) h = absurd (cc)
setup_is (StoreAttr a) h = absurd (cc)
setup_is (DelAttr a) h = absurd (cc)
setup_is (LoadMethod a) h = absurd (cc)
setup_is LoadItem h = absurd (cc)
setup_is StoreItem h = absurd (cc)
setup_is DelItem h = absurd (cc)
setup_is Slice h = absurd (cc)
setup_is (Unary a) h = absurd (cc)
setup_is Not h = absurd (cc)
setup_is (Binary a) h = absurd (cc)
setup_is (InPlace a) h = absurd (cc)
setup_is (Compare a) h = absurd (cc)
setup_is (Jump a) h = absurd (cc)
setup_is (JumpFalse a) h = absurd (cc)
setup_is (KeepFalse a) h = absurd (cc)
setup_is (KeepTrue a) h = absurd (cc)
setup_is (BuildTuple a) h = absurd (cc)
setup_is (BuildList a) h = absurd (cc)
setup_is (BuildDict a) h = absurd (cc)
setup_is (Unpack a) h = absurd (cc)
setup_is Iter h = absurd (cc)
setup_is (Next a) h = absurd (cc)
setup_is (Call a b) h = absurd (cc)
setup_is (CallMethod a b) h = absurd (cc)
setup_is Return h = absurd (cc)
setup_is (MakeFunction a b) h = absurd (cc)
setup_is (ClassBody a) h = absurd (cc)
setup_is (Try a) h = absurd (cc)
setup_is PopTry h = absurd (cc)
setup_is ExcMatch h = absurd (cc)
setup_is (MakeRaised a) h = absurd (cc)
setup_is Raise h = absurd (cc)
setup_is PrintItem h = absurd (cc)
setup_is PrintNewline h = absurd (cc)

none_from : (is : List Instr) → no_setup is ≡ true → HasNoSetup is
none_from [] h p e = absurd (cc)
none_from (i ∷ is) h p e = by_test (is_setup i) refl h (none_from is) p e
  where
    by_test : (b : Bool) → is_setup i ≡ b → (if b then false else no_setup is) ≡ true →
        (no_setup is ≡ true → HasNoSetup is) → HasNoSetup (i ∷ is)
    by_test true a g more p e = absurd (cc)
    by_test false a g more zero e = let k : i ≡ Setup = cc in let m : is_setup i ≡ true = ap is_setup k in absurd (cc)
    by_test false a g more (suc p) e = more g p e

none_to : (is : List Instr) → HasNoSetup is → no_setup is ≡ true
none_to [] h = refl
none_to (i ∷ is) h = by_test (is_setup i) refl (none_to is (λ p e. h (suc p) e))
  where
    by_test : (b : Bool) → is_setup i ≡ b → no_setup is ≡ true → (if b then false else no_setup is) ≡ true
    by_test true a more = absurd (h zero (ap Some (setup_is i a)))
    by_test false a more = more

pub none_iff : (b : Bool) (is : List Instr) → b ≡ no_setup is → IsTrue b ↔ HasNoSetup is
none_iff b is e = (λ h. none_from is (sym e ∙ h), λ h. e ∙ none_to is h)
