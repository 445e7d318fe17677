-- A core stands for a state again after moves.
use Rattle.std.proofs.Common.{◌≡◌, ℕ, List, None, refl, sym, ◌∙◌, ap, subst}
use Rattle.py_data.specs.Heap.{Heap}
use Rattle.lock_run.specs.RunState.{first_world}
use Rattle.lock_run.specs.Prog.{Prog}
use Rattle.lock_run.specs.Machine.{begin_with}
use Rattle.seg_store.specs.Meaning.{Meaning}
use Rattle.stm_segment.specs.declared.books.Books.{Books}
use Rattle.stm_core.specs.Outside.{Outer, OuterMove, OuterFollows}
use Rattle.stm_segment.specs.Devices.{DeviceState, Tells}
use Rattle.stm_segment.specs.Books.{Worlds, broken_of, core_of}
use Rattle.stm_core.specs.SaneCore.{StandsFor, SaneCore, LeadsBetween}
use Rattle.stm_core.specs.Good.{Good}
use Rattle.stm_core.proofs.OutsideLemmas.{kept_after}

module _ {S : Type 0} (p : Prog S) (most : ℕ) (first d d1 : DeviceState) (m m1 : Meaning) (b b1 : Books S)
    (o : Outer S) (s : StandsFor p most first d m b o) where
  -- moves lead from the state for which it stood to one which store, books and devices are
  pub stands_after : (o1 : Outer S) (w : Worlds) (ms : List (OuterMove S)) → OuterFollows p most o ms o1 →
      o1.core ≡ core_of w m1 b1 → o1.broken ≡ broken_of b1.broken → Tells first.out first.err d1 o1.told →
      (b1.broken ≡ None → o1.told.mid ≡ d1.mid)
      → StandsFor p most first d1 m1 b1 o1
  stands_after o1 w ms f core broken tells mid =
      record {
        worlds = w;
        core = core;
        broken = broken;
        tells = tells;
        mid = mid;
        kept =
            kept_after p (begin_with p (first_world first.input first.ends)) most o o1 ms s.kept f;
      }

-- where nothing was told and no step broke
pub stands_told : {S : Type 0} (p : Prog S) (most : ℕ) (first d : DeviceState) (m m1 : Meaning) (b b1 : Books S)
    (o : Outer S) (s : StandsFor p most first d m b o) (w : Worlds) → b1.broken ≡ b.broken → (ms : List (OuterMove S))
    → OuterFollows p most o ms (record o { core = core_of w m1 b1 }) →
    StandsFor p most first d m1 b1 (record o { core = core_of w m1 b1 })
stands_told p most first d m m1 b b1 o s w same ms f =
    stands_after p most first d d m m1 b b1 o s (record o { core = core_of w m1 b1 }) w ms f refl
    (s.broken ∙ ap broken_of (sym same)) s.tells (λ n. s.mid (sym same ∙ n))

-- the state for which it stands is good, in its worlds
pub good_now : {S : Type 0} {p : Prog S} {sound : Heap → List S → Type 0} {most : ℕ} {first d : DeviceState}
    {m : Meaning} {b : Books S} (s : SaneCore p sound most first d m b) →
    Good p (begin_with p (first_world first.input first.ends)) most (core_of s.stands.worlds m b)
good_now {p = p} {most = most} {first = first} s =
    subst (Good p (begin_with p (first_world first.input first.ends)) most)
    s.stands.core s.stands.kept.good

-- one call and then another
pub leads_then : {S : Type 0} {A B C : Outer S → Type 0} {f g h : Outer S → Outer S → Type 0} →
    ((a b c : Outer S) → f a b → g b c → h a c) → LeadsBetween A B f → LeadsBetween B C g → LeadsBetween A C h
leads_then both x y o a = let u = x o a in let v = y u.0 u.1 in (v.0, v.1, both o u.0 v.0 u.2 v.2)
