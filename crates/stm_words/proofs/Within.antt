-- Options have their numbers in their ranges.
use Rattle.std.proofs.Common.{◌≡◌, ◌≤◌, ℕ, Bool, true, false, refl, subst, List, [], ◌∷◌, Option, Some, None, codes, arith, nat_le, ◌&&◌}
use Rattle.std.specs.Prelude.{if◌then◌else◌, option_and_then, option_map}
use Rattle.std.specs.Str.{bytes_eq}
use Rattle.std.proofs.lemmas.Bool.Decides.{nat_tests}
use Rattle.stm_words.specs.declared.call.Options.{Options}
use Rattle.stm_words.specs.declared.call.Script.{Script}
use Rattle.stm_words.specs.declared.call.Script.TheVariants.{Source, File, Demo}
use Rattle.stm_words.proofs.Meaning.{options_by}
use Rattle.stm_words.specs.Options.{Given, IsScript, IsWithin, in_range, number, number_or, numeral, options_from, script_at, script_of}

abbrev Between : (least most : ℕ) → Option ℕ → Type 0
Between least most None = Unit {0}
Between least most (Some n) = (least ≤ n) × (n ≤ most)

ranged : (least most n : ℕ) → Between least most (in_range least most n)
ranged least most n = go (nat_le least n) refl (nat_le n most) refl
  where
    go : (a : Bool) → nat_le least n ≡ a → (b : Bool) → nat_le n most ≡ b
        → Between least most (if nat_le least n && nat_le n most then Some n else None)
    go true p true q =
        let low : least ≤ n = grind (arith, nat_tests) in
        let high : n ≤ most = grind (arith, nat_tests) in
        rw (p, q) (low, high)
    go true p false q = rw (p, q) tt
    go false p b q = rw p tt

numbered : (least most : ℕ) (n : Option ℕ) → Between least most (option_and_then (in_range least most) n)
numbered least most None = tt
numbered least most (Some n) = ranged least most n

given_number : (usual least most : ℕ) (vs : List (List ℕ)) → least ≤ usual → usual ≤ most
    → Between least most (number_or usual least most vs)
given_number usual least most [] low high = (low, high)
given_number usual least most (v ∷ []) low high = numbered least most (numeral v)
given_number usual least most (v ∷ w ∷ vs) low high = tt

abbrev IsRight : Option Script → Type 0
IsRight None = Unit {0}
IsRight (Some s) = IsScript s

placed : (v : List ℕ) → IsRight (script_at v)
placed [] = tt
placed (b ∷ bs) = go (bytes_eq (b ∷ bs) (codes "-")) refl
  where
    go : (x : Bool) → bytes_eq (b ∷ bs) (codes "-") ≡ x → IsScript (if x then Source else File (b ∷ bs))
    go true e = tt
    go false e = (omega arith, e)

worked : (n : Option ℕ) → Between 0 1000000 n → IsRight (option_map Demo n)
worked None h = tt
worked (Some n) h = h.1

right_script : (files demos : List (List ℕ)) → IsRight (script_of files demos)
right_script [] [] = tt
right_script [] (d ∷ []) = worked (number 0 1000000 d) (numbered 0 1000000 (numeral d))
right_script [] (d ∷ e ∷ ds) = tt
right_script (f ∷ []) [] = placed f
right_script (f ∷ []) (d ∷ ds) = tt
right_script (f ∷ g ∷ fs) ds = tt

abbrev AreWithin : Option Options → Type 0
AreWithin None = Unit {0}
AreWithin (Some o) = IsWithin o

within_by : (o : Option Script) (s l p b : Option ℕ) → IsRight o → Between 1 8 s → Between 1 1000000 l
    → Between 1 65536 p → Between 1 1000000000000000 b
    → AreWithin (options_by o s l p b)
within_by None s l p b ho hs hl hp hb = tt
within_by (Some o) None l p b ho hs hl hp hb = tt
within_by (Some o) (Some s) None p b ho hs hl hp hb = tt
within_by (Some o) (Some s) (Some l) None b ho hs hl hp hb = tt
within_by (Some o) (Some s) (Some l) (Some p) None ho hs hl hp hb = tt
within_by (Some o) (Some s) (Some l) (Some p)
    (Some b) ho hs hl hp hb = record { script = ho; segments = hs; steps = hl; pages = hp; budget = hb }

are_within : (g : Given) → AreWithin (options_from g)
are_within g = within_by (script_of g.files g.demos) (number_or 4 1 8 g.segments) (number_or 1000 1 1000000 g.lengths)
    (number_or 16384 1 65536 g.pages)
    (number_or 1000000000000 1 1000000000000000 g.budgets) (right_script g.files g.demos)
    (given_number 4 1 8 g.segments (omega arith) (omega arith))
    (given_number 1000 1 1000000 g.lengths (omega arith) (omega arith))
    (given_number 16384 1 65536 g.pages (omega arith) (omega arith))
    (given_number 1000000000000 1 1000000000000000 g.budgets (omega arith) (omega arith))

pub is_within : (g : Given) (o : Options) → options_from g ≡ Some o → IsWithin o
is_within g o e = subst AreWithin e (are_within g)
