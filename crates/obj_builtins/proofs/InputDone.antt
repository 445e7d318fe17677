-- What `raw_input` writes, takes and answers.
use Rattle.std.proofs.Common.{arith, ◌≡◌, ℕ, ◌-◌, ◌≤◌, true, false, cond, List, [], ◌∷◌, length, if◌then◌else◌, Some, ap, subst, ◌∙◌}
use Rattle.std.specs.Prelude.{leb, take}
use Rattle.std.specs.Io.BufRead.{ends_with_byte, strip_last}
use Rattle.std.proofs.lemmas.Bool.Decides.{nat_tests}
use Rattle.std.proofs.lemmas.List.{length-take}
use Rattle.py_base.specs.declared.kind.Kind.TheVariants.{Str}
use Rattle.py_data.specs.declared.value.Value.{Value}
use Rattle.py_data.specs.declared.record.Got.{Got}
use Rattle.py_data.specs.declared.record.Got.TheVariants.{Is, Raise}
use Rattle.py_data.specs.declared.record.TheConstants.{LENGTH_LIMIT}
use Rattle.py_data.specs.Fault.{memory_fault}
use Rattle.py_data.specs.Heap.{new_rec}
use Rattle.py_data.specs.Looking.{got_row}
use Rattle.py_data.specs.Row.{Ret, Take}
use Rattle.py_data.specs.Sense.{Run}
use Rattle.py_data.specs.Sight.{Sight, Does, pure}
use Rattle.py_data.specs.World.{World}
use Rattle.py_data.proofs.Grow.{with_rec_here}
use Rattle.py_data.proofs.Holding.{act_effect}
use Rattle.py_data.proofs.Rows.{bind_run}
use Rattle.obj_class.specs.Bases.{ref}
use Rattle.obj_class.specs.Telling.{told_row}
use Rattle.obj_str.specs.Strings.{made_text, new_text}
use Rattle.obj_builtins.specs.Input.{ask_row, input_row, line_limit, line_row, prompt_row, take_row}
use Rattle.obj_builtins.specs.InputLaws.{IsRead, IsTaken, IsAsked, IsPrompted, InputLaw, prompted}

strip_short : (l : List ℕ) → length (strip_last 10 l) ≤ length l
strip_short l = elim (ends_with_byte 10 l) as (λ b. length (if b then take (length l - 1) l else l) ≤ length l)
    [ true ↦ omega (arith, length-take (length l - 1) l) | false ↦ omega arith ]

fits : (n : ℕ) → n ≤ line_limit → leb n LENGTH_LIMIT ≡ true
fits n i = grind (arith, nat_tests)

module _ {S : Type 0} where
  -- a new string
  string_done : (bs : List ℕ) (m t : Sight S) (y : Got Value) → leb (length bs) LENGTH_LIMIT ≡ true →
      Does (new_text bs) m y t → (t.world ≡ m.world) × (a : ℕ) × (y ≡ Is (ref a)) ×
      (t.heap a ≡ Some (new_rec Str [] bs))
  unfolding new_text Run
  string_done bs m t y e d =
      let r = subst (λ b. Run {S = S} pure (cond b (made_text bs) (Ret (Raise memory_fault))) m y t) e d in
      let same = r.3.1 ∙ r.2.1 in
      (ap (λ z. z.world) same, r.0, r.3.0, ap (λ z. z.heap r.0) same ∙ with_rec_here r.0 (new_rec Str [] bs) m.heap)

  -- of a line
  line_done : (l : List ℕ) (m t : Sight S) (y : Got Value) → length l ≤ line_limit → Does (line_row l) m y t →
      (t.world ≡ m.world) × IsRead l y t.heap
  unfolding line_row Run
  line_done [] m t y i d = (ap (λ z. z.world) d.1, d.0)
  line_done (x ∷ xs) m t y i d =
      let short = strip_short (x ∷ xs) in
      let r = string_done (strip_last 10 (x ∷ xs)) m t y
      (fits (length (strip_last 10 (x ∷ xs))) (omega (arith, short, i))) d in
      (r.0, (r.1, r.2, r.3))

  take_done : (s t : Sight S) (y : Got Value) → Does take_row s y t → IsTaken s.world y t
  unfolding take_row Run
  take_done s t y d =
      let e = act_effect (Take line_limit) s d.0 d.1 d.2 in
      let n = line_done d.0 d.1 t y e.0 d.3 in
      record { line = d.0; next = d.2.0; world = n.0 ∙ ap (λ z. z.world) d.2.1; read = n.1 }

  prompt_done : (text : List ℕ) (s t : Sight S) (y : Got Value) → Does (prompt_row text) s y t →
      IsTaken (prompted text s.world) y t
  unfolding prompt_row Run
  prompt_done text s t y d =
      let asked : d.3.1.world ≡ prompted text s.world = ap (λ z. z.world) d.3.2 ∙
      ap {A = Sight S} {B = World} (λ z. record z.world { mid = false }) d.2 in
      subst (λ w. IsTaken w y t) asked (take_done d.3.1 t y d.3.3)

  got_done : (g : Got (List ℕ)) (m t : Sight S) (y : Got Value) → Does (got_row prompt_row g) m y t → IsAsked g m y t
  unfolding Run
  got_done (Is text) m t y d = prompt_done text m t y d
  got_done (Raise e) m t y d = d

  prompted_done : (roots : ℕ) (x : Value) (s t : Sight S) (y : Got Value) → Does (ask_row roots x) s y t →
      IsPrompted roots x s y t
  unfolding ask_row
  prompted_done roots x s t y d =
      let b = bind_run {S = S} pure (told_row roots x false) (got_row prompt_row) s y t d in
      record { text = b.0; between = b.1; told = b.2; asked = got_done b.0 b.1 t y b.3 }

pub input_law : (S : Type 0) → InputLaw S
unfolding input_row
input_law S = record {
  bare = λ roots s t y d. take_done s t y d;
  prompt = λ roots x s t y d.
      prompted_done roots x s t y d;
}
