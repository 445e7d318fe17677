-- Over each heap in order `raw_input` holds, and is steady.
use Rattle.std.proofs.Common.{arith, ℕ, Bool, true, false, cond, List, [], ◌∷◌, refl, lit<}
use Rattle.std.specs.Io.BufRead.{strip_last}
use Rattle.py_data.specs.declared.stop.Out.TheVariants.{Output}
use Rattle.py_data.specs.declared.value.Value.{Value}
use Rattle.py_data.specs.declared.record.Got.{Got}
use Rattle.py_data.specs.declared.record.Got.TheVariants.{Is, Raise}
use Rattle.py_data.specs.Answers.{IsAnswer, IsGot}
use Rattle.py_data.specs.Closed.{IsItem}
use Rattle.py_data.specs.Every.{Every}
use Rattle.py_data.specs.Fault.{argument_fault}
use Rattle.py_data.specs.Heap.{Heap}
use Rattle.py_data.specs.Holds.{Holds}
use Rattle.py_data.specs.Looking.{got_row}
use Rattle.py_data.specs.Order.{Rules, IsOrdered}
use Rattle.py_data.specs.Row.{Ret, Do, Put, Take, SetMidLine}
use Rattle.py_data.specs.Sense.{Asks}
use Rattle.py_data.specs.Steady.{Steady, Calm}
use Rattle.py_data.proofs.CalmRows.{ret_calm, cond_calm, bind_calm, got_calm}
use Rattle.py_data.proofs.Holding.{holds_ret, holds_do}
use Rattle.py_data.proofs.HoldingCalls.{holds_looks}
use Rattle.obj_class.specs.Roots.{IsRoots}
use Rattle.obj_class.specs.Telling.{told_row}
use Rattle.obj_str.specs.HoldsLaws.{StrHolds}
use Rattle.obj_str.specs.Strings.{new_text}
use Rattle.obj_str.proofs.StrHolds.{new_text_calm}
use Rattle.obj_builtins.specs.Input.{end_fault, is_end, line_limit, line_row, take_row, prompt_row, ask_row, input_row}
use Rattle.obj_builtins.proofs.Told.{IsAny, told_looks, told_calm}

module _ {S : Type 0} (rules : Rules) (stands : Heap → S → Type 0) (strings : StrHolds rules stands) where
  line_holds : (h : Heap) (l : List ℕ) → IsOrdered rules h → Holds rules stands IsAnswer (line_row l) h
  unfolding line_row
  line_holds h l order = by (is_end l)
    where
      by : (b : Bool) → Holds rules stands IsAnswer (cond b (Ret (Raise end_fault)) (new_text (strip_last 10 l))) h
      by true = holds_ret rules stands IsAnswer (Raise end_fault) h (lit< tt, lit< tt, tt)
      by false = strings.new_text h (strip_last 10 l) order

  take_holds : (h : Heap) → IsOrdered rules h → Holds rules stands IsAnswer take_row h
  unfolding take_row Asks
  take_holds h order = holds_do rules stands IsAnswer (Take line_limit) (λ l. line_row l) h (omega arith) tt
      (λ l h1 e order1 x. line_holds h1 l order1)

  prompt_holds : (h : Heap) (text : List ℕ) → IsOrdered rules h → Holds rules stands IsAnswer (prompt_row text) h
  unfolding prompt_row Asks
  prompt_holds h text order =
      holds_do rules stands IsAnswer (Put Output text) (λ u. Do (SetMidLine false) (λ v. take_row)) h tt tt
      (λ u h1 e order1 x. holds_do rules stands IsAnswer (SetMidLine false) (λ v. take_row) h1 tt tt
      (λ v h2 e2 order2 x2. take_holds h2 order2))

  got_holds : (h : Heap) → IsOrdered rules h → (g : Got (List ℕ)) → IsGot IsAny g h →
      Holds rules stands IsAnswer (got_row prompt_row g) h
  got_holds h order (Is text) i = prompt_holds h text order
  got_holds h order (Raise e) i = holds_ret rules stands IsAnswer (Raise e) h i

  pub input_holds : (h : Heap) (roots : ℕ) (args : List Value) → IsOrdered rules h → IsRoots h roots →
      Every (IsItem h) args → Holds rules stands IsAnswer (input_row roots args) h
  unfolding input_row ask_row
  input_holds h roots [] order known i = take_holds h order
  input_holds h roots (x ∷ []) order known i = holds_looks rules stands IsAnswer (λ g. IsGot IsAny g h)
      (told_row roots x false) (got_row prompt_row) h order (told_looks S rules h order roots x false known i.0)
      (got_holds h order)
  input_holds h roots (x ∷ y ∷ zs) order known i = holds_ret rules stands IsAnswer (Raise argument_fault) h
      (lit< tt, lit< tt, tt)

module _ (S : Type 0) where
  line_calm : (l : List ℕ) → Calm {S = S} (line_row l)
  unfolding line_row
  line_calm l = cond_calm S (is_end l) (Ret (Raise end_fault)) (new_text (strip_last 10 l))
      (ret_calm S (Raise end_fault)) (new_text_calm S (strip_last 10 l))

  take_calm : Calm {S = S} take_row
  unfolding take_row Steady
  take_calm true = ((refl, tt), λ l. line_calm l true)
  take_calm false = ((refl, tt), λ l. line_calm l false)

  prompt_calm : (text : List ℕ) → Calm {S = S} (prompt_row text)
  unfolding prompt_row Steady
  prompt_calm text true = ((refl, tt), λ u. ((refl, tt), λ v. take_calm true))
  prompt_calm text false = ((refl, tt), λ u. ((refl, tt), λ v. take_calm false))

  pub input_calm : (roots : ℕ) (args : List Value) → Calm {S = S} (input_row roots args)
  unfolding input_row ask_row
  input_calm roots [] = take_calm
  input_calm roots (x ∷ []) = bind_calm S (told_row roots x false) (got_row prompt_row) (told_calm S roots x false)
      (got_calm S prompt_row prompt_calm)
  input_calm roots (x ∷ y ∷ zs) = ret_calm S (Raise argument_fault)
