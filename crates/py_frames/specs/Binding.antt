-- How the arguments of a call are bound to the slots of a new frame. States `docs/LANGUAGE.md`, "Calls and frames".
use Rattle.std.specs.Prelude.{ℕ, zero, suc, ◌-◌, Bool, true, cond, leb, not, ◌&&◌, List, [], ◌∷◌, ◌++◌, length, map, take, drop, None}
use Rattle.std.specs.Str.{bytes_eq}
use Rattle.py_data.specs.declared.value.Value.{Value}
use Rattle.py_data.specs.declared.value.Value.TheVariants.{Unset}
use Rattle.py_data.specs.declared.record.Got.{Got}
use Rattle.py_data.specs.declared.record.Got.TheVariants.{Is, Raise}
use Rattle.py_data.specs.Fault.{argument_fault}
use Rattle.py_data.specs.Heap.{value_at}
use Rattle.py_data.specs.Looking.{look_row}
use Rattle.py_data.specs.Row.{Row, Ret, bind}
use Rattle.py_code.specs.declared.program.Code.{Code}
use Rattle.py_code.specs.declared.program.Program.{Program}
use Rattle.py_base.specs.NameLists.{has}
use Rattle.py_frames.specs.declared.state.Frame.{Frame}
use Rattle.py_frames.specs.State.{code_at, root_name}
use Rattle.py_frames.specs.Raising.{place_in, count_in, values_row}

-- what a call gives: the arguments without a keyword, and for each keyword the number of its name among the roots, and
-- its value
pub record Given : Type 0 where
  pub args : List Value
  pub names : List ℕ
  pub values : List Value

-- arguments without keywords
abbrev pub plainly : List Value → Given
plainly args = record { args = args; names = []; values = [] }

-- one argument more, before all others
abbrev pub with_first : Value → Given → Given
with_first x g = record g { args = x ∷ g.args }

-- the object in front is the first argument, if there is one
abbrev pub with_own : Value → Given → Given
with_own Unset g = g
with_own own g = with_first own g

abbrev pub unset_slots : ℕ → List Value
unset_slots zero = []
unset_slots (suc n) = Unset ∷ unset_slots n

-- ---- the parameters of a code, and what they get

abbrev pub parameters : Code → List (List ℕ)
parameters c = take c.params c.slots

-- each keyword names one of these parameters, and no two name the same
abbrev pub are_named : List (List ℕ) → List (List ℕ) → Bool
are_named names [] = true
are_named names (k ∷ ks) = has k names && (not (has k ks) && are_named names ks)

-- each of these parameters is named by a keyword
abbrev pub all_named : List (List ℕ) → List (List ℕ) → Bool
all_named [] keys = true
all_named (n ∷ ns) keys = has n keys && all_named ns keys

-- Of parameters that have no argument the last ones have so many defaults; the keywords are among them, and those that
-- have no default are named.
abbrev pub are_filled : List (List ℕ) → List (List ℕ) → ℕ → Bool
are_filled names keys d = are_named names keys && all_named (take (length names - d) names) keys

-- so many arguments, these keywords and so many defaults are enough for a code, and not too much
abbrev pub fits_call : Code → ℕ → List (List ℕ) → ℕ → Bool
fits_call c n keys d = leb n c.params && are_filled (drop n (parameters c)) keys d

-- the value of the keyword of a name, or else this one
abbrev pub value_named : List ℕ → List (List ℕ) → List Value → Value → Value
value_named n [] vs d = d
value_named n (k ∷ ks) vs d = cond (bytes_eq k n) (value_at vs 0) (value_named n ks (drop 1 vs) d)

-- so many defaults, of which the last ones are these
abbrev pub last_defaults : ℕ → List Value → List Value
last_defaults m ds = unset_slots (m - length ds) ++ drop (length ds - m) ds

-- what these parameters get, where the defaults stand beside them
abbrev pub filled : List (List ℕ) → List (List ℕ) → List Value → List Value → List Value
filled [] keys vs ds = []
filled (n ∷ ns) keys vs ds = value_named n keys vs (value_at ds 0) ∷ filled ns keys vs (drop 1 ds)

-- the slots of the frame: the arguments, what the other parameters get, and nothing in the slots behind them
abbrev pub bound_slots : Code → List Value → List (List ℕ) → List Value → List Value → List Value
bound_slots c args keys vs ds =
    let names = drop (length args) (parameters c) in
    args ++ (filled names keys vs (last_defaults (length names) ds) ++ unset_slots (length c.slots - c.params))

-- a frame at the start of a code
abbrev pub entered : ℕ → List Value → Frame
entered n slots = record { code = n; pc = 0; slots = slots; stack = []; blocks = []; made = Unset; names = None }

-- the frame of a call of a code, or TypeError
unfoldable pub bound_to : Program → Given → ℕ → List Value → Got Frame
bound_to p g n ds =
    let c = code_at p n in
    let keys = map (root_name p) g.names in
    cond (fits_call c (length g.args) keys (length ds)) (Is (entered n (bound_slots c g.args keys g.values ds)))
    (Raise argument_fault)

-- ---- the row: the number of the Function's code, and its defaults, are looked at

unfoldable pub defaulted_row : {S : Type 0} → Program → Given → ℕ → ℕ → Row S (Got Frame)
defaulted_row p g n d = bind (values_row d) (λ ds. Ret (bound_to p g n ds))

unfoldable pub numbered_row : {S : Type 0} → Program → Given → ℕ → ℕ → Row S (Got Frame)
numbered_row p g f n = bind (look_row f 2) (λ d. defaulted_row p g n (place_in d))

-- what the call of the Function at an address enters
unfoldable pub bound_row : {S : Type 0} → Program → Given → ℕ → Row S (Got Frame)
bound_row p g f = bind (look_row f 1) (λ n. numbered_row p g f (count_in n))
