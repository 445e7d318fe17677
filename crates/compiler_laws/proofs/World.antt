-- A program's names with their numbers, and its bodies one after another.
use Rattle.std.proofs.Common.{◌≡◌, ℕ, ◌+◌, ◌<◌, ◌≤◌, List, [], ◌∷◌, ◌++◌, Bool, false, refl, subst, arith, length, map, get_or}
use Rattle.py_code.specs.Effects.{Limits, IsText, IsCell}
use Rattle.py_templates.specs.Names.{Known, text, cell, first_cell}
use Rattle.py_code.specs.Right.{first_text}
use Rattle.py_templates.specs.Uses.{Use, Text, Global, Keys, Inside}
use Rattle.py_templates.specs.Statements.{Body}
use Rattle.compiler_laws.proofs.Surrounds.{Does}
use Rattle.py_templates.proofs.ExprInduct.{Every}
use Rattle.py_templates.proofs.Homes.{KeysFit, Covered, Fits}
use Rattle.compiler_laws.proofs.EachFrom.{EachFrom}

module _ (locals : ℕ → List (List ℕ)) (texts cells : List (List ℕ)) (keys : ℕ → List (List (List ℕ))) (params : List ℕ)
  where
    -- what body j knows, where it is a class's or not; what its code may name, with so many slots and this first place
    abbrev pub known : ℕ → Bool → Known
    known j z = record { is_class = z; locals = locals j; texts = texts; cells = cells; keys = keys j }

    abbrev pub inside : ℕ → Bool → Inside
    inside j z = record { number = j; is_class = z; locals = locals j }

    abbrev pub lim : ℕ → ℕ → ℕ → Limits
    lim j sl p = record {
      slots = sl;
      keys = map (map (text (known j false))) (keys j);
      strings = first_text;
      cells =
          first_cell texts cells;
      roots = first_cell texts cells + length cells;
      params = params;
      first = p;
    }

    -- a use has its number
    abbrev pub Covers : Use → Type 0
    Covers (Text x) = IsText (lim 0 0 0) (text (known 0 false) x)
    Covers (Global x) = IsCell (lim 0 0 0) (cell (known 0 false) x)
    Covers (Keys c ks) = KeysFit (lim c 0 0) (known c false) (inside c false) ks

    abbrev pub Wide : List Use → Type 0
    Wide us = Every Covers us

    covers_to : (j : ℕ) (z : Bool) (sl p : ℕ) (u : Use) → Covers u → Covered (lim j sl p) (known j z) (inside j z) u
    covers_to j z sl p (Text x) h = h
    covers_to j z sl p (Global x) h = h
    covers_to j z sl p (Keys c ks) h = λ e. subst (λ i. KeysFit (lim i sl p) (known i z) (inside i z) ks) e h

    pub wide_to : (j : ℕ) (z : Bool) (sl p : ℕ) (us : List Use) → Wide us →
        Every (Covered (lim j sl p) (known j z) (inside j z)) us
    wide_to j z sl p [] h = tt
    wide_to j z sl p (u ∷ us) h = (covers_to j z sl p u h.0, wide_to j z sl p us h.1)

    -- each body has an empty keyword list, the first
    abbrev pub HasNone : Type 0
    HasNone = (j : ℕ) → (rest : List (List (List ℕ))) × (keys j ≡ [] ∷ rest)

    pub first_list : (ks rest : List (List (List ℕ))) (t : List ℕ → ℕ) → ks ≡ [] ∷ rest →
        (0 < length (map (map t) ks)) × (get_or (map (map t) ks) 0 [] ≡ [])
    first_list ks rest t e = rw e (omega arith, refl)

    -- a function's own names have slots
    abbrev pub Slotted : ℕ → Bool → ℕ → Type 0
    Slotted j z sl = z ≡ false → length (locals j) ≤ sl

    pub fits : HasNone → (j : ℕ) (z : Bool) (sl p : ℕ) → Slotted j z sl → Fits (lim j sl p) (known j z) (inside j z)
    fits none j z sl p s = record { names = refl; kind = refl; slots = s; strings = omega arith; classes = omega arith }

    -- the body of this number: it has as many parameters as the code of this number
    abbrev pub IsAt : ℕ → Body → Type 0
    IsAt f y = (f < length params) × (get_or params f 0 ≡ y.params)

    -- these bodies are those from number f on
    abbrev pub Standing : ℕ → List Body → Type 0
    Standing = EachFrom IsAt

    -- the code of a body does what a block does
    abbrev pub DoesIn : ℕ → Body → Type 0
    DoesIn f y = (sl p : ℕ) → Slotted f y.is_class sl → Does (lim f sl p) [] (y.block (known f y.is_class))

    abbrev pub BodiesOk : ℕ → List Body → Type 0
    BodiesOk = EachFrom DoesIn
