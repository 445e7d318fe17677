-- A name whose uses have numbers lives where its instructions may go.
use Rattle.std.proofs.Common.{◌≡◌, ◌∙◌, ℕ, suc, ◌+◌, ◌<◌, ◌≤◌, List, [], ◌∷◌, Option, Some, None, Bool, true, false, cond, not, nat_lt, ◌||◌, refl, sym, ap, subst, arith, length, get_or, map}
use Rattle.std.specs.Prelude.{if◌then◌else◌}
use Rattle.std.specs.List.{list_any, position_or_len}
use Rattle.std.specs.Str.{bytes_eq}
use Rattle.std.proofs.lemmas.Bool.{ltb-true}
use Rattle.std.proofs.lemmas.Bool.Decides.{nat_tests}
use Rattle.py_code.specs.Effects.{Limits, effect, plain, On, IsCell, IsKnown, IsText}
use Rattle.py_templates.specs.declared.home.Home.{Home}
use Rattle.py_templates.specs.declared.home.Home.TheVariants.{Slot, Cell, Body}
use Rattle.py_templates.specs.Table.{load, store, del}
use Rattle.py_templates.specs.Names.{Known, find_name, text, cell, home_at, home, key_list}
use Rattle.py_base.specs.NameLists.{has}
use Rattle.py_names.specs.Outline.{is_none}
use Rattle.py_templates.specs.Uses.{Use, Text, Global, Keys, Inside, own_read, own_bound, name_read, name_bound}
use Rattle.py_templates.proofs.ExprInduct.{Every}

-- a first place within the list, or none
pub any_place : {A : Type 0} (p : A → Bool) (xs : List A) → list_any p xs ≡ nat_lt (position_or_len p xs) (length xs)
any_place p [] = refl
any_place p (x ∷ xs) = by_test (p x) (any_place p xs)
  where
    by_test : (b : Bool) → list_any p xs ≡ nat_lt (position_or_len p xs) (length xs) →
        (b || list_any p xs) ≡ nat_lt (cond (not b) (1 + position_or_len p xs) 0) (suc (length xs))
    by_test true m = grind (arith, nat_tests)
    by_test false m = m ∙ grind (arith, nat_tests)

cond_none : {A : Type 0} (b : Bool) (m : A) → cond b (Some m) None ≡ None → b ≡ false
cond_none true m e = absurd (cc)
cond_none false m e = refl

cond_some : {A : Type 0} (b : Bool) (m i : A) → cond b (Some m) None ≡ Some i → (b ≡ true) × (m ≡ i)
cond_some true m i e = (refl, cc)
cond_some false m i e = absurd (cc)

pub find_none : (x : List ℕ) (ls : List (List ℕ)) → find_name x ls ≡ None → has x ls ≡ false
find_none x ls e = any_place (bytes_eq x) ls ∙ cond_none (nat_lt (position_or_len (bytes_eq x) ls) (length ls))
    (position_or_len (bytes_eq x) ls) e

pub find_some : (x : List ℕ) (ls : List (List ℕ)) (i : ℕ) → find_name x ls ≡ Some i →
    (has x ls ≡ true) × (i < length ls)
find_some x ls i e =
    let c = cond_some (nat_lt (position_or_len (bytes_eq x) ls) (length ls)) (position_or_len (bytes_eq x) ls) i e in
    let l = ltb-true (position_or_len (bytes_eq x) ls) (length ls) c.0 in
    (any_place (bytes_eq x) ls ∙ c.0, subst (λ j. j < length ls) c.1 l)

module _ (k : Limits) where
  -- what loads a name, stores to it and deletes it is known, and does that
  pub record IsHomed (x : Home) : Type 0 where
    pub load_flow : (effect k (load x)).flow ≡ On
    pub load_pops : (effect k (load x)).pops ≡ 0
    pub load_pushes : (effect k (load x)).pushes ≡ 1
    pub load_known : IsKnown k (load x)
    pub store_flow : (effect k (store x)).flow ≡ On
    pub store_pops : (effect k (store x)).pops ≡ 1
    pub store_pushes : (effect k (store x)).pushes ≡ 0
    pub store_known : IsKnown k (store x)
    pub del_flow : (effect k (del x)).flow ≡ On
    pub del_pops : (effect k (del x)).pops ≡ 0
    pub del_pushes : (effect k (del x)).pushes ≡ 0
    pub del_known : IsKnown k (del x)

  -- so it is where its instructions have these effects
  homed_by : (x : Home) → effect k (load x) ≡ plain 0 1 → IsKnown k (load x) → effect k (store x) ≡ plain 1 0 →
      IsKnown k (store x) → effect k (del x) ≡ plain 0 0 → IsKnown k (del x) → IsHomed x
  homed_by x l kl s ks d kd = record {
    load_flow = ap (λ e. e.flow) l;
    load_pops = ap (λ e. e.pops) l;
    load_pushes = ap (λ e. e.pushes) l;
    load_known = kl;
    store_flow = ap (λ e. e.flow) s;
    store_pops = ap (λ e. e.pops) s;
    store_pushes = ap (λ e. e.pushes) s;
    store_known = ks;
    del_flow = ap (λ e. e.flow) d;
    del_pops = ap (λ e. e.pops) d;
    del_pushes = ap (λ e. e.pushes) d;
    del_known = kd;
  }

  slot_homed : (s : ℕ) → s < k.slots → IsHomed (Slot s)
  slot_homed s lt = homed_by (Slot s) refl lt refl lt refl lt

  cell_homed : (g : ℕ) → IsCell k g → IsHomed (Cell g)
  cell_homed g h = homed_by (Cell g) refl h refl h refl h

  body_homed : (x : ℕ) → IsText k x → IsHomed (Body x)
  body_homed x h = homed_by (Body x) refl h refl h refl h

  module _ (n : Known) (b : Inside) where
    -- a keyword list of the code has these names
    abbrev pub KeysFit : List (List ℕ) → Type 0
    KeysFit ks = (key_list n ks < length k.keys) × (get_or k.keys (key_list n ks) [] ≡ map (text n) ks)

    -- a use has its number
    abbrev pub Covered : Use → Type 0
    Covered (Text x) = IsText k (text n x)
    Covered (Global x) = IsCell k (cell n x)
    Covered (Keys c ks) = c ≡ b.number → KeysFit ks

    -- what a body knows of names is what its code may name
    pub record Fits : Type 0 where
      pub names : n.locals ≡ b.locals
      pub kind : n.is_class ≡ b.is_class
      pub slots : n.is_class ≡ false → length n.locals ≤ k.slots
      pub strings : 0 < k.strings
      pub classes : 20 < k.cells

    own_home : Fits → (x : List ℕ) (i : ℕ) (c : Bool) → n.is_class ≡ c → i < length n.locals →
        Every Covered (own_bound c x) → IsHomed (if c then Body (text n x) else Slot i)
    own_home f x i true e lt cs = body_homed (text n x) cs.0
    own_home f x i false e lt cs = let m = f.slots e in slot_homed i (omega (arith, lt, m))

    pub home_bound : Fits → (x : List ℕ) → Every Covered (name_bound b x) → IsHomed (home n x)
    home_bound f x cs = by_find (find_name x n.locals) refl
      where
        by_find : (o : Option ℕ) → find_name x n.locals ≡ o → IsHomed (home n x)
        by_find None e =
            let h : has x b.locals ≡ false = ap (has x) (sym f.names) ∙ find_none x n.locals e in
            let g : Every Covered (Global x ∷ []) =
            subst (λ z. Every Covered (if z then own_bound b.is_class x else Global x ∷ [])) h cs in
            subst IsHomed (sym (ap (home_at n x) e)) (cell_homed (cell n x) g.0)
        by_find (Some i) e =
            let s = find_some x n.locals i e in
            let h : has x b.locals ≡ true = ap (has x) (sym f.names) ∙ s.0 in
            let g : Every Covered (own_bound b.is_class x) =
            subst (λ z. Every Covered (if z then own_bound b.is_class x else Global x ∷ [])) h cs in
            let g' : Every Covered (own_bound n.is_class x) = subst (λ z. Every Covered (own_bound z x)) (sym f.kind) g
            in
            subst IsHomed (sym (ap (home_at n x) e)) (own_home f x i n.is_class refl s.1 g')

    has_bound : (h c : Bool) (x : List ℕ) → Every Covered (if h then own_read c x else Global x ∷ []) →
        Every Covered (if h then own_bound c x else Global x ∷ [])
    has_bound true true x cs = (cs.0, tt)
    has_bound true false x cs = tt
    has_bound false c x cs = cs

    -- a name that is read is as one that is bound, unless it is None
    pub read_bound : (x : List ℕ) → is_none x ≡ false → Every Covered (name_read b x) → Every Covered (name_bound b x)
    read_bound x e cs =
        let g : Every Covered (if has x b.locals then own_read b.is_class x else Global x ∷ []) =
        subst (λ z. Every Covered (if z then [] else
        (if has x b.locals then own_read b.is_class x else Global x ∷ []))) e cs in
        has_bound (has x b.locals) b.is_class x g
