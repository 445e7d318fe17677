-- The tables of keywords and operators: which word is found, and that the first operator that fits is the longest.
use Rattle.std.proofs.Common.{◌≡◌, ℕ, ◌≤◌, ◌==◌, nat_le, Bool, true, false, ◌&&◌, if◌then◌else◌, List, [], ◌∷◌, ◌++◌, length, map, take, Option, Some, None, inl, inr, refl, sym, ap, ◌∙◌, subst, arith}
use Rattle.std.specs.Str.{bytes_eq}
use Rattle.std.proofs.lemmas.Bool.{and_parts, and_from, eqb-true, eq-eqb, leb-true}
use Rattle.std.proofs.lemmas.Option.{none-some, same_Some}
use Rattle.std.proofs.lemmas.Slice.Eq.{bytes_eq-Decides}
use Rattle.py_tokens.specs.declared.character.Character.{Character}
use Rattle.py_tokens.specs.Characters.{byte_of}
use Rattle.py_tokens.specs.Names.{word_number, begins, operator_at}
use Rattle.front_laws.specs.Spells.{Lists}

abbrev pub Table : Type 0
Table = List (List ℕ × ℕ)

-- `false` is no `true`
abbrev no_truth : Bool → Type 0
no_truth true = ⊥
no_truth false = Unit {0}

pub never : {A : Type 0} (b : Bool) → b ≡ false → b ≡ true → A
never b e f = absurd (subst no_truth (sym e ∙ f) tt)

-- ---- a test that all words of a table pass

abbrev pub every : (List ℕ → Bool) → Table → Bool
every p [] = true
every p (w ∷ ws) = p w.0 && every p ws

pub of_every : (p : List ℕ → Bool) (ws : Table) (word : List ℕ) (n : ℕ) → every p ws ≡ true → Lists ws word n →
    p word ≡ true
of_every p [] word n e h = absurd h
of_every p (w ∷ ws) word n e (inl h) = ap p (sym h.0) ∙ (and_parts (p w.0) (every p ws) e).0
of_every p (w ∷ ws) word n e (inr h) = of_every p ws word n (and_parts (p w.0) (every p ws) e).1 h

-- ---- keywords

listed_cases : (w : List ℕ × ℕ) (ws : Table) (word : List ℕ) (n : ℕ) (b : Bool) → bytes_eq w.0 word ≡ b →
    (word_number ws word ≡ Some n → Lists ws word n) → (if b then Some w.1 else word_number ws word) ≡ Some n →
    Lists (w ∷ ws) word n
listed_cases w ws word n true e more h = inl ((bytes_eq-Decides w.0 word).0 e, same_Some w.1 n h)
listed_cases w ws word n false e more h = inr (more h)

pub listed : (ws : Table) (word : List ℕ) (n : ℕ) → word_number ws word ≡ Some n → Lists ws word n
listed [] word n h = absurd (none-some n h)
listed (w ∷ ws) word n h = listed_cases w ws word n (bytes_eq w.0 word) refl (listed ws word n) h

unlisted_cases : (w : List ℕ × ℕ) (ws : Table) (word : List ℕ) (n : ℕ) (b : Bool) → bytes_eq w.0 word ≡ b →
    (word_number ws word ≡ None → Lists ws word n → ⊥) → (if b then Some w.1 else word_number ws word) ≡ None →
    Lists (w ∷ ws) word n → ⊥
unlisted_cases w ws word n true e more h l = none-some w.1 (sym h)
unlisted_cases w ws word n false e more h (inl l) = never (bytes_eq w.0 word) e ((bytes_eq-Decides w.0 word).1 l.0)
unlisted_cases w ws word n false e more h (inr l) = more h l

pub unlisted : (ws : Table) (word : List ℕ) (n : ℕ) → word_number ws word ≡ None → Lists ws word n → ⊥
unlisted [] word n h l = l
unlisted (w ∷ ws) word n h l = unlisted_cases w ws word n (bytes_eq w.0 word) refl (unlisted ws word n) h l

-- ---- operators

pub begins_is : (bs : List ℕ) (cs : List Character) → begins bs cs ≡ true → map byte_of (take (length bs) cs) ≡ bs
begins_is [] cs e = refl
begins_is (b ∷ bs) [] e = never false refl e
begins_is (b ∷ bs) (c ∷ cs) e =
    let both = and_parts (c.byte == b) (begins bs cs) e in
    ap (λ x. x ∷ map byte_of (take (length bs) cs)) (eqb-true c.byte b both.0) ∙
    ap (λ xs. b ∷ xs) (begins_is bs cs both.1)

pub begins_front : (xs rest : List Character) → begins (map byte_of xs) (xs ++ rest) ≡ true
begins_front [] rest = refl
begins_front (x ∷ xs) rest = and_from (x.byte == x.byte) (begins (map byte_of xs) (xs ++ rest))
    (eq-eqb x.byte x.byte refl) (begins_front xs rest)

-- no word is longer than so
abbrev at_most : ℕ → Table → Bool
at_most n [] = true
at_most n (w ∷ ws) = nat_le (length w.0) n && at_most n ws

-- none is longer than one before it
abbrev pub falling : Table → Bool
falling [] = true
falling (w ∷ ws) = at_most (length w.0) ws && falling ws

within : (n : ℕ) (ws : Table) (word : List ℕ) (k : ℕ) → at_most n ws ≡ true → Lists ws word k → length word ≤ n
within n [] word k e h = absurd h
within n (w ∷ ws) word k e (inl h) = subst (λ x. length x ≤ n) h.0
    (leb-true (length w.0) n (and_parts (nat_le (length w.0) n) (at_most n ws) e).0)
within n (w ∷ ws) word k e (inr h) = within n ws word k (and_parts (nat_le (length w.0) n) (at_most n ws) e).1 h

-- an operator is found that is no shorter
abbrev pub FoundLong : Option (ℕ × ℕ) → ℕ → Type 0
FoundLong None n = ⊥
FoundLong (Some o) n = n ≤ o.1

long_cases : (w : List ℕ × ℕ) (ws : Table) (word : List ℕ) (n : ℕ) (cs : List Character) (b : Bool) → begins w.0 cs ≡ b
    →
    at_most (length w.0) ws ≡ true → Lists (w ∷ ws) word n → begins word cs ≡ true →
    (Lists ws word n → FoundLong (operator_at ws cs) (length word)) →
    FoundLong (if b then Some (w.1, length w.0) else operator_at ws cs)
    (length word)
long_cases w ws word n cs true e most (inl h) f more = subst (λ x. length x ≤ length w.0) h.0 (omega arith)
long_cases w ws word n cs true e most (inr h) f more = within (length w.0) ws word n most h
long_cases w ws word n cs false e most (inl h) f more = never (begins w.0 cs) e (ap (λ x. begins x cs) h.0 ∙ f)
long_cases w ws word n cs false e most (inr h) f more = more h

pub long_found : (ws : Table) (word : List ℕ) (n : ℕ) (cs : List Character) → falling ws ≡ true → Lists ws word n →
    begins word cs ≡ true →
    FoundLong (operator_at ws cs) (length word)
long_found [] word n cs e h f = absurd h
long_found (w ∷ ws) word n cs e h f =
    let both = and_parts (at_most (length w.0) ws) (falling ws) e in
    long_cases w ws word n cs (begins w.0 cs) refl both.0 h f (λ l. long_found ws word n cs both.1 l f)

-- what is found is of the table, and at the front
abbrev pub IsFound : Table → List Character → Option (ℕ × ℕ) → Type 0
IsFound ws cs None = Unit {0}
IsFound ws cs (Some o) = (word : List ℕ) × Lists ws word o.0 × (o.1 ≡ length word) × (begins word cs ≡ true)

is_found_more : (w : List ℕ × ℕ) (ws : Table) (cs : List Character) (o : Option (ℕ × ℕ)) → IsFound ws cs o →
    IsFound (w ∷ ws) cs o
is_found_more w ws cs None h = tt
is_found_more w ws cs (Some o) h = (h.0, inr h.1, h.2, h.3)

found_cases : (w : List ℕ × ℕ) (ws : Table) (cs : List Character) (b : Bool) → begins w.0 cs ≡ b →
    IsFound ws cs (operator_at ws cs) →
    IsFound (w ∷ ws) cs (if b then Some (w.1, length w.0) else operator_at ws cs)
found_cases w ws cs true e h = (w.0, inl (refl, refl), refl, e)
found_cases w ws cs false e h = is_found_more w ws cs (operator_at ws cs) h

pub is_found : (ws : Table) (cs : List Character) → IsFound ws cs (operator_at ws cs)
is_found [] cs = tt
is_found (w ∷ ws) cs = found_cases w ws cs (begins w.0 cs) refl (is_found ws cs)
