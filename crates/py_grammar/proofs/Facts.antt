-- What tokens begin, follow and are.
use Rattle.std.proofs.Common.{◌≡◌, ℕ, zero, suc, ◌+◌, ◌-◌, ◌<◌, ◌≤◌, ◌==◌, nat_le, Bool, true, false, not, ◌&&◌, ◌||◌, List, ◌++◌, Ok, Option, Some, None, refl, sym, ap, ◌∙◌, subst, arith, if◌then◌else◌}
use Rattle.std.proofs.lemmas.Bool.{and_parts}
use Rattle.py_tokens.specs.declared.token.Token.{Token}
use Rattle.py_tokens.specs.declared.token.TokenKind.{TokenKind}
use Rattle.py_tokens.specs.declared.token.TokenKind.TheVariants as k
use Rattle.py_tokens.specs.declared.token.Other.TheVariants as other
use Rattle.py_tokens.specs.declared.token.Place.{Place}
use Rattle.py_tree.specs.declared.expr.Level.{Level}
use Rattle.py_tree.specs.declared.expr.Level.TheVariants as level
use Rattle.py_tree.specs.declared.expr.Operator.{Operator}
use Rattle.py_tree.specs.declared.expr.Operator.TheVariants as op
use Rattle.py_base.specs.declared.refusal.Construct.{Construct}
use Rattle.py_grammar.specs.Words.{below, level_of, first_word}
use Rattle.py_grammar.specs.declared.tall.Tall.{Tall}
use Rattle.py_grammar.specs.declared.rung.Rung.TheVariants.{Chained}
use Rattle.py_grammar.specs.inner.Reading.{Reader, Test, ◌>>=◌, first, is_op, is_keyword, comes, starts, is_some, rung_of, sign_of, links}
use Rattle.py_grammar.specs.inner.Tall.{push_link}
use Rattle.py_grammar.specs.Words.{spelled}
use Rattle.py_grammar.specs.inner.Reading.{linked, operator_of, operator_rest, keyword_at}
use Rattle.py_tree.specs.declared.expr.Link.{Link}
use Rattle.py_grammar.specs.inner.Follow.{takes, heads, stops}

-- ---- truth values

pub no : {A : Type 0} → true ≡ false → A
no h = absurd (grind (arith, h))

pub or_mono : (a b a' b' : Bool) → (a ≡ true → a' ≡ true) → (b ≡ true → b' ≡ true) → (a || b) ≡ true → (a' || b') ≡ true
or_mono true b true b' f h e = refl
or_mono true b false b' f h e = no (sym (f refl))
or_mono false b true b' f h e = refl
or_mono false b false b' f h e = h e

pub and_mono : (a b a' : Bool) → (a ≡ true → a' ≡ true) → (a && b) ≡ true → (a' && b) ≡ true
and_mono true b true f h = h
and_mono true b false f h = no (sym (f refl))
and_mono false b a' f h = no (sym h)

pub not_true : (a : Bool) → not a ≡ true → a ≡ false
not_true true h = no (sym h)
not_true false h = refl

-- two numbers that a test tells apart differ
pub apart : (P : ℕ → Bool) (n m : ℕ) → P n ≡ false → P m ≡ true → (m == n) ≡ false
apart P n m p q = go (m == n) refl
  where
    go : (b : Bool) → (m == n) ≡ b → (m == n) ≡ false
    go true e = let h : m ≡ n = grind (arith, e) in no (sym q ∙ ap P h ∙ p)
    go false e = e

-- ---- what comes

pub not_op : (n : ℕ) (kind : TokenKind) → comes 14 (k.Op n) ≡ false → comes 14 kind ≡ true → is_op n kind ≡ false
not_op n (k.Op m) p q = apart (λ z. comes 14 (k.Op z)) n m p q
not_op n (k.Name m) p q = refl
not_op n (k.Keyword m) p q = refl
not_op n (k.Int m) p q = refl
not_op n (k.Str m) p q = refl
not_op n k.Newline p q = refl
not_op n k.Indent p q = refl
not_op n k.Dedent p q = refl
not_op n k.End p q = refl
not_op n (k.Other o) p q = refl

pub not_keyword : (i n : ℕ) (kind : TokenKind) → comes i (k.Keyword n) ≡ false → comes i kind ≡ true →
    is_keyword n kind ≡ false
not_keyword i n (k.Keyword m) p q = apart (λ z. comes i (k.Keyword z)) n m p q
not_keyword i n (k.Op m) p q = refl
not_keyword i n (k.Name m) p q = refl
not_keyword i n (k.Int m) p q = refl
not_keyword i n (k.Str m) p q = refl
not_keyword i n k.Newline p q = refl
not_keyword i n k.Indent p q = refl
not_keyword i n k.Dedent p q = refl
not_keyword i n k.End p q = refl
not_keyword i n (k.Other o) p q = refl

le_suc : (i n : ℕ) → nat_le i n ≡ true → nat_le i (suc n) ≡ true
le_suc i n h = grind (arith, h)

some_if : (a b : Bool) (x : Construct) → (a ≡ true → b ≡ true) → is_some (if a then Some x else None) ≡ true →
    is_some (if b then Some x else None) ≡ true
some_if true true x f h = refl
some_if true false x f h = no (sym (f refl))
some_if false b x f h = no (sym h)

-- what begins a level begins the next
pub comes_up : (n : ℕ) (kind : TokenKind) → comes n kind ≡ true → comes (suc n) kind ≡ true
comes_up n (k.Op m) h = or_mono (starts n (k.Op m)) _ (starts (suc n) (k.Op m)) _
    (or_mono (m == 32) _ (m == 32) _ (λ e. e)
    (or_mono (m == 34) _ (m == 34) _ (λ e. e)
    (or_mono (m == 36) _ (m == 36) _ (λ e. e) (and_mono (nat_le 3 n) _ (nat_le 3 (suc n)) (le_suc 3 n))))) (λ e. e) h
comes_up n (k.Keyword m) h = or_mono (starts n (k.Keyword m)) _ (starts (suc n) (k.Keyword m)) _
    (and_mono (nat_le 11 n) _ (nat_le 11 (suc n)) (le_suc 11 n))
    (some_if _ _ _ (and_mono (nat_le 14 n) (m == 20) (nat_le 14 (suc n)) (le_suc 14 n))) h
comes_up n (k.Name m) h = h
comes_up n (k.Int m) h = h
comes_up n (k.Str m) h = h
comes_up n k.Newline h = h
comes_up n k.Indent h = h
comes_up n k.Dedent h = h
comes_up n k.End h = h
comes_up n (k.Other other.Float) h = h
comes_up n (k.Other other.Long) h = h
comes_up n (k.Other other.Unicode) h = h

pub comes_from : (n i : ℕ) (kind : TokenKind) → comes n kind ≡ true → comes (i + n) kind ≡ true
comes_from n zero kind h = let e : zero + n ≡ n = omega arith in subst (λ z. comes z kind ≡ true) (sym e) h
comes_from n (suc i) kind h = let e : suc i + n ≡ suc (i + n) = omega arith in
    subst (λ z. comes z kind ≡ true) (sym e) (comes_up (i + n) kind (comes_from n i kind h))

pub comes_at : (n m : ℕ) (kind : TokenKind) → n ≤ m → comes n kind ≡ true → comes m kind ≡ true
comes_at n m kind l h = let e : m ≡ (m - n) + n = omega arith in
    subst (λ z. comes z kind ≡ true) (sym e) (comes_from n (m - n) kind h)

no_sign : (kind : TokenKind) → comes 2 kind ≡ true → is_some (sign_of kind) ≡ false
no_sign (k.Op m) h =
    rw (apart (λ z. comes 2 (k.Op z)) 21 m refl h)
    (rw (apart (λ z. comes 2 (k.Op z)) 22 m refl h) (rw (apart (λ z. comes 2 (k.Op z)) 29 m refl h) refl))
no_sign (k.Name m) h = refl
no_sign (k.Keyword m) h = refl
no_sign (k.Int m) h = refl
no_sign (k.Str m) h = refl
no_sign k.Newline h = refl
no_sign k.Indent h = refl
no_sign k.Dedent h = refl
no_sign k.End h = refl
no_sign (k.Other o) h = refl

pub no_head : (n : ℕ) (kind : TokenKind) → n < 15 → comes n kind ≡ true → heads (rung_of n) kind ≡ false
no_head zero kind b h = refl
no_head (suc zero) kind b h = refl
no_head (suc (suc zero)) kind b h = no_sign kind h
no_head (suc (suc (suc zero))) kind b h = refl
no_head (suc (suc (suc (suc zero)))) kind b h = refl
no_head (suc (suc (suc (suc (suc zero))))) kind b h = refl
no_head (suc (suc (suc (suc (suc (suc zero)))))) kind b h = refl
no_head (suc (suc (suc (suc (suc (suc (suc zero))))))) kind b h = refl
no_head (suc (suc (suc (suc (suc (suc (suc (suc zero)))))))) kind b h = refl
no_head (suc (suc (suc (suc (suc (suc (suc (suc (suc zero))))))))) kind b h = refl
no_head (suc (suc (suc (suc (suc (suc (suc (suc (suc (suc zero)))))))))) kind b h = not_keyword 10 21 kind refl h
no_head (suc (suc (suc (suc (suc (suc (suc (suc (suc (suc (suc zero))))))))))) kind b h = refl
no_head (suc (suc (suc (suc (suc (suc (suc (suc (suc (suc (suc (suc zero)))))))))))) kind b h = refl
no_head (suc (suc (suc (suc (suc (suc (suc (suc (suc (suc (suc (suc (suc zero))))))))))))) kind b h =
    not_keyword 13 20 kind refl h
no_head (suc (suc (suc (suc (suc (suc (suc (suc (suc (suc (suc (suc (suc (suc zero)))))))))))))) kind b h = refl
no_head (suc (suc (suc (suc (suc (suc (suc (suc (suc (suc (suc (suc (suc (suc (suc n))))))))))))))) kind b h =
    absurd (omega (arith, b))

-- ---- what follows

pub stops_down : (n : ℕ) (kind : TokenKind) → stops (suc n) kind ≡ true → stops n kind ≡ true
stops_down n kind h = (and_parts (stops n kind) _ h).0

pub takes_not : (n : ℕ) (kind : TokenKind) → stops (suc n) kind ≡ true → takes (rung_of n) kind ≡ false
takes_not n kind h = not_true _ (and_parts (stops n kind) _ h).1

pub rung_below : (l : Level) → rung_of (below l) ≡ Chained l
rung_below level.Or = refl
rung_below level.And = refl
rung_below level.Compare = refl
rung_below level.BitOr = refl
rung_below level.BitXor = refl
rung_below level.BitAnd = refl
rung_below level.Shift = refl
rung_below level.Sum = refl
rung_below level.Term = refl

pub below_small : (l : Level) → below l < 13
below_small level.Or = omega arith
below_small level.And = omega arith
below_small level.Compare = omega arith
below_small level.BitOr = omega arith
below_small level.BitXor = omega arith
below_small level.BitAnd = omega arith
below_small level.Shift = omega arith
below_small level.Sum = omega arith
below_small level.Term = omega arith

abbrev from_some : {A : Type 0} → A → Option A → A
from_some a (Some b) = b
from_some a None = a

pub some_inj : {A : Type 0} (a b : A) → Some a ≡ Some b → a ≡ b
some_inj a b h = ap (from_some a) h

pub word_stops : (o : Operator) (l : Level) → level_of o ≡ Some l → stops (below l) (first_word o) ≡ true
word_stops op.Or l h = subst (λ z. stops (below z) (first_word op.Or) ≡ true) (some_inj level.Or l h) refl
word_stops op.And l h = subst (λ z. stops (below z) (first_word op.And) ≡ true) (some_inj level.And l h) refl
word_stops op.Less l h = subst (λ z. stops (below z) (first_word op.Less) ≡ true) (some_inj level.Compare l h) refl
word_stops op.Greater l h = subst (λ z. stops (below z) (first_word op.Greater) ≡ true) (some_inj level.Compare l h)
    refl
word_stops op.Equal l h = subst (λ z. stops (below z) (first_word op.Equal) ≡ true) (some_inj level.Compare l h) refl
word_stops op.GreaterEqual l h = subst (λ z. stops (below z) (first_word op.GreaterEqual) ≡ true)
    (some_inj level.Compare l h) refl
word_stops op.LessEqual l h = subst (λ z. stops (below z) (first_word op.LessEqual) ≡ true)
    (some_inj level.Compare l h) refl
word_stops op.NotEqual l h = subst (λ z. stops (below z) (first_word op.NotEqual) ≡ true) (some_inj level.Compare l h)
    refl
word_stops op.In l h = subst (λ z. stops (below z) (first_word op.In) ≡ true) (some_inj level.Compare l h) refl
word_stops op.NotIn l h = subst (λ z. stops (below z) (first_word op.NotIn) ≡ true) (some_inj level.Compare l h) refl
word_stops op.Is l h = subst (λ z. stops (below z) (first_word op.Is) ≡ true) (some_inj level.Compare l h) refl
word_stops op.IsNot l h = subst (λ z. stops (below z) (first_word op.IsNot) ≡ true) (some_inj level.Compare l h) refl
word_stops op.BitOr l h = subst (λ z. stops (below z) (first_word op.BitOr) ≡ true) (some_inj level.BitOr l h) refl
word_stops op.BitXor l h = subst (λ z. stops (below z) (first_word op.BitXor) ≡ true) (some_inj level.BitXor l h) refl
word_stops op.BitAnd l h = subst (λ z. stops (below z) (first_word op.BitAnd) ≡ true) (some_inj level.BitAnd l h) refl
word_stops op.ShiftLeft l h = subst (λ z. stops (below z) (first_word op.ShiftLeft) ≡ true) (some_inj level.Shift l h)
    refl
word_stops op.ShiftRight l h = subst (λ z. stops (below z) (first_word op.ShiftRight) ≡ true)
    (some_inj level.Shift l h) refl
word_stops op.Plus l h = subst (λ z. stops (below z) (first_word op.Plus) ≡ true) (some_inj level.Sum l h) refl
word_stops op.Minus l h = subst (λ z. stops (below z) (first_word op.Minus) ≡ true) (some_inj level.Sum l h) refl
word_stops op.Times l h = subst (λ z. stops (below z) (first_word op.Times) ≡ true) (some_inj level.Term l h) refl
word_stops op.Divide l h = subst (λ z. stops (below z) (first_word op.Divide) ≡ true) (some_inj level.Term l h) refl
word_stops op.Floor l h = subst (λ z. stops (below z) (first_word op.Floor) ≡ true) (some_inj level.Term l h) refl
word_stops op.Remainder l h = subst (λ z. stops (below z) (first_word op.Remainder) ≡ true) (some_inj level.Term l h)
    refl
word_stops op.Power l h = no (ap is_some (sym h))

pub word_links : (o : Operator) (l : Level) → level_of o ≡ Some l → links l (first_word o) ≡ true
word_links op.Or l h = subst (λ z. links z (first_word op.Or) ≡ true) (some_inj level.Or l h) refl
word_links op.And l h = subst (λ z. links z (first_word op.And) ≡ true) (some_inj level.And l h) refl
word_links op.Less l h = subst (λ z. links z (first_word op.Less) ≡ true) (some_inj level.Compare l h) refl
word_links op.Greater l h = subst (λ z. links z (first_word op.Greater) ≡ true) (some_inj level.Compare l h) refl
word_links op.Equal l h = subst (λ z. links z (first_word op.Equal) ≡ true) (some_inj level.Compare l h) refl
word_links op.GreaterEqual l h = subst (λ z. links z (first_word op.GreaterEqual) ≡ true) (some_inj level.Compare l h)
    refl
word_links op.LessEqual l h = subst (λ z. links z (first_word op.LessEqual) ≡ true) (some_inj level.Compare l h) refl
word_links op.NotEqual l h = subst (λ z. links z (first_word op.NotEqual) ≡ true) (some_inj level.Compare l h) refl
word_links op.In l h = subst (λ z. links z (first_word op.In) ≡ true) (some_inj level.Compare l h) refl
word_links op.NotIn l h = subst (λ z. links z (first_word op.NotIn) ≡ true) (some_inj level.Compare l h) refl
word_links op.Is l h = subst (λ z. links z (first_word op.Is) ≡ true) (some_inj level.Compare l h) refl
word_links op.IsNot l h = subst (λ z. links z (first_word op.IsNot) ≡ true) (some_inj level.Compare l h) refl
word_links op.BitOr l h = subst (λ z. links z (first_word op.BitOr) ≡ true) (some_inj level.BitOr l h) refl
word_links op.BitXor l h = subst (λ z. links z (first_word op.BitXor) ≡ true) (some_inj level.BitXor l h) refl
word_links op.BitAnd l h = subst (λ z. links z (first_word op.BitAnd) ≡ true) (some_inj level.BitAnd l h) refl
word_links op.ShiftLeft l h = subst (λ z. links z (first_word op.ShiftLeft) ≡ true) (some_inj level.Shift l h) refl
word_links op.ShiftRight l h = subst (λ z. links z (first_word op.ShiftRight) ≡ true) (some_inj level.Shift l h) refl
word_links op.Plus l h = subst (λ z. links z (first_word op.Plus) ≡ true) (some_inj level.Sum l h) refl
word_links op.Minus l h = subst (λ z. links z (first_word op.Minus) ≡ true) (some_inj level.Sum l h) refl
word_links op.Times l h = subst (λ z. links z (first_word op.Times) ≡ true) (some_inj level.Term l h) refl
word_links op.Divide l h = subst (λ z. links z (first_word op.Divide) ≡ true) (some_inj level.Term l h) refl
word_links op.Floor l h = subst (λ z. links z (first_word op.Floor) ≡ true) (some_inj level.Term l h) refl
word_links op.Remainder l h = subst (λ z. links z (first_word op.Remainder) ≡ true) (some_inj level.Term l h) refl
word_links op.Power l h = no (ap is_some (sym h))

-- reading an operator and its operand
abbrev After : Test → (Tall (List Link) → Reader (Tall (List Link))) → Level → Operator → Place → Place →
    Tall (List Link) → List Token → Type 0
After next go l o p q found us = linked next go (operator_of l (first (spelled o p q ++ us))) found
    (spelled o p q ++ us) ≡ (next us >>= λ a. go (push_link found o a.0) a.1)

is_rest : (us : List Token) → is_keyword 21 (first us) ≡ false → operator_rest op.Is us ≡ Ok (op.Is, us)
is_rest us h = rw h refl

pub operator_step : (next : Test) (go : Tall (List Link) → Reader (Tall (List Link))) (l : Level) (o : Operator)
    (p q : Place) (found : Tall (List Link)) (us : List Token) → level_of o ≡ Some l →
    comes (below l) (first us) ≡ true → After next go l o p q found us
unfolding keyword_at
operator_step next go l op.Or p q found us h w =
    subst (λ z. After next go z op.Or p q found us) (some_inj level.Or l h) refl
operator_step next go l op.And p q found us h w =
    subst (λ z. After next go z op.And p q found us) (some_inj level.And l h) refl
operator_step next go l op.Less p q found us h w =
    subst (λ z. After next go z op.Less p q found us) (some_inj level.Compare l h) refl
operator_step next go l op.Greater p q found us h w =
    subst (λ z. After next go z op.Greater p q found us) (some_inj level.Compare l h) refl
operator_step next go l op.Equal p q found us h w =
    subst (λ z. After next go z op.Equal p q found us) (some_inj level.Compare l h) refl
operator_step next go l op.GreaterEqual p q found us h w = subst (λ z. After next go z op.GreaterEqual p q found us)
    (some_inj level.Compare l h) refl
operator_step next go l op.LessEqual p q found us h w = subst (λ z. After next go z op.LessEqual p q found us)
    (some_inj level.Compare l h) refl
operator_step next go l op.NotEqual p q found us h w = subst (λ z. After next go z op.NotEqual p q found us)
    (some_inj level.Compare l h) refl
operator_step next go l op.In p q found us h w =
    subst (λ z. After next go z op.In p q found us) (some_inj level.Compare l h) refl
operator_step next go l op.NotIn p q found us h w =
    subst (λ z. After next go z op.NotIn p q found us) (some_inj level.Compare l h) refl
operator_step next go l op.Is p q found us h w = let e = some_inj level.Compare l h in
    subst (λ z. After next go z op.Is p q found us) e
    (ap (λ r. r >>= λ o'. (next o'.1 >>= λ a. go (push_link found o'.0 a.0) a.1))
    (is_rest us (not_keyword 9 21 (first us) refl (subst (λ z. comes (below z) (first us) ≡ true) (sym e) w))))
operator_step next go l op.IsNot p q found us h w =
    subst (λ z. After next go z op.IsNot p q found us) (some_inj level.Compare l h) refl
operator_step next go l op.BitOr p q found us h w =
    subst (λ z. After next go z op.BitOr p q found us) (some_inj level.BitOr l h) refl
operator_step next go l op.BitXor p q found us h w =
    subst (λ z. After next go z op.BitXor p q found us) (some_inj level.BitXor l h) refl
operator_step next go l op.BitAnd p q found us h w =
    subst (λ z. After next go z op.BitAnd p q found us) (some_inj level.BitAnd l h) refl
operator_step next go l op.ShiftLeft p q found us h w = subst (λ z. After next go z op.ShiftLeft p q found us)
    (some_inj level.Shift l h) refl
operator_step next go l op.ShiftRight p q found us h w = subst (λ z. After next go z op.ShiftRight p q found us)
    (some_inj level.Shift l h) refl
operator_step next go l op.Plus p q found us h w =
    subst (λ z. After next go z op.Plus p q found us) (some_inj level.Sum l h) refl
operator_step next go l op.Minus p q found us h w =
    subst (λ z. After next go z op.Minus p q found us) (some_inj level.Sum l h) refl
operator_step next go l op.Times p q found us h w =
    subst (λ z. After next go z op.Times p q found us) (some_inj level.Term l h) refl
operator_step next go l op.Divide p q found us h w =
    subst (λ z. After next go z op.Divide p q found us) (some_inj level.Term l h) refl
operator_step next go l op.Floor p q found us h w =
    subst (λ z. After next go z op.Floor p q found us) (some_inj level.Term l h) refl
operator_step next go l op.Remainder p q found us h w = subst (λ z. After next go z op.Remainder p q found us)
    (some_inj level.Term l h) refl
operator_step next go l op.Power p q found us h w = no (ap is_some (sym h))
