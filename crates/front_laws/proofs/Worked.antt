-- Worked rows: what spells which token.
use Rattle.std.specs.Prelude.{ℕ, pos, true, false, List, [], codes}
use Rattle.std.proofs.Common.{refl, inl, inr, arith}
use Rattle.py_tokens.specs.declared.character.Character.{Character}
use Rattle.py_tokens.specs.declared.class.Base.TheVariants.{Two, Sixteen}
use Rattle.py_tokens.specs.declared.keyword.TheConstants as keyword
use Rattle.py_tokens.specs.declared.operator.TheConstants as operator
use Rattle.py_tokens.specs.declared.token.Other.TheVariants as other
use Rattle.py_tokens.specs.declared.token.TokenKind.TheVariants as k
use Rattle.py_tokens.specs.Characters.{characters}
use Rattle.py_tokens.specs.Tables.{keywords}
use Rattle.front_laws.specs.Spells as s
use Rattle.front_laws.specs.Spells.{Spells}
use Rattle.front_laws.proofs.Tables.{never, unlisted}

abbrev row : List ℕ → List Character
row text = characters 0 1 text

zero : Spells (row (codes "0")) (k.Int (pos 0))
zero = s.int (s.zero_digit _ refl) (omega arith)

octal : Spells (row (codes "017")) (k.Int (pos 15))
octal = s.int (s.octal _ _ _ refl (refl, (refl, tt))) (omega arith)

hexadecimal : Spells (row (codes "0x1F")) (k.Int (pos 31))
hexadecimal = s.int (s.in_base Sixteen 120 s.sixteen _ _ _ _ refl refl (refl, (refl, tt))) (omega arith)

binary : Spells (row (codes "0B101")) (k.Int (pos 5))
binary = s.int (s.in_base Two 98 s.two _ _ _ _ refl refl (refl, (refl, (refl, tt)))) (omega arith)

long : Spells (row (codes "0L")) (k.Other other.Long)
long = s.long {cs = row (codes "0")} _ (s.zero_digit _ refl) refl

decimal : Spells (row (codes "42")) (k.Int (pos 42))
decimal = s.int (s.decimal _ _ (λ e. omega (arith, e)) (refl, (refl, tt))) (omega arith)

-- `1.`, `.5`, `1e5`, `1.5E-3` and `1j`
behind : Spells (row (codes "1.")) (k.Other other.Float)
behind = s.float (s.pointed (s.before _ [] _ [] (refl, tt) refl tt))

before : Spells (row (codes ".5")) (k.Other other.Float)
before = s.float (s.pointed (s.behind _ _ [] refl (refl, tt)))

power : Spells (row (codes "1e5")) (k.Other other.Float)
power = s.float (s.power _ [] (refl, tt) (s.plain _ _ [] refl (refl, tt)))

raised : Spells (row (codes "1.5E-3")) (k.Other other.Float)
raised = s.float (s.raised {cs = row (codes "1.5")} (s.before _ [] _ _ (refl, tt) refl (refl, tt))
    (s.signed _ _ _ [] refl refl (refl, tt)))

imaginary : Spells (row (codes "1j")) (k.Other other.Float)
imaginary = s.imaginary_whole _ [] _ (refl, tt) refl

name : Spells (row (codes "_x1")) (k.Name (codes "_x1"))
name = s.name _ _ refl (refl, (refl, tt)) (λ n. unlisted keywords (codes "_x1") n refl)

reserved : Spells (row (codes "as")) (k.Keyword keyword.AS)
reserved = s.keyword keyword.AS (inr (inl (refl, refl)))

power_assign : Spells (row (codes "**=")) (k.Op operator.POWER_ASSIGN)
power_assign = s.operator operator.POWER_ASSIGN (inl (refl, refl))

-- ---- strings

string : Spells (row (codes "'a'")) (k.Str (codes "a"))
string =
    let body = s.more _ (λ e. omega (arith, e)) refl (λ t e. omega (arith, e)) (s.end (s.one 39 _ refl)) in
    s.string (s.literal (record { mark = 39; triple = false }) {ps = []} s.none (inl refl) (s.one 39 _ refl) body) refl
    refl

-- in a raw string the backslash stays
raw_string : Spells (row (codes "r'\\n'")) (k.Str (codes "\\n"))
raw_string =
    let body = s.kept _ _ refl (s.end (s.one 39 _ refl)) in
    s.string (s.literal (record { mark = 39; triple = false }) (s.raw _ refl) (inl refl) (s.one 39 _ refl) body) refl
    refl

unicode_string : Spells (row (codes "u'x'")) (k.Other other.Unicode)
unicode_string =
    let body = s.more _ (λ e. omega (arith, e)) refl (λ t e. omega (arith, e)) (s.end (s.one 39 _ refl)) in
    s.unicode_string (s.literal (record { mark = 39; triple = false }) (s.unicode _ refl) (inl refl) (s.one 39 _ refl)
    body) refl

-- one quote stands in triple quotes
triple_string : Spells (row (codes "'''a'b'''")) (k.Str (codes "a'b"))
triple_string =
    let end = s.end (s.three 39 _ _ _ refl refl refl) in
    let last = s.more _ (λ e. omega (arith, e)) refl (λ t. never true t refl) end in
    let body = s.more _ (λ e. omega (arith, e)) refl (λ t. never true t refl)
    (s.more _ (λ e. omega (arith, e)) refl (λ t. never true t refl) last) in
    s.string (s.literal (record { mark = 39; triple = true }) {ps = []} s.none (inl refl)
    (s.three 39 _ _ _ refl refl refl) body) refl refl
