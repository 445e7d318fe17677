-- Classes of characters, and the longest run of one at the front of a text. States `docs/LANGUAGE.md`, "Characters".
use Rattle.std.specs.Prelude.{ℕ, ◌+◌, Bool, false, nat_lt, nat_le, ◌==◌, ◌&&◌, ◌||◌, not, List, [], ◌∷◌, take, drop}
use Rattle.std.specs.Char.{digit_value}
use Rattle.std.specs.List.{prefix_len}
use Rattle.py_tokens.specs.declared.character.Character.{Character}
use Rattle.py_tokens.specs.declared.class.Base.{Base}
use Rattle.py_tokens.specs.declared.class.Base.TheVariants.{Two, Eight, Ten, Sixteen}
use Rattle.py_tokens.specs.declared.class.Class.{Class}
use Rattle.py_tokens.specs.declared.class.Class.TheVariants as class

abbrev pub base_of : Base → ℕ
base_of Two = 2
base_of Eight = 8
base_of Ten = 10
base_of Sixteen = 16

abbrev pub is_name_start : ℕ → Bool
is_name_start b = (nat_le 65 b && nat_le b 90) || (nat_le 97 b && nat_le b 122) || b == 95

abbrev pub holds : Class → ℕ → Bool
holds (class.Byte x) b = b == x
holds (class.Letter x) b = b == x || b + 32 == x
holds (class.Digit base) b = nat_lt (digit_value b) (base_of base)
holds class.NameStart b = is_name_start b
holds class.Name b = is_name_start b || nat_lt (digit_value b) 10
holds class.Blank b = b == 32 || b == 9 || b == 12
holds class.InLine b = not (b == 10)
holds class.Sign b = b == 43 || b == 45
holds class.Quote b = b == 39 || b == 34

abbrev pub in_class : Class → Character → Bool
in_class k c = holds k c.byte

-- the next character is of the class
abbrev pub next_is : Class → List Character → Bool
next_is k [] = false
next_is k (c ∷ cs) = holds k c.byte

-- the longest run of such characters at the front, and what follows it
abbrev pub run_len : Class → List Character → ℕ
run_len k cs = prefix_len (in_class k) cs

abbrev pub run : Class → List Character → List Character
run k cs = take (run_len k cs) cs

abbrev pub after : Class → List Character → List Character
after k cs = drop (run_len k cs) cs
