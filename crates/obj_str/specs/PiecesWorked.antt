-- Parts of texts worked by hand. States `docs/LANGUAGE.md`, "Methods of strings".
use Rattle.std.specs.Prelude.{◌≡◌, true, false, [], ◌∷◌, ◌++◌, Some, None, refl, codes}
use Rattle.obj_str.specs.Pieces.{begins, ends, find, split, words, joined, strip, upper, lower, replaced}

-- 'abab'.find('ba'), 'abab'.find('ab'), 'abab'.find('bb'), 'ab'.find('') and ''.find('')
inside : find (codes "abab") (codes "ba") ≡ Some 1
inside = refl

least : find (codes "abab") (codes "ab") ≡ Some 0
least = refl

nowhere : find (codes "abab") (codes "bb") ≡ None
nowhere = refl

empty_part : find (codes "ab") [] ≡ Some 0
empty_part = refl

empty_both : find [] [] ≡ Some 0
empty_both = refl

-- 'ab'.startswith('ab'), 'ab'.startswith('abc'), 'cab'.endswith('ab'), 'ab'.endswith('cab') and 'ab'.endswith('')
whole : begins (codes "ab") (codes "ab") ≡ true
whole = refl

longer : begins (codes "abc") (codes "ab") ≡ false
longer = refl

at_the_end : ends (codes "ab") (codes "cab") ≡ true
at_the_end = refl

longer_end : ends (codes "cab") (codes "ab") ≡ false
longer_end = refl

empty_end : ends [] (codes "ab") ≡ true
empty_end = refl

-- 'a,,b,'.split(','), ''.split(','), 'aaa'.split('aa')
four : split (codes ",") (codes "a,,b,") ≡ codes "a" ∷ [] ∷ codes "b" ∷ [] ∷ []
four = refl

one_empty : split (codes ",") [] ≡ [] ∷ []
one_empty = refl

from_the_left : split (codes "aa") (codes "aaa") ≡ [] ∷ codes "a" ∷ []
from_the_left = refl

-- ' a \t b\n'.split(), '  '.split() and ''.split()
runs : words (codes " a " ++ 9 ∷ codes " b" ++ 10 ∷ []) ≡ codes "a" ∷ codes "b" ∷ []
runs = refl

blanks_alone : words (codes "  ") ≡ []
blanks_alone = refl

no_words : words [] ≡ []
no_words = refl

-- ', '.join(['a', '', 'b']), ', '.join([]) and ', '.join(['a'])
two_between : joined (codes ", ") (codes "a" ∷ [] ∷ codes "b" ∷ []) ≡ codes "a, , b"
two_between = refl

none_joined : joined (codes ", ") [] ≡ []
none_joined = refl

one_joined : joined (codes ", ") (codes "a" ∷ []) ≡ codes "a"
one_joined = refl

-- '\t a b \v\f'.strip() and ' \r'.strip()
both_ends : strip (9 ∷ codes " a b " ++ 11 ∷ 12 ∷ []) ≡ codes "a b"
both_ends = refl

all_blank : strip (codes " " ++ 13 ∷ []) ≡ []
all_blank = refl

-- 'aZ{`\xe4'.upper() and 'Az[@\xc4'.lower()
raised : upper (codes "aZ{`" ++ 228 ∷ []) ≡ codes "AZ{`" ++ 228 ∷ []
raised = refl

lowered : lower (codes "Az[@" ++ 196 ∷ []) ≡ codes "az[@" ++ 196 ∷ []
lowered = refl

-- 'aaa'.replace('aa', 'b'), 'abc'.replace('b', ''), 'ab'.replace('', '-') and ''.replace('', '-')
leftmost : replaced (codes "aa") (codes "b") (codes "aaa") ≡ codes "ba"
leftmost = refl

taken_out : replaced (codes "b") [] (codes "abc") ≡ codes "ac"
taken_out = refl

each_byte : replaced [] (codes "-") (codes "ab") ≡ codes "-a-b-"
each_byte = refl

empty_text : replaced [] (codes "-") [] ≡ codes "-"
empty_text = refl
