-- The first word of a header has the parts that it was made of.
use Rattle.std.proofs.Common.{◌≡◌, ℕ, ◌+◌, ◌*◌, ◌/◌, ◌%◌, ◌^◌, ◌<◌, ◌≤◌, ap, ◌∙◌, arith}
use Rattle.py_base.specs.declared.kind.Kind.{Kind}
use Rattle.paged_store.specs.Words.{Words, kind_at, kind_number, kind_in, class_in, index_class_in, first_in, head_word}
use Rattle.paged_store.specs.inner.Formed.{Formed}
use Rattle.paged_store.proofs.ValueWords.{kind_back, kind_number_bounds}

part_zero : (n c i f : ℕ) → n < 256 → (n + 256 * c + 65536 * i + 16777216 * f) % 256 ≡ n
part_zero n c i f h = omega arith

part_one : (n c i f : ℕ) → n < 256 → c < 256 → (n + 256 * c + 65536 * i + 16777216 * f) / 256 % 256 ≡ c
part_one n c i f h l = omega arith

part_two : (n c i f : ℕ) → n < 256 → c < 256 → i < 256 → (n + 256 * c + 65536 * i + 16777216 * f) / 65536 % 256 ≡ i
part_two n c i f h l m = omega arith

part_three : (n c i f : ℕ) → n < 256 → c < 256 → i < 256 → (n + 256 * c + 65536 * i + 16777216 * f) / 16777216 ≡ f
part_three n c i f h l m = omega arith

kind_small : (k : Kind) → kind_number k < 256
kind_small k = let b : (1 ≤ kind_number k) × (kind_number k ≤ 13) = kind_number_bounds k in omega arith

pub head_kind : (k : Kind) (c i f : ℕ) → kind_in (head_word k c i f) ≡ k
unfolding kind_in
head_kind k c i f = ap kind_at (part_zero (kind_number k) c i f (kind_small k)) ∙ kind_back k

pub head_class : (k : Kind) (c i f : ℕ) → c < 256 → class_in (head_word k c i f) ≡ c
unfolding class_in
head_class k c i f h = part_one (kind_number k) c i f (kind_small k) h

pub head_index : (k : Kind) (c i f : ℕ) → c < 256 → i < 256 → index_class_in (head_word k c i f) ≡ i
unfolding index_class_in
head_index k c i f h l = part_two (kind_number k) c i f (kind_small k) h l

pub head_first : (k : Kind) (c i f : ℕ) → c < 256 → i < 256 → first_in (head_word k c i f) ≡ f
unfolding first_in
head_first k c i f h l = part_three (kind_number k) c i f (kind_small k) h l

pub head_below : (k : Kind) (c i f : ℕ) → c < 256 → i < 256 → f < 256 → head_word k c i f < 2 ^ 32
head_below k c i f h l m = let b : kind_number k < 256 = kind_small k in omega arith

-- the parts of any word are small, but for the last, which is where the word has 32 bits
pub class_small : (x : ℕ) → class_in x < 256
unfolding class_in
class_small x = omega arith

pub index_small : (x : ℕ) → index_class_in x < 256
unfolding index_class_in
index_small x = omega arith

pub first_small : (x : ℕ) → x < 2 ^ 32 → first_in x < 256
unfolding first_in
first_small x h = omega arith

-- a record's header has a small first word
pub small_from_first : (x : ℕ) → first_in x < 256 → x < 2 ^ 32
unfolding first_in
small_from_first x h = omega arith

pub formed_small : (w : Words) (a : ℕ) → Formed w a → w (2 * a) < 2 ^ 32
formed_small w a f = small_from_first (w (2 * a)) (omega (arith, f.first, f.class))
