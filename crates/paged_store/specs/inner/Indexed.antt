-- The index of a dictionary, in the words of its extent. What code and proofs say to each other: nothing public rests
-- on it.
use Rattle.std.specs.Prelude.{◌≡◌, ℕ, ◌+◌, ◌*◌, ◌/◌, Bool, true, ◌||◌, length}
use Rattle.py_base.specs.declared.kind.Kind.TheVariants.{Dict}
use Rattle.py_data.specs.declared.value.Value.{Value}
use Rattle.py_data.specs.Heap.{value_at}
use Rattle.dict_index.specs.Keys.{KeyClass, class_of, home_of}
use Rattle.dict_index.specs.Index.{IsRight}
use Rattle.paged_store.specs.Words.{Words, decode, kind_by, index_by, index_size}
use Rattle.paged_store.specs.inner.Sight.{records_in}
use Rattle.paged_store.specs.State.{State}

-- what a value is as a key, where the records are those that words stand for
abbrev pub class_by : Words → Value → KeyClass
class_by w = class_of (records_in w)

-- the words of a dictionary's index, from 0 on
abbrev pub index_words : Words → ℕ → Words
index_words w a s = w (index_by w a + s)

-- the home of the key of a dictionary's pair of a number, among the slots of its index
abbrev pub home_by : Words → ℕ → ℕ → ℕ
home_by w a j = home_of (index_size w a) (class_by w (value_at (decode w a).values (2 * j)))

abbrev pub pairs_by : Words → ℕ → ℕ
pairs_by w a = length (decode w a).values / 2

-- the index of the dictionary at an address is that of its pairs
abbrev pub IsIndexed : Words → ℕ → Type 0
IsIndexed w a = IsRight (home_by w a) (index_size w a) (index_words w a) (pairs_by w a)

-- so are those of all dictionaries among the records that are there
abbrev pub AreIndexed : (ℕ → Bool) → Words → Type 0
AreIndexed there w = (a : ℕ) → there a ≡ true → kind_by w a ≡ Dict → IsIndexed w a

-- in the image, in what each segment sees, and in what it saw as its open step began
pub record HasIndexes (s : State) : Type 0 where
  pub image : AreIndexed s.image s.shared
  pub now : (k : ℕ) → AreIndexed (λ a. s.image a || (s.now k).holds a) (s.now k).word
  pub before : (k : ℕ) → AreIndexed (λ a. s.image a || (s.before k).holds a) (s.before k).word
