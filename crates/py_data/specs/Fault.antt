-- The exceptions that operations on objects raise. States `docs/LANGUAGE.md`, "Exceptions".
use Rattle.std.specs.Prelude.{ℕ, List, codes}
use Rattle.py_data.specs.declared.value.Value.{Value}
use Rattle.py_data.specs.declared.record.Fault.{Fault}
use Rattle.py_data.specs.declared.record.With.TheVariants.{Nothing, Text, Held}
use Rattle.py_base.specs.Numbers.{class_number}

-- an exception of a class with a text
abbrev pub text_fault : ℕ → List ℕ → Fault
text_fault exc text = record { exc = exc; with = Text text }

-- no item has this index
abbrev pub index_fault : Fault
index_fault = text_fault (class_number (codes "IndexError")) (codes "index out of range")

-- a list without items has none to take out
abbrev pub empty_fault : Fault
empty_fault = text_fault (class_number (codes "IndexError")) (codes "pop from empty list")

-- the record would have more values than one may have
abbrev pub memory_fault : Fault
memory_fault = record { exc = class_number (codes "MemoryError"); with = Nothing }

-- the value can't be gone through
abbrev pub iterable_fault : Fault
iterable_fault = text_fault (class_number (codes "TypeError")) (codes "not iterable")

-- pairs came or went while a dictionary was gone through
abbrev pub size_fault : Fault
size_fault = text_fault (class_number (codes "RuntimeError")) (codes "dictionary changed size during iteration")

-- the value can't be a key
abbrev pub hash_fault : Fault
hash_fault = text_fault (class_number (codes "TypeError")) (codes "unhashable")

-- the key isn't there
abbrev pub key_fault : Value → Fault
key_fault key = record { exc = class_number (codes "KeyError"); with = Held key }

-- values are nested too deep in one another
abbrev pub depth_fault : Fault
depth_fault = text_fault (class_number (codes "RuntimeError")) (codes "maximum recursion depth exceeded")

-- an operation isn't for operands of these types
abbrev pub operand_fault : Fault
operand_fault = text_fault (class_number (codes "TypeError")) (codes "unsupported operand")

-- arguments are too few or too many, or one is of another type
abbrev pub argument_fault : Fault
argument_fault = text_fault (class_number (codes "TypeError")) (codes "wrong arguments")
