-- What is outside of a program: the input that is left, how often it was found to be at its end, what was written to
-- the two outputs, and whether the output is in the middle of a line. States `docs/LANGUAGE.md`, "Print" and "Input".
use Rattle.std.specs.Prelude.{◌≡◌, ℕ, ◌+◌, ◌-◌, ◌^◌, ◌≤◌, min, Bool, List, [], ◌∷◌, ◌++◌, length, take, drop, Option, Some, None}
use Rattle.std.specs.Io.BufRead.{take_through}
use Rattle.py_data.specs.declared.stop.Out.{Out}
use Rattle.py_data.specs.declared.stop.Out.TheVariants.{Output, ErrorOutput}

-- The input is known only where the source tells its bytes.
pub record World : Type 0 where
  pub input : Option (List ℕ)
  pub ends : ℕ
  pub out : List ℕ
  pub err : List ℕ
  pub mid : Bool

-- the world once bytes were written to one of its outputs
abbrev pub wrote : Out → List ℕ → World → World
wrote Output bytes w = record w { out = w.out ++ bytes }
wrote ErrorOutput bytes w = record w { err = w.err ++ bytes }

-- the first line: up to the first newline, which belongs to it, and at most so many bytes
abbrev pub line_of : ℕ → List ℕ → List ℕ
line_of most xs = take_through 10 (take most xs)

-- a line that an input can give: the next one where its bytes are known, else any of so many bytes
abbrev pub IsLine : Option (List ℕ) → ℕ → List ℕ → Type 0
IsLine None most l = length l ≤ most
IsLine (Some xs) most l = l ≡ line_of most xs

-- what is left once so many bytes were taken; what isn't known stays so
abbrev pub shrunk : Option (List ℕ) → ℕ → Option (List ℕ)
shrunk None n = None
shrunk (Some xs) n = Some (drop n xs)

-- what is known of an output once these bytes follow; what isn't known stays so
abbrev pub grown : Option (List ℕ) → List ℕ → Option (List ℕ)
grown None b = None
grown (Some xs) b = Some (xs ++ b)

-- one more, in 64 bits: the last number stays
abbrev pub counted : ℕ → ℕ
counted n = min (n + 1) (2 ^ 64 - 1)

-- an empty line is the end of an input, which is counted
abbrev pub ends_after : List ℕ → ℕ → ℕ
ends_after [] n = counted n
ends_after (b ∷ bs) n = n

-- the world once a line was taken
abbrev pub took : List ℕ → World → World
took l w = record w { input = shrunk w.input (length l); ends = ends_after l w.ends }
