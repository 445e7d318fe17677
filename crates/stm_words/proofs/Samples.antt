-- Rows by hand of what words give, by computation.
use Rattle.std.proofs.Common.{◌≡◌, refl, [], ◌∷◌, Option, Some, None, codes}
use Rattle.stm_words.specs.declared.call.Options.{Options}
use Rattle.stm_words.specs.declared.call.Script.{Script}
use Rattle.stm_words.specs.declared.call.Script.TheVariants.{Source, File, Demo}
use Rattle.stm_words.specs.Options.{options_of}

abbrev usual : Script → Option Options
usual s = Some (record { script = s; segments = 4; length = 1000; pages = 16384; budget = 1000000000000 })

the_source : options_of (codes "-" ∷ []) ≡ usual Source
the_source = refl

a_file : options_of (codes "a=b" ∷ []) ≡ usual (File (codes "a=b"))
a_file = refl

a_workload : options_of (codes "--demo" ∷ codes "0000000001000000" ∷ []) ≡ usual (Demo 1000000)
a_workload = refl

source_behind_dashes : options_of (codes "--" ∷ codes "-" ∷ []) ≡ usual Source
source_behind_dashes = refl

file_behind_dashes : options_of (codes "--" ∷ codes "--demo=7" ∷ []) ≡ usual (File (codes "--demo=7"))
file_behind_dashes = refl

numbers : options_of (codes "--segments=8" ∷ codes "-" ∷ codes "--pages" ∷ codes "65536" ∷ codes "--length=1" ∷ codes
    "--budget" ∷ codes "1000000000000000" ∷ [])
    ≡ Some (record { script = Source; segments = 8; length = 1; pages = 65536; budget = 1000000000000000 })
numbers = refl

nothing : options_of [] ≡ None
nothing = refl

empty_word : options_of ([] ∷ []) ≡ None
empty_word = refl

too_many_digits : options_of (codes "--segments=00000000000000001" ∷ codes "-" ∷ []) ≡ None
too_many_digits = refl

a_sign : options_of (codes "--segments=+1" ∷ codes "-" ∷ []) ≡ None
a_sign = refl

a_dash_as_value : options_of (codes "--segments" ∷ codes "-" ∷ codes "-" ∷ []) ≡ None
a_dash_as_value = refl

no_value : options_of (codes "-" ∷ codes "--segments" ∷ []) ≡ None
no_value = refl

twice : options_of (codes "--segments=1" ∷ codes "-" ∷ codes "--segments" ∷ codes "1" ∷ []) ≡ None
twice = refl

both_scripts : options_of (codes "--demo=7" ∷ codes "-" ∷ []) ≡ None
both_scripts = refl

front_of_a_name : options_of (codes "--seg=1" ∷ codes "-" ∷ []) ≡ None
front_of_a_name = refl

above_a_million : options_of (codes "--demo=1000001" ∷ []) ≡ None
above_a_million = refl
