-- The mirror of the code: nothing public rests on it.
-- The constructs round a statement, as the code has them. It belongs to `Plans` and `State`.
use Rattle.std.specs.Prelude.{ℕ, List, [], ◌∷◌}
use Rattle.py_compile.specs.declared.around.Around.{Around as Round}
use Rattle.py_compile.specs.declared.around.Around.TheVariants.{Body, While', For', Try', Clause', Finally'}
use Rattle.py_templates.specs.Template.{Frame}
use Rattle.py_templates.specs.Table.{Around, InWhile, InFor, InTry, InClause, InFinally}
use Rattle.py_templates.specs.Names.{Known}
use Rattle.py_compile.specs.inner.Plans.{planned_block}
use Rattle.py_emit.specs.inner.State.{frame_there}

abbrev pub around_of : Known → Round → List Around
around_of n Body = []
around_of n (While' b r o) = InWhile ∷ around_of n o
around_of n (For' b r o) = InFor ∷ around_of n o
around_of n (Try' b s r o) = InTry ∷ around_of n o
around_of n (Clause' b s r o) = InClause ∷ around_of n o
around_of n (Finally' b s d r o) = InFinally (planned_block d.now n (around_of n o)) ∷ around_of n o

abbrev pub env_of : Round → List ℕ → List Frame
env_of Body ls = []
env_of (While' b r o) ls = frame_there b 3 0 ls ∷ env_of o ls
env_of (For' b r o) ls = frame_there b 3 0 ls ∷ env_of o ls
env_of (Try' b s r o) ls = frame_there b 2 s ls ∷ env_of o ls
env_of (Clause' b s r o) ls = frame_there b 2 s ls ∷ env_of o ls
env_of (Finally' b s d r o) ls = frame_there b 2 s ls ∷ env_of o ls
