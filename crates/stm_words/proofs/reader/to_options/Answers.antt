use Rattle.std.proofs.Common.{rules}
use Rattle.stm_words.specs.inner.Given.{given_of}
use Rattle.stm_words.proofs.Within.{is_within}
use Rattle.stm_words.proofs.reader.to_options.Goals as goal

pub returns-clause-within : goal.returns-clause-within
returns-clause-within c = is_within (given_of c.args.given) _ (search rules)
