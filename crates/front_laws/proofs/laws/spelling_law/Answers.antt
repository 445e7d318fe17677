use Rattle.front_laws.proofs.NoFront.{pieces_bad}
use Rattle.front_laws.proofs.OneKind.{one_kind}
use Rattle.front_laws.proofs.Spelling.{text_pieces, text_refused}
use Rattle.front_laws.proofs.laws.spelling_law.Goals as goal

pub returns-clause-tokens : goal.returns-clause-tokens
returns-clause-tokens c = text_pieces

pub returns-clause-refused : goal.returns-clause-refused
returns-clause-refused c = text_refused

pub returns-clause-bad : goal.returns-clause-bad
returns-clause-bad c = pieces_bad

pub returns-clause-one : goal.returns-clause-one
returns-clause-one c = one_kind
