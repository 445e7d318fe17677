-- Each word that lexemes may have is read as a token of its kind.
use Rattle.std.proofs.Common.{sym, subst}
use Rattle.std.specs.Fmt.{signed_decimal}
use Rattle.py_tokens.specs.declared.token.TokenKind.{TokenKind}
use Rattle.py_tokens.specs.declared.token.TokenKind.TheVariants as k
use Rattle.py_tree.specs.inner.Laid.{IsWord}
use Rattle.py_tree.specs.Writing.{spelling}
use Rattle.py_tree.proofs.WrittenRows.{Spelt}
use Rattle.py_tree.proofs.WrittenNames.{spelt_name}
use Rattle.py_tree.proofs.WrittenNumbers.{spelt_int}
use Rattle.py_tree.proofs.WrittenStrings.{spelt_string}
use Rattle.py_tree.proofs.WrittenTables.{spelt_keyword, spelt_operator}

pub spelt : (kind : TokenKind) → IsWord kind → Spelt kind (spelling kind)
spelt (k.Name bs) h = spelt_name bs h.0 h.1
spelt (k.Keyword n) h = spelt_keyword n h
spelt (k.Int n) h = subst (λ z. Spelt (k.Int z) (signed_decimal z)) (sym h.1) (spelt_int h.0 h.2)
spelt (k.Str bs) h = spelt_string bs h
spelt (k.Op n) h = spelt_operator n h
spelt k.Newline h = absurd h
spelt k.Indent h = absurd h
spelt k.Dedent h = absurd h
spelt k.End h = absurd h
spelt (k.Other o) h = absurd h
