use Rattle.std.proofs.Common.{◌≡◌, Vec, Global, length, ap, ◌∙◌, subst, arith}
use Rattle.py_tokens.specs.declared.token.Token.{Token}
use Rattle.py_tokens.specs.Layout.{lexed, tokens_of_text}
use Rattle.py_tokens.specs.Tokens.{Tokenizes}
use Rattle.py_tokens.specs.Characters.{text_characters}
use Rattle.py_tokens.proofs.CharacterLemmas.{length_text_characters}
use Rattle.py_tokens.proofs.Streams.{stream_of}
use Rattle.py_tokens.proofs.Whole.{cut_whole}
use Rattle.py_tokens.proofs.lex.tokens.Goals as goal

pub lexed-requires : goal.lexed-requires
lexed-requires c =
    let same : length c.as_slice.result.now ≡ length (text_characters c.args.text.now) =
    ap length (c.as_slice.ensures ∙ c.in_ok-chars.ensures) in
    omega (arith, same, length_text_characters c.args.text.now)

exact : (c : goal.After-drop-chars-inside) → Tokenizes {X = Vec Token Global} (λ v. v.items) c.lexed.result
    (tokens_of_text c.args.text.now)
unfolding tokens_of_text
exact c = subst (λ cs. Tokenizes {X = Vec Token Global} (λ v. v.items) c.lexed.result
    (lexed (length c.args.text.now) cs)) (c.as_slice.ensures ∙ c.in_ok-chars.ensures) c.lexed.ensures

pub returns-clause-exact : goal.returns-clause-exact
returns-clause-exact c = exact c

pub returns-clause-stream : goal.returns-clause-stream
returns-clause-stream c = stream_of {X = Vec Token Global} (λ v. v.items) c.lexed.result c.args.text.now (exact c)

pub returns-clause-whole : goal.returns-clause-whole
returns-clause-whole c = cut_whole (length c.args.text.now) (text_characters c.args.text.now)

pub returns-in_err-chars-clause-whole : goal.returns-in_err-chars-clause-whole
returns-in_err-chars-clause-whole c = cut_whole (length c.args.text.now) (text_characters c.args.text.now)
