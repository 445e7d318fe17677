-- A name is read as that name.
use Rattle.std.proofs.Common.{◌≡◌, ℕ, ◌+◌, true, if◌then◌else◌, List, [], ◌∷◌, ◌++◌, None, Ok, refl, ap, ◌∙◌}
use Rattle.std.specs.List.{list_all}
use Rattle.py_tokens.specs.declared.character.Character.{Character}
use Rattle.py_tokens.specs.declared.class.Class.TheVariants as class
use Rattle.py_tokens.specs.declared.token.TokenKind.TheVariants as k
use Rattle.py_tokens.specs.Characters.{character}
use Rattle.py_tokens.specs.Classes.{holds, next_is}
use Rattle.py_tokens.specs.Strings.{prefix_of}
use Rattle.py_tokens.specs.Names.{word_number, name_kind, named, name_at}
use Rattle.py_tokens.specs.Tables.{keywords}
use Rattle.py_tokens.specs.Words.{token_word}
use Rattle.py_tree.specs.inner.Laid.{is_name}
use Rattle.py_tree.proofs.WrittenRows.{row, Spelt, entry, both}
use Rattle.py_tree.proofs.WrittenFronts.{front_name, quiet_by, bytes_row, run_row, after_row}

name_row : (line' at line from to later : ℕ) (bs : List ℕ) (rest : List Character) →
    list_all (holds class.Name) bs ≡ true →
    name_at line' (row at line bs ++ character 32 from to later ∷ rest) ≡ Ok (
      name_kind (word_number keywords bs) bs,
      character 32 from to later ∷ rest,
    )
unfolding name_at
name_row line' at line from to later bs rest h =
    let front = run_row class.Name at line bs (character 32 from to later) rest h refl in
    let behind = after_row class.Name at line bs (character 32 from to later) rest h refl in
    (λ i. named line' (front i) (behind i) (if next_is class.Quote (behind i) then prefix_of (front i) else None))
    ∙ ap (λ z. Ok (name_kind (word_number keywords z) z, character 32 from to later ∷ rest)) (bytes_row at line bs)

starts : (b : ℕ) → holds class.NameStart b ≡ true → holds class.Name b ≡ true
starts b h = rw h refl

pub spelt_name : (bs : List ℕ) → is_name bs ≡ true → word_number keywords bs ≡ None → Spelt (k.Name bs) bs
spelt_name [] h n = absurd (cc)
spelt_name (b ∷ bs) h n =
    let each = both (holds class.NameStart b) (list_all (holds class.Name) bs) h in
    let all : list_all (holds class.Name) (b ∷ bs) ≡ true = rw (starts b each.0) each.1 in
    entry (k.Name (b ∷ bs)) b bs (quiet_by (holds class.Name) refl refl refl (b ∷ bs) all)
    (λ size at line from to later rest.
    front_name size (character b at (at + 1) line) (row (at + 1) line bs ++ character 32 from to later ∷ rest) each.0
    ∙ ap (token_word size (character b at (at + 1) line)) (name_row line at line from to later (b ∷ bs) rest all ∙
    ap (λ z. Ok (name_kind z (b ∷ bs), character 32 from to later ∷ rest)) n))
