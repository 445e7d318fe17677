-- The canonical text of a tree of a text has this tree.
use Rattle.std.proofs.Common.{◌≡◌, ℕ, List, Ok}
use Rattle.py_tokens.specs.Layout.{tokens_of_text}
use Rattle.py_tokens.specs.declared.token.Token.{Token}
use Rattle.py_tree.specs.declared.stmt.Module.{Module}
use Rattle.py_tree.specs.Canonical.{lexemes, module_text}
use Rattle.py_tree.proofs.LinedKinds.{Bytes}
use Rattle.py_tree.proofs.LinedText.{lined_text}
use Rattle.py_tree.proofs.WrittenText.{reads_again}
use Rattle.py_grammar.specs.Statements.{IsModule}
use Rattle.canonical_laws.proofs.CanonBlocks.{canonical}
use Rattle.canonical_laws.proofs.LinedBlocks.{lexemes_laid}

pub read_again : (text : List ℕ) (ts : List Token) (m : Module) → Bytes text → tokens_of_text text ≡ Ok ts →
    IsModule m ts → (us : List Token) × (tokens_of_text (module_text m) ≡ Ok us) × IsModule m us
read_again text ts m b e h =
    let found = reads_again (lexemes m) (lexemes_laid text ts m b e h) in
    (found.0, found.1, canonical m ts (lined_text text ts b e) h found.0 found.2)
