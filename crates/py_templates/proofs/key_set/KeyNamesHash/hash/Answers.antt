use Rattle.std.proofs.Common.{◌∙◌, ◌++◌, ap, sym, length}
use Rattle.std.specs.Prelude.{fold}
use Rattle.std.specs.List.{flat_map}
use Rattle.std.specs.Hash.{fed_then, slice, u8, usize}
use Rattle.py_templates.specs.Expressions.{key_names}
use Rattle.py_templates.proofs.KeyNumbers.{length_key_names}
use Rattle.py_templates.proofs.key_set.KeyNamesHash.hash.Goals as goal

pub returns : goal.returns
returns g c =
    let write = g.H.Hasher.write in
    let named = c.self.inside.named.now in
    fed_then write c.args.state.now c.write_usize.new.self c.hash_names.new.state (usize (length named))
    (flat_map (slice u8) (key_names named)) c.write_usize.ensures c.hash_names.ensures
    ∙ ap (λ n. fold write c.args.state.now (usize n ++ flat_map (slice u8) (key_names named)))
    (sym (length_key_names named))
    ∙ ap (λ ks. fold write c.args.state.now (slice (slice u8) ks)) c.self.view_is
