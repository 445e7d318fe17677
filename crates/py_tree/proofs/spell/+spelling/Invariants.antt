use Rattle.std.proofs.Common.{◌≡◌, drop, map}
use Rattle.py_tree.specs.Spelling.{all_words, commas, words, words_trailer, words_link, words_named, words_pair}
use Rattle.py_tree.specs.inner.Page.{spell, listed}
use Rattle.py_tree.proofs.spell.+spelling.Given as goal

abbrev pub invariant-listed-loop-e : goal.invariant-listed-loop-e
invariant-listed-loop-e l = spell l.line l.w (listed l.comma (map words (drop l.e-index l.es))) ≡ spell l.line
    l.initial.w (listed l.initial.comma (map words l.es))

abbrev pub invariant-named-loop-n : goal.invariant-named-loop-n
invariant-named-loop-n l = spell l.line l.w (listed l.comma (map words_named (drop l.n-index l.ns))) ≡ spell l.line
    l.initial.w (listed l.initial.comma (map words_named l.ns))

abbrev pub invariant-dictionary-loop-pair : goal.invariant-dictionary-loop-pair
invariant-dictionary-loop-pair l = spell l.line l.w (listed l.comma (map words_pair (drop l.pair-index l.pairs))) ≡
    spell l.line l.initial.w (commas (map words_pair l.pairs))

abbrev pub invariant-links-loop-link : goal.invariant-links-loop-link
invariant-links-loop-link l = spell l.line l.w (all_words (map words_link (drop l.link-index l.links))) ≡ spell l.line
    l.initial.w (all_words (map words_link l.links))

abbrev pub invariant-trailers-loop-each : goal.invariant-trailers-loop-each
invariant-trailers-loop-each l = spell l.line l.w (all_words (map words_trailer (drop l.each-index l.trailers))) ≡
    spell l.line l.initial.w (all_words (map words_trailer l.trailers))
