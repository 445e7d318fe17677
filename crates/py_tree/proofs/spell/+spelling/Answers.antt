use Rattle.py_tree.specs.Spelling.{words, words_trailer, words_link, words_named, words_pair}
use Rattle.py_tree.proofs.Pages.{listed_more, all_more, pair_spelled, named_spelled, link_spelled}
use Rattle.py_tree.proofs.spell.+spelling.Goals as goal

pub listed-loop-e-preserved : goal.listed-loop-e-preserved
listed-loop-e-preserved t c = listed_more words c.args.line c.loop-e.w c.separate.new.w c.expression.new.w _
    c.loop-e.comma c.args.es.now c.loop-e.e-index c.e-item.result c.loop-e-test.true c.e-item.is
    c.in_ok-separate.ensures c.in_ok-expression.ensures c.loop-e.invariant

pub dictionary-loop-pair-preserved : goal.dictionary-loop-pair-preserved
dictionary-loop-pair-preserved t c =
    listed_more words_pair c.args.line c.loop-pair.w c.separate.new.w c.expression-in-loop-pair.new.w _
    c.loop-pair.comma c.args.pairs.now c.loop-pair.pair-index c.pair-item.result c.loop-pair-test.true
    c.pair-item.is c.in_ok-separate.ensures
    (pair_spelled c.args.line c.separate.new.w c.expression.new.w c.operator.new.self c.expression-in-loop-pair.new.w
    c.pair-item.result c.in_ok-expression.ensures c.in_ok-operator.ensures c.in_ok-expression-2.ensures)
    c.loop-pair.invariant

pub named-loop-n-preserved : goal.named-loop-n-preserved
named-loop-n-preserved t c =
    listed_more words_named c.args.line c.loop-n.w c.separate.new.w c.expression.new.w _ c.loop-n.comma c.args.ns.now
    c.loop-n.n-index c.n-item.result c.loop-n-test.true c.n-item.is c.in_ok-separate.ensures
    (named_spelled c.args.line c.separate.new.w c.name.new.self c.operator.new.self c.expression.new.w c.n-item.result
    c.as_slice.result.now c.as_slice.ensures c.in_ok-name.ensures c.in_ok-operator.ensures
    c.in_ok-expression.ensures)
    c.loop-n.invariant

pub links-loop-link-preserved : goal.links-loop-link-preserved
links-loop-link-preserved t c =
    all_more words_link c.args.line c.loop-link.w c.expression.new.w _ c.args.links.now c.loop-link.link-index
    c.link-item.result c.loop-link-test.true c.link-item.is
    (link_spelled c.args.line c.loop-link.w c.operator.new.w c.expression.new.w c.link-item.result
    c.in_ok-operator.ensures c.in_ok-expression.ensures)
    c.loop-link.invariant

pub trailers-loop-each-preserved : goal.trailers-loop-each-preserved
trailers-loop-each-preserved t c = all_more words_trailer c.args.line c.loop-each.w c.trailer.new.w _
    c.args.trailers.now c.loop-each.each-index c.each-item.result c.loop-each-test.true c.each-item.is
    c.in_ok-trailer.ensures c.loop-each.invariant
