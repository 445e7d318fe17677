use Rattle.std.proofs.Common.{◌∙◌}
use Rattle.paged_store.proofs.TextLemmas.{other_text, whole_text, end_text}
use Rattle.paged_store.proofs.find.same_bytes.Goals as goal

pub returns-then-not-same_words : goal.returns-then-not-same_words
returns-then-not-same_words c =
    other_text _ _ c.args.a c.args.b _ _ c.args.n c.requires.first.there.stands c.requires.second.there.stands
    c.requires.first.kind c.requires.second.kind c.requires.first.body c.requires.second.body c.requires.first.count
    (c.if-n-m.false ∙ c.requires.second.count) c.if-not-same_words.ensures

pub returns-then-n-eq0 : goal.returns-then-n-eq0
returns-then-n-eq0 c =
    whole_text _ _ c.args.a c.args.b _ _ c.args.n c.requires.first.there.stands c.requires.second.there.stands
    c.requires.first.kind c.requires.second.kind c.requires.first.body c.requires.second.body c.requires.first.count
    (c.if-n-m.false ∙ c.requires.second.count) c.if-not-same_words.ensures c.if-n-eq0.true

pub returns : goal.returns
returns c = c.eq.ensures ∙
    end_text _ _ c.args.a c.args.b _ _ c.args.n c.requires.first.there.stands c.requires.second.there.stands
    c.requires.first.kind c.requires.second.kind c.requires.first.body c.requires.second.body c.requires.first.count
    (c.if-n-m.false ∙ c.requires.second.count) _ _ _ _ c.if-not-same_words.ensures c.word.ensures
    c.word-2.ensures c.to_le_bytes-last.ensures c.to_le_bytes-other.ensures
