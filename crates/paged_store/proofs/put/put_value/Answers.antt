use Rattle.std.proofs.Common.{◌+◌, ◌∙◌, refl}
use Rattle.page_table.specs.Pages.{after_write}
use Rattle.page_table.specs.Lists.{table_of}
use Rattle.paged_store.specs.inner.Written.{put_word}
use Rattle.paged_store.specs.inner.Writing.{with_words}
use Rattle.paged_store.proofs.PutLemmas.{words_then}
use Rattle.paged_store.proofs.put.put_value.Goals as goal

pub returns : goal.returns
returns c =
    let w = (table_of c.args.pages.now).word c.args.k in
    words_then c.args.k (put_word c.args.place c.tag.result w) (put_word (c.args.place + 1) c.payload.result)
    (table_of c.args.pages.now) (after_write c.args.k c.args.place c.tag.result (table_of c.args.pages.now))
    (table_of c.write_two.new.self) refl c.write_two.ensures
    ∙ (λ i. with_words c.args.k (put_word (c.args.place + 1) (c.payload.ensures i)
    (put_word c.args.place (c.tag.ensures i) w)) (table_of c.args.pages.now))
