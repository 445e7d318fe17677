use Rattle.std.proofs.Common.{◌≡◌, ◌+◌, ◌-◌, ◌/◌, get_or, drop, ap, arith, ◌∙◌}
use Rattle.page_table.specs.Pages.{Table}
use Rattle.page_table.specs.Lists.{table_of}
use Rattle.paged_store.specs.Paged.{rewound}
use Rattle.paged_store.specs.inner.Ending.{with_words}
use Rattle.paged_store.proofs.SpanSteps.{write_step}
use Rattle.paged_store.proofs.spans.write_back.Goals as goal

pub write_word-requires-clause-own : goal.write_word-requires-clause-own
write_word-requires-clause-own c =
    ap (λ (t : Table). t.own c.args.k ((get_or c.args.notes.now (c.notes.left - 1)
    (record { place = 0; word = 0 })).place / 512)) c.notes.invariant.table
    ∙ (c.requires.lie (c.notes.left - 1) (record { place = 0; word = 0 }) (omega arith)).1

pub notes-preserved : goal.notes-preserved
notes-preserved c =
    let t = table_of c.args.pages.now in
    let more : c.notes.left ≡ c.notes.left - 1 + 1 = omega arith in
    record {
      within = let l = c.notes.invariant.within in omega (arith, l);
      table = write_step c.args.k (c.notes.left - 1) c.args.notes.now (record { place = 0; word = 0 }) t
          (table_of c.notes.pages) (table_of c.write_word.new.self) (let l = c.notes.invariant.within in
          omega (arith, l))
          (c.notes.invariant.table ∙ ap (λ n. with_words c.args.k (rewound (drop n c.args.notes.now) (t.word c.args.k))
          t) more) c.write_word.ensures;
    }
