use Rattle.page_table.specs.Lists.{table_of}
use Rattle.paged_store.proofs.ClaimLemmas.{one_lies_back, one_class_back, given_one}
use Rattle.paged_store.proofs.claim.return_one.Goals as goal

pub give_back-requires-clause-class : goal.give_back-requires-clause-class
give_back-requires-clause-class c = one_class_back c.args.class c.args.place c.if-class-gt0.true c.requires.classes

pub give_back-requires-clause-lies : goal.give_back-requires-clause-lies
give_back-requires-clause-lies c = one_lies_back c.args.class c.args.place _ c.if-class-gt0.true c.requires.lie

pub returns-then-class-gt0 : goal.returns-then-class-gt0
returns-then-class-gt0 c = given_one c.args.class c.args.place (table_of c.args.pages.now)
    (table_of c.give_back.new.self) c.if-class-gt0.true
    (one_class_back c.args.class c.args.place c.if-class-gt0.true c.requires.classes).1 c.give_back.ensures
