use Rattle.heap_bound.proofs.Calling.{advance_law, begin_law, solo_law, commit_law}
use Rattle.heap_bound.proofs.Within.{within_law}
use Rattle.heap_bound.proofs.laws.call_law.Goals as goal

pub returns-clause-within : goal.returns-clause-within
returns-clause-within g c = within_law (g.C.Client.prog c.args.client.now) (g.C.Client.sound c.args.client.now)
    (g.met.C.Client.sound_step c.args.client.now) (g.met.C.Client.sound_safe c.args.client.now)
    (g.met.C.Client.waits_quietly c.args.client.now) c.good_law.ensures.moves

pub returns-clause-advance : goal.returns-clause-advance
returns-clause-advance g c = advance_law (g.C.Client.prog c.args.client.now) (g.C.Client.sound c.args.client.now)
    (g.met.C.Client.sound_step c.args.client.now) (g.met.C.Client.sound_safe c.args.client.now)
    (g.met.C.Client.waits_quietly c.args.client.now) c.good_law.ensures.moves

pub returns-clause-begin : goal.returns-clause-begin
returns-clause-begin g c = begin_law

pub returns-clause-solo : goal.returns-clause-solo
returns-clause-solo g c = solo_law

pub returns-clause-commit : goal.returns-clause-commit
returns-clause-commit g c = commit_law
