use Rattle.heap_bound.proofs.Cutting.{place_law, next_law, kept_law}
use Rattle.heap_bound.proofs.Lifting.{rise_law}
use Rattle.heap_bound.proofs.laws.cut_law.Goals as goal

pub returns-clause-place : goal.returns-clause-place
returns-clause-place g c = place_law (g.C.Client.prog c.args.client.now) (g.C.Client.sound c.args.client.now)
    (g.met.C.Client.sound_step c.args.client.now) (g.met.C.Client.sound_safe c.args.client.now)
    (g.met.C.Client.waits_quietly c.args.client.now)

pub returns-clause-next : goal.returns-clause-next
returns-clause-next g c = next_law (g.C.Client.prog c.args.client.now) (g.C.Client.sound c.args.client.now)
    (g.met.C.Client.sound_step c.args.client.now) (g.met.C.Client.sound_safe c.args.client.now)
    (g.met.C.Client.waits_quietly c.args.client.now)

pub returns-clause-kept : goal.returns-clause-kept
returns-clause-kept g c = kept_law (g.C.Client.prog c.args.client.now) (g.C.Client.sound c.args.client.now)
    (g.met.C.Client.sound_step c.args.client.now) (g.met.C.Client.sound_safe c.args.client.now)
    (g.met.C.Client.waits_quietly c.args.client.now)

pub returns-clause-rise : goal.returns-clause-rise
returns-clause-rise g c = rise_law (g.C.Client.prog c.args.client.now) (g.C.Client.sound c.args.client.now)
    (g.met.C.Client.sound_step c.args.client.now) (g.met.C.Client.sound_safe c.args.client.now)
    (g.met.C.Client.waits_quietly c.args.client.now)
