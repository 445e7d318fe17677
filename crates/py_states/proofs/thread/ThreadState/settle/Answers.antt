use Rattle.std.proofs.Common.{arith, ◌≡◌, ◌<◌, length, refl, ap}
use Rattle.py_frames.specs.State.{State}
use Rattle.py_states.proofs.SettleLemmas.{ended, goes_is, jumps_is, stores_is, opens_is, closes_is, enters_is, leaves_is, begins_is, fails_is, throws_is, waits_is}
use Rattle.py_states.proofs.thread.ThreadState.settle.Goals as goal

frames_same : {s t : State} → s ≡ t → s.frames ≡ t.frames
frames_same e = ap (λ (z : State). z.frames) e

pub returns-in-Goes-clause-ok : goal.returns-in-Goes-clause-ok
returns-in-Goes-clause-ok c =
    let same = frames_same c.self.view_is in
    let some : 0 < length c.args.self.now.frames = omega (arith, c.len.ensures, ap length same, c.if-len-eq0.false) in
    ended _ _ _ _ c.goes.ensures.ok (goes_is _ _ _ _ _ _ _ c.in-Goes.is c.as_slice.ensures some)

pub returns-in-Jumps-clause-ok : goal.returns-in-Jumps-clause-ok
returns-in-Jumps-clause-ok c =
    let same = frames_same c.self.view_is in
    let some : 0 < length c.args.self.now.frames = omega (arith, c.len.ensures, ap length same, c.if-len-eq0.false) in
    ended _ _ _ _ c.jumps.ensures.ok (jumps_is _ _ _ _ _ _ _ _ c.in-Jumps.is c.as_slice-in-Jumps.ensures some)

pub returns-in-Stores-clause-ok : goal.returns-in-Stores-clause-ok
returns-in-Stores-clause-ok c =
    let same = frames_same c.self.view_is in
    let some : 0 < length c.args.self.now.frames = omega (arith, c.len.ensures, ap length same, c.if-len-eq0.false) in
    ended _ _ _ _ c.stores.ensures.ok (stores_is _ _ _ _ _ _ _ c.in-Stores.is some)

pub returns-in-Opens-clause-ok : goal.returns-in-Opens-clause-ok
returns-in-Opens-clause-ok c =
    let same = frames_same c.self.view_is in
    let some : 0 < length c.args.self.now.frames = omega (arith, c.len.ensures, ap length same, c.if-len-eq0.false) in
    ended _ _ _ _ c.opens.ensures.ok (opens_is _ _ _ _ _ _ c.in-Opens.is some)

pub returns-in-Closes-clause-ok : goal.returns-in-Closes-clause-ok
returns-in-Closes-clause-ok c =
    let same = frames_same c.self.view_is in
    let some : 0 < length c.args.self.now.frames = omega (arith, c.len.ensures, ap length same, c.if-len-eq0.false) in
    ended _ _ _ _ c.closes.ensures.ok (closes_is _ _ _ _ _ c.in-Closes.is some)

pub returns-in-Enters-clause-ok : goal.returns-in-Enters-clause-ok
returns-in-Enters-clause-ok c =
    let same = frames_same c.self.view_is in
    let some : 0 < length c.args.self.now.frames = omega (arith, c.len.ensures, ap length same, c.if-len-eq0.false) in
    ended _ _ _ _ c.enters.ensures.ok (enters_is _ _ _ _ _ _ _ c.in-Enters.is c.frame.ensures some)

pub returns-in-Leaves-clause-ok : goal.returns-in-Leaves-clause-ok
returns-in-Leaves-clause-ok c =
    let same = frames_same c.self.view_is in
    let some : 0 < length c.args.self.now.frames = omega (arith, c.len.ensures, ap length same, c.if-len-eq0.false) in
    ended _ _ _ _ c.leaves.ensures.ok (leaves_is _ _ _ _ _ _ c.in-Leaves.is some)

pub returns-in-Fails-clause-ok : goal.returns-in-Fails-clause-ok
returns-in-Fails-clause-ok c =
    let same = frames_same c.self.view_is in
    let some : 0 < length c.args.self.now.frames = omega (arith, c.len.ensures, ap length same, c.if-len-eq0.false) in
    ended _ _ _ _ c.raises.ensures.ok (fails_is _ _ _ _ _ _ c.in-Fails.is some)

pub returns-in-Begins-clause-ok : goal.returns-in-Begins-clause-ok
returns-in-Begins-clause-ok c =
    let same = frames_same c.self.view_is in
    let some : 0 < length c.args.self.now.frames = omega (arith, c.len.ensures, ap length same, c.if-len-eq0.false) in
    ended _ _ _ _ c.begins.ensures.ok (begins_is _ _ _ _ _ _ c.in-Begins.is some)

pub returns-in-Throws-clause-ok : goal.returns-in-Throws-clause-ok
returns-in-Throws-clause-ok c =
    let same = frames_same c.self.view_is in
    let some : 0 < length c.args.self.now.frames = omega (arith, c.len.ensures, ap length same, c.if-len-eq0.false) in
    ended _ _ _ _ c.raises-in-Throws.ensures.ok (throws_is _ _ _ _ _ _ c.in-Throws.is some)

pub returns-in-Waits-clause-ok : goal.returns-in-Waits-clause-ok
returns-in-Waits-clause-ok c =
    let same = frames_same c.self.view_is in
    let some : 0 < length c.args.self.now.frames = omega (arith, c.len.ensures, ap length same, c.if-len-eq0.false) in
    waits_is _ _ _ _ _ _ c.in-Waits.is refl some
