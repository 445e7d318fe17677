use Rattle.std.proofs.Common.{◌≡◌, ◌≢◌, All, length, take, ap, ◌∙◌, subst, arith}
use Rattle.std.proofs.lemmas.List.{take_min}
use Rattle.pystm.proofs.Known.{Keeps_trans}
use Rattle.pystm.proofs.Line.{found_known, full_known, end_known}
use Rattle.pystm.proofs.buffer.LineBuffer.hold_line.Goals as goal

pub returns-in-Some-clause-line : goal.returns-in-Some-clause-line
returns-in-Some-clause-line g c =
    let (seen, held, none, keeps) = c.loop-seen.invariant in
    let h = c.held-held.ensures in
    let m = c.min-end.ensures in
    let w : take c.min-end.result c.held-held.result.now ≡ take c.args.most c.loop-seen.self =
    ap (λ n. take n c.held-held.result.now) m ∙ take_min c.args.most c.held-held.result.now ∙ ap (take c.args.most) h in
    found_known _ _ _ _ _ _ keeps w c.in-Some.ensures.first c.in-Some.ensures.newline

pub returns-after-loop-seen-clause-line : goal.returns-after-loop-seen-clause-line
returns-after-loop-seen-clause-line g c =
    let (seen, held, none, keeps) = c.loop-seen.invariant in
    let past = c.loop-seen-test.false in
    full_known _ _ _ _ _ keeps held (omega arith) none

pub returns-then-branch-eq0-clause-line : goal.returns-then-branch-eq0-clause-line
returns-then-branch-eq0-clause-line g c =
    let (seen, held, none, keeps) = c.loop-seen.invariant in
    let read = c.in_ok-read_more.ensures in
    let h : length c.held-held.result.now ≡ length c.loop-seen.self = ap length c.held-held.ensures in
    let m = c.min-end.ensures in
    let fewer = c.if-seen-most.true in
    let nothing = c.if-branch-eq0.true in
    let more = read.more in
    let w : take c.min-end.result c.held-held.result.now ≡ take c.min-end.result c.loop-seen.self =
    ap (take c.min-end.result) c.held-held.ensures in
    end_known _ _ c.loop-seen.self c.read_more.new.self c.args.most c.min-end.result
    (Keeps_trans _ _ _ keeps read.bytes) (read.end nothing)
    (omega arith) read.front (omega arith) (omega arith) (subst (All (λ b. b ≢ 10)) w c.in_default.ensures.none)
