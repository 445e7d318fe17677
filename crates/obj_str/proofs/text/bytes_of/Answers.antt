use Rattle.std.proofs.Common.{arith, ◌≡◌, ap, ◌∙◌, length, take, drop}
use Rattle.std.proofs.lemmas.Grind.{common_steps}
use Rattle.py_data.specs.Heap.{at}
use Rattle.obj_str.proofs.Copied.{bytes_met}
use Rattle.obj_str.proofs.text.bytes_of.Goals as goal

pub returns : goal.returns
returns g c =
    let n : length c.as_mut_slice.result.now ≡ c.in_ok-n.n = grind (arith, common_steps) in
    let bs = (at (g.V.View.sense.heap c.byte_len.new.self) c.args.a.0).bytes in
    let out : c.copy_bytes-2.new.out ≡ take c.in_ok-n.n (drop 0 bs) = c.in_ok-copy_bytes-2.ensures.bytes ∙
    ap (λ k. take k (drop 0 bs)) n in
    bytes_met g.met.V.View.lawful c.args.a.0 c.in_ok-n.n _ _ _ _ c.copy_bytes-2.new.out c.in_ok-n.ensures.shows.0
    c.in_ok-n.ensures.shows.1 c.in_ok-copy_bytes-2.ensures.look.0 out (grind (arith, common_steps))

pub returns-then-n-le-SHORT : goal.returns-then-n-le-SHORT
returns-then-n-le-SHORT g c =
    let bs = (at (g.V.View.sense.heap c.byte_len.new.self) c.args.a.0).bytes in
    let out : c.copy_bytes.new.out ≡ take c.in_ok-n.n (drop 0 bs) = c.in_ok-copy_bytes.ensures.bytes ∙
    ap (λ k. take k (drop 0 bs)) (grind (arith, common_steps)) in
    bytes_met g.met.V.View.lawful c.args.a.0 c.in_ok-n.n _ _ _ _ c.copy_bytes.new.out c.in_ok-n.ensures.shows.0
    c.in_ok-n.ensures.shows.1 c.in_ok-copy_bytes.ensures.look.0 out (grind (arith, common_steps))
