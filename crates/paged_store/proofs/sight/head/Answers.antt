use Rattle.paged_store.proofs.sight.head.Goals as goal

pub returns : goal.returns
returns c =
    let o = c.outline-kind.ensures in
    let v = c.three_values-first.ensures in
    λ z. record { kind = o.kind z; count = o.count z; first = v.first z; second = v.second z; third = v.third z }
