-- Looks at the kinds of two records.
use Rattle.std.proofs.Common.{◌≡◌, ℕ, Some, ap, ◌∙◌}
use Rattle.py_data.specs.Heap.{Rec, Heap}
use Rattle.py_data.specs.Row.{Ret}
use Rattle.py_data.specs.Looking.{Looks, kind_row}
use Rattle.py_data.proofs.Looking.{looks_ret, looks_then, kind_looks}
use Rattle.obj_nest.specs.declared.pairing.Pairing.{Pairing}
use Rattle.obj_nest.specs.Levels.{pairing_of, kinds_with, kinds_row}

pub kinds_looks : (S : Type 0) (h : Heap) (a b : ℕ) (r s : Rec) → h a ≡ Some r → h b ≡ Some s →
    Looks {S = S} (λ k. k ≡ pairing_of r.kind s.kind) (kinds_row a b) h
unfolding kinds_row kinds_with
kinds_looks S h a b r s ea eb =
    let p = λ (k : Pairing). k ≡ pairing_of r.kind s.kind in
    looks_then (λ k. k ≡ r.kind) p (kind_row a) (λ k. kinds_with b k) h (kind_looks S h a r ea)
    (λ k ek. looks_then (λ l. l ≡ s.kind) p (kind_row b) (λ l. Ret (pairing_of k l)) h (kind_looks S h b s eb)
    (λ l el. looks_ret S p (pairing_of k l) h (ap (λ k. pairing_of k l) ek ∙ ap (pairing_of r.kind) el)))
