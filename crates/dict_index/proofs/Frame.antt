-- Words that agree on the slots, and homes that agree on the pairs, are the same index.
use Rattle.std.proofs.Common.{ℕ, ◌<◌, ◌≤◌, sym, ap, ◌∙◌, subst, arith}
use Rattle.dict_index.specs.Slots.{slot, filled}
use Rattle.dict_index.specs.Index.{Stands}
use Rattle.dict_index.specs.Laws.{FrameLaw}
use Rattle.dict_index.proofs.Circle.{slot_within}
use Rattle.dict_index.proofs.Count.{used_same}

pub frame_law : FrameLaw
frame_law home other n m w v some lh x same homes = record {
  each = λ j jl.
      let q = x.each j jl in
      let inside : (e : ℕ) → e < n → slot n (home j) e < n = λ e el. slot_within n (home j) e (lh j jl) (omega arith) in
      let s : Stands n v (home j) j q.0 = record {
        near = q.1.near;
        here = same _ (inside q.0 q.1.near) ∙ q.1.here;
        behind = λ e el z. q.1.behind e el (sym (same _ (inside e (let a = q.1.near in omega arith))) ∙ z);
      } in
      (q.0, subst (λ a. Stands n v a j q.0) (sym (homes j jl)) s);
  only = λ s l. let e = same s l in let o : w s ≤ m = x.only s l in omega arith;
  once = λ s t sl tl e z. x.once s t sl tl (sym (same s sl) ∙ e ∙ same t tl) (λ y. z (same s sl ∙ y));
  used = used_same n w v (λ s l. ap filled (same s l)) ∙ x.used;
}
