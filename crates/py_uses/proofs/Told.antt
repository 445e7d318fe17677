-- The equations of `told`: what an expression uses as it stands.
use Rattle.std.proofs.Common.{◌≡◌, ℕ, ℤ, List, [], ◌∷◌, ◌++◌, refl, ap}
use Rattle.py_tree.specs.declared.expr.Expr.{Expr}
use Rattle.py_tree.specs.declared.expr.Trailer.{Trailer}
use Rattle.py_tree.specs.declared.expr.Link.{Link}
use Rattle.py_tree.specs.declared.expr.Pair.{Pair}
use Rattle.py_tree.specs.declared.expr.Level.{Level}
use Rattle.py_tree.specs.declared.expr.Sign.{Sign}
use Rattle.py_tree.specs.declared.expr.Expr.TheVariants as e
use Rattle.py_templates.specs.Uses.{Text, Inside, read}
use Rattle.py_templates.specs.inner.Reads.{read_links, read_pairs, read_trailers}
use Rattle.py_templates.proofs.Used.{used_int, used_str, used_dict, used_trail, used_power, used_unary, used_chain, used_not, used_choice}
use Rattle.py_uses.specs.declared.uses.Role.{Role}
use Rattle.py_uses.specs.declared.uses.Role.TheVariants.{Read, Target}
use Rattle.py_uses.specs.inner.Tallies.{told, told_all}

pub told_int : (r : Role) (b : Inside) (n : ℤ) → told r b (e.Int n) ≡ []
told_int Read b n = ap (λ u. u.read) (used_int b n)
told_int Target b n = ap (λ u. u.target) (used_int b n)

pub told_str : (r : Role) (b : Inside) (n : List ℕ) → told r b (e.Str n) ≡ Text n ∷ []
told_str Read b n = ap (λ u. u.read) (used_str b n)
told_str Target b n = ap (λ u. u.target) (used_str b n)

pub told_dict : (r : Role) (b : Inside) (ps : List Pair) → told r b (e.Dict ps) ≡ read_pairs b ps
told_dict Read b ps = ap (λ u. u.read) (used_dict b ps)
told_dict Target b ps = ap (λ u. u.target) (used_dict b ps)

pub told_trail : (r : Role) (b : Inside) (a : Expr) (ts : List Trailer) →
    told r b (e.Trail a ts) ≡ read b a ++ read_trailers b ts
told_trail Read b a ts = ap (λ u. u.read) (used_trail b a ts)
told_trail Target b a ts = ap (λ u. u.target) (used_trail b a ts)

pub told_power : (r : Role) (b : Inside) (a : Expr) (d : Expr) → told r b (e.Power a d) ≡ read b a ++ read b d
told_power Read b a d = ap (λ u. u.read) (used_power b a d)
told_power Target b a d = ap (λ u. u.target) (used_power b a d)

pub told_unary : (r : Role) (b : Inside) (g : Sign) (a : Expr) → told r b (e.Unary g a) ≡ read b a
told_unary Read b g a = ap (λ u. u.read) (used_unary b g a)
told_unary Target b g a = ap (λ u. u.target) (used_unary b g a)

pub told_chain : (r : Role) (b : Inside) (l : Level) (a : Expr) (ls : List Link) →
    told r b (e.Chain l a ls) ≡ read b a ++ read_links b ls
told_chain Read b l a ls = ap (λ u. u.read) (used_chain b l a ls)
told_chain Target b l a ls = ap (λ u. u.target) (used_chain b l a ls)

pub told_not : (r : Role) (b : Inside) (a : Expr) → told r b (e.Not a) ≡ read b a
told_not Read b a = ap (λ u. u.read) (used_not b a)
told_not Target b a = ap (λ u. u.target) (used_not b a)

pub told_choice : (r : Role) (b : Inside) (a : Expr) (d : Expr) (f : Expr) →
    told r b (e.Choice a d f) ≡ read b a ++ read b d ++ read b f
told_choice Read b a d f = ap (λ u. u.read) (used_choice b a d f)
told_choice Target b a d f = ap (λ u. u.target) (used_choice b a d f)

pub told_all_cons : (r : Role) (b : Inside) (x : Expr) (xs : List Expr) →
    told_all r b (x ∷ xs) ≡ told r b x ++ told_all r b xs
told_all_cons Read b x xs = refl
told_all_cons Target b x xs = refl

pub ruleset told_rules = (
  told_int,
  told_str,
  told_dict,
  told_trail,
  told_power,
  told_unary,
  told_chain,
  told_not,
  told_choice,
)
