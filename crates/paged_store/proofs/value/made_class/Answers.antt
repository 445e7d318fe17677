use Rattle.std.proofs.Common.{◌≡◌, ℕ, ◌+◌, ◌∙◌, sym, ap, max}
use Rattle.py_base.specs.declared.kind.Kind.{Kind}
use Rattle.paged_store.specs.inner.Written.{made_class}
use Rattle.paged_store.proofs.ClassLemmas.{list_class_none, list_class_some, dict_class_is}
use Rattle.paged_store.proofs.MakeWords.{list_made, dict_made_is, text_made, values_made}
use Rattle.paged_store.proofs.value.made_class.Goals as goal

-- the class for the kind that it is
of_kind : (j k : Kind) (n m : ℕ) → k ≡ j → m ≡ made_class j n → m ≡ made_class k n
of_kind j k n m e h = h ∙ ap (λ z. made_class z n) (sym e)

pub returns-then-n-eq0-clause-class : goal.returns-then-n-eq0-clause-class
returns-then-n-eq0-clause-class c = of_kind _ c.args.kind c.args.n 0 c.in-List.is
    (sym (list_made c.args.n ∙ list_class_none c.args.n c.if-n-eq0.true))

pub returns-else-n-eq0-clause-class : goal.returns-else-n-eq0-clause-class
returns-else-n-eq0-clause-class c = of_kind _ c.args.kind c.args.n (c.class_from.result + 1) c.in-List.is
    (ap (λ z. z + 1) c.class_from.ensures.class ∙ sym (list_made c.args.n ∙ list_class_some c.args.n c.if-n-eq0.false))

pub returns-in-Dict-clause-class : goal.returns-in-Dict-clause-class
returns-in-Dict-clause-class c = of_kind _ c.args.kind c.args.n (c.max.result + 1) c.in-Dict.is
    (ap (λ z. z + 1) (c.max.ensures ∙ ap (λ z. max z 1) c.class_from-in-Dict.ensures.class) ∙
    sym (dict_made_is c.args.n ∙ dict_class_is c.args.n))

pub returns-in-Str-clause-class : goal.returns-in-Str-clause-class
returns-in-Str-clause-class c = of_kind _ c.args.kind c.args.n c.class_holding.result c.in-Str.is
    (c.class_holding.ensures.class ∙ sym (text_made c.args.n))

pub returns-in_default : goal.returns-in_default
returns-in_default c = record {
  class = c.class_holding-in_default.ensures.class ∙
      sym (values_made c.args.kind c.args.n c.in_default.not-Str c.in_default.not-List c.in_default.not-Dict);
  most = c.class_holding-in_default.ensures.most;
  pairs = λ e. absurd (c.in_default.not-Dict e);
}
