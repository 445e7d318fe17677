-- Rows of the definition of a right program, by hand, and that a list of roots tells its strings and names.
use Rattle.std.proofs.Common.{◌≡◌, ℕ, zero, suc, ◌+◌, List, [], ◌∷◌, ◌++◌, true, refl, ap, ◌∙◌, map}
use Rattle.std.specs.Prelude.{codes}
use Rattle.py_code.specs.declared.instr.Instr.TheVariants.{ClassBody}
use Rattle.py_code.specs.declared.program.Root.{Root}
use Rattle.py_code.specs.Right.{text_root, cell_root, class_roots, roots_of, texts_of, cells_of, names_of, opens_body}

abbrev few_roots : List Root
few_roots = roots_of (codes "a" ∷ codes "b" ∷ []) (codes "c" ∷ [])

few_texts : texts_of few_roots ≡ codes "a" ∷ codes "b" ∷ []
unfolding texts_of
few_texts = refl

few_names : names_of few_roots ≡ codes "c" ∷ []
unfolding cells_of
few_names = refl

no_names : names_of [] ≡ []
unfolding cells_of
no_names = refl

named_twice : opens_body 1 (ClassBody 1) ≡ true
named_twice = refl

texts_front : (ts ns : List (List ℕ)) → texts_of (map text_root ts ++ map cell_root ns) ≡ ts
unfolding texts_of
texts_front [] [] = refl
texts_front [] (x ∷ ns) = texts_front [] ns
texts_front (x ∷ ts) ns = ap (λ l. x ∷ l) (texts_front ts ns)

texts_classes : (c n : ℕ) (rs : List Root) → texts_of (class_roots c n ++ rs) ≡ texts_of rs
unfolding texts_of
texts_classes c zero rs = refl
texts_classes c (suc n) rs = texts_classes (c + 1) n rs

cells_front : (ts ns : List (List ℕ)) → cells_of (map text_root ts ++ map cell_root ns) ≡ ns
unfolding cells_of
cells_front [] [] = refl
cells_front [] (x ∷ ns) = ap (λ l. x ∷ l) (cells_front [] ns)
cells_front (x ∷ ts) ns = cells_front ts ns

cells_classes : (c n : ℕ) (rs : List Root) → cells_of (class_roots c n ++ rs) ≡ cells_of rs
unfolding cells_of
cells_classes c zero rs = refl
cells_classes c (suc n) rs = cells_classes (c + 1) n rs

-- the strings and the names of a list of roots that is made of them
pub texts_told : (ts ns : List (List ℕ)) → texts_of (roots_of ts ns) ≡ ts
unfolding texts_of
texts_told ts ns = texts_classes 0 20 (map text_root ts ++ map cell_root ns) ∙ texts_front ts ns

pub names_told : (ts ns : List (List ℕ)) → names_of (roots_of ts ns) ≡ ns
unfolding cells_of
names_told ts ns = cells_classes 0 20 (map text_root ts ++ map cell_root ns) ∙ cells_front ts ns
