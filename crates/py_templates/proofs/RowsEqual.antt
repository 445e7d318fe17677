-- Rows of pieces that are equal: a row inside a row is as its pieces.
use Rattle.std.proofs.Common.{◌≡◌, ◌∙◌, ℕ, ◌+◌, List, [], ◌∷◌, ◌++◌, sym, ap, arith, append_assoc, map}
use Rattle.py_templates.specs.Template.{Frame, Piece, Sub, slots_of, lines_of, size_of, code_of, row}

-- one piece behind another
abbrev then : Piece → Piece → Piece
then a b = record {
  size = a.size + b.size;
  slots = a.slots + b.slots;
  lines = a.lines ++ b.lines;
  code = λ env p k. a.code env p k ++ b.code env (p + a.size) (k + a.slots);
}

row_cons_is : (a : Piece) (bs : List Piece) → row (a ∷ bs) ≡ then a (row bs)
row_cons_is a bs = λ i. record {
  size = a.size + size_of (map (Sub 1) bs);
  slots = slots i;
  lines = a.lines ++ lines_of 0 (map (Sub 1) bs);
  code = λ env p k. code env p k i;
}
  where
    slots : 0 + (a.slots + slots_of (map (Sub 1) bs)) ≡ a.slots + (0 + slots_of (map (Sub 1) bs))
    slots = omega arith

    own : Frame
    own = record { labels = []; slot = 0 }

    code : (env : List Frame) (p k : ℕ) → a.code env p (k + 0) ++ code_of (own ∷ env) (map (Sub 1) bs) (p + a.size)
        (k + 0 + a.slots) ≡ a.code env p k ++ code_of (own ∷ env) (map (Sub 1) bs) (p + a.size) (k + a.slots + 0)
    code env p k =
        let e : k + 0 ≡ k = omega arith in
        let f : k + 0 + a.slots ≡ k + a.slots + 0 = omega arith in
        ap (λ z. a.code env p z ++ code_of (own ∷ env) (map (Sub 1) bs) (p + a.size) (k + 0 + a.slots)) e
        ∙ ap (λ z. a.code env p k ++ code_of (own ∷ env) (map (Sub 1) bs) (p + a.size) z) f

none_then : (b : Piece) → then (row []) b ≡ b
none_then b = λ i. record { size = plus b.size i; slots = slots i; lines = b.lines; code = λ env p k. code env p k i }
  where
    plus : (m : ℕ) → 0 + m ≡ m
    plus m = omega arith

    slots : 0 + 0 + b.slots ≡ b.slots
    slots = omega arith

    code : (env : List Frame) (p k : ℕ) → b.code env (p + 0) (k + (0 + 0)) ≡ b.code env p k
    code env p k =
        let e : p + 0 ≡ p = omega arith in
        let f : k + (0 + 0) ≡ k = omega arith in
        ap (λ z. b.code env z (k + (0 + 0))) e ∙ ap (λ z. b.code env p z) f

then_then : (a b c : Piece) → then (then a b) c ≡ then a (then b c)
then_then a b c = λ i. record {
  size = sums a.size b.size c.size i;
  slots = sums a.slots b.slots c.slots i;
  lines =
      append_assoc a.lines b.lines c.lines i;
  code = λ env p k. code env p k i;
}
  where
    sums : (l m n : ℕ) → l + m + n ≡ l + (m + n)
    sums l m n = omega arith

    code : (env : List Frame) (p k : ℕ) → (then (then a b) c).code env p k ≡ (then a (then b c)).code env p k
    code env p k =
        append_assoc (a.code env p k) (b.code env (p + a.size) (k + a.slots))
        (c.code env (p + (a.size + b.size)) (k + (a.slots + b.slots)))
        ∙ ap (λ z. a.code env p k ++ (b.code env (p + a.size) (k + a.slots) ++ c.code env z (k + (a.slots + b.slots))))
        (sym (sums p a.size b.size))
        ∙ ap (λ z. a.code env p k ++ (b.code env (p + a.size) (k + a.slots) ++ c.code env (p + a.size + b.size) z))
        (sym (sums k a.slots b.slots))

row_both : (bs cs : List Piece) → row (bs ++ cs) ≡ then (row bs) (row cs)
row_both [] cs = sym (none_then (row cs))
row_both (b ∷ bs) cs = row_cons_is b (bs ++ cs) ∙ ap (then b) (row_both bs cs) ∙ sym (then_then b (row bs) (row cs)) ∙
    ap (λ z. then z (row cs)) (sym (row_cons_is b bs))

-- a row among pieces
pub row_flat : (as' bs cs : List Piece) → row (as' ++ row bs ∷ cs) ≡ row (as' ++ (bs ++ cs))
row_flat as' bs cs = row_both as' (row bs ∷ cs) ∙ ap (then (row as')) (row_cons_is (row bs) cs ∙ sym (row_both bs cs))
    ∙ sym (row_both as' (bs ++ cs))

-- rows with equal fronts, and rows with equal ends
pub row_front : (as' bs cs : List Piece) → row as' ≡ row bs → row (as' ++ cs) ≡ row (bs ++ cs)
row_front as' bs cs e = row_both as' cs ∙ ap (λ z. then z (row cs)) e ∙ sym (row_both bs cs)
