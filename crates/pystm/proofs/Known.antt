-- What reads and writes in a row do to known bytes.
use Rattle.std.proofs.Common.{◌≡◌, ℕ, ◌+◌, List, ◌++◌, Option, None, Some, sym, ap, ◌∙◌, append_assoc, take-append-drop, ◌-◌, length, take, drop}
use Rattle.std.proofs.lemmas.List.{take_rest}
use Rattle.std.proofs.Math.Seq.{take-add}
use Rattle.std.specs.Io.KnownBytes.{Appends, Consumes, Keeps, prepend_known}

pub Keeps_trans : (a b c : Option (List ℕ)) → Keeps a b → Keeps b c → Keeps a c
Keeps_trans None b c p q = tt
Keeps_trans (Some x) None c p q = absurd p
Keeps_trans (Some x) (Some y) None p q = absurd q
Keeps_trans (Some x) (Some y) (Some z) p q = q ∙ p

-- a front of the bytes was written, and then a front of what was left
pub Appends_front : (a b c : Option (List ℕ)) (bs : List ℕ) (n m : ℕ) → Appends a b (take n bs) →
    Appends b c (take m (take (length bs - n) (drop n bs))) → Appends a c (take (n + m) bs)
Appends_front None b c bs n m p q = tt
Appends_front (Some x) None c bs n m p q = absurd p
Appends_front (Some x) (Some y) None bs n m p q = absurd q
Appends_front (Some x) (Some y) (Some z) bs n m p q =
    let joined : take n bs ++ take m (take (length bs - n) (drop n bs)) ≡ take (n + m) bs =
    ap (λ l. take n bs ++ take m l) (take_rest bs n) ∙ sym (take-add n m bs) in
    q ∙ ap (λ l. l ++ take m (take (length bs - n) (drop n bs))) p ∙
    append_assoc x (take n bs) (take m (take (length bs - n) (drop n bs))) ∙ ap (λ l. x ++ l) joined

-- a front of what is held is taken
pub Keeps_taken : (a r : Option (List ℕ)) (held rest line : List ℕ) (n : ℕ) → Keeps a (prepend_known held r) →
    line ≡ take n held → rest ≡ drop n held
    → Consumes a (prepend_known rest r) line
Keeps_taken None r held rest line n k e f = tt
Keeps_taken (Some x) None held rest line n k e f = absurd k
Keeps_taken (Some x) (Some y) held rest line n k e f =
    let parts : held ≡ line ++ rest = sym (take-append-drop n held) ∙ ap (λ l. l ++ drop n held) (sym e) ∙
    ap (λ l. line ++ l) (sym f) in
    sym k ∙ ap (λ l. l ++ y) parts ∙ append_assoc line rest y
