-- One word more in the walk of `clap`, by the form of the word.
use Rattle.std.proofs.Common.{◌≡◌, ◌∙◌, ℕ, Bool, cond, true, false, refl, sym, ap, ap₂, subst, List, [], ◌∷◌, ◌++◌, Option, Some, None, codes, append-nil, inl, inr}
use Rattle.std.specs.Prelude.{if◌then◌else◌, ◌⊎◌, ◌||◌, ◌&&◌, length, option_map, slice_get}
use Rattle.std.specs.List.{after_first, before_first, list_any}
use Rattle.std.specs.Option.{option_map_or}
use Rattle.std.specs.Str.{IsUtf8, bytes_eq, chars}
use Rattle.clap.specs.Kinds.{Kinds, or_else}
use Rattle.clap.specs.Faults.{bundle_step_fault, flags_fault, long_fault, settle_fault, step_fault, turn_fault, use_fault, word_fault}
use Rattle.clap.specs.Lexer.{long_of, short_of}
use Rattle.clap.specs.Walk.{Held, Row, Rule, Step, Text, Waiting, Walk, idle, option, positional, next, value, after_flag, after_step, arg_by_long, is_pending, long_met, pushed, settled, settled_rows, subcommand_met, used, walked, word_met}
use Rattle.clap.specs.declared.error.kind.ErrorKind.{ErrorKind}
use Rattle.clap.specs.declared.error.kind.ErrorKind.TheVariants as kind
use Rattle.stm_words.specs.declared.call.Options.{Options}
use Rattle.stm_words.specs.Options.{Setting, Segments, Length, Pages, Budget, Workload, Use, Place, Value, Word, Alone, Valued, NoWord, after_word, is_dash, is_equals, name_of, of_setting, setting_named, with_use, word_of}
use Rattle.stm_words.proofs.Meaning.{Doomed, answer, doomed_ends, ends, ends_with, same_name}
use Rattle.stm_words.proofs.Rows.{Adds, Repeats, Single, adds, file_rule, finish, rows, rule_by_id, rule_of_setting, rules, shape}
use Rattle.stm_words.proofs.Walking.{Faulty, Placed, Settled, at, behind, ended, held, if_none, last, outcome, placed_more, placed_now, placed_twice, position_after, settles, trailing_turn, with_last, with_place}
use Rattle.stm_words.proofs.Forms.{Form, IsPlain, dashes, form, first_of_flags, long, loose, plain, short}

-- ---- what is to be shown of the words that are left

-- the walk stands between two words
abbrev pub resting : Bool → List Use → Option Use → Walk
resting b us p = at b false idle (held us (last p))

-- an option waits for its value
abbrev pub wanting : Bool → List Use → Setting → Walk
wanting b us s = at b false (option (name_of s)) (held us (Some (name_of s, [])))

pub record Walks (ws : List Text) : Type 0 where
  pub rest : (us : List Use) (p : Option Use) (b : Bool) → Single us → Placed b (with_last us p)
      → outcome (resting b us p) ws ≡ ends (with_last us p) (loose ws None)
  pub want : (us : List Use) (s : Setting) (b : Bool) → Single us → Placed b us
      → outcome (wanting b us s) ws ≡ ends us (loose ws (Some s))

-- an option without its value
unvalued : (us : List Use) (s : Setting)
    → settle_fault rules false (held us (Some (name_of s, []))) ≡ kind.InvalidValue ∷ []
unvalued us s = ap (λ o. option_map_or (λ a. use_fault false a [] (rows us)) o []) (rule_by_id (Value s []))

-- a refused word
refused : {ks : Kinds} (k : ErrorKind) (rest : Kinds) (o : Option Options) → ks ≡ k ∷ rest → if_none ks o ≡ None
refused k rest o e = ap (λ ks. if_none ks o) e

pub walks_none : Walks []
walks_none = record {
  rest = λ us p b single placed. ended b false idle us p single ∙ ap answer (sym (append-nil (with_last us p)));
  want = λ us s b single placed. ap (λ ks. if_none ks (finish (settled rules (held us (Some (name_of s, [])))).rows))
      (unvalued us s);
}

-- ---- a word for the positional

no_subcommand : (waiting : Waiting) (w : Text) → subcommand_met [] waiting w ≡ None
no_subcommand idle w = refl
no_subcommand (option id) w = refl
no_subcommand positional w = refl

-- nothing is wrong with such a word by itself
plain_quiet : (waiting : Waiting) (w : Text) (h : Held) → IsPlain w → word_fault shape [] false waiting w h ≡ []
plain_quiet waiting w h p = rw (no_subcommand waiting w, p.not_dashes, p.no_long, p.no_short) refl

plain_met : (n : ℕ) (w : Text) (h : Held) → IsPlain w → word_met rules [] false idle n w h ≡ (h, value)
plain_met n w h p = rw (p.not_dashes, p.no_long, p.no_short) refl

plain_turn : (w : Text) (h : Held) → IsPlain w
    → turn_fault shape [] (at false false idle h) w ≡ settle_fault rules false h
plain_turn w h p = ap₂ (λ ks (met : Held × Step). or_else ks (step_fault shape 1 met.0 met.1))
    (plain_quiet idle w h p) (plain_met 1 w h p)
    ∙ elim (is_pending file_rule h.pending) as (λ b. cond (b && false) [] (settle_fault rules false h)
    ≡ settle_fault rules false h) [ true ↦ refl | false ↦ refl ]

stray_turn : (w : Text) (h : Held) → IsPlain w
    → turn_fault shape [] (at true false idle h) w ≡ kind.UnknownArgument ∷ []
stray_turn w h p = ap₂ (λ ks (met : Held × Step). or_else ks (step_fault shape 2 met.0 met.1))
    (plain_quiet idle w h p) (plain_met 2 w h p)

plain_walk : (w : Text) (h : Held) → IsPlain w
    → walked rules [] (at false false idle h) w ≡ at true false idle (with_place h w)
unfolding walked
plain_walk w h p = ap (λ (met : Held × Step). after_step rules w (at false false idle h) met.0 met.1)
    (plain_met 1 w h p)
    ∙ elim (is_pending file_rule h.pending) as
    (λ b. at true false idle (pushed (codes "file") w (cond (b && false) h (settled rules h))) ≡ at true false idle
    (with_place h w)) [ true ↦ refl | false ↦ refl ]

-- the word of a value that an option waits for
value_met : (us : List Use) (s : Setting) (n : ℕ) (w : Text) → IsPlain w
    → word_met rules [] false (option (name_of s)) n w (held us (Some (name_of s, [])))
    ≡ (held us (last (Some (Value s w))), next idle)
value_met us s n w p = rw (p.not_dashes, p.no_long, p.no_short, rule_by_id (Value s w), same_name s) refl

value_turn : (us : List Use) (s : Setting) (b : Bool) (w : Text) → IsPlain w
    → turn_fault shape [] (wanting b us s) w ≡ []
value_turn us s b w p = ap₂ (λ ks (met : Held × Step). or_else ks (step_fault shape (position_after b) met.0 met.1))
    (plain_quiet (option (name_of s)) w (held us (Some (name_of s, []))) p)
    (value_met us s (position_after b) w p)

value_walk : (us : List Use) (s : Setting) (b : Bool) (w : Text) → IsPlain w
    → walked rules [] (wanting b us s) w ≡ resting b us (Some (Value s w))
unfolding walked
value_walk us s b w p = ap (λ (met : Held × Step). after_step rules w (wanting b us s) met.0 met.1)
    (value_met us s (position_after b) w p)

-- what is shown of the next word, and of a form of it
abbrev Rests : Text → List Text → Type 0
Rests w ws = (us : List Use) (p : Option Use) (b : Bool) → Single us → Placed b (with_last us p)
    → outcome (resting b us p) (w ∷ ws) ≡ ends (with_last us p) (loose (w ∷ ws) None)

abbrev Wants : Text → List Text → Type 0
Wants w ws = (us : List Use) (s : Setting) (b : Bool) → Single us → Placed b us
    → outcome (wanting b us s) (w ∷ ws) ≡ ends us (loose (w ∷ ws) (Some s))

-- nothing comes of uses that are doomed with one use more
doomed_with : (us : List Use) (u : Use) (more : Option (List Use)) → Doomed (us ++ u ∷ [])
    → None ≡ ends us (with_use u more)
doomed_with us u more h = sym (ends_with us u more ∙ doomed_ends (us ++ u ∷ []) more h)

plain_word_is : (w : Text) (ws : List Text) → IsPlain w → loose (w ∷ ws) None ≡ with_use (Place w) (loose ws None)
plain_word_is w ws p = ap (λ word. after_word word (loose ws) ws) p.word

plain_rests : (w : Text) (ws : List Text) → Walks ws → IsPlain w → Rests w ws
plain_rests w ws more p us l true single placed =
    ap (λ ks. if_none ks (outcome (walked rules [] (resting true us l) w) ws)) (stray_turn w (held us (last l)) p)
    ∙ doomed_with (with_last us l) (Place w) (loose ws None) (placed_twice (with_last us l) w placed)
    ∙ ap (ends (with_last us l)) (sym (plain_word_is w ws p))
plain_rests w ws more p us l false single placed = go (settles us l single)
  where
    turn : (ks : Kinds) → settle_fault rules false (held us (last l)) ≡ ks
        → outcome (resting false us l) (w ∷ ws) ≡ if_none ks (outcome (walked rules [] (resting false us l) w) ws)
    turn ks e = ap (λ k. if_none k (outcome (walked rules [] (resting false us l) w) ws))
        (plain_turn w (held us (last l)) p ∙ e)

    go : Settled us l ⊎ Faulty us l
        → outcome (resting false us l) (w ∷ ws) ≡ ends (with_last us l) (loose (w ∷ ws) None)
    go (inr f) = turn _ f.fault ∙ sym (doomed_ends (with_last us l) (loose (w ∷ ws) None) f.doomed)
    go (inl s) = turn _ s.quiet ∙ ap (λ walk. outcome walk ws) (plain_walk w (held us (last l)) p)
        ∙ ap (λ rs. outcome (at true false idle
        (record { rows = rs; pending = Some (codes "file", w ∷ []); skip = 0 })) ws) s.rows
        ∙ more.rest (with_last us l) (Some (Place w)) true s.single (placed_now (with_last us l) w)
        ∙ sym (ends_with (with_last us l) (Place w) (loose ws None))
        ∙ ap (ends (with_last us l)) (sym (plain_word_is w ws p))

plain_wants : (w : Text) (ws : List Text) → Walks ws → IsPlain w → Wants w ws
plain_wants w ws more p us s b single placed =
    ap (λ ks. if_none ks (outcome (walked rules [] (wanting b us s) w) ws)) (value_turn us s b w p)
    ∙ ap (λ walk. outcome walk ws) (value_walk us s b w p)
    ∙ more.rest us (Some (Value s w)) b single (placed_more b us (Value s w ∷ []) placed)
    ∙ sym (ends_with us (Value s w) (loose ws None))
    ∙ ap (λ flag. ends us (if flag then None else with_use (Value s w) (loose ws None))) (sym p.no_flag)

-- ---- a word of one dash

-- what may be wrong behind the word itself
abbrev later_fault : Waiting → Bool → Held → Text → Kinds
later_fault waiting b h w = step_fault shape (position_after b)
    (word_met rules [] false waiting (position_after b) w h).0
    (word_met rules [] false waiting (position_after b) w h).1

short_fault_is : (x : ℕ) (xs : Text) (h : Held) → h.skip ≡ 0 → (c : ℕ) → slice_get (chars (x ∷ xs)) 0 ≡ Some c
    → flags_fault rules false (length (x ∷ xs)) (x ∷ xs) h.skip (record h { skip = 0 }) ≡ kind.UnknownArgument ∷ []
unfolding flags_fault
short_fault_is x xs h none c first =
    ap (λ n. flags_fault rules false (length (x ∷ xs)) (x ∷ xs) n (record h { skip = 0 })) none
    ∙ ap (λ o. bundle_step_fault rules false o (x ∷ xs) 0 (record h { skip = 0 })
    (flags_fault rules false (length xs))) first

short_word_fault : (waiting : Waiting) (x : ℕ) (xs : Text) (h : Held) → h.skip ≡ 0 → is_dash x ≡ false
    → IsUtf8 (45 ∷ x ∷ xs)
    → word_fault shape [] false waiting (45 ∷ x ∷ xs) h ≡ kind.UnknownArgument ∷ []
short_word_fault waiting x xs h none other utf8 =
    let first = first_of_flags x xs utf8 in
    let not_dashes : bytes_eq (45 ∷ x ∷ xs) (45 ∷ 45 ∷ []) ≡ false = rw other refl in
    let no_long : long_of (45 ∷ x ∷ xs) ≡ None = rw other refl in
    let flags : short_of (45 ∷ x ∷ xs) ≡ Some (x ∷ xs) = rw other refl in
    rw (no_subcommand waiting (45 ∷ x ∷ xs), not_dashes, no_long, flags) (short_fault_is x xs h none first.0 first.1)

short_rests : (x : ℕ) (xs : Text) (ws : List Text) → is_dash x ≡ false → IsUtf8 (45 ∷ x ∷ xs) → Rests (45 ∷ x ∷ xs) ws
short_rests x xs ws other utf8 us p b single placed =
    let fault = short_word_fault idle x xs (held us (last p)) refl other utf8 in
    let word : word_of (45 ∷ x ∷ xs) ≡ NoWord = rw other refl in
    ap (λ ks. if_none (or_else ks (later_fault idle b (held us (last p)) (45 ∷ x ∷ xs)))
    (outcome (walked rules [] (resting b us p) (45 ∷ x ∷ xs)) ws)) fault
    ∙ sym (ap (λ v. ends (with_last us p) (after_word v (loose ws) ws)) word)

short_wants : (x : ℕ) (xs : Text) (ws : List Text) → is_dash x ≡ false → IsUtf8 (45 ∷ x ∷ xs) → Wants (45 ∷ x ∷ xs) ws
short_wants x xs ws other utf8 us s b single placed =
    let fault = short_word_fault (option (name_of s)) x xs (held us (Some (name_of s, []))) refl other utf8 in
    ap (λ ks. if_none (or_else ks (later_fault (option (name_of s)) b (held us (Some (name_of s, []))) (45 ∷ x ∷ xs)))
    (outcome (walked rules [] (wanting b us s) (45 ∷ x ∷ xs)) ws)) fault

-- ---- the word `--`

lost : (ws : List Text) (us : List Use) (s : Setting) (b : Bool)
    → outcome (at b true (option (name_of s)) (held us (Some (name_of s, [])))) ws ≡ None
lost [] us s b = ap (λ ks. if_none ks (finish (settled rules (held us (Some (name_of s, [])))).rows)) (unvalued us s)
lost (w ∷ ws) us s true = refl
lost (w ∷ ws) us s false =
    ap (λ ks. if_none ks (outcome (walked rules [] (at false true (option (name_of s))
    (held us (Some (name_of s, [])))) w) ws))
    (trailing_turn (option (name_of s)) (held us (Some (name_of s, []))) w ∙ unvalued us s)

dashes_rests : (ws : List Text) → Rests (45 ∷ 45 ∷ []) ws
unfolding walked
dashes_rests ws us p b single placed = behind ws us p b idle single placed

dashes_wants : (ws : List Text) → Wants (45 ∷ 45 ∷ []) ws
unfolding walked
dashes_wants ws us s b single placed = lost ws us s b

-- ---- a word of two dashes and more

abbrev chosen : {X : Type 0} → (a b c d e : Bool) → (Setting → X) → Option X
chosen a b c d e f = cond a (Some (f Segments))
    (cond b (Some (f Length)) (cond c (Some (f Pages)) (cond d (Some (f Budget)) (cond e (Some (f Workload)) None))))

-- an option is found by the name of its setting
long_is : (name : Text) → arg_by_long rules name ≡ option_map rule_of_setting (setting_named name)
long_is name = go (bytes_eq (codes "segments") name) (bytes_eq (codes "length") name) (bytes_eq (codes "pages") name)
    (bytes_eq (codes "budget") name) (bytes_eq (codes "demo") name)
  where
    go : (a b c d e : Bool)
        → chosen (a || false) (b || false) (c || false) (d || false)
        (e || false) rule_of_setting ≡ option_map rule_of_setting (chosen a b c d e (λ s. s))
    go true b c d e = refl
    go false true c d e = refl
    go false false true d e = refl
    go false false false true e = refl
    go false false false false true = refl
    go false false false false false = refl

-- the value behind `=`, if there is one
abbrev attached : Bool → Text → Option Text
attached b rest = if b then Some rest else None

-- what is wrong with the option that was found, and where the walk stands behind it
abbrev option_step : Waiting → Option Rule → Option Text → Text → Held → Held × Step
option_step waiting found v w h = after_flag rules waiting w (long_met rules found v h).0 (long_met rules found v h).1

abbrev option_turn : Waiting → Bool → Option Rule → Option Text → Text → Held → Kinds
option_turn waiting b found v w h =
    or_else (long_fault rules false found v h)
    (step_fault shape (position_after b) (option_step waiting found v w h).0 (option_step waiting found v w h).1)

abbrev option_walk : Waiting → Bool → Option Rule → Option Text → Text → Held → Walk
option_walk waiting b found v w h = after_step rules w (at b false waiting h)
    (option_step waiting found v w h).0 (option_step waiting found v w h).1

abbrev option_outcome : Waiting → Bool → Option Rule → Option Text → Text → Held → List Text → Option Options
option_outcome waiting b found v w h ws = if_none (option_turn waiting b found v w h)
    (outcome (option_walk waiting b found v w h) ws)

-- what stands before the `=`, whether there is one, and what stands behind it
abbrev name_in : ℕ → Text → Text
name_in x xs = before_first is_equals (x ∷ xs)

abbrev has_value : ℕ → Text → Bool
has_value x xs = list_any is_equals (x ∷ xs)

abbrev value_in : ℕ → Text → Text
value_in x xs = after_first is_equals (x ∷ xs)

abbrev word_for : Bool → Text → Option Setting → Word
word_for b rest found = of_setting (λ s. if b then Valued s rest else Alone s) found

-- one value more, given with its option
valued_rests : (s : Setting) (v w : Text) (ws : List Text) → Walks ws → (us : List Use) (p : Option Use) (b : Bool)
    → Single us → Placed b (with_last us p)
    → option_outcome idle b (Some (rule_of_setting s)) (Some v) w (held us (last p)) ws ≡ ends (with_last us p)
    (with_use (Value s v) (loose ws None))
valued_rests s v w ws more us p b single placed = go (settles us p single)
  where
    turn : List Row → Kinds → Kinds
    turn rs ks = or_else (or_else ks (use_fault false (rule_of_setting s) (v ∷ []) rs)) []

    stands : List Row → Walk
    stands rs = at b false idle (record { rows = used (rule_of_setting s) (v ∷ []) rs; pending = None; skip = 0 })

    added : Settled us p → Adds (with_last us p) (Value s v) ⊎ Repeats (with_last us p) (Value s v)
        → if_none (or_else (use_fault false (rule_of_setting s) (v ∷ []) (rows (with_last us p))) [])
        (outcome (at b false idle (record {
          rows = used (rule_of_setting s) (v ∷ [])
              (rows (with_last us p));
          pending = None;
          skip = 0;
        })) ws)
        ≡ ends (with_last us p) (with_use (Value s v) (loose ws None))
    added k (inr r) = ap (λ ks. if_none (or_else ks [])
        (outcome (at b false idle (record {
          rows = used (rule_of_setting s) (v ∷ [])
              (rows (with_last us p));
          pending = None;
          skip = 0;
        })) ws)) r.fault
        ∙ doomed_with (with_last us p) (Value s v) (loose ws None) r.doomed
    added k (inl a) = ap (λ ks. if_none (or_else ks [])
        (outcome (at b false idle (record {
          rows = used (rule_of_setting s) (v ∷ [])
              (rows (with_last us p));
          pending = None;
          skip = 0;
        })) ws)) a.quiet
        ∙ ap (λ rs. outcome (at b false idle (record { rows = rs; pending = None; skip = 0 })) ws) a.rows
        ∙ more.rest (with_last us p ++ Value s v ∷ []) None b a.single (subst (Placed b)
        (sym (append-nil (with_last us p ++ Value s v ∷ [])))
        (placed_more b (with_last us p) (Value s v ∷ []) placed))
        ∙ ap (λ ts. ends ts (loose ws None)) (append-nil (with_last us p ++ Value s v ∷ []))
        ∙ sym (ends_with (with_last us p) (Value s v) (loose ws None))

    go : Settled us p ⊎ Faulty us p
        → option_outcome idle b (Some (rule_of_setting s)) (Some v) w (held us (last p)) ws ≡ ends (with_last us p)
        (with_use (Value s v) (loose ws None))
    go (inr f) = ap (λ ks. if_none (or_else (or_else ks (use_fault false (rule_of_setting s) (v ∷ [])
        (settled_rows rules (last p) (rows us)))) [])
        (outcome (option_walk idle b (Some (rule_of_setting s)) (Some v) w (held us (last p))) ws)) f.fault
        ∙ sym (doomed_ends (with_last us p) (with_use (Value s v) (loose ws None)) f.doomed)
    go (inl k) = ap (λ ks. if_none (or_else (or_else ks (use_fault false (rule_of_setting s) (v ∷ [])
        (settled_rows rules (last p) (rows us)))) [])
        (outcome (option_walk idle b (Some (rule_of_setting s)) (Some v) w (held us (last p))) ws)) k.quiet
        ∙ ap (λ rs. if_none (or_else (use_fault false (rule_of_setting s) (v ∷ []) rs) [])
        (outcome (at b false idle (record {
          rows = used (rule_of_setting s)
              (v ∷ []) rs;
          pending = None;
          skip = 0;
        })) ws)) k.rows
        ∙ added k (adds (with_last us p) (Value s v) k.single)

-- an option that waits for its value
alone_rests : (s : Setting) (w : Text) (ws : List Text) → Walks ws → (us : List Use) (p : Option Use) (b : Bool)
    → Single us → Placed b (with_last us p)
    → option_outcome idle b (Some (rule_of_setting s)) None w (held us (last p)) ws ≡ ends (with_last us p)
    (loose ws (Some s))
alone_rests s w ws more us p b single placed = go (settles us p single)
  where
    turn : (ks : Kinds) → settle_fault rules false (held us (last p)) ≡ ks
        → option_outcome idle b (Some (rule_of_setting s)) None w (held us (last p)) ws
        ≡ if_none (or_else ks []) (outcome (option_walk idle b (Some (rule_of_setting s)) None w (held us (last p))) ws)
    turn ks e = ap (λ k. if_none (or_else k [])
        (outcome (option_walk idle b (Some (rule_of_setting s)) None w (held us (last p))) ws)) e

    go : Settled us p ⊎ Faulty us p
        → option_outcome idle b (Some (rule_of_setting s)) None w (held us (last p)) ws ≡ ends (with_last us p)
        (loose ws (Some s))
    go (inr f) = turn _ f.fault ∙ sym (doomed_ends (with_last us p) (loose ws (Some s)) f.doomed)
    go (inl k) = turn _ k.quiet
        ∙ ap (λ rs. outcome (at b false (option (name_of s))
        (record { rows = rs; pending = Some (name_of s, []); skip = 0 })) ws) k.rows
        ∙ more.want (with_last us p) s b k.single placed

found_rests : (found : Option Setting) (valued : Bool) (v w : Text) (ws : List Text) → Walks ws
    → (us : List Use) (p : Option Use) (b : Bool) → Single us → Placed b (with_last us p)
    → option_outcome idle b (option_map rule_of_setting found)
    (attached valued v) w (held us (last p)) ws ≡ ends (with_last us p)
    (after_word (word_for valued v found) (loose ws) ws)
found_rests None valued v w ws more us p b single placed = refl
found_rests (Some s) true v w ws more us p b single placed = valued_rests s v w ws more us p b single placed
found_rests (Some s) false v w ws more us p b single placed = alone_rests s w ws more us p b single placed

long_rests : (x : ℕ) (xs : Text) (ws : List Text) → Walks ws → Rests (45 ∷ 45 ∷ x ∷ xs) ws
unfolding walked
long_rests x xs ws more us p b single placed =
    ap (λ found. option_outcome idle b found (attached (has_value x xs) (value_in x xs)) (45 ∷ 45 ∷ x ∷ xs)
    (held us (last p)) ws) (long_is (name_in x xs))
    ∙ found_rests (setting_named (name_in x xs)) (has_value x xs) (value_in x xs)
    (45 ∷ 45 ∷ x ∷ xs) ws more us p b single placed

-- a waiting option that gets no value
found_wants : (s : Setting) (found : Option Setting) (valued : Bool) (v w : Text) (ws : List Text) (us : List Use)
    (b : Bool)
    → option_outcome (option (name_of s)) b (option_map rule_of_setting found)
    (attached valued v) w (held us (Some (name_of s, []))) ws ≡ None
found_wants s None valued v w ws us b = refl
found_wants s (Some t) true v w ws us b =
    ap (λ ks. if_none (or_else (or_else ks (use_fault false (rule_of_setting t) (v ∷ [])
    (settled_rows rules (Some (name_of s, [])) (rows us)))) [])
    (outcome (option_walk (option (name_of s)) b (Some (rule_of_setting t))
    (Some v) w (held us (Some (name_of s, [])))) ws)) (unvalued us s)
found_wants s (Some t) false v w ws us b =
    ap (λ ks. if_none (or_else ks [])
    (outcome (option_walk (option (name_of s)) b (Some (rule_of_setting t)) None w (held us (Some (name_of s, []))))
    ws)) (unvalued us s)

long_wants : (x : ℕ) (xs : Text) (ws : List Text) → Wants (45 ∷ 45 ∷ x ∷ xs) ws
unfolding walked
long_wants x xs ws us s b single placed =
    ap (λ found. option_outcome (option (name_of s)) b found (attached (has_value x xs) (value_in x xs))
    (45 ∷ 45 ∷ x ∷ xs) (held us (Some (name_of s, []))) ws) (long_is (name_in x xs))
    ∙ found_wants s (setting_named (name_in x xs)) (has_value x xs) (value_in x xs) (45 ∷ 45 ∷ x ∷ xs) ws us b

-- ---- all words

abbrev pub AreUtf8 : List Text → Type 0
AreUtf8 [] = Unit {0}
AreUtf8 (w ∷ ws) = IsUtf8 w × AreUtf8 ws

word_walks : (w : Text) (ws : List Text) → IsUtf8 w → Walks ws → Form w → Rests w ws × Wants w ws
word_walks _ ws utf8 more (plain w p) = (plain_rests w ws more p, plain_wants w ws more p)
word_walks _ ws utf8 more (short x xs e) = (short_rests x xs ws e utf8, short_wants x xs ws e utf8)
word_walks _ ws utf8 more dashes = (dashes_rests ws, dashes_wants ws)
word_walks _ ws utf8 more (long x xs) = (long_rests x xs ws more, long_wants x xs ws)

pub walks : (ws : List Text) → AreUtf8 ws → Walks ws
walks [] utf8 = walks_none
walks (w ∷ ws) utf8 =
    let both = word_walks w ws utf8.0 (walks ws utf8.1) (form w) in
    record { rest = both.0; want = both.1 }
