-- What operators and keywords are read as, entry by entry of their tables.
use Rattle.std.proofs.Common.{◌≡◌, ℕ, Bool, true, false, ◌==◌, ◌||◌, if◌then◌else◌, List, [], ◌∷◌, refl, subst}
use Rattle.std.proofs.lemmas.Bool.{eqb-true}
use Rattle.std.specs.List.{AllByRecursion}
use Rattle.py_tokens.specs.declared.token.TokenKind.{TokenKind}
use Rattle.py_tokens.specs.declared.token.TokenKind.TheVariants as k
use Rattle.py_tokens.specs.Names.{name_at}
use Rattle.py_tokens.specs.Tables.{keywords, operators}
use Rattle.py_tokens.specs.Words.{word_at}
use Rattle.py_tree.specs.Writing.{word_of}
use Rattle.py_tree.specs.inner.Laid.{has_number}
use Rattle.py_tree.proofs.WrittenRows.{Spelt, entry}

-- each word of a table is read as a token of its number
abbrev EachSpelt : (ℕ → TokenKind) → List (List ℕ × ℕ) → Type 0
EachSpelt kind table = AllByRecursion (λ w. Spelt (kind w.1) w.0) table

each_operator : EachSpelt (λ n. k.Op n) operators
unfolding word_at
each_operator = (
  entry _ _ _ refl (λ size at line from to after rest. refl),
  (
    entry _ _ _ refl (λ size at line from to after rest. refl),
    (
      entry _ _ _ refl (λ size at line from to after rest. refl),
      (
        entry _ _ _ refl (λ size at line from to after rest. refl),
        (
          entry _ _ _ refl (λ size at line from to after rest. refl),
          (
            entry _ _ _ refl (λ size at line from to after rest. refl),
            (
              entry _ _ _ refl (λ size at line from to after rest. refl),
              (
                entry _ _ _ refl (λ size at line from to after rest. refl),
                (
                  entry _ _ _ refl (λ size at line from to after rest. refl),
                  (
                    entry _ _ _ refl (λ size at line from to after rest. refl),
                    (
                      entry _ _ _ refl (λ size at line from to after rest. refl),
                      (
                        entry _ _ _ refl (λ size at line from to after rest. refl),
                        (
                          entry _ _ _ refl (λ size at line from to after rest. refl),
                          (
                            entry _ _ _ refl (λ size at line from to after rest. refl),
                            (
                              entry _ _ _ refl (λ size at line from to after rest. refl),
                              (
                                entry _ _ _ refl (λ size at line from to after rest. refl),
                                (
                                  entry _ _ _ refl (λ size at line from to after rest. refl),
                                  (
                                    entry _ _ _ refl (λ size at line from to after rest. refl),
                                    (
                                      entry _ _ _ refl (λ size at line from to after rest. refl),
                                      (
                                        entry _ _ _ refl (λ size at line from to after rest. refl),
                                        (
                                          entry _ _ _ refl (λ size at line from to after rest. refl),
                                          (
                                            entry _ _ _ refl (λ size at line from to after rest. refl),
                                            (
                                              entry _ _ _ refl (λ size at line from to after rest. refl),
                                              (
                                                entry _ _ _ refl (λ size at line from to after rest. refl),
                                                (
                                                  entry _ _ _ refl (λ size at line from to after rest. refl),
                                                  (
                                                    entry _ _ _ refl (λ size at line from to after rest. refl),
                                                    (
                                                      entry _ _ _ refl (λ size at line from to after rest. refl),
                                                      (
                                                        entry _ _ _ refl (λ size at line from to after rest. refl),
                                                        (
                                                          entry _ _ _ refl (λ size at line from to after rest. refl),
                                                          (
                                                            entry _ _ _ refl (λ size at line from to after rest. refl),
                                                            (
                                                              entry _ _ _ refl (λ size at line from to after rest.
                                                                  refl),
                                                              (
                                                                entry _ _ _ refl (λ size at line from to after rest.
                                                                    refl),
                                                                (
                                                                  entry _ _ _ refl (λ size at line from to after rest.
                                                                      refl),
                                                                  (
                                                                    entry _ _ _ refl (λ size at line from to after
                                                                        rest. refl),
                                                                    (
                                                                      entry _ _ _ refl (λ size at line from to after
                                                                          rest. refl),
                                                                      (
                                                                        entry _ _ _ refl (λ size at line from to after
                                                                            rest. refl),
                                                                        (
                                                                          entry _ _ _ refl (λ size at line from to
                                                                              after rest. refl),
                                                                          (
                                                                            entry _ _ _ refl (λ size at line from to
                                                                                after rest. refl),
                                                                            (
                                                                              entry _ _ _ refl (λ size at line from to
                                                                                  after rest. refl),
                                                                              (
                                                                                entry _ _ _ refl (λ size at line from
                                                                                    to after rest. refl),
                                                                                (
                                                                                  entry _ _ _ refl (λ size at line from
                                                                                      to after rest. refl),
                                                                                  (
                                                                                    entry _ _ _ refl (λ size at line
                                                                                        from to after rest. refl),
                                                                                    (
                                                                                      entry _ _ _ refl (λ size at line
                                                                                          from to after rest. refl),
                                                                                      (
                                                                                        entry _ _ _ refl (λ size at
                                                                                            line from to after rest.
                                                                                            refl),
                                                                                        (
                                                                                          entry _ _ _ refl (λ size at
                                                                                              line from to after rest.
                                                                                              refl),
                                                                                          tt,
                                                                                        ),
                                                                                      ),
                                                                                    ),
                                                                                  ),
                                                                                ),
                                                                              ),
                                                                            ),
                                                                          ),
                                                                        ),
                                                                      ),
                                                                    ),
                                                                  ),
                                                                ),
                                                              ),
                                                            ),
                                                          ),
                                                        ),
                                                      ),
                                                    ),
                                                  ),
                                                ),
                                              ),
                                            ),
                                          ),
                                        ),
                                      ),
                                    ),
                                  ),
                                ),
                              ),
                            ),
                          ),
                        ),
                      ),
                    ),
                  ),
                ),
              ),
            ),
          ),
        ),
      ),
    ),
  ),
)

each_keyword : EachSpelt (λ n. k.Keyword n) keywords
unfolding word_at name_at
each_keyword = (
  entry _ _ _ refl (λ size at line from to after rest. refl),
  (
    entry _ _ _ refl (λ size at line from to after rest. refl),
    (
      entry _ _ _ refl (λ size at line from to after rest. refl),
      (
        entry _ _ _ refl (λ size at line from to after rest. refl),
        (
          entry _ _ _ refl (λ size at line from to after rest. refl),
          (
            entry _ _ _ refl (λ size at line from to after rest. refl),
            (
              entry _ _ _ refl (λ size at line from to after rest. refl),
              (
                entry _ _ _ refl (λ size at line from to after rest. refl),
                (
                  entry _ _ _ refl (λ size at line from to after rest. refl),
                  (
                    entry _ _ _ refl (λ size at line from to after rest. refl),
                    (
                      entry _ _ _ refl (λ size at line from to after rest. refl),
                      (
                        entry _ _ _ refl (λ size at line from to after rest. refl),
                        (
                          entry _ _ _ refl (λ size at line from to after rest. refl),
                          (
                            entry _ _ _ refl (λ size at line from to after rest. refl),
                            (
                              entry _ _ _ refl (λ size at line from to after rest. refl),
                              (
                                entry _ _ _ refl (λ size at line from to after rest. refl),
                                (
                                  entry _ _ _ refl (λ size at line from to after rest. refl),
                                  (
                                    entry _ _ _ refl (λ size at line from to after rest. refl),
                                    (
                                      entry _ _ _ refl (λ size at line from to after rest. refl),
                                      (
                                        entry _ _ _ refl (λ size at line from to after rest. refl),
                                        (
                                          entry _ _ _ refl (λ size at line from to after rest. refl),
                                          (
                                            entry _ _ _ refl (λ size at line from to after rest. refl),
                                            (
                                              entry _ _ _ refl (λ size at line from to after rest. refl),
                                              (
                                                entry _ _ _ refl (λ size at line from to after rest. refl),
                                                (
                                                  entry _ _ _ refl (λ size at line from to after rest. refl),
                                                  (
                                                    entry _ _ _ refl (λ size at line from to after rest. refl),
                                                    (
                                                      entry _ _ _ refl (λ size at line from to after rest. refl),
                                                      (
                                                        entry _ _ _ refl (λ size at line from to after rest. refl),
                                                        (
                                                          entry _ _ _ refl (λ size at line from to after rest. refl),
                                                          (
                                                            entry _ _ _ refl (λ size at line from to after rest. refl),
                                                            (
                                                              entry _ _ _ refl (λ size at line from to after rest.
                                                                  refl),
                                                              tt,
                                                            ),
                                                          ),
                                                        ),
                                                      ),
                                                    ),
                                                  ),
                                                ),
                                              ),
                                            ),
                                          ),
                                        ),
                                      ),
                                    ),
                                  ),
                                ),
                              ),
                            ),
                          ),
                        ),
                      ),
                    ),
                  ),
                ),
              ),
            ),
          ),
        ),
      ),
    ),
  ),
)

-- the word of a number that the table has
of_table : (kind : ℕ → TokenKind) (table : List (List ℕ × ℕ)) (n : ℕ) → EachSpelt kind table →
    has_number table n ≡ true → Spelt (kind n) (word_of table n)
of_table kind [] n each h = absurd (cc)
of_table kind (w ∷ ws) n each h = go (w.1 == n) refl h (λ g. of_table kind ws n each.1 g)
  where
    go : (b : Bool) → (w.1 == n) ≡ b → (b || has_number ws n) ≡ true →
        (has_number ws n ≡ true → Spelt (kind n) (word_of ws n)) → Spelt (kind n) (if b then w.0 else word_of ws n)
    go true e h more = subst (λ m. Spelt (kind m) w.0) (eqb-true w.1 n e) each.0
    go false e h more = more h

pub spelt_operator : (n : ℕ) → has_number operators n ≡ true → Spelt (k.Op n) (word_of operators n)
spelt_operator n h = of_table (λ m. k.Op m) operators n each_operator h

pub spelt_keyword : (n : ℕ) → has_number keywords n ≡ true → Spelt (k.Keyword n) (word_of keywords n)
spelt_keyword n h = of_table (λ m. k.Keyword m) keywords n each_keyword h
