-- What calls do to a segment's draft. What code and proofs say to each other: nothing public rests on it.
use Rattle.std.specs.Prelude.{ℕ, [], ◌∷◌, ◌++◌, length, take}
use Rattle.paged_store.specs.Paged.{Drafted, taken_then}

-- a record of the image is locked
abbrev pub with_lock : ℕ → Drafted → Drafted
with_lock a d = record d { changed = d.changed ++ a ∷ [] }

-- a step begins
abbrev pub step_opened : Drafted → Drafted
step_opened d = record d {
  notes = [];
  spans_before = length d.spans;
  taken_before = length d.taken;
  made_before =
      length d.made;
}

-- the step is taken back
abbrev pub step_undone : Drafted → Drafted
step_undone d = record d {
  notes = [];
  spans = take d.spans_before d.spans;
  taken = taken_then d;
  made =
      take d.made_before d.made;
}
