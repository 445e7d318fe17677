-- The text of a generated workload. States `docs/LANGUAGE.md`, "The words of a call".
use Rattle.std.specs.Prelude.{ℕ, List, [], ◌∷◌, ◌++◌, codes}
use Rattle.std.specs.Fmt.{decimal}

-- the lines, each ended by a newline
abbrev pub lines : List (List ℕ) → List ℕ
lines [] = []
lines (line ∷ more) = line ++ 10 ∷ lines more

-- the lines before the one with the number
abbrev pub before : List (List ℕ)
before =
    codes "import thread, threading"
    ∷ codes "accounts = [1000, 1000, 1000, 1000, 1000, 1000, 1000, 1000]"
    ∷ codes "guard = thread.allocate_lock()"
    ∷ codes "done = [0]"
    ∷ codes "def work(seed, turns):"
    ∷ codes "    x = seed"
    ∷ codes "    i = 0"
    ∷ codes "    while i < turns:"
    ∷ codes "        x = (x * 1103515245 + 12345) % 2147483648"
    ∷ codes "        a = x / 65536 % 8"
    ∷ codes "        b = (x / 524288 + 1) % 8"
    ∷ codes "        guard.acquire()"
    ∷ codes "        accounts[a] -= 1"
    ∷ codes "        accounts[b] += 1"
    ∷ codes "        done[0] += 1"
    ∷ codes "        guard.release()"
    ∷ codes "        i += 1"
    ∷ codes "ts = []"
    ∷ codes "k = 0"
    ∷ codes "while k < 4:"
    ∷ []

-- what stands round the number in its line
abbrev pub before_number : List ℕ
before_number = codes "    t = threading.Thread(target=work, args=("

abbrev pub behind_number : List ℕ
behind_number = codes " + k, 2500))"

abbrev pub numbered : List ℕ → List ℕ
numbered number = before_number ++ number ++ behind_number

-- the lines behind it
abbrev pub behind : List (List ℕ)
behind =
    codes "    t.start()"
    ∷ codes "    ts.append(t)"
    ∷ codes "    k += 1"
    ∷ codes "for t in ts:"
    ∷ codes "    t.join()"
    ∷ codes "total = 0"
    ∷ codes "for v in accounts:"
    ∷ codes "    total += v"
    ∷ codes "print 'total', total"
    ∷ codes "print 'transfers', done[0]"
    ∷ []

-- The text of the workload with that number.
abbrev pub demo_of : ℕ → List ℕ
demo_of n = lines (before ++ numbered (decimal n) ∷ behind)
