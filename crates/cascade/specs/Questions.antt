-- Whether a child can be cascaded at a line of a parent, and what is made of the two.
use Rattle.std.specs.Prelude.{ℕ, ◌+◌, cond, List, length, Some, None, Option, nat_le, nat_lt}
use Rattle.line.specs.declared.row.Row.{Row}
use Rattle.controller.specs.Meaning.{at, all_reset}
use Rattle.cascade.specs.declared.fault.CascadeFault.{CascadeFault}
use Rattle.cascade.specs.declared.fault.CascadeFault.TheVariants.{NoLine, Wired, TooWide}
use Rattle.cascade.specs.Pairs.{pair_lines}

-- the number of a refusal
abbrev pub number_of : CascadeFault → ℕ
number_of NoLine = 25
number_of Wired = 31
number_of TooWide = 33

-- 31 for a wired line, else what follows
abbrev pub if_open : Option Row → Option CascadeFault → Option CascadeFault
if_open None u = Some Wired
if_open (Some r) u = u

-- why a child with lines cs cannot be cascaded at line k of a parent with lines ps, or None
abbrev pub question_of : List (Option Row) → List (Option Row) → ℕ → Option CascadeFault
question_of ps cs k =
    cond (nat_lt k (length ps)) (if_open (at ps k) (cond (nat_le (length ps + length cs) 256) None (Some TooWide))) (Some NoLine)

-- the lines of what is made, by the question's answer: a pair, or the parent alone, as a reset leaves them
abbrev pub made_by : List (Option Row) → List (Option Row) → ℕ → Option CascadeFault → List (Option Row)
made_by ps cs k None = all_reset (pair_lines k ps cs)
made_by ps cs k (Some f) = all_reset ps

-- the lines of what is made of the two, at a line or at none
abbrev pub made_lines : List (Option Row) → List (Option Row) → Option ℕ → List (Option Row)
made_lines ps cs None = all_reset ps
made_lines ps cs (Some k) = made_by ps cs k (question_of ps cs k)

-- the wired line, by the question's answer
abbrev pub wired_by : ℕ → Option CascadeFault → Option ℕ
wired_by k None = Some k
wired_by k (Some f) = None

-- the wired line of what is made of the two
abbrev pub made_wired : List (Option Row) → List (Option Row) → Option ℕ → Option ℕ
made_wired ps cs None = None
made_wired ps cs (Some k) = wired_by k (question_of ps cs k)
