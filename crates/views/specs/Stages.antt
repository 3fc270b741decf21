-- The two sides, on the stages: said once for both, by the kind of count that a side takes of the other.
use Rattle.std.specs.Prelude.{Bool, false, not, cond, Option, None, Some}

-- into the first stage: the other side's count before the sample, or, with the skew missed, the one that a remembered
-- rise found
abbrev pub count_taken : {Count : Type 0} → Bool → Option Count → Count → Count
count_taken met None count = count
count_taken met (Some earlier) count = cond met count earlier

-- a remembered rise is looked past
abbrev pub looks_past : {Count : Type 0} → Bool → Option Count → Bool
looks_past met None = false
looks_past met (Some earlier) = not met

-- what is remembered after a sample, by whether the own clock and the other clock rise in it: of two rises in one
-- sample the other counts as later
abbrev pub rise_after : {Count : Type 0} → Bool → Bool → Count → Option Count → Option Count
rise_after own other count latest = cond other (Some count) (cond own None latest)
