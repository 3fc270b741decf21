-- The two sides: counts, stages and remembered rises after a sample, each the true one round the width.
use Rattle.std.specs.Prelude.{ℕ, ◌%◌, Bool, true, false, not, cond, ◌&&◌, ◌||◌, ◌≡◌, refl, Option, Some, None, is_some}
use Rattle.std.proofs.Common.{arith}
use Rattle.counts.specs.declared.round.ReadCount.{ReadCount}
use Rattle.counts.specs.declared.round.WriteCount.{WriteCount}
use Rattle.counts.specs.Round.{next_read, width}
use Rattle.sides.specs.Tracks.{RemembersRead, RemembersWrite, next_true}
use Rattle.views.specs.Stages.{rise_after, count_taken}
use Rattle.views.specs.TrueCounts.{across}

pub read_round : (retransmitted delivered : Bool) (count : ReadCount) (read : ℕ) → count.0 ≡ read % width
    → (cond {A = ReadCount} retransmitted (record { 0 = 0 }) (next_read delivered count)).0 ≡ next_true retransmitted delivered read % width
read_round true delivered count read e = refl
read_round false true count read e = omega arith
read_round false false count read e = e

-- a stage that takes one count at a rise and keeps another without
pub stage_round : {A : Type 0} (held : A → ℕ) (rises : Bool) (taken kept : A) (one two : ℕ) → held taken ≡ one % width → held kept ≡ two % width
    → held (cond rises taken kept) ≡ cond rises one two % width
stage_round held true taken kept one two e f = e
stage_round held false taken kept one two e f = f

pub taken_read_lem : (met : Bool) (latest : Option ReadCount) (count : ReadCount) (read before : ℕ) → count.0 ≡ read % width → RemembersRead latest before
    → (count_taken met latest count).0 ≡ across met (is_some latest) read before % width
taken_read_lem met None count read before e f = e
taken_read_lem true (Some earlier) count read before e f = e
taken_read_lem false (Some earlier) count read before e f = f

pub taken_write_lem : (met : Bool) (latest : Option WriteCount) (count : WriteCount) (written before : ℕ) → count.0 ≡ written % width → RemembersWrite latest before
    → (count_taken met latest count).0 ≡ across met (is_some latest) written before % width
taken_write_lem met None count written before e f = e
taken_write_lem true (Some earlier) count written before e f = e
taken_write_lem false (Some earlier) count written before e f = f

pub remembers_read : (own other : Bool) (count : ReadCount) (latest : Option ReadCount) (read before : ℕ) → count.0 ≡ read % width
    → RemembersRead latest before → RemembersRead (rise_after own other count latest) (cond other read before)
remembers_read own true count latest read before e f = e
remembers_read true false count latest read before e f = tt
remembers_read false false count latest read before e f = f

pub remembers_write : (own other : Bool) (count : WriteCount) (latest : Option WriteCount) (written before : ℕ) → count.0 ≡ written % width
    → RemembersWrite latest before → RemembersWrite (rise_after own other count latest) (cond other written before)
remembers_write own true count latest written before e f = e
remembers_write true false count latest written before e f = tt
remembers_write false false count latest written before e f = f

pub since_read : (own other : Bool) (count : ReadCount) (latest : Option ReadCount) → is_some (rise_after own other count latest) ≡ other || not own && is_some latest
since_read own true count latest = refl
since_read true false count latest = refl
since_read false false count latest = refl

pub since_write : (own other : Bool) (count : WriteCount) (latest : Option WriteCount)
    → is_some (rise_after own other count latest) ≡ cond own other (other || is_some latest)
since_write true true count latest = refl
since_write false true count latest = refl
since_write true false count latest = refl
since_write false false count latest = refl
