-- The two sides, WCLK rise: what it takes is within its view, and no word is accepted without room for it.
use Rattle.std.specs.Prelude.{ℕ, ◌+◌, ◌<◌, Bool, true, false, not, ◌&&◌, ◌≡◌, refl, Option, Some, None, is_some}
use Rattle.counts.specs.declared.round.ReadCount.{ReadCount}
use Rattle.std.proofs.Common.{true≢false, arith}
use Rattle.sides.specs.Write.{from_after}
use Rattle.views.specs.declared.retransmit.Setup.{Setup}
use Rattle.views.specs.declared.retransmit.Setup.TheVariants.{Over, OneMore, TwoMore}
use Rattle.views.specs.declared.retransmit.View.{View}
use Rattle.views.specs.declared.retransmit.View.TheVariants.{Unseen, Taken, Seen}
use Rattle.views.specs.Retransmit.{is_seen, just_begun}
use Rattle.views.specs.Stages.{looks_past}
use Rattle.views.specs.TrueCounts.{MayAccept, Ordered, TakesRead, TrueCounts, across}

-- with the test spelt out, for `tracks_on`
pub takes_by : (depth : ℕ) (wclk : Bool) (t : TrueCounts) (view : View) (setup : Setup) (latest : Option ReadCount) (met : Bool)
    → Ordered depth view (just_begun setup) wclk (is_some latest) t
    → TakesRead view (just_begun setup) (not (looks_past met latest && just_begun setup)) t (across met (is_some latest) t.read t.read_before)
takes_by depth wclk t Seen setup None met o = omega arith
takes_by depth wclk t Seen setup (Some count) true o = omega arith
takes_by depth wclk t Seen setup (Some count) false o = omega arith
takes_by depth wclk t Taken setup None met o = omega arith
takes_by depth wclk t Taken setup (Some count) true o = omega arith
takes_by depth wclk t Taken setup (Some count) false o = omega arith
takes_by depth wclk t Unseen TwoMore None met o = omega arith
takes_by depth wclk t Unseen TwoMore (Some count) true o = omega arith
takes_by depth wclk t Unseen TwoMore (Some count) false o = omega arith
takes_by depth wclk t Unseen OneMore None met o = omega arith
takes_by depth wclk t Unseen OneMore (Some count) true o = omega arith
takes_by depth wclk t Unseen OneMore (Some count) false o = omega arith
takes_by depth wclk t Unseen Over None met o = omega arith
takes_by depth wclk t Unseen Over (Some count) true o = omega arith
takes_by depth wclk t Unseen Over (Some count) false o = omega arith

pub takes_read : (depth : ℕ) (wclk : Bool) (t : TrueCounts) (view : View) (setup : Setup) (latest : Option ReadCount) (met : Bool)
    → Ordered depth view (just_begun setup) wclk (is_some latest) t
    → TakesRead view (just_begun setup) (from_after (looks_past met latest) setup) t (across met (is_some latest) t.read t.read_before)
takes_read depth wclk t view setup latest met o = takes_by depth wclk t view setup latest met o

pub may_accept : (depth : ℕ) (t : TrueCounts) (rises ld wen isFull : Bool) (view : View) → rises && ld && not wen && not (is_seen view) ≡ false
    → (isFull ≡ false → t.written < t.write_second + depth) → MayAccept rises view (rises && ld && not wen && not isFull) depth t
may_accept depth t false ld wen isFull view e h = tt
may_accept depth t true false wen isFull view e h = tt
may_accept depth t true true true isFull view e h = tt
may_accept depth t true true false true view e h = tt
may_accept depth t true true false false Seen e h = h refl
may_accept depth t true true false false Taken e h = absurd (true≢false e)
may_accept depth t true true false false Unseen e h = absurd (true≢false e)
