-- The order of the true counts outlives every rise that What is turned away lets through.
use Rattle.std.specs.Prelude.{ℕ, ◌≤◌, ◌<◌, Bool, true, false, not, cond, ◌&&◌, ◌||◌, ◌≡◌, refl}
use Rattle.std.proofs.Common.{arith}
use Rattle.views.specs.declared.retransmit.Setup.{Setup}
use Rattle.views.specs.declared.retransmit.Setup.TheVariants.{Over, OneMore, TwoMore}
use Rattle.views.specs.declared.retransmit.View.{View}
use Rattle.views.specs.declared.retransmit.View.TheVariants.{Unseen, Taken, Seen}
use Rattle.views.specs.Retransmit.{counted, just_begun, looked, setup_after}
use Rattle.views.specs.TrueCounts.{MayAccept, MayMove, Ordered, Setting, TakesRead, TakesWritten, TrueCounts, When, across, after_read, after_write, no_counts}

pub ordered_reset : (depth : ℕ) → Ordered depth Seen false false false no_counts
ordered_reset depth = omega arith

begun_once : (setup : Setup) → just_begun (counted setup) ≡ false
begun_once Over = refl
begun_once OneMore = refl
begun_once TwoMore = refl

module _ (depth : ℕ) (wclk rclk : Bool) (t : TrueCounts) where
  -- the write side's part of a sample
  pub ordered_write : (rises : Bool) (view : View) (begun after accepts : Bool) (taken : ℕ)
      → Ordered depth view begun wclk rclk t → TakesRead view begun after t taken → MayAccept rises view accepts depth t
      → Ordered depth (cond rises (looked after view) view) begun (rises || wclk) (not rises && rclk) (after_write rises accepts taken t)
  ordered_write true Seen begun after true taken o w m = omega arith
  ordered_write true Seen begun after false taken o w m = omega arith
  ordered_write true Taken begun after false taken o w m = omega arith
  ordered_write true Taken begun after true taken o w m = absurd m
  ordered_write true Unseen false true false taken o w m = omega arith
  ordered_write true Unseen false false false taken o w m = omega arith
  ordered_write true Unseen true true false taken o w m = omega arith
  ordered_write true Unseen true false false taken o w m = omega arith
  ordered_write true Unseen begun after true taken o w m = absurd m
  ordered_write false view begun after true taken o w m = absurd m
  ordered_write false view begun after false taken o w m = o

  -- a rise of RCLK with RT HIGH; `other` tells whether WCLK rises in the same sample
  read_rise : (view : View) (begun other : Bool) (next taken before : ℕ)
      → Ordered depth view begun wclk rclk t → TakesWritten t taken → taken ≤ before → before ≤ t.written → When other (before ≤ t.written_before)
      → t.read ≤ next → next ≤ t.read_second → Ordered depth view false other true (after_read true false next taken before t)
  read_rise Seen begun true next taken before o w h l s low high = omega arith
  read_rise Seen begun false next taken before o w h l s low high = omega arith
  read_rise Taken begun true next taken before o w h l s low high = omega arith
  read_rise Taken begun false next taken before o w h l s low high = omega arith
  read_rise Unseen true true next taken before o w h l s low high = omega arith
  read_rise Unseen true false next taken before o w h l s low high = omega arith
  read_rise Unseen false true next taken before o w h l s low high = omega arith
  read_rise Unseen false false next taken before o w h l s low high = omega arith

  retransmit_rise : (view : View) (begun other : Bool) (taken before : ℕ)
      → Ordered depth view begun wclk rclk t → TakesWritten t taken → taken ≤ before → When other (before ≤ t.written_before) → t.written < depth
      → Ordered depth Unseen true other true (after_read true true 0 taken before t)
  retransmit_rise view begun true taken before o w h s m = omega arith
  retransmit_rise view begun false taken before o w h s m = omega arith

  -- the read side's part of a sample
  pub ordered_read : (rises rt : Bool) (view : View) (setup : Setup) (other : Bool) (next taken before : ℕ)
      → Ordered depth view (just_begun setup) wclk rclk t → TakesWritten t taken → taken ≤ before → before ≤ t.written → When other (before ≤ t.written_before)
      → MayMove rises rt next depth t
      → Ordered depth (cond (rises && not rt) Unseen view) (just_begun (setup_after rises rt setup)) (cond rises other wclk) (rises || rclk)
      (after_read rises (rises && not rt) next taken before t)
  ordered_read false rt view setup other next taken before o w h l s m = rw m o
  ordered_read true false view setup other next taken before o w h l s m =
      rw m.0 (retransmit_rise view (just_begun setup) other taken before o w h s m.1)
  ordered_read true true view setup other next taken before o w h l s m =
      rw (begun_once setup) (read_rise view (just_begun setup) other next taken before o w h l s m.0 m.1)

pub takes_written : (depth : ℕ) (view : View) (begun rclk : Bool) (t : TrueCounts) (met wclk : Bool) → Ordered depth view begun wclk rclk t
    → TakesWritten t (across met wclk t.written t.written_before)
takes_written depth view begun rclk t true true o = omega arith
takes_written depth view begun rclk t false true o = omega arith
takes_written depth view begun rclk t met false o = omega arith

-- a setup through a sample
pub setting_after : (rises rt : Bool) (setup : Setup) (before one_ago two_ago three_ago : ℕ) → Setting setup one_ago two_ago three_ago
    → let back = rises && not rt in
    Setting (setup_after rises rt setup) (cond back 0 (cond rises before one_ago)) (cond back 0 (cond rises one_ago two_ago)) (cond back 0 (cond rises two_ago three_ago))
setting_after false rt setup before one_ago two_ago three_ago h = h
setting_after true false setup before one_ago two_ago three_ago h = (refl, refl, refl)
setting_after true true Over before one_ago two_ago three_ago h = tt
setting_after true true OneMore before one_ago two_ago three_ago h = tt
setting_after true true TwoMore before one_ago two_ago three_ago h = omega arith
