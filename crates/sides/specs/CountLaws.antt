-- The two sides, whatever an allowed sample does to them, go on holding the true counts.
use Rattle.std.specs.Prelude.{ℕ, ◌+◌, ◌≤◌, ◌<◌, Bool, true, false, not, cond, ◌&&◌, ◌||◌, ◌≡◌, is_some}
use Rattle.std.proofs.Math.Bool.{and-false}
use Rattle.std.proofs.Common.{arith}
use Rattle.counts.specs.declared.round.ReadCount.{ReadCount}
use Rattle.counts.specs.declared.round.WriteCount.{WriteCount}
use Rattle.counts.specs.Sized.{Sized}
use Rattle.pins.specs.declared.record.Pins.{Pins}
use Rattle.sides.specs.declared.read.ReadSide.{ReadSide}
use Rattle.sides.specs.declared.write.WriteSide.{WriteSide}
use Rattle.sides.specs.AcceptLaws.{may_accept, takes_by}
use Rattle.sides.specs.Clocks.{read_rises, write_rises}
use Rattle.sides.specs.DecisionLaws.{none_owed, room_told, word_told}
use Rattle.sides.specs.DeliveryLaws.{may_move, none_still, owes_after}
use Rattle.sides.specs.Read.{delivers, read_after, read_count_after, reads, ready, retransmits, second_after_read, sees_word}
use Rattle.sides.specs.RoundLaws.{read_round, remembers_read, remembers_write, since_read, since_write, stage_round, taken_read_lem, taken_write_lem}
use Rattle.sides.specs.SinceReset.{tallies_after}
use Rattle.sides.specs.Tracks.{Allowed, Tracks, next_true, true_after}
use Rattle.sides.specs.Write.{accepts, full, second_after_write, takes_after, write_after, write_count_after}
use Rattle.views.specs.OrderLaws.{ordered_read, ordered_write, setting_after, takes_written}
use Rattle.views.specs.Retransmit.{just_begun, looked, setup_after, view_after}
use Rattle.views.specs.TrueCounts.{MayMove, Ordered, Setting, TakesRead, TakesWritten, TrueCounts, When, across, after_write}

pub grows : (one : Bool) (count : ℕ) → count ≤ cond one (count + 1) count
grows true count = omega arith
grows false count = omega arith

since_now : (rises : Bool) (now before : ℕ) → When rises (now ≤ cond rises now before)
since_now true now before = omega arith
since_now false now before = tt

module _ (depth : ℕ) (z : Sized depth) (w : WriteSide) (r : ReadSide) (t : TrueCounts) (g : Tracks depth w r t) (p : Pins) (a : Allowed depth p w r t) where
  abbrev taken_now : ℕ
  taken_now = across p.skew.read (is_some r.latest) t.written t.written_before

  abbrev after_writing : TrueCounts
  after_writing = after_write (write_rises p w) (accepts depth p w) (across p.skew.write (is_some w.latest) t.read t.read_before) t

  taken_after_lem : TakesWritten after_writing taken_now
  taken_after_lem =
      let h = takes_written depth w.view (just_begun r.setup) (is_some w.latest) t p.skew.read (is_some r.latest) g.ordered in
      let more = grows (accepts depth p w) t.written in
      omega arith

  none_accepted : retransmits p r ≡ true → accepts depth p w ≡ false
  unfolding accepts
  none_accepted e = simp (a.alone e, and-false)

  few_after : retransmits p r ≡ true → after_writing.written < depth
  few_after e = rw (none_accepted e) (a.few e)

  -- what the stages, the flags and the deliveries of this sample tell of the true counts: shown in `tracks_on`, which fails alone where one does not hold
  module _ (takes : TakesRead w.view (just_begun r.setup) (takes_after p r w) t (across p.skew.write (is_some w.latest) t.read t.read_before))
      (room : full depth w ≡ false → t.written < t.write_second + depth) (left : delivers p r ≡ true → t.read < t.read_second) where
    ordered_between : Ordered depth (cond (write_rises p w) (looked (takes_after p r w) w.view) w.view) (just_begun r.setup)
        (write_rises p w || is_some r.latest) (not (write_rises p w) && is_some w.latest) after_writing
    unfolding accepts
    ordered_between =
        ordered_write depth (is_some r.latest) (is_some w.latest) t (write_rises p w) w.view (just_begun r.setup) (takes_after p r w)
        (accepts depth p w) _ g.ordered takes (may_accept depth t (write_rises p w) p.ld p.wen (full depth w) w.view a.seen room)

    moves : MayMove (read_rises p r) p.rt (next_true (retransmits p r) (delivers p r) t.read) depth after_writing
    unfolding retransmits
    moves =
        may_move depth (read_rises p r) p.rt (delivers p r) after_writing (none_still p r) left g.ordered.unread few_after

    ordered_after : Ordered depth (view_after (retransmits p r) (write_rises p w) (takes_after p r w) w.view)
        (just_begun (setup_after (read_rises p r) p.rt r.setup))
        (cond (read_rises p r) (write_rises p w) (write_rises p w || is_some r.latest))
        (read_rises p r || not (write_rises p w) && is_some w.latest) (true_after depth p w r t)
    unfolding retransmits true_after
    ordered_after =
        ordered_read depth _ _ after_writing (read_rises p r) p.rt _ r.setup (write_rises p w)
        (next_true (retransmits p r) (delivers p r) t.read) taken_now t.written ordered_between taken_after_lem
        (takes_written depth w.view (just_begun r.setup) (is_some w.latest) t p.skew.read (is_some r.latest) g.ordered).high
        (grows (accepts depth p w) t.written) (since_now (write_rises p w) t.written t.written_before) moves

  setting_now : let u = true_after depth p w r t in Setting (setup_after (read_rises p r) p.rt r.setup) u.one_ago u.two_ago u.three_ago
  unfolding retransmits true_after
  setting_now = setting_after (read_rises p r) p.rt r.setup t.written t.one_ago t.two_ago t.three_ago g.setting

  pub tracks_on : (m n fetched : ℕ) → Tracks depth (write_after depth m p r w) (read_after n p fetched w r) (true_after depth p w r t)
  unfolding write_after read_after true_after read_count_after write_count_after second_after_write second_after_read
      takes_after full retransmits delivers reads ready
  tracks_on m n fetched = record {
    written = tallies_after t.written depth m p r w g.written;
    read = read_round (retransmits p r) (delivers p r) r.count t.read g.read;
    write_first = stage_round (λ (c : ReadCount). c.0) (write_rises p w) _ w.first _ t.write_first
        (taken_read_lem p.skew.write w.latest r.count t.read t.read_before g.read g.latest_read) g.write_first;
    write_second = stage_round (λ (c : ReadCount). c.0) (write_rises p w) w.first w.second t.write_first t.write_second
        g.write_first g.write_second;
    read_first = stage_round (λ (c : WriteCount). c.0) (read_rises p r) _ r.first _ t.read_first
        (taken_write_lem p.skew.read r.latest w.count t.written t.written_before g.written.count g.latest_write) g.read_first;
    read_second = stage_round (λ (c : WriteCount). c.0) (read_rises p r) r.first r.second t.read_first t.read_second
        g.read_first g.read_second;
    latest_read = remembers_read (write_rises p w) (read_rises p r) r.count w.latest t.read t.read_before g.read g.latest_read;
    latest_write = remembers_write (read_rises p r) (write_rises p w) w.count r.latest t.written t.written_before
        g.written.count g.latest_write;
    ordered =
        rw (since_write (read_rises p r) (write_rises p w) w.count r.latest, since_read (write_rises p w) (read_rises p r) r.count w.latest)
        (ordered_after (takes_by depth (is_some r.latest) t w.view r.setup w.latest p.skew.write g.ordered) (room_told depth z w r t g)
        (word_told depth z w r t g (read_rises p r && p.rt) (read_rises p r && p.ld && not p.ren && p.rt)));
    setting = setting_now;
    owes =
        owes_after r.mode (read_rises p r) p.ld p.ren p.rt (sees_word r) t.three_ago t.four_ago t.read g.owes
        (none_owed depth z w r t g);
  }
