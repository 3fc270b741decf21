-- The two sides: what their decisions, made round the width, tell of the true counts, and what these tell of the flag.
use Rattle.std.specs.Prelude.{ℕ, ◌+◌, ◌-◌, ◌%◌, ◌≤◌, ◌<◌, Bool, true, false, not, ◌&&◌, ◌≢◌, ◌≡◌, refl}
use Rattle.std.proofs.Math.Bool.{and-eq-true_iff}
use Rattle.std.proofs.Common.{true≢false, sym, ◌∙◌, arith}
use Rattle.std.proofs.Math.Dec.{eqb}
use borrow.Author.Tests.{eqb-false, eqb-true, ne_eqb, not-true}
use Rattle.counts.specs.Laws.{less_true}
use Rattle.counts.specs.Round.{ahead, less, width}
use Rattle.counts.specs.Sized.{Sized}
use Rattle.pins.specs.declared.record.Pins.{Pins}
use Rattle.sides.specs.declared.read.Mode.{Mode}
use Rattle.sides.specs.declared.read.Mode.TheVariants.{Standard, Fwft}
use Rattle.sides.specs.declared.read.ReadSide.{ReadSide}
use Rattle.sides.specs.declared.write.WriteSide.{WriteSide}
use Rattle.sides.specs.Clocks.{read_rises}
use Rattle.sides.specs.DeliveryLaws.{all_delivered, unseen_by}
use Rattle.sides.specs.Read.{delivers, delivers_by, reads, ready, ready_by, sees_word}
use Rattle.sides.specs.Tracks.{Tracks, Owes}
use Rattle.sides.specs.Write.{full}
use Rattle.views.specs.declared.retransmit.Setup.{Setup}
use Rattle.views.specs.declared.retransmit.Setup.TheVariants.{Over, OneMore, TwoMore}
use Rattle.views.specs.Retransmit.{is_over}
use Rattle.views.specs.TrueCounts.{Setting, TrueCounts}

-- fewer words than the depth ahead, told round the width
room_by : (depth count second written seen : ℕ) → depth + depth ≤ width → count ≡ written % width → second ≡ seen % width
    → seen ≤ written → written ≤ seen + depth → less width count second ≢ depth → written < seen + depth
room_by depth count second written seen d e f l h apart = omega arith

-- a stage and a count that are equal round the width are equal
met_by : (depth second count seen read : ℕ) → depth + depth ≤ width → second ≡ seen % width → count ≡ read % width
    → read ≤ seen → seen ≤ read + depth → second ≡ count → seen ≡ read
met_by depth second count seen read d e f l h met = omega arith

apart_by : (second count seen read : ℕ) → second ≡ seen % width → count ≡ read % width → read ≤ seen → second ≢ count → read < seen
apart_by second count seen read e f l differ = omega arith

-- the words that the flag must answer for: in Standard those accepted before the third last rise of RCLK, in FWFT before the fourth last
abbrev pub due_by : Mode → TrueCounts → ℕ
due_by Standard t = t.three_ago
due_by (Fwft untaken) t = t.four_ago

over_by : (setup : Setup) (other : Bool) (one_ago two_ago three_ago : ℕ) → Setting setup one_ago two_ago three_ago → 0 < three_ago
    → other ≡ true → is_over setup && other ≡ true
over_by Over other one_ago two_ago three_ago s h e = e
over_by OneMore other one_ago two_ago three_ago s h e = absurd (omega arith)
over_by TwoMore other one_ago two_ago three_ago s h e = absurd (omega arith)

ready_by_lem : (mode : Mode) (seen : Bool) (t : TrueCounts) → (t.read < t.three_ago → seen ≡ true) → Owes mode t.four_ago t.read
    → t.read < due_by mode t → ready_by mode seen ≡ true
ready_by_lem Standard seen t h o l = h l
ready_by_lem (Fwft true) seen t h o l = refl
ready_by_lem (Fwft false) seen t h o l = absurd (omega arith)

module _ (depth : ℕ) (z : Sized depth) (w : WriteSide) (r : ReadSide) (t : TrueCounts) (g : Tracks depth w r t) where
  -- with the test spelt out, for `tracks_on`
  pub room_told : eqb (ahead w.count w.second) depth ≡ false → t.written < t.write_second + depth
  room_told e =
      room_by depth w.count.0 w.second.0 t.written t.write_second z.twice g.written.count g.write_second
      (omega arith) (omega arith) (eqb-false _ _ e)

  pub room_left : full depth w ≡ false → t.written < t.write_second + depth
  unfolding full
  room_left e = room_told e

  met : r.second.0 ≡ r.count.0 → t.read_second ≡ t.read
  met = met_by depth r.second.0 r.count.0 t.read_second t.read z.twice g.read_second g.read (omega arith) (omega arith)

  word_seen : sees_word r ≡ true → t.read < t.read_second
  unfolding sees_word
  word_seen e =
      let same = eqb r.second.0 r.count.0 in
      let differ = not-true same ((and-eq-true_iff (is_over r.setup) (not same)).0 e).1 in
      apart_by r.second.0 r.count.0 t.read_second t.read g.read_second g.read g.ordered.unread (eqb-false _ _ differ)

  word_by : (delivered seen : Bool) → sees_word r ≡ seen → (seen ≡ false → delivered ≡ false) → delivered ≡ true → t.read < t.read_second
  word_by delivered true e none f = word_seen e
  word_by delivered false e none f = absurd (true≢false (sym f ∙ none refl))

  -- with the delivery spelt out, for `tracks_on`
  pub word_told : (may asked : Bool) → delivers_by r.mode (may && sees_word r) (asked && ready_by r.mode (sees_word r)) ≡ true → t.read < t.read_second
  word_told may asked = word_by _ (sees_word r) refl (unseen_by r.mode may asked (sees_word r))

  pub word_left : (p : Pins) → delivers p r ≡ true → t.read < t.read_second
  unfolding delivers reads ready
  word_left p = word_told (read_rises p r && p.rt) (read_rises p r && p.ld && not p.ren && p.rt)

  pub none_owed : sees_word r ≡ false → t.three_ago ≤ t.read
  unfolding sees_word
  none_owed = all_delivered r.setup (eqb r.second.0 r.count.0) t g.setting g.ordered.three_seen (λ same. met (eqb-true _ _ same))

  seen_due : t.read < t.three_ago → sees_word r ≡ true
  unfolding sees_word
  seen_due l =
      over_by r.setup (not (eqb r.second.0 r.count.0)) t.one_ago t.two_ago t.three_ago g.setting (omega arith)
      (simp (ne_eqb r.second.0 r.count.0
      (λ same. omega (arith, met same))))

  pub ready_due : t.read < due_by r.mode t → ready r ≡ true
  unfolding ready
  ready_due = ready_by_lem r.mode (sees_word r) t seen_due g.owes

  -- how far the write count is ahead of a count that it has left at most depth words behind
  pub left_behind : (count : ℕ) (earlier : ℕ) → count ≡ earlier % width → earlier ≤ t.written → t.written ≤ earlier + depth
      → less width w.count.0 count ≡ t.written - earlier
  left_behind count earlier e l h =
      rw (g.written.count, e) (less_true width t.written earlier l (omega arith))
