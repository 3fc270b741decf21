-- A sample outside reset keeps what holds between the model and the onlooker's notes.
use Rattle.std.specs.Prelude.{ℕ, ◌≤◌, ◌<◌, Bool, true, false, cond, List, [], ◌∷◌, ◌++◌, ◌≡◌, refl, get_or, length, set, take, Option, None, Some}
use Rattle.chip.specs.declared.advance.Put.{Put}
use Rattle.std.proofs.Math.Path.{sym}
use Rattle.std.proofs.Common.{◌∙◌}
use native.Mathlib.Omega.{arith}
use Rattle.chip.specs.declared.state.State.{State}
use Rattle.chip.specs.Advance.{running, stored}
use Rattle.chip.specs.ResetLaws.{is_fwft, stays_fwft}
use Rattle.counts.specs.declared.part.Part.{Part}
use Rattle.counts.specs.Part.{depth_of}
use Rattle.counts.specs.Round.{place_of}
use Rattle.counts.specs.Sized.{part_sized}
use Rattle.fifo.specs.Sample.{fetched_for}
use Rattle.fifo.specs.SampleLaws.{stored_length}
use Rattle.pins.specs.declared.record.Pins.{Pins}
use Rattle.pins.specs.Record.{word}
use Rattle.sides.specs.declared.read.Mode.{Mode}
use Rattle.sides.specs.declared.read.Mode.TheVariants.{Standard, Fwft}
use Rattle.sides.specs.DecisionLaws.{word_left}
use Rattle.sides.specs.Read as read
use Rattle.sides.specs.Read.{mode_after, read_after}
use Rattle.sides.specs.RegisterLaws.{left_by}
use Rattle.sides.specs.Tracks.{next_true, true_after}
use Rattle.sides.specs.Write as write
use Rattle.sides.specs.Write.{write_after}
use Rattle.views.specs.TrueCounts.{TrueCounts}
use Rattle.history.specs.EventLaws.{accepts_told, delivers_told, retransmits_told}
use Rattle.history.specs.KeptLaws.{read_place}
use Rattle.history.specs.Onlooker.{Shown, last_of, outside, went_on}
use Rattle.history.specs.Told.{Agrees, Came, Told}
use Rattle.history.specs.Trace.{Moment, at, shown_by}
use Rattle.history.specs.WordLaws.{delivered_after, holds_after, last_after, length_after, take_after}

stored_by : (one : Bool) (place value : ℕ) (memory : List ℕ) → stored (cond one (Some (record { place = place; word = value })) None) memory ≡ cond one (set memory place value) memory
stored_by true place value memory = refl
stored_by false place value memory = refl

-- the words delivered since a retransmit start over
delivered_by : (back one : Bool) (delivered : List ℕ) (x n : ℕ) → length delivered ≡ n
    → length (cond back [] (cond one (delivered ++ (x ∷ [])) delivered)) ≡ next_true back one n
delivered_by true one delivered x n e = refl
delivered_by false one delivered x n e = length_after one delivered x n e

same_by : (back one : Bool) (accepted delivered : List ℕ) (n x : ℕ) → delivered ≡ take n accepted
    → (one ≡ true → (n < length accepted) × (x ≡ get_or accepted n 0))
    → cond back [] (cond one (delivered ++ (x ∷ [])) delivered) ≡ take (next_true back one n) accepted
same_by true one accepted delivered n x e h = refl
same_by false one accepted delivered n x e h = delivered_after one accepted delivered n x e h

next_bound : (back one : Bool) (n many : ℕ) → n ≤ many → (one ≡ true → n < many) → next_true back one n ≤ many
next_bound true one n many h l = omega arith
next_bound false true n many h l = omega (arith, l refl)
next_bound false false n many h l = h

-- the last word delivered since then, if any, is in the output register
newest_by : (back one : Bool) (delivered : List ℕ) (x kept : ℕ) → (one ≡ false → x ≡ kept) → (0 < length delivered → kept ≡ last_of delivered)
    → let list = cond back [] (cond one (delivered ++ (x ∷ [])) delivered) in 0 < length list → x ≡ last_of list
newest_by true one delivered x kept e h some = absurd (omega arith)
newest_by false true delivered x kept e h some = last_after delivered x
newest_by false false delivered x kept e h some = e refl ∙ h some

-- a word that is untaken came since then too
came_on : (mode : Mode) (back one reads : Bool) (n : ℕ) → Came mode n → Came (mode_after mode back one reads) (next_true back one n)
came_on Standard back one reads n h = tt
came_on (Fwft untaken) true one reads n h = tt
came_on (Fwft untaken) false true reads n h = omega arith
came_on (Fwft true) false false true n h = tt
came_on (Fwft true) false false false n h = h
came_on (Fwft false) false false reads n h = tt

module _ (part : Part) (m : Moment) (t : TrueCounts) (g : Told part m t) (p : Pins) where
  abbrev fetched : ℕ
  fetched = fetched_for part m.state m.memory

  abbrev after : State
  after = running part p fetched m.state

  abbrev before : Shown
  before = shown_by part m.state

  abbrev accepted : Bool
  accepted = write.accepts (depth_of part) p m.state.write

  abbrev delivered : Bool
  delivered = read.delivers p m.state.read

  abbrev back : Bool
  back = read.retransmits p m.state.read

  abbrev place : ℕ
  place = place_of (depth_of part) m.state.write.count.0

  -- a word delivered is the next of those accepted
  word_delivered : delivered ≡ true → (t.read < length m.notes.accepted) × (after.read.output ≡ get_or m.notes.accepted t.read 0)
  unfolding running read_after
  word_delivered e =
      let left = word_left (depth_of part) (part_sized part) m.state.write m.state.read t g.reached.tracks p e in
      let held = g.agrees.holds t.read (omega arith) (omega arith) in
      (omega arith, rw (e, read_place part m t g, held.0) held.1)

  register_kept : delivered ≡ false → after.read.output ≡ m.state.read.output
  unfolding running
  register_kept e = (left_by m.state.offsets.n p fetched m.state.write m.state.read e).output

  -- only a delivery fills the output register
  pub register_after_lem : (one : Bool) → delivered ≡ one → after.read.output ≡ cond one (get_or m.notes.accepted t.read 0) m.state.read.output
  register_after_lem true e = (word_delivered e).1
  register_after_lem false e = register_kept e

  abbrev store : Option Put
  store = cond accepted (Some (record { place = place; word = word p.d })) None

  memory_after_lem : stored store m.memory ≡ cond accepted (set m.memory place (word p.d)) m.memory
  memory_after_lem = stored_by accepted place (word p.d) m.memory

  module _ (away : outside p ≡ true) where
    accepted_list : (went_on m.notes p before (shown_by part after)).accepted
        ≡ cond accepted (m.notes.accepted ++ (word p.d ∷ [])) m.notes.accepted
    unfolding went_on
    accepted_list = rw (accepts_told part m t g.agrees p away)

    delivered_list : (went_on m.notes p before (shown_by part after)).delivered
        ≡ cond back [] (cond delivered (m.notes.delivered ++ (after.read.output ∷ [])) m.notes.delivered)
    unfolding went_on shown_by
    delivered_list =
        rw (
          retransmits_told part m t g.agrees p away,
          delivers_told part m t g.agrees p away fetched,
        )

    levels : ((went_on m.notes p before (shown_by part after)).wclk ≡ after.write.level)
        × ((went_on m.notes p before (shown_by part after)).rclk ≡ after.read.level)
    unfolding went_on running write_after read_after
    levels = (refl, refl)

    mode_kept : (went_on m.notes p before (shown_by part after)).fwft ≡ is_fwft after.read.mode
    unfolding went_on running read_after
    mode_kept = g.agrees.fwft ∙ stays_fwft m.state.read.mode back delivered (read.reads p m.state.read)

    came_after : Came after.read.mode (next_true back delivered t.read)
    unfolding running read_after
    came_after = came_on m.state.read.mode back delivered (read.reads p m.state.read) t.read g.agrees.came

    write_place : place ≡ place_of (depth_of part) (length m.notes.accepted)
    write_place = rw (g.reached.tracks.written.count, g.agrees.written) ((part_sized part).round t.written)

    pub agrees_on : Agrees part (at after (stored store m.memory) (went_on m.notes p before (shown_by part after)))
        (true_after (depth_of part) p m.state.write m.state.read t)
    unfolding true_after
    agrees_on = record {
      whole = stored_length store m.memory ∙ g.agrees.whole;
      wclk = levels.0;
      rclk = levels.1;
      fwft = mode_kept;
      written = rw accepted_list (length_after accepted m.notes.accepted (word p.d) t.written g.agrees.written);
      read = rw delivered_list (delivered_by back delivered m.notes.delivered _ t.read g.agrees.read);
      holds = rw (memory_after_lem, accepted_list)
          (holds_after (depth_of part) m.memory m.notes.accepted (word p.d) (part_sized part).some g.agrees.whole (omega arith)
          g.agrees.holds accepted _ write_place);
      same = rw (delivered_list, accepted_list)
          (same_by back delivered m.notes.accepted m.notes.delivered t.read after.read.output g.agrees.same word_delivered
          ∙ sym (take_after accepted m.notes.accepted (word p.d) (next_true back delivered t.read)
          (next_bound back delivered t.read (length m.notes.accepted) (omega arith) (λ e. (word_delivered e).0))));
      newest = rw delivered_list
          (newest_by back delivered m.notes.delivered after.read.output m.state.read.output register_kept g.agrees.newest);
      came = came_after;
    }
