-- Demand 3: no word lost, doubled or out of order, and a flag that comes in time.
--
-- All of it is said of the model's own definition of one sample, from power-up on: for either part, any words in its memory at
-- power-up, and any samples, of which refused ones are skipped. The words accepted and delivered, the rises of RCLK and the
-- flag are those that an onlooker tells from pins, flags and output register: Onlooker.antt. Trace.antt says how samples and
-- runs lead from moment to moment, Calls.antt how calls from C do.
use Rattle.std.specs.Prelude.{ℕ, ◌≤◌, ◌<◌, Bool, true, false, cond, List, [], ◌∷◌, ◌++◌, ◌≢◌, ◌≡◌, refl, drop, length, take}
use Rattle.std.proofs.Common.{true≢false, sym, ap, subst, ◌∙◌, arith}
use Rattle.std.proofs.lemmas.List.{length-replicate}
use Rattle.refusals.specs.ReachLaws.{reached_passes}
use Rattle.chip.specs.State.{passes, words_held}
use Rattle.counts.specs.declared.part.Part.{Part}
use Rattle.counts.specs.declared.part.Part.TheVariants.{Idt72V255LA}
use Rattle.counts.specs.Part.{depth_of}
use Rattle.runs.specs.declared.run.Ran.{Ran}
use Rattle.fifo.specs.Outcome.{Taken}
use Rattle.runs.specs.Run.{Ended, ran_of}
use Rattle.fifo.specs.Sample.{number_of}
use Rattle.numerals.specs.Bytes.{words_in}
use Rattle.buffers.specs.Memory.{memory_bytes}
use Rattle.spelling.specs.Spelling.{state_bytes}
use Rattle.spelling.specs.ReadBackLaws.{Spelled}
use Rattle.pins.specs.Record.{bit, pins_of, unsettled_in}
use Rattle.pins.specs.Trace.{word_at}
use Rattle.history.specs.AnswerLaws.{answers_taken}
use Rattle.history.specs.Asked.{ShowsWord}
use Rattle.history.specs.CallLaws.{Spells, call_answers, call_not_three, calls_lead, powered_spells, words_deep}
use Rattle.history.specs.Calls.{Asked, Buffers, call_all, call_of, is_sample, powered_on, samples_of}
use Rattle.history.specs.KeptLaws.{delivered_ready, depth_at_most, first_delivered, register_last, remainder_in_memory}
use Rattle.history.specs.LedLaws.{outcome_not_three, told_after}
use Rattle.history.specs.Onlooker.{last_of, tells_ready}
use Rattle.history.specs.RunAnswerLaws.{run_answers}
use Rattle.history.specs.RunLaws.{led_parts, run_led, run_not_three}
use Rattle.history.specs.Tight.{fwft_reset, late_fwft, late_standard, risen_thrice, risen_twice, standard_reset, watched, word_written, zeros}
use Rattle.history.specs.TakenLaws.{accepted_settled}
use Rattle.history.specs.TimeLaws.{aged_shown}
use Rattle.history.specs.Trace.{Answers, Moment, accepts_word, answer_at, at, led, next, outcome, power_up, rclk_rises_in, run_from, shown_by, takes, undisturbed, words_from, worked_at, worked_on}

-- What is true at a moment.
pub record Kept (part : Part) (m : Moment) : Type 0 where
  -- the words delivered are the first of the words accepted
  pub same_words : m.notes.delivered ≡ take (length m.notes.delivered) m.notes.accepted
  -- the remainder of the words accepted is, in order, what memory holds from the read place on, as many words as the write
  -- count is ahead of the read count
  pub remainder : drop (length m.notes.delivered) m.notes.accepted
      ≡ words_from (depth_of part) m.memory m.state.read.count.0 (words_held m.state)
  pub never_over : words_held m.state ≤ depth_of part
  -- the output register holds the last of the words delivered, if any was since the last reset or a later retransmit; in FWFT one was while OR is LOW
  pub register : 0 < length m.notes.delivered → (shown_by part m.state).register ≡ last_of m.notes.delivered
  pub while_low : m.notes.fwft ≡ true → (shown_by part m.state).ef ≡ false → 0 < length m.notes.delivered
  -- the state passes the test of 3, which a run makes only at its start, and no sample that comes next is refused 3
  pub passes_test : passes part m.state ≡ true
  pub never_three : (x : ℕ) → number_of (outcome part m x).sampled.outcome ≢ 3

-- A word accepted in a sample and waiting: since then neither reset nor retransmit, RCLK has risen so often, in Standard or in FWFT,
-- and the word is not delivered. Its number is that of the words accepted before it.
pub record Waiting (standard fwft : ℕ) (part : Part) (before : Moment) (x : ℕ) (later : List ℕ) : Type 0 where
  pub accepted : accepts_word part before x ≡ true
  pub calm : undisturbed part (next part before x) later ≡ true
  pub risen : cond (led part (next part before x) later).notes.fwft fwft standard ≤ rclk_rises_in part (next part before x) later
  pub undelivered : length (led part (next part before x) later).notes.delivered ≤ length before.notes.accepted

-- After each sample for as long as a word waits, the flag shows one ready.
abbrev pub InTime : ℕ → ℕ → Type 0
InTime standard fwft =
    (part : Part) (memory : List ℕ) → length memory ≡ depth_of part → (earlier : List ℕ) (x : ℕ) (later : List ℕ)
    → Waiting standard fwft part (led part (power_up memory) earlier) x later
    → ShowsWord part (led part (next part (led part (power_up memory) earlier) x) later)

-- Single samples.
pub kept : (part : Part) (memory : List ℕ) → length memory ≡ depth_of part → (samples : List ℕ) → Kept part (led part (power_up memory) samples)
kept part memory whole samples =
    let told = told_after part memory whole samples in
    record {
      same_words = first_delivered part _ _ told;
      remainder = remainder_in_memory part _ _ told;
      never_over = depth_at_most part _ _ told;
      register = register_last part _ _ told;
      while_low = delivered_ready part _ _ told;
      passes_test = reached_passes part _ _ told.reached;
      never_three = outcome_not_three part _ _ told;
    }

-- Data that had not settled is never among the words accepted (paper 02, order 2), so that all of this is said of known words.
pub at_rest : (part : Part) (memory : List ℕ) → length memory ≡ depth_of part → (samples : List ℕ) (x : ℕ)
    → accepts_word part (led part (power_up memory) samples) x ≡ true → unsettled_in x ≡ false
at_rest part memory whole samples = accepted_settled part (led part (power_up memory) samples) _ (told_after part memory whole samples)

waiting_shown : (part : Part) (memory : List ℕ) → length memory ≡ depth_of part → (earlier : List ℕ) (x : ℕ) (later : List ℕ)
    → Waiting 3 4 part (led part (power_up memory) earlier) x later
    → ShowsWord part (led part (next part (led part (power_up memory) earlier) x) later)
waiting_shown part memory whole earlier x later w =
    aged_shown part (led part (power_up memory) earlier) _ x later (told_after part memory whole earlier)
    w.accepted w.calm w.risen w.undelivered

-- The third rise of RCLK in Standard, the fourth in FWFT.
pub in_time_lem : InTime 3 4
in_time_lem part memory whole earlier x later w = waiting_shown part memory whole earlier x later w

-- The answer to a sample `y` that comes after others tells it: for any word among theirs that still waits after `y`, the bit of
-- EF and OR shows one ready.
abbrev pub TellsInTime : Part → List ℕ → List ℕ → ℕ → ℕ → Type 0
TellsInTime part memory samples y answer =
    (earlier : List ℕ) (x : ℕ) (later : List ℕ) → samples ≡ earlier ++ (x ∷ later)
    → Waiting 3 4 part (led part (power_up memory) earlier) x (later ++ (y ∷ []))
    → tells_ready (next part (led part (power_up memory) samples) y).notes.fwft (bit 22 answer) ≡ true

tells_by : (part : Part) (memory : List ℕ) → length memory ≡ depth_of part → (samples : List ℕ) (y answer : ℕ)
    → Answers part (pins_of y) (next part (led part (power_up memory) samples) y).state answer → TellsInTime part memory samples y answer
unfolding led
tells_by part memory whole samples y answer given earlier x later e w =
    let start = led part (power_up memory) earlier in
    let there : led part (next part start x) (later ++ (y ∷ [])) ≡ next part (led part (power_up memory) samples) y =
    led_parts part later (y ∷ []) (next part start x)
    ∙ ap (λ (m : Moment). next part m y) (sym (ap (led part (power_up memory)) e ∙ led_parts part earlier (x ∷ later) (power_up memory))) in
    rw given.ef (subst (ShowsWord part) there (waiting_shown part memory whole earlier x (later ++ (y ∷ [])) w))

-- What a taken sample is answered is what the onlooker sees after it, and tells in time.
module _ (part : Part) (memory : List ℕ) (whole : length memory ≡ depth_of part) (samples : List ℕ) (y answer : ℕ)
    (taken : (outcome part (led part (power_up memory) samples) y).sampled.outcome ≡ Taken answer) where
  pub answered : Answers part (pins_of y) (next part (led part (power_up memory) samples) y).state answer
  answered = answers_taken part (led part (power_up memory) samples) _ (told_after part memory whole samples) y answer taken

  pub answer_in_time : TellsInTime part memory samples y answer
  answer_in_time = tells_by part memory whole samples y answer answered

-- And no rise sooner: each time a trace of part 255 shows it.
too_few : (standard fwft : ℕ) (earlier later : List ℕ) → (watched earlier later).accepted ≡ true → (watched earlier later).calm ≡ true
    → cond (watched earlier later).fwft fwft standard ≤ (watched earlier later).rises → (watched earlier later).delivered ≤ (watched earlier later).earlier
    → (watched earlier later).shown ≡ false → InTime standard fwft → ⊥
unfolding watched zeros
too_few standard fwft earlier later accepted calm risen undelivered shown soon =
    true≢false (sym (soon Idt72V255LA zeros (length-replicate {A = ℕ} 8192 0) earlier word_written later
    (record { accepted = accepted; calm = calm; risen = risen; undelivered = undelivered })) ∙ shown)

pub not_at_second : InTime 2 4 → ⊥
not_at_second =
    let e = late_standard in
    too_few 2 4 standard_reset risen_twice (rw e refl) (rw e refl) (rw e (omega arith)) (rw e (omega arith)) (rw e refl)

pub not_at_third : InTime 3 3 → ⊥
not_at_third =
    let e = late_fwft in
    too_few 3 3 fwft_reset risen_thrice (rw e refl) (rw e refl) (rw e (omega arith)) (rw e (omega arith)) (rw e refl)

-- A run over a trace's bytes, strict or lenient, that goes on from any such moment: `r`, `left` and `written` are the result, the
-- memory and the room for answers that `run` and `run_lenient` promise to hand back. The run leads where the records that it
-- worked lead one by one, and so the same is true of it.
module _ (part : Part) (memory : List ℕ) (whole : length memory ≡ depth_of part) where
  pub in_time_through : (samples earlier : List ℕ) (x : ℕ) (later : List ℕ) → samples ≡ earlier ++ (x ∷ later)
      → Waiting 3 4 part (led part (power_up memory) earlier) x later
      → ShowsWord part (led part (power_up memory) samples)
  unfolding led
  in_time_through samples earlier x later e w =
      rw (e, led_parts part earlier (x ∷ later) (power_up memory)) (waiting_shown part memory whole earlier x later w)

  module _ (samples : List ℕ) (lenient : Bool) (bytes answers marks : List ℕ) where
    abbrev start : Moment
    start = led part (power_up memory) samples

    abbrev run : Ended
    run = run_from part start lenient bytes answers marks

    module _ (r : Ran) (left written : List ℕ) (result : r ≡ ran_of run) (words : left ≡ run.progress.memory) (room : written ≡ run.progress.answers) where
      abbrev worked : List ℕ
      worked = samples ++ worked_on r.index bytes

      abbrev end : Moment
      end = at r.state left (led part (power_up memory) worked).notes

      pub run_leads : end ≡ led part (power_up memory) worked
      run_leads =
          rw (led_parts part samples (worked_on r.index bytes) (power_up memory), result, words)
          (run_led part start _ (told_after part memory whole samples) lenient bytes answers marks)

      pub run_kept : Kept part end
      run_kept = subst (Kept part) (sym run_leads) (kept part memory whole worked)

      -- it is not itself refused 3
      pub run_never_three : r.refusal ≢ 3
      run_never_three = rw result (run_not_three part start _ (told_after part memory whole samples) lenient bytes answers marks)

      -- the state that it hands back is in time,
      pub run_ends_in_time : (earlier : List ℕ) (x : ℕ) (later : List ℕ) → worked ≡ earlier ++ (x ∷ later)
          → Waiting 3 4 part (led part (power_up memory) earlier) x later → ShowsWord part end
      run_ends_in_time earlier x later e w =
          subst (ShowsWord part) (sym run_leads) (in_time_through worked earlier x later e w)

      -- and for each record before its end that is taken, what it wrote is that sample's answer, which tells in time
      module _ (i : ℕ) (past : i < r.index) where
        abbrev before : List ℕ
        before = samples ++ worked_on i bytes

        module _ (taken : takes part (led part (power_up memory) before) (worked_at i bytes) ≡ true) where
          pub run_answered : Answers part (pins_of (worked_at i bytes)) (next part (led part (power_up memory) before) (worked_at i bytes)).state (answer_at i written)
          run_answered =
              let parts = led_parts part samples (worked_on i bytes) (power_up memory) in
              rw (room, parts)
              (run_answers part start _ (told_after part memory whole samples) lenient bytes answers marks i (subst (λ (q : Ran). i < q.index) result past)
              (subst (λ (m : Moment). takes part m (worked_at i bytes) ≡ true) parts taken))

          pub run_in_time : TellsInTime part memory before (worked_at i bytes) (answer_at i written)
          run_in_time = tells_by part memory whole before (worked_at i bytes) (answer_at i written) run_answered

-- Calls from C on buffers that `fifo_power_up` has set up: state and memory spell the moment that the calls' records lead to, where
-- the same is true; the room of a call that is taken holds the answer of its sample; and no call is refused 3.
module _ (part : Part) (state memory : List ℕ) (room : length state ≡ state_bytes) (whole : length memory ≡ memory_bytes part) (calls : List Asked) where
  abbrev there : Moment
  there = led part (power_up (words_in memory)) (samples_of calls)

  abbrev buffers : Buffers
  buffers = call_all part (powered_on state memory) calls

  calls_spell : Spells part buffers there
  calls_spell = calls_lead part calls (powered_on state memory) (power_up (words_in memory)) (powered_spells part state memory room whole)

  pub call_leads : Spelled buffers.state there.state × (words_in buffers.memory ≡ there.memory)
  call_leads = (calls_spell.spells, calls_spell.words)

  pub call_kept : Kept part there
  call_kept = kept part (words_in memory) (words_deep part memory whole) (samples_of calls)

  pub call_in_time : (earlier : List ℕ) (x : ℕ) (later : List ℕ) → samples_of calls ≡ earlier ++ (x ∷ later)
      → Waiting 3 4 part (led part (power_up (words_in memory)) earlier) x later → ShowsWord part there
  call_in_time = in_time_through part (words_in memory) (words_deep part memory whole) (samples_of calls)

  module _ (a : Asked) (is : is_sample a ≡ true) (taken : (call_of part buffers a).code ≡ 0) where
    pub call_answered : let y = word_at a.bytes 0 in Answers part (pins_of y) (next part there y).state (answer_at 0 (call_of part buffers a).answer)
    call_answered =
        call_answers part buffers a there calls_spell is _ (told_after part (words_in memory) (words_deep part memory whole) (samples_of calls)) taken

    pub call_answer_in_time : TellsInTime part (words_in memory) (samples_of calls) (word_at a.bytes 0) (answer_at 0 (call_of part buffers a).answer)
    call_answer_in_time = tells_by part (words_in memory) (words_deep part memory whole) (samples_of calls) (word_at a.bytes 0) _ call_answered

  pub call_never_three : (a : Asked) → (call_of part buffers a).code ≢ 3
  call_never_three a = call_not_three part buffers a there calls_spell call_kept.passes_test
