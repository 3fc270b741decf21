-- Two traces in which the first rise of RCLK after a write misses the skew: one rise fewer than promised is too few.
use Rattle.std.specs.Prelude.{ℕ, Bool, true, false, List, [], ◌∷◌, ◌≡◌, refl, length, replicate}
use Rattle.chip.specs.Advance.{advanced, running, state_after, store_of}
use Rattle.chip.specs.Answer.{answer_of, lines_of}
use Rattle.chip.specs.Enables.{enables_after, last_fall_clean}
use Rattle.refusals.specs.Refuse.{refusal_of, refuses_eight, refuses_nine, refuses_seven, refuses_six, refuses_ten, refuses_twelve}
use Rattle.chip.specs.Reset.{cleared, master_reset, partial_reset, powered_up}
use Rattle.chip.specs.State.{in_reach, passes, widths}
use Rattle.counts.specs.declared.part.Part.TheVariants.{Idt72V255LA}
use Rattle.fifo.specs.Sample.{record_refusal, sampled, stepped, taken}
use Rattle.offsets.specs.Loading.{load_parallel, load_serial, loaded_by, offsets_after, with_bit}
use Rattle.offsets.specs.Reading.{read_next, reading_after}
use Rattle.offsets.specs.Registers.{defaults, fit}
use Rattle.pins.specs.Answer.{packed}
use Rattle.sides.specs.Clocks as clocks
use Rattle.sides.specs.Read as read
use Rattle.sides.specs.Write as write
use Rattle.history.specs.Onlooker.{accepts, delivers, noted, reads, ready, retransmits, went_on}
use Rattle.history.specs.Trace.{Moment, accepts_word, led, next, outcome, power_up, rclk_rises_in, shown_by, takes, undisturbed}

unfoldable pub zeros : List ℕ
zeros = replicate 8192 0

-- Where a sample leads part 255. With this unfolded all that it is worked by computes, but for whether the part is full,
unfoldable pub worked : Moment → ℕ → Moment
unfolding accepts advanced answer_of cleared clocks.read_rises clocks.write_rises defaults delivers enables_after fit in_reach last_fall_clean lines_of load_parallel load_serial loaded_by master_reset next noted offsets_after outcome packed partial_reset passes read.delivers read.read_after read.read_count_after read.reads read.ready read.retransmits read.second_after_read read.sees_word read_next reading_after reads record_refusal refusal_of refuses_eight refuses_nine refuses_seven refuses_six refuses_ten refuses_twelve retransmits running sampled shown_by state_after stepped store_of taken takes went_on widths with_bit write.accepts write.second_after_write write.takes_after write.write_after write.write_count_after
worked = next Idt72V255LA

-- and with this a trace from power-up.
unfoldable pub tried : List ℕ → Moment
unfolding worked led power_up powered_up write.full zeros
tried = led Idt72V255LA (power_up zeros)

-- Master Reset into Standard, and into FWFT
unfoldable pub standard_reset : List ℕ
standard_reset = 0x4D980000 ∷ []

unfoldable pub fwft_reset : List ℕ
fwft_reset = 0x4DD80000 ∷ []

-- a rise of WCLK that writes a word
unfoldable pub word_written : ℕ
word_written = 0xE7980041

-- a rise of RCLK with the read skew missed, and rises with it met
unfoldable pub risen_twice : List ℕ
risen_twice = 0xFF900000 ∷ 0xEF980000 ∷ 0xFF980000 ∷ []

unfoldable pub risen_thrice : List ℕ
risen_thrice = 0xFF900000 ∷ 0xEF980000 ∷ 0xFF980000 ∷ 0xEF980000 ∷ 0xFF980000 ∷ []

-- what an onlooker has of such a trace: whether the word is accepted, whether the rest is undisturbed, the rises, the words accepted
-- before, the words delivered, the mode, and the flag
pub record Watched : Type 0 where
  pub accepted : Bool
  pub calm : Bool
  pub rises : ℕ
  pub earlier : ℕ
  pub delivered : ℕ
  pub fwft : Bool
  pub shown : Bool

unfoldable pub watched : List ℕ → List ℕ → Watched
unfolding tried accepts_word rclk_rises_in undisturbed word_written
watched earlier later =
    let before = tried earlier in
    let word = next Idt72V255LA before word_written in
    let after = led Idt72V255LA word later in
    record {
      accepted = accepts_word Idt72V255LA before word_written;
      calm = undisturbed Idt72V255LA word later;
      rises = rclk_rises_in Idt72V255LA word later;
      earlier = length before.notes.accepted;
      delivered = length after.notes.delivered;
      fwft = after.notes.fwft;
      shown = ready after.notes.fwft (shown_by Idt72V255LA after.state);
    }

pub late_standard : watched standard_reset risen_twice
    ≡ record { accepted = true; calm = true; rises = 2; earlier = 0; delivered = 0; fwft = false; shown = false }
unfolding watched standard_reset risen_twice
late_standard = refl

pub late_fwft : watched fwft_reset risen_thrice
    ≡ record { accepted = true; calm = true; rises = 3; earlier = 0; delivered = 0; fwft = true; shown = false }
unfolding watched fwft_reset risen_thrice
late_fwft = refl
