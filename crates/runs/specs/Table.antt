-- Bench figures: the ten lines of the listing, and both sides of the limits of HF and PAE. What is turned away: 3, judged once.
use Rattle.std.specs.Prelude.{ℕ, ◌+◌, ◌*◌, ◌^◌, true, false, List, [], ◌∷◌, ◌++◌, ◌≡◌, refl, replicate, Some}
use Rattle.chip.specs.declared.state.State.{State}
use Rattle.chip.specs.Advance.{advanced, running, state_after, store_of}
use Rattle.chip.specs.Answer.{answer_of, lines_of}
use Rattle.chip.specs.Enables.{enables_after, last_fall_clean}
use Rattle.refusals.specs.Refuse.{refusal_of, refuses_eight, refuses_nine, refuses_seven, refuses_six, refuses_ten, refuses_twelve}
use Rattle.chip.specs.Reset.{cleared, master_reset, partial_reset, powered_up}
use Rattle.chip.specs.State.{in_reach, passes, widths}
use Rattle.counts.specs.declared.part.Part.TheVariants.{Idt72V255LA}
use Rattle.counts.specs.Part.{depth_of}
use Rattle.offsets.specs.Loading.{load_parallel, load_serial, loaded_by, offsets_after, with_bit}
use Rattle.offsets.specs.Reading.{read_next, reading_after}
use Rattle.offsets.specs.Registers.{defaults, fit}
use Rattle.pins.specs.Trace.{items_from, record_at, word_at}
use Rattle.sides.specs.Clocks.{read_rises, write_rises}
use Rattle.sides.specs.Read.{delivers, read_after, read_count_after, reads, ready, retransmits, second_after_read, sees_word}
use Rattle.sides.specs.Write.{accepts, full, second_after_write, takes_after, write_after, write_count_after}
use Rattle.views.specs.declared.retransmit.View.TheVariants.{Seen}
use Rattle.views.specs.Flags.{hf_low, pae_low}
use Rattle.notes.specs.Fold.{begun, folded, started}
use Rattle.runs.specs.Run.{Ended, run_of, worked}
use Rattle.pins.specs.Answer.{packed, put_answer}
use Rattle.fifo.specs.Sample.{record_refusal, stepped, taken}

unfoldable pub listing : List ℕ
listing =
    0x4D ∷ 0x98 ∷ 0x00 ∷ 0x00 ∷ 0xC7 ∷ 0x98 ∷ 0x00 ∷ 0x41 ∷ 0xE7 ∷ 0x98 ∷ 0x00 ∷ 0x41
    ∷ 0xCF ∷ 0x98 ∷ 0x00 ∷ 0x00 ∷ 0xDF ∷ 0x98 ∷ 0x00 ∷ 0x00 ∷ 0xCF ∷ 0x98 ∷ 0x00 ∷ 0x00
    ∷ 0xDF ∷ 0x98 ∷ 0x00 ∷ 0x00 ∷ 0xCB ∷ 0x98 ∷ 0x00 ∷ 0x00 ∷ 0xDB ∷ 0x98 ∷ 0x00 ∷ 0x00 ∷ []

-- the answers in a room, three bytes each
unfoldable pub threes : List ℕ → List ℕ
threes [] = []
threes (a ∷ []) = []
threes (a ∷ b ∷ []) = []
threes (a ∷ b ∷ c ∷ room) = (a * 2 ^ 16 + b * 2 ^ 8 + c) ∷ threes room

-- what the trace program would print: the answers, the records accepted, and the refusal
pub record Printed : Type 0 where
  pub answers : List ℕ
  pub accepted : ℕ
  pub refusal : ℕ

unfoldable pub printed : Ended → Printed
printed e = record { answers = threes e.progress.answers; accepted = e.progress.accepted; refusal = e.refusal }

-- a strict run of part 255 from a state, with a memory of zeros and room for nine answers
unfoldable pub ran_here : List ℕ → State → Ended
unfolding accepts advanced answer_of begun cleared defaults delivers enables_after fit folded full in_reach last_fall_clean lines_of load_parallel load_serial loaded_by master_reset offsets_after packed partial_reset passes powered_up put_answer read_after read_count_after read_next read_rises reading_after reads ready record_at record_refusal items_from refusal_of refuses_eight refuses_nine refuses_seven refuses_six refuses_ten refuses_twelve retransmits run_of running second_after_read second_after_write sees_word state_after stepped store_of taken takes_after widths with_bit word_at worked write_after write_count_after write_rises
ran_here bytes s = run_of false 255 bytes (started s (replicate 8192 0) (replicate 27 0) [])

pub table :
    (printed (ran_here listing powered_up)
    ≡ record {
      answers = 0xAC0000 ∷ 0xAC0000 ∷ 0xAC0000 ∷ 0xAC0000 ∷ 0xAC0000 ∷ 0xAC0000 ∷ 0xEC0000 ∷ 0xEC0000 ∷ 0xAC0041 ∷ [];
      accepted = 9;
      refusal = 0;
    })
    × (hf_low (depth_of Idt72V255LA) 4096 ≡ false)
    × (hf_low (depth_of Idt72V255LA) 4097 ≡ true)
    × (pae_low 127 127 ≡ true)
    × (pae_low 127 128 ≡ false)
unfolding printed threes listing ran_here
table = (refl, refl, refl, refl, refl)

-- a state that passes 3, though no trace reaches it: the write side remembers a rise of RCLK that found a read count ahead of the write count
unfoldable pub odd : State
odd = record {
  started = true;
  write = record {
    level = false;
    count = record { 0 = 0 };
    wrapped = false;
    first = record { 0 = 0 };
    second = record { 0 = 0 };
    latest = Some (record { 0 = 1 });
    view = Seen;
    paf = true;
  };
  read = powered_up.read;
  offsets = powered_up.offsets;
  reading = powered_up.reading;
  enables = powered_up.enables;
}

-- a rise of WCLK that asks for nothing, with the skew missed; then WCLK LOW
unfoldable pub missed : List ℕ
missed = 0xFF ∷ 0x88 ∷ 0x00 ∷ 0x00 ∷ []

unfoldable pub low : List ℕ
low = 0xDF ∷ 0x88 ∷ 0x00 ∷ 0x00 ∷ []

-- What is turned away: a run judges 3 at its start and never again
pub judged_once :
    ((ran_here [] odd).refusal ≡ 0)
    × ((ran_here missed odd).index ≡ 1)
    × ((ran_here (missed ++ low) odd).index ≡ 2)
    × ((ran_here (missed ++ low) odd).refusal ≡ 0)
    × ((ran_here low (ran_here missed odd).progress.state).refusal ≡ 3)
unfolding ran_here odd missed low
judged_once = (refl, refl, refl, refl, refl)
