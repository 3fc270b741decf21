-- Data that had not settled, paper 02, order 2: what a sample that is taken leaves, shows and stores does not depend on the mark.
use Rattle.std.specs.Prelude.{ℕ, Bool, ◌≡◌, refl}
use Rattle.counts.specs.declared.part.Part.{Part}
use Rattle.offsets.specs.declared.registers.Method.{Method}
use Rattle.offsets.specs.declared.registers.Method.TheVariants.{Parallel, Serial}
use Rattle.offsets.specs.declared.registers.Offsets.{Offsets}
use Rattle.offsets.specs.Loading.{loaded_by, offsets_after}
use Rattle.offsets.specs.Reading.{reading_after}
use Rattle.pins.specs.declared.record.Pins.{Pins}
use Rattle.pins.specs.Record.{settled}
use Rattle.sides.specs.Clocks.{read_rises, write_rises}
use Rattle.sides.specs.Read.{delivers, read_after, read_count_after, reads, retransmits, second_after_read}
use Rattle.sides.specs.Write.{accepts, second_after_write, takes_after, write_after, write_count_after}
use Rattle.chip.specs.declared.state.State.{State}
use Rattle.chip.specs.Advance.{advanced, running, state_after, store_of}
use Rattle.chip.specs.Answer.{answer_of}
use Rattle.chip.specs.Enables.{enables_after, last_fall_clean}
use Rattle.chip.specs.Reset.{master_reset, partial_reset}

loaded_alike : (method : Method) (part : Part) (p : Pins) (o : Offsets) → loaded_by method part (settled p) o ≡ loaded_by method part p o
unfolding loaded_by
loaded_alike Parallel part p o = refl
loaded_alike Serial part p o = refl

offsets_alike : (part : Part) (p : Pins) (rises : Bool) (o : Offsets) → offsets_after part (settled p) rises o ≡ offsets_after part p rises o
unfolding offsets_after
offsets_alike part p rises o = rw (loaded_alike o.method part p o) refl

pub mark_unseen : (part : Part) (p : Pins) (fetched : ℕ) (s : State) → advanced part (settled p) fetched s ≡ advanced part p fetched s
unfolding accepts advanced answer_of delivers enables_after last_fall_clean master_reset partial_reset read_after read_count_after read_rises reading_after reads retransmits running second_after_read second_after_write state_after store_of takes_after write_after write_count_after write_rises
mark_unseen part p fetched s = rw (offsets_alike part p (write_rises p s.write) s.offsets) refl
