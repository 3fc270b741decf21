-- One accepted sample: the next state, the answer, and what to store.
use Rattle.std.specs.Prelude.{ℕ, cond, ◌&&◌, List, ◌≡◌, set, Option, Some, None}
use Rattle.chip.specs.declared.advance.Put.{Put}
use Rattle.counts.specs.declared.part.Part.{Part}
use Rattle.counts.specs.Part.{depth_of}
use Rattle.counts.specs.Round.{place_of}
use Rattle.offsets.specs.Loading.{offsets_after}
use Rattle.offsets.specs.Reading.{reading_after}
use Rattle.pins.specs.declared.record.Pins.{Pins}
use Rattle.pins.specs.Record.{word}
use Rattle.sides.specs.Clocks.{read_rises, write_rises}
use Rattle.sides.specs.Read.{read_after}
use Rattle.sides.specs.Write.{accepts, write_after}
use Rattle.chip.specs.declared.advance.Advanced.{Advanced}
use Rattle.chip.specs.declared.state.State.{State}
use Rattle.chip.specs.Answer.{answer_of}
use Rattle.chip.specs.Enables.{enables_after}
use Rattle.chip.specs.Reset.{master_reset, partial_reset}

-- outside reset: all from the state before the sample, offsets included
unfoldable pub running : Part → Pins → ℕ → State → State
running part p fetched s = record {
  started = s.started;
  write = write_after (depth_of part) s.offsets.m p s.read s.write;
  read = read_after s.offsets.n p fetched s.write s.read;
  offsets = offsets_after part p (write_rises p s.write) s.offsets;
  reading = reading_after p (read_rises p s.read) s.offsets s.reading;
  enables = enables_after p s.enables;
}

-- by the two reset pins, of which MRS decides first
unfoldable pub state_after : Part → Pins → ℕ → State → State
state_after part p fetched s = cond p.mrs (cond p.prs (running part p fetched s) (partial_reset p s)) (master_reset p s)

-- only an accepted word is stored, and none in a reset
unfoldable pub store_of : Part → Pins → State → Option Put
store_of part p s = cond (p.mrs && p.prs && accepts (depth_of part) p s.write)
    (Some (record { place = place_of (depth_of part) s.write.count.0; word = word p.d })) None

-- the memory's words after it did what was asked
abbrev pub stored : Option Put → List ℕ → List ℕ
stored None memory = memory
stored (Some put) memory = set memory put.place put.word

unfoldable pub memory_after : Part → Pins → State → List ℕ → List ℕ
memory_after part p s = stored (store_of part p s)

unfoldable pub advanced : Part → Pins → ℕ → State → Advanced
advanced part p fetched s = record {
  state = state_after part p fetched s;
  answer = answer_of part p (state_after part p fetched s);
  store = store_of part p s;
}

abbrev pub Advances : Part → Pins → ℕ → State → Advanced → Type 0
Advances part p fetched s r = r ≡ advanced part p fetched s
