-- Two parts side by side: what each makes of its record, before either moves.
use Rattle.std.specs.Prelude.{ℕ, List, None}
use Rattle.chip.specs.declared.state.State.{State}
use Rattle.chip.specs.Advance.{advanced}
use Rattle.counts.specs.declared.part.Part.{Part}
use Rattle.fifo.specs.Sample.{fetched_for, record_refusal}
use Rattle.pins.specs.Record.{pins_of}
use Rattle.refusal_kinds.specs.Numbers.{of_number}
use Rattle.halves.specs.declared.state.Halves.{Halves}
use Rattle.halves.specs.declared.tried.Trial.{Trial}
use Rattle.halves.specs.declared.tried.Trials.{Trials}
use Rattle.halves.specs.Two.{Two}

-- nothing made of it yet
abbrev pub asking : Part → ℕ → State → List ℕ → Trial
asking part x s memory = record {
  asked = x;
  fetched = fetched_for part s memory;
  refusal = None;
  advanced = record { state = s; answer = 0; store = None };
}

-- what stands for the part's own number, and what the part gives if the record is taken
unfoldable pub tried : Part → Trial → Trial
tried part t = record {
  asked = t.asked;
  fetched = t.fetched;
  refusal = of_number (record_refusal part t.asked t.advanced.state);
  advanced = advanced part (pins_of t.asked) t.fetched t.advanced.state;
}

-- by the state before the sample, in either part
abbrev pub tried_both : Part → Two ℕ → Halves → Two (List ℕ) → Trials
tried_both part x h memory = record {
  left = tried part (asking part x.left h.left memory.left);
  right = tried part (asking part x.right h.right memory.right);
}
