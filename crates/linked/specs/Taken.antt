-- One part in FWFT: the words taken from it, what it holds, and how the words delivered fall into the two.
use Rattle.std.specs.Prelude.{ℕ, true, cond, List, [], ◌∷◌, ◌++◌, ◌≡◌, None}
use Rattle.chip.specs.State.{words_held}
use Rattle.counts.specs.declared.part.Part.{Part}
use Rattle.counts.specs.Part.{depth_of}
use Rattle.pins.specs.declared.record.Pins.{Pins}
use Rattle.views.specs.declared.retransmit.Setup.TheVariants.{Over}
use Rattle.views.specs.declared.retransmit.View.TheVariants.{Seen}
use Rattle.history.specs.Onlooker.{Notes, Shown, outside, reads, ready}
use Rattle.history.specs.Trace.{Moment, shown_by, words_from}

-- the words taken since the last reset, after a sample that is taken: in FWFT a read takes the word that stood in the output register before it
unfoldable pub taken_after : Notes → Pins → Shown → List ℕ → List ℕ
taken_after b p before taken = cond (outside p) (cond (reads b p before) (taken ++ (before.register ∷ [])) taken) []

-- the untaken output word, if there is one: in FWFT a word that is ready stands in the output register
abbrev pub untaken : Part → Moment → List ℕ
untaken part m = cond (ready m.notes.fwft (shown_by part m.state)) ((shown_by part m.state).register ∷ []) []

-- what a part holds: its untaken output word, then its memory from the read place on
unfoldable pub inside : Part → Moment → List ℕ
inside part m = untaken part m ++ words_from (depth_of part) m.memory m.state.read.count.0 (words_held m.state)

-- a part in FWFT with no retransmit in progress on either side, which shows no offset; of the words delivered all are taken but one that is ready
pub record Plain (part : Part) (m : Moment) (taken : List ℕ) : Type 0 where
  pub setup : m.state.read.setup ≡ Over
  pub view : m.state.write.view ≡ Seen
  pub shows : m.state.reading.shows ≡ None
  pub fwft : m.notes.fwft ≡ true
  pub split : m.notes.delivered ≡ taken ++ untaken part m
