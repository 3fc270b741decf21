-- Order 4, in a trace of two parts 255: a word written to the first is handed over at the fourth rise of the transfer clock, and not at the third. So
-- transfers do happen, and there is something to be told of them.
use Rattle.std.specs.Prelude.{ℕ, List, [], ◌∷◌, ◌≡◌, refl, replicate}
use Rattle.rows.specs.Row.{empty_row, with_state}
use Rattle.rows.specs.Step.{chain_refusal, chain_stepped, judged_to, moved_part, moved_to, all_to, wired_to}
use Rattle.chip.specs.Reset.{powered_up}
use Rattle.counts.specs.declared.part.Part.TheVariants.{Idt72V255LA as part255}
use Rattle.links.specs.declared.record.Links.{Links}
use Rattle.links.specs.Record.{links_of}
use Rattle.links.specs.Refuse.{fourteen, least, whole_refusal}
use Rattle.links.specs.Wire.{wired}
use Rattle.history.specs.Tight.{worked}
use Rattle.sides.specs.Write.{full}
use Rattle.linked.specs.Chaining.{chain_led, chain_next, chain_outcome, powered_row}
use Rattle.linked.specs.Taken.{taken_after}

-- Master Reset into FWFT with all clocks LOW, a write, and the transfer clock HIGH and LOW, every mark 1
abbrev reset : Links
reset = links_of 0x4DD80000 0xFFFF

abbrev write : Links
write = links_of 0xE7980041 0xFFFF

abbrev up : Links
up = links_of 0xEF980000 0x80FFFF

abbrev down : Links
down = links_of 0xEF980000 0xFFFF

-- the words accepted by the first part, those taken from it, those accepted by the second, and those taken from that
pub record Words : Type 0 where
  pub accepted : List ℕ
  pub given : List ℕ
  pub had : List ℕ
  pub taken : List ℕ

unfoldable pub words_after : List Links → Words
unfolding chain_led chain_next chain_outcome chain_refusal chain_stepped empty_row fourteen full judged_to least moved_part moved_to powered_row powered_up all_to taken_after whole_refusal wired wired_to with_state worked
words_after samples =
    let c = chain_led part255 (powered_row 2 (replicate 16384 0)) samples in
    record { accepted = (c.notes 0).accepted; given = c.taken 0; had = (c.notes 1).accepted; taken = c.taken 1 }

pub not_at_third : words_after (reset ∷ write ∷ up ∷ down ∷ up ∷ down ∷ up ∷ []) ≡ record { accepted = 65 ∷ []; given = []; had = []; taken = [] }
unfolding words_after
not_at_third = refl

pub at_fourth : words_after (reset ∷ write ∷ up ∷ down ∷ up ∷ down ∷ up ∷ down ∷ up ∷ [])
    ≡ record { accepted = 65 ∷ []; given = 65 ∷ []; had = 65 ∷ []; taken = [] }
unfolding words_after
at_fourth = refl
