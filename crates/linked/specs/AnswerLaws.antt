-- Order 4: what a chain answers is what the onlookers at its two ends see after the sample: IR and PAF of the first part, the rest of the last.
use Rattle.std.specs.Prelude.{ℕ, ◌-◌, ◌^◌, ◌<◌, Bool, true, false, not, cond, List, ◌≡◌, refl, eqb, None}
use Rattle.std.proofs.Common.{ap, ◌∙◌, arith}
use Rattle.rows.specs.declared.row.Row.{Row}
use Rattle.rows.specs.Step.{Moving, chain_answer, chain_refusal, chain_stepped, shown_by as lines_at, state_of, took, turned_away}
use Rattle.chip.specs.Answer.{lines_of}
use Rattle.chip.specs.State.{widths}
use Rattle.counts.specs.declared.part.Part.{Part}
use Rattle.fifo.specs.Outcome.{Taken}
use Rattle.fifo.specs.Sample.{is_taken}
use Rattle.links.specs.declared.record.Links.{Links}
use Rattle.links.specs.Wire.{ends_of}
use Rattle.pins.specs.Answer.{given}
use Rattle.pins.specs.declared.record.Pins.{Pins}
use Rattle.pins.specs.Laws.{laid}
use Rattle.pins.specs.Record.{bit, word}
use Rattle.history.specs.Trace.{shown_by}
use Rattle.linked.specs.Chaining.{Chain, chain_next, chain_outcome, chain_takes, moment_of, seen_at}
use Rattle.linked.specs.Linked.{Linked}
use Rattle.linked.specs.LinkedLaws.{linked_next, running_next}
use Rattle.linked.specs.WiringLaws.{register_shown}

pub record AnswersEnds (part : Part) (p : Pins) (row : Row) (answer : ℕ) : Type 0 where
  pub ff : bit 23 answer ≡ (seen_at part row 0).ff
  pub paf : bit 19 answer ≡ (lines_of part false (state_of row 0)).paf
  pub ef : bit 22 answer ≡ (seen_at part row (row.count - 1)).ef
  pub hf : bit 21 answer ≡ (lines_of part false (state_of row (row.count - 1))).hf
  pub pae : bit 20 answer ≡ (lines_of part false (state_of row (row.count - 1))).pae
  pub driven : bit 18 answer ≡ not p.oe
  pub register : p.oe ≡ false → word answer ≡ (seen_at part row (row.count - 1)).register

ends_by : (part : Part) (p : Pins) (row : Row) → let last = state_of row (row.count - 1) in widths part last ≡ true → last.reading.shows ≡ None
    → AnswersEnds part p row (chain_answer part p row)
unfolding chain_answer ends_of lines_of shown_by
ends_by part p row e shows =
    let last = state_of row (row.count - 1) in
    let l = laid (ends_of (lines_at part row 0) (lines_of part p.oe last)) in
    record {
      ff = l.ff;
      paf = l.paf;
      ef = l.ef;
      hf = l.hf;
      pae = l.pae;
      driven = l.driven;
      register = λ low. l.q ∙ ap (λ (oe : Bool). given (not oe) (lines_of part p.oe last).q) low ∙ register_shown part p.oe last e shows;
    }

answer_by : (free : Bool) (part : Part) (p : Pins) (m : Moving) (number : ℕ) (row : Row) (memory : List ℕ) (answer : ℕ)
    → let a = cond free (took part p m) (turned_away number row memory) in
    a.outcome ≡ Taken answer → (is_taken a.outcome ≡ true) × (chain_answer part p a.row ≡ answer)
answer_by true part p m number row memory answer e = (refl, cc)
answer_by false part p m number row memory answer e = let z : ◌≡◌ {A = ℕ} 0 1 = cc in absurd (omega arith)

module _ (part : Part) (n : ℕ) (c : Chain) (h : Linked part n c) (x : Links) (narrow : x.pins.d < 2 ^ 18) (answer : ℕ)
    (e : (chain_outcome part c x).outcome ≡ Taken answer) where
  told : (chain_takes part c x ≡ true) × (chain_answer part x.pins (chain_next part c x).row ≡ answer)
  unfolding chain_takes chain_next chain_outcome chain_stepped
  told = answer_by (eqb (chain_refusal part x c.row) 0) part x.pins _ _ c.row c.memory answer e

  pub answers_ends : AnswersEnds part x.pins (chain_next part c x).row answer
  unfolding moment_of
  answers_ends =
      let after = linked_next part n c h x narrow in
      let many = after.chained.count in
      let i = (chain_next part c x).row.count - 1 in
      let l : i < n = omega (arith, h.some, many) in
      rw (← told.1)
      (ends_by part x.pins (chain_next part c x).row (after.chained.told i l).reached.narrow
      (running_next part n c h x narrow told.0 i l).1.shows)
