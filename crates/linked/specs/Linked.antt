-- Order 4: what holds between the parts of a chain from power-up on, and what it gives in a sample that is taken: a transfer happens in both parts or
-- in neither.
use Rattle.std.specs.Prelude.{ℕ, suc, ◌^◌, ◌≤◌, ◌<◌, Bool, ◌&&◌, [], ◌⊎◌, ◌≡◌}
use Rattle.std.proofs.Math.Bool.{true, false, true≢false}
use Rattle.std.proofs.Common.{⊎_elim, ◌∙◌, arith}
use Rattle.std.proofs.Math.Path.{refl, sym, ap}
use Rattle.rows.specs.Step.{started_to, state_of, wired_to}
use Rattle.chip.specs.declared.state.State.{State}
use Rattle.chip.specs.Reset.{cleared, powered_up}
use Rattle.counts.specs.declared.part.Part.{Part}
use Rattle.links.specs.declared.record.Links.{Links}
use Rattle.links.specs.Wire.{wired}
use Rattle.pins.specs.declared.record.Pins.{Pins}
use Rattle.pins.specs.Record.{word}
use Rattle.history.specs.Onlooker.{Notes, accepts, blank, outside, reads}
use Rattle.history.specs.Trace.{shown_by}
use Rattle.linked.specs.Chaining.{Chain, chain_next, chain_takes, moment_of, seen_at}
use Rattle.linked.specs.ChainingLaws.{Chained, free_parts, notes_by, taken_after_lem}
use Rattle.linked.specs.PassedLaws.{Passed, started_each}
use Rattle.linked.specs.Taken.{Plain}
use Rattle.linked.specs.TransferLaws.{Joined, in_both, levels_noted, reset_accepts, reset_reads, stay_equal}
use Rattle.linked.specs.WiringLaws.{handed, handing, register_shown}

-- no sample has been taken so far
abbrev pub Unused : ℕ → Chain → Type 0
Unused n c = (i : ℕ) → i < n → (state_of c.row i ≡ powered_up) × (c.notes i ≡ blank) × (c.taken i ≡ [])

-- every part has had a Master Reset into FWFT, with no retransmit since and no offset shown
abbrev pub Running : Part → ℕ → Chain → Type 0
Running part n c = (i : ℕ) → i < n → ((state_of c.row i).started ≡ true) × Plain part (moment_of part c i) (c.taken i)

-- neighbours have one level of the transfer clock, and the words taken from the earlier are those accepted by the later
pub record Linked (part : Part) (n : ℕ) (c : Chain) : Type 0 where
  pub some : 1 ≤ n
  pub chained : Chained part n c
  pub levels : (k : ℕ) → suc k < n → (c.notes k).rclk ≡ (c.notes (suc k)).wclk
  pub handed : (k : ℕ) → suc k < n → c.taken k ≡ (c.notes (suc k)).accepted
  pub stage : Unused n c ⊎ Running part n c

low_where : (level : Bool) → ¬ (level ≡ true) → level ≡ false
low_where true n = absurd (n refl)
low_where false n = refl

pub none_low : (mrs prs : Bool) → mrs ≡ false → mrs && prs ≡ false
none_low mrs prs e = simp e

module _ (part : Part) (n : ℕ) (c : Chain) (h : Linked part n c) (x : Links) (given : Passed x (started_to c.row c.row.count)) where
  -- the first sample that passes 5 is a Master Reset
  pub unused_resets : Unused n c → x.pins.mrs ≡ false
  unfolding powered_up cleared
  unused_resets unused =
      low_where x.pins.mrs
      (λ high.
      (let each = started_each part x c.row c.row.count (given.begun high) 0 (omega (arith, h.some, h.chained.count)) in
      true≢false (sym each ∙ ap (λ (s : State). s.started) (unused 0 h.some).0)))

  pub going : outside x.pins ≡ true → Running part n c
  going away =
      ⊎_elim (λ unused. absurd (true≢false (sym away ∙ none_low x.pins.mrs x.pins.prs (unused_resets unused)))) (λ run. run) h.stage

module _ (part : Part) (n : ℕ) (c : Chain) (h : Linked part n c) (x : Links) (narrow : x.pins.d < 2 ^ 18) (e : chain_takes part c x ≡ true) where
  abbrev pins : ℕ → Pins
  pins = wired_to part x c.row

  pub passed : Passed x (started_to c.row c.row.count)
  passed = (free_parts part n c h.chained x narrow e).passed

  running_here : outside x.pins ≡ true → Running part n c
  running_here = going part n c h x passed

  module _ (k : ℕ) (l : suc k < n) where
    joined : Joined (c.notes k) (pins k) (seen_at part c.row k) (c.notes (suc k)) (pins (suc k)) (seen_at part c.row (suc k))
    unfolding wired_to wired shown_by
    joined =
        let gives = handing part x c.row k (omega (arith, h.chained.count)) in
        let gets = handed part x c.row k in
        record {
          levels = h.levels k l;
          clock = gives.rclk ∙ sym gets.wclk;
          mrs = refl;
          prs = refl;
          ld = refl;
          high = λ away. (passed.high away).0;
          ren = gives.ren;
          wen = gets.wen;
        }

    -- outside reset: both happen or neither, and the word on D is the one in the earlier part's register
    pub both_outside : outside x.pins ≡ true
        → reads (c.notes k) (pins k) (seen_at part c.row k) ≡ accepts (c.notes (suc k)) (pins (suc k)) (seen_at part c.row (suc k))
    unfolding moment_of
    both_outside away = in_both _ _ _ _ _ _ joined (running_here away k (omega arith)).1.fwft (running_here away (suc k) l).1.fwft

    pub word_given : outside x.pins ≡ true → (seen_at part c.row k).register ≡ word (pins (suc k)).d
    unfolding moment_of shown_by
    word_given away =
        let shows = (running_here away k (omega arith)).1.shows in
        sym (ap word (handed part x c.row k).d
        ∙ register_shown part false (state_of c.row k) (h.chained.told k (omega arith)).reached.narrow shows)

    pub transfers : reads (c.notes k) (pins k) (seen_at part c.row k) ≡ accepts (c.notes (suc k)) (pins (suc k)) (seen_at part c.row (suc k))
    unfolding wired_to wired
    transfers = by_outside (outside x.pins) refl
      where
        by_outside : (away : Bool) → outside x.pins ≡ away
            → reads (c.notes k) (pins k) (seen_at part c.row k) ≡ accepts (c.notes (suc k)) (pins (suc k)) (seen_at part c.row (suc k))
        by_outside true away = both_outside away
        by_outside false reset = reset_reads (c.notes k) (pins k) _ reset ∙ sym (reset_accepts (c.notes (suc k)) (pins (suc k)) _ reset)

    pub levels_next : ((chain_next part c x).notes k).rclk ≡ ((chain_next part c x).notes (suc k)).wclk
    levels_next =
        ap (λ (b : Notes). b.rclk) (notes_by part c x h.chained.noting e k) ∙ (levels_noted (c.notes k) (pins k) _ _).1 ∙ joined.clock
        ∙ sym (ap (λ (b : Notes). b.wclk) (notes_by part c x h.chained.noting e (suc k)) ∙ (levels_noted (c.notes (suc k)) (pins (suc k)) _ _).0)

    pub handed_next : (chain_next part c x).taken k ≡ ((chain_next part c x).notes (suc k)).accepted
    unfolding wired_to wired
    handed_next =
        taken_after_lem part c x e k
        ∙ stay_equal _ _ _ _ _ _ joined (c.taken k) (seen_at part (chain_next part c x).row (suc k)) (h.handed k l) both_outside word_given
        ∙ sym (ap (λ (b : Notes). b.accepted) (notes_by part c x h.chained.noting e (suc k)))
