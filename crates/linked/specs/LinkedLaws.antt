-- Order 4: what holds between the parts of a chain holds from power-up on, after any samples.
use Rattle.std.specs.Prelude.{ℕ, ◌*◌, ◌^◌, ◌≤◌, ◌<◌, Bool, true, false, cond, ◌≡◌, length}
use mathlib.Core.List.{List, [], ◌∷◌}
use Rattle.std.proofs.Math.Logic.{inl}
use Rattle.std.proofs.Common.{inr, ⊎_elim, ◌∙◌, arith}
use Rattle.std.proofs.Math.Path.{refl, ap}
use Rattle.std.proofs.lemmas.List.{get_or-replicate}
use Rattle.rows.specs.Row.{empty_row}
use Rattle.rows.specs.Step.{state_of, wired_to}
use Rattle.chip.specs.declared.state.State.{State}
use Rattle.chip.specs.Advance.{advanced, running, state_after}
use Rattle.chip.specs.Reset.{cleared, master_reset, partial_reset, powered_up}
use Rattle.counts.specs.declared.part.Part.{Part}
use Rattle.counts.specs.Part.{depth_of}
use Rattle.fifo.specs.Sample.{fetched_for}
use Rattle.links.specs.declared.record.Links.{Links}
use Rattle.links.specs.Wire.{wired}
use Rattle.pins.specs.declared.record.Pins.{Pins}
use Rattle.history.specs.TakenLaws.{moved_on}
use Rattle.history.specs.Trace.{Moment}
use Rattle.linked.specs.Chaining.{Chain, Narrow, chain_led, chain_next, chain_takes, moment_of, powered_row, seen_at}
use Rattle.linked.specs.ChainingLaws.{Noting, chained_from, chained_next, part_moved, refused_none, taken_after_lem}
use Rattle.linked.specs.Linked.{Linked, Running, handed_next, levels_next, none_low, passed, unused_resets}
use Rattle.linked.specs.OnePartLaws.{plain_anew, plain_moved}
use Rattle.linked.specs.PassedLaws.{started_each}
use Rattle.linked.specs.Taken.{Plain, taken_after}

-- a Master Reset comes or has come
started_after : (part : Part) (p : Pins) (fetched : ℕ) (s : State) → (p.mrs ≡ true → s.started ≡ true)
    → (advanced part p fetched s).state.started ≡ true
unfolding advanced state_after running master_reset partial_reset cleared
started_after part p fetched s h =
    started_by p.mrs p.prs (running part p fetched s) (partial_reset p s) (master_reset p s) refl h h
  where
    started_by : (mrs prs : Bool) (on kept fresh : State) → fresh.started ≡ true → (mrs ≡ true → on.started ≡ true)
        → (mrs ≡ true → kept.started ≡ true) → (cond mrs (cond prs on kept) fresh).started ≡ true
    started_by true true on kept fresh f h k = h refl
    started_by true false on kept fresh f h k = k refl
    started_by false prs on kept fresh f h k = f

-- no word is taken in a reset, and none is kept
none_taken : (part : Part) (c : Chain) (x : Links) (i : ℕ) → x.pins.mrs ≡ false
    → taken_after (c.notes i) (wired_to part x c.row i) (seen_at part c.row i) (c.taken i) ≡ []
unfolding taken_after wired_to wired
none_taken part c x i low = rw (none_low x.pins.mrs x.pins.prs low)

module _ (part : Part) (n : ℕ) (c : Chain) (h : Linked part n c) (x : Links) (narrow : x.pins.d < 2 ^ 18) (e : chain_takes part c x ≡ true) where
  module _ (i : ℕ) (l : i < n) where
    abbrev here : Moment
    here = moment_of part c i

    abbrev pins : Pins
    pins = wired_to part x c.row i

    -- what holds of the single part behind these pins holds of the part of the chain
    plain_there : (words : List ℕ) → Plain part (moved_on part here pins) words → (chain_next part c x).taken i ≡ words
        → Plain part (moment_of part (chain_next part c x) i) ((chain_next part c x).taken i)
    plain_there words g same = rw (part_moved part n c h.chained x narrow e i l, same) g

    plain_on : Plain part here (c.taken i) → Plain part (moment_of part (chain_next part c x) i) ((chain_next part c x).taken i)
    unfolding moment_of wired_to wired
    plain_on g =
        plain_there (taken_after (c.notes i) pins (seen_at part c.row i) (c.taken i))
        (plain_moved part here (h.chained.counts i) (h.chained.told i l) (c.taken i) g pins (passed part n c h x narrow e).high
        (passed part n c h x narrow e).fwft)
        (taken_after_lem part c x e i)

    plain_first : x.pins.mrs ≡ false → Plain part (moment_of part (chain_next part c x) i) ((chain_next part c x).taken i)
    unfolding wired_to wired
    plain_first low =
        plain_there [] (plain_anew part here (h.chained.counts i) (h.chained.told i l) pins low ((passed part n c h x narrow e).fwft low))
        (taken_after_lem part c x e i ∙ none_taken part c x i low)

    -- each part has its Master Reset, or has had it
    started_next : (state_of (chain_next part c x).row i).started ≡ true
    unfolding moment_of wired_to wired
    started_next =
        ap (λ (m : Moment). m.state.started) (part_moved part n c h.chained x narrow e i l)
        ∙ started_after part pins (fetched_for part here.state here.memory) here.state
        (λ high. started_each part x c.row c.row.count ((passed part n c h x narrow e).begun high) i (omega (arith, h.chained.count)))

  pub running_next : Running part n (chain_next part c x)
  running_next i l = (
    started_next i l,
    ⊎_elim (λ unused. plain_first i l (unused_resets part n c h x (passed part n c h x narrow e) unused)) (λ run. plain_on i l (run i l).1)
        h.stage,
  )

  taken_linked : Linked part n (chain_next part c x)
  taken_linked = record {
    some = h.some;
    chained = chained_next part n c h.chained x narrow;
    levels = levels_next part n c h x narrow e;
    handed = handed_next part n c h x narrow e;
    stage = inr running_next;
  }

module _ (part : Part) (n : ℕ) where
  linked_by : (c : Chain) → Linked part n c → (x : Links) → x.pins.d < 2 ^ 18 → (verdict : Bool) → chain_takes part c x ≡ verdict
      → Linked part n (chain_next part c x)
  linked_by c h x narrow true e = taken_linked part n c h x narrow e
  linked_by c h x narrow false e = rw (refused_none part c x e) h

  pub linked_next : (c : Chain) → Linked part n c → (x : Links) → x.pins.d < 2 ^ 18 → Linked part n (chain_next part c x)
  linked_next c h x narrow = linked_by c h x narrow (chain_takes part c x) refl

  pub linked_led : (xs : List Links) → Narrow xs → (c : Chain) → Linked part n c → Linked part n (chain_led part c xs)
  unfolding chain_led
  linked_led [] narrow c h = h
  linked_led (x ∷ xs) narrow c h = linked_led xs narrow.1 (chain_next part c x) (linked_next c h x narrow.0)

  pub linked_from : Noting part → (memory : List ℕ) → length memory ≡ n * depth_of part → 1 ≤ n → n ≤ 8 → Linked part n (powered_row n memory)
  unfolding powered_row empty_row
  linked_from noting memory whole some few = record {
    some = some;
    chained = chained_from part n memory whole few noting;
    levels = λ k l. refl;
    handed = λ k l. refl;
    stage = inl (λ i l. (get_or-replicate 8 i powered_up powered_up (omega arith), refl, refl));
  }

  pub linked_powered : (memory : List ℕ) → length memory ≡ n * depth_of part → 1 ≤ n → n ≤ 8 → Linked part n (powered_row n memory)
  linked_powered memory whole some few = linked_from (λ c x a i. refl) memory whole some few
