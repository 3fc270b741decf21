-- Order 4: each part of a chain is a part. What the chain's own sample leads it to is what the single part's sample leads to, by the record that
-- is wired to it, where the chain takes the sample; and a refused sample moves nothing.
use Rattle.std.specs.Prelude.{ℕ, ◌*◌, ◌^◌, ◌≤◌, ◌<◌, Bool, cond, ◌≡◌, eqb, length}
use Rattle.std.proofs.Math.Bool.{true, false}
use mathlib.Core.List.{List, [], ◌∷◌}
use Rattle.std.proofs.Math.Path.{refl, ap, subst}
use Rattle.std.proofs.Common.{sym, ◌∙◌, arith}
use Rattle.std.proofs.lemmas.List.{get_or-replicate}
use Rattle.std.proofs.Math.ListN.{length-replicate}
use borrow.Author.Tests.{eq-eqb, eqb-true}
use Rattle.rows.specs.declared.row.Row.{Row}
use Rattle.rows.specs.Row.{empty_row}
use Rattle.rows.specs.Step.{After, Moving, chain_refusal, chain_stepped, moved_to, state_of, took, turned_away, wired_to}
use Rattle.chip.specs.declared.state.State.{State}
use Rattle.chip.specs.Reset.{powered_up}
use Rattle.counts.specs.declared.part.Part.{Part}
use Rattle.counts.specs.Part.{depth_of}
use Rattle.fifo.specs.NumberLaws.{by_pins}
use Rattle.fifo.specs.Sample.{is_taken, taken}
use Rattle.links.specs.declared.record.Links.{Links}
use Rattle.pins.specs.declared.record.Pins.{Pins}
use Rattle.pins.specs.Laws.{record_of}
use Rattle.pins.specs.Record.{pins_of}
use Rattle.refusals.specs.Refuse.{refusal_of}
use Rattle.views.specs.TrueCounts.{TrueCounts, no_counts}
use Rattle.history.specs.LedLaws.{counts_led, counts_next, told_after, told_next}
use Rattle.history.specs.Onlooker.{Notes, blank, noted}
use Rattle.history.specs.TakenLaws.{moved_on, taken_next_lem, takes_free}
use Rattle.history.specs.Told.{Told}
use Rattle.history.specs.Trace.{Moment, at, led, next, power_up, shown_by, takes}
use Rattle.linked.specs.Chaining.{Chain, Narrow, chain_led, chain_next, chain_outcome, chain_takes, moment_of, moved_all, powered_row, records_of, seen_at}
use Rattle.linked.specs.MovedLaws.{FirstMoved, first_moved}
use Rattle.linked.specs.OwnWords.{own_length, own_words}
use Rattle.linked.specs.PassedLaws.{Free, free_each}
use Rattle.linked.specs.RecordLaws.{record_pins}
use Rattle.linked.specs.Taken.{taken_after}
use Rattle.linked.specs.WiringLaws.{wired_narrow}

-- wherever a sample leads, each onlooker goes by the pins of his own part
abbrev pub Noting : Part → Type 0
Noting part =
    (c : Chain) (x : Links) (a : After) (i : ℕ) → (moved_all part c x a).notes i
    ≡ cond (is_taken a.outcome) (noted (c.notes i) (wired_to part x c.row i) (seen_at part c.row i) (seen_at part a.row i)) (c.notes i)

-- each always does: `noting` asks nothing of a chain that the other fields do not
pub always_noting : (part : Part) → Noting part
always_noting part c x a i = refl

-- what holds of a chain at every moment from power-up on: so many parts, a memory for each, and each part's notes agree with it
pub record Chained (part : Part) (n : ℕ) (c : Chain) : Type 0 where
  pub noting : Noting part
  pub count : c.row.count ≡ n
  pub few : n ≤ 8
  pub places : length c.row.states ≡ 8
  pub whole : length c.memory ≡ n * depth_of part
  pub counts : ℕ → TrueCounts
  pub told : (i : ℕ) → i < n → Told part (moment_of part c i) (counts i)

taken_by : (free : Bool) (part : Part) (p : Pins) (m : Moving) (number : ℕ) (row : Row) (memory : List ℕ)
    → is_taken (cond free (took part p m) (turned_away number row memory)).outcome ≡ free
taken_by true part p m number row memory = refl
taken_by false part p m number row memory = refl

module _ (part : Part) (c : Chain) (x : Links) where
  -- taken where nothing refuses it
  pub takes_free_chain : chain_takes part c x ≡ eqb (chain_refusal part x c.row) 0
  unfolding chain_takes chain_outcome chain_stepped
  takes_free_chain = taken_by (eqb (chain_refusal part x c.row) 0) part x.pins _ _ c.row c.memory

  -- refused: nothing is moved
  pub refused_none : chain_takes part c x ≡ false → chain_next part c x ≡ c
  unfolding chain_next chain_outcome chain_stepped
  refused_none e = rw (sym takes_free_chain ∙ e)

  pub taken_none : chain_takes part c x ≡ true → chain_refusal part x c.row ≡ 0
  taken_none e = eqb-true (chain_refusal part x c.row) 0 (sym takes_free_chain ∙ e)

  -- what becomes of the notes, and of the words taken from each part
  pub notes_after : chain_takes part c x ≡ true → (i : ℕ)
      → (chain_next part c x).notes i
      ≡ noted (c.notes i) (wired_to part x c.row i) (seen_at part c.row i) (seen_at part (chain_next part c x).row i)
  unfolding chain_next chain_takes
  notes_after e i = rw e refl

  pub notes_by : Noting part → chain_takes part c x ≡ true → (i : ℕ)
      → (chain_next part c x).notes i
      ≡ noted (c.notes i) (wired_to part x c.row i) (seen_at part c.row i) (seen_at part (chain_next part c x).row i)
  unfolding chain_next chain_takes
  notes_by noting e i = noting c x (chain_outcome part c x) i ∙ rw e refl

  pub taken_after_lem : chain_takes part c x ≡ true → (i : ℕ)
      → (chain_next part c x).taken i ≡ taken_after (c.notes i) (wired_to part x c.row i) (seen_at part c.row i) (c.taken i)
  unfolding chain_next chain_takes
  taken_after_lem e i = rw e refl

  taken_moves : chain_takes part c x ≡ true
      → chain_next part c x ≡ moved_all part c x (took part x.pins (moved_to part x c.row c.memory c.row.count))
  unfolding chain_next chain_outcome chain_stepped
  taken_moves e = rw (sym takes_free_chain ∙ e)

module _ (part : Part) (n : ℕ) (c : Chain) (g : Chained part n c) (x : Links) (narrow : x.pins.d < 2 ^ 18) (e : chain_takes part c x ≡ true) where
  pub free_parts : Free part x c.row
  free_parts = free_each part x c.row (taken_none part c x e)

  moved : FirstMoved part x c.row c.memory c.row.count (moved_to part x c.row c.memory c.row.count)
  moved =
      first_moved part x c.row c.memory n g.whole g.places g.few c.row.count (omega (arith, g.count))

  module _ (i : ℕ) (l : i < n) where
    abbrev here : Moment
    here = moment_of part c i

    abbrev pins : Pins
    pins = wired_to part x c.row i

    -- the record wired to part i has the pins that are wired to it,
    pub wired_pins : pins_of (record_of pins) ≡ pins
    unfolding moment_of
    wired_pins =
        record_pins pins
        (wired_narrow part x c.row narrow i (λ k before. (g.told k (omega arith)).reached.narrow))

    -- the part by itself takes it,
    pub part_takes : takes part here (record_of pins) ≡ true
    unfolding moment_of
    part_takes =
        takes_free part here (g.counts i) (g.told i l) (record_of pins)
        ∙ eq-eqb _ 0
        (by_pins part (record_of pins) here.state ∙ ap (λ (p : Pins). refusal_of part p (state_of c.row i)) wired_pins
        ∙ free_parts.each i (omega (arith, g.count)))

    -- and is then where the chain has it
    pub part_moved : moment_of part (chain_next part c x) i ≡ moved_on part here pins
    unfolding moment_of taken
    part_moved =
        let state = moved.state i (omega (arith, g.count)) in
        let words = moved.words i (omega (arith, g.count)) in
        let a = took part x.pins (moved_to part x c.row c.memory c.row.count) in
        ap (λ (d : Chain). moment_of part d i) (taken_moves part c x e)
        ∙ ap (λ (b : Notes). at (state_of a.row i) (own_words part a.memory i) b) (g.noting c x a i)
        ∙ (λ j. at (state j) (words j) (noted (c.notes i) pins (shown_by part (state_of c.row i)) (shown_by part (state j))))

    pub part_next : moment_of part (chain_next part c x) i ≡ next part here (record_of pins)
    part_next =
        part_moved ∙ sym ((taken_next_lem part here (g.counts i) (g.told i l) (record_of pins) part_takes).0 ∙ ap (moved_on part here) wired_pins)

  taken_chained : Chained part n (chain_next part c x)
  taken_chained =
      let moves = taken_moves part c x e in
      record {
        noting = g.noting;
        count = ap (λ (d : Chain). d.row.count) moves ∙ moved.count ∙ g.count;
        few = g.few;
        places = ap (λ (d : Chain). length d.row.states) moves ∙ moved.places ∙ g.places;
        whole = ap (λ (d : Chain). length d.memory) moves ∙ moved.size ∙ g.whole;
        counts = λ i. counts_next part (moment_of part c i) (record_of (wired_to part x c.row i)) (g.counts i);
        told = λ i l. rw (part_next i l) (told_next part (moment_of part c i) (g.counts i) (g.told i l) (record_of (wired_to part x c.row i)));
      }

module _ (part : Part) (n : ℕ) where
  chained_by : (c : Chain) (g : Chained part n c) (x : Links) → x.pins.d < 2 ^ 18 → (verdict : Bool) → chain_takes part c x ≡ verdict
      → Chained part n (chain_next part c x)
  chained_by c g x narrow true e = taken_chained part n c g x narrow e
  chained_by c g x narrow false e = rw (refused_none part c x e) g

  pub chained_next : (c : Chain) → Chained part n c → (x : Links) → x.pins.d < 2 ^ 18 → Chained part n (chain_next part c x)
  chained_next c g x narrow = chained_by c g x narrow (chain_takes part c x) refl

  pub chained_led : (xs : List Links) → Narrow xs → (c : Chain) → Chained part n c → Chained part n (chain_led part c xs)
  unfolding chain_led
  chained_led [] narrow c g = g
  chained_led (x ∷ xs) narrow c g = chained_led xs narrow.1 (chain_next part c x) (chained_next c g x narrow.0)

  module _ (memory : List ℕ) (whole : length memory ≡ n * depth_of part) (few : n ≤ 8) where
    pub begins : (i : ℕ) → i < n → moment_of part (powered_row n memory) i ≡ power_up (own_words part memory i)
    unfolding moment_of powered_row power_up empty_row
    begins i l = ap (λ (s : State). at s (own_words part memory i) blank) (get_or-replicate 8 i powered_up powered_up (omega arith))

    pub chained_from : Noting part → Chained part n (powered_row n memory)
    unfolding powered_row empty_row led counts_led
    chained_from noting = record {
      noting = noting;
      count = refl;
      few = few;
      places = length-replicate 8 powered_up;
      whole = whole;
      counts = λ i. no_counts;
      told = λ i l. rw (begins i l) (told_after part (own_words part memory i) (own_length part memory i n whole l) []);
    }

    pub chained_powered : Chained part n (powered_row n memory)
    chained_powered = chained_from (λ c x a i. refl)

  -- each part is where its own records of the samples taken lead the single part
  abbrev Leads : ℕ → Chain → Chain → List ℕ → Type 0
  Leads i c there records = moment_of part there i ≡ led part (moment_of part c i) records

  leads_by : (i : ℕ) → i < n → (x : Links) → x.pins.d < 2 ^ 18 → (c : Chain) → Chained part n c → (there : Chain) (records : List ℕ)
      (verdict : Bool) → chain_takes part c x ≡ verdict → Leads i (chain_next part c x) there records
      → Leads i c there (cond verdict (record_of (wired_to part x c.row i) ∷ records) records)
  unfolding led
  leads_by i l x narrow c g there records true e rest = rest ∙ ap (λ (m : Moment). led part m records) (part_next part n c g x narrow e i l)
  leads_by i l x narrow c g there records false e rest = subst (λ (d : Chain). Leads i d there records) (refused_none part c x e) rest

  pub part_led : (i : ℕ) → i < n → (xs : List Links) → Narrow xs → (c : Chain) → Chained part n c
      → Leads i c (chain_led part c xs) (records_of part i c xs)
  unfolding chain_led led records_of
  part_led i l [] narrow c g = refl
  part_led i l (x ∷ xs) narrow c g =
      leads_by i l x narrow.0 c g (chain_led part (chain_next part c x) xs) (records_of part i (chain_next part c x) xs) (chain_takes part c x) refl
      (part_led i l xs narrow.1 (chain_next part c x) (chained_next c g x narrow.0))
