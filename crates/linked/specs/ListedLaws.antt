-- Order 4, by the public operations: a list of parts is worked as the row of a chain from power-up on, and so a sample of it is a sample of the
-- chain.
use Rattle.std.specs.Prelude.{ℕ, ◌*◌, ◌≤◌, ◌<◌, Bool, cond, List, [], ◌∷◌, ◌≢◌, ◌≡◌, eqb, length}
use Rattle.std.proofs.Math.Bool.{true, false}
use Rattle.std.proofs.Math.Path.{refl, ap}
use Rattle.std.proofs.Common.{sym, ◌∙◌, arith}
use Rattle.std.proofs.Math.ListN.{get_or-replicate, length-replicate}
use borrow.Author.Tests.{eq-eqb, eqb-false, eqb-true, le-leb}
use Rattle.chain.specs.ListLaws.{back_length, row_back, row_powered}
use Rattle.chain_runs.specs.Test.{Passed}
use Rattle.chain_runs.specs.Sample.{row_sampled}
use Rattle.chain_runs.specs.SampleLaws.{sample_other, sample_steps}
use Rattle.chain_runs.specs.Test.{known_test, several, test_of}
use Rattle.rows.specs.MoveLaws.{moved_later}
use Rattle.chain_work.specs.Records.{links_at}
use Rattle.rows.specs.Row.{empty_row, put_back}
use Rattle.rows.specs.Step.{After, chain_refusal, chain_stepped, state_of, turned_away}
use Rattle.chip.specs.Reset.{powered_up}
use Rattle.counts.specs.declared.part.Part.{Part}
use Rattle.counts.specs.Either.{either}
use Rattle.counts.specs.Part.{depth_of, number_of}
use Rattle.counts.specs.PartLaws.{own_number}
use Rattle.links.specs.declared.record.Links.{Links}
use Rattle.linked.specs.Chaining.{Chain, chain_led, chain_next, chain_outcome, powered_row}
use Rattle.linked.specs.ChainingLaws.{Noting}
use Rattle.linked.specs.Linked.{Linked}
use Rattle.linked.specs.LinkedLaws.{linked_from, linked_next}
use Rattle.linked.specs.Listed.{Listed, Parts, called, powered_parts, sample_of, worked_in}
use Rattle.linked.specs.Listed.Call.{OneSample}
use Rattle.linked.specs.RefusedLaws.{all_pass}

-- a part past the row's number is never moved
pub past_stays : (part : Part) (c : Chain) (x : Links) (i : ℕ) → c.row.count ≤ i → state_of (chain_next part c x).row i ≡ state_of c.row i
unfolding chain_next chain_outcome chain_stepped
past_stays part c x i l =
    either (λ (a : After). state_of a.row i ≡ state_of c.row i) (eqb (chain_refusal part x c.row) 0) _ _
    (moved_later part x c.row c.memory c.row.count i l) refl

module _ (part : Part) (n : ℕ) where
  pub listed_from : Noting part → (memory : List ℕ) → length memory ≡ n * depth_of part → 2 ≤ n → n ≤ 8
      → Listed part n (powered_parts n memory) (powered_row n memory)
  unfolding powered_parts powered_row empty_row
  listed_from noting memory whole several few = record {
    several = several;
    linked = linked_from part n noting memory whole (omega (arith, several)) few;
    past = λ i l small. get_or-replicate 8 i powered_up powered_up small;
    many = length-replicate n powered_up;
    row = row_powered n;
    words = refl;
  }

  -- A list as at power-up is worked as such a row.
  pub listed_powered : (memory : List ℕ) → length memory ≡ n * depth_of part → 2 ≤ n → n ≤ 8
      → Listed part n (powered_parts n memory) (powered_row n memory)
  listed_powered memory whole several few = listed_from (λ c x a i. refl) memory whole several few

  module _ (l : Parts) (c : Chain) (h : Listed part n l c) where
    -- 13 is passed each time, and so are 1, 2 and 3
    pub several_parts : several c.row.count ≡ true
    several_parts =
        let chained = h.linked.chained in
        let two = le-leb 2 c.row.count (omega (arith, chained.count, h.several)) in
        let eight = le-leb c.row.count 8 (omega (arith, chained.count, chained.few)) in
        simp (two, eight)

    pub list_passes : test_of (number_of part) c.row (length c.memory) true ≡ Passed part
    unfolding test_of known_test
    list_passes =
        let chained = h.linked.chained in
        let sized = chained.whole ∙ ap (λ (k : ℕ). k * depth_of part) (sym chained.count) in
        let deep = eq-eqb (length c.memory) (c.row.count * depth_of part) sized in
        let passed = all_pass part n c h.linked c.row.count (omega (arith, chained.count)) in
        simp (own_number part, several_parts, deep, passed)

    -- a row with as many parts, and none past them, is put back in the list and found there
    pub put_listed : (d : Chain) → Linked part n d → ((i : ℕ) → n ≤ i → i < 8 → state_of d.row i ≡ powered_up)
        → Listed part n (record { states = put_back d.row l.states; memory = d.memory }) d
    put_listed d linked past =
        let chained = linked.chained in
        record {
          several = h.several;
          linked = linked;
          past = past;
          many = back_length d.row l.states ∙ h.many;
          row = row_back d.row l.states (chained.count ∙ sym h.many) (omega (arith, h.many, chained.few)) chained.places
              (λ i k small. past i (omega (arith, k, chained.count)) small);
          words = refl;
        }

    -- the same sample, of the chain's row and words
    as_row : (bytes : List ℕ) → sample_of part l bytes ≡ row_sampled (number_of part) bytes c.row c.memory
    unfolding sample_of
    as_row bytes i = row_sampled (number_of part) bytes (h.row i) (h.words i)

    -- A sample on seven bytes is the chain's own,
    pub seven_outcome : (bytes : List ℕ) → length bytes ≡ 7 → sample_of part l bytes ≡ chain_outcome part c (links_at bytes 0)
    unfolding chain_outcome
    seven_outcome bytes seven = as_row bytes ∙ sample_steps (number_of part) bytes c.row c.memory refl list_passes seven

    -- and any other is refused 4.
    pub other_outcome : (bytes : List ℕ) → length bytes ≢ 7 → sample_of part l bytes ≡ turned_away 4 c.row c.memory
    other_outcome bytes other = as_row bytes ∙ sample_other (number_of part) bytes c.row c.memory refl list_passes other

    past_next : (x : Links) (i : ℕ) → n ≤ i → i < 8 → state_of (chain_next part c x).row i ≡ powered_up
    past_next x i k small = past_stays part c x i (omega (arith, k, h.linked.chained.count)) ∙ h.past i k small

    pub seven_next : (bytes : List ℕ) → length bytes ≡ 7 → Listed part n (called part l (OneSample bytes)) (chain_next part c (links_at bytes 0))
    unfolding chain_next
    seven_next bytes seven =
        let x = links_at bytes 0 in
        rw (seven_outcome bytes seven) (put_listed (chain_next part c x) (linked_next part n c h.linked x (omega arith)) (past_next x))

    other_next : (bytes : List ℕ) → length bytes ≢ 7 → Listed part n (called part l (OneSample bytes)) c
    other_next bytes other = rw (other_outcome bytes other) (put_listed c h.linked h.past)

    next_by : (bytes : List ℕ) (seven : Bool) → eqb (length bytes) 7 ≡ seven
        → Listed part n (called part l (OneSample bytes)) (chain_led part c (cond seven (links_at bytes 0 ∷ []) []))
    unfolding chain_led
    next_by bytes true e = seven_next bytes (eqb-true _ _ e)
    next_by bytes false e = other_next bytes (eqb-false _ _ e)

    -- A sample leads the list where its record leads the chain.
    pub listed_sample : (bytes : List ℕ) → Listed part n (called part l (OneSample bytes)) (chain_led part c (worked_in part l (OneSample bytes)))
    listed_sample bytes = next_by bytes (eqb (length bytes) 7) refl
