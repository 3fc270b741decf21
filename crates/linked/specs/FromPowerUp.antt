-- Paper 02, order 4, of the operations as they are called: a list of two to eight part states, each as at power-up, with the memories one after the
-- other and any words in them, and calls one after the other: samples on any bytes, and runs over any bytes, strict or lenient, with any rooms. Such
-- a list is worked as a chain; so what InARow proves is true of what a caller holds. Parts are counted from 0.
use Rattle.std.specs.Prelude.{ℕ, suc, ◌*◌, ◌-◌, ◌≤◌, ◌<◌, Bool, List, [], ◌∷◌, ◌++◌, map, ◌≢◌, ◌≡◌, refl, length, take}
use Rattle.std.proofs.Common.{inl, inr, ◌∙◌, arith}
use Rattle.std.proofs.Math.Path.{sym, ap, subst}
use Rattle.std.proofs.Math.Decide.{ℕ_discrete}
use Rattle.chain.specs.Chain.{Runs, Samples}
use Rattle.chain.specs.ListLaws.{entry_of, row_at}
use Rattle.chain.specs.StillLaws.{early, runs_still, sample_still}
use Rattle.chain_runs.specs.declared.run.Report.{Report}
use Rattle.chain_work.specs.Records.{links_at, records_from, whole_records}
use Rattle.rows.specs.Row.{row_of}
use Rattle.rows.specs.Step.{After, state_of}
use Rattle.chain_work.specs.Work.{Ended}
use Rattle.chip.specs.declared.state.State.{State}
use Rattle.counts.specs.declared.part.Part.{Part}
use Rattle.counts.specs.Part.{depth_of, number_of}
use Rattle.fifo.specs.Outcome.{Outcome, Refused, Taken}
use Rattle.fifo.specs.Sample as fifo
use Rattle.fifo.specs.Sample.{is_taken}
use Rattle.links.specs.declared.record.Links.{Links}
use Rattle.history.specs.Trace.{at}
use Rattle.linked.specs.AnswerLaws.{AnswersEnds, answers_ends}
use Rattle.linked.specs.CallLaws.{called_more, calls_narrow, listed_calls, samples_worked}
use Rattle.linked.specs.Chaining.{Chain, Narrow, chain_led, chain_next, chain_outcome, chain_takes, inside_from, moment_of, powered_row, records_of}
use Rattle.linked.specs.ChainingLaws.{Noting}
use Rattle.linked.specs.EachPart.{IsPart, part_from}
use Rattle.linked.specs.InARow.{Transfers, transfers_where}
use Rattle.linked.specs.Listed.{Call, Listed, Parts, called_all, powered_parts, run_over, sample_of, whole_of, worked_all}
use Rattle.linked.specs.Listed.Call.{OneRun, OneSample}
use Rattle.linked.specs.ListedLaws.{listed_from, other_outcome, seven_next, seven_outcome}
use Rattle.linked.specs.ListedRunLaws.{Room, listed_run, run_ends, run_turned}
use Rattle.linked.specs.OwnWords.{own_words}
use Rattle.linked.specs.RefusedLaws.{Comes, only_these}
use Rattle.linked.specs.RunLaws.{led_parts}
use Rattle.linked.specs.WordLaws.{words_by}

module _ (part : Part) (n : ℕ) (several : 2 ≤ n) (few : n ≤ 8) (memory : List ℕ) (whole : length memory ≡ n * depth_of part) (calls : List Call) where
  -- what the caller holds after these calls, the records that they worked, and the chain that these lead to
  abbrev there : Parts
  there = called_all part (powered_parts n memory) calls

  abbrev samples : List Links
  samples = worked_all part (powered_parts n memory) calls

  abbrev along : Chain
  along = chain_led part (powered_row n memory) samples

  listed : Noting part → Listed part n there along
  listed noting = listed_calls part n calls (powered_parts n memory) (powered_row n memory) (listed_from part n noting memory whole several few)

  narrow : Narrow samples
  narrow = calls_narrow part calls (powered_parts n memory)

  -- The caller's list is worked as that chain's row, entry by entry, and the caller's words are the chain's.
  pub leads : (row_of there.states ≡ along.row) × (there.memory ≡ along.memory) × (length there.states ≡ n) × Narrow samples
  leads = let h = listed (λ c x a i. refl) in (h.row, h.words, h.many, narrow)

  state_by : Listed part n there along → (i : ℕ) → i < n → entry_of there.states i ≡ state_of along.row i
  state_by h i l = sym (row_at there.states i (omega (arith, l, h.many)) (omega (arith, l, few))) ∙ (λ j. state_of (h.row j) i)

  pub each_state : (i : ℕ) → i < n → entry_of there.states i ≡ state_of along.row i
  each_state i l = state_by (listed (λ c x a i. refl)) i l

  -- the caller's parts as a chain, with an onlooker at each
  abbrev pub held : Chain
  held = record { row = row_of there.states; memory = there.memory; notes = along.notes; taken = along.taken }

  held_by : Listed part n there along → held ≡ along
  held_by h i = record { row = h.row i; memory = h.words i; notes = along.notes; taken = along.taken }

  pub held_same : held ≡ along
  held_same = held_by (listed (λ c x a i. refl))

  -- Each entry with its own words is a part: it is where the records wired to it in the samples taken lead the single part.
  pub each_part : (i : ℕ) → i < n
      → IsPart part (own_words part memory i) (records_of part i (powered_row n memory) samples)
      (at (entry_of there.states i) (own_words part there.memory i) (along.notes i))
  unfolding moment_of
  each_part i l =
      let h = listed (λ c x a i. refl) in
      subst (IsPart part (own_words part memory i) (records_of part i (powered_row n memory) samples))
      (λ j. at (sym (state_by h i l) j) (own_words part (sym h.words j) i) (along.notes i))
      (part_from part (λ c x a i. refl) n few memory whole samples narrow i l)

  -- The words, in what the caller holds.
  pub in_order : (held.notes 0).accepted ≡ held.taken (n - 1) ++ inside_from part held (n - 1)
  unfolding inside_from
  in_order =
      let h = listed (λ c x a i. refl) in
      rw (held_by h) (words_by part n along h.linked (λ c k. refl) (n - 1) (omega (arith, several)))

  -- One sample more, on any bytes: what the caller is given of it.
  module _ (bytes : List ℕ) (r : Outcome) (after : List State) (left : List ℕ)
      (s : Samples (number_of part) bytes there.states there.memory r after left) where
    abbrev x : Links
    x = links_at bytes 0

    -- it is what the calls with this one lead to
    pub sample_more : record { states = after; memory = left } ≡ called_all part (powered_parts n memory) (calls ++ (OneSample bytes ∷ []))
    unfolding sample_of
    sample_more =
        (λ i. record { states = s.parts i; memory = s.words i }) ∙ sym (called_more part calls (OneSample bytes) (powered_parts n memory))

    other_by : Listed part n there along → length bytes ≢ 7 → (r ≡ Refused 4) × (after ≡ there.states) × (left ≡ there.memory)
    unfolding sample_of
    other_by h other =
        let four : r ≡ Refused 4 = s.result ∙ ap (λ (a : After). a.outcome) (other_outcome part n there along h bytes other) in
        let still = sample_still (number_of part) bytes there.states there.memory after left 4
        (subst (λ (o : Outcome). Samples (number_of part) bytes there.states there.memory o after left) four s) in
        (four, still.0, still.1)

    -- other than seven bytes: refused 4, and all is as it was
    pub other_refused : length bytes ≢ 7 → (r ≡ Refused 4) × (after ≡ there.states) × (left ≡ there.memory)
    other_refused other = other_by (listed (λ c x a i. refl)) other

    module _ (seven : length bytes ≡ 7) where
      told_by : Listed part n there along → r ≡ (chain_outcome part along x).outcome
      unfolding sample_of
      told_by h = s.result ∙ ap (λ (a : After). a.outcome) (seven_outcome part n there along h bytes seven)

      leads_by : Listed part n there along → (row_of after ≡ (chain_next part along x).row) × (left ≡ (chain_next part along x).memory)
      unfolding sample_of
      leads_by h =
          let next = seven_next part n there along h bytes seven in
          (ap row_of s.parts ∙ next.row, s.words ∙ next.words)

      -- seven bytes: the chain's own outcome, and where it leads
      pub seven_told : r ≡ (chain_outcome part along x).outcome
      seven_told = told_by (listed (λ c x a i. refl))

      pub seven_leads : (row_of after ≡ (chain_next part along x).row) × (left ≡ (chain_next part along x).memory)
      seven_leads = leads_by (listed (λ c x a i. refl))

      module _ (answer : ℕ) (given : r ≡ Taken answer) where
        -- a transfer happens in both parts or in neither,
        pub both_or_neither : (k : ℕ) → suc k < n → Transfers part held x k
        unfolding chain_takes
        both_or_neither k l =
            let h = listed (λ c x a i. refl) in
            rw (held_by h)
            (transfers_where part n along h.linked x (omega arith) (ap is_taken (sym (told_by h) ∙ given)) k l)

        -- and the answer is what the onlookers at the two ends see
        pub answered : AnswersEnds part x.pins (row_of after) answer
        answered =
            let h = listed (λ c x a i. refl) in
            let leads = leads_by h in
            rw leads.0 (answers_ends part n along h.linked x (omega arith) answer (sym (told_by h) ∙ given))

    -- Refused are only 4, 5, 14 and 12.
    pub refused_only : Comes (fifo.number_of r)
    refused_only = by (ℕ_discrete (length bytes) 7)
      where
        by : Dec (length bytes ≡ 7) → Comes (fifo.number_of r)
        by (yes seven) = let h = listed (λ c x a i. refl) in rw (told_by seven h) (only_these part n along h.linked x)
        by (no other) = let h = listed (λ c x a i. refl) in rw (other_by h other).0 (inr (inl refl))

  -- One run more, strict or lenient: what the caller is given of it.
  module _ (lenient : Bool) (bytes answers marks : List ℕ) (r : Report) (after : List State) (left written noted : List ℕ)
      (f : Runs lenient (number_of part) bytes there.states there.memory answers marks r after left written noted) where
    abbrev call : Call
    call = OneRun lenient bytes answers marks

    -- it is what the calls with this one lead to,
    pub run_more : record { states = after; memory = left } ≡ called_all part (powered_parts n memory) (calls ++ (call ∷ []))
    unfolding run_over
    run_more = (λ i. record { states = f.parts i; memory = f.words i }) ∙ sym (called_more part calls call (powered_parts n memory))

    -- where the records that it worked lead one by one
    abbrev more : List Links
    more = take r.index (records_from bytes 0 (whole_records bytes))

    abbrev end : Chain
    end = chain_led part (powered_row n memory) (samples ++ more)

    pub run_leads : (row_of after ≡ end.row) × (left ≡ end.memory)
    unfolding run_over
    run_leads =
        let lead = listed_run part n there along (listed (λ c x a i. refl)) lenient bytes answers marks in
        let index : r.index ≡ (run_over part there lenient bytes answers marks).index = ap (λ (t : Report). t.index) f.result in
        rw (led_parts part samples more (powered_row n memory), index) (ap row_of f.parts ∙ lead.row, f.words ∙ lead.words)

    -- with room for its answers and marks: refused are only 4, 5, 14 and 12
    pub run_refused_only : Room lenient bytes answers marks → Comes r.refusal
    unfolding run_over
    run_refused_only room = rw f.result (run_ends part n there along (listed (λ c x a i. refl)) lenient bytes answers marks room)

    -- without: refused 2, and all is as it was
    pub without_room : ¬ Room lenient bytes answers marks
        → (after ≡ there.states) × (left ≡ there.memory) × (written ≡ answers) × (noted ≡ marks)
        × (r ≡ record { accepted = 0; index = 0; refusal = 2 })
    unfolding run_over
    without_room none =
        let turned = ap (λ (e : Ended). e.refusal) (run_turned part n there along (listed (λ c x a i. refl)) lenient bytes answers marks none) in
        let two : r.refusal ≡ 2 = ap (λ (t : Report). t.refusal) f.result ∙ turned in
        let still =
        runs_still lenient (number_of part) bytes there.states there.memory answers marks r after left written noted f (ap early two) in
        (still.0, still.1, still.2, still.3, still.4 ∙ (λ i. record { accepted = 0; index = 0; refusal = two i }))

-- Of samples alone, one after the other: where the records of those with seven bytes lead.
pub by_samples : (part : Part) (n : ℕ) → 2 ≤ n → n ≤ 8 → (memory : List ℕ) → length memory ≡ n * depth_of part → (samples : List (List ℕ))
    → let there = called_all part (powered_parts n memory) (map OneSample samples) in
    let along = chain_led part (powered_row n memory) (whole_of samples) in
    (row_of there.states ≡ along.row) × (there.memory ≡ along.memory)
by_samples part n several few memory whole samples =
    let h = listed part n several few memory whole (map OneSample samples) (λ c x a i. refl) in
    rw (sym (samples_worked part samples (powered_parts n memory))) (h.row, h.words)
