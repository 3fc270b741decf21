-- Order 4: in a sample that a chain takes each part moves as the single part does on its own words, by the pins that are wired to it.
use Prim.Native.Nat.{ℕ, zero, suc, ◌*◌, ◌≤◌, ◌<◌}
use mathlib.Core.List.{List}
use Rattle.std.specs.Prelude.{◌≡◌, refl, drop, length, set, take}
use Rattle.std.proofs.Common.{sym, ◌∙◌, drop-drop, get_or-set_other, get_or-set_same, lt-ltb, suc-mul, arith}
use Rattle.std.proofs.Math.Path.{ap, subst}
use Rattle.std.proofs.Math.ListN.{get_or, length-set}
use Rattle.rows.specs.declared.row.Row.{Row}
use Rattle.rows.specs.Row.{with_state}
use Rattle.rows.specs.Step.{Moving, moved_part, moved_to, state_of, wired_to}
use Rattle.chip.specs.declared.state.State.{State}
use Rattle.chip.specs.Reset.{powered_up}
use Rattle.counts.specs.declared.part.Part.{Part}
use Rattle.counts.specs.Part.{depth_of}
use Rattle.fifo.specs.Sample.{After, taken}
use Rattle.links.specs.declared.record.Links.{Links}
use Rattle.pins.specs.declared.record.Pins.{Pins}
use Rattle.linked.specs.OwnWords.{after_earlier, after_further, after_length, after_own, own_only, own_words}
use Rattle.linked.specs.UpTo.{up_to}

-- one state put into a row, where there is a place for it
put_state : (row : Row) (i : ℕ) (s : State) → i < 8 → with_state row i s ≡ record { count = row.count; states = set row.states i s }
unfolding with_state
put_state row i s l = simp (lt-ltb i 8 l)

module _ (part : Part) (x : Links) (row : Row) (memory : List ℕ) where
  -- what the single part makes of the pins wired to part i
  abbrev pub alone : ℕ → After
  alone i = taken part (wired_to part x row i) (state_of row i) (own_words part memory i)

  -- the first j parts have moved, each as if alone; the states and the words of the others are as they were
  pub record FirstMoved (j : ℕ) (m : Moving) : Type 0 where
    pub count : m.row.count ≡ row.count
    pub places : length m.row.states ≡ length row.states
    pub size : length m.memory ≡ length memory
    pub state : (i : ℕ) → i < j → state_of m.row i ≡ (alone i).sampled.state
    pub words : (i : ℕ) → i < j → own_words part m.memory i ≡ (alone i).memory
    pub further : drop (j * depth_of part) m.memory ≡ drop (j * depth_of part) memory

  module _ (n : ℕ) (whole : length memory ≡ n * depth_of part) (places : length row.states ≡ 8) (few : n ≤ 8) where
    module _ (j : ℕ) (l : j < n) (m : Moving) (g : FirstMoved j m) where
      abbrev pins : Pins
      pins = wired_to part x row j

      abbrev there : State
      there = (taken part pins (state_of row j) (drop (j * depth_of part) m.memory)).sampled.state

      abbrev step : Moving
      step =
          let moved = moved_part part pins (state_of row j) (j * depth_of part) m.memory in
          record { row = record { count = m.row.count; states = set m.row.states j moved.state }; memory = moved.memory }

      still : own_words part m.memory j ≡ own_words part memory j
      unfolding own_words
      still = ap (take (depth_of part)) g.further

      own_state : there ≡ (alone j).sampled.state
      unfolding own_words
      own_state =
          (own_only part pins (state_of row j) (drop (j * depth_of part) m.memory)).state
          ∙ ap (λ (words : List ℕ). (taken part pins (state_of row j) words).sampled.state) still

      earlier_state : (i : ℕ) → i < j → get_or (set m.row.states j there) i powered_up ≡ (alone i).sampled.state
      earlier_state i earlier = get_or-set_other m.row.states j i there powered_up (λ e. omega arith) ∙ g.state i earlier

      next_state : get_or (set m.row.states j there) j powered_up ≡ (alone j).sampled.state
      next_state = get_or-set_same m.row.states j there powered_up (omega (arith, g.places)) ∙ own_state

      earlier_words : (i : ℕ) → i < j → own_words part step.memory i ≡ (alone i).memory
      unfolding moved_part
      earlier_words i earlier = after_earlier part pins (state_of row j) m.memory j n (g.size ∙ whole) l i earlier ∙ g.words i earlier

      next_words : own_words part step.memory j ≡ (alone j).memory
      unfolding moved_part
      next_words =
          after_own part pins (state_of row j) m.memory j n (g.size ∙ whole) l
          ∙ ap (λ (words : List ℕ). (taken part pins (state_of row j) words).memory) still

      others : drop (suc j * depth_of part) m.memory ≡ drop (suc j * depth_of part) memory
      others =
          rw (suc-mul j (depth_of part))
          (sym (drop-drop (depth_of part) (j * depth_of part) m.memory) ∙ ap (drop (depth_of part)) g.further
          ∙ drop-drop (depth_of part) (j * depth_of part) memory)

      one_moved_lem : FirstMoved (suc j) step
      unfolding moved_part
      one_moved_lem = record {
        count = g.count;
        places = length-set m.row.states j there ∙ g.places;
        size = after_length part pins (state_of row j) m.memory j n (g.size ∙ whole) l ∙ g.size;
        state = up_to (λ (i : ℕ). get_or (set m.row.states j there) i powered_up ≡ (alone i).sampled.state) j earlier_state next_state;
        words = up_to (λ (i : ℕ). own_words part step.memory i ≡ (alone i).memory) j earlier_words next_words;
        further = after_further part pins (state_of row j) m.memory j n (g.size ∙ whole) l ∙ others;
      }

    pub first_moved : (j : ℕ) → j ≤ n → FirstMoved j (moved_to part x row memory j)
    unfolding moved_to
    first_moved zero l = record {
      count = refl;
      places = refl;
      size = refl;
      state = λ i k. absurd (omega arith);
      words = λ i k. absurd (omega arith);
      further = refl;
    }
    first_moved (suc j) l =
        let earlier = moved_to part x row memory j in
        let moved = moved_part part (wired_to part x row j) (state_of row j) (j * depth_of part) earlier.memory in
        subst (λ (r : Row). FirstMoved (suc j) (record { row = r; memory = moved.memory }))
        (sym (put_state earlier.row j moved.state (omega arith)))
        (one_moved_lem j l earlier (first_moved j (omega arith)))
