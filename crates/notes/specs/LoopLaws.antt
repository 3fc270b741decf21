-- The loop of a run, whichever model it works: what is still to be done from a sample on is what was to be done from the start.
use Rattle.std.specs.Prelude.{ℕ, ◌+◌, ◌-◌, ◌≤◌, ◌<◌, Bool, true, false, not, List, ◌≢◌, ◌≡◌, refl}
use Rattle.std.proofs.Common.{true≢false, subst, ◌∙◌, eq-eqb, arith}
use Rattle.std.proofs.Math.Path.{sym, ap}
use Rattle.std.proofs.Math.ListN.{length}
use Rattle.std.proofs.Math.Nat.{sub-zero}
use Rattle.pins.specs.Trace.{items_from}
use Rattle.pins.specs.TraceLaws.{items_next}
use Rattle.notes.specs.Fold.{Ended, Ends, Progress, Stepping, Turn, accepted_after, ended, folded, marks_after, stops}
use Rattle.notes.specs.NoteLaws.{accepted_most, marks_length}

-- what a run may rely on: a refused sample moves nothing, a state that fits goes on to fit, and memory and rooms keep their size
pub record Steady {X S M L : Type 0} (step : Stepping X S M) (fits : S → Bool) (size : M → L) : Type 0 where
  pub still : (x : X) (s : S) (memory : M) → (step x s memory).number ≢ 0 → ((step x s memory).state ≡ s) × ((step x s memory).memory ≡ memory)
  pub keeps : (x : X) (s : S) (memory : M) → fits s ≡ true → fits (step x s memory).state ≡ true
  pub sizes : (x : X) (s : S) (memory : M) → size (step x s memory).memory ≡ size memory
  pub rooms : (x : X) (s : S) (memory : M) (index : ℕ) (room : List ℕ) → length ((step x s memory).answers index room) ≡ length room

pub stopped_number : (lenient : Bool) (number : ℕ) → stops lenient number ≡ true → number ≢ 0
stopped_number true number s none = true≢false (sym s)
stopped_number false number s none = true≢false (sym s ∙ ap not (eq-eqb number 0 none))

pub ends_by : {S M R : Type 0} {ran : Ended S M → R} {a e : Ended S M} {r : R} {memory : M} {answers marks : List ℕ} → a ≡ e
    → Ends ran e r memory answers marks → Ends ran a r memory answers marks
ends_by {S = S} {M = M} {ran = ran} {r = r} {memory = memory} {answers = answers} {marks = marks} e x =
    subst (λ (a : Ended S M). Ends ran a r memory answers marks) (sym e) x

pub ends : {S M R : Type 0} {ran : Ended S M → R} {e : Ended S M} {number index : ℕ} {g : Progress S M} → e ≡ ended number index g
    → Ends ran e (ran (ended number index g)) g.memory g.answers g.marks
ends e = ends_by e (record { strict = record { result = refl; words = refl; room = refl }; marked = refl })

-- refused before any sample
pub turned_away_lem : {S M R : Type 0} {ran : Ended S M → R} {e : Ended S M} {number : ℕ} {g : Progress S M} {r : R} → e ≡ ended number 0 g
    → r ≡ ran (ended number 0 g) → Ends ran e r g.memory g.answers g.marks
turned_away_lem e f = rw f (ends e)

module _ {X S M L : Type 0} (lenient : Bool) (step : Stepping X S M) (last : ℕ) (item : ℕ → X) (whole : ℕ) (fits : S → Bool) (size : M → L)
    (start : Progress S M) where
  abbrev pub all : Ended S M
  all = folded lenient step last (items_from item 0 whole) 0 start

  pub record Going (g : Progress S M) (index : ℕ) : Type 0 where
    pub below : index ≤ whole
    pub counted : g.accepted ≤ index
    pub fitting : fits g.state ≡ true
    pub words : size g.memory ≡ size start.memory
    pub room : length g.answers ≡ length start.answers
    pub marked : length g.marks ≡ length start.marks
    pub same : folded lenient step last (items_from item index (whole - index)) index g ≡ all

  pub going : fits start.state ≡ true → start.accepted ≡ 0 → Going start 0
  going e z = record { below = omega arith; counted = omega arith; fitting = e; words = refl; room = refl; marked = refl; same = rw sub-zero refl }

  module _ {g : Progress S M} {index : ℕ} (inv : Going g index) where
    -- past the last sample
    pub ended_now : {R : Type 0} (ran : Ended S M → R) {number : ℕ} → whole ≤ index → number ≡ last
        → Ends ran all (ran (ended number index g)) g.memory g.answers g.marks
    unfolding folded items_from
    ended_now ran past n =
        let none : whole - index ≡ 0 = omega (arith, inv.below) in
        rw n (ends (sym (rw none at inv.same)))

    -- at a sample: what its step gave, its number, and whether the run stops there
    module _ (steady : Steady step fits size) (below : index < whole) {t : Turn S M} (e : step (item index) g.state g.memory ≡ t)
        {number : ℕ} (n : number ≡ t.number) {stop : Bool} (s : stop ≡ stops lenient number) where
      told : {is : Bool} → stop ≡ is → stops lenient t.number ≡ is
      told h = rw (← n) (sym s ∙ h)

      pub stopped_now : {R : Type 0} (ran : Ended S M → R) → stop ≡ true
          → Ends ran all
          (ran (ended number index (record { state = t.state; accepted = g.accepted; memory = t.memory; answers = g.answers; marks = g.marks })))
          t.memory g.answers g.marks
      unfolding folded
      stopped_now ran stopped =
          let here = told stopped in
          let refused : (step (item index) g.state g.memory).number ≢ 0 =
          λ none. stopped_number lenient t.number here (ap (λ (u : Turn S M). u.number) (sym e) ∙ none) in
          let still = steady.still (item index) g.state g.memory refused in
          let state : t.state ≡ g.state = ap (λ (u : Turn S M). u.state) (sym e) ∙ still.0 in
          let memory : t.memory ≡ g.memory = ap (λ (u : Turn S M). u.memory) (sym e) ∙ still.1 in
          rw n
          (ends (sym (rw (items_next item index whole below, e, here) at inv.same)
          ∙ (λ i. ended t.number index (record { state = sym state i; accepted = g.accepted; memory = sym memory i; answers = g.answers; marks = g.marks }))))

      pub turned_now : {accepted : ℕ} {answers marks : List ℕ} → stop ≡ false → answers ≡ t.answers index g.answers
          → marks ≡ marks_after lenient number index g.marks → accepted ≡ accepted_after number g.accepted
          → Going (record { state = t.state; accepted = accepted; memory = t.memory; answers = answers; marks = marks }) (index + 1)
      unfolding folded
      turned_now goes l k m =
          rw (l, k, m, n)
          (record {
            below = omega arith;
            counted = accepted_most t.number g.accepted index inv.counted;
            fitting = ap (λ (u : Turn S M). fits u.state) (sym e) ∙ steady.keeps (item index) g.state g.memory inv.fitting;
            words = ap (λ (u : Turn S M). size u.memory) (sym e) ∙ steady.sizes (item index) g.state g.memory ∙ inv.words;
            room = ap (λ (u : Turn S M). length (u.answers index g.answers)) (sym e) ∙ steady.rooms (item index) g.state g.memory index g.answers ∙ inv.room;
            marked = marks_length lenient t.number index g.marks ∙ inv.marked;
            same = rw (items_next item index whole below, e, told goes) at inv.same;
          })
