-- Order 4: what a sample has passed that is not refused 4, 5 or 14, and that a chain takes a sample only where every part does.
use Prim.Native.Nat.{ℕ, zero, suc, ◌<◌}
use Rattle.std.specs.Prelude.{Bool, true, false, not, cond, ◌&&◌, ◌||◌, ◌≡◌, refl, eqb, ltb}
use Rattle.std.proofs.Common.{true≢false, sym, eqb-true, arith}
use Rattle.std.proofs.lemmas.Bool.{eqb-false}
use Rattle.rows.specs.declared.row.Row.{Row}
use Rattle.rows.specs.Step.{chain_refusal, judged_to, started_to, state_of, wired_to}
use Rattle.rows.specs.StepLaws.{all_at}
use Rattle.counts.specs.declared.part.Part.{Part}
use Rattle.links.specs.declared.record.Links.{Links}
use Rattle.links.specs.Record.{plain}
use Rattle.links.specs.Refuse.{fourteen, least, whole_refusal}
use Rattle.refusals.specs.Refuse.{refusal_of}
use Rattle.history.specs.Onlooker.{outside}
use Rattle.linked.specs.UpTo.{up_to}

-- with 4, 5 and 14 passed: outside a Master Reset every part has had one, outside reset RT and LD are HIGH, and a Master Reset is into FWFT
pub record Passed (x : Links) (started : Bool) : Type 0 where
  pub begun : x.pins.mrs ≡ true → started ≡ true
  pub high : outside x.pins ≡ true → (x.pins.rt ≡ true) × (x.pins.ld ≡ true)
  pub fwft : x.pins.mrs ≡ false → x.pins.fwft ≡ true

begun_by : (mrs started : Bool) → mrs && not started ≡ false → mrs ≡ true → started ≡ true
begun_by mrs true e h = refl
begun_by true false e h = absurd (true≢false e)
begun_by false false e h = absurd (true≢false (sym h))

modes_by : (mrs prs rt ld fwft : Bool) → mrs && prs && (not rt || not ld) || not mrs && not fwft ≡ false
    → (mrs && prs ≡ true → (rt ≡ true) × (ld ≡ true)) × (mrs ≡ false → fwft ≡ true)
modes_by false prs rt ld true e = (λ h. absurd (true≢false (sym h)), λ h. refl)
modes_by false prs rt ld false e = absurd (true≢false e)
modes_by true false rt ld fwft e = (λ h. absurd (true≢false (sym h)), λ h. absurd (true≢false h))
modes_by true true true true fwft e = (λ h. (refl, refl), λ h. absurd (true≢false h))
modes_by true true true false fwft e = absurd (true≢false e)
modes_by true true false ld fwft e = absurd (true≢false e)

-- the number of a sample: 4, 5, 14, or with those passed the parts' own
whole_by : (P : ℕ → Type 0) (x : Links) (started : Bool) (parts : ℕ) (four five modes : Bool) → x.pins.mrs && not started ≡ five
    → fourteen x.pins ≡ modes → P 4 → P 5 → P 14 → (Passed x started → P parts) → P (cond four (cond five 5 (cond modes 14 parts)) 4)
unfolding fourteen
whole_by P x started parts false five modes e f p4 p5 p14 rest = p4
whole_by P x started parts true true modes e f p4 p5 p14 rest = p5
whole_by P x started parts true false true e f p4 p5 p14 rest = p14
whole_by P x started parts true false false e f p4 p5 p14 rest =
    let p = x.pins in
    let modes = modes_by p.mrs p.prs p.rt p.ld p.fwft f in
    rest (record { begun = begun_by p.mrs started e; high = modes.0; fwft = modes.1 })

pub whole_numbers : (P : ℕ → Type 0) (x : Links) (started : Bool) (parts : ℕ) → P 4 → P 5 → P 14 → (Passed x started → P parts)
    → P (whole_refusal x started parts)
unfolding whole_refusal
whole_numbers P x started parts =
    whole_by P x started parts (plain x.more) (x.pins.mrs && not started) (fourteen x.pins) refl refl

-- of two numbers the lower is 0 only where both are
least_by : (one other : ℕ) (a b c : Bool) → eqb one 0 ≡ a → eqb other 0 ≡ b → cond a other (cond b one (cond c one other)) ≡ 0
    → (one ≡ 0) × (other ≡ 0)
least_by one other true b c f h e = (eqb-true one 0 f, e)
least_by one other false true c f h e = absurd (eqb-false one 0 f e)
least_by one other false false true f h e = absurd (eqb-false one 0 f e)
least_by one other false false false f h e = absurd (eqb-false other 0 h e)

least_none : (one other : ℕ) → least one other ≡ 0 → (one ≡ 0) × (other ≡ 0)
unfolding least
least_none one other = least_by one other (eqb one 0) (eqb other 0) (ltb one other) refl refl

module _ (part : Part) (x : Links) (row : Row) where
  abbrev pub refusal_at : ℕ → ℕ
  refusal_at i = refusal_of part (wired_to part x row i) (state_of row i)

  pub judged_none : (j : ℕ) → judged_to part x row j ≡ 0 → (i : ℕ) → i < j → refusal_at i ≡ 0
  unfolding judged_to
  judged_none zero e i l = absurd (omega arith)
  judged_none (suc j) e i l =
      let apart = least_none (judged_to part x row j) (refusal_at j) e in
      up_to (λ (k : ℕ). refusal_at k ≡ 0) j (judged_none j apart.0) apart.1 i l

  pub started_each : (j : ℕ) → started_to row j ≡ true → (i : ℕ) → i < j → (state_of row i).started ≡ true
  started_each j e i l = all_at (λ s. s.started) row j i e l

  -- taken: 4, 5 and 14 are passed, and each part takes what is wired to it
  pub record Free : Type 0 where
    pub passed : Passed x (started_to row row.count)
    pub each : (i : ℕ) → i < row.count → refusal_at i ≡ 0

  pub free_each : chain_refusal part x row ≡ 0 → Free
  unfolding chain_refusal
  free_each =
      whole_numbers (λ (number : ℕ). number ≡ 0 → Free) x (started_to row row.count) (judged_to part x row row.count)
      (λ e. absurd (omega arith)) (λ e. absurd (omega arith)) (λ e. absurd (omega arith))
      (λ passed none. record { passed = passed; each = judged_none row.count none })
