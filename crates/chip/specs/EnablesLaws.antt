-- Enables before retransmit, paper 02, order 3: which fall of RT is clean, and that every sample that is taken is remembered.
use Rattle.std.specs.Prelude.{ℕ, Bool, true, false, not, cond, ◌&&◌, ◌⊎◌, ◌↔◌, ◌≡◌}
use Rattle.std.proofs.Common.{true≢false, inl, inr, ⊎_elim}
use Rattle.std.proofs.Math.Path.{refl}
use Rattle.std.proofs.lemmas.Bool.{not-true}
use Rattle.counts.specs.declared.part.Part.{Part}
use Rattle.counts.specs.Either.{either}
use Rattle.pins.specs.declared.record.Pins.{Pins}
use Rattle.chip.specs.declared.enables.Enables.{Enables}
use Rattle.chip.specs.declared.state.State.{State}
use Rattle.chip.specs.Advance.{running, state_after}
use Rattle.chip.specs.Enables.{enables_after, last_fall_clean, rt_falls}
use Rattle.chip.specs.Levels.{BothHigh, Fall, High, Low, Unclean}
use Rattle.chip.specs.Reset.{cleared, master_reset, partial_reset}
use Rattle.chip.specs.Tells.{Tells, yes, no, both, fails, four, high, high_where, low}

unclean_by : {Falls Enabled : Type 0} {falls enabled : Bool} (clean : Bool) → Tells Falls falls → Tells Enabled enabled
    → Tells ((Falls × ¬ Enabled) ⊎ ((¬ Falls) × Low clean)) (not (cond falls enabled clean))
unclean_by clean (yes f) (yes e) = no (⊎_elim (λ x. x.1 e) (λ x. x.0 f))
unclean_by clean (yes f) (no e) = yes (inl (f, e))
unclean_by true (no f) t = no (⊎_elim (λ x. f x.0) (λ x. true≢false x.1))
unclean_by false (no f) t = yes (inr (f, refl))

module _ (p : Pins) (last : Enables) where
  fall : Tells (Fall p last) (rt_falls p last)
  fall = both (high last.rt) (low p.rt)

  -- with the levels spelt out, so that each theorem fails alone where `both_high` is another
  enabled : Tells (BothHigh p last) (p.ren && p.wen && last.ren && last.wen)
  enabled = four (high p.ren) (high p.wen) (high last.ren) (high last.wen)

  pub unclean : Tells (Unclean p last) (not (last_fall_clean p last))
  unfolding last_fall_clean
  unclean = unclean_by last.clean fall enabled

  -- both ways
  pub unclean_told : Low (last_fall_clean p last) ↔ Unclean p last
  unfolding last_fall_clean
  unclean_told =
      let by : Tells (Unclean p last) (not (last_fall_clean p last)) = unclean_by last.clean fall enabled in
      let told = high_where by in (λ e. told.0 (simp e), λ u. not-true (last_fall_clean p last) (told.1 u))

  pub fall_judged : Fall p last → High (enables_after p last).clean ↔ BothHigh p last
  unfolding enables_after last_fall_clean
  fall_judged f = simp ((high_where fall).1 f) (high_where enabled)

  -- and it stays judged as it was until RT falls again, whatever the enables do
  pub fall_kept : ¬ Fall p last → (enables_after p last).clean ≡ last.clean
  unfolding enables_after last_fall_clean
  fall_kept n = simp (fails fall n)

  -- no other pin has a say, neither MRS nor PRS
  pub three_pins : (q : Pins) → q.rt ≡ p.rt → q.ren ≡ p.ren → q.wen ≡ p.wen → enables_after q last ≡ enables_after p last
  unfolding enables_after last_fall_clean
  three_pins q rt ren wen = rw (rt, ren, wen) refl

-- in a reset as outside it
pub enables_moved : (part : Part) (p : Pins) (fetched : ℕ) (s : State) → (state_after part p fetched s).enables ≡ enables_after p s.enables
unfolding state_after running master_reset partial_reset cleared
enables_moved part p fetched s =
    let moved : State → Type 0 = λ t. t.enables ≡ enables_after p s.enables in
    either moved p.mrs _ (master_reset p s) (either moved p.prs (running part p fetched s) (partial_reset p s) refl refl) refl
