-- Samples that nothing refuses once there has been a Master Reset: resets, those in which no clock rises, and free ones.
use Rattle.std.specs.Prelude.{ℕ, true, false, not, ◌&&◌, ◌≡◌, refl}
use Rattle.std.proofs.Math.Bool.{and-eq-true_iff, and-false}
use Rattle.std.proofs.lemmas.Bool.{not-true}
use Rattle.counts.specs.declared.part.Part.{Part}
use Rattle.counts.specs.Either.{either}
use Rattle.pins.specs.declared.record.Pins.{Pins}
use Rattle.sides.specs.Read.{retransmits}
use Rattle.chip.specs.declared.state.State.{State}
use Rattle.chip.specs.Quiet.{clock_rises, quiet}
use Rattle.chip.specs.QuietLaws.{NoRise, no_rise}
use Rattle.refusals.specs.Free.{free}
use Rattle.refusals.specs.Refuse.{from_six, refusal_of, refuses_eight, refuses_nine, refuses_seven, refuses_six, refuses_ten, refuses_twelve}

-- 6 to 10 and 12 do not apply in a reset
pub reset_taken : (part : Part) (p : Pins) (s : State) → s.started ≡ true → p.mrs && p.prs ≡ false → refusal_of part p s ≡ 0
unfolding refusal_of
reset_taken part p s f e = simp (f, e)

-- with a Master Reset before, a sample is taken where no row from 6 on holds
no_row : (part : Part) (p : Pins) (s : State) → s.started ≡ true → from_six part p s ≡ 0 → refusal_of part p s ≡ 0
unfolding refusal_of
no_row part p s started none = simp (started, none) (either (λ (k : ℕ). k ≡ 0) _ 0 0 refl refl)

none_at_rest : (part : Part) (p : Pins) (s : State) → NoRise p s → from_six part p s ≡ 0
unfolding refuses_six refuses_seven refuses_eight refuses_nine refuses_ten refuses_twelve retransmits
none_at_rest part p s e = simp (e.write, e.read)

pub quiet_free : (part : Part) (p : Pins) (s : State) → s.started ≡ true → quiet p s ≡ true → refusal_of part p s ≡ 0
unfolding quiet
quiet_free part p s started e =
    let calm = not-true (clock_rises p s) ((and-eq-true_iff (p.mrs && p.prs) (not (clock_rises p s))).0 e).1 in
    no_row part p s started (none_at_rest part p s (no_rise p s calm))

pub free_taken : (part : Part) (p : Pins) (s : State) → free p s ≡ true → refusal_of part p s ≡ 0
unfolding free refuses_six refuses_seven refuses_eight refuses_nine refuses_ten refuses_twelve retransmits
free_taken part p s e =
    let seen = (and-eq-true_iff _ _).0 e in
    let settled = (and-eq-true_iff _ _).0 seen.0 in
    let rt = (and-eq-true_iff _ _).0 settled.0 in
    let ld = (and-eq-true_iff _ _).0 rt.0 in
    no_row part p s ld.0 (simp (ld.1, rt.1, not-true p.unsettled settled.1, seen.1, and-false))
