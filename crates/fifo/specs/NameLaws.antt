-- Each number that a sample can get has its refusal: what is told by name is told by number.
use Rattle.std.specs.Prelude.{◌≡◌, refl}
use Rattle.chip.specs.declared.state.State.{State}
use Rattle.counts.specs.declared.part.Part.{Part}
use Rattle.pins.specs.declared.record.Pins.{Pins}
use Rattle.refusal_kinds.specs.Numbers.{number_of, of_number}
use Rattle.refusals.specs.Refuse.{refusal_of}
use Rattle.refusals.specs.RefusalLaws.{numbers}

pub refusal_numbered : (part : Part) (p : Pins) (s : State) → number_of (of_number (refusal_of part p s)) ≡ refusal_of part p s
refusal_numbered part p s = numbers (λ n. number_of (of_number n) ≡ n) part p s refl refl refl refl refl refl refl (λ e. refl)
