-- Retransmit, sentence by sentence: when a setup is over and when the write side has seen a retransmit.
use Rattle.std.specs.Prelude.{Bool, true, false, ◌≡◌, refl}
use Rattle.views.specs.declared.retransmit.Setup.{Setup}
use Rattle.views.specs.declared.retransmit.View.{View}
use Rattle.views.specs.Retransmit.{is_over, is_seen, just_begun, setup_after, view_after}

-- the setup lasts through the first rise after a retransmit and is over at the second, and only before the first has it just begun
pub over_at_second : (setup : Setup)
    → let begun = setup_after true false setup in let first = setup_after true true begun in let second = setup_after true true first in
    (just_begun begun ≡ true) × (is_over begun ≡ false) × (just_begun first ≡ false) × (is_over first ≡ false) × (is_over second ≡ true)
over_at_second setup = (refl, refl, refl, refl, refl)

-- the write side has not seen a retransmit at its first rise that takes a count from after it, and has at the next
pub seen_at_second : (rises after later : Bool) (view : View)
    → let unseen = view_after true rises after view in let first = view_after false true true unseen in
    (is_seen unseen ≡ false) × (view_after false true false unseen ≡ unseen) × (is_seen first ≡ false) × (is_seen (view_after false true later first) ≡ true)
seen_at_second rises after later view = (refl, refl, refl, refl)
