-- Nor is it enough for writes: two traces in which a write is asked while only the left part shows room.
use Rattle.std.specs.Prelude.{true, false, List, [], ◌∷◌, ◌≡◌, refl}
use Rattle.std.proofs.Common.{◌∙◌}
use Rattle.halves.specs.Two.{two}
use Rattle.history.specs.Asked.{reads_word, taken_next}
use Rattle.history.specs.Tight.{tried}
use Rattle.abreast.specs.Abreast.{Records}
use Rattle.abreast.specs.Filled.{filled_then, seen_filled_lem}
use Rattle.abreast.specs.Seen.{seen, seen_from}

-- two parts that are full: two rises of RCLK, a read, and two rises of WCLK, the first of which meets the skew at the left part only; then
-- a write by FF
unfoldable pub write_by_ff : List Records
write_by_ff =
    two 0xDF980000 0xDF980000 ∷ two 0xCF980000 0xCF980000 ∷ two 0xDF980000 0xDF980000 ∷ two 0xCF980000 0xCF980000 ∷ two 0xDB980000 0xDB980000
    ∷ two 0xCF980000 0xCF980000 ∷ two 0xEF980000 0xEF880000 ∷ two 0xCF980000 0xCF980000 ∷ two 0xEF980000 0xEF980000 ∷ two 0xCF980000 0xCF980000
    ∷ two 0xE7980041 0xE7980042 ∷ []

-- by IR, where the third rise of RCLK delivers a word without a read
unfoldable pub write_by_ir : List Records
write_by_ir =
    two 0xDF980000 0xDF980000 ∷ two 0xCF980000 0xCF980000 ∷ two 0xDF980000 0xDF980000 ∷ two 0xCF980000 0xCF980000 ∷ two 0xDF980000 0xDF980000
    ∷ two 0xCF980000 0xCF980000 ∷ two 0xEF980000 0xEF880000 ∷ two 0xCF980000 0xCF980000 ∷ two 0xEF980000 0xEF980000 ∷ two 0xCF980000 0xCF980000
    ∷ two 0xE7980041 0xE7980042 ∷ []

pub apart_by_ff : seen (filled_then false write_by_ff)
    ≡ record { together = true; room = false; word = true; left_room = true; left_word = true; accepted = (8193, 8192); taken = (1, 1) }
unfolding tried seen_from taken_next reads_word write_by_ff
apart_by_ff = seen_filled_lem false write_by_ff ∙ refl

pub apart_by_ir : seen (filled_then true write_by_ir)
    ≡ record { together = true; room = false; word = true; left_room = true; left_word = true; accepted = (8193, 8192); taken = (0, 0) }
unfolding tried seen_from taken_next reads_word write_by_ir
apart_by_ir = seen_filled_lem true write_by_ir ∙ refl
