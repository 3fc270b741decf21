-- To heed the left part's flag alone is too little for reads: two traces in which a read is asked while only that part shows a word ready, and
-- which leave the parts apart.
use Rattle.std.specs.Prelude.{true, false, List, [], ◌∷◌, ◌≡◌, refl}
use Rattle.halves.specs.Two.{two}
use Rattle.history.specs.Asked.{reads_word, taken_next}
use Rattle.history.specs.Tight.{tried}
use Rattle.abreast.specs.Abreast.{Records}
use Rattle.abreast.specs.Seen.{seen, seen_from}

-- a word written, and two rises of RCLK, the first of which meets the skew at the left part only; then a read by EF
unfoldable pub read_by_ef : List Records
read_by_ef =
    two 0x4D980000 0x4D980000 ∷ two 0xE7980041 0xE7980042 ∷ two 0xFF980000 0xFF900000 ∷ two 0xEF980000 0xEF980000 ∷ two 0xFF980000 0xFF980000
    ∷ two 0xEF980000 0xEF980000 ∷ two 0xFB980000 0xFB980000 ∷ []

-- in FWFT, where OR takes a rise more
unfoldable pub read_by_or : List Records
read_by_or =
    two 0x4DD80000 0x4DD80000 ∷ two 0xE7980041 0xE7980042 ∷ two 0xFF980000 0xFF900000 ∷ two 0xEF980000 0xEF980000 ∷ two 0xFF980000 0xFF980000
    ∷ two 0xEF980000 0xEF980000 ∷ two 0xFF980000 0xFF980000 ∷ two 0xEF980000 0xEF980000 ∷ two 0xFB980000 0xFB980000 ∷ []

pub apart_by_ef : seen read_by_ef
    ≡ record { together = true; room = true; word = false; left_room = true; left_word = true; accepted = (1, 1); taken = (1, 0) }
unfolding tried seen_from taken_next reads_word read_by_ef
apart_by_ef = refl

pub apart_by_or : seen read_by_or
    ≡ record { together = true; room = true; word = false; left_room = true; left_word = true; accepted = (1, 1); taken = (1, 0) }
unfolding tried seen_from taken_next reads_word read_by_or
apart_by_or = refl
