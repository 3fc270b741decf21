-- Order 4: each mark at its bit of the three bytes, in plain figures, and the bits that are to be zero.
use Rattle.std.specs.Prelude.{ℕ, ◌/◌, ◌%◌, ◌<◌, true, ◌≡◌, refl}
use Rattle.std.proofs.Common.{eq-eqb, eqb-true, lt-ltb, ltb-true}
use Rattle.counts.specs.Both.{both}
use Rattle.pins.specs.Laws.{AtBit, at_bit}
use Rattle.pins.specs.Record.{pins_of}
use Rattle.links.specs.Record.{links_of, marks_of, plain}

-- the part's own record, bit 23, and all of the three bytes
pub links_at_lem : (x more : ℕ) → ((links_of x more).pins ≡ pins_of x) × AtBit more 23 (links_of x more).clock × ((links_of x more).more ≡ more)
links_at_lem x more = (refl, at_bit more 23, refl)

-- part by part from bit 15 down, write and then read
pub marks_at : (more : ℕ) → let mark = marks_of more in
    AtBit more 15 (mark 0).write × AtBit more 14 (mark 0).read × AtBit more 13 (mark 1).write × AtBit more 12 (mark 1).read
    × AtBit more 11 (mark 2).write × AtBit more 10 (mark 2).read × AtBit more 9 (mark 3).write × AtBit more 8 (mark 3).read
    × AtBit more 7 (mark 4).write × AtBit more 6 (mark 4).read × AtBit more 5 (mark 5).write × AtBit more 4 (mark 5).read
    × AtBit more 3 (mark 6).write × AtBit more 2 (mark 6).read × AtBit more 1 (mark 7).write × AtBit more 0 (mark 7).read
marks_at more =
    let at = at_bit more in (at 15, at 14, at 13, at 12, at 11, at 10, at 9, at 8, at 7, at 6, at 5, at 4, at 3, at 2, at 1, at 0)

-- bits 22 to 16 as one number, which is to be 0
pub plain_told : (more : ℕ) → plain more ≡ true → (more / 65536 % 128 ≡ 0) × (more < 16777216)
plain_told more e = let all = both _ _ e in (eqb-true _ _ all.0, ltb-true _ _ all.1)

pub told_plain : (more : ℕ) → more / 65536 % 128 ≡ 0 → more < 16777216 → plain more ≡ true
told_plain more e l = simp (eq-eqb (more / 65536 % 128) 0 e, lt-ltb more 16777216 l)
