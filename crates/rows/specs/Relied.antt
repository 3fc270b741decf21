-- What a run relies on of its row: no more than eight parts, numbers within their widths, and words for every part.
use Rattle.std.specs.Prelude.{ℕ, ◌*◌, Bool, ◌&&◌, eqb, leb, length}
use Rattle.chip.specs.State.{widths}
use Rattle.counts.specs.declared.part.Part.{Part}
use Rattle.counts.specs.Part.{depth_of}
use Rattle.rows.specs.declared.row.Row.{Row}
use Rattle.rows.specs.Step.{all_to}

abbrev pub widths_to : Part → Row → ℕ → Bool
widths_to part row i = all_to (widths part) row i

unfoldable pub fits : Part → ℕ → Row → Bool
fits part words row =
    leb row.count 8 && eqb (length row.states) 8 && leb (row.count * depth_of part) words && widths_to part row row.count
