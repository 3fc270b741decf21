-- Order 4: what is turned away of a chain's record as a whole, and the least of the numbers that parts give.
use Rattle.std.specs.Prelude.{ℕ, Bool, not, cond, ◌&&◌, ◌||◌, eqb, ltb}
use Rattle.pins.specs.declared.record.Pins.{Pins}
use Rattle.links.specs.declared.record.Links.{Links}
use Rattle.links.specs.Record.{plain}

-- RT or LD LOW outside reset, whether or not a clock rises; or a Master Reset into Standard
unfoldable pub fourteen : Pins → Bool
fourteen p = p.mrs && p.prs && (not p.rt || not p.ld) || not p.mrs && not p.fwft

-- of two numbers the lower one, where 0 is none
unfoldable pub least : ℕ → ℕ → ℕ
least one other = cond (eqb one 0) other (cond (eqb other 0) one (cond (ltb one other) one other))

-- 4, 5 where any part has had no Master Reset, 14, and then the least number that a part gives
unfoldable pub whole_refusal : Links → Bool → ℕ → ℕ
whole_refusal x started parts =
    cond (plain x.more)
    (cond (x.pins.mrs && not started) 5
    (cond (fourteen x.pins) 14
    parts))
    4
