-- Order 4: what neighbours have at their pins, the wiring table line by line; and the numbers that the parts give.
use Rattle.std.specs.Prelude.{ℕ, zero, suc, ◌+◌, ◌-◌, ◌^◌, ◌<◌, Bool, true, false, ◌≡◌, refl, eqb, Option, Some, None}
use Rattle.std.proofs.Common.{ap, ◌∙◌, ltb-true, ne_eqb, mod-eq_of_lt, add-one, arith}
use Rattle.rows.specs.declared.row.Row.{Row}
use Rattle.rows.specs.Step.{shown_by, state_of, wired_to}
use Rattle.chip.specs.declared.state.State.{State}
use Rattle.chip.specs.Answer.{lines_of}
use Rattle.chip.specs.State.{widths}
use Rattle.chip.specs.Widths.{apart}
use Rattle.counts.specs.declared.part.Part.{Part}
use Rattle.counts.specs.declared.part.Part.TheVariants.{Idt72V255LA, Idt72V265LA}
use Rattle.links.specs.declared.record.Links.{Links}
use Rattle.links.specs.Wire.{wired}
use Rattle.offsets.specs.Reading.{shown, shown_fits}
use Rattle.pins.specs.declared.answer.Lines.{Lines}
use Rattle.pins.specs.declared.record.Pins.{Pins}
use Rattle.pins.specs.Record.{is_word, word}

-- these pins every part has from the record
pub record Shared (x : Links) (p : Pins) : Type 0 where
  pub mrs : p.mrs ≡ x.pins.mrs
  pub prs : p.prs ≡ x.pins.prs
  pub ld : p.ld ≡ x.pins.ld
  pub rt : p.rt ≡ x.pins.rt
  pub fwft : p.fwft ≡ x.pins.fwft

pub shared : (part : Part) (x : Links) (row : Row) (i : ℕ) → Shared x (wired_to part x row i)
unfolding wired_to wired
shared part x row i = record { mrs = refl; prs = refl; ld = refl; rt = refl; fwft = refl }

-- these a part has that is not the last,
pub record Handing (x : Links) (later : Lines) (p : Pins) : Type 0 where
  pub rclk : p.rclk ≡ x.clock
  pub ren : p.ren ≡ later.ff

pub handing : (part : Part) (x : Links) (row : Row) (k : ℕ) → suc k < row.count → Handing x (shown_by part row (suc k)) (wired_to part x row k)
unfolding wired_to wired
handing part x row k l =
    let inner : eqb (k + 1) row.count ≡ false = ne_eqb (k + 1) row.count (λ e. omega arith) in
    record { rclk = simp inner; ren = rw (inner, add-one k) }

-- and these one that is not the first
pub record Handed (x : Links) (earlier : Lines) (p : Pins) : Type 0 where
  pub wclk : p.wclk ≡ x.clock
  pub wen : p.wen ≡ earlier.ef
  pub d : p.d ≡ earlier.q
  pub unsettled : p.unsettled ≡ false

pub handed : (part : Part) (x : Links) (row : Row) (k : ℕ) → Handed x (shown_by part row k) (wired_to part x row (suc k))
unfolding wired_to wired
handed part x row k =
    let inner : eqb (suc k) 0 ≡ false = ne_eqb (suc k) 0 (λ e. omega arith) in
    let before : suc k - 1 ≡ k = omega arith in
    record { wclk = simp inner; wen = simp (inner, before); d = simp (inner, before); unsettled = simp inner }

-- what a part of passed widths shows on Q has 18 bits, an offset too
shown_narrow : (part : Part) (shows : Option ℕ) (output : ℕ) → shown_fits part shows ≡ true → is_word output ≡ true → shown shows output < 2 ^ 18
shown_narrow part None output f e = ltb-true output (2 ^ 18) e
shown_narrow Idt72V255LA (Some offset) output f e = let l = ltb-true offset (2 ^ 13) f in omega arith
shown_narrow Idt72V265LA (Some offset) output f e = let l = ltb-true offset (2 ^ 14) f in omega arith

pub lines_narrow : (part : Part) (s : State) → widths part s ≡ true → (lines_of part false s).q < 2 ^ 18
unfolding lines_of
lines_narrow part s e = let w = apart part s e in shown_narrow part s.reading.shows s.read.output w.shown w.output

pub wired_narrow : (part : Part) (x : Links) (row : Row) → x.pins.d < 2 ^ 18 → (i : ℕ) → ((k : ℕ) → k < i → widths part (state_of row k) ≡ true)
    → (wired_to part x row i).d < 2 ^ 18
unfolding wired_to wired
wired_narrow part x row narrow zero h = narrow
wired_narrow part x row narrow (suc k) h = rw (handed part x row k).d (lines_narrow part (state_of row k) (h k (omega arith)))

-- Q of a part that shows no offset is its output register
pub register_shown : (part : Part) (oe : Bool) (s : State) → widths part s ≡ true → s.reading.shows ≡ None
    → word (lines_of part oe s).q ≡ s.read.output
unfolding lines_of
register_shown part oe s e shows =
    ap (λ (what : Option ℕ). word (shown what s.read.output)) shows ∙ mod-eq_of_lt (ltb-true s.read.output (2 ^ 18) (apart part s e).output)
