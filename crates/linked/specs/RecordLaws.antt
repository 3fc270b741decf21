-- A record of four bytes that is put together from pins has these pins.
use Rattle.std.specs.Prelude.{ℕ, suc, ◌+◌, ◌*◌, ◌/◌, ◌%◌, ◌^◌, ◌≤◌, ◌<◌, Bool, true, false, cond, ◌≡◌, refl, eqb}
use Rattle.std.proofs.Common.{sym, ap, ◌∙◌, shr-shr, zero-add, add-one, arith}
use Rattle.pins.specs.declared.record.Pins.{Pins}
use Rattle.pins.specs.Laws.{record_of}
use Rattle.pins.specs.Record.{at, bit, pins_of, word}

-- a level as a number
abbrev digit : Bool → ℕ
digit level = cond level 1 0

weighed : (k : ℕ) (level : Bool) → at k level ≡ digit level * 2 ^ k
weighed k true = omega arith
weighed k false = omega arith

digit_small : (level : Bool) → digit level ≤ 1
digit_small true = omega arith
digit_small false = omega arith

told : (level : Bool) → eqb (digit level) 1 ≡ level
told true = refl
told false = refl

-- the bits from k on are those of `above` and then a level: this is bit k, and those are the bits from k + 1 on
one_up : (k x above : ℕ) (level : Bool) → x / 2 ^ k ≡ above * 2 + digit level → (bit k x ≡ level) × (x / 2 ^ suc k ≡ above)
one_up k x above level e =
    let small = digit_small level in
    let d : x / 2 ^ k % 2 ≡ digit level = omega arith in
    let half : x / 2 ^ k / 2 ≡ x / 2 ^ suc k = shr-shr x k 1 ∙ ap (λ (i : ℕ). x / 2 ^ i) (add-one k) in
    (rw d (told level), sym half ∙ omega arith)

-- the number of levels one after the other, the first of most weight, and D below them
apart : (levels d x : ℕ) → x ≡ levels * 2 ^ 18 + word d → (x / 2 ^ 18 ≡ levels) × (word x ≡ word d)
apart levels d x e = (omega arith, omega arith)

module _ (p : Pins) where
  abbrev to_wclk : ℕ
  to_wclk = (digit p.mrs * 2 + digit p.prs) * 2 + digit p.wclk

  abbrev to_ren : ℕ
  to_ren = ((to_wclk * 2 + digit p.rclk) * 2 + digit p.wen) * 2 + digit p.ren

  abbrev to_rt : ℕ
  to_rt = ((to_ren * 2 + digit p.ld) * 2 + digit p.sen) * 2 + digit p.rt

  abbrev to_write : ℕ
  to_write = ((to_rt * 2 + digit p.fwft) * 2 + digit p.oe) * 2 + digit p.skew.write

  abbrev to_mark : ℕ
  to_mark = (to_write * 2 + digit p.skew.read) * 2 + digit p.unsettled

  joined : record_of p ≡ to_mark * 2 ^ 18 + word p.d
  unfolding record_of
  joined =
      simp (
        weighed 31,
        weighed 30,
        weighed 29,
        weighed 28,
        weighed 27,
        weighed 26,
        weighed 25,
        weighed 24,
        weighed 23,
        weighed 22,
        weighed 21,
        weighed 20,
        weighed 19,
        weighed 18,
      ) (omega arith)

  pub record_pins : p.d < 2 ^ 18 → pins_of (record_of p) ≡ p
  record_pins small =
      let x = record_of p in
      let base = apart to_mark p.d x joined in
      let mark = one_up 18 x _ p.unsettled base.0 in
      let read = one_up 19 x _ p.skew.read mark.1 in
      let write = one_up 20 x _ p.skew.write read.1 in
      let oe = one_up 21 x _ p.oe write.1 in
      let fwft = one_up 22 x _ p.fwft oe.1 in
      let rt = one_up 23 x _ p.rt fwft.1 in
      let sen = one_up 24 x _ p.sen rt.1 in
      let ld = one_up 25 x _ p.ld sen.1 in
      let ren = one_up 26 x _ p.ren ld.1 in
      let wen = one_up 27 x _ p.wen ren.1 in
      let rclk = one_up 28 x _ p.rclk wen.1 in
      let wclk = one_up 29 x _ p.wclk rclk.1 in
      let prs = one_up 30 x _ p.prs wclk.1 in
      let mrs = one_up 31 x 0 p.mrs (prs.1 ∙ sym (zero-add (digit p.mrs))) in
      let d : word x ≡ p.d = base.1 ∙ omega arith in
      λ i. record {
        mrs = mrs.0 i;
        prs = prs.0 i;
        wclk = wclk.0 i;
        rclk = rclk.0 i;
        wen = wen.0 i;
        ren = ren.0 i;
        ld = ld.0 i;
        sen = sen.0 i;
        rt = rt.0 i;
        fwft = fwft.0 i;
        oe = oe.0 i;
        skew = record { write = write.0 i; read = read.0 i };
        unsettled = mark.0 i;
        d = d i;
      }
