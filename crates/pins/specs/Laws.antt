-- Trace sample: each pin at its bit of the record, each line at its bit of the answer, and the record put together again from its levels.
use Rattle.std.specs.Prelude.{ℕ, suc, ◌+◌, ◌*◌, ◌/◌, ◌%◌, ◌^◌, ◌≤◌, ◌<◌, ◌≡◌, refl, Bool, true, false, cond, ◌≢◌, ◌↔◌, eqb}
use Rattle.std.proofs.Common.{sym, ap, ◌∙◌, eq-eqb, eqb-true, shr-shr, mod-lt, add-mul, mul_assoc, add-one, arith}
use Rattle.std.proofs.lemmas.Bool.{eqb-false}
use Rattle.std.proofs.Math.Nat.{pow-succ'}
use Rattle.pins.specs.declared.answer.Lines.{Lines}
use Rattle.pins.specs.declared.record.Pins.{Pins}
use Rattle.pins.specs.Record.{at, bit, pins_of, word}
use Rattle.pins.specs.Answer.{given, packed}

-- a level is HIGH exactly where bit k of x is 1
abbrev pub AtBit : ℕ → ℕ → Bool → Type 0
AtBit x k level = (level ≡ true) ↔ (x / 2 ^ k % 2 ≡ 1)

pub at_bit : (x k : ℕ) → AtBit x k (bit k x)
at_bit x k = (eqb-true _ _, eq-eqb _ _)

-- the mark of D is bit 18, D is bits 17 to 0
pub pins_at : (x : ℕ) → let p = pins_of x in
    AtBit x 31 p.mrs × AtBit x 30 p.prs × AtBit x 29 p.wclk × AtBit x 28 p.rclk × AtBit x 27 p.wen × AtBit x 26 p.ren
    × AtBit x 25 p.ld × AtBit x 24 p.sen × AtBit x 23 p.rt × AtBit x 22 p.fwft × AtBit x 21 p.oe
    × AtBit x 20 p.skew.write × AtBit x 19 p.skew.read × AtBit x 18 p.unsettled × (p.d ≡ x % 2 ^ 18)
pins_at x =
    let at = at_bit x in (at 31, at 30, at 29, at 28, at 27, at 26, at 25, at 24, at 23, at 22, at 21, at 20, at 19, at 18, refl)

-- a level as a number
abbrev digit : Bool → ℕ
digit level = cond level 1 0

weighed : (k : ℕ) (level : Bool) → (at k level ≡ digit level * 2 ^ k) × (digit level ≤ 1)
weighed k true = (omega arith, omega arith)
weighed k false = (omega arith, omega arith)

told : (level : Bool) → eqb (digit level) 1 ≡ level
told true = refl
told false = refl

-- bit k of a number whose bits from k on are those of `above` and then a level
bit_told : (k x above : ℕ) (level : Bool) → x / 2 ^ k ≡ above * 2 + digit level → bit k x ≡ level
bit_told k x above level e = let d : x / 2 ^ k % 2 ≡ digit level = omega (arith, weighed 0 level) in rw d (told level)

given_small : (driven : Bool) (q : ℕ) → given driven q < 2 ^ 18
given_small true q = omega arith
given_small false q = omega arith

pub record Laid (l : Lines) : Type 0 where
  pub ff : bit 23 (packed l) ≡ l.ff
  pub ef : bit 22 (packed l) ≡ l.ef
  pub hf : bit 21 (packed l) ≡ l.hf
  pub pae : bit 20 (packed l) ≡ l.pae
  pub paf : bit 19 (packed l) ≡ l.paf
  pub driven : bit 18 (packed l) ≡ l.driven
  pub q : word (packed l) ≡ given l.driven l.q
  pub whole : packed l < 2 ^ 24

pub laid : (l : Lines) → Laid l
unfolding packed
laid l =
    let ff = weighed 23 l.ff in
    let ef = weighed 22 l.ef in
    let hf = weighed 21 l.hf in
    let pae = weighed 20 l.pae in
    let paf = weighed 19 l.paf in
    let driven = weighed 18 l.driven in
    let q = given_small l.driven l.q in
    let to-ff = digit l.ff in
    let to-ef = to-ff * 2 + digit l.ef in
    let to-hf = to-ef * 2 + digit l.hf in
    let to-pae = to-hf * 2 + digit l.pae in
    let to-paf = to-pae * 2 + digit l.paf in
    record {
      ff = bit_told 23 (packed l) 0 l.ff (omega arith);
      ef = bit_told 22 (packed l) to-ff l.ef (omega arith);
      hf = bit_told 21 (packed l) to-ef l.hf (omega arith);
      pae = bit_told 20 (packed l) to-hf l.pae (omega arith);
      paf = bit_told 19 (packed l) to-pae l.paf (omega arith);
      driven = bit_told 18 (packed l) to-paf l.driven (omega arith);
      q = omega arith;
      whole = omega arith;
    }

digit_back : (y w : ℕ) (one : Bool) → eqb y 1 ≡ one → y < 2 → cond one w 0 ≡ y * w
digit_back y w true e h = let f : y ≡ 1 = eqb-true _ _ e in rw f (omega arith)
digit_back y w false e h = let n : y ≢ 1 = eqb-false _ _ e in let f : y ≡ 0 = omega arith in rw f (omega arith)

pub level_back : (k x : ℕ) → at k (bit k x) ≡ x / 2 ^ k % 2 * 2 ^ k
level_back k x = digit_back (x / 2 ^ k % 2) (2 ^ k) (bit k x) refl (mod-lt (x / 2 ^ k) (omega arith))

-- the bits above k put back, and then bit k
one_lower : (k x sum : ℕ) → sum ≡ x / 2 ^ suc k * 2 ^ suc k → sum + at k (bit k x) ≡ x / 2 ^ k * 2 ^ k
one_lower k x sum e =
    let above = x / 2 ^ suc k in
    let half : x / 2 ^ k / 2 ≡ above = shr-shr x k 1 ∙ ap (λ (i : ℕ). x / 2 ^ i) (add-one k) in
    let halves : x / 2 ^ k ≡ above * 2 + x / 2 ^ k % 2 = omega (arith, half) in
    let apart : x / 2 ^ k * 2 ^ k ≡ above * 2 * 2 ^ k + x / 2 ^ k % 2 * 2 ^ k =
    ap (λ (y : ℕ). y * 2 ^ k) halves ∙ add-mul (above * 2) (x / 2 ^ k % 2) (2 ^ k) in
    let whole : above * 2 ^ suc k ≡ above * 2 * 2 ^ k = ap (λ (y : ℕ). above * y) (pow-succ' 2 k) ∙ sym (mul_assoc above 2 (2 ^ k)) in
    omega (arith, level_back k x)

-- the record of the pins, the mark and D
unfoldable pub record_of : Pins → ℕ
record_of p =
    at 31 p.mrs + at 30 p.prs + at 29 p.wclk + at 28 p.rclk + at 27 p.wen + at 26 p.ren + at 25 p.ld
    + at 24 p.sen + at 23 p.rt + at 22 p.fwft + at 21 p.oe + at 20 p.skew.write + at 19 p.skew.read
    + at 18 p.unsettled + word p.d

pub record_again : (x : ℕ) → x < 2 ^ 32 → record_of (pins_of x) ≡ x
unfolding record_of
record_again x h =
    let top : at 31 (bit 31 x) ≡ x / 2 ^ 31 * 2 ^ 31 = omega (arith, one_lower 31 x 0 (omega arith)) in
    let levels = one_lower 18 x _ (one_lower 19 x _ (one_lower 20 x _ (one_lower 21 x _ (one_lower 22 x _ (one_lower 23 x _ (one_lower 24 x _
    (one_lower 25 x _ (one_lower 26 x _ (one_lower 27 x _ (one_lower 28 x _ (one_lower 29 x _ (one_lower 30 x _ top)))))))))))) in
    rw levels (omega arith)
