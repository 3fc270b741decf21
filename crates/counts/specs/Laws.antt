-- What holds of counts and places for any depth 2 ^ k and any width 2 ^ (j + k) of the counts.
use Rattle.std.specs.Prelude.{◌≡◌, ℕ, suc, ◌+◌, ◌-◌, ◌*◌, ◌/◌, ◌%◌, ◌^◌, ◌<◌, ◌≤◌, Bool, true, false, nat_lt, refl}
use Rattle.std.proofs.Common.{sym, ap, ◌∙◌, pow_pos, pow_mono, ltb-true, ltb-false, mod-lt, mod-eq_of_lt, div-add-mod', arith}
use Rattle.std.proofs.Math.Pow.{mod-mod-pow}
use Rattle.std.proofs.Math.Nat.{mod-add-mod, mod-eq-sub-mod, add-mod_right, add-mul-mod_self_right}
use Rattle.counts.specs.Round.{ahead, behind, less, more, place_of, width}

pub place_below : (k count : ℕ) → place_of (2 ^ k) count < 2 ^ k
place_below k count = mod-lt count (pow_pos k)

pub next_place : (j k count : ℕ) → place_of (2 ^ k) (more (2 ^ (j + k)) count) ≡ more (2 ^ k) (place_of (2 ^ k) count)
next_place j k count = mod-mod-pow (count + 1) j k ∙ sym (mod-add-mod count (2 ^ k) 1)

-- the difference of two true counts, each known only round the width
pub less_true : (around a b : ℕ) → b ≤ a → a < b + around → less around (a % around) (b % around) ≡ a - b
less_true around a b h l =
    let whole : a + (around - b % around) ≡ (a - b) + suc (b / around) * around =
    omega (arith, mod-lt b {m = around} (omega arith), div-add-mod' b around) in
    rw (mod-add-mod, whole, add-mul-mod_self_right (a - b) (suc (b / around)) around) (mod-eq_of_lt (omega arith))

pub less_exact : (j k a b : ℕ) → 1 ≤ j → b ≤ a → a ≤ b + 2 ^ k → less (2 ^ (j + k)) (a % 2 ^ (j + k)) (b % 2 ^ (j + k)) ≡ a - b
less_exact j k a b h l d =
    less_true (2 ^ (j + k)) a b l (omega (arith, pow_mono {i = suc k} {j = j + k} (omega arith), pow_pos k))

pub ahead_exact : (write read : ℕ) → read ≤ write → write < read + width
    → ahead (record { 0 = write % width }) (record { 0 = read % width }) ≡ write - read
ahead_exact = less_true width

pub behind_exact : (write earlier : ℕ) → earlier ≤ write → write < earlier + width
    → behind (record { 0 = write % width }) (record { 0 = earlier % width }) ≡ write - earlier
behind_exact = less_true width

-- an earlier count and what lies between give the count again
less_back : (around a b : ℕ) → a < around → b < around → (b + less around a b) % around ≡ a
less_back around a b h l =
    let whole : a + (around - b) + b ≡ a + around = omega arith in
    ap (λ (x : ℕ). x % around) (omega arith) ∙ mod-add-mod (a + (around - b)) around b
    ∙ ap (λ (x : ℕ). x % around) whole ∙ add-mod_right a around ∙ mod-eq_of_lt h

none_between : (around a b : ℕ) → a < around → b < around → less around a b ≡ 0 → a ≡ b
none_between around a b h l e =
    sym (less_back around a b h l) ∙ ap (λ (x : ℕ). (b + x) % around) e ∙ ap (λ (x : ℕ). x % around) (omega arith) ∙ mod-eq_of_lt l

-- some words on, fewer than a whole round of memory, and at the same place: no words on
same_place_by : (place on depth : ℕ) (below : Bool) → nat_lt (place + on) depth ≡ below → place < depth → on < depth → (place + on) % depth ≡ place → on ≡ 0
same_place_by place on depth true s p h e =
    let f : (place + on) % depth ≡ place + on = mod-eq_of_lt (ltb-true _ _ s) in omega arith
same_place_by place on depth false s p h e =
    let u : depth ≤ place + on = ltb-false _ _ s in
    let f : (place + on) % depth ≡ (place + on - depth) % depth = mod-eq-sub-mod u in
    let g : (place + on - depth) % depth ≡ place + on - depth = mod-eq_of_lt (omega arith) in
    omega arith

pub one_count : (j k a b : ℕ) → a < 2 ^ (j + k) → b < 2 ^ (j + k) → less (2 ^ (j + k)) a b < 2 ^ k
    → place_of (2 ^ k) a ≡ place_of (2 ^ k) b → a ≡ b
one_count j k a b h l d e =
    let around = 2 ^ (j + k) in
    none_between around a b h l
    (same_place_by (b % 2 ^ k) (less around a b) (2 ^ k) (nat_lt (b % 2 ^ k + less around a b) (2 ^ k)) refl (place_below k b) d
    (mod-add-mod b (2 ^ k) (less around a b) ∙ sym (mod-mod-pow (b + less around a b) j k)
    ∙ ap (λ (x : ℕ). x % 2 ^ k) (less_back around a b h l) ∙ e))
