-- All that a history needs to know of a depth; shown once, for any power of two.
use Rattle.std.specs.Prelude.{◌≡◌, ℕ, suc, ◌+◌, ◌%◌, ◌^◌, ◌<◌, ◌≤◌, ◌≢◌}
use Rattle.std.proofs.Common.{sym, ap, ◌∙◌, pow_pos, pow_mono, arith}
use Rattle.std.proofs.Math.Pow.{mod-mod-pow}
use Rattle.counts.specs.declared.part.Part.{Part}
use Rattle.counts.specs.Laws.{less_true}
use Rattle.counts.specs.Part.{depth_of, place_bits}
use Rattle.counts.specs.PartLaws.{round_bits, whole_rounds}
use Rattle.counts.specs.Round.{less, place_of, width}

pub record Sized (depth : ℕ) : Type 0 where
  pub some : 0 < depth
  pub twice : depth + depth ≤ width
  pub round : (count : ℕ) → place_of depth (count % width) ≡ place_of depth count

pub sized : (j k : ℕ) → 1 ≤ j → 2 ^ (j + k) ≡ width → Sized (2 ^ k)
sized j k h e = record {
  some = pow_pos k;
  twice = omega (arith, e, pow_mono {i = suc k} {j = j + k} (omega arith));
  round = λ count. ap (λ (around : ℕ). count % around % 2 ^ k) (sym e) ∙ mod-mod-pow count j k;
}

pub part_sized : (part : Part) → Sized (depth_of part)
part_sized part = sized (round_bits part) (place_bits part) (whole_rounds part).0 (whole_rounds part).1

-- two words of one round of memory lie at different places
pub places_apart : (depth a b : ℕ) → a < b → b < a + depth → place_of depth a ≢ place_of depth b
places_apart depth a b h l e =
    let far = less_true depth b a (omega arith) l in
    let near = less_true depth a a (omega arith) (omega arith) in
    omega (arith, sym far ∙ ap (λ (place : ℕ). less depth place (a % depth)) (sym e) ∙ near)
