-- The two sides: each flag goes by the comparison that its rule states, for all numbers and both ways.
use Rattle.std.specs.Prelude.{ℕ, ◌-◌, ◌/◌, ◌≤◌, ◌<◌, true, ◌↔◌, ◌≡◌}
use Rattle.std.proofs.Common.{eq-eqb, eqb-true, le-leb, leb-true, lt-ltb, ltb-true}
use Rattle.views.specs.Flags.{full_at, hf_low, pae_low, paf_low}

pub record Decided (depth m n words : ℕ) : Type 0 where
  pub full : (full_at depth words ≡ true) ↔ (words ≡ depth)
  pub paf : (paf_low depth m words ≡ true) ↔ (depth - m ≤ words)
  pub pae : (pae_low n words ≡ true) ↔ (words ≤ n)
  pub hf : (hf_low depth words ≡ true) ↔ (depth / 2 < words)

pub decided : (depth m n words : ℕ) → Decided depth m n words
decided depth m n words = record {
  full = (eqb-true words depth, eq-eqb words depth);
  paf = (leb-true (depth - m) words, le-leb (depth - m) words);
  pae = (leb-true words n, le-leb words n);
  hf = (ltb-true (depth / 2) words, lt-ltb (depth / 2) words);
}
