-- The two sides: the flags' decisions on a number of words in memory. FWFT's output word is not among them.
use Rattle.std.specs.Prelude.{ℕ, ◌-◌, ◌/◌, Bool, eqb, leb, ltb}

abbrev pub full_at : ℕ → ℕ → Bool
full_at depth words = eqb words depth

-- depth - m or more
abbrev pub paf_low : ℕ → ℕ → ℕ → Bool
paf_low depth m words = leb (depth - m) words

-- n or less
abbrev pub pae_low : ℕ → ℕ → Bool
pae_low n words = leb words n

-- above half of the depth
abbrev pub hf_low : ℕ → ℕ → Bool
hf_low depth words = ltb (depth / 2) words
