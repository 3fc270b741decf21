-- What the proofs of writing a state put together, over what the functions called gave.
use Prim.Native.Nat.{ℕ}
use mathlib.Core.List.{List}
use mathlib.Core.Path.{◌≡◌, refl, ◌∙◌}
use lib.ListN.{length}
use Rattle.chip.specs.declared.state.State.{State}
use Rattle.numerals.specs.Bytes.{put_fours}
use Rattle.spelling.specs.Spelling.{counts_of, enables_of, enums_of, levels_of, rest_of, spelling, state_bytes}
use Rattle.spelling.specs.SpellingLaws.{put_over}

module _ (s : State) (bytes : List ℕ) {first second third fourth : List ℕ} where
  pub written : length bytes ≡ state_bytes → first ≡ put_fours 0 (levels_of s) bytes → second ≡ put_fours 12 (enums_of s) first
      → third ≡ put_fours 16 (counts_of s) second → fourth ≡ put_fours 32 (rest_of s) third → {fifth : List ℕ} → fifth ≡ put_fours 48 (enables_of s.enables) fourth
      → fifth ≡ spelling s
  written room e f g h i = i ∙ rw (h, g, f, e) (put_over s bytes room)
