-- Bench figures, the trace program: text in its lines.
use Rattle.std.specs.Prelude.{ℕ, List, length}
use Rattle.std.proofs.Math.Seq.{paste}

abbrev pub put_text : List ℕ → ℕ → List ℕ → List ℕ
put_text room at text = paste room at text (length text)
