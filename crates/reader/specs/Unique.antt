-- What counts as an answer proved: two outcomes that meet a promise are the same. `record_of` has the promise of `record_at`.
use Rattle.std.specs.Prelude.{ℕ, List, ◌≡◌}
use Rattle.std.proofs.Common.{sym, ◌∙◌}
use Rattle.std.specs.Borrow.{Bor}
use Rattle.pins.specs.declared.trace.Record.{Record}
use Rattle.pins.specs.TraceLaws.{record_unique}
use Rattle.reader.specs.declared.Reader.{Reader}
use Rattle.reader.specs.Reader.{Finds, Moves, Opens}

pub open_unique : (trace : Bor (List ℕ)) (a b : Reader) → Opens trace a → Opens trace b → a ≡ b
open_unique trace a b e f = e ∙ sym f

pub at_unique : (reader : Reader) (index : ℕ) (a b : Reader) → Moves reader index a → Moves reader index b → a ≡ b
at_unique reader index a b e f = e ∙ sym f

pub read_unique : (reader : Reader) (a b : Record) → Finds reader a → Finds reader b → a ≡ b
read_unique reader a b e f = record_unique reader.trace.now reader.index a b e f
