-- Where a reader stands on a trace, and what it finds there. A `Bor` is a reference: the place of the bytes, and the bytes.
use Rattle.std.specs.Prelude.{ℕ, List, ◌≡◌}
use Rattle.std.specs.Borrow.{Bor}
use Rattle.pins.specs.Trace.{Reads}
use Rattle.pins.specs.declared.trace.Record.{Record}
use Rattle.reader.specs.declared.Reader.{Reader}

abbrev pub at_first : Bor (List ℕ) → Reader
at_first trace = record { trace = trace; index = 0 }

-- on the same bytes, at another record
abbrev pub moved_to : Reader → ℕ → Reader
moved_to reader index = record { trace = reader.trace; index = index }

abbrev pub Opens : Bor (List ℕ) → Reader → Type 0
Opens trace r = r ≡ at_first trace

abbrev pub Moves : Reader → ℕ → Reader → Type 0
Moves reader index r = r ≡ moved_to reader index

abbrev pub Finds : Reader → Record → Type 0
Finds reader r = Reads reader.trace.now reader.index r
