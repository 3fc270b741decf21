-- Trace sample: a reader that was opened finds the first record of the trace, and one that was moved finds the record at its new index.
use Rattle.std.specs.Prelude.{ℕ, List}
use Rattle.std.proofs.Common.{subst}
use Rattle.std.specs.Borrow.{Bor}
use Rattle.pins.specs.Trace.{Reads}
use Rattle.pins.specs.declared.trace.Record.{Record}
use Rattle.reader.specs.declared.Reader.{Reader}
use Rattle.reader.specs.Reader.{Finds, Moves, Opens}

pub first_found : (trace : Bor (List ℕ)) (opened : Reader) (r : Record) → Opens trace opened → Finds opened r → Reads trace.now 0 r
first_found trace opened r e = subst (λ (x : Reader). Finds x r) e

pub moved_found : (reader moved : Reader) (index : ℕ) (r : Record) → Moves reader index moved → Finds moved r → Reads reader.trace.now index r
moved_found reader moved index r e = subst (λ (x : Reader). Finds x r) e
