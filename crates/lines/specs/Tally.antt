-- Bench figures, the trace program: its lines and accepted records, carried from chunk to chunk round 64 bits.
use Rattle.std.specs.Prelude.{ℕ, ◌+◌, ◌%◌, ◌^◌, Bool, false, not, ◌||◌, ◌==◌}
use Rattle.lines.specs.declared.tally.Tally.{Tally}

-- before the first chunk
abbrev pub nothing : Tally
nothing = record { records = 0; accepted = 0; refusal = 0; over = false }

-- a chunk more, whose run ended at an index; nothing follows the last one, nor a refusal
unfoldable pub counted : Tally → ℕ → ℕ → ℕ → Bool → Tally
counted before index accepted refusal last = record {
  records = (before.records + index) % 2 ^ 64;
  accepted = (before.accepted + accepted) % 2 ^ 64;
  refusal = refusal;
  over = last || not (refusal == 0);
}
