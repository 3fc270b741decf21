-- Bench figures, the trace programs: the line of a record that was taken, between its index and its end.
use Rattle.std.specs.Prelude.{ℕ, ◌+◌, ◌*◌, List, slice_index, slice_set}
use Rattle.text.specs.Digits.{put_hex}
use Rattle.lines.specs.declared.records.Shown.{Shown}
use Rattle.lines.specs.declared.records.Shown.TheVariants.{Answer, FlagsAndTwoAnswers}

-- a blank, and two digits from a place on
unfoldable pub put_flags : List ℕ → ℕ → List ℕ → ℕ → List ℕ
put_flags room at flags from = slice_set (slice_set (slice_set room at 32) (at + 1) (slice_index flags from)) (at + 2) (slice_index flags (from + 1))

-- a blank, and the three bytes of an answer from a place on
unfoldable pub put_answer : List ℕ → ℕ → List ℕ → ℕ → List ℕ
put_answer room at answers from =
    put_hex
    (put_hex (put_hex (slice_set room at 32) (at + 1) (slice_index answers from)) (at + 3) (slice_index answers (from + 1)))
    (at + 5)
    (slice_index answers (from + 2))

-- of the record with an index in its chunk
abbrev pub put_taken : Shown → List ℕ → ℕ → ℕ → List ℕ
put_taken (Answer answers) room at i = put_answer room at answers.now (i * 3)
put_taken (FlagsAndTwoAnswers flags answers) room at i =
    put_answer (put_answer (put_flags room at flags.now (i * 2)) (at + 3) answers.now (i * 6)) (at + 10) answers.now (i * 6 + 3)

abbrev pub shown_bytes : Shown → ℕ
shown_bytes (Answer _) = 7
shown_bytes (FlagsAndTwoAnswers _ _) = 17
