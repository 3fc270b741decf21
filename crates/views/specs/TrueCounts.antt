-- The two sides and Retransmit, told with counts that go round no width: what each side has of the other, and in what order it all lies.
use Rattle.std.specs.Prelude.{ℕ, ◌+◌, ◌≤◌, ◌<◌, Bool, true, false, not, cond, ◌||◌, ◌≡◌}
use Rattle.views.specs.declared.retransmit.Setup.{Setup}
use Rattle.views.specs.declared.retransmit.Setup.TheVariants.{Over, OneMore, TwoMore}
use Rattle.views.specs.declared.retransmit.View.{View}
use Rattle.views.specs.declared.retransmit.View.TheVariants.{Unseen, Taken, Seen}

pub record TrueCounts : Type 0 where
  -- words accepted since reset, and words delivered since reset or retransmit
  pub written : ℕ
  pub read : ℕ
  -- each as it stood before the latest rise of its clock
  pub written_before : ℕ
  pub read_before : ℕ
  -- the read counts in the write side's stages, and the write counts in the read side's
  pub write_first : ℕ
  pub write_second : ℕ
  pub read_first : ℕ
  pub read_second : ℕ
  -- words accepted before the latest rise of RCLK, and before the three earlier ones; none for a rise not after the last reset and retransmit
  pub one_ago : ℕ
  pub two_ago : ℕ
  pub three_ago : ℕ
  pub four_ago : ℕ

abbrev pub no_counts : TrueCounts
no_counts = record {
  written = 0;
  read = 0;
  written_before = 0;
  read_before = 0;
  write_first = 0;
  write_second = 0;
  read_first = 0;
  read_second = 0;
  one_ago = 0;
  two_ago = 0;
  three_ago = 0;
  four_ago = 0;
}

-- the write side's part of a sample: whether WCLK rises, whether a word is accepted, and the read count taken
abbrev pub after_write : Bool → Bool → ℕ → TrueCounts → TrueCounts
after_write rises accepts taken t = record {
  written = cond accepts (t.written + 1) t.written;
  read = t.read;
  written_before = cond rises t.written t.written_before;
  read_before = t.read_before;
  write_first = cond rises taken t.write_first;
  write_second = cond rises t.write_first t.write_second;
  read_first = t.read_first;
  read_second = t.read_second;
  one_ago = t.one_ago;
  two_ago = t.two_ago;
  three_ago = t.three_ago;
  four_ago = t.four_ago;
}

-- the read side's part: whether RCLK rises, whether it retransmits, the read count that it leads to and the write count taken; the words
-- accepted before the sample are told beside
abbrev pub after_read : Bool → Bool → ℕ → ℕ → ℕ → TrueCounts → TrueCounts
after_read rises retransmits next taken before t = record {
  written = t.written;
  read = next;
  written_before = t.written_before;
  read_before = cond rises t.read t.read_before;
  write_first = t.write_first;
  write_second = t.write_second;
  read_first = cond rises taken t.read_first;
  read_second = cond rises t.read_first t.read_second;
  one_ago = cond retransmits 0 (cond rises before t.one_ago);
  two_ago = cond retransmits 0 (cond rises t.one_ago t.two_ago);
  three_ago = cond retransmits 0 (cond rises t.two_ago t.three_ago);
  four_ago = cond retransmits 0 (cond rises t.three_ago t.four_ago);
}

-- of a true count and the one before the latest rise, which a stage takes
abbrev pub across : Bool → Bool → ℕ → ℕ → ℕ
across met since now before = cond (not since || met) now before

abbrev pub When : Bool → Type 0 → Type 0
When true holds = holds
When false holds = Unit {0}

-- how far the write side may trust its stages, by its view of the last retransmit, by whether that retransmit has only just begun, and
-- by whether RCLK has risen since WCLK's last rise. Before the retransmit is seen they may be ahead of the read count, but memory has room.
abbrev pub Sighted : ℕ → View → Bool → Bool → TrueCounts → Type 0
Sighted depth Seen begun risen t =
    (t.write_second ≤ t.write_first) × (t.write_first ≤ t.read) × When risen ((t.write_first ≤ t.read_before) × (t.read_before ≤ t.read))
Sighted depth Taken begun risen t =
    (t.written < depth) × (t.write_first ≤ t.read) × When risen ((t.write_first ≤ t.read_before) × (t.read_before ≤ t.read))
Sighted depth Unseen false risen t = (t.written < depth) × (t.read_before ≤ t.read)
Sighted depth Unseen true risen t = (t.written < depth) × (t.read_before ≤ t.written)

-- the order of the counts; `wclk` tells whether WCLK has risen since RCLK's last rise, `rclk` the converse
pub record Ordered (depth : ℕ) (view : View) (begun wclk rclk : Bool) (t : TrueCounts) : Type 0 where
  pub unread : t.read ≤ t.read_second
  pub stages_read : t.read_second ≤ t.read_first
  pub first_read : t.read_first ≤ t.written
  pub before : t.written_before ≤ t.written
  pub room : t.written ≤ t.read + depth
  pub first_below : t.write_first ≤ t.written
  pub second_below : t.write_second ≤ t.written
  pub first_room : t.written ≤ t.write_first + depth
  pub second_room : t.written ≤ t.write_second + depth
  pub one_below : t.one_ago ≤ t.written
  pub two_seen : t.two_ago ≤ t.read_first
  pub three_seen : t.three_ago ≤ t.read_second
  pub since : When wclk ((t.read_first ≤ t.written_before) × (t.one_ago ≤ t.written_before))
  pub sighted : Sighted depth view begun rclk t

-- a setup that runs has had so few rises after the retransmit
abbrev pub Setting : Setup → ℕ → ℕ → ℕ → Type 0
Setting Over one_ago two_ago three_ago = Unit {0}
Setting OneMore one_ago two_ago three_ago = (two_ago ≡ 0) × (three_ago ≡ 0)
Setting TwoMore one_ago two_ago three_ago = (one_ago ≡ 0) × (two_ago ≡ 0) × (three_ago ≡ 0)

-- what may come into the write side's first stage, by whether it is from after the retransmit
abbrev pub TakesRead : View → Bool → Bool → TrueCounts → ℕ → Type 0
TakesRead Seen begun after t taken = (t.write_first ≤ taken) × (taken ≤ t.read)
TakesRead Taken begun after t taken = (t.write_first ≤ taken) × (taken ≤ t.read)
TakesRead Unseen false after t taken = taken ≤ t.read
TakesRead Unseen true true t taken = taken ≤ t.read
TakesRead Unseen true false t taken = taken ≤ t.written

-- a word is accepted at a rise only, with the retransmit seen, and where the second stage leaves room
abbrev pub MayAccept : Bool → View → Bool → ℕ → TrueCounts → Type 0
MayAccept rises view false depth t = Unit {0}
MayAccept true Seen true depth t = t.written < t.write_second + depth
MayAccept true Taken true depth t = ⊥
MayAccept true Unseen true depth t = ⊥
MayAccept false view true depth t = ⊥

-- what may come into the read side's first stage
pub record TakesWritten (t : TrueCounts) (taken : ℕ) : Type 0 where
  pub low : t.read_first ≤ taken
  pub high : taken ≤ t.written
  pub old : t.one_ago ≤ taken

-- the read count that a sample may lead to: at a rise with RT HIGH no further than the second stage, at a retransmit none, and then memory has room
abbrev pub MayMove : Bool → Bool → ℕ → ℕ → TrueCounts → Type 0
MayMove false rt next depth t = next ≡ t.read
MayMove true true next depth t = (t.read ≤ next) × (next ≤ t.read_second)
MayMove true false next depth t = (next ≡ 0) × (t.written < depth)
