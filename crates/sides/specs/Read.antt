-- The two sides, RCLK rise in both timing modes; and Retransmit on the read side.
use Rattle.std.specs.Prelude.{ℕ, Bool, not, cond, ◌&&◌, ◌||◌, eqb}
use Rattle.counts.specs.declared.round.WriteCount.{WriteCount}
use Rattle.counts.specs.declared.round.ReadCount.{ReadCount}
use Rattle.counts.specs.Round.{ahead, next_read}
use Rattle.pins.specs.declared.record.Pins.{Pins}
use Rattle.pins.specs.Record.{word}
use Rattle.sides.specs.declared.read.Mode.{Mode}
use Rattle.sides.specs.declared.read.Mode.TheVariants.{Standard, Fwft}
use Rattle.sides.specs.declared.read.ReadSide.{ReadSide}
use Rattle.sides.specs.declared.write.WriteSide.{WriteSide}
use Rattle.sides.specs.Clocks.{read_rises, write_rises}
use Rattle.views.specs.declared.tables.Table.{Table}
use Rattle.views.specs.declared.tables.Table.TheVariants.{One, Two}
use Rattle.views.specs.Flags.{pae_low}
use Rattle.views.specs.Retransmit.{is_over, setup_after}
use Rattle.views.specs.Stages.{rise_after, count_taken}

-- which of the sheet's flag tables
abbrev pub table_of : Mode → Table
table_of Standard = One
table_of (Fwft untaken) = Two

unfoldable pub retransmits : Pins → ReadSide → Bool
retransmits p r = read_rises p r && not p.rt

-- the read side sees a word in memory: no retransmit setup runs, and its second stage and the read count differ
unfoldable pub sees_word : ReadSide → Bool
sees_word r = is_over r.setup && not (eqb r.second.0 r.count.0)

-- the flag shows a word ready: EF HIGH when one is seen, OR LOW while one is untaken
abbrev pub ready_by : Mode → Bool → Bool
ready_by Standard seen = seen
ready_by (Fwft untaken) seen = untaken

unfoldable pub ready : ReadSide → Bool
ready r = ready_by r.mode (sees_word r)

-- a rise at which a word is read: asked for by the pins, and ready before the sample
unfoldable pub reads : Pins → ReadSide → Bool
reads p r = read_rises p r && p.ld && not p.ren && p.rt && ready r

-- a word is delivered: in Standard by the read; in FWFT where one may come and the register then holds none untaken
abbrev pub delivers_by : Mode → Bool → Bool → Bool
delivers_by Standard may read = read
delivers_by (Fwft untaken) may read = may && not (untaken && not read)

unfoldable pub delivers : Pins → ReadSide → Bool
delivers p r = delivers_by r.mode (read_rises p r && p.rt && sees_word r) (reads p r)

-- in FWFT a word stays untaken until it is read; a retransmit leaves none
abbrev pub mode_after : Mode → Bool → Bool → Bool → Mode
mode_after Standard retransmitted delivered read = Standard
mode_after (Fwft untaken) retransmitted delivered read = Fwft (not retransmitted && (delivered || untaken && not read))

-- a delivery fills the output register from the fetched word, and nothing else changes it
abbrev pub register_after : Bool → ℕ → ℕ → ℕ
register_after delivered fetched output = cond delivered (word fetched) output

unfoldable pub read_count_after : Pins → ReadSide → ReadCount
read_count_after p r = cond (retransmits p r) (record { 0 = 0 }) (next_read (delivers p r) r.count)

-- after a rise the second stage holds what the first held
unfoldable pub second_after_read : Pins → ReadSide → WriteCount
second_after_read p r = cond (read_rises p r) r.first r.second

-- the read side after a sample outside reset; `n` and the write side are those before it
unfoldable pub read_after : ℕ → Pins → ℕ → WriteSide → ReadSide → ReadSide
read_after n p fetched w r = record {
  level = p.rclk;
  count = read_count_after p r;
  first = cond (read_rises p r) (count_taken p.skew.read r.latest w.count) r.first;
  second = second_after_read p r;
  latest = rise_after (read_rises p r) (write_rises p w) w.count r.latest;
  setup = setup_after (read_rises p r) p.rt r.setup;
  pae = cond (read_rises p r && is_over (setup_after (read_rises p r) p.rt r.setup))
      (not (pae_low n (ahead (second_after_read p r) (read_count_after p r)))) r.pae;
  mode = mode_after r.mode (retransmits p r) (delivers p r) (reads p r);
  output = register_after (delivers p r) fetched r.output;
}
