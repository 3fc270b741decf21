-- Retransmit.
use Rattle.std.specs.Prelude.{Bool, true, false, cond}
use Rattle.views.specs.declared.retransmit.Setup.{Setup}
use Rattle.views.specs.declared.retransmit.Setup.TheVariants.{Over, OneMore, TwoMore}
use Rattle.views.specs.declared.retransmit.View.{View}
use Rattle.views.specs.declared.retransmit.View.TheVariants.{Unseen, Taken, Seen}

abbrev pub is_over : Setup → Bool
is_over Over = true
is_over OneMore = false
is_over TwoMore = false

-- no RCLK rise since the one that retransmits
abbrev pub just_begun : Setup → Bool
just_begun Over = false
just_begun OneMore = false
just_begun TwoMore = true

-- one rise of RCLK with RT HIGH
abbrev pub counted : Setup → Setup
counted Over = Over
counted OneMore = Over
counted TwoMore = OneMore

-- the setup after a sample, by whether RCLK rises in it, and RT
abbrev pub setup_after : Bool → Bool → Setup → Setup
setup_after rises rt setup = cond rises (cond rt (counted setup) TwoMore) setup

abbrev pub is_seen : View → Bool
is_seen Unseen = false
is_seen Taken = false
is_seen Seen = true

-- one rise of WCLK, by whether the read count that it takes is from after the retransmit
abbrev pub looked : Bool → View → View
looked afterRetransmit Unseen = cond afterRetransmit Taken Unseen
looked afterRetransmit Taken = Seen
looked afterRetransmit Seen = Seen

-- the write side's view after a sample, by whether it retransmits and whether WCLK rises in it: the retransmit counts as later
abbrev pub view_after : Bool → Bool → Bool → View → View
view_after retransmits rises afterRetransmit view = cond retransmits Unseen (cond rises (looked afterRetransmit view) view)
