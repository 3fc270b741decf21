-- What is turned away: samples that no row can refuse, told by a few levels.
use Rattle.std.specs.Prelude.{Bool, not, ◌&&◌}
use Rattle.pins.specs.declared.record.Pins.{Pins}
use Rattle.views.specs.Retransmit.{is_seen}
use Rattle.chip.specs.declared.state.State.{State}

-- each row asks for one of these to be otherwise: 5 for no Master Reset so far, 6 and 7 for LD LOW, 8 and 9 for RT LOW, 10 for a
-- retransmit that was not seen, 12 for the mark
unfoldable pub free : Pins → State → Bool
free p s = s.started && p.ld && p.rt && not p.unsettled && is_seen s.write.view
