use Rattle.fifo_c.proofs.Laws.{powers_up, powers_up_refused}
use Rattle.fifo_c.proofs.call.fifo_power_up.Goals as goal

pub returns-then-state-eq-STATE_BYTES : goal.returns-then-state-eq-STATE_BYTES
returns-then-state-eq-STATE_BYTES c = powers_up c.args.state.now c.if-state-eq-STATE_BYTES.true c.power_up.ensures c.write_state.ensures

pub returns-else-state-eq-STATE_BYTES : goal.returns-else-state-eq-STATE_BYTES
returns-else-state-eq-STATE_BYTES c = powers_up_refused c.args.state.now c.if-state-eq-STATE_BYTES.false
