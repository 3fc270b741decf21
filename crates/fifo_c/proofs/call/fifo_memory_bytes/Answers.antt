use Rattle.fifo_c.proofs.Laws.{memory_known, memory_unknown}
use Rattle.fifo_c.proofs.call.fifo_memory_bytes.Goals as goal

pub returns-in-Some : goal.returns-in-Some
returns-in-Some c = memory_known c.args.part c.look_up-looked_up.ensures c.in-Some.is c.memory_bytes.ensures

pub returns-in-None : goal.returns-in-None
returns-in-None c = memory_unknown c.args.part c.look_up-looked_up.ensures c.in-None.is
