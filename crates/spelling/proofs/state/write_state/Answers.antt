use Rattle.spelling.proofs.Laws.{written}
use Rattle.spelling.proofs.state.write_state.Goals as goal

pub returns : goal.returns
returns c =
    written c.args.state c.args.bytes.now c.requires c.put_levels.ensures c.put_enums.ensures c.put_counts.ensures c.put_rest.ensures
    c.put_enables.ensures
