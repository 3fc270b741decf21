use Rattle.spelling.specs.SpellingLaws.{levels_of_word}
use Rattle.spelling.proofs.state.are_levels.Goals as goal

pub returns : goal.returns
returns c = rw c.low_first_at-four.ensures (levels_of_word c.args.bytes.now c.args.at (λ i. (c.type_inv.bytes i).fits))
