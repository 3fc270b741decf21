use Rattle.std.proofs.Common.{arith, ◌^◌, ◌≤◌, lt-ltb, pow_mono, sym}
use Rattle.offsets.proofs.registers.fits_count.Goals as goal

pub returns-else-count-lt32 : goal.returns-else-count-lt32
returns-else-count-lt32 c =
    let wide : 2 ^ 32 ≤ 2 ^ c.args.count = pow_mono c.if-count-lt32.false in
    sym (lt-ltb c.args.serial (2 ^ c.args.count) (omega arith))
