use Rattle.std.proofs.Common.{◌≤◌, arith}
use Rattle.std.proofs.Math.Nat.{pow-le-pow_right, one-le-pow}
use Rattle.lines.proofs.hex.digit.Goals as goal

pub pow-requires : goal.pow-requires
pow-requires c =
    let h : c.args.place ≤ 7 = omega arith in
    omega (arith, pow-le-pow_right {n = 16} (omega arith) h)

pub nonzero_div-result : goal.nonzero_div-result
nonzero_div-result c = omega (arith, c.pow.ensures, one-le-pow c.args.place 16 (omega arith))
