use Rattle.std.proofs.Common.{◌≡◌, ◌-ℤ◌, ◌*ℤ◌}
use Rattle.raster64.proofs.Division.{divided}
use Rattle.raster64.proofs.depths.divide.Goals as goal

pub returns : goal.returns
returns g c =
    let int = g.W.Wide.int in
    let rest : int c.minus.result ≡ int c.args.n -ℤ int c.quotient-whole.result *ℤ int c.args.divisor = cc in
    divided (int c.args.n) (int c.args.divisor) (int c.quotient-whole.result)
    (int c.minus.result) c.requires.positive c.quotient-whole.ensures rest
