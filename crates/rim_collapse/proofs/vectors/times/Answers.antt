use Rattle.rim_collapse.proofs.Products.{product-is, product-size}
use Rattle.rim_collapse.proofs.vectors.times.Goals as goal

pub returns-clause-product : goal.returns-clause-product
returns-clause-product c = product-is c.args.m c.args.n c.ranges.m c.ranges.n c.requires.m c.requires.n

pub returns-clause-size : goal.returns-clause-size
returns-clause-size c = product-size c.args.m c.args.n c.ranges.m c.ranges.n c.requires.m c.requires.n
