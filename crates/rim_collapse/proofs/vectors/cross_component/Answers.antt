use Rattle.std.proofs.Common.{◌^◌, ◌*ℤ◌, ◌∙◌}
use Rattle.rim_collapse.proofs.Products.{difference-fits, difference-is, difference-size, offset-small, passed-product}
use Rattle.rim_collapse.proofs.Products.{same_difference}
use Rattle.rim_collapse.proofs.vectors.cross_component.Goals as goal

pub overflow_sub-result : goal.overflow_sub-result
overflow_sub-result c =
    difference-fits c.times.result c.times-2.result c.times.ensures.size c.times-2.ensures.size

pub returns-clause-component : goal.returns-clause-component
returns-clause-component c =
    difference-is c.times.result c.times-2.result c.times.ensures.size c.times-2.ensures.size ∙
    same_difference c.times.result c.times-2.result (c.args.k *ℤ c.args.n) (c.args.l *ℤ c.args.m)
    (passed-product (2 ^ 21) c.times.result c.args.k c.args.n offset-small c.requires.k c.requires.n
    c.times.ensures.product)
    (passed-product (2 ^ 21) c.times-2.result c.args.l c.args.m offset-small c.requires.l c.requires.m
    c.times-2.ensures.product)

pub returns-clause-size : goal.returns-clause-size
returns-clause-size c =
    difference-size c.times.result c.times-2.result c.times.ensures.size c.times-2.ensures.size
