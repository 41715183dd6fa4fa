use Rattle.std.proofs.Common.{arith}
use Rattle.std.proofs.lemmas.Int.{ints}
use Rattle.view_camera.proofs.DotFromEye.{axis_product_fits, axis_product_value, axis_product_bound}
use Rattle.view_camera.proofs.Ranges.{grid_coordinate}
use Rattle.view_camera.proofs.rotation.axis_product.Goals as goal

pub overflow_mul-result : goal.overflow_mul-result
overflow_mul-result c =
    axis_product_fits c.args.entry c.args.from c.args.to c.from-3.result c.from-2.result c.from.result
    (omega (arith, ints)) (omega (arith, ints)) (omega (arith, ints)) c.requires.entry c.requires.from
    (grid_coordinate c.args.to c.requires.to)

pub returns-clause-product : goal.returns-clause-product
returns-clause-product c =
    axis_product_value c.args.entry c.args.from c.args.to c.from-3.result c.from-2.result c.from.result
    (omega (arith, ints)) (omega (arith, ints)) (omega (arith, ints)) c.requires.entry c.requires.from
    (grid_coordinate c.args.to c.requires.to)

pub returns-clause-product_limit : goal.returns-clause-product_limit
returns-clause-product_limit c =
    axis_product_bound c.args.entry c.args.from c.args.to c.from-3.result c.from-2.result c.from.result
    (omega (arith, ints)) (omega (arith, ints)) (omega (arith, ints)) c.requires.entry c.requires.from
    (grid_coordinate c.args.to c.requires.to)
