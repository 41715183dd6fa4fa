use Rattle.std.proofs.Common.{◌^◌, ◌+ℤ◌, ◌*ℤ◌}
use Rattle.rim_collapse.specs.Normals.{dot}
use Rattle.rim_collapse.proofs.Products.{normal-small, passed-product, same_sum, sum2-fits, sum2-is, sum2-size}
use Rattle.rim_collapse.proofs.Products.{sum3-fits, sum3-is, sum3-size}
use Rattle.rim_collapse.proofs.vectors.dot.Goals as goal

pub overflow_add-result : goal.overflow_add-result
overflow_add-result c =
    sum2-fits c.wide_times.result c.wide_times-2.result c.wide_times.ensures.size c.wide_times-2.ensures.size

pub overflow_add-result-2 : goal.overflow_add-result-2
overflow_add-result-2 c =
    let p = c.wide_times.result in
    let q = c.wide_times-2.result in
    rw (sum2-is p q c.wide_times.ensures.size c.wide_times-2.ensures.size)
    (sum3-fits (p +ℤ q) c.wide_times-3.result
    (sum2-size p q c.wide_times.ensures.size c.wide_times-2.ensures.size) c.wide_times-3.ensures.size)

pub returns-clause-dot : goal.returns-clause-dot
unfolding dot
returns-clause-dot c =
    let p = c.wide_times.result in
    let q = c.wide_times-2.result in
    rw (
      sum2-is p q c.wide_times.ensures.size c.wide_times-2.ensures.size,
      sum3-is (p +ℤ q) c.wide_times-3.result
          (sum2-size p q c.wide_times.ensures.size c.wide_times-2.ensures.size) c.wide_times-3.ensures.size,
    ) (same_sum p q c.wide_times-3.result (c.args.u.x *ℤ c.args.v.x) (c.args.u.y *ℤ c.args.v.y)
    (c.args.u.z *ℤ c.args.v.z)
    (passed-product (2 ^ 43) p c.args.u.x c.args.v.x normal-small c.requires.u.x c.requires.v.x
    c.wide_times.ensures.product)
    (passed-product (2 ^ 43) q c.args.u.y c.args.v.y normal-small c.requires.u.y c.requires.v.y
    c.wide_times-2.ensures.product)
    (passed-product (2 ^ 43) c.wide_times-3.result c.args.u.z c.args.v.z normal-small c.requires.u.z c.requires.v.z
    c.wide_times-3.ensures.product))

pub returns-clause-size : goal.returns-clause-size
returns-clause-size c =
    let p = c.wide_times.result in
    let q = c.wide_times-2.result in
    rw (
      sum2-is p q c.wide_times.ensures.size c.wide_times-2.ensures.size,
      sum3-is (p +ℤ q) c.wide_times-3.result
          (sum2-size p q c.wide_times.ensures.size c.wide_times-2.ensures.size) c.wide_times-3.ensures.size,
    ) (sum3-size p q c.wide_times-3.result c.wide_times.ensures.size c.wide_times-2.ensures.size
    c.wide_times-3.ensures.size)
