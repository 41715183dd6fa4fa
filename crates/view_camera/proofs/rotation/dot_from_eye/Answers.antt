use Rattle.std.proofs.Common.{◌∙◌, refl, rules, w32}
use Rattle.std.proofs.lemmas.Int.{to_z-of_z}
use Rattle.geom_core.specs.Camera.{along}
use Rattle.view_camera.proofs.DotFromEye.{axis_product_of_fields, two_fit, three_fit, three_value, three_bound}
use Rattle.view_camera.proofs.Ranges.{eye_coordinates, grid_coordinates, is_grid_coordinate_from}
use Rattle.view_camera.proofs.rotation.dot_from_eye.Goals as goal

pub axis_product-requires-2-clause-from : goal.axis_product-requires-2-clause-from
axis_product-requires-2-clause-from c =
    rw (to_z-of_z w32 c.args.eye.y (search rules)) (eye_coordinates c.args.eye c.requires.eye).y

pub axis_product-requires-2-clause-to : goal.axis_product-requires-2-clause-to
axis_product-requires-2-clause-to c =
    rw (to_z-of_z w32 c.args.p.y (search rules))
    (is_grid_coordinate_from c.args.p.y (grid_coordinates c.args.p c.requires.grid_point).y)

pub axis_product-requires-3-clause-from : goal.axis_product-requires-3-clause-from
axis_product-requires-3-clause-from c =
    rw (to_z-of_z w32 c.args.eye.z (search rules)) (eye_coordinates c.args.eye c.requires.eye).z

pub axis_product-requires-3-clause-to : goal.axis_product-requires-3-clause-to
axis_product-requires-3-clause-to c =
    rw (to_z-of_z w32 c.args.p.z (search rules))
    (is_grid_coordinate_from c.args.p.z (grid_coordinates c.args.p c.requires.grid_point).z)

pub overflow_add-result : goal.overflow_add-result
overflow_add-result c =
    two_fit c.axis_product.result c.axis_product-2.result c.axis_product.ensures.product_limit
    c.axis_product-2.ensures.product_limit

pub overflow_add-result-2 : goal.overflow_add-result-2
overflow_add-result-2 c =
    three_fit c.axis_product.result c.axis_product-2.result c.axis_product-3.result
    c.axis_product.ensures.product_limit c.axis_product-2.ensures.product_limit c.axis_product-3.ensures.product_limit

pub returns-clause-dot : goal.returns-clause-dot
unfolding along
returns-clause-dot c =
    let row = c.args.row in
    let eye = c.args.eye in
    let p = c.args.p in
    let x = axis_product_of_fields c.axis_product.result row.x eye.x p.x (search rules) (search rules) (search rules)
    c.axis_product.ensures.product in
    let y = axis_product_of_fields c.axis_product-2.result row.y eye.y p.y (search rules) (search rules) (search rules)
    c.axis_product-2.ensures.product in
    let z = axis_product_of_fields c.axis_product-3.result row.z eye.z p.z (search rules) (search rules) (search rules)
    c.axis_product-3.ensures.product in
    three_value c.axis_product.result c.axis_product-2.result c.axis_product-3.result
    c.axis_product.ensures.product_limit c.axis_product-2.ensures.product_limit c.axis_product-3.ensures.product_limit
    ∙ rw (x, y, z) refl

pub returns-clause-dot_limit : goal.returns-clause-dot_limit
returns-clause-dot_limit c =
    three_bound c.axis_product.result c.axis_product-2.result c.axis_product-3.result
    c.axis_product.ensures.product_limit c.axis_product-2.ensures.product_limit c.axis_product-3.ensures.product_limit
