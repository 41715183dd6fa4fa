use Rattle.std.proofs.Common.{ℕ, List, ◌++◌, Some, None, subst, sym, ◌∙◌}
use Rattle.geom_core.specs.Picture.{Item}
use Rattle.visibility_buffer.proofs.DrawnTriangle.{spot_of-same_camera, nothing-same_camera, projected-same_camera}
use Rattle.visibility_buffer.proofs.DrawnTriangle.{drawn-seen, drawn-first_hidden, drawn-second_hidden}
use Rattle.visibility_buffer.proofs.DrawnTriangle.{drawn-third_hidden, drawn-off_screen}
use Rattle.visibility_buffer.proofs.triangles.draw_triangle.Goals as goal

pub returns-in_default-clause-shown : goal.returns-in_default-clause-shown
returns-in_default-clause-shown g c = λ rest before shown.
    let camera = c.args.cache.now.camera in
    let item : Item = record { cluster = c.args.cluster; place = c.args.number; tri = c.args.tri } in
    subst (g.T.PixelSink.shows c.args.to.now rest)
    (drawn-first_hidden camera c.args.size item (sym (c.in_default.ensures.spot c.args.size)) before) shown

pub returns-in_default-to_view-clause-shown : goal.returns-in_default-to_view-clause-shown
returns-in_default-to_view-clause-shown g c = λ rest before shown.
    let camera = c.args.cache.now.camera in
    let size = c.args.size in
    let tri = c.args.tri in
    let item : Item = record { cluster = c.args.cluster; place = c.args.number; tri = tri } in
    subst (g.T.PixelSink.shows c.args.to.now rest)
    (drawn-second_hidden camera size item _ (sym (c.in-Some.ensures.spot size))
    (spot_of-same_camera camera _ size tri.b None c.in-Some.ensures.same_camera
    (c.in_default-to_view.ensures.spot size)) before)
    shown

pub returns-in_default-to_view-2-clause-shown : goal.returns-in_default-to_view-2-clause-shown
returns-in_default-to_view-2-clause-shown g c = λ rest before shown.
    let camera = c.args.cache.now.camera in
    let size = c.args.size in
    let tri = c.args.tri in
    let item : Item = record { cluster = c.args.cluster; place = c.args.number; tri = tri } in
    let first = c.in-Some.ensures.same_camera in
    let second = c.in-Some-to_view.ensures.same_camera ∙ first in
    subst (g.T.PixelSink.shows c.args.to.now rest)
    (drawn-third_hidden camera size item _ _ (sym (c.in-Some.ensures.spot size))
    (spot_of-same_camera camera _ size tri.b (Some c.in-Some-to_view.b) first
    (c.in-Some-to_view.ensures.spot size))
    (spot_of-same_camera camera _ size tri.c None second (c.in_default-to_view-2.ensures.spot size)) before)
    shown

pub returns-then-is_off_screen-clause-shown : goal.returns-then-is_off_screen-clause-shown
returns-then-is_off_screen-clause-shown g c = λ rest before shown.
    let camera = c.args.cache.now.camera in
    let size = c.args.size in
    let tri = c.args.tri in
    let item : Item = record { cluster = c.args.cluster; place = c.args.number; tri = tri } in
    let first = c.in-Some.ensures.same_camera in
    let second = c.in-Some-to_view.ensures.same_camera ∙ first in
    let third = c.in-Some-to_view-2.ensures.same_camera ∙ second in
    subst (g.T.PixelSink.shows c.args.to.now rest)
    (drawn-off_screen camera size item _ _ _ (sym (c.in-Some.ensures.spot size))
    (spot_of-same_camera camera _ size tri.b (Some c.in-Some-to_view.b) first
    (c.in-Some-to_view.ensures.spot size))
    (spot_of-same_camera camera _ size tri.c (Some c.in-Some-to_view-2.c) second
    (c.in-Some-to_view-2.ensures.spot size))
    (nothing-same_camera camera _ size item c.in-Some.a c.in-Some-to_view.b c.in-Some-to_view-2.c third
    (c.is_off_screen.ensures c.if-is_off_screen.true item.cluster item.place)) before)
    shown

pub returns-clause-shown : goal.returns-clause-shown
returns-clause-shown g c = λ rest before shown.
    let camera = c.args.cache.now.camera in
    let size = c.args.size in
    let tri = c.args.tri in
    let item : Item = record { cluster = c.args.cluster; place = c.args.number; tri = tri } in
    let first = c.in-Some.ensures.same_camera in
    let second = c.in-Some-to_view.ensures.same_camera ∙ first in
    let third = c.in-Some-to_view-2.ensures.same_camera ∙ second in
    subst (λ (draws : List (ℕ × ℕ)). g.T.PixelSink.shows c.for_each_word.new.to rest (before ++ draws))
    (drawn-seen camera size item c.project-a.result c.project-b.result c.project-c.result
    (projected-same_camera camera _ size tri.a c.in-Some.a _ third c.project-a.ensures.spot
    (sym (c.in-Some.ensures.spot size)))
    (projected-same_camera camera _ size tri.b c.in-Some-to_view.b _ third c.project-b.ensures.spot
    (spot_of-same_camera camera _ size tri.b (Some c.in-Some-to_view.b) first
    (c.in-Some-to_view.ensures.spot size)))
    (projected-same_camera camera _ size tri.c c.in-Some-to_view-2.c _ third c.project-c.ensures.spot
    (spot_of-same_camera camera _ size tri.c (Some c.in-Some-to_view-2.c) second
    (c.in-Some-to_view-2.ensures.spot size))))
    (c.for_each_word.ensures.shown rest before shown)
