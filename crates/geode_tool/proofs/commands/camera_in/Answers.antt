use Rattle.std.proofs.Common.{sym, ◌∙◌}
use Rattle.geode_tool.proofs.CameraWords.{camera-none, camera-some}
use Rattle.geode_tool.proofs.commands.camera_in.Goals as goal

pub returns-in_err-numbers_in : goal.returns-in_err-numbers_in
returns-in_err-numbers_in c =
    c.from_residual.ensures ∙ camera-none c.args.word.now (sym c.numbers_in.ensures ∙ c.in_err-numbers_in.was)

pub returns : goal.returns
returns c =
    c.ok.ensures.value
    ∙ camera-some c.args.word.now c.in_ok-numbers_in.field-0 c.new.result
    (sym c.numbers_in.ensures ∙ c.in_ok-numbers_in.was) c.new.ensures.camera c.new.ensures.bad_camera
