use Rattle.std.proofs.Common.{◌≡◌, ◌≢◌, ◌+◌, ◌≤◌, length, refl, arith}
use Rattle.obj_source.specs.declared.obj_scanner.ScanState.{ScanState}
use Rattle.obj_source.specs.declared.obj_scanner.ScanState.TheVariants.{First, Skipping}
use Rattle.obj_source.proofs.TakenBytes.{HasTaken-span, HasTaken-passed, HasTaken-long}
use Rattle.obj_source.proofs.obj_scanner.ObjScanner.push_bytes.Goals as goal
use Rattle.obj_source.proofs.obj_scanner.ObjScanner.push_bytes.Goals.{in_default-via-in-First+else-saturating_add-gt-MAX_KEYWORD_BYTES}
use Rattle.obj_source.proofs.obj_scanner.ObjScanner.push_bytes.Goals.{in_default-via-in_default}

differ : (part : ScanState) → part ≡ First → part ≡ Skipping → ⊥
differ part first passed = cc

pub returns-in-Skipping : goal.returns-in-Skipping
returns-in-Skipping c = HasTaken-passed c.args.self.now c.args.span.now c.in-Skipping.is

pub returns-in-First : goal.returns-in-First
returns-in-First c =
    let long : 3 ≤ length c.args.self.now.word.items + length c.args.span.now =
    omega (arith, c.args.self.now.word.ok.0) in
    HasTaken-long c.args.self.now c.skip_line.new.self c.args.span.now c.in-First.is long c.skip_line.ensures.builder
    c.skip_line.ensures.ready c.skip_line.ensures.word c.skip_line.ensures.state

pub returns-in_ok-extend_from_slice-in_default : goal.returns-in_ok-extend_from_slice-in_default
returns-in_ok-extend_from_slice-in_default c =
    let not_passed : c.args.self.now.state ≢ Skipping = elim c.in_default.branch [
      | in_default-via-in-First+else-saturating_add-gt-MAX_KEYWORD_BYTES w ↦ λ passed. differ _ w.in-First.is passed
      | in_default-via-in_default w ↦ w.in_default.not-Skipping
    ] in
    HasTaken-span c.args.self.now _ c.args.span.now not_passed refl refl
    c.in_ok-extend_from_slice-in_default.ensures.items
