use Rattle.std.specs.Prelude.{Err}
use Rattle.serde_json.specs.View.{view}
use Rattle.camera_script.proofs.ReadTexts.{script_of-refused, script_of-value}
use Rattle.camera_script.proofs.SoundScripts.{accepted, bad, refused, sound}
use Rattle.camera_script.specs.Internal.Answers.{AnswersOrMemory}
use Rattle.camera_script.specs.Script.{script_of}
use Rattle.camera_script.proofs.reading.read_script.Goals as goal

pub returns-in-Ok : goal.returns-in-Ok
returns-in-Ok c =
    let answer : AnswersOrMemory (script_of c.args.text.now) c.script_of_value.result =
    script_of-value c.args.text.now (view c.in-Ok.value) c.script_of_value.result c.in-Ok.ensures.ok.0
    c.in-Ok.ensures.ok.1 c.script_of_value.ensures in record {
      accepted = accepted (script_of c.args.text.now) c.script_of_value.result answer;
      refused = refused (script_of c.args.text.now) c.script_of_value.result answer;
      bad = bad (script_of c.args.text.now) c.script_of_value.result answer;
      sound = sound c.args.text.now c.script_of_value.result answer;
    }

pub returns-in-Err : goal.returns-in-Err
returns-in-Err c =
    let answer : AnswersOrMemory (script_of c.args.text.now) (Err c.fault_of_text.result) =
    script_of-refused c.args.text.now c.in-Err.error c.fault_of_text.result c.in-Err.ensures.err
    c.fault_of_text.ensures in record {
      accepted = accepted (script_of c.args.text.now) (Err c.fault_of_text.result) answer;
      refused = refused (script_of c.args.text.now) (Err c.fault_of_text.result) answer;
      bad = bad (script_of c.args.text.now) (Err c.fault_of_text.result) answer;
      sound = sound c.args.text.now (Err c.fault_of_text.result) answer;
    }
