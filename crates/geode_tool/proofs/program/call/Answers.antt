use Rattle.std.proofs.Common.{inl}
use Rattle.geode_tool.proofs.CallAnswers.{early_memory}
use Rattle.geode_tool.proofs.program.call.Goals as goal

pub returns-in_err-words-clause-promise : goal.returns-in_err-words-clause-promise
returns-in_err-words-clause-promise g c = early_memory _ _ _ _ _ _ _ _ _ c.from_residual.ensures

pub returns : goal.returns
returns g c =
    let d = c.deref.ensures.value in
    let e = c.in_ok-words.ensures in
    let w = c.words_of.ensures in record {
      usage = λ none. inl ((rw (d, e, w) at c.geode.ensures.usage).1 none);
      unchanged = rw (d, e, w) at c.geode.ensures.unchanged;
      only_refused = rw (d, e, w) at c.geode.ensures.only_refused;
      input_unchanged = rw (d, e, w) at c.geode.ensures.input_unchanged;
      sources_unchanged = rw (d, e, w) at c.geode.ensures.sources_unchanged;
      promise = rw (d, e, w) at c.geode.ensures.promise;
    }
