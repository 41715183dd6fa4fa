use Rattle.std.proofs.Common.{◌≡◌, ◌+◌, ◌-◌, ◌<◌, ◌∙◌, true, false, length, ap, sym, arith, subst}
use Rattle.dag_core.proofs.ClosingLaws.{IsJudged, closure_from, judged_marked, judged_unmarked, mark_read}
use Rattle.dag_core.proofs.heads.Heads.closed_from.Goals.{else-index, then-index}
use Rattle.dag_core.proofs.heads.Heads.closed_from.Goals as goal

pub loop-judged-preserved : goal.loop-judged-preserved
loop-judged-preserved c =
    let count = c.loop-judged.invariant.count in
    let pages = c.requires.count in
    let p = c.len-count.result - 1 - c.loop-judged.judged in
    let at : p + c.loop-judged.judged + 1 ≡ c.args.self.now.pages = omega arith in
    let below : p < length c.loop-judged.closed.items = omega arith in
    elim c.if-index.branch [
      | then-index w ↦
          let read =
          mark_read c.loop-judged.closed.items p c.index.result.now true below c.index.ensures w.if-index.true in
          record {
            count = ap (λ v. length v.items) w.closed-is ∙ (w.mark_uppers.ensures.count ∙ count);
            judged =
                subst (λ v. IsJudged c.args.self.now c.args.marks.items v.items (c.loop-judged.judged + 1))
                (sym w.closed-is)
                (judged_marked c.args.self.now c.args.marks.items c.loop-judged.closed.items _ c.loop-judged.judged p
                c.requires.range c.requires.checked
                c.loop-judged.invariant.judged at read w.mark_uppers.ensures.marks);
          }
      | else-index w ↦
          let read =
          mark_read c.loop-judged.closed.items p c.index.result.now false below c.index.ensures w.if-index.false in
          record {
            count = ap (λ v. length v.items) w.closed-is ∙ count;
            judged =
                subst (λ v. IsJudged c.args.self.now c.args.marks.items v.items (c.loop-judged.judged + 1))
                (sym w.closed-is)
                (judged_unmarked c.args.self.now c.args.marks.items c.loop-judged.closed.items c.loop-judged.judged p
                c.loop-judged.invariant.judged at read);
          }
    ]

pub returns : goal.returns
returns c =
    let count = c.loop-judged.invariant.count in
    let pages = c.requires.count in
    let end : c.loop-judged.judged ≡ c.args.self.now.pages = omega arith in
    record {
      closure =
          closure_from c.args.self.now c.args.marks.items c.deref-2.result.now c.in_ok-pages.pages c.requires.range
          c.requires.checked
          (ap length c.deref-2.ensures.value ∙ count)
          (subst (λ xs. IsJudged c.args.self.now c.args.marks.items xs c.args.self.now.pages)
          (sym c.deref-2.ensures.value)
          (subst (λ n. IsJudged c.args.self.now c.args.marks.items c.loop-judged.closed.items n) end
          c.loop-judged.invariant.judged))
          c.in_ok-pages.ensures.marked;
    }
