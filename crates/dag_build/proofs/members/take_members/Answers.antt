use Rattle.std.proofs.Common.{refl, ◌≡◌, ◌++◌, ◌∙◌, get_or, set, ap, subst, arith}
use Rattle.std.proofs.lemmas.List.{get_or_read, length-set, take_all}
use Rattle.partition.specs.Batches.{pick}
use Rattle.dag_build.specs.Grouping.{no_cluster}
use Rattle.dag_build.specs.Internal.Taking.{AreLeft}
use Rattle.dag_build.proofs.TakingLaws.{left-step, member-step}
use Rattle.dag_build.proofs.members.take_members.Goals as goal

pub loop-number-preserved : goal.loop-number-preserved
loop-number-preserved c =
    let slots = c.loop-number.slots.items in
    let numbers = c.args.numbers.now in
    let i = c.loop-number.number-index in
    let n = get_or numbers i 0 in
    let inv = c.loop-number.invariant in
    let nothing : c.replace-member.new.dest ≡ no_cluster = c.replace-member.ensures.after ∙
    c.in_ok-nothing.ensures.cluster in
    let changed : set slots n c.replace-member.new.dest ≡ set slots n no_cluster = ap (set slots n) nothing in
    let below = c.requires.number_range i 0 c.loop-number-test.true in
    record {
      count = length-set slots n c.replace-member.new.dest ∙ inv.count;
      slots = λ clusters taken left. left-step clusters slots (set slots n c.replace-member.new.dest) taken numbers i n
          c.loop-number-test.true refl changed (inv.slots clusters taken left);
      members = λ clusters taken left fresh. member-step clusters slots c.loop-number.members.items
          c.push.new.self.items taken numbers i n
          c.replace-member.result c.loop-number-test.true refl (omega (arith, below, inv.count)) fresh
          (inv.slots clusters taken left)
          (c.replace-member.ensures.value ∙ get_or_read slots n c.index_mut.result.now (omega
          (arith, below, inv.count)) c.index_mut.ensures.value no_cluster) (inv.members clusters taken left fresh)
          c.in_ok-push.ensures.items;
    }

pub returns-clause-members : goal.returns-clause-members
returns-clause-members c = λ clusters taken left fresh.
    c.loop-number.invariant.members clusters taken left fresh ∙
    ap (pick clusters no_cluster) (take_all c.loop-number.number-index c.args.numbers.now c.loop-number-test.false)

pub returns-clause-slots : goal.returns-clause-slots
returns-clause-slots c = λ clusters taken left.
    subst (λ xs. AreLeft clusters (taken ++ xs) c.loop-number.slots.items)
    (take_all c.loop-number.number-index c.args.numbers.now c.loop-number-test.false)
    (c.loop-number.invariant.slots clusters taken left)
