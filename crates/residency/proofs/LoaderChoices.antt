-- What a loader may do next, by what was found.
use Rattle.std.proofs.Common.{◌≡◌, ℕ, ◌<◌, ◌≤◌, true, false, cond, nat_lt, Option, None, sym, ap, ◌∙◌, arith}
use Rattle.std.proofs.lemmas.Bool.Decides.{Decides-ltb, nat_tests}
use Rattle.journal.specs.declared.layouts.Layout.{Layout}
use Rattle.pool_rules.specs.declared.next_load.Next.TheVariants.{Take}
use Rattle.pool_rules.specs.Next.{next_at, next_with}
use Rattle.pool_rules.specs.State.{State, held_count}
use Rattle.pool_rules.specs.Victim.{victim_for}

pub next_at-free : (layout : Layout) (s : State) (page : ℕ) → held_count s < layout.slots → Take page None ≡ next_at
    layout s page
next_at-free layout s page lt =
    let room : nat_lt (held_count s) layout.slots ≡ true = (Decides-ltb (held_count s) layout.slots).1 lt in
    sym (ap (λ b. cond b (Take page None) (next_with page (victim_for layout s page))) room)

full : (held slots : ℕ) → slots ≤ held → nat_lt held slots ≡ false
full held slots le = grind (arith, nat_tests)

pub next_at-held : (layout : Layout) (s : State) (page : ℕ) (victim : Option ℕ) → layout.slots ≤ held_count s →
    victim ≡ victim_for layout s page → next_with page victim ≡ next_at layout s page
next_at-held layout s page victim le is =
    ap (next_with page) is ∙ sym (ap (λ b. cond b (Take page None) (next_with page (victim_for layout s page)))
    (full (held_count s) layout.slots le))
