-- Each event keeps the counts in the table of makers those of the journal.
use Rattle.std.proofs.Common.{◌≡◌, ℕ, ◌==◌, List, [], ◌∷◌, ◌++◌, Bool, true, false, cond, ◌||◌, ⊎_elim, Option, Some}
use Rattle.std.proofs.Common.{None, fold, get_or, set, refl, sym, ◌∙◌, eq-eqb}
use Rattle.journal.specs.declared.entries.Entry.{Entry}
use Rattle.journal.specs.declared.entries.What.{What}
use Rattle.journal.specs.declared.entries.What.TheVariants.{Pin, Settle, Ask, Narrow, Unpin, Take, Install, Fail, Spoil}
use Rattle.journal.specs.declared.entries.What.TheVariants.{Starve, Full, Stop}
use Rattle.pool_rules.specs.Rules.{after_fail, last_after}
use Rattle.pool_rules.proofs.Flags.{get_or-set_cases}
use Rattle.pool_rules.proofs.Tests.{or-left, or-right}
use Rattle.pool_tables.specs.MakerItems.{fault_of, has_maker}
use Rattle.pool_tables.specs.MakerMeaning.{AreMakers, is_fail}

-- the count of faults after one entry more
fold-push : (maker : ℕ) (start : ℕ) (journal : List Entry) (e : Entry)
    → fold (λ last (x : Entry). after_fail (x.by == maker) x.what last) start (journal ++ e ∷ []) ≡ after_fail
    (e.by == maker) e.what (fold (λ last (x : Entry). after_fail (x.by == maker) x.what last) start journal)
fold-push maker start [] e = refl
fold-push maker start (x ∷ journal) e = fold-push maker (after_fail (x.by == maker) x.what start) journal e

pub last_after-push : (maker : ℕ) (journal : List Entry) (e : Entry)
    → last_after maker (journal ++ e ∷ []) ≡ after_fail (e.by == maker) e.what (last_after maker journal)
last_after-push maker journal e = fold-push maker 0 journal e

-- an event that is no Fail changes no count
after_fail-other : (own : Bool) (what : What) (last : ℕ) → is_fail what ≡ false → after_fail own what last ≡ last
after_fail-other true (Pin frame) last h = refl
after_fail-other true (Settle frame pages missing) last h = refl
after_fail-other true (Ask frame pages) last h = refl
after_fail-other true (Narrow frame pages) last h = refl
after_fail-other true (Unpin frame) last h = refl
after_fail-other true (Take frame page victim) last h = refl
after_fail-other true (Install page digest) last h = refl
after_fail-other true (Fail page before after) last h = cc
after_fail-other true (Spoil page why) last h = refl
after_fail-other true (Starve page) last h = refl
after_fail-other true (Full frame) last h = refl
after_fail-other true Stop last h = refl
after_fail-other false what last h = refl

-- a Fail
pub AreMakers-fail : (journal : List Entry) (loading : List (Option ℕ)) (old new : List (ℕ × ℕ))
    (by page before after : ℕ)
    → AreMakers journal loading old → ((n : ℕ) → has_maker new n ≡ has_maker old n)
    → ((n : ℕ) → fault_of new n ≡ cond (by == n) after (fault_of old n))
    → AreMakers (journal ++ record { by = by; what = Fail page before after } ∷ []) (set loading page None) new
AreMakers-fail journal loading old new by page before after are makers faults = record {
  faults =
      λ n. faults n ∙
      (pick n (by == n) ∙ sym (last_after-push n journal (record { by = by; what = Fail page before after })));
  loaders =
      λ p n at. makers n ∙ ⊎_elim (λ same. are.loaders p n (sym same ∙ at)) (λ here. let none = here.1 in cc)
      (get_or-set_cases loading page p None None);
}
  where
    pick : (n : ℕ) (b : Bool)
        → cond b after (fault_of old n) ≡ after_fail b (Fail page before after) (last_after n journal)
    pick n true = refl
    pick n false = are.faults n

-- a Take: its maker has an item from then on
pub AreMakers-take : (journal : List Entry) (loading : List (Option ℕ)) (old new : List (ℕ × ℕ)) (by page : ℕ)
    (frame victim : Option ℕ)
    → AreMakers journal loading old → ((n : ℕ) → has_maker new n ≡ ((by == n) || has_maker old n))
    → ((n : ℕ) → fault_of new n ≡ fault_of old n)
    → AreMakers (journal ++ record { by = by; what = Take frame page victim } ∷ []) (set loading page (Some by)) new
AreMakers-take journal loading old new by page frame victim are makers faults = record {
  faults =
      λ n. faults n ∙
      (are.faults n ∙ sym (last_after-push n journal (record { by = by; what = Take frame page victim }) ∙
      after_fail-other (by == n) (Take frame page victim) (last_after n journal) refl));
  loaders = λ p n at. makers n ∙ ⊎_elim
      (λ same. or-right (by == n) (has_maker old n) (are.loaders p n (sym same ∙ at)))
      (λ here. let some = here.1 in let is : by ≡ n = cc in or-left (by == n) (has_maker old n) (eq-eqb by n is))
      (get_or-set_cases loading page p (Some by) None);
}

-- any other event that adds no load
pub AreMakers-other : (journal : List Entry) (loading loading_now : List (Option ℕ)) (table : List (ℕ × ℕ)) (e : Entry)
    → AreMakers journal loading table → is_fail e.what ≡ false
    → ((page maker : ℕ) → get_or loading_now page None ≡ Some maker → get_or loading page None ≡ Some maker)
    → AreMakers (journal ++ e ∷ []) loading_now table
AreMakers-other journal loading loading_now table e are other fewer = record {
  faults =
      λ n. are.faults n ∙ sym (last_after-push n journal e ∙
      after_fail-other (e.by == n) e.what (last_after n journal) other);
  loaders = λ p n at. are.loaders p n (fewer p n at);
}
