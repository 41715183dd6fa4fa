-- Lists that grow at their end.
use Rattle.std.proofs.Common.{◌≡◌, List, ◌++◌, ◌∙◌, ap}
use Rattle.std.proofs.lemmas.List.{append_assoc}

-- three parts added in turn
pub added_three : {A : Type 0} (o a b c : List A) {n m l : List A} → n ≡ o ++ a → m ≡ n ++ b → l ≡ m ++ c →
    l ≡ o ++ (a ++ b ++ c)
added_three {A} o a b c {n} {m} {l} first second third =
    third ∙ ap (λ (v : List A). v ++ c) (second ∙ ap (λ (v : List A). v ++ b) first) ∙ regrouped
  where
    regrouped : ((o ++ a) ++ b) ++ c ≡ o ++ (a ++ b ++ c)
    regrouped = simp append_assoc
