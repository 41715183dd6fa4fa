-- The lists of uppers, filled up to a page with empty ones.
use Rattle.std.proofs.Common.{◌≡◌, ℕ, ◌+◌, ◌-◌, ◌≤◌, ◌<◌, List, [], ◌∷◌, ◌++◌, length, min, replicate, arith}
use Rattle.std.proofs.Common.{append_assoc, ap, ◌∙◌}
use Rattle.std.proofs.lemmas.List.{replicate_more}
use Rattle.journal.specs.Grammar.{up_to}

-- one page more
pub up_to_more : (uppers : List (List ℕ)) (page : ℕ) → length uppers ≤ page →
    up_to uppers page ++ [] ∷ [] ≡ up_to uppers (page + 1)
up_to_more uppers page le =
    let some : page - length uppers + 1 ≡ page + 1 - length uppers = omega (arith, le) in
    append_assoc uppers (replicate (page - length uppers) []) ([] ∷ [])
    ∙ ap (λ gap. uppers ++ gap) (replicate_more (page - length uppers) [] ∙ ap (λ n. replicate n []) some)

-- an empty list more, while the counter is below the page
pub padded : (uppers items now : List (List ℕ)) (made : List ℕ) (counter page : ℕ) → now ≡ items ++ made ∷ [] →
    made ≡ [] → items ≡ up_to uppers (min counter page) → length uppers ≤ counter → counter < page →
    now ≡ up_to uppers (min (counter + 1) page)
padded uppers items now made counter page pushed empty so_far le lt =
    let here : min counter page ≡ counter = omega (arith, lt) in
    let there : counter + 1 ≡ min (counter + 1) page = omega (arith, lt) in
    pushed
    ∙ ap (λ made. items ++ made ∷ []) empty
    ∙ ap (λ items. items ++ [] ∷ []) (so_far ∙ ap (up_to uppers) here)
    ∙ up_to_more uppers counter le
    ∙ ap (up_to uppers) there
