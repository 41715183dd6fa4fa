-- Marks on the uppers of a page.
use Rattle.std.proofs.Common.{◌≡◌, ◌==◌, ℕ, Bool, true, false, not, ◌&&◌, List, [], ◌∷◌, length, refl}
use Rattle.std.specs.List.{list_any, range_with_len}
use Rattle.dag_core.specs.declared.heads.Heads.{Heads}
use Rattle.dag_core.specs.Members.{cluster_at}
use Rattle.dag_core.specs.Pages.{is_maker_on, is_upper, page_of_cluster}

-- a cluster by which page q is an upper of p
abbrev pub is_upper_by : Heads → ℕ → ℕ → ℕ → Bool
is_upper_by heads p q c =
    not (q == p) && (is_maker_on heads p (cluster_at heads c).made && page_of_cluster heads c == q)

-- what doesn't change from cluster to cluster is asked once
any_both : (b : Bool) (test : ℕ → Bool) (xs : List ℕ) → list_any (λ k. b && test k) xs ≡ (b && list_any test xs)
any_both true test xs = refl
any_both false test [] = refl
any_both false test (x ∷ xs) = any_both false test xs

pub is_upper-by : (heads : Heads) (p q : ℕ) →
    list_any (is_upper_by heads p q) (range_with_len 0 (length heads.clusters)) ≡ is_upper heads p q
unfolding is_upper
is_upper-by heads p q =
    any_both (not (q == p)) (λ c. is_maker_on heads p (cluster_at heads c).made && page_of_cluster heads c == q)
    (range_with_len 0 (length heads.clusters))
