-- Clusters that are taken out of their slots.
use Rattle.std.proofs.Common.{◌≡◌, ◌≢◌, ◌<◌, ◌+◌, ℕ, Bool, true, false, ◌||◌, eqb, List, [], ◌∷◌, ◌++◌, map, take, set}
use Rattle.std.proofs.Common.{length, get_or, refl, sym, ap, ◌∙◌, subst, arith}
use Rattle.std.proofs.lemmas.Bool.{eq-eqb}
use Rattle.std.proofs.lemmas.List.{append-nil, append_assoc, get_or-set_other, length-set, map-append, take_more}
use Rattle.partition.specs.Batches.{pick}
use Rattle.partition.specs.Growing.{is_in}
use Rattle.partition.proofs.Members.{is_in-push}
use Rattle.dag_build.specs.declared.level_clusters.LevelCluster.{LevelCluster}
use Rattle.dag_build.specs.Grouping.{no_cluster}
use Rattle.dag_build.specs.Internal.Taking.{AreFresh, AreLeft}

or_none : (a b : Bool) → (a || b) ≡ false → (a ≡ false) × (b ≡ false)
or_none true b h = absurd (cc h)
or_none false true h = absurd (cc h)
or_none false false h = (refl, refl)

-- one more cluster is taken
left-more : (clusters slots : List LevelCluster) (taken : List ℕ) (n : ℕ) → AreLeft clusters taken slots →
    AreLeft clusters (taken ++ n ∷ []) (set slots n no_cluster)
left-more clusters slots taken n left = record {
  count = length-set slots n no_cluster ∙ left.count;
  each = λ k within other.
      let apart = or_none (is_in taken k) (eqb n k) (sym (is_in-push taken n k) ∙ other) in
      let differs : k ≢ n = λ same. cc (eq-eqb n k (sym same), apart.1) in
      get_or-set_other slots n k no_cluster no_cluster differs ∙ left.each k within apart.0;
}

pub left-step : (clusters slots next : List LevelCluster) (taken numbers : List ℕ) (i n : ℕ) → i < length numbers →
    n ≡ get_or numbers i 0 → next ≡ set slots n no_cluster → AreLeft clusters (taken ++ take i numbers) slots →
    AreLeft clusters (taken ++ take (i + 1) numbers) next
left-step clusters slots next taken numbers i n within is changed left =
    let all : (taken ++ take i numbers) ++ n ∷ [] ≡ taken ++ take (i + 1) numbers =
    append_assoc taken (take i numbers) (n ∷ []) ∙
    ap (λ xs. taken ++ xs) (ap (λ k. take i numbers ++ k ∷ []) is ∙ sym (take_more numbers i 0 within)) in
    let P : List ℕ → Type 0 = λ xs. AreLeft clusters xs next in
    let Q : List LevelCluster → Type 0 = λ xs. AreLeft clusters ((taken ++ take i numbers) ++ n ∷ []) xs in
    subst P all (subst Q (sym changed) (left-more clusters slots (taken ++ take i numbers) n left))

pub left-start : (clusters slots : List LevelCluster) (taken : List ℕ) → AreLeft clusters taken slots →
    AreLeft clusters (taken ++ []) slots
left-start clusters slots taken left = subst (λ xs. AreLeft clusters xs slots) (sym (append-nil taken)) left

-- the one that is taken is the cluster of its number
pub member-step : (clusters slots members next : List LevelCluster) (taken numbers : List ℕ) (i n : ℕ)
    (member : LevelCluster) →
    i < length numbers → n ≡ get_or numbers i 0 → n < length slots → AreFresh taken numbers →
    AreLeft clusters (taken ++ take i numbers) slots → member ≡ get_or slots n no_cluster →
    members ≡ pick clusters no_cluster (take i numbers) → next ≡ members ++ member ∷ [] →
    next ≡ pick clusters no_cluster (take (i + 1) numbers)
member-step clusters slots members next taken numbers i n member within is below fresh left at so_far grown =
    let named : ℕ → LevelCluster = λ k. get_or clusters k no_cluster in
    let other : is_in (taken ++ take i numbers) n ≡ false =
    ap (is_in (taken ++ take i numbers)) is ∙ fresh i within in
    let here : member ≡ named n = at ∙ left.each n (omega (arith, left.count)) other in
    let more : pick clusters no_cluster (take (i + 1) numbers) ≡ pick clusters no_cluster (take i numbers) ++ named
    (get_or numbers i 0) ∷ [] =
    ap (map named) (take_more numbers i 0 within) ∙ map-append named (take i numbers) (get_or numbers i 0 ∷ []) in
    grown ∙ (ap (λ xs. xs ++ member ∷ []) so_far ∙
    (ap (λ c. pick clusters no_cluster (take i numbers) ++ c ∷ []) (here ∙ ap named is) ∙ sym more))
