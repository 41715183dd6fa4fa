use Rattle.std.proofs.Common.{◌≡◌, ◌++◌, ◌∷◌, [], List, ap, ◌∙◌}
use Rattle.std.proofs.lemmas.List.{append_assoc}
use Rattle.geom_core.specs.EdgeSum.{edges_of}
use Rattle.partition.specs.declared.edge_uses.EdgeUse.{EdgeUse}
use Rattle.partition.proofs.clusters.push_uses.Goals as goal

-- three pushes are one list at the end
pushes : (xs ys zs ws : List EdgeUse) (a b c x y z : EdgeUse) → ys ≡ xs ++ a ∷ [] → zs ≡ ys ++ b ∷ [] →
    ws ≡ zs ++ c ∷ [] → a ≡ x → b ≡ y → c ≡ z →
    ws ≡ xs ++ x ∷ y ∷ z ∷ []
pushes xs ys zs ws a b c x y z f g h p q r =
    h ∙ (ap (λ us. us ++ c ∷ []) (g ∙ ap (λ us. us ++ b ∷ []) f)
    ∙ (append_assoc (xs ++ a ∷ []) (b ∷ []) (c ∷ [])
    ∙ (append_assoc xs (a ∷ []) (b ∷ c ∷ [])
    ∙ (ap (λ s. xs ++ s ∷ b ∷ c ∷ []) p ∙ (ap (λ s. xs ++ x ∷ s ∷ c ∷ []) q ∙ ap (λ s. xs ++ x ∷ y ∷ s ∷ []) r)))))

pub returns : goal.returns
unfolding edges_of
returns c =
    pushes c.args.uses.now.items c.push.new.self.items c.push-2.new.self.items c.push-3.new.self.items _ _ _ _ _ _
    c.in_ok-push.ensures.items c.in_ok-push-2.ensures.items c.in_ok-push-3.ensures.items
    c.use_between.ensures c.use_between-2.ensures c.use_between-3.ensures
