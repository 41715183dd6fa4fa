-- A cut by marks on the open groups.
use Rattle.std.proofs.Common.{◌≡◌, ◌<◌, Bool, false, not, ◌&&◌, ℕ, List, length, get_or, map, Option, Some, None, ap}
use Rattle.std.proofs.Common.{◌∙◌, refl}
use Rattle.std.specs.List.{range_with_len}
use Rattle.geom_core.specs.declared.views.Lens.{Lens}
use Rattle.dag_core.specs.declared.cluster_heads.ClusterHead.{ClusterHead}
use Rattle.dag_core.specs.declared.heads.Heads.{Heads}
use Rattle.dag_core.specs.Cuts.{is_in_cut, is_maker_open, is_open}
use Rattle.dag_core.specs.Members.{cluster_at, home}
use Rattle.dag_core.specs.Internal.Marks.{is_marked, is_marked_maker}
use Rattle.dag_core.specs.Internal.Tables.{homes_of}
use Rattle.dag_core.specs.Ranges.{IsInRange}
use Rattle.dag_core.proofs.MemberLaws.{AreMembersInTurn, home_below}
use Rattle.dag_core.proofs.RangeLaws.{maker_below}
use Rattle.dag_core.proofs.TableLaws.{table_at}

-- the marks of open groups
abbrev pub open_marks : Heads → Lens → List ℕ → List Bool
open_marks heads lens resident = map (is_open heads lens resident) (range_with_len 0 (length heads.groups))

maker_marked : (heads : Heads) (lens : Lens) (resident : List ℕ) (marks : List Bool) (made : Option ℕ) →
    marks ≡ open_marks heads lens resident →
    ((m : ℕ) → made ≡ Some m → m < length heads.groups) →
    is_marked_maker marks made ≡ is_maker_open heads lens resident made
maker_marked heads lens resident marks None table below = refl
maker_marked heads lens resident marks (Some m) table below =
    table_at (is_open heads lens resident) (length heads.groups) marks m false table (below m refl)

-- a home that was read from the table of homes
pub home_read : (heads : Heads) (homes : List ℕ) (c read : ℕ) → homes ≡ homes_of heads → c < length heads.clusters →
    read ≡ get_or homes c read → read ≡ home heads c
home_read heads homes c read table below reads =
    reads ∙ table_at (home heads) (length heads.clusters) homes c read table below

-- what the marks tell of a cluster
pub drawn_by : (heads : Heads) (lens : Lens) (resident : List ℕ) (marks : List Bool) (c h : ℕ) (cluster : ClusterHead)
    (told : Bool) →
    IsInRange heads → AreMembersInTurn heads → marks ≡ open_marks heads lens resident → h ≡ home heads c →
    cluster ≡ cluster_at heads c →
    c < length heads.clusters → told ≡ (is_marked marks h && not (is_marked_maker marks cluster.made)) →
    told ≡ is_in_cut heads lens resident c
drawn_by heads lens resident marks c h cluster told range turn table here same below tells =
    tells
    ∙ (ap (λ (k : ClusterHead). is_marked marks h && not (is_marked_maker marks k.made)) same
    ∙ (ap (λ g. is_marked marks g && not (is_marked_maker marks (cluster_at heads c).made)) here
    ∙ (ap (λ b. b && not (is_marked_maker marks (cluster_at heads c).made))
    (table_at (is_open heads lens resident) (length heads.groups) marks (home heads c) false table
    (home_below heads c turn below))
    ∙ ap (λ b. is_open heads lens resident (home heads c) && not b)
    (maker_marked heads lens resident marks (cluster_at heads c).made table
    (λ m made. maker_below heads c m range below made)))))
