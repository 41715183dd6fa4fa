-- What one triangle draws, by which of its corners have a spot.
use Rattle.std.proofs.Common.{◌≡◌, ℕ, List, [], ◌++◌, Option, Some, None, option_map, refl, sym, ◌∙◌, ap, subst}
use Rattle.std.proofs.lemmas.List.{append-nil}
use Rattle.geom_core.specs.declared.points.Pt.{Pt}
use Rattle.geom_core.specs.declared.screens.Spot.{Spot}
use Rattle.geom_core.specs.declared.screens.Size.{Size}
use Rattle.geom_core.specs.Camera.{View, spot_of}
use Rattle.geom_core.specs.Coverage.{words_of}
use Rattle.geom_core.specs.Picture.{Item, words_of_spots, drawn}
use Rattle.view_camera.specs.declared.view_points.ViewPoint.{ViewPoint}
use Rattle.view_camera.specs.ViewPoints.{spot_at}

-- the spot of a point whose view-space point a camera gave that is still the old one
pub spot_of-same_camera : (old new : View) (size : Size) (p : Pt) (at : Option ViewPoint) → new ≡ old →
    spot_of new size p ≡ option_map (spot_at new size) at → option_map (spot_at old size) at ≡ spot_of old size p
spot_of-same_camera old new size p at same e =
    sym (subst (λ (view : View). spot_of view size p ≡ option_map (spot_at view size) at) same e)

-- three corners by a camera that is still the old one
pub nothing-same_camera : (old new : View) (size : Size) (item : Item) (a b c : ViewPoint) → new ≡ old →
    words_of (spot_at new size a) (spot_at new size b) (spot_at new size c) item.cluster item.place size ≡ [] →
    words_of (spot_at old size a) (spot_at old size b) (spot_at old size c) item.cluster item.place size ≡ []
nothing-same_camera old new size item a b c same e = subst (λ (view : View).
    words_of (spot_at view size a) (spot_at view size b) (spot_at view size c) item.cluster item.place size ≡ []) same e

pub projected-same_camera : (old new : View) (size : Size) (p : Pt) (at : ViewPoint) (spot : Spot) → new ≡ old →
    spot ≡ spot_at new size at → Some (spot_at old size at) ≡ spot_of old size p → Some spot ≡ spot_of old size p
projected-same_camera old new size p at spot same e seen =
    ap (λ (s : Spot). Some s) (e ∙ ap (λ (view : View). spot_at view size at) same) ∙ seen

drawn_from : (view : View) (size : Size) (item : Item) (a b c : Option Spot) →
    a ≡ spot_of view size item.tri.a → b ≡ spot_of view size item.tri.b → c ≡ spot_of view size item.tri.c →
    words_of_spots a b c item.cluster item.place size ≡ drawn view size item
unfolding drawn
drawn_from view size item a b c is_a is_b is_c =
    ap (λ (o : Option Spot). words_of_spots o b c item.cluster item.place size) is_a
    ∙ ap (λ (o : Option Spot). words_of_spots (spot_of view size item.tri.a) o c item.cluster item.place size) is_b
    ∙ ap (λ (o : Option Spot). words_of_spots (spot_of view size item.tri.a) (spot_of view size item.tri.b) o
    item.cluster item.place size) is_c

pub drawn-seen : (view : View) (size : Size) (item : Item) (a b c : Spot) →
    Some a ≡ spot_of view size item.tri.a →
    Some b ≡ spot_of view size item.tri.b → Some c ≡ spot_of view size item.tri.c →
    words_of a b c item.cluster item.place size ≡ drawn view size item
drawn-seen view size item a b c = drawn_from view size item (Some a) (Some b) (Some c)

after_nothing : (before draws : List (ℕ × ℕ)) → [] ≡ draws → before ≡ before ++ draws
after_nothing before draws e = sym (append-nil before) ∙ ap (λ (l : List (ℕ × ℕ)). before ++ l) e

pub drawn-first_hidden : (view : View) (size : Size) (item : Item) → None ≡ spot_of view size item.tri.a →
    (before : List (ℕ × ℕ)) → before ≡ before ++ drawn view size item
drawn-first_hidden view size item e before =
    after_nothing before (drawn view size item) (drawn_from view size item None _ _ e refl refl)

pub drawn-second_hidden : (view : View) (size : Size) (item : Item) (a : Spot) →
    Some a ≡ spot_of view size item.tri.a → None ≡ spot_of view size item.tri.b →
    (before : List (ℕ × ℕ)) → before ≡ before ++ drawn view size item
drawn-second_hidden view size item a is_a e before =
    after_nothing before (drawn view size item) (drawn_from view size item (Some a) None _ is_a e refl)

pub drawn-third_hidden : (view : View) (size : Size) (item : Item) (a b : Spot) →
    Some a ≡ spot_of view size item.tri.a →
    Some b ≡ spot_of view size item.tri.b → None ≡ spot_of view size item.tri.c →
    (before : List (ℕ × ℕ)) → before ≡ before ++ drawn view size item
drawn-third_hidden view size item a b is_a is_b e before =
    after_nothing before (drawn view size item) (drawn_from view size item (Some a) (Some b) None is_a is_b e)

pub drawn-off_screen : (view : View) (size : Size) (item : Item) (a b c : Spot) →
    Some a ≡ spot_of view size item.tri.a →
    Some b ≡ spot_of view size item.tri.b → Some c ≡ spot_of view size item.tri.c →
    words_of a b c item.cluster item.place size ≡ [] →
    (before : List (ℕ × ℕ)) → before ≡ before ++ drawn view size item
drawn-off_screen view size item a b c is_a is_b is_c none before =
    after_nothing before (drawn view size item) (sym none ∙ drawn-seen view size item a b c is_a is_b is_c)
