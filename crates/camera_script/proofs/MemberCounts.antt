-- The members and the items of a JSON value, as the code has them.
use Rattle.std.proofs.Common.{◌≡◌, List, [], ◌∷◌, map, length, arith, refl, ap}
use Rattle.std.specs.Prelude.{String}
use Rattle.std.specs.declared.alloc.Global.{Global}
use Rattle.serde_json.specs.View.{view, items_view, members_view}
use Rattle.serde_json.specs.declared.value.Value.{Value}
use Rattle.camera_script.specs.Members.{items_list, member_count}

-- an object's members are counted by the entries of its map
pub member_count_entries : (entries : List (String Global × Value)) →
    member_count (members_view entries) ≡ length entries
member_count_entries [] = refl
member_count_entries (entry ∷ rest) = omega (arith, member_count_entries rest)

-- an array's items are the views of its values
pub items_list_view : (values : List Value) → items_list (items_view values) ≡ map view values
items_list_view [] = refl
items_list_view (value ∷ rest) = ap (λ l. view value ∷ l) (items_list_view rest)
