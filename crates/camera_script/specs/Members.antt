-- What a script asks of a JSON value: its members, its whole numbers, its items.
use Rattle.std.specs.Prelude.{ℕ, ◌+◌, ◌==◌, ℤ, Bool, false, if◌then◌else◌, List, [], ◌∷◌, length, Option, None}
use Rattle.std.specs.Prelude.{Some, option_map, option_and_then}
use Rattle.std.specs.Option.{option_map_or}
use Rattle.serde_json.specs.Data.{Data, Items, no_items, item, Members, no_members, member}
use Rattle.serde_json.specs.Find.{as_array, as_i64, as_number, as_object}

-- the reading after another, of what that one gave; none if it gave none
infixl 10 ◌>>=◌
abbrev pub ◌>>=◌ : {A B : Type 0} → Option A → (A → Option B) → Option B
None >>= next = None
Some found >>= next = next found

-- how many members an object has; each has a key of its own
abbrev pub member_count : Members → ℕ
member_count no_members = 0
member_count (member key value rest) = member_count rest + 1

-- whether the value is an object with this many members
abbrev pub has_members : ℕ → Data → Bool
has_members count value = option_map_or (λ members. member_count members == count) (as_object value) false

-- the items of an array, in order
abbrev pub items_list : Items → List Data
items_list no_items = []
items_list (item value rest) = value ∷ items_list rest

abbrev pub items_in : Data → Option (List Data)
items_in value = option_map items_list (as_array value)

-- a whole number: a JSON number that is an integer of 64 bits with a sign
abbrev pub whole_number_in : Data → Option ℤ
whole_number_in value = option_and_then as_i64 (as_number value)

-- the whole numbers of some items, if each is one
abbrev pub whole_numbers_in : List Data → Option (List ℤ)
whole_numbers_in [] = Some []
whole_numbers_in (value ∷ rest) = do
  number ← whole_number_in value
  numbers ← whole_numbers_in rest
  Some (number ∷ numbers)

-- the whole numbers of an array that has exactly this many items, all of them whole numbers
abbrev pub numbers_in : ℕ → Data → Option (List ℤ)
numbers_in count value = do
  items ← items_in value
  if length items == count then whole_numbers_in items else None
