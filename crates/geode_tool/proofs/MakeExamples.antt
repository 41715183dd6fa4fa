-- Worked examples of the words of `make`, computed by the checker.
use Rattle.std.specs.Prelude.{◌≡◌, ◌∷◌, [], Some, None, codes, refl}
use Rattle.geode_tool.specs.declared.commands.Command.TheVariants.{Make}
use Rattle.geode_tool.specs.Words.{whole_number, box_size, box_number, make_words, command_words}

pub command_words-make : command_words (codes "make" ∷ codes "295" ∷ codes "7" ∷ []) ≡
    Some (Make (record { size = 295; number = 7 }))
unfolding command_words make_words box_size box_number whole_number
command_words-make = refl

pub make_words-no_number : make_words (codes "make" ∷ codes "1" ∷ []) ≡ None
unfolding make_words
make_words-no_number = refl

-- a box has 1 to 295 cells along an edge, and a number of 32 bits
pub box_size-0 : box_size (codes "0") ≡ None
unfolding box_size whole_number
box_size-0 = refl

pub box_size-296 : box_size (codes "296") ≡ None
unfolding box_size whole_number
box_size-296 = refl

pub box_number-greatest : box_number (codes "4294967295") ≡ Some 4294967295
unfolding box_number whole_number
box_number-greatest = refl

pub box_number-more : box_number (codes "4294967296") ≡ None
unfolding box_number whole_number
box_number-more = refl
