-- the numbers so far and those of the items that are left are those of all
use Rattle.std.proofs.Common.{◌≡◌, ◌++◌, drop, length, map, option_map, take}
use Rattle.serde_json.specs.View.{view}
use Rattle.camera_script.specs.Members.{whole_numbers_in}
use Rattle.camera_script.proofs.members.camera_numbers.Given as goal

abbrev pub invariant-loop-place : goal.invariant-loop-place
invariant-loop-place l = record {
  whole : length l.numbers ≡ 15;
  so_far : option_map (λ ns. take l.place l.numbers ++ ns) (whole_numbers_in (map view (drop l.place l.items))) ≡
      whole_numbers_in (map view l.items);
}
