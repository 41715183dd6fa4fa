use Rattle.std.proofs.Common.{◌≤◌, ◌*◌, ℕ, Bool, [], length, map, filter, take, ap, arith}
use Rattle.std.specs.List.{range_with_len}
use Rattle.std.proofs.lemmas.List.{length-map}
use Rattle.std.proofs.lemmas.List.FromFn.{length-range_with_len}
use Rattle.std.proofs.lemmas.List.Sums.{length-filter, count_by-le-length}
use Rattle.geom_core.specs.declared.screens.Spot.{Spot}
use Rattle.geom_core.specs.declared.screens.Size.{Size}
use Rattle.geom_core.specs.Coverage.{words_of}
use Rattle.raster64.proofs.tests.puts_of.Goals as goal

few : (f : ℕ → ℕ × ℕ) (p : ℕ → Bool) (n : ℕ) → length (map f (filter p (range_with_len 0 n))) ≤ n
few f p n = omega (
  arith,
  length-map (filter p (range_with_len 0 n)) f,
  length-filter p (range_with_len 0 n),
  count_by-le-length p (range_with_len 0 n),
  length-range_with_len 0 n,
)

-- a triangle has at most as many words as the picture has pixels
few_words : (a b c : Spot) (cluster tri : ℕ) (size : Size) →
    length (words_of a b c cluster tri size) ≤ size.width * size.height
few_words a b c cluster tri size = few _ _ (size.width * size.height)

pub returns : goal.returns
returns c =
    let empty = ap (λ n. take n c.new-recorder.result.puts) c.new-recorder.ensures in
    let fits = few_words c.args.a c.args.b c.args.c c.args.cluster c.args.tri c.args.size in
    (c.for_each_word.ensures.shown tt [] (λ _. (c.new-recorder.ensures, empty))
    (omega (arith, c.requires.pixel_limit))).1
