use Rattle.raster64.specs.Internal.Raster.{words_in}
use Rattle.raster64.proofs.words.for_each_word.Goals as goal

pub returns-clause-shown : goal.returns-clause-shown
unfolding words_in
returns-clause-shown g c = c.draw.ensures.shown
