use Rattle.std.proofs.Common.{length}
use Rattle.page_codec.specs.Numbers.{numbers_of}
use Rattle.page_codec.proofs.NumberLists.{numbers_of-read}
use Rattle.page_codec.proofs.numbers.read_numbers.Goals as goal

pub returns : goal.returns
unfolding numbers_of
returns c = record {
  numbers =
      numbers_of-read (length c.args.numbers.now) c.args.bytes.now c.read_u32_into.new.dst c.read_u32_into.auto.dst
      c.read_u32_into.ensures;
}
