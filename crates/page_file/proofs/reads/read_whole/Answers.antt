use Rattle.std.proofs.Common.{◌≡◌, sym, arith, drop, length, take, length-take-le}
use Rattle.page_file.proofs.Texts.{if_some}
use Rattle.page_file.proofs.reads.read_whole.Goals as goal

pub returns-in-Short-clause-refused : goal.returns-in-Short-clause-refused
returns-in-Short-clause-refused g c =
    let n = c.in-Short.count in
    let buffer = c.read.new.into in
    let size : length (take n buffer) ≡ n =
    length-take-le n buffer (omega (arith, c.in-Short.ensures.outcome.fewer)) in record {
      rest = take n buffer;
      fewer = omega (arith, size, c.in-Short.ensures.outcome.fewer);
      count_is = omega (arith, size);
      bytes =
          if_some (g.P.PageSource.holds c.args.src.now) (λ bytes. take n buffer ≡ drop c.args.at bytes)
          (λ bytes. drop c.args.at bytes ≡ take n buffer)
          (λ bytes is. sym is) c.in-Short.ensures.outcome.bytes;
    }
