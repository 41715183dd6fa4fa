use Rattle.std.proofs.Common.{◌≡◌, true, ◌++◌, length, take, get_or, sym, below_more, arith}
use Rattle.std.proofs.lemmas.List.Sums.{prefix_len_is}
use Rattle.std.specs.Char.{is_ascii_digit}
use Rattle.obj_source.proofs.SignificantLaws.{digits_push}
use Rattle.obj_source.proofs.decimals.read_digits.Goals as goal

pub returns-then-not-is_ascii_digit-clause-len : goal.returns-then-not-is_ascii_digit-clause-len
returns-then-not-is_ascii_digit-clause-len c =
    sym (prefix_len_is is_ascii_digit c.args.bytes.now c.loop-len.len 0 (omega arith) c.loop-len.invariant.are_digits
    (λ _. sym c.if-not-is_ascii_digit.ensures.value))

pub loop-len-preserved : goal.loop-len-preserved
loop-len-preserved c =
    let bytes = c.args.bytes.now in
    let i = c.loop-len.len in
    let digit : is_ascii_digit (get_or bytes i 0) ≡ true = sym c.if-not-is_ascii_digit.ensures.value in
    let d = c.with-digits.result in
    record {
      are_digits = below_more _ _ c.loop-len.invariant.are_digits digit;
      counted = λ digits h. rw (digits_push digits bytes i (omega arith) digit)
          (c.with-digits.ensures.counted (digits ++ take i bytes) (c.loop-len.invariant.counted digits h));
      room = omega (arith, c.with-digits.ensures.room);
    }

pub returns-clause-len : goal.returns-clause-len
returns-clause-len c =
    let all : length c.args.bytes.now ≡ c.loop-len.len = omega arith in
    sym (prefix_len_is is_ascii_digit c.args.bytes.now (length c.args.bytes.now) 0 (omega arith)
    (rw all c.loop-len.invariant.are_digits) (λ h. absurd (omega arith)))
