use Rattle.std.proofs.Common.{sym}
use Rattle.journal.proofs.HexDigits.{digest_not, digest_read, digest_unread}
use Rattle.journal.proofs.numbers.parse_digest.Goals as goal

pub returns-then-not-has_digest_digits_alone : goal.returns-then-not-has_digest_digits_alone
returns-then-not-has_digest_digits_alone c = digest_not c.args.field.now (sym c.if-not-has_digest_digits_alone.ensures)

pub returns-then-is_ok : goal.returns-then-is_ok
returns-then-is_ok c =
    digest_read c.args.field.now c.decode_to_slice.result c.decode_to_slice.new.out
    (sym c.if-not-has_digest_digits_alone.ensures)
    (sym c.if-is_ok.ensures.value) c.decode_to_slice.ensures.value

pub returns-else-is_ok : goal.returns-else-is_ok
returns-else-is_ok c =
    digest_unread c.args.field.now c.decode_to_slice.result c.decode_to_slice.new.out
    (sym c.if-not-has_digest_digits_alone.ensures)
    (sym c.if-is_ok.ensures.value) c.decode_to_slice.ensures.value
