-- `put_digits` meets its contract: the digits before the last are those that its call of itself puts. Assumes nothing.
use Rattle.std.proofs.Common.{◌-◌, ◌/◌, arith}
use Rattle.text.proofs.Numbers.{digits_more, digits_few}
use Rattle.text.proofs.Put.{put_append}
use Rattle.text.proofs.+put_digits.Goals as goal

pub put_byte-requires-2 : goal.put_byte-requires-2
put_byte-requires-2 t c = omega (arith, c.put_digits-to.ensures.end_is, c.put_digits-to.auto, digits_few (c.args.k - 1) (c.args.n / 10))

pub returns : goal.returns
returns t c =
    rw (digits_more c.args.k c.args.n c.if-k-eq0.false c.if-n-lt10.false)
    (put_append _ _ _ _ _ _ _ _ c.put_digits-to.ensures c.put_byte-2.ensures)
