use Rattle.std.proofs.Common.{None, arith, refl}
use Rattle.begun_waits.proofs.Waiting.{after, least, most}
use Rattle.begun_waits.proofs.waiting_after.Goals as goal

pub overflow_sub-result : goal.overflow_sub-result
overflow_sub-result c =
    rw (c.from.ensures, c.is_some.ensures, c.requires.counted) (least c.args.first c.args.purposes.now c.args.place c.requires.there c.if-place-first.false _ None refl)

pub overflow_add-result : goal.overflow_add-result
overflow_add-result c =
    rw (c.from.ensures, c.from-2.ensures, c.is_some.ensures, c.is_some-2.ensures, c.requires.counted)
    (omega (arith, most c.args.first c.args.purposes.now c.args.place c.requires.there c.if-place-first.false _ None refl c.args.purpose, c.requires.few))

pub returns : goal.returns
returns c =
    rw (c.from.ensures, c.from-2.ensures, c.is_some.ensures, c.is_some-2.ensures, c.requires.counted)
    (after c.args.first c.args.purposes.now c.args.place c.requires.there c.if-place-first.false _ None refl c.args.purpose)
