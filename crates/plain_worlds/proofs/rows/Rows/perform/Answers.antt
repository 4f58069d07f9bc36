use Rattle.plain_worlds.proofs.Returning.{after_return}
use Rattle.plain_worlds.proofs.rows.Rows.perform.Goals as goal

pub returns : goal.returns
returns c =
    after_return c.self.inside c.args.self.now c.args.words c.args.slots c.args.first c.perform_asked.new.self c.in_ok-jobs.jobs.items c.deref-2.result.now c.deref.result.now c.make_all.new.callbacks.items
    c.self.view_is c.in_ok-jobs.ensures c.deref.ensures.value c.deref-2.ensures.value c.in_ok-make_all.ensures
