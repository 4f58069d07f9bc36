use Rattle.std.proofs.lemmas.Result.{on_ok_weaker}
use Rattle.short_codes.specs.Codes.{listed, number}
use Rattle.row_codes.specs.Rows.{arming_code, callback_code, client_code, group_code, kernel_code, limits_code, object_code, pool_code, setting_code, worker_code}
use Rattle.row_codes.specs.Worlds.{wait_code}
use Rattle.plain_worlds.proofs.Joining.{thirteen}
use Rattle.plain_worlds.proofs.rows.Rows.write.Goals as goal

pub returns : goal.returns
returns c =
    let w = c.args.self.now in
    on_ok_weaker c.write_clock.result
    (thirteen c.args.text.now.items (limits_code w.limits) (listed pool_code w.pools) (listed group_code w.groups) (listed object_code w.objects)
    (listed callback_code w.callbacks) (listed kernel_code w.kernels) (listed setting_code w.settings) (listed arming_code w.armings)
    (listed worker_code w.workers) (listed client_code w.clients) (listed wait_code w.waits) (number w.now) (number w.given_up)
    c.write_things.new.text.items c.write_sources.new.text.items c.write_actors.new.text.items c.write_clock.new.text.items
    c.in_ok-write_things.ensures c.in_ok-write_sources.ensures c.in_ok-write_actors.ensures)
    c.write_clock.ensures
