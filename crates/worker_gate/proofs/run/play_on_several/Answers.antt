use Rattle.std.proofs.Common.{◌≡◌, ◌∷◌, List, All, ap, sym, subst, vec_items}
use Rattle.std.proofs.lemmas.Result.{IfOk-weaker}
use Rattle.worker_gate.specs.declared.actor.Actor.{Actor}
use Rattle.worker_gate.specs.declared.closing.Run.{Run}
use Rattle.worker_gate.specs.Crews.{HasStopped}
use Rattle.part_places.specs.Places.{given}
use Rattle.worker_gate.proofs.Crowds.{all_are_back, all_stopped, crews_ready, first_is_told, removed, setup_client, setup_its, setup_seats, setup_worker, some_opened}
use Rattle.worker_gate.proofs.run.play_on_several.Goals as goal

pub play_crews-requires-clause-ready : goal.play_crews-requires-clause-ready
play_crews-requires-clause-ready g c κs within =
    let γ = given g.R.Routines.next_of g.R.Routines.after_of c.args.routines.now in
    let pool = c.in_ok-pool.pool in
    let opened = c.in_ok-pool.others.items in
    let is = c.in_ok-pool.ensures.setup in
    let new = c.in_ok-pool.ensures.new in
    let first = c.remove-first.result in
    let others = c.remove-first.new.self.items in
    let parts : opened ≡ first ∷ others = removed opened first others (some_opened pool opened new (setup_seats pool c.args.limits c.args.capacity is c.requires.client)) c.remove-first.ensures.value c.remove-first.ensures.items in
    let its = setup_its pool c.args.limits c.args.capacity is in
    let client = setup_client pool c.args.limits c.args.capacity is c.requires.client in
    let worker = setup_worker pool c.args.limits c.args.capacity is c.requires.limits.workers_least in
    let f = c.finish.ensures in
    let t = c.tell_all.ensures in
    crews_ready γ pool opened new first c.finish.new.actor c.tell_all.new.first others c.tell_all.new.others.items parts its client worker f.goes_on f.ready f.rests t.told t.heard t.first t.others vec_items c.in_ok-crews.crews.items c.in_ok-crews.ensures

pub close_run-requires-clause-back : goal.close_run-requires-clause-back
close_run-requires-clause-back g c =
    let γ = given g.R.Routines.next_of g.R.Routines.after_of c.args.routines.now in
    let pool = c.in_ok-pool.pool in
    let opened = c.in_ok-pool.others.items in
    let is = c.in_ok-pool.ensures.setup in
    let new = c.in_ok-pool.ensures.new in
    let first = c.remove-first.result in
    let others = c.remove-first.new.self.items in
    let parts : opened ≡ first ∷ others = removed opened first others (some_opened pool opened new (setup_seats pool c.args.limits c.args.capacity is c.requires.client)) c.remove-first.ensures.value c.remove-first.ensures.items in
    let its = setup_its pool c.args.limits c.args.capacity is in
    let client = setup_client pool c.args.limits c.args.capacity is c.requires.client in
    let worker = setup_worker pool c.args.limits c.args.capacity is c.requires.limits.workers_least in
    let f = c.finish.ensures in
    let t = c.tell_all.ensures in
    all_are_back γ pool opened new first c.finish.new.actor c.tell_all.new.first others c.tell_all.new.others.items parts its client worker f.goes_on f.ready f.rests t.told t.heard t.first t.others vec_items
    c.in_ok-crews.crews.items c.in_ok-crews.ensures c.in_ok-crews-2.crews.items c.in_ok-actors.actors.items c.in_ok-crews-2.ensures.ready c.in_ok-crews-2.ensures.back c.in_ok-actors.ensures

pub close_run-requires-clause-first : goal.close_run-requires-clause-first
close_run-requires-clause-first g c =
    let γ = given g.R.Routines.next_of g.R.Routines.after_of c.args.routines.now in
    let pool = c.in_ok-pool.pool in
    let opened = c.in_ok-pool.others.items in
    let is = c.in_ok-pool.ensures.setup in
    let new = c.in_ok-pool.ensures.new in
    let first = c.remove-first.result in
    let others = c.remove-first.new.self.items in
    let parts : opened ≡ first ∷ others = removed opened first others (some_opened pool opened new (setup_seats pool c.args.limits c.args.capacity is c.requires.client)) c.remove-first.ensures.value c.remove-first.ensures.items in
    let its = setup_its pool c.args.limits c.args.capacity is in
    let client = setup_client pool c.args.limits c.args.capacity is c.requires.client in
    let worker = setup_worker pool c.args.limits c.args.capacity is c.requires.limits.workers_least in
    let f = c.finish.ensures in
    let t = c.tell_all.ensures in
    first_is_told γ pool opened new first c.finish.new.actor c.tell_all.new.first others c.tell_all.new.others.items parts its client worker f.goes_on f.ready f.rests t.told t.heard t.first t.others vec_items
    c.in_ok-crews.crews.items c.in_ok-crews.ensures c.in_ok-crews-2.crews.items c.in_ok-actors.actors.items c.in_ok-crews-2.ensures.ready c.in_ok-crews-2.ensures.back c.in_ok-actors.ensures

pub returns-clause-stopped : goal.returns-clause-stopped
returns-clause-stopped g c =
    let γ = given g.R.Routines.next_of g.R.Routines.after_of c.args.routines.now in
    let pool = c.in_ok-pool.pool in
    let opened = c.in_ok-pool.others.items in
    let is = c.in_ok-pool.ensures.setup in
    let new = c.in_ok-pool.ensures.new in
    let first = c.remove-first.result in
    let others = c.remove-first.new.self.items in
    let parts : opened ≡ first ∷ others = removed opened first others (some_opened pool opened new (setup_seats pool c.args.limits c.args.capacity is c.requires.client)) c.remove-first.ensures.value c.remove-first.ensures.items in
    let its = setup_its pool c.args.limits c.args.capacity is in
    let client = setup_client pool c.args.limits c.args.capacity is c.requires.client in
    let worker = setup_worker pool c.args.limits c.args.capacity is c.requires.limits.workers_least in
    let f = c.finish.ensures in
    let t = c.tell_all.ensures in
    let back = c.in_ok-actors.actors in
    let all : All (HasStopped γ) back.items =
    all_stopped γ pool opened new first c.finish.new.actor c.tell_all.new.first others c.tell_all.new.others.items parts its client worker f.goes_on f.ready f.rests t.told t.heard t.first t.others vec_items
    c.in_ok-crews.crews.items c.in_ok-crews.ensures c.in_ok-crews-2.crews.items c.in_ok-actors.actors.items c.in_ok-crews-2.ensures.ready c.in_ok-crews-2.ensures.back c.in_ok-actors.ensures f.ended in
    IfOk-weaker c.close_run.result (λ (run : Run g.row.B.Denot). run.actors.value ≡ back) (λ (run : Run g.row.B.Denot). All (HasStopped γ) run.actors.value.items)
    (λ run same. subst (λ (actors : List (Actor g.row.B.Denot)). All (HasStopped γ) actors) (sym (ap vec_items same)) all) c.close_run.ensures.actors
