use Rattle.std.proofs.Common.{◌≡◌, ℕ, ◌++◌, List, length, get_or, ap, arith, ◌∙◌}
use Rattle.std.specs.Global.{Vec}
use Rattle.tp_port.specs.declared.passes.PostPass.{PostPass}
use Rattle.port_facts.specs.declared.Completion.{Completion}
use Rattle.tp_port.proofs.Threads.{parts_next, sized_next, started_next}
use Rattle.tp_port.proofs.devices.start_all.Goals as goal

pub loop-pass-preserved : goal.loop-pass-preserved
loop-pass-preserved g c =
    let invariant = c.loop-pass.invariant in
    let steps = c.in-Some.ensures.steps in
    let list : Vec Completion = c.index-list.result.now in
    let place : c.len.result ≡ length c.loop-pass.yielded = omega (arith, c.len.ensures, c.loop-pass.started.ok.0, invariant.started.count) in
    let there : list ≡ get_or c.args.devices.now.items (length c.loop-pass.yielded) list = c.index-list.ensures ∙ ap (λ (n : ℕ). get_or c.args.devices.now.items n list) place in
    record {
      goes = tt;
      ends = tt;
      parts = parts_next _ _ _ _ _ invariant.parts steps.0;
      sized = sized_next _ _ _ _ _ invariant.sized steps.1 steps.0;
      started = started_next c.args.port.now c.args.devices.now.items c.args.posts.items c.loop-pass.yielded _ c.in-Some.pass list c.loop-pass.started.items _ c.start.result
          c.requires.ready (invariant.parts ∙ ap (λ (l : List PostPass). c.loop-pass.yielded ++ l) steps.0) invariant.started there c.start.ensures c.push_reserved.ensures.items;
      fits = omega (arith, invariant.fits, c.push_reserved.ensures.capacity);
    }
