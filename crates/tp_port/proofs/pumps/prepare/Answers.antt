use Rattle.std.proofs.Common.{◌≡◌, ℕ, ◌∷◌, ◌++◌, [], length, sum, ap, arith, ◌∙◌, get_or}
use Rattle.std.proofs.lemmas.List.{length-map}
use Rattle.std.specs.Global.{Vec}
use Rattle.port_facts.specs.declared.Completion.{Completion}
use Rattle.tp_port.proofs.Preparing.{all_quotas, are_ready, element_at, quotas_next, short_list, sum_is}
use Rattle.tp_port.proofs.pumps.prepare.Goals as goal

pub overflow_cast-len : goal.overflow_cast-len
overflow_cast-len c =
    let short = short_list _ _ _ _ c.deref-list-items.ensures.value c.list-item.is c.loop-list-test.true in
    omega (arith, short, c.len.ensures, c.list-item.result.ok.0, c.requires.sum)

pub loop-list-preserved : goal.loop-list-preserved
loop-list-preserved c =
    let devices = c.args.devices.now.items in
    let list : Vec Completion = c.list-item.result in
    let at = element_at devices _ _ list c.deref-list-items.ensures.value c.list-item.is in
    let count : c.len.result ≡ length (get_or devices c.loop-list.list-index list).items = (c.len.ensures ∙ omega (arith, list.ok.0)) ∙ ap (λ (v : Vec Completion). length v.items) at in
    record {
      made = quotas_next devices c.loop-list.list-index list c.loop-list.quotas.items c.push_reserved.new.self.items (omega (arith, c.loop-list-test.true, ap length c.deref-list-items.ensures.value)) c.loop-list.invariant.made
          (c.push_reserved.ensures.items ∙ ap (λ (n : ℕ). c.loop-list.quotas.items ++ n ∷ []) count);
      fits = omega (arith, c.loop-list.invariant.fits, c.push_reserved.ensures.capacity);
    }

pub open-requires-clause-sum : goal.open-requires-clause-sum
open-requires-clause-sum c =
    let is = all_quotas _ _ _ _ c.deref-list-items.ensures.value c.loop-list-test.false c.loop-list.invariant.made in
    omega (arith, ap sum is, sum_is c.args.devices.now.items, c.requires.sum)

pub returns : goal.returns
returns c =
    let devices = c.args.devices.now in
    let is = all_quotas _ _ _ _ c.deref-list-items.ensures.value c.loop-list-test.false c.loop-list.invariant.made in
    let take = c.in_ok-port.ensures.take in
    record {
      take = take.of;
      quotas = ap length (take.quotas_are ∙ is) ∙ length-map devices.items (λ (list : Vec Completion). length list.items);
      taken = take.taken;
      ready = are_ready _ _ _ _ is c.in_ok-port.ensures.dealt;
      started = c.in_ok-with_capacity.ensures.items;
      started_fits = omega (arith, c.in_ok-with_capacity.ensures.capacity, c.len-count.ensures, devices.ok.0);
      ended = c.in_ok-with_capacity-2.ensures.items;
      ended_fits = omega (arith, c.in_ok-with_capacity-2.ensures.capacity, c.len-count.ensures, devices.ok.0);
    }
