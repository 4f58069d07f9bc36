use Rattle.std.proofs.Common.{◌<◌, ap, ◌∙◌, rules}
use Rattle.std.proofs.lemmas.List.Elements.{filter_from_retain, filter_passes}
use Rattle.std.proofs.lemmas.List.Kept.{AllPairs-filter}
use Rattle.live_callbacks.specs.declared.places.Entry.{Entry}
use Rattle.live_callbacks.specs.Places.{live}
use Rattle.live_callbacks.proofs.Numbers.{live_kept}
use Rattle.live_callbacks.proofs.places.drop_left.Goals as goal

pub returns-clause-rises : goal.returns-clause-rises
returns-clause-rises c =
    let kept = filter_from_retain _ (λ (e : Entry). e.there) (λ p x b q r. search rules) _ _ _ c.retain.ensures.filtered in
    rw kept (AllPairs-filter (λ (a b : Entry). a.number < b.number) (λ (e : Entry). e.there) _ c.requires)

pub returns-clause-there : goal.returns-clause-there
returns-clause-there c =
    let kept = filter_from_retain _ (λ (e : Entry). e.there) (λ p x b q r. search rules) _ _ _ c.retain.ensures.filtered in
    rw kept (filter_passes (λ (e : Entry). e.there) c.args.entries.now.items)

pub returns-clause-kept : goal.returns-clause-kept
returns-clause-kept c =
    let kept = filter_from_retain _ (λ (e : Entry). e.there) (λ p x b q r. search rules) _ _ _ c.retain.ensures.filtered in
    ap live kept ∙ live_kept c.args.entries.now.items
