use Rattle.std.proofs.Common.{refl, sym, ◌∙◌, bytes_eq, arith}
use Rattle.std.proofs.lemmas.Slice.Eq.{bytes_eq-Decides}
use Rattle.indexmap.proofs.CallerLemmas.{insert_entry-new}
use Rattle.breadth_first.proofs.Held.{as_many}
use Rattle.breadth_first.proofs.Moves.{led_back, led_more, led_new, move_same}
use Rattle.breadth_first.proofs.Found.{more_found}
use Rattle.breadth_first.proofs.Places.{none_of}
use Rattle.breadth_first.proofs.searching.meet.Goals as goal

pub returns-then-contains_key : goal.returns-then-contains_key
returns-then-contains_key g c = λ within leads.
    let r = g.S.System.rules c.args.system.now in
    let key = c.in_ok-key.key.items in
    led_back r c.args.search.now.most c.args.origin c.args.state.now.value c.args.search.now within c.args.next leads (λ k. bytes_eq key k.items)
    (λ k is. sym ((bytes_eq-Decides key k.items).0 is) ∙ c.in_ok-key.ensures)
    (sym c.contains_key.ensures ∙ c.if-contains_key.true)

pub returns-then-len-search : goal.returns-then-len-search
returns-then-len-search g c = λ within leads.
    let r = g.S.System.rules c.args.system.now in
    let laws = g.met.S.System in
    let a = c.args.system.now in
    let key = c.in_ok-key.key.items in
    more_found r (g.S.System.like a) (laws.like_itself a) (laws.like_kept a) (laws.keeps a) c.args.search.now.most c.args.origin c.args.state.now.value c.args.search.now within c.args.next leads
    (led_new r c.args.search.now.most c.args.origin c.args.state.now.value c.args.search.now within c.args.next leads (λ k. bytes_eq key k.items)
    (λ k is. (bytes_eq-Decides key k.items).1 (c.in_ok-key.ensures ∙ sym is))
    (sym c.contains_key.ensures ∙ c.if-contains_key.false))
    (sym c.len.ensures.len ∙ c.if-len-search.true) c.args.search.now.most

pub returns : goal.returns
returns g c = λ within leads.
    let r = g.S.System.rules c.args.system.now in
    let key = c.in_ok-key.key.items in
    led_more r c.args.search.now.most c.args.origin c.args.state.now.value c.args.search.now within c.args.next leads (λ k. bytes_eq key k.items)
    (λ k is. (bytes_eq-Decides key k.items).1 (c.in_ok-key.ensures ∙ sym is))
    (sym c.contains_key.ensures ∙ c.if-contains_key.false)
    _ c.in_ok-key.key c.in_ok-key.ensures refl
    (omega (arith, as_many r within.mets c.args.search.now.origins.entries within.of.held, within.of.within, c.len.ensures.len, c.if-len-search.false))
    (c.in_ok-insert.ensures.entries ∙ insert_entry-new (λ a b. bytes_eq a.items b.items) c.args.search.now.origins c.in_ok-key.key c.args.origin (none_of _ (sym c.contains_key.ensures ∙ c.if-contains_key.false)))
    _ (move_same r _ c.args.state.now.value c.args.origin.by c.in_ok-clone.ensures.cases ∙ leads)
    c.in_ok-push_back.ensures.items
