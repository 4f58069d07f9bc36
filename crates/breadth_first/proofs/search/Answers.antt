use Rattle.std.proofs.Common.{◌+◌, ℕ, length, refl, sym, ap, subst, arith}
use Rattle.std.proofs.lemmas.List.{length-drop}
use Rattle.breadth_first.specs.Answers.{GivesUpFor}
use Rattle.breadth_first.specs.Searched.{origin_of, IsWithin}
use Rattle.breadth_first.proofs.Found.{entered, makes, none_few, none_left, none_more}
use Rattle.breadth_first.proofs.Held.{as_many}
use Rattle.breadth_first.proofs.search.Goals as goal

-- no state waits
pub returns-in_default-clause-answers : goal.returns-in_default-clause-answers
returns-in_default-clause-answers g c =
    let a = c.args.system.now in
    let laws = g.met.S.System in
    let waiting = c.loop-at.search.waiting.items in
    none_left (g.S.System.rules a) (g.S.System.like a) (laws.like_itself a) (laws.like_kept a) (laws.keeps a) c.args.most c.loop-at.at c.loop-at.search c.loop-at.invariant
    (omega (arith, ap length c.in_default.ensures.items, ap length c.in_default.ensures.rest, length-drop 1 waiting))

-- there are no more states than may be met
pub len-requires : goal.len-requires
len-requires g c =
    let searched = c.loop-at.invariant in
    omega (arith, as_many (g.S.System.rules c.args.system.now) searched.mets c.loop-at.search.origins.entries searched.of.held, searched.of.within, c.ranges.most.fits)

-- the state is as deep as is looked
pub returns-then-depth-deepest-clause-answers : goal.returns-then-depth-deepest-clause-answers
returns-then-depth-deepest-clause-answers g c = λ moves few.
    let a = c.args.system.now in
    let laws = g.met.S.System in
    none_few (g.S.System.rules a) (g.S.System.like a) (laws.like_itself a) (laws.like_kept a) (laws.keeps a) c.args.most c.loop-at.at c.loop-at.search c.loop-at.invariant
    c.in-Some.waiting _ c.in-Some.ensures.items c.depth-depth.result c.depth-depth.ensures moves (omega arith)

-- what waits can be made again
pub remake-requires : goal.remake-requires
remake-requires g c =
    let a = c.args.system.now in
    let laws = g.met.S.System in
    makes (g.S.System.rules a) (g.S.System.like a) (laws.like_itself a) (laws.like_kept a) (laws.keeps a) c.args.most c.loop-at.at c.loop-at.search c.loop-at.invariant
    c.in-Some.waiting _ c.in-Some.ensures.items c.depth-depth.result c.depth-depth.ensures

pub expand-requires : goal.expand-requires
expand-requires g c =
    let a = c.args.system.now in
    let laws = g.met.S.System in
    record {
      deep = omega arith;
      within = subst (λ (most : ℕ). IsWithin (g.S.System.rules a) most (origin_of c.loop-at.at 0 (c.depth-depth.result + 1)) c.in_ok-state.state.value (record c.loop-at.search { waiting = c.pop_front.new.self })) (sym c.loop-at.invariant.of.limit)
          (entered (g.S.System.rules a) (g.S.System.like a) (laws.like_itself a) (laws.like_kept a) (laws.keeps a) c.args.most c.loop-at.at c.loop-at.search c.loop-at.invariant
          c.in-Some.waiting _ c.in-Some.ensures.items c.depth-depth.result c.depth-depth.ensures c.in_ok-state.state.value c.in_ok-state.ensures (record c.loop-at.search { waiting = c.pop_front.new.self }) refl refl refl);
    }

pub returns-in-Some-2-clause-gives_up : goal.returns-in-Some-2-clause-gives_up
returns-in-Some-2-clause-gives_up g c =
    subst (λ (most : ℕ). GivesUpFor (g.S.System.rules c.args.system.now) most c.args.deepest c.in-Some-2.answer) c.loop-at.invariant.of.limit
    ((rw c.in-Some-2.is at c.in_ok-answer.ensures).gives_up c.args.deepest)

-- as many states were gone through as may be met
pub returns-clause-answers : goal.returns-clause-answers
returns-clause-answers g c =
    let a = c.args.system.now in
    let laws = g.met.S.System in
    none_more (g.S.System.rules a) (g.S.System.like a) (laws.like_itself a) (laws.like_kept a) (laws.keeps a) c.args.most c.loop-at.at c.loop-at.search c.loop-at.invariant (omega arith)
