use Rattle.std.proofs.lemmas.Result.{IfOk-weaker}
use Rattle.tp_explore.proofs.Searched.{answers_alike, gives_up_alike}
use Rattle.tp_explore.specs.Exchanging.{key_in_order}
use Rattle.tp_explore.specs.Scripts.{watched_but}
use Rattle.tp_explore.proofs.exploring.explore.Goals as goal

pub returns-clause-explores : goal.returns-clause-explores
returns-clause-explores g c =
    IfOk-weaker c.search.result _ _
    (λ told is. c.closed_boards_lose_nothing.ensures.orders (watched_but c.args.passed.now c.args.script.now) (c.closed_boards_lose_nothing.ensures.scripts c.args.passed.now c.args.script.now) c.args.limits (key_in_order c.args.limits) told (answers_alike _ _ _ _ _ _ told c.new-boards.ensures.script c.new-boards.ensures.passed c.new-boards.ensures.limits is))
    c.search.ensures.answers

pub returns-clause-gives_up : goal.returns-clause-gives_up
returns-clause-gives_up g c =
    IfOk-weaker c.search.result _ _ (λ told is. gives_up_alike _ _ _ _ _ _ c.args.most c.args.deepest told c.new-boards.ensures.script c.new-boards.ensures.passed c.new-boards.ensures.limits is) c.search.ensures.gives_up
