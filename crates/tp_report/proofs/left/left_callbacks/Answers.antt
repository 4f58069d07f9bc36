use Rattle.std.proofs.Common.{[], ◌∷◌, ◌∙◌, sym, ap, subst}
use Rattle.std.specs.Prelude.{map}
use Rattle.std.proofs.lemmas.List.{map-append}
use Rattle.recorded.specs.Recordings.{world_behind}
use Rattle.tp_model.specs.Laws.Once.{left}
use Rattle.tp_model.specs.Over.{row_of}
use Rattle.tp_report.proofs.NoneLost.{left_rise}
use Rattle.recorded.proofs.Walks.{IsWalked, walk_begins, walk_next, walk_ends}
use Rattle.tp_report.proofs.left.left_callbacks.Goals as goal

pub loop-row-init : goal.loop-row-init
loop-row-init g c =
    let r = g.B.Recorded.recording c.args.book.now in
    subst (λ rows. IsWalked (left (world_behind r)) (map row_of rows) 0) (sym c.new-rows.ensures.items)
    (walk_begins (left (world_behind r)) (left_rise r.limits r.capacity r.history c.requires))

pub loop-row-preserved : goal.loop-row-preserved
loop-row-preserved g c =
    let r = g.B.Recorded.recording c.args.book.now in
    let l = c.loop-row in
    subst (λ rows. IsWalked (left (world_behind r)) rows c.in-Some.row.0) (sym (ap (map row_of) c.in_ok-push.ensures.items ∙ map-append row_of l.rows.items (c.in-Some.row ∷ [])))
    (walk_next (left (world_behind r)) (map row_of l.rows.items) l.number l.invariant (row_of c.in-Some.row) (sym c.in-Some.ensures))

pub returns : goal.returns
returns g c =
    let r = g.B.Recorded.recording c.args.book.now in
    let l = c.loop-row in
    walk_ends (left (world_behind r)) (map row_of l.rows.items) l.number l.invariant (sym c.in_default.ensures)
