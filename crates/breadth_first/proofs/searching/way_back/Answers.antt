use Rattle.std.proofs.Common.{◌≡◌, ℕ, List, ◌+◌, ◌-◌, ◌++◌, sym, ap, ◌∙◌, append-nil, arith}
use mathlib.Core.List.{reverse}
use Rattle.breadth_first.specs.Searched.{way_to}
use Rattle.breadth_first.proofs.Ways.{way_on, way_none}
use Rattle.breadth_first.proofs.searching.way_back.Goals as goal
use Rattle.breadth_first.proofs.searching.way_back.Goals.{else-loop-test, then-loop-test+in_default}

pub loop-init : goal.loop-init
loop-init c =
    let all : c.args.depth - 0 ≡ c.args.depth = omega arith in
    rw (all, c.new-way.ensures.items) (sym (append-nil _))

pub loop-preserved : goal.loop-preserved
loop-preserved c =
    let entries = c.args.origins.now.entries in
    let left = c.args.depth - (c.loop.counter + 1) in
    c.loop.invariant
    ∙ way_on entries (c.args.depth - c.loop.counter) left c.loop.place _ c.loop.way.items (sym (rw c.in-Some.is at c.get_index.ensures.entry)) (omega arith)
    ∙ ap (λ (way : List ℕ). way_to entries left c.in-Some.origin.now.from ++ reverse way) (sym c.in_ok-push.ensures.items)

pub returns : goal.returns
returns c = elim c.loop-test.branch [
  | else-loop-test w ↦
      let none : c.args.depth - c.loop.counter ≡ 0 = omega arith in
      c.reverse.ensures.items ∙ sym (c.loop.invariant ∙ ap (λ (n : ℕ). way_to c.args.origins.now.entries n c.loop.place ++ reverse c.loop.way.items) none)
  | then-loop-test+in_default w ↦
      let none = way_none c.args.origins.now.entries (c.args.depth - c.loop.counter) c.loop.place (sym (rw w.in_default.is at w.get_index.ensures.entry)) in
      c.reverse.ensures.items ∙ sym (c.loop.invariant ∙ ap (λ (way : List ℕ). way ++ reverse c.loop.way.items) none)
]
