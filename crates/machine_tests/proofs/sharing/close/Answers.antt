use Rattle.std.proofs.Common.{◌≡◌, ◌∷◌, sym, refl, subst}
use Rattle.shared_pool.specs.Pools.{HaveAll}
use Rattle.machine_tests.proofs.sharing.close.Goals as goal

pub close-book-requires-clause-all : goal.close-book-requires-clause-all
close-book-requires-clause-all g c =
    let seats : c.insert-2.new.self.items ≡ c.args.first ∷ c.args.second ∷ c.args.others.items =
    rw (c.insert-2.ensures.items, c.expect_ok-2.ensures, c.insert.ensures.items, c.expect_ok.ensures) refl
    in
    subst (HaveAll c.args.pool) (sym seats) c.requires.all
