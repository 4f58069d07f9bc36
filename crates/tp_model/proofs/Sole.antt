-- A pool has one persistent worker at most.
use Rattle.std.specs.List.{list_any}
use Rattle.std.specs.Option.{option_map_or}
use Rattle.std.proofs.Common.{◌≡◌, ◌⊎◌, inl, inr, ℕ, suc, zero, ◌-◌, ◌≤◌, Bool, true, false, not, ◌&&◌, ◌||◌, ◌==◌, List, [], ◌∷◌, replicate, slice_get, Option, Some, None, refl, sym, ap, ◌∙◌, subst, eqb-true}
use Rattle.tp_base.specs.declared.answers.Entry.{Entry}
use Rattle.tp_base.specs.declared.ids.PoolId.{PoolId}
use Rattle.tp_base.specs.declared.rows.CallbackRow.{CallbackRow}
use Rattle.tp_base.specs.declared.rows.WorkerRow.{WorkerRow}
use Rattle.tp_model.specs.Counts.{has_persistent, is_pending_in, is_persistent_in, numbered}
use Rattle.tp_model.specs.Support.Moves.{Amend, Attach, Cancel, Detach, Mark, Move, Operate, Return, Stay, Take, put}
use Rattle.tp_model.specs.World.{World, unattached}
use Rattle.tp_model.proofs.Lists.{get_set}
use Rattle.tp_model.proofs.Refusals.{and_false, both, false_true, numbered_at, numbered_some, or_true}
use Rattle.tp_model.proofs.Releasing.{numbered_set_other}

-- what passes a test is one that does
pub any_at : {X : Type 0} (test : X → Bool) (xs : List X) (i : ℕ) (x : X) → slice_get xs i ≡ Some x → test x ≡ true → list_any test xs ≡ true
any_at test [] i x at passes = absurd cc
any_at test (y ∷ xs) zero x at passes = let same : y ≡ x = cc in ap (λ b. b || list_any test xs) (ap test same ∙ passes)
any_at test (y ∷ xs) (suc i) x at passes = ap (λ b. test y || b) (any_at test xs i x at passes) ∙ or_true (test y)

-- no two workers are persistent ones of a pool
abbrev pub AreSole : List WorkerRow → Type 0
AreSole workers = (pool m n : ℕ) (r s : WorkerRow) → numbered workers m ≡ Some r → numbered workers n ≡ Some s → is_persistent_in pool r ≡ true → is_persistent_in pool s ≡ true → m ≡ n

module _ (w : World) (worker : ℕ) (old new : WorkerRow) (there : numbered w.workers worker ≡ Some old) where
  at : (slice_get w.workers (worker - 1) ≡ Some old) × (1 ≤ worker)
  at = numbered_some w.workers worker old there

  -- a row after another one was put in its worker's place
  pub put_at : (n : ℕ) (r : WorkerRow) → numbered (put w worker new) n ≡ Some r → ((n ≡ worker) × (new ≡ r)) ⊎ (numbered w.workers n ≡ Some r)
  put_at n r is = of_case (n == worker) refl
    where
      of_case : (b : Bool) → (n == worker) ≡ b → ((n ≡ worker) × (new ≡ r)) ⊎ (numbered w.workers n ≡ Some r)
      of_case true e =
          let same : n ≡ worker = eqb-true n worker e in
          let own : numbered (put w worker new) worker ≡ Some new = numbered_at (put w worker new) worker new at.1 (get_set w.workers (worker - 1) old new at.0) in
          let both_told : Some new ≡ Some r = sym own ∙ ap (numbered (put w worker new)) (sym same) ∙ is in
          inl (same, cc)
      of_case false e = inr (sym (numbered_set_other w.workers worker n new at.1 e) ∙ is)

  pub put_own : numbered (put w worker new) worker ≡ Some new
  put_own = numbered_at (put w worker new) worker new at.1 (get_set w.workers (worker - 1) old new at.0)

  put_sole : AreSole w.workers → ((pool : ℕ) → is_persistent_in pool new ≡ true → (is_persistent_in pool old ≡ true) ⊎ (has_persistent w pool ≡ false)) → AreSole (put w worker new)
  put_sole sole was pool m n r s is_r is_s of_r of_s = of_two (put_at m r is_r) (put_at n s is_s)
    where
      -- the row of the worker, and another worker's
      beside : (k : ℕ) (t : WorkerRow) → numbered w.workers k ≡ Some t → is_persistent_in pool t ≡ true → is_persistent_in pool new ≡ true → worker ≡ k
      beside k t is_t of_t of_new = of_was (was pool of_new)
        where
          of_was : (is_persistent_in pool old ≡ true) ⊎ (has_persistent w pool ≡ false) → worker ≡ k
          of_was (inl h) = sole pool worker k old t there is_t h of_t
          of_was (inr none) = absurd (false_true (sym none ∙ any_at (is_persistent_in pool) w.workers (k - 1) t (numbered_some w.workers k t is_t).0 of_t))

      of_two : ((m ≡ worker) × (new ≡ r)) ⊎ (numbered w.workers m ≡ Some r) → ((n ≡ worker) × (new ≡ s)) ⊎ (numbered w.workers n ≡ Some s) → m ≡ n
      of_two (inl a) (inl b) = a.0 ∙ sym b.0
      of_two (inl a) (inr b) = a.0 ∙ beside n s b of_s (ap (is_persistent_in pool) a.1 ∙ of_r)
      of_two (inr a) (inl b) = sym (b.0 ∙ beside m r a of_r (ap (is_persistent_in pool) b.1 ∙ of_s))
      of_two (inr a) (inr b) = sole pool m n r s a b of_r of_s

-- a worker that takes the mark takes it where the pool has no persistent worker
pub mark_is_new : (w : World) (pool : ℕ) (own : Bool) (c : CallbackRow) → own ≡ false → c.persistent ≡ true → (is_pending_in pool c && (not c.persistent || own || not (has_persistent w pool))) ≡ true → has_persistent w pool ≡ false
mark_is_new w pool own c unmarked persistent open_to =
    not_true (has_persistent w pool) (alone ∙ (both (is_pending_in pool c) (not c.persistent || own || not (has_persistent w pool)) open_to).1)
  where
    not_true : (b : Bool) → not b ≡ true → b ≡ false
    not_true false e = refl
    not_true true e = absurd (false_true e)

    alone : not (has_persistent w pool) ≡ (not c.persistent || own || not (has_persistent w pool))
    alone = sym (ap (λ b. not b || own || not (has_persistent w pool)) persistent ∙ ap (λ b. false || b || not (has_persistent w pool)) unmarked)

pub sole_more : (w : World) (entry : Entry) (kept : List CallbackRow) (staff : List WorkerRow) → Move w entry kept staff → AreSole w.workers → AreSole staff
sole_more w entry kept staff (Stay m) sole = subst AreSole (sym m.workers) sole
sole_more w entry kept staff (Mark m) sole = subst AreSole (sym m.workers) sole
sole_more w entry kept staff (Amend m) sole = subst AreSole (sym m.workers) sole
sole_more w entry kept staff (Operate m) sole = subst AreSole (sym m.workers) sole
sole_more w entry kept staff (Cancel m) sole = subst AreSole (sym m.workers) sole
sole_more w entry kept staff (Attach m) sole =
    let new : WorkerRow = record { pool = Some m.pool; callback = None; persistent = false } in
    subst AreSole (sym m.workers) (put_sole w m.worker m.actor.row new m.actor.stands sole (λ pool h. absurd (false_true (sym (and_false (m.pool.0 == pool)) ∙ h))))
sole_more w entry kept staff (Detach m) sole = subst AreSole (sym m.workers) (put_sole w m.worker m.actor.row unattached m.actor.stands sole (λ pool h. absurd (false_true h)))
sole_more w entry kept staff (Return m) sole = subst AreSole (sym m.workers) (put_sole w m.worker m.row (record m.row { callback = None }) m.stands sole (λ pool h. inl h))
sole_more w entry kept staff (Take m) sole = subst AreSole (sym m.workers) (put_sole w m.worker m.actor.row new m.actor.stands sole was)
  where
    new : WorkerRow
    new = record { pool = Some m.pool; callback = Some m.callback.number; persistent = m.actor.row.persistent || m.callback.persistent }

    was : (pool : ℕ) → is_persistent_in pool new ≡ true → (is_persistent_in pool m.actor.row ≡ true) ⊎ (has_persistent w pool ≡ false)
    was pool h = of_mark m.actor.row.persistent m.callback.persistent refl refl (both (m.pool.0 == pool) (m.actor.row.persistent || m.callback.persistent) h)
      where
        of_mark : (own its : Bool) → m.actor.row.persistent ≡ own → m.callback.persistent ≡ its → ((m.pool.0 == pool) ≡ true) × ((m.actor.row.persistent || m.callback.persistent) ≡ true) → (is_persistent_in pool m.actor.row ≡ true) ⊎ (has_persistent w pool ≡ false)
        of_mark true its marked persistent e = inl (in_pool marked e.0)
          where
            in_pool : m.actor.row.persistent ≡ true → (m.pool.0 == pool) ≡ true → is_persistent_in pool m.actor.row ≡ true
            in_pool is home = ap (λ (o : Option PoolId). option_map_or (λ (p : PoolId). p.0 == pool) o false && m.actor.row.persistent) m.home ∙ ap (λ b. b && m.actor.row.persistent) home ∙ is
        of_mark false true marked persistent e =
            inr (subst (λ p. has_persistent w p ≡ false) (eqb-true m.pool.0 pool e.0) (mark_is_new w m.pool.0 m.actor.row.persistent m.callback marked persistent m.open_to))
        of_mark false false marked persistent e = absurd (false_true (sym (ap (λ b. b || m.callback.persistent) marked ∙ persistent) ∙ e.1))

pub opening_sole : (count : ℕ) → AreSole (replicate count unattached)
opening_sole count pool m n r s is_r is_s of_r of_s =
    let same : unattached ≡ r = replicated unattached count (m - 1) r (numbered_some (replicate count unattached) m r is_r).0 in
    absurd (false_true (ap (is_persistent_in pool) same ∙ of_r))
  where
    replicated : {X : Type 0} (x : X) (n i : ℕ) (r : X) → slice_get (replicate n x) i ≡ Some r → x ≡ r
    replicated x zero i r is = absurd cc
    replicated x (suc n) zero r is = cc
    replicated x (suc n) (suc i) r is = replicated x n i r is
