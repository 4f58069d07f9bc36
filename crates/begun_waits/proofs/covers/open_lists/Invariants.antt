use Rattle.std.proofs.Common.{◌≡◌, ◌≤◌, [], ℕ, map, replicate, vec_len, vec_capacity}
use Rattle.std.specs.Global.{Vec}
use Rattle.std.specs.List.{AllByRecursion}
use Rattle.begun_waits.proofs.covers.open_lists.Given as goal

abbrev pub invariant-loop : goal.invariant-loop
invariant-loop l = record {
  made : vec_len l.all ≡ l.counter;
  fits : l.lists ≤ vec_capacity l.all;
  empty : map (λ (v : Vec ℕ). v.items) l.all.items ≡ replicate l.counter [];
  reserved : AllByRecursion (λ (v : Vec ℕ). l.room ≤ vec_capacity v) l.all.items;
}
