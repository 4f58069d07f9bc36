-- The lists in which nothing is armed yet.
use Rattle.std.proofs.Common.{◌≡◌, ◌+◌, ℕ, zero, suc, ◌<◌, ◌≤◌, ◌^◌, ◌⊎◌, List, [], get_or, replicate, inl, refl, arith, ⊎_elim, ◌∙◌}
use Rattle.std.proofs.lemmas.Bool.{cases_lt}
use Rattle.std.proofs.lemmas.List.{get_or-replicate, get_or_past, length-replicate}
use Rattle.linked_lists.specs.Linked.{Linked, owner_of}
use Rattle.kernel_events.specs.Threaded.{AreThreaded}

-- so many lists, and keys that are in none
abbrev pub lists_to : ℕ → ℕ → Linked
lists_to lists keys = record {
  numbers = replicate keys 0;
  owners = replicate keys lists;
  lists = replicate lists [];
}

no_lists : (n list : ℕ) → get_or {A = List ℕ} (replicate {A = List ℕ} n []) list [] ≡ []
no_lists zero list = refl
no_lists (suc n) zero = refl
no_lists (suc n) (suc list) = no_lists n list

owner_none : (lists keys key : ℕ) → owner_of (lists_to lists keys) key ≡ lists
owner_none lists keys key =
    ⊎_elim
    (λ (within : key < keys). get_or-replicate {A = ℕ} keys key lists _ within)
    (λ (past : keys ≤ key). get_or_past (replicate keys lists) key _ (omega (arith, past, length-replicate {A = ℕ} keys lists)) ∙ length-replicate {A = List ℕ} lists [])
    (cases_lt key keys)

pub opened : (kernels objects : ℕ) → AreThreaded kernels objects (lists_to 1 (objects + 1)) (lists_to (kernels + 1) (objects + 1))
opened kernels objects = record {
  one_list = length-replicate {A = List ℕ} 1 [];
  own_lists = length-replicate {A = List ℕ} (kernels + 1) [];
  keys = length-replicate {A = ℕ} (objects + 1) 0;
  own_keys = length-replicate {A = ℕ} (objects + 1) 0;
  held = length-replicate {A = ℕ} (objects + 1) 1;
  own_held = length-replicate {A = ℕ} (objects + 1) (kernels + 1);
  zero = owner_none 1 (objects + 1) 0;
  beyond = λ object past. owner_none 1 (objects + 1) object;
  paired = λ object. inl (owner_none 1 (objects + 1) object, owner_none (kernels + 1) (objects + 1) object);
  threads = λ kernel. no_lists (kernels + 1) kernel;
}
