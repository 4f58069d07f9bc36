-- Completions that were taken, each made on the machine.
use Rattle.std.proofs.Common.{◌≡◌, ℕ, zero, suc, ◌<◌, List, [], ◌∷◌, ◌++◌, length, map, get_or, refl, sym, ap, ap₂, ◌∙◌, append_assoc, arith}
use Rattle.std.specs.Global.{Vec}
use Rattle.recorded.specs.Recordings.{all_made, made, Recording}
use Rattle.tp_port.specs.declared.passes.LastPass.{LastPass}
use Rattle.tp_port.specs.declared.passes.TakePass.{TakePass}
use Rattle.tp_port.specs.declared.port.Port.{Port}
use Rattle.port_facts.specs.declared.Completion.{Completion}
use Rattle.port_facts.specs.declared.Posted.{Posted}
use Rattle.tp_base.specs.declared.calls.Call.{Call}
use Rattle.tp_base.specs.declared.ids.Who.{Who}
use Rattle.tp_port.specs.declared.passes.PostPass.{PostPass}
use Rattle.port_facts.specs.Accepted.{with_entries}
use Rattle.port_facts.specs.Accepted.{call_of as entry_call}
use Rattle.port_facts.specs.Completions.{completions, HaveCompleted}
use Rattle.port_facts.specs.Interleaved.{list_of, IsInterleaving}
use Rattle.tp_port.specs.Devices.{AreEnded}
use Rattle.tp_port.specs.Completing.{call_of}
use Rattle.tp_port.specs.Ports.{posted_by, posted_last, taken_by, taken_last, HasTaken, HasTakenLast, IsGathered}
use Rattle.tp_port.specs.Pumps.{lists_of, HasDrained, HasTakenLeft, HasTakenSome, IsPumped}

pub made_more : (r : Recording) (taken : List Posted) (x : Posted) → all_made r (map call_of (taken ++ x ∷ [])) ≡ made (all_made r (map call_of taken)) (call_of x)
made_more r [] x = refl
made_more r (y ∷ taken) x = made_more (made r (call_of y)) taken x

pub took_one : (port : Port) (old now new : Recording) (a b c : TakePass) (x : Posted) → HasTakenSome port old now a b → HasTaken port x b c → new ≡ made now (call_of x) → HasTakenSome port old new a c
took_one port old now new a b c x before took is = record {
  of = took.of;
  quotas_are = took.quotas_are ∙ before.quotas_are;
  more = before.more ++ x ∷ [];
  taken = took.taken ∙ (ap (λ (l : List Posted). l ++ x ∷ []) before.taken ∙ append_assoc (taken_by a) before.more (x ∷ []));
  made = is ∙ (ap (λ (r : Recording). made r (call_of x)) before.made ∙ sym (made_more old before.more x));
}

pub took_last : (port : Port) (old now new : Recording) (a b c : LastPass) (x : Posted) → HasTakenLeft port old now a b → HasTakenLast port x b c → new ≡ made now (call_of x) → HasTakenLeft port old new a c
took_last port old now new a b c x before took is = record {
  same = record { of = took.same.of; quotas_are = took.same.quotas_are ∙ before.same.quotas_are; posted = took.same.posted ∙ before.same.posted };
  more = before.more ++ x ∷ [];
  taken = took.taken ∙ (ap (λ (l : List Posted). l ++ x ∷ []) before.taken ∙ append_assoc (taken_last a) before.more (x ∷ []));
  made = is ∙ (ap (λ (r : Recording). made r (call_of x)) before.made ∙ sym (made_more old before.more x));
}

-- ---- all that was taken

made_all : (r : Recording) (front back : List Posted) → all_made r (map call_of (front ++ back)) ≡ all_made (all_made r (map call_of front)) (map call_of back)
made_all r [] back = refl
made_all r (x ∷ front) back = made_all (made r (call_of x)) front back

calls_are : (taken : List Posted) → map call_of taken ≡ map entry_call (completions taken)
calls_are [] = refl
calls_are (x ∷ taken) = ap (λ (calls : List (Who × Call)). call_of x ∷ calls) (calls_are taken)

-- what the devices have posted are their lists
posted_are : (devices : List (Vec Completion)) (posts : List PostPass) → length posts ≡ length devices
    → ((k : ℕ) (d : Vec Completion) (p : PostPass) → k < length posts → posted_by (get_or posts k p) ≡ (get_or devices k d).items) → map posted_by posts ≡ lists_of devices
posted_are [] [] count each = refl
posted_are [] (p ∷ posts) count each = absurd (omega (arith, count))
posted_are (d ∷ devices) [] count each = absurd (omega (arith, count))
posted_are (d ∷ devices) (p ∷ posts) count each =
    ap₂ (λ (list : List Completion) (lists : List (List Completion)). list ∷ lists) (each zero d p (omega arith))
    (posted_are devices posts (omega (arith, count)) (λ k x y inside. each (suc k) x y (omega (arith, inside))))

module _ (port : Port) (devices : List (Vec Completion)) (old mid new : Recording) (a b : TakePass) (posts : List PostPass) (last end : LastPass) (took : HasTakenSome port old mid a b) (none : taken_by a ≡ [])
    (ended : AreEnded port devices posts) (gathered : IsGathered port posts b last) (drained : HasDrained port mid new last end) where
  abbrev front : List Posted
  front = took.more

  abbrev back : List Posted
  back = drained.took.more

  taken_is : taken_last end ≡ front ++ back
  taken_is = drained.took.taken ∙ ap (λ (l : List Posted). l ++ back) (gathered.taken ∙ took.taken ∙ ap (λ (l : List Posted). l ++ front) none)

  made_is : new ≡ all_made old (map entry_call (completions (taken_last end)))
  made_is =
      drained.took.made ∙ ap (λ (r : Recording). all_made r (map call_of back)) took.made ∙ sym (made_all old front back)
      ∙ ap (λ (l : List Posted). all_made old (map call_of l)) (sym taken_is) ∙ ap (λ (calls : List (Who × Call)). all_made old calls) (calls_are (taken_last end))

  lists_are : posted_last end ≡ lists_of devices
  lists_are = drained.took.same.posted ∙ gathered.posted ∙ posted_are devices posts ended.count (λ k d p inside. (ended.each k d p inside).posted)

  interleaves : IsInterleaving (lists_of devices) (taken_last end)
  interleaves device = drained.all device ∙ ap (λ (lists : List (List Completion)). list_of lists device) lists_are

  pub pumped : (IsInterleaving (lists_of devices) (taken_last end) → HaveCompleted old (taken_last end)) → IsPumped (lists_of devices) old new end
  pumped accepted =
      let is : new ≡ with_entries old (completions (taken_last end)) = made_is ∙ (accepted interleaves).accepted.made in
      record {
        limits = ap (λ (r : Recording). r.limits) is;
        capacity = ap (λ (r : Recording). r.capacity) is;
        history = ap (λ (r : Recording). r.history) is;
        all = interleaves;
      }
