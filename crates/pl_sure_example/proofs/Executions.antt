-- What is computed step by step is a run.
use Rattle.std.proofs.Common.{◌≡◌, ℕ, zero, suc, List, [], ◌∷◌, ◌++◌, Option, Some, None, refl, sym, subst}
use Rattle.std.proofs.lemmas.Option.{none-some, same_Some}
use Rattle.pl_switch_rule.specs.SwitchRule.{Exact}
use Rattle.pl_manager_rule.specs.WholeRule.{whole_rule}
use Rattle.pl_host_rule.specs.HostRule.{host_rule}
use Rattle.pl_world.specs.declared.event.Event.{Event}
use Rattle.pl_world.specs.declared.event.Event.TheVariants as event
use Rattle.pl_world.specs.QueueOrder.{next_queue, queue_at}
use Rattle.pl_world.specs.Runs.{Befalls, Moment, WorldRun}
use Rattle.pl_world.specs.Runs.Moment.{Step}
use Rattle.pl_world.specs.Worlds.{WorldView}
use Rattle.pl_sure_example.specs.Executing.{advance, advanced, all_made, swept, then_made}
use Rattle.pl_sure_example.proofs.Steps.{made_is}

module _ (start : WorldView) where
  abbrev pub Leads : WorldView → Type 0
  Leads w = (moments : List Moment) × WorldRun Exact whole_rule host_rule start moments w

  -- if it came to a world at all
  abbrev pub AllLead : Option WorldView → Type 0
  AllLead o = (w : WorldView) → o ≡ Some w → Leads w

  one_more : (old w next : WorldView) (moments : List Moment) (moment : Moment) → WorldRun Exact whole_rule host_rule old moments w →
      Befalls Exact whole_rule host_rule w moment next → WorldRun Exact whole_rule host_rule old (moments ++ moment ∷ []) next
  one_more old w next [] moment same befalls = (next, subst (λ (x : WorldView). Befalls Exact whole_rule host_rule x moment next) same befalls, refl)
  one_more old w next (first ∷ moments) moment run befalls = (run.0, run.1, one_more run.0 w next moments moment run.2 befalls)

  pub lead_start : AllLead (Some start)
  lead_start w is = ([], sym (same_Some start w is))

  pub lead_made : (o : Option WorldView) → AllLead o → (e : Event) → AllLead (then_made o e)
  lead_made None all e new is = absurd (none-some new is)
  lead_made (Some w) all e new is = let so = all w refl in (so.0 ++ Step e ∷ [], one_more start w new so.0 (Step e) so.1 (made_is w e new is))

  pub lead_all : (o : Option WorldView) → AllLead o → (events : List Event) → AllLead (all_made o events)
  lead_all o all [] = all
  lead_all o all (e ∷ events) = lead_all (then_made o e) (lead_made o all e) events

  lead_on : (o : Option WorldView) → AllLead o → AllLead (advance o)
  lead_on None all new is = absurd (none-some new is)
  lead_on (Some w) all new is = by (next_queue w 0) is
    where
      by : (q : Option ℕ) → advanced w q ≡ Some new → Leads new
      by None is = all new is
      by (Some at) is = lead_made (Some w) all (event.Deliver (queue_at w.plan at)) new is

  pub lead_swept : (n : ℕ) (o : Option WorldView) → AllLead o → AllLead (swept n o)
  lead_swept zero o all = all
  lead_swept (suc n) o all = lead_swept n (advance o) (lead_on o all)
