-- The fabric manager as its rule sees it.
use Rattle.std.specs.Prelude.{◌≡◌, ◌≤◌, ℕ, Bool, true, false, not, List, ◌∷◌, ◌++◌, fold, length, map}
use Rattle.std.specs.List.{filter}
use Rattle.pl_frame.specs.declared.address.SwitchId.{SwitchId}
use Rattle.pl_pmac.specs.declared.pmac.Pmac.{Pmac}
use Rattle.pl_gathering.specs.Acting.{Done, steps, then_treats}
use Rattle.pl_gathering.specs.Gathering.{Gathered, Heard}
use Rattle.pl_gathering.specs.Gathering.Report.{End, Tells}
use Rattle.pl_gatherer.specs.Gatherers.{Gathering, heard_of}
use Rattle.pl_gatherer.specs.declared.kept.Kept.{Kept}
use Rattle.pl_node.specs.declared.acts.ManagerAct.{ManagerAct}
use Rattle.pl_node.specs.declared.messages.ToManager.{ToManager}
use Rattle.pl_node.specs.Gains.{Gains}
use Rattle.pl_node.specs.ManagerFacts.{switch_count}
use Rattle.pl_node.specs.ManagerViews.{ManagerView, id_cmp, in_order, restarted_manager, speakers}
use Rattle.pl_node.specs.SwitchFacts.{IsTreeSize}
use Rattle.pl_manager_rule.specs.Lawful.{IsManagerRule}
use Rattle.pl_manager_rule.specs.ManagerRule.{ManagerStep}
use Rattle.pl_manager_rule.specs.Treating.{Treating, follows, treats, waits_for_places}
use Rattle.pl_manager_rule.specs.WholeRule.{as_step, gathered, whole_rule}
use Rattle.pl_manager.specs.declared.known.Known.{Known}
use Rattle.pl_manager.specs.declared.manager.Manager.{Manager}

-- what is known, with any gathering
abbrev pub put : Known → ManagerView → ManagerView
put known v = record v { k = known.k; told = known.routing.told; members = known.routing.members; pods = known.askers; learnt = known.registry }

-- with this gathering
abbrev pub view_of : Known → Gathering → ManagerView
view_of known g = record {
  k = known.k;
  told = known.routing.told;
  members = known.routing.members;
  pods = known.askers;
  learnt = known.registry;
  epoch = g.epoch;
  begun = g.begun;
  ended = g.ended;
  kept = g.kept;
}

-- what it keeps
abbrev pub manager_view : Manager → ManagerView
manager_view manager = view_of manager.known manager.gatherer

-- nothing is known
abbrev pub nothing_known : Known → ℕ → ℕ → Type 0
nothing_known known k epoch = put known (restarted_manager k epoch) ≡ restarted_manager k epoch

-- what was done so far
abbrev pub done_so_far : ManagerView → List Pmac → List ManagerAct → Done Treating ManagerAct
done_so_far view aged out = record { known = record { view = view; aged = aged }; acts = out }

-- a word is treated, behind what was done so far
abbrev pub IsTreatedAs : ManagerView → List Pmac → List ManagerAct → SwitchId → ToManager → ManagerView → List Pmac → List ManagerAct → Type 0
IsTreatedAs before aged out s word after aged_after out_after =
    then_treats treats (done_so_far before aged out) (record { switch = s; word = word }) ≡ done_so_far after aged_after out_after

-- it is the turn of wishes for pods, or of all else
abbrev pub is_turn : Bool → ToManager → Bool
is_turn true word = waits_for_places word
is_turn false word = not (waits_for_places word)

-- those of what was kept are treated
abbrev pub treated_of : Bool → List Kept → Done Treating ManagerAct → Done Treating ManagerAct
treated_of wishes kept done = fold (then_treats treats) done (filter (λ h. is_turn wishes h.word) (map heard_of kept))

-- what is known, and these words, are of no more switches than a tree has
pub record CanTreat (known : Known) (heard : List (Heard ToManager)) : Type 0 where
  pub size : IsTreeSize known.k
  pub few : length (in_order id_cmp (speakers (put known (restarted_manager known.k 0)) ++ map (λ h. h.switch) heard)) ≤ switch_count known.k

-- the same of a manager that hears a switch
pub record CanGather (known : Known) (g : Gathering) (s : SwitchId) : Type 0 where
  pub size : IsTreeSize known.k
  pub many : g.many ≡ switch_count known.k
  pub few : length (in_order id_cmp (s ∷ speakers (view_of known g))) ≤ switch_count known.k

-- a step over all that was gathered
abbrev pub Steps : Known → Gathering → SwitchId → (Gathered Treating ToManager → ManagerStep) → Known → Gathering → List ManagerAct → List ManagerAct → Type 0
Steps known g s step after h out out_after =
    Gains out out_after (λ acts. step (gathered (view_of known g)) ≡ record { view = view_of after h; acts = acts })

abbrev pub TellsSo : Known → Gathering → SwitchId → ToManager → Known → Gathering → List ManagerAct → List ManagerAct → Type 0
TellsSo known g s word after h = Steps known g s (λ x. as_step (steps treats waits_for_places follows x s (Tells word))) after h

abbrev pub EndsSo : Known → Gathering → SwitchId → ℕ → Known → Gathering → List ManagerAct → List ManagerAct → Type 0
EndsSo known g s epoch after h = Steps known g s (λ x. as_step (steps treats waits_for_places follows x s (End epoch))) after h

-- each of its steps is one of the rule's, and each of those is one of its
pub is_its_rule : IsManagerRule whole_rule
is_its_rule before s says after acts = (λ step. step, λ step. step)
