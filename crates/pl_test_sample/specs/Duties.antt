-- A manager that says nothing owes nothing, and a host that sends its first frame alone sends data and joins no group.
use Rattle.std.proofs.Common.{◌≡◌, IsTrue, List, [], refl, sym, ap, subst}
use Rattle.std.proofs.Math.Nat.{le-add_right}
use Rattle.std.proofs.lemmas.Bool.{or_right}
use Rattle.std.specs.List.{filter_map, list_all}
use Rattle.pl_frame.specs.declared.address.SwitchId.{SwitchId}
use Rattle.pl_node.specs.declared.acts.HostAct.{HostAct}
use Rattle.pl_layouts.specs.Equality.{same_switch}
use Rattle.pl_host_rule.specs.HostRule.{HostStep}
use Rattle.pl_node.specs.HostDuties.{HoldsData, HoldsOwn, HostsJoinBySending, HostsKeepFrames, HostsSendData, HostsSendOwn, JoinsBySending, SendsData, SendsOwn}
use Rattle.pl_node.specs.HostInputs.{HostAnswer, HostInput}
use Rattle.pl_node.specs.HostInputs.HostAnswer.{Received}
use Rattle.pl_node.specs.HostInputs.HostInput.{HasMoved, Joins, Leaves, Plays, PlaysRaw, Receives, Retries, Starts}
use Rattle.pl_node.specs.HostViews.{HostView}
use Rattle.pl_node.specs.ManagerDuties.{AnswersDuly, AreNumbered, AreRegistered, IsGrown, is_for_heard, load, numbered_by}
use Rattle.pl_node.specs.ManagerViews.{ManagerView, is_heard}
use Rattle.pl_node.specs.declared.reception.Reception.{Reception}
use Rattle.pl_node.specs.declared.reception.Reception.TheVariants.{Kept}
use Rattle.pl_node.proofs.Exports.{nothing_numbered, nothing_registered}
use Rattle.pl_host_rule.proofs.Exports.HostOwn as own
use Rattle.pl_host_rule.proofs.Exports.{joins_by_sending, owes_sends}
use Rattle.pl_test_sample.specs.Sending.{SendsOneFrame, one_frame_step}
use Rattle.pl_test_sample.specs.Silence.{SaysNothing}

pub grown : (view : ManagerView) (s : SwitchId) → IsGrown view s view
grown view s = record {
  k = refl;
  epoch = refl;
  heard = λ t h. or_right (same_switch s t) (is_heard view t) h;
  addresses = le-add_right (load view) 1;
}

pub says_nothing_duly : AnswersDuly SaysNothing
says_nothing_duly = record {
  heard = λ before s says after acts ruled. subst (λ acts. IsTrue (list_all (is_for_heard before s) acts)) (sym ruled.1) refl;
  numbered = λ before s says after acts ruled.
      subst (λ acts. AreNumbered before after (filter_map numbered_by acts)) (sym ruled.1)
      (subst (λ view. AreNumbered before view []) (sym ruled.0) (nothing_numbered before));
  registers = λ before s says after acts ruled. subst (AreRegistered after) (sym ruled.1) (nothing_registered after [] refl);
  grows = λ before s says after acts ruled. subst (λ view. IsGrown before s view) (sym ruled.0) (grown before s);
}

-- a step, by its view before and what it makes
abbrev Owes : HostView → HostStep → Type 0
Owes view step = SendsData view step.view step.acts × JoinsBySending view step.view step.acts

-- a step that sends nothing and changes nothing
rests : (view : HostView) → HoldsData view → SendsData view view [] × JoinsBySending view view []
rests view holds = (record { sends = refl; holds = holds; me = refl; table = refl }, λ number. refl)

owes : (view : HostView) (input : HostInput) → HoldsData view → Owes view (one_frame_step view input)
owes view Starts holds =
    (owes_sends view Starts _ _ _ holds refl, joins_by_sending view Starts _ _ _ holds refl)
owes view Retries holds = rests view holds
owes view HasMoved holds = rests view holds
owes view (Plays frame original) holds = rests view holds
owes view (PlaysRaw frame original) holds = rests view holds
owes view (Joins group) holds = rests view holds
owes view (Leaves group) holds = rests view holds
owes view (Receives frame) holds = rests view holds

by_rule : (view : HostView) (input : HostInput) (after : HostView) (acts : List HostAct) (answer : HostAnswer) → HoldsData view →
    SendsOneFrame view input after acts answer → SendsData view after acts × JoinsBySending view after acts
by_rule view input after acts answer holds ruled = subst (λ (step : HostStep). Owes view step) ruled (owes view input holds)

pub sends_data : HostsSendData SendsOneFrame
sends_data view input after acts answer holds ruled = (by_rule view input after acts answer holds ruled).0

pub joins_no_group : HostsJoinBySending SendsOneFrame
joins_no_group view input after acts answer holds ruled = (by_rule view input after acts answer holds ruled).1

-- a step by what it may send and hold
owns : (view : HostView) (input : HostInput) → HoldsData view → HoldsOwn view →
    SendsOwn view (one_frame_step view input).view (one_frame_step view input).acts
owns view Starts sizes holds = own.sends_own view Starts _ _ _ sizes holds refl
owns view Retries sizes holds = record { sends = refl; holds = holds }
owns view HasMoved sizes holds = record { sends = refl; holds = holds }
owns view (Plays frame original) sizes holds = record { sends = refl; holds = holds }
owns view (PlaysRaw frame original) sizes holds = record { sends = refl; holds = holds }
owns view (Joins group) sizes holds = record { sends = refl; holds = holds }
owns view (Leaves group) sizes holds = record { sends = refl; holds = holds }
owns view (Receives frame) sizes holds = record { sends = refl; holds = holds }

pub sends_own : HostsSendOwn SendsOneFrame
sends_own view input after acts answer sizes holds ruled =
    subst (λ (step : HostStep). SendsOwn view step.view step.acts) ruled (owns view input sizes holds)

abbrev received : Reception → HostAnswer
received r = Received r

same_reception : (a b : Reception) → received a ≡ received b → a ≡ b
same_reception a b h = cc

pub keeps_all : HostsKeepFrames SendsOneFrame
keeps_all view frame after acts reception unrouted ruled = same_reception reception Kept (sym (ap (λ (step : HostStep). step.answer) ruled))
