-- A switch tells that a trap stands in its report alone, and the report has one end.
use Rattle.std.proofs.Common.{◌≡◌, ℕ, ◌+◌, ◌&&◌, Bool, true, false, if◌then◌else◌, List, [], ◌∷◌, ◌++◌, map, Option, Some, None, is_none, refl, sym}
use Rattle.std.specs.List.{AllByRecursion, flat_map}
use Rattle.std.proofs.lemmas.Bool.{cond_both, false≢true}
use Rattle.pl_lemmas.proofs.Exports.{all_append}
use Rattle.pl_frame.specs.declared.address.SwitchId.{SwitchId}
use Rattle.pl_pmac.specs.declared.pmac.Pmac.{Pmac}
use Rattle.pl_layouts.specs.declared.place.Place.{Place}
use Rattle.pl_layouts.specs.Control.{is_control}
use Rattle.pl_layouts.specs.Placement.{is_known}
use Rattle.pl_node.specs.declared.acts.Act.{Act}
use Rattle.pl_node.specs.declared.acts.Act.TheVariants.{Tell}
use Rattle.pl_node.specs.declared.address_use.AddressUse.{AddressUse}
use Rattle.pl_node.specs.declared.address_use.AddressUse.TheVariants.{Free, InUse, Resting, Trapped}
use Rattle.pl_node.specs.declared.messages.ToManager.{ToManager}
use Rattle.pl_node.specs.declared.messages.ToManager.TheVariants as tell
use Rattle.pl_node.specs.declared.messages.ToSwitch.{ToSwitch}
use Rattle.pl_node.specs.declared.messages.ToSwitch.TheVariants as say
use Rattle.pl_node.specs.declared.switch_records.Grant.{Grant}
use Rattle.pl_node.specs.declared.trap.Trap.{Trap}
use Rattle.pl_node.specs.PortRecords.{id_at, is_usable, ports_of_switch}
use Rattle.pl_node.specs.SwitchInputs.SwitchInput.{Comes, Says, Tick}
use Rattle.pl_node.specs.SwitchViews.{SwitchView}
use Rattle.pl_steps.specs.Steps.{SwitchStep, does, rests, ◌▹◌}
use Rattle.pl_switch_rule.specs.Announcing.{ticks}
use Rattle.pl_switch_rule.specs.Forwarding.{Choice}
use Rattle.pl_switch_rule.specs.Granting.{address_at_port, granted, grants_at, held_here, is_granted}
use Rattle.pl_switch_rule.specs.Intake.{groups_of}
use Rattle.pl_switch_rule.specs.Levels.{changes_to, with_pod}
use Rattle.pl_switch_rule.specs.Delivering.{makes}
use Rattle.pl_switch_rule.specs.Messages.{answer_frame, flood_frame, floods, forgets_members, hears_manager, invalidates, probes, sets_trap, takes_pod}
use Rattle.pl_switch_rule.specs.Reporting.{addresses_reported, each_from, each_grant, groups_reported, link_reported, links_reported, own_reported, report, rest_reported, trap_reported, use_reported, wish_reported}
use Rattle.pl_switch_rule.specs.SwitchRule.{control_comes, data_comes, switch_step}
use Rattle.pl_switch_rule.proofs.Exports.{ChangeActs, changes_acts, control_acts, data_acts_by, FrameActs, frees_acts, GrantActs, IsAnyPort, ticks_acts}
use Rattle.pl_law_control_plane.specs.ControlPlanes.{tells}
use Rattle.pl_law_control_plane.proofs.Exports.{told_all}
use Rattle.pl_law_due.specs.Due.{is_hello, read}
use Rattle.pl_law_due.specs.Gathering.{IsNoEnd}
use Rattle.pl_law_addresses.proofs.Exports.{AreSilent, aside_does, aside_then, floods_aside, forgets_members_aside, IsSilentWord, LeavesAddresses, makes_aside, probes_aside}
use Rattle.pl_law_epochs.specs.Trapping.{no_traps}
use Rattle.pl_law_epochs.proofs.TrapWords.{is_end}

abbrev IsNoTrapAct : Act → Type 0
IsNoTrapAct (Tell (tell.Trapped old new number)) = ⊥
IsNoTrapAct act = Unit {0}

frames_untrapped : FrameActs IsAnyPort IsNoTrapAct
frames_untrapped = record { passed = λ port frame way. tt; redirected = λ old new. tt; dropped = λ cause. tt; taken = tt; asked = λ asker asker_ip ip. tt }

grants_untrapped : GrantActs IsNoTrapAct
grants_untrapped = record { granted = λ address amac. tt; learnt = λ address amac ip. tt }

change_untrapped : (place : Place) → ChangeActs place IsNoTrapAct
change_untrapped place = record { placed = tt; linked = λ neighbour usable. tt; wanted = λ position. tt }

read_untrapped : (ws : List ToManager) → AllByRecursion (λ told. IsNoTrapAct (Tell told)) ws → no_traps (read ws) ≡ true
read_untrapped [] all = refl
read_untrapped (tell.Trapped a b c ∷ ws) all = absurd all.0
read_untrapped (tell.Begin n ∷ ws) all = read_untrapped ws all.1
read_untrapped (tell.End n ∷ ws) all = read_untrapped ws all.1
read_untrapped (tell.Place place ∷ ws) all = read_untrapped ws all.1
read_untrapped (tell.Link u usable ∷ ws) all = read_untrapped ws all.1
read_untrapped (tell.PodWanted ∷ ws) all = read_untrapped ws all.1
read_untrapped (tell.Learned a b c ∷ ws) all = read_untrapped ws all.1
read_untrapped (tell.Aged a b ∷ ws) all = read_untrapped ws all.1
read_untrapped (tell.Query a b c ∷ ws) all = read_untrapped ws all.1
read_untrapped (tell.Members group any ∷ ws) all = read_untrapped ws all.1

abbrev IsUntrapped : List Act → Type 0
IsUntrapped acts = no_traps (read (tells acts)) ≡ true

acts_untrapped : (acts : List Act) → AllByRecursion IsNoTrapAct acts → IsUntrapped acts
acts_untrapped acts all = read_untrapped (tells acts) (told_all IsNoTrapAct acts all)

silent_word : (told : ToManager) → IsSilentWord told → IsNoTrapAct (Tell told)
silent_word (tell.Trapped a b c) is = is
silent_word (tell.Begin n) is = tt
silent_word (tell.End n) is = tt
silent_word (tell.Place place) is = tt
silent_word (tell.Link u usable) is = tt
silent_word tell.PodWanted is = tt
silent_word (tell.Learned a b c) is = tt
silent_word (tell.Aged a b) is = tt
silent_word (tell.Query a b c) is = tt
silent_word (tell.Members group any) is = tt

silent_acts : (acts : List Act) → AreSilent acts → AllByRecursion IsNoTrapAct acts
silent_acts [] are = tt
silent_acts (Tell told ∷ acts) are = (silent_word told are.0, silent_acts acts are.1)
silent_acts (a ∷ acts) are = (tt, silent_acts acts are.1)

aside_untrapped : (v : SwitchView) (s : SwitchStep) → LeavesAddresses v s → IsUntrapped s.acts
aside_untrapped v s a = acts_untrapped s.acts (silent_acts s.acts a.silent)

module _ (choose : Choice) (v : SwitchView) where
  pub tick_untrapped : IsUntrapped (switch_step choose v Tick).acts
  tick_untrapped =
      acts_untrapped (ticks v).acts (ticks_acts IsNoTrapAct v (change_untrapped v.place) (λ port frame. tt) (λ port frame. tt) (λ frame. tt) (λ address number. tt))

  pub frame_untrapped : (port : ℕ) (frame : List ℕ) → IsUntrapped (switch_step choose v (Comes port frame)).acts
  frame_untrapped port frame =
      cond_both (is_control frame) (control_comes v port frame) (data_comes choose v port frame) (λ (step : SwitchStep). IsUntrapped step.acts)
      (λ control.
      let step = control_comes v port frame in
      acts_untrapped step.acts (control_acts IsNoTrapAct v port frame (change_untrapped step.view.place) grants_untrapped (λ at told. tt)))
      (λ data_frame.
      let step = data_comes choose v port frame in
      acts_untrapped step.acts
      (data_acts_by IsNoTrapAct choose frames_untrapped grants_untrapped (λ frame. tt) (λ group any. tt) v port frame (change_untrapped step.view.place)))

  recall_untrapped : (old : Pmac) (trap : Trap) (o : Option Grant) → IsUntrapped (invalidates v old trap o).acts
  recall_untrapped old trap None = refl
  recall_untrapped old trap (Some g) =
      let w = sets_trap v old g trap in
      let sets = does w [] in
      let forgets = forgets_members old.port g.amac in
      aside_untrapped w (sets ▹ forgets ▹ probes old g)
      (aside_then w (sets ▹ forgets) (probes old g) (aside_then w sets forgets (aside_does w [] tt) (λ u. forgets_members_aside old.port g.amac u)) (λ u. probes_aside old g u))

  pub order_untrapped : (says : ToSwitch) → is_hello says ≡ false → IsUntrapped (switch_step choose v (Says says)).acts
  order_untrapped (say.Hello epoch) other = absurd (false≢true (sym other))
  order_untrapped (say.Pod pod) other =
      cond_both (takes_pod v pod) (changes_to v (with_pod v (Some pod))) (rests v) (λ (step : SwitchStep). IsUntrapped step.acts)
      (λ takes.
      acts_untrapped (changes_to v (with_pod v (Some pod))).acts
      (changes_acts IsNoTrapAct grants_untrapped v (with_pod v (Some pod)) (change_untrapped (with_pod v (Some pod)).place)))
      (λ stays. refl)
  order_untrapped (say.Avoid list) other = refl
  order_untrapped (say.Tree group part) other = refl
  order_untrapped (say.Answer asker asker_ip ip pmac) other =
      cond_both (is_granted v asker) (makes choose (answer_frame asker asker_ip ip pmac) v) (rests v) (λ (step : SwitchStep). IsUntrapped step.acts)
      (λ here. aside_untrapped v (makes choose (answer_frame asker asker_ip ip pmac) v) (makes_aside choose (answer_frame asker asker_ip ip pmac) v)) (λ other. refl)
  order_untrapped (say.Flood asker asker_ip ip) other =
      cond_both (is_granted v asker) (floods v (flood_frame asker asker_ip ip)) (rests v) (λ (step : SwitchStep). IsUntrapped step.acts)
      (λ here. aside_untrapped v (floods v (flood_frame asker asker_ip ip)) (floods_aside v (flood_frame asker asker_ip ip))) (λ other. refl)
  order_untrapped (say.Invalidate old new number ip) other = recall_untrapped old (record { new = new; number = number; ip = ip }) (held_here v old)
  order_untrapped (say.Release x) other = let step = hears_manager choose v (say.Release x) in acts_untrapped step.acts (frees_acts IsNoTrapAct (λ address. tt) v x (granted v x))

-- ---- the words of a report
all_of_map : {X : Type 0} (f : X → ToManager) (xs : List X) → ((x : X) → IsNoEnd (f x)) → AllByRecursion IsNoEnd (map f xs)
all_of_map f [] each = tt
all_of_map f (x ∷ xs) each = (each x, all_of_map f xs each)

all_of_flat : {X : Type 0} (f : X → List ToManager) (xs : List X) → ((x : X) → AllByRecursion IsNoEnd (f x)) → AllByRecursion IsNoEnd (flat_map f xs)
all_of_flat f [] each = tt
all_of_flat f (x ∷ xs) each = all_append IsNoEnd (f x) (flat_map f xs) (each x) (all_of_flat f xs each)

link_no_end : (o : Option SwitchId) (usable : Bool) → AllByRecursion IsNoEnd (link_reported o usable)
link_no_end None usable = tt
link_no_end (Some id) usable = (tt, tt)

wish_no_end : (b : Bool) → AllByRecursion IsNoEnd (if b then tell.PodWanted ∷ [] else [])
wish_no_end true = (tt, tt)
wish_no_end false = tt

use_no_end : (x : Pmac) (g : Grant) (h : AddressUse) → AllByRecursion IsNoEnd (use_reported x g h)
use_no_end x g (InUse idle) = (tt, tt)
use_no_end x g (Trapped trap age) = tt
use_no_end x g (Resting number) = tt
use_no_end x g Free = tt

trap_no_end : (x : Pmac) (h : AddressUse) → AllByRecursion IsNoEnd (trap_reported x h)
trap_no_end x (InUse idle) = tt
trap_no_end x (Trapped trap age) = (tt, tt)
trap_no_end x (Resting number) = tt
trap_no_end x Free = tt

rest_no_end : (x : Pmac) (h : AddressUse) → AllByRecursion IsNoEnd (rest_reported x h)
rest_no_end x (InUse idle) = tt
rest_no_end x (Trapped trap age) = tt
rest_no_end x (Resting number) = (tt, tt)
rest_no_end x Free = tt

from_no_end : (reported : ℕ → Grant → List ToManager) → ((vmid : ℕ) (g : Grant) → AllByRecursion IsNoEnd (reported vmid g)) → (vmid : ℕ) (grants : List Grant) →
    AllByRecursion IsNoEnd (each_from reported vmid grants)
from_no_end reported each vmid [] = tt
from_no_end reported each vmid (g ∷ grants) =
    all_append IsNoEnd (reported vmid g) (each_from reported (vmid + 1) grants) (each vmid g) (from_no_end reported each (vmid + 1) grants)

grants_no_end : (reported : Pmac → Grant → List ToManager) → ((x : Pmac) (g : Grant) → AllByRecursion IsNoEnd (reported x g)) → (v : SwitchView) → AllByRecursion IsNoEnd (each_grant reported v)
grants_no_end reported each v =
    all_of_flat (λ port. each_from (λ vmid g. reported (address_at_port v port vmid) g) 1 (grants_at v port)) (ports_of_switch v.k)
    (λ port. from_no_end (λ vmid g. reported (address_at_port v port vmid) g) (λ vmid g. each (address_at_port v port vmid) g) 1 (grants_at v port))

own_no_end : (v : SwitchView) → AllByRecursion IsNoEnd (own_reported v)
own_no_end v = (
  tt,
  all_append IsNoEnd (links_reported v) (wish_reported v.place)
      (all_of_flat (λ port. link_reported (id_at v port) (is_usable v port)) (ports_of_switch v.k) (λ port. link_no_end (id_at v port) (is_usable v port)))
      (wish_no_end (is_known v.place.level 0 && is_known v.place.position 0 && is_none v.place.pod)),
)

addresses_no_end : (v : SwitchView) → AllByRecursion IsNoEnd (addresses_reported v)
addresses_no_end v =
    let used = each_grant (λ x g. use_reported x g g.held) v in
    let trapped = each_grant (λ x g. trap_reported x g.held) v in
    let resting = each_grant (λ x g. rest_reported x g.held) v in
    all_append IsNoEnd used (trapped ++ resting) (grants_no_end (λ x g. use_reported x g g.held) (λ x g. use_no_end x g g.held) v)
    (all_append IsNoEnd trapped resting (grants_no_end (λ x g. trap_reported x g.held) (λ x g. trap_no_end x g.held) v)
    (grants_no_end (λ x g. rest_reported x g.held) (λ x g. rest_no_end x g.held) v))

pub report_no_end : (v : SwitchView) → AllByRecursion IsNoEnd (report v)
report_no_end v =
    all_append IsNoEnd (own_reported v) (addresses_reported v ++ groups_reported v.members) (own_no_end v)
    (all_append IsNoEnd (addresses_reported v) (groups_reported v.members) (addresses_no_end v)
    (all_of_map (λ group. tell.Members group true) (groups_of v.members) (λ group. tt)))

pub read_no_end : (ws : List ToManager) → AllByRecursion IsNoEnd ws → AllByRecursion (λ r. is_end r ≡ false) (read ws)
read_no_end [] all = tt
read_no_end (tell.End n ∷ ws) all = absurd all.0
read_no_end (tell.Begin n ∷ ws) all = (refl, read_no_end ws all.1)
read_no_end (tell.Place place ∷ ws) all = (refl, read_no_end ws all.1)
read_no_end (tell.Link u usable ∷ ws) all = (refl, read_no_end ws all.1)
read_no_end (tell.PodWanted ∷ ws) all = (refl, read_no_end ws all.1)
read_no_end (tell.Learned a b c ∷ ws) all = (refl, read_no_end ws all.1)
read_no_end (tell.Aged a b ∷ ws) all = (refl, read_no_end ws all.1)
read_no_end (tell.Trapped a b c ∷ ws) all = (refl, read_no_end ws all.1)
read_no_end (tell.Query a b c ∷ ws) all = (refl, read_no_end ws all.1)
read_no_end (tell.Members group any ∷ ws) all = (refl, read_no_end ws all.1)
