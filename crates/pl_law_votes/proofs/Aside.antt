-- What a switch does with data frames and with the manager's messages leaves its votes as they are, and sends no message to a neighbour.
use Rattle.std.proofs.Common.{◌≡◌, ℕ, ◌&&◌, ◌||◌, Bool, true, false, if◌then◌else◌, List, [], ◌∷◌, Option, Some, None, is_none, refl, ◌∙◌, ap, sym}
use Rattle.std.specs.List.{AllByRecursion}
use Rattle.std.proofs.lemmas.Bool.{cond_both}
use Rattle.pl_frame.specs.declared.address.SwitchId.{SwitchId}
use Rattle.pl_node.specs.declared.acts.Act.{Act}
use Rattle.pl_node.specs.declared.acts.Act.TheVariants.{Control, Drop}
use Rattle.pl_node.specs.declared.messages.ToSwitch.{ToSwitch}
use Rattle.pl_node.specs.declared.messages.ToSwitch.TheVariants.{Answer, Avoid, Flood, Hello, Invalidate, Pod, Release, Tree}
use Rattle.pl_node.specs.PortRecords.{is_open_to_hosts, port_of, with_port}
use Rattle.pl_node.specs.SwitchViews.{SwitchView}
use Rattle.pl_journal.specs.declared.cause.Cause.TheVariants.{NotPlaced}
use Rattle.pl_layouts.specs.declared.place.Place.{Place}
use Rattle.pl_layouts.specs.Placement.{is_known}
use Rattle.pl_steps.specs.Steps.{SwitchStep, does, rests, ◌▹◌}
use Rattle.pl_switch_rule.specs.Aging.{ages, with_older}
use Rattle.pl_switch_rule.specs.Forwarding.{Choice}
use Rattle.pl_switch_rule.specs.Granting.{granted, held_here, is_granted, learns_source}
use Rattle.pl_switch_rule.specs.Intake.{comes_from_host, takes_in_or_spent}
use Rattle.pl_switch_rule.specs.Levels.{becomes_edge, changes_to, pod_told_before, finds_host, with_pod}
use Rattle.pl_switch_rule.specs.Messages.{answer_frame, flood_frame, hears_manager, takes_pod, hears_pod}
use Rattle.pl_switch_rule.specs.SwitchRule.{comes_from_switch, data_comes}
use Rattle.pl_switch_rule.specs.Telling.{changes_told}
use Rattle.pl_switch_rule.proofs.Exports.{ages_acts, ages_learn, answers_stay, ChangeActs, changes_acts, changes_learn, data_acts, floods_stay, frees_learn, host_frame_learns, HostActs, idle_acts, invalidates_learns, IsAnyPort, LearnsHosts, manager_acts, sources_are_of_hosts, stays_learns, switch_frame_stays, told_acts}

-- what a switch has to do with votes as one that proposes
pub record Stance : Type 0 where
  pub id : SwitchId
  pub k : ℕ
  pub position : Option ℕ
  pub attempt : ℕ
  pub proposed : ℕ
  pub granted : List ℕ

abbrev pub stance : SwitchView → Stance
stance v = record { id = v.id; k = v.k; position = v.place.position; attempt = v.attempt; proposed = v.proposed; granted = v.granted }

abbrev pub IsUnsaid : Act → Type 0
IsUnsaid (Control port frame) = ⊥
IsUnsaid act = Unit {0}

abbrev pub AreUnsaid : List Act → Type 0
AreUnsaid acts = AllByRecursion IsUnsaid acts

-- the votes stay as they are, also where the place does not, and no neighbour is told anything
pub record LeavesVotes (v : SwitchView) (s : SwitchStep) : Type 0 where
  pub same : stance s.view ≡ stance v
  pub holds : s.view.holds ≡ v.holds
  pub unsaid : AreUnsaid s.acts

-- and so does the place of an edge switch
pub record LeavesVotesAndPlace (v : SwitchView) (s : SwitchStep) : Type 0 where
  pub same : stance s.view ≡ stance v
  pub holds : s.view.holds ≡ v.holds
  pub stays_placed : v.place.level ≡ Some 0 → s.view.place ≡ v.place
  pub unsaid : AreUnsaid s.acts

pub votes_left : (v : SwitchView) (s : SwitchStep) → LeavesVotesAndPlace v s → LeavesVotes v s
votes_left v s aside = record { same = aside.same; holds = aside.holds; unsaid = aside.unsaid }

-- What acts say.

unsaid_hosts : HostActs IsUnsaid
unsaid_hosts = record {
  frames = record { passed = λ port frame way. tt; redirected = λ old new. tt; dropped = λ cause. tt; taken = tt; asked = λ asker asker_ip ip. tt };
  grants = record { granted = λ address amac. tt; learnt = λ address amac ip. tt };
  made = λ frame. tt;
  aged = λ address number. tt;
  freed = λ address. tt;
  reported = record { begun = λ epoch. tt; ended = λ epoch. tt; trapped = λ old new number. tt };
}

unsaid_change : (place : Place) → ChangeActs place IsUnsaid
unsaid_change place = record { placed = tt; linked = λ neighbour usable. tt; wanted = λ position. tt }

pub unsaid_told : (old new : SwitchView) → AreUnsaid (changes_told old new)
unsaid_told old new = told_acts IsUnsaid old new (unsaid_change new.place)

-- What a view keeps of votes.

record KeepsVotes (v w : SwitchView) : Type 0 where
  same : stance w ≡ stance v
  holds : w.holds ≡ v.holds
  stays_placed : v.place.level ≡ Some 0 → w.place ≡ v.place

hosts_keep : (v w : SwitchView) → LearnsHosts v w → KeepsVotes v w
hosts_keep v w learns = record {
  same = ap stance learns;
  holds = ap (λ (x : SwitchView). x.holds) learns;
  stays_placed = λ level. ap (λ (x : SwitchView). x.place) learns;
}

stays_keep : (v w : SwitchView) → w ≡ v → KeepsVotes v w
stays_keep v w stays = hosts_keep v w (stays_learns v w stays)

aside : (v : SwitchView) (s : SwitchStep) → KeepsVotes v s.view → AreUnsaid s.acts → LeavesVotesAndPlace v s
aside v s keeps unsaid = record { same = keeps.same; holds = keeps.holds; stays_placed = keeps.stays_placed; unsaid = unsaid }

-- what a switch makes of a change of its view: the votes are those of the changed view
pub changes : (old new : SwitchView) → LeavesVotesAndPlace new (changes_to old new)
changes old new =
    let end : SwitchView = (changes_to old new).view in
    aside new (changes_to old new) (hosts_keep new end (sources_are_of_hosts new end (changes_learn old new)))
    (changes_acts IsUnsaid unsaid_hosts.grants old new (unsaid_change new.place))

-- Addresses age.
pub aside_ages : (v : SwitchView) → LeavesVotes v (ages v)
aside_ages v =
    votes_left v (ages v) (aside v (ages v) (hosts_keep v (ages v).view (ages_learn v))
    (ages_acts IsUnsaid (λ x number. tt) v (idle_acts IsUnsaid IsAnyPort (λ port frame way. tt) (with_older v) (λ x grant is. tt) (λ x i. tt))))

-- A data frame comes.

-- an edge switch stays as it is
edge_stays : (v : SwitchView) → v.place.level ≡ Some 0 → (becomes_edge v).place ≡ v.place
edge_stays v level = by v.place.level v.place.position v.place.pod (pod_told_before v) level
  where
    by : (level position pod told : Option ℕ) → level ≡ Some 0 →
        ◌≡◌ {A = Place} (record { level = Some 0; position = position; pod = if is_none level && is_none pod then told else pod })
        (record { level = level; position = position; pod = pod })
    by None position pod told same = absurd (cc)
    by (Some x) position pod told same = ap (λ l. record { level = l; position = position; pod = pod }) (sym same)

host_frame_keeps : (choose : Choice) (v : SwitchView) (port : ℕ) (frame : List ℕ) → KeepsVotes v (comes_from_host choose v port frame).view
host_frame_keeps choose v port frame =
    let found : SwitchView = with_port v port (record (port_of v port) { host = true }) in
    let learns = host_frame_learns choose v port frame in
    cond_both (is_known v.place.level 1 || is_known v.place.level 2) (does v (Drop NotPlaced ∷ []))
    (finds_host v port ▹ (λ w. learns_source w port frame) ▹ takes_in_or_spent choose port frame) (λ (step : SwitchStep). KeepsVotes v step.view)
    (λ no_hosts. stays_keep v v refl)
    (λ edge. record {
      same = ap stance learns;
      holds = ap (λ (x : SwitchView). x.holds) learns;
      stays_placed = λ level. ap (λ (x : SwitchView). x.place) learns ∙ edge_stays found level;
    })

pub aside_data : (choose : Choice) (v : SwitchView) (port : ℕ) (frame : List ℕ) → LeavesVotesAndPlace v (data_comes choose v port frame)
aside_data choose v port frame =
    aside v (data_comes choose v port frame)
    (cond_both (is_open_to_hosts (port_of v port)) (comes_from_host choose v port frame) (comes_from_switch choose v port frame)
    (λ (step : SwitchStep). KeepsVotes v step.view) (λ host. host_frame_keeps choose v port frame)
    (λ switch. stays_keep v (comes_from_switch choose v port frame).view (switch_frame_stays choose v port frame)))
    (data_acts IsUnsaid choose unsaid_hosts (λ group any. tt) v port frame (unsaid_change _))

-- The manager is heard.

unsaid_manager : (choose : Choice) (v : SwitchView) (says : ToSwitch) → AreUnsaid (hears_manager choose v says).acts
unsaid_manager choose v says = manager_acts IsUnsaid choose unsaid_hosts v (λ group any had. tt) says (unsaid_change _)

manager_keeps : (choose : Choice) (v : SwitchView) (says : ToSwitch) → ((pod : ℕ) → says ≡ Pod pod → ⊥) → KeepsVotes v (hears_manager choose v says).view
manager_keeps choose v (Pod pod) other = absurd (other pod refl)
manager_keeps choose v (Avoid list) other = record { same = refl; holds = refl; stays_placed = λ level. refl }
manager_keeps choose v (Tree group part) other = record { same = refl; holds = refl; stays_placed = λ level. refl }
manager_keeps choose v (Hello epoch) other = record { same = refl; holds = refl; stays_placed = λ level. refl }
manager_keeps choose v (Answer asker asker_ip ip pmac) other =
    stays_keep v _ (answers_stay choose v (is_granted v asker) (answer_frame asker asker_ip ip pmac))
manager_keeps choose v (Flood asker asker_ip ip) other = stays_keep v _ (floods_stay v (is_granted v asker) (flood_frame asker asker_ip ip))
manager_keeps choose v (Invalidate old new number ip) other =
    hosts_keep v _ (invalidates_learns v old (record { new = new; number = number; ip = ip }) (held_here v old))
manager_keeps choose v (Release address) other =
    hosts_keep v _ (sources_are_of_hosts v _ (frees_learn v address (granted v address)))

-- a message of the manager that gives no pod
pub aside_manager : (choose : Choice) (v : SwitchView) (says : ToSwitch) → ((pod : ℕ) → says ≡ Pod pod → ⊥) → LeavesVotesAndPlace v (hears_manager choose v says)
aside_manager choose v says other = aside v (hears_manager choose v says) (manager_keeps choose v says other) (unsaid_manager choose v says)

-- and one that does
pod_leaves_votes : (v : SwitchView) (pod : ℕ) → LeavesVotes v (hears_pod v pod)
pod_leaves_votes v pod = by (takes_pod v pod)
  where
    by : (b : Bool) → LeavesVotes v (if◌then◌else◌ {A = SwitchStep} b (changes_to v (with_pod v (Some pod))) (rests v))
    by true = let c = changes v (with_pod v (Some pod)) in record { same = c.same; holds = c.holds; unsaid = c.unsaid }
    by false = record { same = refl; holds = refl; unsaid = tt }

pub manager_leaves_votes : (choose : Choice) (v : SwitchView) (says : ToSwitch) → LeavesVotes v (hears_manager choose v says)
manager_leaves_votes choose v (Pod pod) = pod_leaves_votes v pod
manager_leaves_votes choose v (Avoid list) = votes_left v _ (aside_manager choose v (Avoid list) (λ pod is. absurd (cc is)))
manager_leaves_votes choose v (Tree group part) = votes_left v _ (aside_manager choose v (Tree group part) (λ pod is. absurd (cc is)))
manager_leaves_votes choose v (Answer asker asker_ip ip pmac) = votes_left v _ (aside_manager choose v (Answer asker asker_ip ip pmac) (λ pod is. absurd (cc is)))
manager_leaves_votes choose v (Flood asker asker_ip ip) = votes_left v _ (aside_manager choose v (Flood asker asker_ip ip) (λ pod is. absurd (cc is)))
manager_leaves_votes choose v (Invalidate old new number ip) = votes_left v _ (aside_manager choose v (Invalidate old new number ip) (λ pod is. absurd (cc is)))
manager_leaves_votes choose v (Hello epoch) = votes_left v _ (aside_manager choose v (Hello epoch) (λ pod is. absurd (cc is)))
manager_leaves_votes choose v (Release address) = votes_left v _ (aside_manager choose v (Release address) (λ pod is. absurd (cc is)))
