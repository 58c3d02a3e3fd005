-- What is made for a world at its beginning.
use Rattle.std.proofs.Common.{◌≡◌, ℕ, zero, suc, ◌+◌, ◌*◌, ◌^◌, ◌<◌, ◌≤◌, true, false, List, [], ◌∷◌, ◌++◌, length, map, take, replicate, All, Option, Some, None, slice_get, refl, sym, ◌∙◌, ap, subst, add-one, arith}
use Rattle.pl_frame.specs.declared.address.SwitchId.{SwitchId}
use Rattle.pl_arp.specs.declared.cache.Me.{Me}
use Rattle.pl_wiring.specs.declared.host.Host.{Host}
use Rattle.pl_wiring.specs.Labels.{IsArity, switch_count}
use Rattle.pl_wiring.specs.LiveLinks.{IsFor, IsLive, LivePorts}
use Rattle.pl_wiring.specs.Plan.{IsPlan, Plan}
use Rattle.pl_journal.specs.declared.entry.Entry.{Entry}
use Rattle.pl_node.specs.declared.messages.ToManager.{ToManager}
use Rattle.pl_node.specs.declared.messages.ToSwitch.{ToSwitch}
use Rattle.pl_node.specs.HostViews.{HostView, boot_host}
use Rattle.pl_node.specs.ManagerViews.{ManagerView, booted_manager}
use Rattle.pl_node.specs.SwitchFacts.{CanBoot, IsTreeSize, switch_at_boot}
use Rattle.pl_node.specs.SwitchViews.{SwitchView}
use Rattle.pl_world.specs.Booting.{CanBegin, all_live, booted, first_attachment, me_of}
use Rattle.pl_world.specs.declared.item.Item.{Item}
use Rattle.pl_world.specs.declared.limits.Limits.{Limits}
use Rattle.pl_world.specs.declared.attachment.AttachmentPoint.{AttachmentPoint}
use Rattle.pl_world.specs.Flying.{IsCounted, IsFormed}
use Rattle.pl_world.specs.Hearing.{IsWithinHearing}
use Rattle.pl_world.specs.Worlds.{WorldView}
use Rattle.pl_world.proofs.BootBalances.{all_live_is_for, booted_is_counted, can_boot, lower_live}
use Rattle.pl_world.proofs.SameLinks.{same_states}

pub all_are_live : (plan : Plan) (links : LivePorts) → IsPlan plan → IsFor plan links → All (IsLive links) plan.links → links ≡ all_live plan
all_are_live plan links is made live =
    same_states plan links (all_live plan) is made (all_live_is_for plan is) (λ n d within. live n d within ∙ sym (lower_live plan is n d within))

pub tree_size : (k : ℕ) → IsArity k → IsTreeSize k
tree_size k is = record { low = is.least; high = is.most; even = is.even }

-- a switch that is named can boot
pub named_can_boot : (plan : Plan) (s : ℕ) (id : SwitchId) → IsPlan plan → slice_get plan.ids s ≡ Some id → CanBoot id plan.k
named_can_boot plan s id is found = can_boot plan is id (in_range plan.ids s found is.ids_in_range)
  where
    in_range : (ids : List SwitchId) (n : ℕ) → slice_get ids n ≡ Some id → All (λ i. (1 ≤ i.0) × (i.0 < 2 ^ 48)) ids → (1 ≤ id.0) × (id.0 < 2 ^ 48)
    in_range [] n found all = absurd (cc)
    in_range (i ∷ ids) zero found all = let same : i ≡ id = cc in subst (λ (x : SwitchId). (1 ≤ x.0) × (x.0 < 2 ^ 48)) same (all zero i (omega arith))
    in_range (i ∷ ids) (suc n) found all = in_range ids n found (λ m d within. all (suc m) d (omega arith))

module _ {X Y : Type 0} (f : X → Y) where
  pub slice_get_map : (xs : List X) (n : ℕ) (x : X) → slice_get xs n ≡ Some x → slice_get (map f xs) n ≡ Some (f x)
  slice_get_map [] n x found = absurd (cc)
  slice_get_map (y ∷ xs) zero x found = let same : y ≡ x = cc in ap (λ z. Some (f z)) same
  slice_get_map (y ∷ xs) (suc n) x found = slice_get_map xs n x found

  map_more : (xs : List X) (x : X) → map f (xs ++ x ∷ []) ≡ map f xs ++ f x ∷ []
  map_more [] x = refl
  map_more (y ∷ xs) x = ap (λ zs. f y ∷ zs) (map_more xs x)

taken_more : {Y : Type 0} (ys : List Y) (n : ℕ) (y : Y) → slice_get ys n ≡ Some y → take n ys ++ y ∷ [] ≡ take (suc n) ys
taken_more [] n y found = absurd (cc)
taken_more (z ∷ ys) zero y found = let same : y ≡ z = cc in ap (λ u. u ∷ []) same
taken_more (z ∷ ys) (suc n) y found = ap (λ zs. z ∷ zs) (taken_more ys n y found)

-- one more switch, or host, has booted
pub booted_more : {X Y : Type 0} (view : X → Y) (devices : List X) (device : X) (ys : List Y) (n : ℕ) → map view devices ≡ take n ys →
    slice_get ys n ≡ Some (view device) → map view (devices ++ device ∷ []) ≡ take (n + 1) ys
booted_more view devices device ys n so_far found =
    rw add-one (map_more view devices device ∙ ap (λ zs. zs ++ view device ∷ []) so_far ∙ taken_more ys n (view device) found)

pub all_taken : {Y : Type 0} (ys : List Y) (n : ℕ) → n ≡ length ys → take n ys ≡ ys
all_taken [] n many = let e : n ≡ 0 = many in rw e refl
all_taken (y ∷ ys) zero many = absurd (omega arith)
all_taken (y ∷ ys) (suc n) many = ap (λ zs. y ∷ zs) (all_taken ys n (omega arith))

pub begun_is_within : (plan : Plan) (limits : Limits) → limits.steps ≤ 4000000000 → IsWithinHearing (booted plan limits)
begun_is_within plan limits few = record {
  within = record { same_k = refl; heard = λ t h. absurd (let none : false ≡ true = h in cc); addresses = omega arith };
  few_steps = few;
}

module _ (plan : Plan) (limits : Limits) (wiring_index : Plan) (links : LivePorts) (attachments : List AttachmentPoint) (heard : List (Option ℕ)) (switches : List SwitchView)
    (manager : ManagerView) (hosts : List HostView) (from_hosts out : List (List Item)) (to_manager : List (List ToManager))
    (from_manager : List (List ToSwitch)) (journal : List Entry) where
  -- each part is as at the beginning
  pub record IsAtFirst : Type 0 where
    pub first_plan : wiring_index ≡ plan
    pub first_links : links ≡ all_live plan
    pub first_attachments : attachments ≡ map first_attachment plan.hosts
    pub first_heard : heard ≡ replicate (length plan.hosts) None
    pub first_switches : switches ≡ map (λ id. switch_at_boot id plan.k) plan.ids
    pub first_manager : manager ≡ booted_manager plan.k
    pub first_hosts : hosts ≡ map (λ host. boot_host (me_of host) (map me_of plan.hosts)) plan.hosts
    pub first_from_hosts : from_hosts ≡ replicate (length plan.hosts) []
    pub first_out : out ≡ replicate (switch_count plan.k * plan.k) []
    pub first_to_manager : to_manager ≡ replicate (switch_count plan.k) []
    pub first_from_manager : from_manager ≡ replicate (switch_count plan.k) []
    pub first_journal : journal ≡ []

  abbrev pub made_of_parts : WorldView
  made_of_parts = record {
    plan = wiring_index;
    links = links;
    attachments = attachments;
    heard = heard;
    switches = switches;
    manager = manager;
    hosts = hosts;
    from_hosts = from_hosts;
    out = out;
    to_manager = to_manager;
    from_manager = from_manager;
    journal = journal;
    begun = 0;
    steps = 0;
    limits = limits;
  }

  pub parts_make : IsAtFirst → made_of_parts ≡ booted plan limits
  parts_make p = rw (p.first_plan, p.first_links, p.first_attachments, p.first_heard, p.first_switches, p.first_manager, p.first_hosts, p.first_from_hosts, p.first_out, p.first_to_manager, p.first_from_manager, p.first_journal) refl

  pub parts_formed : CanBegin plan → IsAtFirst → IsFormed made_of_parts
  parts_formed can p = subst IsFormed (sym (parts_make p)) (booted_is_counted plan limits can).formed

pub hosts_first : (got : List HostView) (table : List Me) (two three hosts : List Host) → two ≡ hosts → three ≡ hosts → table ≡ map me_of two →
    got ≡ map (λ host. boot_host (me_of host) table) three → got ≡ map (λ host. boot_host (me_of host) (map me_of hosts)) hosts
hosts_first got table two three hosts second third made booted_each =
    booted_each ∙ ap (λ t. map (λ host. boot_host (me_of host) t) three) (made ∙ ap (map me_of) second)
    ∙ ap (map (λ host. boot_host (me_of host) (map me_of hosts))) third

pub begun_counted : (w : WorldView) (plan : Plan) (limits : Limits) → CanBegin plan → w ≡ booted plan limits → IsCounted w
begun_counted w plan limits can same = subst IsCounted (sym same) (booted_is_counted plan limits can)

pub begun_within : (w : WorldView) (plan : Plan) (limits : Limits) → limits.steps ≤ 4000000000 → w ≡ booted plan limits → IsWithinHearing w
begun_within w plan limits few same = subst IsWithinHearing (sym same) (begun_is_within plan limits few)
