-- A tick accounts for its frames, of which there may be more than one, and so does a release.
use Rattle.std.proofs.Common.{◌≡◌, ◌≤◌, ◌<◌, ◌-◌, ◌==◌, ℕ, zero, suc, Bool, true, false, if◌then◌else◌, List, [], ◌∷◌, ◌++◌, length, map, Option, Some, None, slice_get, slice_index_or, slice_set, refl, sym, ap, subst, ◌∙◌, ◌⊎◌, inl, inr, arith}
use Rattle.std.specs.List.{AllByRecursion, flat_map}
use Rattle.std.specs.Option.{IfSome}
use Rattle.std.proofs.lemmas.Bool.{eqb-false}
use Rattle.std.proofs.lemmas.List.{length-map, length-set}
use Rattle.std.proofs.lemmas.Option.{slice_get_within}
use Rattle.pl_lemmas.proofs.Exports.{all_append}
use Rattle.pl_frame.specs.declared.address.Ip4.{Ip4}
use Rattle.pl_frame.specs.declared.address.Mac.{Mac}
use Rattle.pl_pmac.specs.declared.pmac.Pmac.{Pmac}
use Rattle.pl_layouts.specs.Frames.{arriving}
use Rattle.pl_node.specs.Accounting.{FrameState, HasMac, IsFit, IsShaped, WereGranted, frame_state, is_said}
use Rattle.pl_node.specs.Accounting.FrameState.{Passed, Silent}
use Rattle.pl_node.specs.SwitchInputs.SwitchInput.{Says, Tick}
use Rattle.pl_node.specs.SwitchViews.{SwitchView}
use Rattle.pl_node.specs.declared.acts.Act.{Act}
use Rattle.pl_node.specs.declared.acts.Act.TheVariants.{Free as FreeAct, Make, Pass, Tell}
use Rattle.pl_node.specs.declared.address_use.AddressUse.{AddressUse}
use Rattle.pl_node.specs.declared.address_use.AddressUse.TheVariants.{Free, InUse, Resting, Trapped}
use Rattle.pl_node.specs.declared.messages.ToManager.{ToManager}
use Rattle.pl_node.specs.declared.messages.ToManager.TheVariants.{Aged}
use Rattle.pl_node.specs.declared.messages.ToSwitch.TheVariants.{Release}
use Rattle.pl_node.specs.declared.switch_records.Grant.{Grant}
use Rattle.pl_steps.specs.Steps.{SwitchStep, does, rests, ◌▹◌}
use Rattle.pl_switch_rule.specs.Aging.{ages, ages_out, ages_out_of, all_age_out, older_grant, probe_of, probes_idle, to_probe, to_rest, with_older}
use Rattle.pl_switch_rule.specs.Announcing.{tells_neighbours, ticks}
use Rattle.pl_switch_rule.specs.Forwarding.{Choice}
use Rattle.pl_switch_rule.specs.Granting.{freed_at, grant_number, granted, grants_at, without}
use Rattle.pl_switch_rule.specs.Messages.{becomes_free, frees, frees_at, hears_manager, probe_acts, probe_frame}
use Rattle.pl_switch_rule.proofs.AllSteps.{IsAccountedStep}
use Rattle.pl_switch_rule.proofs.ControlParts.{quiet_neighbours}
use Rattle.pl_switch_rule.proofs.ControlSteps.{ended_is_said}
use Rattle.pl_switch_rule.proofs.DataFrames.{arriving_made, probe_frame_made}
use Rattle.pl_switch_rule.proofs.GoingHome.{AreGrantedAt, granted_at}
use Rattle.pl_switch_rule.proofs.GoingOut.{sent_by}
use Rattle.pl_switch_rule.proofs.GrantingParts.{granted_has_mac, same_in_order}
use Rattle.pl_switch_rule.proofs.Grants.{granted_parts}
use Rattle.pl_switch_rule.proofs.Managed.{IsSettled, quiet_then_settled, settled_is_accounted}
use Rattle.pl_switch_rule.proofs.RowActs.{all_map}
use Rattle.pl_switch_rule.proofs.Shapes.{all_set, granted_still, grants_have_macs, same_self, same_shape, same_with_addresses}
use Rattle.pl_switch_rule.proofs.StepParts.{HasEnded, IsSame, frame_state_append, same_then}

-- ---- no frame waits
abbrev IsDone : FrameState → Type 0
IsDone now = (now ≡ Silent) ⊎ HasEnded now

-- whatever was spoken of before, where no frame waited then none does behind these acts
record AreDone (k : ℕ) (acts : List Act) : Type 0 where
  done : (start : FrameState) → IsDone start → IsDone (frame_state start acts)
  fit : AllByRecursion (IsFit k) acts

none_done : (k : ℕ) → AreDone k []
none_done k = record { done = λ start is. is; fit = tt }

done_then : (k : ℕ) (xs ys : List Act) → AreDone k xs → AreDone k ys → AreDone k (xs ++ ys)
done_then k xs ys a b = record {
  done = λ start is. subst IsDone (sym (frame_state_append start xs ys)) (b.done (frame_state start xs) (a.done start is));
  fit = all_append (IsFit k) xs ys a.fit b.fit;
}

-- a message to the manager
told_done : (k : ℕ) (told : ToManager) → AreDone k (Tell told ∷ [])
told_done k told = record { done = still; fit = (tt, tt) }
  where
    still : (start : FrameState) → IsDone start → IsDone (frame_state start (Tell told ∷ []))
    still start (inl silent) = inl (ap (λ x. frame_state x (Tell told ∷ [])) silent)
    still start (inr (inl passed)) = inr (inl (ap (λ x. frame_state x (Tell told ∷ [])) passed))
    still start (inr (inr ended)) = inr (inr (ap (λ x. frame_state x (Tell told ∷ [])) ended))

-- a frame that is made, and goes out
made_done : (k port : ℕ) (made sent : List ℕ) → AllByRecursion (IsFit k) (Make made ∷ Pass port sent ∷ []) → AreDone k (Make made ∷ Pass port sent ∷ [])
made_done k port made sent fit = record { done = λ start is. inr (inl (goes start is)); fit = fit }
  where
    goes : (start : FrameState) → IsDone start → frame_state start (Make made ∷ Pass port sent ∷ []) ≡ Passed
    goes start (inl silent) = ap (λ x. frame_state x (Make made ∷ Pass port sent ∷ [])) silent
    goes start (inr (inl passed)) = ap (λ x. frame_state x (Make made ∷ Pass port sent ∷ [])) passed
    goes start (inr (inr ended)) = ap (λ x. frame_state x (Make made ∷ Pass port sent ∷ [])) ended

flat_done : {X : Type 0} (k : ℕ) (f : X → List Act) (xs : List X) → ((x : X) → AreDone k (f x)) → AreDone k (flat_map f xs)
flat_done k f [] each = none_done k
flat_done k f (x ∷ xs) each = done_then k (f x) (flat_map f xs) (each x) (flat_done k f xs each)

-- ---- hosts are probed
probe_done : (k : ℕ) (old : Pmac) (amac : Mac) (ip : Option Ip4) → old.port < k → length amac.0 ≡ 6 → AreDone k (probe_acts old amac ip)
probe_done k old amac None within six = none_done k
probe_done k old amac (Some ip) within six =
    let made = probe_frame_made old ip in
    let sent : List ℕ = arriving (probe_frame old ip) None (Some amac) in
    made_done k old.port (probe_frame old ip) sent (made, (sent_by k old.port sent within (arriving_made (probe_frame old ip) None (Some amac) made tt six), tt))

of_grant_done : (k : ℕ) (x : Pmac) (o : Option Grant) → AreGrantedAt k x.port o → AreDone k (probe_of x o)
of_grant_done k x None at = none_done k
of_grant_done k x (Some grant) at = probe_done k x grant.amac grant.ip at.within at.six

probes_done : (v : SwitchView) → IsShaped v → AreDone v.k (probes_idle v)
probes_done v s = flat_done v.k (λ x. probe_of x (granted v x)) (to_probe v) (λ x. of_grant_done v.k x (granted v x) (granted_at v x s))

-- ---- addresses rest
record IsAging (v : SwitchView) (s : SwitchStep) : Type 0 where
  acts : AreDone v.k s.acts
  same : IsSame v s.view

aging_then : (v : SwitchView) (s : SwitchStep) (next : SwitchView → SwitchStep) → IsAging v s → ((w : SwitchView) → IsSame v w → IsAging w (next w)) → IsAging v (s ▹ next)
aging_then v s next a follows = let b = follows s.view a.same in record {
  acts = done_then v.k s.acts (next s.view).acts a.acts (subst (λ k. AreDone k (next s.view).acts) a.same.k b.acts);
  same = same_then v s.view (next s.view).view a.same b.same;
}

nothing_ages : (v : SwitchView) → IsShaped v → IsAging v (rests v)
nothing_ages v s = record { acts = none_done v.k; same = same_self v s }

of_use_aging : (v : SwitchView) (x : Pmac) (grant : Grant) (held : AddressUse) → IsShaped v → HasMac grant → IsAging v (ages_out_of v x grant held)
of_use_aging v x grant (InUse idle) s mac =
    record { acts = told_done v.k (Aged x 0); same = same_in_order v x (record grant { held = Resting 0 }) (without x v.used) (without x v.trapped) s mac }
of_use_aging v x grant (Trapped trap age) s mac = record {
  acts = told_done v.k (Aged x trap.number);
  same = same_in_order v x (record grant { held = Resting trap.number }) (without x v.used) (without x v.trapped) s mac;
}
of_use_aging v x grant (Resting number) s mac = nothing_ages v s
of_use_aging v x grant Free s mac = nothing_ages v s

out_aging : (v : SwitchView) (x : Pmac) (o : Option Grant) → IsShaped v → IfSome o HasMac → IsAging v (ages_out x o v)
out_aging v x None s mac = nothing_ages v s
out_aging v x (Some grant) s mac = of_use_aging v x grant grant.held s mac

all_aging : (xs : List Pmac) (v : SwitchView) → IsShaped v → IsAging v (all_age_out xs v)
unfolding all_age_out
all_aging [] v s = nothing_ages v s
all_aging (x ∷ xs) v s =
    aging_then v (ages_out x (granted v x) v) (all_age_out xs) (out_aging v x (granted v x) s (granted_has_mac v x s)) (λ w same. all_aging xs w same.shaped)

-- ---- all are older
pub older_at : (grants : List (List Grant)) (port : ℕ) → slice_index_or (map (map older_grant) grants) port [] ≡ map older_grant (slice_index_or grants port [])
older_at [] port = refl
older_at (gs ∷ grants) zero = refl
older_at (gs ∷ grants) (suc port) = older_at grants port

older_macs : (grants : List (List Grant)) → AllByRecursion (AllByRecursion HasMac) grants → AllByRecursion (AllByRecursion HasMac) (map (map older_grant) grants)
older_macs [] macs = tt
older_macs (gs ∷ grants) macs = (all_map HasMac older_grant gs macs.0, older_macs grants macs.1)

pub same_older : (v : SwitchView) → IsShaped v → IsSame v (with_older v)
same_older v s =
    same_shape v (with_older v) s refl refl refl refl (length-map v.grants (map older_grant)) refl refl (older_macs v.grants s.granted) free s.sources
  where
    free : (port : ℕ) → WereGranted (grants_at (with_older v) port) (freed_at v port)
    free port =
        let long : length (grants_at (with_older v) port) ≡ length (grants_at v port) =
        ap (λ (gs : List Grant). length gs) (older_at v.grants port) ∙ length-map (grants_at v port) older_grant in
        granted_still (grants_at v port) (grants_at (with_older v) port) (freed_at v port) (omega (arith, long)) (s.free port)

ages_aging : (v : SwitchView) → IsShaped v → IsAging v (ages v)
ages_aging v s =
    let same : IsSame v (with_older v) = same_older v s in
    aging_then v (does (with_older v) (probes_idle (with_older v))) (λ w. all_age_out (to_rest w) w)
    (record { acts = subst (λ k. AreDone k (probes_idle (with_older v))) same.k (probes_done (with_older v) same.shaped); same = same })
    (λ w again. all_aging (to_rest w) w again.shaped)

done_is_said : (acts : List Act) → IsDone (frame_state Silent acts) → is_said (frame_state Silent acts) ≡ true
done_is_said acts (inl silent) = ap is_said silent
done_is_said acts (inr ended) = ended_is_said (frame_state Silent acts) ended

ages_settled : (v : SwitchView) → IsShaped v → IsSettled v (ages v)
ages_settled v s = let aging = ages_aging v s in record {
  said = done_is_said (ages v).acts (aging.acts.done Silent (inl refl));
  fit = aging.acts.fit;
  same = aging.same;
}

-- A tick.
pub accounted_tick : (choose : Choice) (v : SwitchView) → IsShaped v → IsAccountedStep choose v Tick
accounted_tick choose v s =
    settled_is_accounted v Tick (ticks v) refl (quiet_then_settled v (tells_neighbours v) ages (quiet_neighbours v s) (λ w same. ages_settled w same.shaped))

-- ---- an address is freed
at_least : (n : ℕ) → (n ≡ 0 → ⊥) → 1 ≤ n
at_least zero never = absurd (never refl)
at_least (suc n) never = omega arith

-- its vmid is one of those that were given
was_given : (grants : List Grant) (vmid : ℕ) (grant : Grant) → grant_number grants vmid ≡ Some grant → (1 ≤ vmid) × (vmid ≤ length grants)
was_given grants vmid grant is = by (vmid == 0) refl is
  where
    by : (b : Bool) → (vmid == 0) ≡ b → (if b then None else slice_get grants (vmid - 1)) ≡ Some grant → (1 ≤ vmid) × (vmid ≤ length grants)
    by true is_none got = absurd (let none : ◌≡◌ {A = Option Grant} None (Some grant) = got in cc none)
    by false other got =
        let some : 1 ≤ vmid = at_least vmid (eqb-false vmid 0 other) in
        let within : vmid - 1 < length grants = slice_get_within grants (vmid - 1) grant got in
        (some, omega (arith, some, within))

freed_settled : (v : SwitchView) (x : Pmac) (grant : Grant) (number : ℕ) → IsShaped v → granted v x ≡ Some grant →
    IsSettled v (does (becomes_free v x grant) (FreeAct x ∷ []))
freed_settled v x grant number s is =
    let got = granted_parts v x grant is in
    let mac : HasMac grant = subst (λ o. IfSome o HasMac) is (granted_has_mac v x s) in
    let at = subst (AreGrantedAt v.k x.port) is (granted_at v x s) in
    let grants : List Grant = grants_at v x.port in
    let new : List Grant = slice_set grants (x.vmid - 1) (record grant { held = Free }) in
    let long = length-set grants (x.vmid - 1) (record grant { held = Free }) in
    let given = was_given grants x.vmid grant got.1 in
    record {
      said = refl;
      fit = (at.within, tt);
      same = same_with_addresses v x.port new (freed_at v x.port ++ x.vmid ∷ []) v.used v.trapped s
          (all_set HasMac grants (x.vmid - 1) (record grant { held = Free }) (grants_have_macs v x.port s) mac)
          (granted_still grants new (freed_at v x.port ++ x.vmid ∷ []) (omega (arith, long))
          (all_append (λ vmid. (1 ≤ vmid) × (vmid ≤ length grants)) (freed_at v x.port) (x.vmid ∷ []) (s.free x.port) (given, tt)));
    }

nothing_settled : (v : SwitchView) → IsShaped v → IsSettled v (rests v)
nothing_settled v s = record { said = refl; fit = tt; same = same_self v s }

frees_at_settled : (v : SwitchView) (x : Pmac) (grant : Grant) (held : AddressUse) → IsShaped v → granted v x ≡ Some grant → IsSettled v (frees_at v x grant held)
frees_at_settled v x grant (InUse idle) s is = nothing_settled v s
frees_at_settled v x grant (Trapped trap age) s is = nothing_settled v s
frees_at_settled v x grant (Resting number) s is = freed_settled v x grant number s is
frees_at_settled v x grant Free s is = nothing_settled v s

frees_settled : (v : SwitchView) (x : Pmac) (o : Option Grant) → IsShaped v → granted v x ≡ o → IsSettled v (frees v x o)
frees_settled v x None s is = nothing_settled v s
frees_settled v x (Some grant) s is = frees_at_settled v x grant grant.held s is

pub accounted_release : (choose : Choice) (v : SwitchView) (address : Pmac) → IsShaped v → IsAccountedStep choose v (Says (Release address))
accounted_release choose v address s =
    settled_is_accounted v (Says (Release address)) (hears_manager choose v (Release address)) refl (frees_settled v address (granted v address) s refl)
