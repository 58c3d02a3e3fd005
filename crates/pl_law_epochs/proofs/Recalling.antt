-- An edge switch hears of a newer address of a host: a trap stands for the old one, which is in use no more.
use Rattle.std.proofs.Common.{◌≡◌, ◌⊎◌, ◌<◌, ◌-◌, ℕ, nat_lt, true, false, cond, set, List, [], ◌∷◌, ◌++◌, length, Option, Some, None, refl, sym, ap, subst, ◌∙◌, inl, inr, append-nil}
use Rattle.std.specs.Option.{option_map}
use Rattle.std.proofs.lemmas.Bool.{cond_both, false≢true}
use Rattle.std.proofs.lemmas.Option.{none-some, same_Some}
use Rattle.pl_frame.specs.declared.address.Ip4.{Ip4}
use Rattle.pl_frame.specs.declared.address.Mac.{Mac}
use Rattle.pl_frame.specs.declared.address.SwitchId.{SwitchId}
use Rattle.pl_pmac.specs.declared.pmac.Pmac.{Pmac}
use Rattle.pl_layouts.specs.Equality.{same_pmac}
use Rattle.pl_node.specs.AddressUses.{is_held, standing_trap}
use Rattle.pl_node.specs.declared.address_use.AddressUse.{AddressUse}
use Rattle.pl_node.specs.declared.address_use.AddressUse.TheVariants.{Free, InUse, Resting, Trapped}
use Rattle.pl_node.specs.declared.messages.ToManager.{ToManager}
use Rattle.pl_node.specs.declared.messages.ToSwitch.{ToSwitch}
use Rattle.pl_node.specs.declared.messages.ToSwitch.TheVariants as say
use Rattle.pl_node.specs.declared.switch_records.Grant.{Grant}
use Rattle.pl_node.specs.declared.trap.Trap.{Trap}
use Rattle.pl_node.specs.ManagerViews.{Recall}
use Rattle.pl_node.specs.SwitchViews.{SwitchView}
use Rattle.pl_steps.specs.Steps.{SwitchStep, does, ◌▹◌}
use Rattle.pl_switch_rule.specs.Granting.{freed_at, granted, grants_at, held_here, unless_free, with_grants}
use Rattle.pl_switch_rule.specs.Messages.{forgets_members, invalidates, probes, sets_trap, sets_trap_over, with_trap}
use Rattle.pl_switch_rule.proofs.Exports.{granted_parts}
use Rattle.pl_law_addresses.specs.FreeVmids.{AreFreeVmids}
use Rattle.pl_law_addresses.specs.OwnAddresses.{IsOwnIp}
use Rattle.pl_law_addresses.specs.EdgeAddresses.{Edge, IsGoodRecall, IsHeldFor, edge_of}
use Rattle.pl_law_addresses.proofs.Exports.{aside_does, aside_then, forgets_members_aside, held_free, LeavesAddresses, local_settled, now_at, number_set_other, number_set_same, number_within, other_turned, others_at, probes_aside, StaysTo, table_alike, table_with_grants, told_by}
use Rattle.pl_law_epochs.specs.Edges.{Registry, tenure_at}
use Rattle.pl_law_epochs.specs.Situations.{IsIn}
use Rattle.pl_law_epochs.specs.Tenures.{Tenure, Use, orders_on, use_of, words_on}
use Rattle.pl_law_epochs.specs.Tenures.Use.{Leads, Rests, Serves}
use Rattle.pl_law_epochs.proofs.Changing.{changed}
use Rattle.pl_law_epochs.proofs.Lives.{IsRecalled, obeys}
use Rattle.pl_law_epochs.proofs.Moves.{MovesBy, moves_but, moves_by_then}
use Rattle.pl_law_epochs.proofs.Rows.{Good, aside_keeps}
use Rattle.pl_law_epochs.proofs.Staying.{ordered_here, ordered_there}

-- an address that is in use, or rests, has no trap, and is somebody's
abbrev IsOpen : Use → Type 0
IsOpen use_is = (use_is ≡ Serves) ⊎ (use_is ≡ Rests 0)

open_without_trap : (h : AddressUse) → IsOpen (use_of (Some h)) → standing_trap h ≡ None
open_without_trap (InUse idle) open_use = refl
open_without_trap (Resting number) open_use = refl
open_without_trap Free open_use = refl
open_without_trap (Trapped trap age) (inl is) = absurd (cc)
open_without_trap (Trapped trap age) (inr is) = absurd (cc)

open_held : (h : AddressUse) → IsOpen (use_of (Some h)) → is_held h ≡ true
open_held (InUse idle) open_use = refl
open_held (Resting number) open_use = refl
open_held (Trapped trap age) open_use = refl
open_held Free (inl is) = absurd (cc)
open_held Free (inr is) = absurd (cc)

module _ (own : Mac → Option Ip4) (r : Registry) (id : Option SwitchId) (rest : List ToSwitch) (old new : Pmac) (number : ℕ) (ip : Option Ip4) where
  abbrev order : ToSwitch
  order = say.Invalidate old new number ip

  abbrev trap : Trap
  trap = record { new = new; number = number; ip = ip }

  abbrev to : Recall
  to = record { new = new; number = number }

  module _ (v : SwitchView) (up : List ToManager) (good : Good own r id (order ∷ rest) v up) (within : old.port < v.k) (g : Grant) (was : granted v old ≡ Some g) where
    abbrev standing : Grant
    standing = record g { held = Trapped trap 0 }

    abbrev list : List Grant
    list = set (grants_at v old.port) (old.vmid - 1) standing

    abbrev e : Edge
    e = edge_of id v up (order ∷ rest)

    -- no trap stood there, and it was somebody's
    recalled : IsRecalled r.later (tenure_at r e old) to (orders_on old rest)
    recalled =
        obeys r.later (tenure_at r e old) (good.edge.situations old (granted_parts v old g was).0) to (orders_on old rest)
        (ap (λ os. os ++ orders_on old rest) (ordered_here old new number ip))

    open_use : IsOpen (use_of (Some g.held))
    open_use = subst IsOpen (ap (λ (o : Option Grant). use_of (option_map (λ (h : Grant). h.held) o)) was) recalled.held

    sets : sets_trap v old g trap ≡ with_trap v old g trap
    sets = ap (λ (o : Option Trap). sets_trap_over o v old g trap) (open_without_trap g.held open_use)

    record IsTrappedNow : Type 0 where
      now : granted (with_grants v old.port list) old ≡ Some standing
      others : (z : Pmac) → same_pmac z old ≡ false → granted (with_grants v old.port list) z ≡ granted v z
      free : AreFreeVmids list (freed_at v old.port)

    trapped_now : IsTrappedNow
    trapped_now =
        let parts = granted_parts v old g was in
        let many : old.port < length v.grants = subst (λ n. old.port < n) (sym good.address_table.many) within in
        let some = (number_within (grants_at v old.port) old.vmid g parts.1).0 in
        record {
          now = now_at v old list many parts.0 ∙ number_set_same (grants_at v old.port) old.vmid g standing parts.1;
          others = others_at v old list many parts.0 (λ n other. number_set_other (grants_at v old.port) old.vmid n standing some other);
          free = held_free (grants_at v old.port) (freed_at v old.port) old.vmid g standing (good.address_table.free old.port) parts.1 (open_held g.held open_use) refl;
        }

    stays_to : StaysTo (λ z. granted v z) old standing
    stays_to h is held = (refl, ap (λ (q : Grant). q.amac) (same_Some g h (sym was ∙ is)))

    with_trap_good : Good own r id rest (with_trap v old g trap) (up ++ [])
    with_trap_good =
        let parts = granted_parts v old g was in
        let it = trapped_now in
        let before = good.edge.grants old g was in
        let said : IsGoodRecall own (λ z. granted v z) old ip = good.edge.orders.0 in
        let mac : said.mac ≡ g.amac = sym said.granted_to.to ∙ ap (λ (h : Grant). h.amac) (same_Some said.granted_to.grant g (sym said.granted_to.found ∙ was)) in
        let led : Leads to ≡ use_of (option_map (λ (h : Grant). h.held) (granted (with_grants v old.port list) old)) =
        ap (λ (o : Option Grant). use_of (option_map (λ (h : Grant). h.held) o)) (sym it.now) in
        let path : record (tenure_at r e old) { use_is = Leads to; orders = orders_on old rest }
        ≡ tenure_at r (record e { granted = λ z. granted (with_grants v old.port list) z; up = up ++ []; down = rest }) old =
        λ i. record (tenure_at r e old) { use_is = led i; due = ap (λ (ws : List ToManager). words_on old ws) (sym (append-nil up)) i; orders = orders_on old rest } in
        record {
          edge = changed own r e good.edge old standing (λ z. granted (with_grants v old.port list) z) [] rest parts.0 it.now it.others refl stays_to
              tt good.edge.orders.1 (λ z other. refl)
              (λ z other. sym (ap (λ os. os ++ orders_on z rest) (ordered_there old z new number ip (other_turned z old other))))
              (record {
                own_ip = before.own_ip;
                told_ip = λ loud used j is. absurd (false≢true used);
                trap_ip = λ t is. subst (λ (s : Trap). IsOwnIp own g.amac s.ip) (same_Some trap t is) (subst (λ (m : Mac). IsOwnIp own m ip) mac said.own_ip);
              })
              (subst (λ (t : Tenure). IsIn r.later t) path recalled.then_in);
          address_table = table_alike own (with_grants v old.port list) (with_trap v old g trap) refl refl refl refl refl
              (table_with_grants own v old.port list (local_settled v old parts.0) within good.address_table it.free);
        }

    -- the trap is the one of the order
    with_trap_moves : MovesBy order (λ z. granted v z) (λ z. granted (with_trap v old g trap) z)
    with_trap_moves =
        let it = trapped_now in
        let said : IsGoodRecall own (λ z. granted v z) old ip = good.edge.orders.0 in
        let mac : said.mac ≡ g.amac = sym said.granted_to.to ∙ ap (λ (h : Grant). h.amac) (same_Some said.granted_to.grant g (sym said.granted_to.found ∙ was)) in
        moves_but order (λ z. granted v z) (λ z. granted (with_trap v old g trap) z) old standing it.now it.others
        (λ m is. let still = stays_to is.grant is.found is.held in inl (record { grant = standing; found = it.now; held = still.0; to = still.1 ∙ is.to }))
        (λ t set. inr (record {
          is = ap (λ (s : Trap). say.Invalidate old s.new s.number s.ip) (same_Some trap t set);
          held = subst (IsHeldFor (λ z. granted v z) old) mac said.granted_to;
        }))

    trapped_moves : MovesBy order (λ z. granted v z) (λ z. granted (sets_trap v old g trap) z)
    trapped_moves = subst (λ (w : SwitchView). MovesBy order (λ z. granted v z) (λ z. granted w z)) (sym sets) with_trap_moves

    trapped_good : Good own r id rest (sets_trap v old g trap) (up ++ [])
    trapped_good = subst (λ (w : SwitchView). Good own r id rest w (up ++ [])) (sym sets) with_trap_good

  -- all that is done then
  pub record Invalidated (v : SwitchView) (up : List ToManager) (s : SwitchStep) : Type 0 where
    pub good : Good own r id rest s.view (up ++ told_by s.acts)
    pub place : s.view.place ≡ v.place
    pub moves : MovesBy order (λ z. granted v z) (λ z. granted s.view z)

  pub recall_good : (v : SwitchView) (up : List ToManager) → Good own r id (say.Invalidate old new number ip ∷ rest) v up → old.port < v.k →
      Invalidated v up (invalidates v old (record { new = new; number = number; ip = ip }) (held_here v old))
  recall_good v up good within = by (granted v old) refl
    where
      said : IsGoodRecall own (λ z. granted v z) old ip
      said = good.edge.orders.0

      done : (g : Grant) → granted v old ≡ Some g → Invalidated v up (invalidates v old trap (Some g))
      done g was =
          let w = sets_trap v old g trap in
          let sets = does w [] in
          let forgets = forgets_members old.port g.amac in
          let a : LeavesAddresses w (sets ▹ forgets ▹ probes old g) =
          aside_then w (sets ▹ forgets) (probes old g) (aside_then w sets forgets (aside_does w [] tt) (λ u. forgets_members_aside old.port g.amac u))
          (λ u. probes_aside old g u) in
          let kept = aside_keeps own r id rest w (sets ▹ forgets ▹ probes old g) a in
          let there = subst (λ (ts : List ToManager). Good own r id rest w ts) (append-nil up) (trapped_good v up good within g was) in
          record {
            good = kept.good up there;
            place = kept.place ∙ place_kept v g (standing_trap g.held);
            moves = moves_by_then order (λ z. granted v z) (λ z. granted w z) (λ z. granted (sets ▹ forgets ▹ probes old g).view z) (trapped_moves v up good within g was) (kept.moves up there);
          }
        where
          place_kept : (u : SwitchView) (h : Grant) (o : Option Trap) → (sets_trap_over o u old h trap).place ≡ u.place
          place_kept u h None = refl
          place_kept u h (Some t) = cond_both (nat_lt trap.number t.number) u (with_trap u old h trap) (λ (q : SwitchView). q.place ≡ u.place) (λ less. refl) (λ more. refl)

      by : (o : Option Grant) → granted v old ≡ o → Invalidated v up (invalidates v old trap (unless_free o))
      by None none = absurd (none-some said.granted_to.grant (sym none ∙ said.granted_to.found))
      by (Some g) was =
          let same : said.granted_to.grant ≡ g = same_Some said.granted_to.grant g (sym said.granted_to.found ∙ was) in
          let held : is_held g.held ≡ true = ap (λ (q : Grant). is_held q.held) (sym same) ∙ said.granted_to.held in
          subst (λ (o : Option Grant). Invalidated v up (invalidates v old trap o)) (ap (λ b. cond b (Some g) None) (sym held)) (done g was)
